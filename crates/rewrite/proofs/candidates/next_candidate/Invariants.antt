-- `rewrite::candidates::next_candidate` meets its contract. Assumes nothing.
use Rattle.rewrite.proofs.Clashing.{Passing}
use Rattle.rewrite.specs.Candidates.{ClashesAt}
use Prim.Native.Nat.{◌-◌}
use Rattle.rewrite.proofs.candidates.next_candidate.Given as goal

abbrev pub invariant-loop-first : goal.invariant-loop-first
invariant-loop-first l = Passing (ClashesAt l.pairs l.w l.end l.live) l.w l.target l.base l.from l.last l.initial.left l.node l.left

abbrev pub decreases-loop-first : goal.decreases-loop-first
decreases-loop-first l = l.last - l.node

-- `rewrite::candidates::next_start` meets its contract. Assumes nothing.
use Rattle.rewrite.proofs.Clashing.{Passing}
use Rattle.rewrite.specs.Candidates.{OtherValue}
use Prim.Native.Nat.{◌-◌}
use Rattle.rewrite.proofs.candidates.next_start.Given as goal

abbrev pub invariant-loop-node : goal.invariant-loop-node
invariant-loop-node l = Passing (OtherValue l.w l.value) l.w l.target l.base l.from l.last l.initial.left l.node l.left

abbrev pub decreases-loop-node : goal.decreases-loop-node
decreases-loop-node l = l.last - l.node

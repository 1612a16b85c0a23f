-- `rewrite::candidates::clashes_later` meets its contract. Assumes nothing.
use Rattle.rewrite.proofs.Clashing.{Clashing}
use Prim.Native.Nat.{◌-◌}
use lib.ListN.{length}
use Rattle.rewrite.proofs.candidates.clashes_later.Given as goal

abbrev pub invariant-loop-i : goal.invariant-loop-i
invariant-loop-i l = Clashing l.pairs l.part l.live l.total l.i l.p

abbrev pub decreases-loop-i : goal.decreases-loop-i
decreases-loop-i l = length l.pairs - l.i

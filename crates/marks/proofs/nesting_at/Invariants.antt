-- `marks::nesting_at` meets its contract. Assumes nothing.
use Prim.Native.Nat.{◌-◌}
use Rattle.marks.proofs.Descent.{Descent}
use Rattle.marks.proofs.nesting_at.Given as goal

abbrev pub invariant-loop-p : goal.invariant-loop-p
invariant-loop-p l = Descent l.types l.part l.q l.p l.above l.sequence l.i

abbrev pub decreases-loop-p : goal.decreases-loop-p
decreases-loop-p l = l.q - l.p

-- `marks::mark_of` meets its contract. Assumes nothing.
use Rattle.marks.proofs.Marking.{Marking}
use Prim.Native.Nat.{◌-◌, ◌≤◌}
use Rattle.marks.proofs.mark_of.Given as goal

abbrev pub invariant-loop-i : goal.invariant-loop-i
invariant-loop-i l = (l.i ≤ 255) × Marking l.types l.t l.v l.below l.size l.deepest l.at l.i

abbrev pub decreases-loop-i : goal.decreases-loop-i
decreases-loop-i l = l.count - l.i

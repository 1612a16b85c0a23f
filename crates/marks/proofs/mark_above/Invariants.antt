-- `marks::mark_above` meets its contract. Assumes nothing.
use Rattle.marks.proofs.Above.{AboveLoop}
use Prim.Native.Nat.{◌+◌, ◌*◌}
use Rattle.marks.proofs.mark_above.Given as goal

abbrev pub invariant-loop-i : goal.invariant-loop-i
invariant-loop-i l = AboveLoop l.types l.initial.w l.w l.base l.place l.top (l.base + 2 * l.i)

-- `marks::mark_tree` meets its contract. Assumes nothing.
use Rattle.marks.proofs.Laying.{TreeLoop}
use Prim.Native.Nat.{◌+◌, ◌*◌}
use Rattle.marks.proofs.mark_tree.Given as goal

abbrev pub invariant-loop-i : goal.invariant-loop-i
invariant-loop-i l = TreeLoop l.types l.initial.w l.w l.base l.top (l.base + 2 * l.i)

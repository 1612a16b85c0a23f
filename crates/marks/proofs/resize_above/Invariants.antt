-- `marks::resize_above` meets its contract. Assumes nothing.
use Rattle.marks.proofs.Resizing.{ResizeLoop}
use Prim.Native.Nat.{◌-◌}
use Rattle.marks.proofs.resize_above.Given as goal

abbrev pub invariant-loop-p : goal.invariant-loop-p
invariant-loop-p l = ResizeLoop l.initial.w l.w l.base l.place l.was l.will l.p

abbrev pub decreases-loop-p : goal.decreases-loop-p
decreases-loop-p l = l.place - l.p

-- `sequences::loosen` meets its contract. Assumes nothing.
use Prim.Native.Nat.{◌-◌}
use Rattle.sequences.proofs.Loosening.{Loosening}
use Rattle.sequences.proofs.loosen.Given as goal

abbrev pub invariant-loop-i : goal.invariant-loop-i
invariant-loop-i l = Loosening l.initial.w l.w l.base l.k l.i

abbrev pub decreases-loop-i : goal.decreases-loop-i
decreases-loop-i l = l.k - l.i

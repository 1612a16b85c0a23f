-- `sequences::collect` meets its contract. Assumes nothing.
use Rattle.sequences.proofs.Collecting.{Collecting}
use Prim.Native.Nat.{◌-◌}
use Rattle.sequences.proofs.collect.Given as goal

abbrev pub invariant-loop-i : goal.invariant-loop-i
invariant-loop-i l = Collecting l.initial.w l.w l.e l.t l.base l.k l.start l.m l.most l.nodes l.i

abbrev pub decreases-loop-i : goal.decreases-loop-i
decreases-loop-i l = l.m - l.i

-- `sequences::walk` meets its contract. Assumes nothing.
use Prim.Native.Nat.{◌-◌}
use Rattle.sequences.proofs.Walking.{Walking}
use Rattle.sequences.proofs.walk.Given as goal

abbrev pub invariant-loop-passed : goal.invariant-loop-passed
invariant-loop-passed l = Walking l.w l.base l.n l.most l.node l.passed

abbrev pub decreases-loop-passed : goal.decreases-loop-passed
decreases-loop-passed l = l.most - l.passed

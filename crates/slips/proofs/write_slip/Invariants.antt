-- `slips::write_slip` meets its contract. Assumes nothing.
use Prim.Native.Nat.{◌*◌}
use mathlib.Core.Path.{◌≡◌}
use Rattle.words.proofs.Stretches.{over}
use Rattle.slips.proofs.Copying.{slip_of}
use Rattle.slips.proofs.write_slip.Given as goal

abbrev pub invariant-loop-i : goal.invariant-loop-i
invariant-loop-i l = l.res ≡ over (slip_of l.part) l.initial.res (3 * l.i)

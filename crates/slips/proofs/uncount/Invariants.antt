-- `slips::uncount` meets its contract. Assumes nothing.
use Prim.Native.Nat.{◌*◌}
use mathlib.Core.Path.{◌≡◌}
use Rattle.words.proofs.Stretches.{over}
use Rattle.tree.specs.Slip.{uncounted}
use Rattle.slips.proofs.uncount.Given as goal

abbrev pub invariant-loop-i : goal.invariant-loop-i
invariant-loop-i l = l.buffer ≡ over (uncounted l.slip) l.initial.buffer (2 * l.i)

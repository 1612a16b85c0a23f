-- `slips::load` meets its contract. Assumes nothing.
use lib.ListN.{length}
use mathlib.Core.Path.{◌≡◌}
use Rattle.words.proofs.Stretches.{over}
use Rattle.slips.proofs.load.Given as goal

abbrev pub invariant-loop-i : goal.invariant-loop-i
invariant-loop-i l = (l.memory ≡ over l.ws l.initial.memory l.i) × (length l.memory ≡ length l.initial.memory)

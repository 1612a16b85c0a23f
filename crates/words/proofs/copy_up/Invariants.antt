-- `words::copy_up` meets its contract. Assumes nothing.
use lib.Seq.{paste}
use lib.ListN.{length, drop}
use mathlib.Core.Path.{◌≡◌}
use Rattle.words.proofs.copy_up.Given as goal

abbrev pub invariant-loop-i : goal.invariant-loop-i
invariant-loop-i l = (l.w ≡ paste l.initial.w l.to (drop l.from l.initial.w) l.i) × (length l.w ≡ length l.initial.w)

-- `rules::some_parts`: what all the parts are found to be is what those left are found to be, from where the loop stands. Assumes nothing.
use mathlib.Core.Path.{◌≡◌}
use Prim.Native.Nat.{◌-◌}
use Rattle.words.specs.Reader.{many}
use Rattle.words.specs.Views.{answer}
use Rattle.rules.specs.Layout.{part}
use Rattle.rules.proofs.some_parts.Given as goal

abbrev pub invariant-loop : goal.invariant-loop
invariant-loop l = answer (many l.k (part l.types l.ws) l.start) ≡ answer (many (l.k - l.counter) (part l.types l.ws) l.at)

-- What is read from the start is what is still to be read from here. Assumes nothing.
use Rattle.grammar.specs.Views.{seen_forms}
use Rattle.grammar.specs.Grammar.{form}
use Rattle.words.specs.Reader.{many}
use mathlib.Core.Bool.{false}
use mathlib.Core.Path.{◌≡◌}
use Prim.Native.Nat.{◌-◌}
use Rattle.grammar.proofs.forms.Given as goal

abbrev pub invariant-loop : goal.invariant-loop
invariant-loop l = seen_forms l.known false (many l.k (form l.ws l.n) l.start) ≡ seen_forms l.known l.any (many (l.k - l.counter) (form l.ws l.n) l.at)

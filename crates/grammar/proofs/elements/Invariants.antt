-- What is read from the start is what is still to be read from here. Assumes nothing.
use Rattle.grammar.specs.Views.{seen_elements}
use Rattle.grammar.specs.Grammar.{element}
use Rattle.words.specs.Reader.{many}
use mathlib.Core.Bool.{true}
use mathlib.Core.Path.{◌≡◌}
use Prim.Native.Nat.{◌-◌}
use Rattle.grammar.proofs.elements.Given as goal

abbrev pub invariant-loop : goal.invariant-loop
invariant-loop l = seen_elements l.known true (many l.k (element l.ws l.n) l.start) ≡ seen_elements l.known l.all (many (l.k - l.counter) (element l.ws l.n) l.at)

-- What is read from the start is what is still to be read from here. Assumes nothing.
use Rattle.words.specs.Views.{answer}
use Rattle.grammar.specs.Grammar.{kind}
use Rattle.words.specs.Reader.{many}
use mathlib.Core.Path.{◌≡◌}
use Prim.Native.Nat.{◌-◌}
use Rattle.grammar.proofs.kinds.Given as goal

abbrev pub invariant-loop : goal.invariant-loop
invariant-loop l = answer (many l.k (kind l.ws l.n) l.start) ≡ answer (many (l.k - l.counter) (kind l.ws l.n) l.at)

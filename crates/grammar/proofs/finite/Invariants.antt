-- After i rounds the flags are those of i rounds. Assumes nothing.
use Rattle.grammar.specs.Views.{flags_after}
use Rattle.grammar.specs.Grammar.{kind}
use Rattle.words.specs.Reader.{many}
use mathlib.Core.Path.{◌≡◌}
use Rattle.grammar.proofs.finite.Given as goal

abbrev pub invariant-loop : goal.invariant-loop
invariant-loop l = l.known ≡ flags_after l.counter (many l.n (kind l.ws l.n) l.start)

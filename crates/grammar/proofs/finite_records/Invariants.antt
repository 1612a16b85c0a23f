-- What is checked from the start is what is still to be checked from here. Assumes nothing.
use Rattle.words.specs.Views.{answer}
use Rattle.grammar.specs.Grammar.{finite_records}
use lib.ListN.{take, drop}
use mathlib.Core.Path.{◌≡◌}
use Rattle.grammar.proofs.finite_records.Given as goal

abbrev pub invariant-loop-t : goal.invariant-loop-t
invariant-loop-t l = answer (finite_records l.ws l.n (take l.n l.known) l.start) ≡ answer (finite_records l.ws l.n (drop l.t (take l.n l.known)) l.at)

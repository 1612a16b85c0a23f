-- What the round gives from the start is what it gives from here. Assumes nothing.
use Rattle.grammar.specs.Views.{filled}
use Rattle.grammar.specs.Grammar.{kind}
use Rattle.words.specs.Reader.{many}
use mathlib.Core.Bool.{false}
use mathlib.Core.Path.{◌≡◌}
use Prim.Native.Nat.{◌-◌}
use lib.ListN.{replicate}
use Rattle.grammar.proofs.round.Given as goal

abbrev pub invariant-loop-t : goal.invariant-loop-t
invariant-loop-t l = filled l.known (replicate 64 false) 0 (many l.n (kind l.ws l.n) l.start) ≡ filled l.known l.flags l.t (many (l.n - l.t) (kind l.ws l.n) l.at)

-- What is read from the start is what is still to be read from here. Assumes nothing.
use mathlib.Core.Path.{◌≡◌}
use Prim.Native.Nat.{◌-◌}
use Rattle.words.specs.Views.{answer}
use Rattle.words.specs.Reader.{many}
use Rattle.convert.specs.Table.{named}
use Rattle.convert.proofs.table.numbers.Given as goal

abbrev pub invariant-loop : goal.invariant-loop
invariant-loop l = answer (many l.k (named l.table l.n) l.start) ≡ answer (many (l.k - l.counter) (named l.table l.n) l.at)

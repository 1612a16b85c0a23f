-- `book::read_layout`: what the whole book is found to be is what is found of the rules left and the end, from where the reader stands. Assumes nothing.
use mathlib.Core.Path.{◌≡◌}
use Prim.Native.Nat.{◌-◌}
use Rattle.words.specs.Views.{answer}
use Rattle.rules.specs.Layout.{read_layout}
use Rattle.book.proofs.Whole.{rest}
use Rattle.book.proofs.read_layout.Given as goal

abbrev pub invariant-loop : goal.invariant-loop
invariant-loop l = (l.reader.words.now ≡ l.ws) × (answer (read_layout l.types l.ws) ≡ rest l.types l.ws (l.rules - l.counter) l.reader.at)

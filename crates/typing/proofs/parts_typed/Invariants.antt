-- `typing::parts_typed`: what all the parts are found to be is what those left are found to be, from where the loop stands. Assumes nothing.
use Prim.Native.Nat.{◌-◌}
use mathlib.Core.Path.{◌≡◌}
use Rattle.judgement.specs.Typing.{parts_typed}
use Rattle.pairs.specs.Views.{OfWholeBook}
use Rattle.typing.proofs.parts_typed.Given as goal

abbrev pub invariant-loop : goal.invariant-loop
invariant-loop l = OfWholeBook l.book (λ g rules. parts_typed g rules l.book.words.now l.k l.initial.known l.start ≡ parts_typed g rules l.book.words.now (l.k - l.counter) l.known l.at)

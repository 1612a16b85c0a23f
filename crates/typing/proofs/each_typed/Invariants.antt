-- `typing::each_typed`: what all the rules are found to be is what those left are found to be, from where the loop stands, and the layout of those left passes. Assumes nothing.
use Prim.Native.Nat.{◌-◌}
use lib.ListN.{get_or}
use mathlib.Core.Bool.{true}
use mathlib.Core.Path.{◌≡◌}
use Rattle.words.specs.Reader.{many, accepted}
use Rattle.words.specs.Views.{answer}
use Rattle.rules.specs.Layout.{rule}
use Rattle.judgement.specs.Typing.{rule_typed}
use Rattle.pairs.specs.Views.{OfWholeBook}
use Rattle.typing.proofs.each_typed.Given as goal

abbrev pub invariant-loop : goal.invariant-loop
invariant-loop l = record {
  there : accepted (many (get_or l.book.words.now 0 0 - l.counter) (rule l.book.types.now.types.count l.book.words.now) l.at) ≡ true;
  same : OfWholeBook l.book (λ g rules. answer (many (get_or l.book.words.now 0 0) (rule_typed g rules l.book.words.now) 1) ≡ answer (many (get_or l.book.words.now 0 0 - l.counter) (rule_typed g rules l.book.words.now) l.at));
}

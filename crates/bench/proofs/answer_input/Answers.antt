-- `bench::answer_input` meets its contract. Assumes nothing.
use Rattle.bench.proofs.ReadingOn.{answers_input}
use borrow.Author.Rules.{rules}
use lib.ListN.{length}
use mathlib.Core.Path.{◌≡◌, ◌∙◌}
use Rattle.bench.proofs.answer_input.Goals as goal

pub returns : goal.returns
returns c = let a : length c.args.numbers.now ≡ 26631 = search (rules, c.well_formed) in answers_input _ _ c.args.numbers.now _ _ _ c.first.ensures a (c.read_on-read.auto.numbers ∙ a) c.read_on-read.ensures c.answer_whole.ensures

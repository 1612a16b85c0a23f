-- `bench::answer_whole` meets its contract. Assumes nothing.
use Rattle.bench.proofs.Answering.{answers_whole, answers_text}
use borrow.Author.Rules.{rules}
use lib.ListN.{length}
use mathlib.Core.Path.{◌≡◌}
use Rattle.bench.proofs.answer_whole.Goals as goal

pub returns : goal.returns
returns c = let a : length c.args.res.now ≡ 6144 = search (rules, c.well_formed) in let b : length c.args.work.now ≡ 16384 = search (rules, c.well_formed) in let n : length c.args.out.now ≡ 129200 = search (rules, c.well_formed) in let k : length c.args.numbers.now ≡ 26631 = search (rules, c.well_formed) in answers_text _ _ _ _ k (answers_whole _ _ _ _ _ _ a b n c.answer.ensures)

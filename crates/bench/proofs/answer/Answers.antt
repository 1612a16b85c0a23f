-- `bench::answer` meets its contract. Assumes nothing.
use borrow.Author.Rules.{rules}
use Rattle.bench.proofs.Answering.{none_answers, between_input, no_input}
use Rattle.decimal.specs.Input.{input_at}
use Rattle.tamarind.specs.Run.{memories}
use lib.ListN.{take}
use Rattle.bench.proofs.answer.Goals as goal

pub returns-in-Between : goal.returns-in-Between
returns-in-Between c = rw (between_input c.args.read.place c.args.numbers.now c.args.read.count _ c.in-Between.is c.min-count.ensures) (search rules)

pub returns-in-Unread : goal.returns-in-Unread
returns-in-Unread c = none_answers (input_at c.args.read.place (take c.args.read.count c.args.numbers.now)) (memories c.args.res.now c.args.work.now) c.args.out.now _ _ (no_input c.args.read.place (take c.args.read.count c.args.numbers.now) c.in-Unread.is) c.print_unread.ensures

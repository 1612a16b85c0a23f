-- `bench::answer_numbers` meets its contract. Assumes nothing.
use Rattle.bench.proofs.Answering.{none_answers}
use Rattle.decimal.specs.Input.{input}
use Rattle.tamarind.specs.Run.{memories}
use mathlib.Core.Path.{sym}
use Rattle.bench.proofs.answer_numbers.Goals as goal

pub returns-in-Some : goal.returns-in-Some
returns-in-Some c = rw (← c.in-Some.ensures) c.run_parts.ensures

pub returns-in-None : goal.returns-in-None
returns-in-None c = none_answers (input c.args.numbers.now) (memories c.args.res.now c.args.work.now) c.args.out.now _ _ (sym c.in-None.ensures) c.print_unread.ensures

-- `decimal::input::part` meets its contract. Assumes nothing.
use Rattle.decimal.proofs.Parting.{part_empty, part_over, part_found}
use Rattle.decimal.proofs.input.part.Goals as goal

pub returns-in_err-first : goal.returns-in_err-first
returns-in_err-first c = part_empty c.args.most c.args.numbers.now c.in_err-first.ensures.cases c.from_residual.ensures

pub returns-then-most-count : goal.returns-then-most-count
returns-then-most-count c = part_over c.args.most _ c.args.numbers.now _ c.in_ok-first.ensures.cases.0 c.if-most-count.true

pub returns : goal.returns
returns c = part_found c.args.most _ c.args.numbers.now _ c.in_ok-first.ensures.cases.0 c.if-most-count.false _ c.split_at_checked.ensures.cases

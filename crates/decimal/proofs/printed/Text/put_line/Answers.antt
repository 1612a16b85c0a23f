-- `decimal::printed::Text::put_line` meets its contract. Assumes nothing.
use Rattle.decimal.proofs.Growing.{grows_line, grows_line_end}
use Rattle.decimal.proofs.printed.Text.put_line.Goals as goal
use Rattle.decimal.proofs.printed.Text.put_line.Goals.{in-Some, in_default}

pub returns : goal.returns
returns c = elim c.match-split_first.branch [
  | in-Some w ↦ grows_line c.args.numbers.now _ w.in-Some.ensures.cases.0 w.put_digits.ensures w.put_all_spaced.ensures (rw w.self-is at c.put.ensures)
  | in_default w ↦ grows_line_end c.args.numbers.now w.in_default.ensures.cases w.self-is c.put.ensures
]

use Rattle.decimal.proofs.Growing.{grows_digits, grows_digit}
use Rattle.decimal.proofs.printed.Text.+put_digits.Goals as goal
use Rattle.decimal.proofs.printed.Text.+put_digits.Goals.{then-n-ge10, else-n-ge10}

pub returns : goal.returns
returns t c = elim c.if-n-ge10.branch [
  | then-n-ge10 w ↦ grows_digits c.args.n c.ranges.n.fits w.if-n-ge10.true w.put_digits.ensures (rw w.self-is at c.put.ensures)
  | else-n-ge10 w ↦ grows_digit c.args.n w.if-n-ge10.false w.self-is c.put.ensures
]

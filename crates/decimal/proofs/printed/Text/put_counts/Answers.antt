-- `decimal::printed::Text::put_counts` meets its contract. Assumes nothing.
use Rattle.decimal.proofs.Growing.{grows_both}
use Rattle.decimal.specs.Printed.{counts}
use Rattle.decimal.proofs.printed.Text.put_counts.Goals as goal

pub returns : goal.returns
unfolding counts
returns c = grows_both c.put_spaced.ensures (grows_both c.put_spaced-2.ensures (grows_both c.put_spaced-3.ensures (grows_both c.put.ensures c.put_line.ensures)))

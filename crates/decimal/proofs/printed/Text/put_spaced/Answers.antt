-- `decimal::printed::Text::put_spaced` meets its contract. Assumes nothing.
use Rattle.decimal.proofs.Growing.{grows_both}
use Rattle.decimal.proofs.printed.Text.put_spaced.Goals as goal

pub returns : goal.returns
returns c = grows_both c.put.ensures c.put_digits.ensures

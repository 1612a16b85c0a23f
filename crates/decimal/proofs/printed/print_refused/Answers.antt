-- `decimal::printed::print_refused` meets its contract. Assumes nothing.
use Rattle.decimal.proofs.Growing.{grows_put, grows_both}
use borrow.Author.Rules.{rules}
use Rattle.decimal.specs.Printed.{printed}
use Rattle.decimal.proofs.printed.print_refused.Goals as goal

pub returns : goal.returns
unfolding printed
returns c = grows_put c.new-text.ensures.end c.new-text.ensures.bytes (grows_both c.put_text.ensures (grows_both c.put_spaced.ensures (grows_both c.put_spaced-2.ensures c.put.ensures))) (search rules)

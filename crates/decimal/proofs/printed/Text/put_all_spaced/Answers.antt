use Rattle.decimal.proofs.Growing.{grows_nothing, grows_number}
use Rattle.decimal.specs.Printed.{all_spaced}
use Rattle.decimal.proofs.printed.Text.put_all_spaced.Goals as goal

pub loop-number-init : goal.loop-number-init
unfolding all_spaced
loop-number-init c = grows_nothing c.args.self.now

pub loop-number-preserved : goal.loop-number-preserved
loop-number-preserved c = grows_number c.args.numbers.now c.loop-number.number-index c.loop-number-test.true c.loop-number.invariant c.put_spaced.ensures

use Rattle.convert.proofs.Writing.{value_form, value_kept}
use Rattle.convert.proofs.value_to.Goals as goal

pub returns-then-bit-eq8 : goal.returns-then-bit-eq8
returns-then-bit-eq8 c = value_form c.args.table.now c.args.t c.args.v c.bit.ensures c.if-bit-eq8.true c.form_to.ensures

pub returns-else-bit-eq8 : goal.returns-else-bit-eq8
returns-else-bit-eq8 c = value_kept c.args.table.now c.args.t c.args.v c.bit.ensures c.if-bit-eq8.false

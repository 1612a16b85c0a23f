use Rattle.convert.proofs.Fitting.{type_misfit, type_whole}
use native.Mathlib.Omega.{arith}
use Rattle.convert.proofs.table.Table.type_fits.Goals as goal

pub returns-then-v-k : goal.returns-then-v-k
returns-then-v-k c = rw c.new-then-v-k.ensures (type_misfit c.args.t c.args.at _ c.type_to-m.ensures _ c.alike.ensures c.if-not-alike.false _ c.form_count-k.ensures _ c.first_misfit-v.ensures c.if-v-k.true)

pub returns : goal.returns
returns c = type_whole c.args.t c.args.at _ c.type_to-m.ensures _ c.alike.ensures c.if-not-alike.false _ c.form_count-k.ensures _ c.first_misfit-v.ensures c.if-v-k.false (omega arith) c.requires.1

use native.Mathlib.Omega.{arith}
use Rattle.tables.proofs.Filling.{record_inside, values_forms, values_number, values_name, values_two}
use Rattle.tables.proofs.value_count.Goals as goal

pub overflow_add-at : goal.overflow_add-at
overflow_add-at c = omega (arith, record_inside c.args.ws.now c.args.at c.requires)

pub returns-in-1 : goal.returns-in-1
returns-in-1 c = values_number c.args.ws.now c.args.at c.requires _ _ c.word-map.ensures c.word-field.ensures c.in-1.is c.if-field-eq2.true

pub returns-in-1-2 : goal.returns-in-1-2
returns-in-1-2 c = values_name c.args.ws.now c.args.at c.requires _ _ c.word-map.ensures c.word-field.ensures c.in-1.is c.if-field-eq2.false

pub returns-in-8 : goal.returns-in-8
returns-in-8 c = values_forms c.args.ws.now c.args.at c.requires _ _ c.word-map.ensures c.word-field.ensures c.in-8.is

pub returns-in_default : goal.returns-in_default
returns-in_default c = values_two c.args.ws.now c.args.at c.requires _ _ c.word-map.ensures c.word-field.ensures (λ e. omega (arith, e)) (λ e. omega (arith, e))

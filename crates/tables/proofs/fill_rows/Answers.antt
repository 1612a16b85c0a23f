use native.Mathlib.Omega.{arith}
use mathlib.Core.Path.{refl}
use Rattle.tables.proofs.Filling.{record_inside, record_forms, record_opt, record_sequence, put_forms, put_token, put_opt, put_sequence}
use Rattle.tables.proofs.fill_rows.Goals as goal

pub overflow_add-at : goal.overflow_add-at
overflow_add-at c = omega (arith, record_inside c.args.ws.now c.args.at c.requires.2)

pub put-requires-in-2 : goal.put-requires-in-2
put-requires-in-2 c = (omega (arith, c.requires.0), omega (arith, record_opt c.args.ws.now c.args.at c.requires.2 _ _ c.word-map.ensures c.word-field.ensures c.in-2.is c.requires.1))

pub fill_forms-requires : goal.fill_forms-requires
fill_forms-requires c = let f = record_forms c.args.ws.now c.args.at c.requires.2 _ _ c.word-map.ensures c.word-field.ensures c.in-8.is in (c.requires.0, f.0, c.requires.1, f.1)

pub put-requires-in_default-2 : goal.put-requires-in_default-2
put-requires-in_default-2 c = (omega (arith, c.requires.0), omega (arith, record_sequence c.args.ws.now c.args.at c.requires.2 _ _ c.word-map.ensures c.word-field.ensures (λ e. omega (arith, e)) (λ e. omega (arith, e)) (λ e. omega (arith, e)) c.requires.1))

pub overflow_add-result-in_default : goal.overflow_add-result-in_default
overflow_add-result-in_default c = omega (arith, record_inside c.args.ws.now c.args.at c.requires.2)

pub returns-in-1 : goal.returns-in-1
returns-in-1 c = put_token c.args.ws.now c.args.at c.requires.2 _ _ c.word-map.ensures c.word-field.ensures c.in-1.is c.args.t c.args.rows.now

pub returns-in-2 : goal.returns-in-2
returns-in-2 c = put_opt c.args.ws.now c.args.at c.requires.2 _ _ c.word-map.ensures c.word-field.ensures c.in-2.is c.args.t _ _ c.args.rows.now _ _ (omega arith) refl c.put.ensures c.put-in-2.ensures

pub returns-in-8 : goal.returns-in-8
returns-in-8 c = put_forms c.args.ws.now c.args.at c.requires.2 _ _ c.word-map.ensures c.word-field.ensures c.in-8.is c.args.t _ c.args.rows.now _ c.fill_forms.ensures

pub returns-in_default : goal.returns-in_default
returns-in_default c = put_sequence c.args.ws.now c.args.at c.requires.2 _ _ c.word-map.ensures c.word-field.ensures (λ e. omega (arith, e)) (λ e. omega (arith, e)) (λ e. omega (arith, e)) c.args.t _ _ c.args.rows.now _ _ _ (omega arith) refl c.put-in_default.ensures c.put-in_default-2.ensures c.put-in_default-3.ensures

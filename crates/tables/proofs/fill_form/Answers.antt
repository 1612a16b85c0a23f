use Rattle.tables.proofs.Filling.{form_start, form_inside, form_element, form_more, form_end}
use Prim.Native.Nat.{◌-◌, ◌<◌, ◌≤◌}
use native.Mathlib.Omega.{arith}
use Rattle.tables.proofs.fill_form.Goals as goal

pub overflow_add-p : goal.overflow_add-p
overflow_add-p c = omega (arith, form_inside c.args.ws.now c.args.at c.requires.2)

pub loop-init : goal.loop-init
loop-init c = (_, omega arith, form_start c.args.ws.now c.args.at c.args.base c.args.rows.now _ c.requires.2 c.word-count.ensures)

pub put_element-m-requires : goal.put_element-m-requires
put_element-m-requires c = let some : 0 < c.loop.invariant.0 = omega (arith, c.loop-test.true, c.loop.invariant.1) in let f = form_element _ _ _ _ _ _ _ _ c.loop.invariant.2 some c.requires.1 _ c.word.ensures in (c.requires.0, omega (arith, c.loop.invariant.2.room, c.loop-test.true, c.loop.invariant.1), f.0)

pub overflow_add-p-in-loop : goal.overflow_add-p-in-loop
overflow_add-p-in-loop c = let some : 0 < c.loop.invariant.0 = omega (arith, c.loop-test.true, c.loop.invariant.1) in let f = form_element _ _ _ _ _ _ _ _ c.loop.invariant.2 some c.requires.1 _ c.word.ensures in omega (arith, f.1)

pub loop-preserved : goal.loop-preserved
loop-preserved c = let some : 0 < c.loop.invariant.0 = omega (arith, c.loop-test.true, c.loop.invariant.1) in (c.loop.invariant.0 - 1, omega (arith, c.loop.invariant.1, some), form_more _ _ _ _ _ _ _ _ c.loop.invariant.2 some _ _ _ c.word.ensures c.put_element-m.ensures)

pub put-requires : goal.put-requires
put-requires c = (omega (arith, c.requires.0), omega (arith, c.loop.invariant.2.room))

pub returns : goal.returns
returns c = let none : c.loop.invariant.0 ≤ 0 = omega (arith, c.loop-test.false, c.loop.invariant.1) in form_end _ _ _ _ _ _ _ _ c.loop.invariant.2 none _ c.put.ensures

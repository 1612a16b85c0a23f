use Rattle.tables.proofs.Shown.{accepted_decoded, fill_start, filled_tables}
use Rattle.tables.proofs.Filling.{fill_record, fill_more, fill_end, record_map}
use Prim.Native.Nat.{◌-◌, ◌<◌, ◌≤◌}
use native.Mathlib.Omega.{arith}
use mathlib.Core.Path.{refl}
use Rattle.tables.proofs.fill.Goals as goal

pub loop-t-init : goal.loop-t-init
loop-t-init c = (_, omega arith, fill_start c.args.ws.now _ c.args.heads.now c.args.rows.now _ (accepted_decoded c.args.ws.now c.requires.0) c.word-count.ensures)

pub bounds-heads-t : goal.bounds-heads-t
bounds-heads-t c = omega (arith, c.loop-t.invariant.2.count, c.loop-t.invariant.2.few, c.loop-t-test.true, c.loop-t.invariant.1)

pub value_count-requires : goal.value_count-requires
value_count-requires c = let some : 0 < c.loop-t.invariant.0 = omega (arith, c.loop-t-test.true, c.loop-t.invariant.1) in fill_record _ _ _ _ _ _ _ _ _ c.loop-t.invariant.2 some

pub bounds-heads-t-in-loop-t : goal.bounds-heads-t-in-loop-t
bounds-heads-t-in-loop-t c = omega (arith, c.loop-t.invariant.2.count, c.loop-t.invariant.2.few, c.loop-t-test.true, c.loop-t.invariant.1)

pub fill_rows-at-requires : goal.fill_rows-at-requires
fill_rows-at-requires c = let some : 0 < c.loop-t.invariant.0 = omega (arith, c.loop-t-test.true, c.loop-t.invariant.1) in (omega (arith, c.loop-t.invariant.2.count, c.loop-t.invariant.2.few, c.loop-t-test.true, c.loop-t.invariant.1), c.loop-t.invariant.2.few, fill_record _ _ _ _ _ _ _ _ _ c.loop-t.invariant.2 some)

pub loop-t-preserved : goal.loop-t-preserved
loop-t-preserved c = let some : 0 < c.loop-t.invariant.0 = omega (arith, c.loop-t-test.true, c.loop-t.invariant.1) in (c.loop-t.invariant.0 - 1, omega (arith, c.loop-t.invariant.1, some), fill_more _ _ _ _ _ _ _ _ _ c.loop-t.invariant.2 some _ _ _ _ _ _ (record_map c.args.ws.now c.loop-t.at (fill_record _ _ _ _ _ _ _ _ _ c.loop-t.invariant.2 some) _ _ c.word.ensures refl) c.value_count.ensures refl refl c.fill_rows-at.ensures)

pub returns : goal.returns
returns c = let none : c.loop-t.invariant.0 ≤ 0 = omega (arith, c.loop-t-test.false, c.loop-t.invariant.1) in let e = fill_end _ _ _ _ _ _ _ _ _ c.loop-t.invariant.2 none in filled_tables c.args.ws.now _ c.args.heads.now c.args.rows.now _ _ (accepted_decoded c.args.ws.now c.requires.0) c.requires.1 c.requires.2 e.1 e.0

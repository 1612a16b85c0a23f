use Rattle.tables.proofs.Filling.{forms_start, forms_form, forms_more, forms_end}
use Prim.Native.Nat.{◌-◌, ◌<◌, ◌≤◌}
use native.Mathlib.Omega.{arith}
use mathlib.Core.Path.{refl}
use Rattle.tables.proofs.fill_forms.Goals as goal

pub loop-v-init : goal.loop-v-init
loop-v-init c = (_, omega arith, forms_start c.args.ws.now c.args.t c.args.k c.args.start c.args.rows.now c.requires.3)

pub fill_form-at-requires : goal.fill_form-at-requires
fill_form-at-requires c = let some : 0 < c.loop-v.invariant.0 = omega (arith, c.loop-v-test.true, c.loop-v.invariant.1) in (omega (arith, c.loop-v.invariant.2.count, c.requires.0, c.requires.1, c.loop-v-test.true, c.loop-v.invariant.1), c.requires.2, forms_form _ _ _ _ _ _ _ _ _ c.loop-v.invariant.2 some)

pub loop-v-preserved : goal.loop-v-preserved
loop-v-preserved c = let some : 0 < c.loop-v.invariant.0 = omega (arith, c.loop-v-test.true, c.loop-v.invariant.1) in (c.loop-v.invariant.0 - 1, omega (arith, c.loop-v.invariant.1, some), forms_more _ _ _ _ _ _ _ _ _ c.loop-v.invariant.2 some _ _ _ refl c.fill_form-at.ensures)

pub returns : goal.returns
returns c = let none : c.loop-v.invariant.0 ≤ 0 = omega (arith, c.loop-v-test.false, c.loop-v.invariant.1) in forms_end _ _ _ _ _ _ _ _ _ c.loop-v.invariant.2 none

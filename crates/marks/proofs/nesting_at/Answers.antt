use mathlib.Core.Path.{refl}
use native.Mathlib.Omega.{arith}
use Rattle.marks.proofs.Descent.{descent_start, descent_none, descent_over, descent_into, descent_end}
use Rattle.marks.proofs.nesting_at.Goals as goal

pub loop-p-init : goal.loop-p-init
loop-p-init c = descent_start c.args.types.now c.args.part.now c.args.q c.requires

pub returns-then-n-eq0 : goal.returns-then-n-eq0
returns-then-n-eq0 c = (descent_none c.args.types.now c.args.part.now c.args.q c.loop-p.p c.loop-p.above c.loop-p.sequence c.loop-p.i c.loop-p.invariant _ c.size_in-n.result refl c.size_in-n.ensures.0 c.if-n-eq0.true, omega arith)

pub loop-p-preserved-then-end-q : goal.loop-p-preserved-then-end-q
loop-p-preserved-then-end-q c = descent_over c.args.types.now c.args.part.now c.args.q c.loop-p.p c.loop-p.above c.loop-p.sequence c.loop-p.i c.loop-p.invariant _ c.size_in-n.result refl c.size_in-n.ensures.0 c.if-n-eq0.false c.if-end-q.true

pub loop-p-preserved : goal.loop-p-preserved
loop-p-preserved c = descent_into c.args.types.now c.args.part.now c.args.q c.loop-p.p c.loop-p.above c.loop-p.sequence c.loop-p.i c.loop-p.invariant _ c.size_in-n.result _ _ _ refl c.size_in-n.ensures.0 c.type_in.ensures c.is_sequence-sequence.ensures c.loop-p-test.true (omega (arith, c.if-end-q.false)) c.level-above.ensures.0 c.level-above.ensures.1

pub returns : goal.returns
returns c = (descent_end c.args.types.now c.args.part.now c.args.q c.loop-p.p c.loop-p.above c.loop-p.sequence c.loop-p.i c.loop-p.invariant (omega (arith, c.loop-p-test.false)) _ c.level.ensures.0, omega (arith, c.loop-p.invariant.near, c.loop-p.invariant.shallow, c.level.ensures.1))

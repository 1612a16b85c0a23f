use Rattle.marks.proofs.Resizing.{resize_start, resize_none, resize_over, resize_into, resize_end}
use native.Mathlib.Omega.{arith}
use Rattle.marks.proofs.resize_above.Goals as goal

pub loop-p-init : goal.loop-p-init
loop-p-init c = resize_start c.args.w.now c.args.base c.args.place c.args.was c.args.will c.requires.0

pub bounds-w-p : goal.bounds-w-p
bounds-w-p c = omega (arith, c.loop-p.invariant.long, c.requires.1, c.loop-p-test.true)

pub shape_of-w-then-n-eq0 : goal.shape_of-w-then-n-eq0
shape_of-w-then-n-eq0 c = c.loop-p.invariant.long

pub returns-then-n-eq0 : goal.returns-then-n-eq0
returns-then-n-eq0 c = resize_none c.args.w.now c.loop-p.w c.args.base c.args.place c.args.was c.args.will c.loop-p.p c.loop-p.invariant c.loop-p-test.true c.requires.1 _ c.size_in-n.ensures.0 c.if-n-eq0.true

pub loop-p-preserved-then-end-place : goal.loop-p-preserved-then-end-place
loop-p-preserved-then-end-place c = resize_over c.args.w.now c.loop-p.w c.args.base c.args.place c.args.was c.args.will c.loop-p.p c.loop-p.invariant c.loop-p-test.true c.requires.1 _ c.size_in-n.ensures.0 c.if-end-place.true

pub bounds-w-p-else-end-place : goal.bounds-w-p-else-end-place
bounds-w-p-else-end-place c = omega (arith, c.loop-p.invariant.long, c.requires.1, c.loop-p-test.true)

pub bounds-w-p-else-end-place-2 : goal.bounds-w-p-else-end-place-2
bounds-w-p-else-end-place-2 c = omega (arith, c.loop-p.invariant.long, c.requires.1, c.loop-p-test.true)

pub loop-p-preserved : goal.loop-p-preserved
loop-p-preserved c = resize_into c.args.w.now c.loop-p.w c.args.base c.args.place c.args.was c.args.will c.loop-p.p c.loop-p.invariant c.loop-p-test.true c.requires.1 _ _ c.size_in-n.ensures.0 (omega (arith, c.if-end-place.false)) c.requires.2 c.requires.3 c.resized.ensures

pub shape_of-w : goal.shape_of-w
shape_of-w c = c.loop-p.invariant.long

pub returns : goal.returns
returns c = resize_end c.args.w.now c.loop-p.w c.args.base c.args.place c.args.was c.args.will c.loop-p.p c.loop-p.invariant (omega (arith, c.loop-p-test.false))

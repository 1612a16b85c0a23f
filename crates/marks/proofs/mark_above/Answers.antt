use Rattle.marks.proofs.Above.{above_skip, above_end}
use Rattle.marks.proofs.Spans.{mark_start, mark_more}
use Rattle.marks.specs.Post.{Kept}
use native.Mathlib.Omega.{arith}
use Rattle.marks.proofs.mark_above.Goals as goal

pub loop-i-init : goal.loop-i-init
loop-i-init c = mark_start (λ g ws. Kept g c.args.w.now c.args.base c.args.place ws) c.args.types.now c.args.w.now c.args.base c.args.place c.args.top c.requires.0

pub loop-i-preserved-then-place-end : goal.loop-i-preserved-then-place-end
loop-i-preserved-then-place-end c = mark_more (λ g ws. Kept g c.args.w.now c.args.base c.args.place ws) c.args.types.now c.args.w.now c.loop-i.w c.args.base c.args.place c.args.top _ c.loop-i.invariant c.requires.1 c.requires.2 (omega (arith, c.loop-i-test.true)) _ (omega (arith, c.loop-i-test.true)) _ c.mark_node.ensures

pub loop-i-preserved : goal.loop-i-preserved
loop-i-preserved c = above_skip c.args.types.now c.args.w.now c.loop-i.w c.args.base c.args.place c.args.top _ c.loop-i.invariant c.requires.1 c.requires.2 (omega (arith, c.loop-i-test.true)) _ (omega (arith, c.loop-i-test.true)) (omega (arith, c.if-place-end.false, c.size_in.ensures.0))

pub returns : goal.returns
returns c = above_end c.args.types.now c.args.w.now c.loop-i.w c.args.base c.args.place c.args.top _ c.loop-i.invariant c.requires.1 c.requires.2 (omega (arith, c.loop-i-test.false))

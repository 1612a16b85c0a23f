use Rattle.marks.proofs.Spans.{mark_start, mark_more}
use Rattle.marks.proofs.Laying.{tree_skip, tree_end}
use Rattle.marks.specs.Post.{span}
use Rattle.marks.specs.Marked.{UnderWay}
use native.Mathlib.Omega.{arith}
use mathlib.Core.Path.{◌∙◌}
use Rattle.marks.proofs.mark_tree.Goals as goal

pub loop-i-init : goal.loop-i-init
loop-i-init c = mark_start (λ g ws. UnderWay g (span c.args.w.now c.args.base c.args.top) ws) c.args.types.now c.args.w.now c.args.base c.args.top c.args.top c.requires.0

pub loop-i-preserved-then-size_in-eq0 : goal.loop-i-preserved-then-size_in-eq0
loop-i-preserved-then-size_in-eq0 c = mark_more (λ g ws. UnderWay g (span c.args.w.now c.args.base c.args.top) ws) c.args.types.now c.args.w.now c.loop-i.w c.args.base c.args.top c.args.top _ c.loop-i.invariant (omega arith) c.requires.1 (omega (arith, c.loop-i-test.true)) _ (omega (arith, c.loop-i-test.true)) _ c.mark_node.ensures

pub loop-i-preserved : goal.loop-i-preserved
loop-i-preserved c = tree_skip c.args.types.now c.args.w.now c.loop-i.w c.args.base c.args.top _ c.loop-i.invariant c.requires.1 (omega (arith, c.loop-i-test.true)) _ (omega (arith, c.loop-i-test.true)) (λ z. c.if-size_in-eq0.false (c.size_in.ensures.0 ∙ z))

pub returns : goal.returns
returns c = tree_end c.args.types.now c.args.w.now c.loop-i.w c.args.base c.args.top _ c.loop-i.invariant c.requires.1 (omega (arith, c.loop-i-test.false))

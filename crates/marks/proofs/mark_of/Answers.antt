use Rattle.marks.proofs.Marking.{marking_start, marking_more, marking_end}
use native.Mathlib.Omega.{arith}
use Rattle.marks.proofs.mark_of.Goals as goal

pub loop-i-init : goal.loop-i-init
loop-i-init c = (omega arith, marking_start c.args.types.now c.args.t c.args.v c.args.below.now)

pub loop-i-preserved : goal.loop-i-preserved
loop-i-preserved c = (omega (arith, c.child_count-count.ensures.small, c.loop-i-test.true), marking_more c.args.types.now c.args.t c.args.v c.args.below.now c.loop-i.size c.loop-i.deepest c.loop-i.at c.loop-i.i c.loop-i.invariant.1 _ _ c.child_count-count.ensures c.is_sequence-sequence.ensures c.loop-i-test.true _ _ _ _ _ c.word-w.ensures c.size_in-n.ensures c.nesting_in.ensures c.level.ensures.0 c.level.ensures.1 c.max-deepest.ensures)

pub returns : goal.returns
returns c = marking_end c.args.types.now c.args.t c.args.v c.args.below.now c.loop-i.size c.loop-i.deepest c.loop-i.at c.loop-i.i c.loop-i.invariant.1 _ _ c.child_count-count.ensures c.is_sequence-sequence.ensures c.loop-i-test.false _ c.pack.ensures

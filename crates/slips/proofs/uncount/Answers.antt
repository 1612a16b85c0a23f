use Rattle.slips.proofs.Copying.{uncount_end}
use Rattle.slips.proofs.uncount.Goals as goal

pub returns : goal.returns
returns c = uncount_end c.args.slip.now c.args.buffer.now c.loop-i.buffer c.loop-i.i c.loop-i.invariant c.requires c.loop-i.auto.i-end c.loop-i-test.false

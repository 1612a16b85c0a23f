-- `words::copy_up` meets its contract. Assumes nothing.
use lib.ListN.{length-set}
use Rattle.words.proofs.Stretches.{up_turn}
use Rattle.words.proofs.copy_up.Goals as goal

pub loop-i-preserved : goal.loop-i-preserved
loop-i-preserved c = (rw c.loop-i.invariant.0 (up_turn c.args.w.now c.args.from c.args.to c.args.n c.loop-i.i c.requires.0 c.requires.1 c.loop-i-test.true), simp length-set c.loop-i.invariant.1)

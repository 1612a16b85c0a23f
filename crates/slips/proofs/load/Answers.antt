-- `slips::load` meets its contract. Assumes nothing.
use native.Mathlib.Omega.{arith}
use mathlib.Core.Path.{refl, ◌∙◌}
use lib.ListN.{length-set}
use Rattle.words.proofs.Stretches.{over_store, over_all}
use Rattle.slips.proofs.load.Goals as goal

pub loop-i-preserved : goal.loop-i-preserved
loop-i-preserved c = (over_store c.args.ws.now c.args.memory.now c.loop-i.memory c.loop-i.i _ c.loop-i.invariant.0 refl c.loop-i-test.true (omega (arith, c.requires, c.loop-i-test.true)), length-set c.loop-i.memory c.loop-i.i _ ∙ c.loop-i.invariant.1)

pub returns : goal.returns
returns c = c.loop-i.invariant.0 ∙ over_all c.args.ws.now c.args.memory.now c.loop-i.i (omega (arith, c.loop-i-test.false))

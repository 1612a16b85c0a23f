-- `rewrite::arena::push_node` meets its contract. Assumes nothing.
use native.Mathlib.Omega.{arith}
use lib.ListN.{length-set}
use Rattle.rewrite.proofs.Leaves.{pushed_node}
use Rattle.rewrite.proofs.arena.push_node.Goals as goal

pub bounds-w-to-2 : goal.bounds-w-to-2
bounds-w-to-2 c = omega (arith, c.requires, length-set c.args.w.now c.args.to c.args.t)

pub returns : goal.returns
returns c = pushed_node c.args.w.now c.args.to c.args.t c.args.v c.requires

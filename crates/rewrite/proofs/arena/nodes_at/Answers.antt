-- `rewrite::arena::nodes_at` meets its contract. Assumes nothing.
use Rattle.rewrite.proofs.Leaves.{nodes_none, nodes_there}
use native.Mathlib.Omega.{arith}
use Rattle.rewrite.proofs.arena.nodes_at.Goals as goal
use Rattle.rewrite.proofs.arena.nodes_at.Goals.{else-n-le-MOST_NODES-via-then-n-le-MOST_NODES+else-start-n, else-n-le-MOST_NODES-via-else-n-le-MOST_NODES}

pub returns-then-start-n : goal.returns-then-start-n
returns-then-start-n c = nodes_there c.args.w.now c.args.start c.args.top c.size_at-n.ensures.0 c.if-n-le-MOST_NODES.true c.if-start-n.true

pub returns-else-n-le-MOST_NODES : goal.returns-else-n-le-MOST_NODES
returns-else-n-le-MOST_NODES c = nodes_none c.args.w.now c.args.start c.args.top c.size_at-n.ensures.0 (λ l h. elim c.else-n-le-MOST_NODES.branch [
  | else-n-le-MOST_NODES-via-then-n-le-MOST_NODES+else-start-n w ↦ omega (arith, w.if-start-n.false)
  | else-n-le-MOST_NODES-via-else-n-le-MOST_NODES w ↦ omega (arith, w.if-n-le-MOST_NODES.false)
])

use Rattle.tree.proofs.Ends.{owed_short, owed_none}
use Rattle.tree.proofs.end_of_tree.Goals as goal

pub returns-else-at-ws : goal.returns-else-at-ws
returns-else-at-ws c = owed_short c.loop-owed.invariant c.if-at-ws.false

pub returns-after-loop-owed : goal.returns-after-loop-owed
returns-after-loop-owed c = owed_none c.loop-owed.invariant c.loop-owed-test.false

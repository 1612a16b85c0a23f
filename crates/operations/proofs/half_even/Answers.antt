-- `operations::half_even` meets its contract. Assumes nothing.
use Rattle.operations.proofs.Rounding.{nearer_below, as_near, nearer_above}
use Rattle.operations.proofs.half_even.Goals as goal

pub returns-then-down-up : goal.returns-then-down-up
returns-then-down-up c = nearer_below c.args.n c.args.d c.requires c.if-down-up.true

pub returns-then-down-up-2 : goal.returns-then-down-up-2
returns-then-down-up-2 c = as_near c.args.n c.args.d c.requires c.if-down-up-2.true

pub returns-else-down-up-2 : goal.returns-else-down-up-2
returns-else-down-up-2 c = nearer_above c.args.n c.args.d c.requires c.if-down-up.false c.if-down-up-2.false

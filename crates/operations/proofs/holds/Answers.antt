-- `operations::holds` meets its contract. Assumes nothing.
use Rattle.operations.proofs.Numbers.{equals, exceeds}
use Rattle.operations.proofs.holds.Goals as goal

pub returns-then-op-eq-EQUAL : goal.returns-then-op-eq-EQUAL
returns-then-op-eq-EQUAL c = equals c.args.op c.args.a c.args.b c.if-op-eq-EQUAL.true

pub returns-else-op-eq-EQUAL : goal.returns-else-op-eq-EQUAL
returns-else-op-eq-EQUAL c = exceeds c.args.op c.args.a c.args.b c.if-op-eq-EQUAL.false

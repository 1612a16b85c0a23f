-- `rules::plan_of` meets its contract. Assumes nothing.
use native.Mathlib.Omega.{arith}
use Rattle.rules.proofs.Plans.{plan_or}
use Rattle.rules.proofs.plan_of.Goals as goal

pub returns : goal.returns
returns c = plan_or c.args.types c.args.ws.now c.args.at _ _ c.read_plan.ensures (omega arith) c.unwrap_or.ensures

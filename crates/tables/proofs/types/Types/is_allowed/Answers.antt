use Rattle.tables.proofs.Lookups.{allowed_by}
use Rattle.tables.proofs.types.Types.is_allowed.Goals as goal

pub returns : goal.returns
returns c = λ g ts. allowed_by g c.args.t c.args.v _ (c.values.ensures g ts)

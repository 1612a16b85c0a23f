use Rattle.tables.proofs.Lookups.{number_by}
use Rattle.tables.proofs.types.Types.is_number.Goals as goal

pub returns : goal.returns
returns c = λ g ts. number_by g c.args.t _ (ts.forms c.args.t) (c.values.ensures g ts)

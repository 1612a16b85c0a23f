use Rattle.tables.proofs.Lookups.{text_by}
use Rattle.tables.proofs.types.Types.is_text.Goals as goal

pub returns : goal.returns
returns c = λ g ts. text_by g c.args.t _ (ts.forms c.args.t) (c.values.ensures g ts)

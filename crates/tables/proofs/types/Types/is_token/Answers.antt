use Rattle.tables.proofs.Lookups.{token_by}
use Rattle.tables.proofs.types.Types.is_token.Goals as goal

pub returns : goal.returns
returns c = λ g ts. token_by g c.args.t _ (c.map_of.ensures g ts)

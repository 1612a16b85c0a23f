use Rattle.tables.proofs.Lookups.{map_out}
use Rattle.tables.proofs.types.Types.map_of.Goals as goal

pub returns-else-t-lt-MOST_TYPES : goal.returns-else-t-lt-MOST_TYPES
returns-else-t-lt-MOST_TYPES c = λ g ts. map_out g c.args.self.now.heads ts c.args.t c.if-t-lt-MOST_TYPES.false

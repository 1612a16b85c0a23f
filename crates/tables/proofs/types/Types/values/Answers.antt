use Rattle.tables.proofs.Lookups.{values_out}
use Rattle.tables.proofs.types.Types.values.Goals as goal

pub returns-else-t-lt-MOST_TYPES : goal.returns-else-t-lt-MOST_TYPES
returns-else-t-lt-MOST_TYPES c = λ g ts. values_out g c.args.self.now.heads ts c.args.t c.if-t-lt-MOST_TYPES.false

use borrow.Author.Tests.{eq-eqb}
use mathlib.Core.Path.{◌∙◌}
use Rattle.tables.proofs.Lookups.{sequence_repeat, sequence_list}
use Rattle.tables.proofs.types.Types.is_sequence.Goals as goal

pub returns-then-map-eq4 : goal.returns-then-map-eq4
returns-then-map-eq4 c = λ g ts. eq-eqb _ 4 c.if-map-eq4.true ∙ sequence_repeat g c.args.t _ (c.map_of-map.ensures g ts) c.if-map-eq4.true

pub returns-else-map-eq4 : goal.returns-else-map-eq4
returns-else-map-eq4 c = λ g ts. sequence_list g c.args.t _ (c.map_of-map.ensures g ts) c.if-map-eq4.false

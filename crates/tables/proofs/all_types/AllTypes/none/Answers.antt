use mathlib.Core.Path.{sym}
use Rattle.tables.proofs.Shown.{blank_tables}
use Rattle.tables.proofs.all_types.AllTypes.none.Goals as goal

pub invariant_of-result : goal.invariant_of-result
invariant_of-result c = record { of_grammar = rw (c.none.ensures.blank.0, c.none.ensures.blank.1) (∣ (_, record { types_of = record { heads_of = blank_tables.heads_of; rows_of_lem = blank_tables.rows_of_lem }; count_of = sym c.none.ensures.empty }) ∣₁) }

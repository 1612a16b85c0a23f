use Rattle.tables.proofs.Shown.{blank_tables}
use Rattle.tables.proofs.grammar_types.GrammarTypes.none.Goals as goal

pub invariant_of-result : goal.invariant_of-result
invariant_of-result c = record { of_grammar = rw (c.none.ensures.blank.0, c.none.ensures.blank.1) (∣ (_, blank_tables) ∣₁) }

use Rattle.tables.proofs.grammar_types.GrammarTypes.fill.Goals as goal

pub invariant_of-self : goal.invariant_of-self
invariant_of-self c = record { of_grammar = ∣ (_, record { heads_of = c.fill.ensures.types_of.heads_of; rows_of_lem = c.fill.ensures.types_of.rows_of_lem }) ∣₁ }

use Rattle.tables.proofs.all_types.AllTypes.fill.Goals as goal

pub invariant_of-self : goal.invariant_of-self
invariant_of-self c = record { of_grammar = ∣ (_, c.fill.ensures) ∣₁ }

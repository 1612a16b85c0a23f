use native.Mathlib.Omega.{arith}
use Rattle.typing.proofs.check_rules.Goals as goal

pub read_rules-requires : goal.read_rules-requires
read_rules-requires c = (omega arith, ∣ (_, c.fill.ensures) ∣₁)

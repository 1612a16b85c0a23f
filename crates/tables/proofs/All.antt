-- What follows for all the types of a grammar. Assumes nothing.
use Prim.Native.Nat.{◌≤◌}
use native.Mathlib.Bridge.{le_prop}
use native.Mathlib.Omega.{arith}
use Rattle.std.proofs.Math.Logic.{∥∥₁_elim}
use Rattle.tables.specs.declared.all_types.AllTypes.{AllTypes}

-- a grammar has at most 64 types
pub types_few : (types : AllTypes) → types.types.types.count ≤ 64
types_few types = ∥∥₁_elim types.of_grammar le_prop (λ t. omega (arith, t.1.types_of.heads_of.types, t.1.count_of))

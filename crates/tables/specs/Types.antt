-- The types of a grammar, as the code holds them. Assumes nothing: these are definitions.
use Rattle.std.specs.Prelude.{ℕ, ◌≤◌, ◌≡◌, length, replicate}
use Rattle.grammar.specs.Grammar.{Grammar}
use Rattle.grammar.specs.Kinds.{children}
use Rattle.tables.specs.Tables.{Heads, Rows}
use Rattle.tables.specs.declared.types.Types.{Types}

-- no types, before those of a grammar are worked out
abbrev pub IsBlank : Types → Type 0
IsBlank types = (types.heads ≡ replicate 128 0) × (types.rows ≡ replicate 9216 0)

-- they are the types of the grammar
pub record TypesOf (g : Grammar) (types : Types) : Type 0 where
  pub heads_of : Heads g types.heads
  pub rows_of_lem : Rows g types.rows

-- .. and as many as it has
pub record AllTypesOf (g : Grammar) (types : Types) : Type 0 where
  pub types_of : TypesOf g types
  pub count_of : length g ≡ types.count

-- they are all the types of some grammar
abbrev pub AreAllTypes : Types → Type 0
AreAllTypes types = (g : Grammar) × AllTypesOf g types

-- what holds of every grammar whose heads these are
abbrev pub OfHeads : Types → (Grammar → Type 0) → Type 0
OfHeads types P = (g : Grammar) → Heads g types.heads → P g

-- .. whose rows these are
abbrev pub OfRows : Types → (Grammar → Type 0) → Type 0
OfRows types P = (g : Grammar) → Rows g types.rows → P g

-- .. whose types these are
abbrev pub OfTypes : Types → (Grammar → Type 0) → Type 0
OfTypes types P = (g : Grammar) → TypesOf g types → P g

-- how many children a node has: never more than an entry can say
pub record Counted (types : Types) (t v r : ℕ) : Type 0 where
  pub small : r ≤ 255
  pub count : OfRows types (λ g. r ≡ length (children g t v))

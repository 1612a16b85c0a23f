-- How the code of the typing sees the fields of a rule, and where the rules stand. Assumes nothing: these are definitions.
use Rattle.std.specs.Prelude.{ℕ, zero, suc, [], ◌∷◌, Option, None, Some}
use Rattle.std.proofs.Math.Option.{Option as Found, none, some}
use Rattle.words.specs.Reader.{Words, Reader, ◌>>=◌, return}
use Rattle.grammar.specs.Grammar.{Grammar}
use Rattle.tables.specs.Filling.{next_of}
use Rattle.tree.specs.Reading.{tree}
use Rattle.rules.specs.Rules.{Rules}
use Rattle.rules.specs.Layout as Layout
use Rattle.rules.specs.Layout.{PartAt, deconstruct_at, bit, only_if, field}
use Rattle.rules.specs.declared.Deconstruct.{Deconstruct}
use Rattle.judgement.specs.Typing.{a_tree, Context, in_replacement, typed, parts_typed}

-- THE FIELDS OF A RULE

-- the searched type, if there is one
abbrev pub searched_of : Option ℕ → Found ℕ
searched_of None = none
searched_of (Some s) = some s

-- the part, by the fields that the code has
abbrev pub deconstruct_of : Deconstruct → PartAt
deconstruct_of d = deconstruct_at (searched_of d.searched) d.variable d.pattern

module _ (g : Grammar) (rules : Rules) (ws : Words) where
  -- the parts, where the map announces them
  abbrev pub parts_for : ℕ → Context → Reader Context
  parts_for m Γ = only_if (bit 2 m) Γ (◌>>=◌ (field ws 1 8) (λ k. parts_typed g rules ws k Γ))

  -- the replacement, where the map announces it
  abbrev pub replacement_for : ℕ → ℕ → Context → Reader (Unit {0})
  replacement_for m t Γ = ◌>>=◌ (only_if (bit 3 m) Γ (typed g rules ws in_replacement (a_tree (tree 1 t)) Γ)) (λ Θ. return tt)

-- where the n rules stand, the first of them at the position
unfoldable pub positions : ℕ → Words → ℕ → ℕ → Words
positions types ws zero at = []
positions types ws (suc n) at = at ∷ positions types ws n (next_of (Layout.rule types ws at))

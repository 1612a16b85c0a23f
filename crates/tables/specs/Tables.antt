-- The tables that a run works out once, so that no lookup searches the grammar's words, and what each entry is. Assumes nothing: these are definitions.
use Rattle.std.specs.Prelude.{ℕ, ◌+◌, ◌*◌, ◌≤◌, ◌<◌, ◌≡◌, List, [], ◌∷◌, Bool, length, get_or, eqb}
use Rattle.words.specs.Reader.{Read, value, refused}
use Rattle.grammar.specs.Limits.{most_types, most_forms, most_elements}
use Rattle.grammar.specs.Grammar.{map_in, Kind, token, opt, sequence, forms, Grammar}
use Rattle.grammar.specs.Kinds.{kind_of, children, forms_of}
use Rattle.grammar.specs.Values.{values_of}

-- the map of a kind's record; 0 for a type that is not there
unfoldable pub map_of : Kind → ℕ
map_of (token c) = 1
map_of (opt e) = 2
map_of (sequence style e) = map_in style
map_of (forms []) = 0
map_of (forms (f ∷ fs)) = 8

-- is the type a token, whose nodes have no children?
unfoldable pub is_token : Grammar → ℕ → Bool
is_token g t = eqb (map_of (kind_of g t)) 1

-- `heads` has two words a type: the map of its record, and how many values its nodes may have
pub record Heads (g : Grammar) (heads : List ℕ) : Type 0 where
  pub types : length g ≤ most_types
  pub forms : (t : ℕ) → length (forms_of (kind_of g t)) ≤ most_forms
  pub map : (t : ℕ) → t < most_types → get_or heads (t * 2) 0 ≡ map_of (kind_of g t)
  pub values : (t : ℕ) → t < most_types → get_or heads (t * 2 + 1) 0 ≡ values_of (kind_of g t)

-- where the row of the type and value stands, nine entries a row, sixteen rows a type
abbrev pub row_at : ℕ → ℕ → ℕ
row_at t v = (t * 16 + v) * 9

-- `rows` has a row for each type and each value below 16: how many children such a node has, and their types
pub record Rows (g : Grammar) (rows : List ℕ) : Type 0 where
  pub types : length g ≤ most_types
  pub values : (t v : ℕ) → most_forms ≤ v → children g t v ≡ []
  pub most : (t v : ℕ) → length (children g t v) ≤ most_elements
  pub row : (t v i : ℕ) → t < most_types → v < most_forms → i ≤ most_elements → get_or rows (row_at t v + i) 0 ≡ get_or (length (children g t v) ∷ children g t v) i 0

-- the tables of the grammar
pub record Tables (g : Grammar) (heads rows : List ℕ) : Type 0 where
  pub heads_of : Heads g heads
  pub rows_of_lem : Rows g rows

-- they are the tables of some grammar
abbrev pub AreTables : List ℕ → List ℕ → Type 0
AreTables heads rows = (g : Grammar) × Tables g heads rows

-- the grammar that was read; none where it was refused
abbrev pub read_of : Read Grammar → Grammar
read_of (value g next) = g
read_of (refused n p) = []

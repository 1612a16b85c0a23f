-- How the tables are filled, type by type, from the words of a grammar that passes. Assumes nothing: these are definitions.
use Rattle.std.specs.Prelude.{ℕ, ◌+◌, ◌*◌, ◌≡◌, List, [], ◌∷◌, length, get_or}
use Rattle.std.proofs.lemmas.List.Edits.{sets}
use Rattle.words.specs.Reader.{Words, Read, value, refused}
use Rattle.grammar.specs.Grammar.{Kind, token, opt, sequence, forms, Grammar, types_of}
use Rattle.grammar.specs.Values.{values_of}
use Rattle.tables.specs.Tables.{map_of, row_at}

-- what was read, and where the next word stands
abbrev pub list_of : {A : Type 0} → Read (List A) → List A
list_of (value xs next) = xs
list_of (refused n p) = []

-- the kind that was read
abbrev pub kind_read : Read Kind → Kind
kind_read (value k next) = k
kind_read (refused n p) = forms []

-- where the next word stands
abbrev pub next_of : {A : Type 0} → Read A → ℕ
next_of (value a next) = next
next_of (refused n p) = p

-- "Word 0 is the number of types"
abbrev pub type_count : Words → ℕ
type_count ws = get_or ws 0 0

-- a row: how many children, and their types
abbrev pub row_of : List ℕ → List ℕ
row_of ts = length ts ∷ ts

-- the children of the nodes of a kind, which is the type t's, for the values from 0 on
unfoldable pub rows_of : ℕ → Kind → List (List ℕ)
rows_of t (token c) = []
rows_of t (opt e) = (e ∷ []) ∷ []
rows_of t (sequence style e) = (e ∷ t ∷ []) ∷ []
rows_of t (forms fs) = fs

-- the rows of type t from the value v on
unfoldable pub put_rows : List ℕ → ℕ → ℕ → List (List ℕ) → List ℕ
put_rows rows t v [] = rows
put_rows rows t v (f ∷ fs) = put_rows (sets rows (row_at t v) (row_of f)) t (v + 1) fs

-- the rows of the types from t on
unfoldable pub put_kinds : List ℕ → ℕ → Grammar → List ℕ
put_kinds rows t [] = rows
put_kinds rows t (k ∷ ks) = put_kinds (put_rows rows t 0 (rows_of t k)) (t + 1) ks

-- the heads of the types from t on
unfoldable pub put_heads : List ℕ → ℕ → Grammar → List ℕ
put_heads heads t [] = heads
put_heads heads t (k ∷ ks) = put_heads (sets heads (t * 2) (map_of k ∷ values_of k ∷ [])) (t + 1) ks

-- an element that is a type stands behind the m children before it
pub record ElementPut (rows rows' : List ℕ) (base m e r : ℕ) : Type 0 where
  pub stored : rows' ≡ sets rows (base + 1 + m) (types_of (e ∷ []))
  pub count : r ≡ m + length (types_of (e ∷ []))

-- a form's row stands at its place
pub record FormPut (rows rows' : List ℕ) (base r : ℕ) (form : Read (List ℕ)) : Type 0 where
  pub stored : rows' ≡ sets rows base (row_of (list_of form))
  pub next : r ≡ next_of form

-- the rows of a type's forms stand at their places
pub record FormsPut (rows rows' : List ℕ) (t r : ℕ) (forms : Read (List (List ℕ))) : Type 0 where
  pub stored : rows' ≡ put_rows rows t 0 (list_of forms)
  pub next : r ≡ next_of forms

-- a type's rows stand at their places
pub record KindPut (rows rows' : List ℕ) (t r : ℕ) (kind : Read Kind) : Type 0 where
  pub stored : rows' ≡ put_rows rows t 0 (rows_of t (kind_read kind))
  pub next : r ≡ next_of kind

-- Laws of the tables and of the lookups in them, over plain variables. Assumes nothing.
use Prim.Native.Nat.{ℕ, suc, ◌+◌, ◌*◌, ◌<◌, ◌≤◌}
use mathlib.Core.Path.{◌≡◌, refl, sym}
use mathlib.Core.List.{List, [], ◌∷◌}
use mathlib.Core.Bool.{Bool, true, false, not}
use native.Mathlib.Omega.{arith}
use lib.ListN.{length, get_or, get_or-eq_default}
use lib.Dec.{ltb, eqb}
use borrow.Author.Tests.{eq-eqb, ne_eqb}
use Rattle.words.specs.Reader.{pick, or}
use Rattle.grammar.specs.Limits.{greatest_name, greatest_number}
use Rattle.grammar.specs.Grammar.{repeat, list, Kind, token, opt, sequence, forms, Grammar}
use Rattle.grammar.specs.Kinds.{kind_of, allowed, children_of, children, is_sequence_kind, is_sequence, is_number_kind, is_number, is_text_kind, is_text, forms_of}
use Rattle.grammar.specs.Values.{values_of}
use Rattle.grammar.proofs.Values.{values_allow}
use Rattle.tables.specs.Tables.{map_of, is_token, Heads, Rows, row_at}

-- A TYPE THAT IS NOT THERE

pub no_kind : (g : Grammar) (t : ℕ) → length g ≤ t → kind_of g t ≡ forms []
unfolding kind_of
no_kind g t h = get_or-eq_default g (forms []) h

pub no_children : (g : Grammar) (t v : ℕ) → length g ≤ t → children g t v ≡ []
unfolding children children_of
no_children g t v h = rw (no_kind g t h)

-- HEADS

module _ (g : Grammar) (heads : List ℕ) (hs : Heads g heads) (t : ℕ) where
  pub map_in_lem : (i : ℕ) → i ≡ t → t < 64 → get_or heads (i * 2) 0 ≡ map_of (kind_of g t)
  map_in_lem i e h = rw e (hs.map t h)

  pub map_out : 64 ≤ t → 0 ≡ map_of (kind_of g t)
  unfolding map_of
  map_out h = rw (no_kind g t (omega (arith, hs.types)))

  pub values_in : (i : ℕ) → i ≡ t → t < 64 → get_or heads (i * 2 + 1) 0 ≡ values_of (kind_of g t)
  values_in i e h = rw e (hs.values t h)

  pub values_out : 64 ≤ t → 0 ≡ values_of (kind_of g t)
  unfolding values_of
  values_out h = rw (no_kind g t (omega (arith, hs.types)))

pub allowed_by : (g : Grammar) (t v n : ℕ) → n ≡ values_of (kind_of g t) → ltb v n ≡ allowed g t v
unfolding allowed
allowed_by g t v n e = rw e (values_allow (kind_of g t) v)

map_sequence : (k : Kind) → or (eqb (map_of k) 4) (eqb (map_of k) 16) ≡ is_sequence_kind k
unfolding map_of is_sequence_kind
map_sequence (token c) = refl
map_sequence (opt e) = refl
map_sequence (sequence repeat e) = refl
map_sequence (sequence list e) = refl
map_sequence (forms []) = refl
map_sequence (forms (f ∷ fs)) = refl

sequence_by : (g : Grammar) (t m : ℕ) → m ≡ map_of (kind_of g t) → or (eqb m 4) (eqb m 16) ≡ is_sequence g t
unfolding is_sequence
sequence_by g t m e = rw e (map_sequence (kind_of g t))

pub sequence_repeat : (g : Grammar) (t m : ℕ) → m ≡ map_of (kind_of g t) → m ≡ 4 → true ≡ is_sequence g t
sequence_repeat g t m e h = rw (← sequence_by g t m e, eq-eqb m 4 h)

pub sequence_list : (g : Grammar) (t m : ℕ) → m ≡ map_of (kind_of g t) → (m ≡ 4 → ⊥) → eqb m 16 ≡ is_sequence g t
sequence_list g t m e h = rw (← sequence_by g t m e, ne_eqb m 4 h)

pub token_by : (g : Grammar) (t m : ℕ) → m ≡ map_of (kind_of g t) → eqb m 1 ≡ is_token g t
unfolding is_token
token_by g t m e = rw e

-- how many values a kind has tells numbers, and names and strings
values_tell : (k : Kind) → length (forms_of k) ≤ 16 → (eqb (values_of k) (greatest_number + 1) ≡ is_number_kind k) × (eqb (values_of k) (greatest_name + 1) ≡ is_text_kind k)
unfolding values_of is_number_kind is_text_kind forms_of
values_tell (token c) h = go (eqb c 2)
  where
    go : (b : Bool) → (eqb (pick b (greatest_number + 1) (greatest_name + 1)) (greatest_number + 1) ≡ b) × (eqb (pick b (greatest_number + 1) (greatest_name + 1)) (greatest_name + 1) ≡ not b)
    go true = (refl, refl)
    go false = (refl, refl)
values_tell (opt e) h = (refl, refl)
values_tell (sequence style e) h = (refl, refl)
values_tell (forms fs) h = (ne_eqb (length fs) (greatest_number + 1) (λ e. omega arith), ne_eqb (length fs) (greatest_name + 1) (λ e. omega arith))

pub number_by : (g : Grammar) (t n : ℕ) → length (forms_of (kind_of g t)) ≤ 16 → n ≡ values_of (kind_of g t) → eqb n (greatest_number + 1) ≡ is_number g t
unfolding is_number
number_by g t n h e = rw e (values_tell (kind_of g t) h).0

pub text_by : (g : Grammar) (t n : ℕ) → length (forms_of (kind_of g t)) ≤ 16 → n ≡ values_of (kind_of g t) → eqb n (greatest_name + 1) ≡ is_text g t
unfolding is_text
text_by g t n h e = rw e (values_tell (kind_of g t) h).1

-- ROWS

module _ (g : Grammar) (rows : List ℕ) (rs : Rows g rows) (t v : ℕ) where
  pub no_type : 64 ≤ t → children g t v ≡ []
  no_type h = no_children g t v (omega (arith, rs.types))

  pub count_in : (i j : ℕ) → i ≡ t → j ≡ v → t < 64 → v < 16 → get_or rows ((i * 16 + j) * 9) 0 ≡ length (children g t v)
  count_in i j ei ej ht hv =
      let z : (i * 16 + j) * 9 ≡ row_at t v + 0 = omega arith in
      rw z (rs.row t v 0 ht hv (omega arith))

  pub child_in : (i j n : ℕ) → i ≡ t → j ≡ v → t < 64 → v < 16 → n < 8 → get_or rows ((i * 16 + j) * 9 + (1 + n)) 0 ≡ get_or (children g t v) n 0
  child_in i j n ei ej ht hv hn =
      let z : (i * 16 + j) * 9 + (1 + n) ≡ row_at t v + suc n = omega arith in
      rw z (rs.row t v (suc n) ht hv (omega arith))

  pub child_out : (n : ℕ) → 8 ≤ n → 0 ≡ get_or (children g t v) n 0
  child_out n h = sym (get_or-eq_default (children g t v) 0 {n = n} (omega (arith, rs.most t v)))

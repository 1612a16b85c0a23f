-- The tables that are filled show the grammar. Assumes nothing.
use Prim.Native.Nat.{ℕ, zero, suc, ◌+◌, ◌-◌, ◌*◌, ◌<◌, ◌≤◌}
use mathlib.Core.Path.{◌≡◌, refl, sym, ap, ◌∙◌}
use mathlib.Core.List.{List, [], ◌∷◌}
use mathlib.Core.Bool.{true}
use native.Mathlib.Omega.{arith}
use lib.ListN.{length, get_or, replicate, length-replicate, get_or-eq_default}
use lib.Seq.{sets, length-sets}
use lib.Dec.{eqb-suc-zero}
use Rattle.words.specs.Reader.{Words, value, and_then, ◌>>=◌, ◌>>◌, return, many, end, accepted}
use Rattle.words.proofs.Laws.{accepted_value, then_value, in_value, many_suc, many_length}
use Rattle.words.proofs.Sets.{get_d_below, get_d_above, get_d_within}
use Rattle.grammar.specs.Grammar.{Kind, token, opt, sequence, forms, Grammar, field, form, kind, grammar, finite, finite_records, read_grammar}
use Rattle.grammar.specs.Kinds.{kind_of, children_of, children, forms_of}
use Rattle.grammar.specs.Values.{values_of}
use Rattle.tables.specs.Tables.{map_of, Heads, Rows, row_at, Tables, read_of}
use Rattle.tables.specs.Filling.{type_count, row_of, rows_of, put_rows, put_kinds, put_heads}
use Rattle.tables.proofs.Records.{form_short, KindAt, is_token, is_opt, is_sequence, has_forms, record_at}
use Rattle.tables.proofs.Filling.{FillLoop}

-- WHAT AN ACCEPTED GRAMMAR'S KINDS ARE: few forms, and short ones

abbrev pub Short : List (List ℕ) → Type 0
Short [] = Unit {0}
Short (f ∷ fs) = (length f ≤ 8) × Short fs

pub record Small (k : Kind) : Type 0 where
  pub few : length (rows_of 0 k) ≤ 16
  pub short : (t : ℕ) → Short (rows_of t k)
  pub forms_few : length (forms_of k) ≤ 16

abbrev pub AllSmall : Grammar → Type 0
AllSmall [] = Unit {0}
AllSmall (k ∷ ks) = Small k × AllSmall ks

forms_short : (ws : Words) (n c at : ℕ) (fs : List (List ℕ)) (next : ℕ) → many c (form ws n) at ≡ value fs next → Short fs
forms_short ws n c at [] next e = tt
forms_short ws n zero at (f ∷ fs) next e = let l = many_length (form ws n) 0 at (f ∷ fs) next e in absurd (omega arith)
forms_short ws n (suc c) at (f ∷ fs) next e =
    let u = many_suc (form ws n) c at e in
    let a : u.0 ≡ f = cc u.5 in
    let b : u.2 ≡ fs = cc u.5 in
    (rw a at (form_short ws n at u.3), forms_short ws n c u.1 fs next (rw b at u.4))

kind_small : (ws : Words) (n at : ℕ) (k : Kind) (next : ℕ) → KindAt ws n at k next → Small k
unfolding rows_of forms_of
kind_small ws n at k next (is_token e c) = record { few = omega arith; short = λ t. tt; forms_few = omega arith }
kind_small ws n at k next (is_opt e c l) = record { few = omega arith; short = λ t. (omega arith, tt); forms_few = omega arith }
kind_small ws n at k next (is_sequence style e c l) = record { few = omega arith; short = λ t. (omega arith, tt); forms_few = omega arith }
kind_small ws n at k next (has_forms {fs} c e ec low high r) =
    let l = many_length (form ws n) c (at + 2) fs next r in
    record { few = omega arith; short = λ t. forms_short ws n c (at + 2) fs next r; forms_few = omega arith }

pub kinds_small : (ws : Words) (n c at : ℕ) (g : Grammar) (next : ℕ) → many c (kind ws n) at ≡ value g next → AllSmall g
kinds_small ws n c at [] next e = tt
kinds_small ws n zero at (k ∷ ks) next e = let l = many_length (kind ws n) 0 at (k ∷ ks) next e in absurd (omega arith)
kinds_small ws n (suc c) at (k ∷ ks) next e =
    let u = many_suc (kind ws n) c at e in
    let a : u.0 ≡ k = cc u.5 in
    let b : u.2 ≡ ks = cc u.5 in
    (rw a at (kind_small ws n at u.0 u.1 (record_at ws n at u.0 u.1 u.3).kind_at), kinds_small ws n c u.1 ks next (rw b at u.4))

-- THE ROWS OF ONE TYPE

rows_length : (fs : List (List ℕ)) (rows : List ℕ) (t v : ℕ) → length (put_rows rows t v fs) ≡ length rows
unfolding put_rows
rows_length [] rows t v = refl
rows_length (f ∷ fs) rows t v = rows_length fs (sets rows (row_at t v) (row_of f)) t (v + 1) ∙ length-sets rows (row_at t v) (row_of f)

rows_below : (fs : List (List ℕ)) (rows : List ℕ) (t v j : ℕ) → j < row_at t v → get_or (put_rows rows t v fs) j 0 ≡ get_or rows j 0
unfolding put_rows
rows_below [] rows t v j h = refl
rows_below (f ∷ fs) rows t v j h = rows_below fs (sets rows (row_at t v) (row_of f)) t (v + 1) j (omega arith) ∙ get_d_below rows (row_at t v) j (row_of f) h

rows_above : (fs : List (List ℕ)) (rows : List ℕ) (t v j : ℕ) → Short fs → row_at t (v + length fs) ≤ j → get_or (put_rows rows t v fs) j 0 ≡ get_or rows j 0
unfolding put_rows
rows_above [] rows t v j s h = refl
rows_above (f ∷ fs) rows t v j s h =
    rows_above fs (sets rows (row_at t v) (row_of f)) t (v + 1) j s.1 (omega arith) ∙ get_d_above rows (row_at t v) j (row_of f) (omega (arith, s.0))

-- an entry of a row that was stored over zeros
row_entry : (rows : List ℕ) (b i : ℕ) (f : List ℕ) → b + 9 ≤ length rows → length f ≤ 8 → get_or rows (b + i) 0 ≡ 0 → get_or (sets rows b (row_of f)) (b + i) 0 ≡ get_or (row_of f) i 0
row_entry rows b i f h s z = go (i - length (row_of f)) refl
  where
    go : (d : ℕ) → i - length (row_of f) ≡ d → get_or (sets rows b (row_of f)) (b + i) 0 ≡ get_or (row_of f) i 0
    go zero e = near (suc (length f) - i) refl
      where
        near : (d : ℕ) → suc (length f) - i ≡ d → get_or (sets rows b (row_of f)) (b + i) 0 ≡ get_or (row_of f) i 0
        near zero e' = get_d_above rows b (b + i) (row_of f) (omega arith) ∙ z ∙ sym (get_or-eq_default (row_of f) 0 {n = i} (omega arith))
        near (suc d) e' = get_d_within rows b i (row_of f) (omega arith) (omega arith)
    go (suc d) e = get_d_above rows b (b + i) (row_of f) (omega arith) ∙ z ∙ sym (get_or-eq_default (row_of f) 0 {n = i} (omega arith))

-- zeros from the row of (t, v) on, up to the end of the type's rows
abbrev Clear : List ℕ → ℕ → ℕ → Type 0
Clear rows t v = (j : ℕ) → row_at t v ≤ j → get_or rows j 0 ≡ 0

rows_entry : (fs : List (List ℕ)) (rows : List ℕ) (t v d i : ℕ) → t < 64 → length rows ≡ 9216 → v + length fs ≤ 16 → Short fs → Clear rows t v → v + d < 16 → i ≤ 8
    → get_or (put_rows rows t v fs) (row_at t (v + d) + i) 0 ≡ get_or (row_of (get_or fs d [])) i 0
unfolding put_rows
rows_entry [] rows t v d zero ht l n s c h hi = c (row_at t (v + d) + 0) (omega arith)
rows_entry [] rows t v d (suc i) ht l n s c h hi = c (row_at t (v + d) + suc i) (omega arith)
rows_entry (f ∷ fs) rows t v zero i ht l n s c h hi =
    let z : v + 0 ≡ v = omega arith in
    rw z (rows_below fs (sets rows (row_at t v) (row_of f)) t (v + 1) (row_at t v + i) (omega arith)
    ∙ row_entry rows (row_at t v) i f (omega arith) s.0 (c (row_at t v + i) (omega arith)))
rows_entry (f ∷ fs) rows t v (suc d) i ht l n s c h hi =
    let z : v + suc d ≡ v + 1 + d = omega arith in
    rw z (rows_entry fs (sets rows (row_at t v) (row_of f)) t (v + 1) d i ht (length-sets rows (row_at t v) (row_of f) ∙ l) (omega arith) s.1
    (λ j hj. get_d_above rows (row_at t v) j (row_of f) (omega (arith, s.0)) ∙ c j (omega arith)) (omega arith) hi)

-- THE ROWS OF ALL TYPES

rows_few : (t : ℕ) (k : Kind) → Small k → length (rows_of t k) ≤ 16
unfolding rows_of
rows_few t (token c) s = omega arith
rows_few t (opt e) s = omega arith
rows_few t (sequence style e) s = omega arith
rows_few t (forms fs) s = s.few

kinds_below : (ks : Grammar) (rows : List ℕ) (t j : ℕ) → j < row_at t 0 → get_or (put_kinds rows t ks) j 0 ≡ get_or rows j 0
unfolding put_kinds
kinds_below [] rows t j h = refl
kinds_below (k ∷ ks) rows t j h = kinds_below ks (put_rows rows t 0 (rows_of t k)) (t + 1) j (omega arith) ∙ rows_below (rows_of t k) rows t 0 j h

-- the row of a value below 16 is that of the children
row_children : (t v : ℕ) (k : Kind) → get_or (rows_of t k) v [] ≡ children_of k t v
unfolding rows_of children_of
row_children t v (token c) = refl
row_children t zero (opt e) = refl
row_children t (suc v) (opt e) = rw (eqb-suc-zero v)
row_children t zero (sequence style e) = refl
row_children t (suc v) (sequence style e) = rw (eqb-suc-zero v)
row_children t v (forms fs) = refl

no_form : (t v : ℕ) → children_of (forms []) t v ≡ []
unfolding children_of
no_form t v = refl

kinds_entry : (ks : Grammar) (rows : List ℕ) (t d v i : ℕ) → t + d < 64 → t + length ks ≤ 64 → length rows ≡ 9216 → AllSmall ks → Clear rows t 0 → v < 16 → i ≤ 8
    → get_or (put_kinds rows t ks) (row_at (t + d) v + i) 0 ≡ get_or (row_of (children_of (get_or ks d (forms [])) (t + d) v)) i 0
unfolding put_kinds
kinds_entry [] rows t d v zero h n l s c hv hi = c (row_at (t + d) v + 0) (omega arith) ∙ sym (ap (λ f. get_or (row_of f) 0 0) (no_form (t + d) v))
kinds_entry [] rows t d v (suc i) h n l s c hv hi = c (row_at (t + d) v + suc i) (omega arith) ∙ sym (ap (λ f. get_or (row_of f) (suc i) 0) (no_form (t + d) v))
kinds_entry (k ∷ ks) rows t zero v i h n l s c hv hi =
    let z : t + 0 ≡ t = omega arith in
    let y : 0 + v ≡ v = omega arith in
    let e : get_or (put_rows rows t 0 (rows_of t k)) (row_at t (0 + v) + i) 0 ≡ get_or (row_of (get_or (rows_of t k) v [])) i 0 =
    rows_entry (rows_of t k) rows t 0 v i (omega arith) l (omega (arith, rows_few t k s.0)) (s.0.short t) c (omega arith) hi in
    rw z (kinds_below ks (put_rows rows t 0 (rows_of t k)) (t + 1) (row_at t v + i) (omega arith) ∙ (rw y at e)
    ∙ ap (λ f. get_or (row_of f) i 0) (row_children t v k) ∙ ap (λ x. get_or (row_of (children_of k x v)) i 0) (sym z))
kinds_entry (k ∷ ks) rows t (suc d) v i h n l s c hv hi =
    let z : t + suc d ≡ t + 1 + d = omega arith in
    rw z (kinds_entry ks (put_rows rows t 0 (rows_of t k)) (t + 1) d v i (omega arith) (omega arith) (rows_length (rows_of t k) rows t 0 ∙ l) s.1
    (λ j hj. rows_above (rows_of t k) rows t 0 j (s.0.short t) (omega (arith, rows_few t k s.0)) ∙ c j (omega arith)) hv hi
    ∙ ap (λ x. get_or (row_of (children_of (get_or ks d (forms [])) x v)) i 0) (sym z))

-- what the rest of the record of the tables says
small_at : (g : Grammar) → AllSmall g → (t : ℕ) → Small (kind_of g t)
unfolding kind_of rows_of forms_of
small_at [] s t = record { few = omega arith; short = λ t. tt; forms_few = omega arith }
small_at (k ∷ ks) s zero = s.0
small_at (k ∷ ks) s (suc t) = small_at ks s.1 t

short_at : (fs : List (List ℕ)) (v : ℕ) → Short fs → length (get_or fs v []) ≤ 8
short_at [] v s = omega arith
short_at (f ∷ fs) zero s = s.0
short_at (f ∷ fs) (suc v) s = short_at fs v s.1

children_rows : (g : Grammar) (t v : ℕ) → children g t v ≡ get_or (rows_of t (kind_of g t)) v []
unfolding children
children_rows g t v = sym (row_children t v (kind_of g t))

children_many : (g : Grammar) → AllSmall g → (t v : ℕ) → 16 ≤ v → children g t v ≡ []
children_many g s t v h = children_rows g t v ∙ get_or-eq_default (rows_of t (kind_of g t)) [] {n = v} (omega (arith, rows_few t (kind_of g t) (small_at g s t)))

children_most : (g : Grammar) → AllSmall g → (t v : ℕ) → length (children g t v) ≤ 8
children_most g s t v = rw (children_rows g t v) (short_at (rows_of t (kind_of g t)) v ((small_at g s t).short t))

pub zeros_clear : (n j : ℕ) → ◌≡◌ {A = ℕ} (get_or (replicate n 0) j 0) 0
zeros_clear zero j = refl
zeros_clear (suc n) zero = refl
zeros_clear (suc n) (suc j) = zeros_clear n j

entry_same : (g : Grammar) (t v i : ℕ) → get_or (row_of (children_of (get_or g t (forms [])) t v)) i 0 ≡ get_or (row_of (children g t v)) i 0
unfolding children kind_of
entry_same g t v i = refl

rows_shown : (g : Grammar) → AllSmall g → length g ≤ 64 → Rows g (put_kinds (replicate 9216 0) 0 g)
rows_shown g s l = record {
  types = l;
  values = children_many g s;
  most = children_most g s;
  row = λ t v i ht hv hi.
      let z : 0 + t ≡ t = omega arith in
      let e = kinds_entry g (replicate 9216 0) 0 t v i (omega arith) (omega arith) (length-replicate {A = ℕ} 9216 0) s (λ j h. zeros_clear 9216 j) hv hi in
      (rw z at e) ∙ ap (λ x. get_or (row_of (children_of (get_or g t (forms [])) x v)) i 0) z ∙ entry_same g t v i;
}

-- THE HEADS

heads_length : (ks : Grammar) (heads : List ℕ) (t : ℕ) → length (put_heads heads t ks) ≡ length heads
unfolding put_heads
heads_length [] heads t = refl
heads_length (k ∷ ks) heads t = heads_length ks (sets heads (t * 2) (map_of k ∷ values_of k ∷ [])) (t + 1) ∙ length-sets heads (t * 2) (map_of k ∷ values_of k ∷ [])

heads_below : (ks : Grammar) (heads : List ℕ) (t j : ℕ) → j < t * 2 → get_or (put_heads heads t ks) j 0 ≡ get_or heads j 0
unfolding put_heads
heads_below [] heads t j h = refl
heads_below (k ∷ ks) heads t j h = heads_below ks (sets heads (t * 2) (map_of k ∷ values_of k ∷ [])) (t + 1) j (omega arith) ∙ get_d_below heads (t * 2) j (map_of k ∷ values_of k ∷ []) h

heads_entry : (ks : Grammar) (heads : List ℕ) (t d i : ℕ) → t + length ks ≤ 64 → length heads ≡ 128 → ((j : ℕ) → t * 2 ≤ j → get_or heads j 0 ≡ 0) → i < 2
    → get_or (put_heads heads t ks) ((t + d) * 2 + i) 0 ≡ get_or (map_of (get_or ks d (forms [])) ∷ values_of (get_or ks d (forms [])) ∷ []) i 0
unfolding put_heads map_of values_of
heads_entry [] heads t d zero n l c h = c ((t + d) * 2 + 0) (omega arith)
heads_entry [] heads t d (suc zero) n l c h = c ((t + d) * 2 + 1) (omega arith)
heads_entry [] heads t d (suc (suc i)) n l c h = absurd (omega arith)
heads_entry (k ∷ ks) heads t zero i n l c h =
    let z : (t + 0) * 2 + i ≡ t * 2 + i = omega arith in
    rw z (heads_below ks (sets heads (t * 2) (map_of k ∷ values_of k ∷ [])) (t + 1) (t * 2 + i) (omega arith) ∙ get_d_within heads (t * 2) i (map_of k ∷ values_of k ∷ []) (omega arith) h)
heads_entry (k ∷ ks) heads t (suc d) i n l c h =
    let z : t + suc d ≡ t + 1 + d = omega arith in
    rw z (heads_entry ks (sets heads (t * 2) (map_of k ∷ values_of k ∷ [])) (t + 1) d i (omega arith) (length-sets heads (t * 2) (map_of k ∷ values_of k ∷ []) ∙ l)
    (λ j hj. get_d_above heads (t * 2) j (map_of k ∷ values_of k ∷ []) (omega arith) ∙ c j (omega arith)) h)

kind_at : (g : Grammar) (t : ℕ) → get_or g t (forms []) ≡ kind_of g t
unfolding kind_of
kind_at g t = refl

heads_shown : (g : Grammar) → AllSmall g → length g ≤ 64 → Heads g (put_heads (replicate 128 0) 0 g)
heads_shown g s l = record {
  types = l;
  forms = λ t. (small_at g s t).forms_few;
  map = λ t h.
      let z : (0 + t) * 2 + 0 ≡ t * 2 = omega arith in
      let e = heads_entry g (replicate 128 0) 0 t 0 (omega arith) (length-replicate {A = ℕ} 128 0) (λ j h. zeros_clear 128 j) (omega arith) in
      (rw z at e) ∙ ap map_of (kind_at g t);
  values = λ t h.
      let z : (0 + t) * 2 + 1 ≡ t * 2 + 1 = omega arith in
      let e = heads_entry g (replicate 128 0) 0 t 1 (omega arith) (length-replicate {A = ℕ} 128 0) (λ j h. zeros_clear 128 j) (omega arith) in
      (rw z at e) ∙ ap values_of (kind_at g t);
}

-- THE GRAMMAR THAT WAS READ

pub record Decoded (ws : Words) (g : Grammar) : Type 0 where
  pub low : 1 ≤ type_count ws
  pub high : type_count ws ≤ 64
  pub next : ℕ
  pub records : many (type_count ws) (kind ws (type_count ws)) 1 ≡ value g next

decoded_of : (ws : Words) (n start : ℕ) (ks g : Grammar) (next : ℕ) → n ≡ get_or ws 0 0 → start ≡ 1 → 1 ≤ n → n ≤ 64 → ks ≡ g → many n (kind ws n) start ≡ value ks next → Decoded ws g
decoded_of ws n start ks g next en es low high ek e = record { low = rw en at low; high = rw en at high; next = next; records = rw (ek, es, en) at e }

grammar_decoded : (ws : Words) (g : Grammar) (q : ℕ) → grammar ws 0 ≡ value g q → Decoded ws g
unfolding grammar field
grammar_decoded ws g q e =
    let u = then_value (field ws 1 64 0) (λ n. ◌>>=◌ (many n (kind ws n)) (λ ks. ◌>>◌ (end 10 ws) (return ks))) e in
    let f = in_value 10 11 ws 1 64 0 u.2 in
    let v = then_value (many u.0 (kind ws u.0) u.1) (λ ks. ◌>>◌ (end 10 ws) (return ks)) u.3 in
    let w = then_value (end 10 ws v.1) (λ a. return v.0) v.3 in
    decoded_of ws u.0 u.1 v.0 g v.1 f.0 f.1 f.2 f.3 (cc w.3) v.2

pub read_decoded : (ws : Words) (g : Grammar) (q : ℕ) → read_grammar ws ≡ value g q → Decoded ws g
unfolding read_grammar
read_decoded ws g q e =
    let u = then_value (grammar ws 0) (λ h next. and_then (finite_records ws (length h) (finite h) 1) (λ a. return h)) e in
    let v = then_value (finite_records ws (length u.0) (finite u.0) 1) (λ a. return u.0) u.3 in
    let z : u.0 ≡ g = cc v.3 in
    rw z at (grammar_decoded ws u.0 u.1 u.2)

pub decoded_length : (ws : Words) (g : Grammar) → Decoded ws g → length g ≡ type_count ws
decoded_length ws g d = many_length (kind ws (type_count ws)) (type_count ws) 1 g d.next d.records

pub accepted_decoded : (ws : Words) → accepted (read_grammar ws) ≡ true → Decoded ws (read_of (read_grammar ws))
accepted_decoded ws a = let u = accepted_value (read_grammar ws) a in rw (ap read_of u.2) (read_decoded ws u.0 u.1 u.2)

pub fill_start : (ws : Words) (g : Grammar) (heads rows : List ℕ) (left : ℕ) → Decoded ws g → left ≡ get_or ws 0 0 → FillLoop ws g heads rows heads rows left 0 1
fill_start ws g heads rows left d e = record { rest = g; end = d.next; reads = rw e d.records; rows_so = refl; heads_so = refl; count = omega arith; few = d.high }

pub filled_tables : (ws : Words) (g : Grammar) (heads₀ rows₀ heads rows : List ℕ) → Decoded ws g → heads₀ ≡ replicate 128 0 → rows₀ ≡ replicate 9216 0
    → heads ≡ put_heads heads₀ 0 g → rows ≡ put_kinds rows₀ 0 g → Tables g heads rows
filled_tables ws g heads₀ rows₀ heads rows d eh er h r =
    let s = kinds_small ws (type_count ws) (type_count ws) 1 g d.next d.records in
    let l : length g ≤ 64 = omega (arith, decoded_length ws g d, d.high) in
    record { heads_of = rw (h, eh) (heads_shown g s l); rows_of_lem = rw (r, er) (rows_shown g s l) }

-- the tables of no types are all zero
zeros : (n i : ℕ) → ◌≡◌ {A = ℕ} (get_or (replicate n 0) i 0) 0
zeros zero i = refl
zeros (suc n) zero = refl
zeros (suc n) (suc i) = zeros n i

no_row : (t v : ℕ) → children [] t v ≡ []
unfolding children children_of kind_of
no_row t v = refl

pub blank_tables : Tables [] (replicate 128 0) (replicate 9216 0)
unfolding kind_of map_of values_of forms_of
blank_tables = record {
  heads_of = record { types = omega arith; forms = λ t. omega arith; map = λ t h. zeros 128 (t * 2); values = λ t h. zeros 128 (t * 2 + 1) };
  rows_of_lem = record { types = omega arith; values = λ t v h. no_row t v; most = λ t v. rw (no_row t v) (omega arith); row = λ t v i ht hv hi. zeros 9216 (row_at t v + i) ∙ rw (no_row t v) (sym (zeros 1 i)) };
}

-- The loops that fill the tables. Assumes nothing.
use Prim.Native.Nat.{ℕ, suc, ◌+◌, ◌-◌, ◌*◌, ◌<◌, ◌≤◌}
use mathlib.Core.Path.{◌≡◌, refl, sym, ap, ◌∙◌}
use mathlib.Core.List.{List, [], ◌∷◌, ◌++◌}
use mathlib.Core.Bool.{Bool, true, false}
use native.Mathlib.Omega.{arith}
use native.Mathlib.Numerals.{add-one, add-two}
use lib.ListN.{length, get_or, set, length-append}
use lib.Seq.{sets}
use lib.Dec.{ltb, leb}
use borrow.Author.Tests.{ltb-true, lt-ltb, le-leb, lt-leb, ne_eqb}
use Rattle.words.specs.Reader.{Words, pick, or, value, many, accepted}
use Rattle.words.proofs.Laws.{accepted_value, many_none, many_suc, many_length, or_true}
use Rattle.words.proofs.Sets.{sets_append, set_below}
use Rattle.grammar.specs.Limits.{greatest_name, greatest_number}
use Rattle.grammar.specs.Grammar.{Style, repeat, list, map_in, Kind, token, opt, sequence, forms, Grammar, is_literal, types_of, element, form, kind}
use Rattle.grammar.specs.Values.{values_of}
use Rattle.tables.specs.Tables.{map_of, row_at}
use Rattle.tables.specs.Filling.{list_of, kind_read, next_of, type_count, row_of, rows_of, put_rows, put_kinds, put_heads, ElementPut, FormPut, FormsPut, KindPut}
use Rattle.tables.proofs.Records.{element_at, FormAt, form_at_lem, KindAt, is_token, is_opt, is_sequence, has_forms, RecordAt, record_at}

-- a sequence's map is no other kind's
pub style_map : (s : Style) → (4 ≤ map_in s) × (map_in s ≡ 8 → ⊥)
style_map repeat = (omega arith, λ e. omega arith)
style_map list = (omega arith, λ e. omega arith)

-- AN ELEMENT

pub literal_low : (e : ℕ) → e < 65536 → false ≡ is_literal e
literal_low e h = rw (lt-leb 65536 e h)

pub literal_high : (e : ℕ) → 65536 ≤ e → leb e 131071 ≡ is_literal e
literal_high e h = rw (le-leb 65536 e h)

types_of_literal : (e : ℕ) → is_literal e ≡ true → types_of (e ∷ []) ≡ []
unfolding types_of
types_of_literal e h = rw h

types_of_type : (e : ℕ) → is_literal e ≡ false → types_of (e ∷ []) ≡ e ∷ []
unfolding types_of
types_of_type e h = rw h

pub put_literal : (rows : List ℕ) (base m e : ℕ) (l : Bool) → l ≡ is_literal e → l ≡ true → ElementPut rows rows base m e m
put_literal rows base m e l el h =
    let t = types_of_literal e (sym el ∙ h) in
    record { stored = rw t; count = let z : m ≡ m + 0 = omega arith in rw t z }

pub put_type : (rows rows' : List ℕ) (base m e x : ℕ) (l : Bool) → l ≡ is_literal e → l ≡ false → x ≡ e → rows' ≡ set rows (base + 1 + m) x → ElementPut rows rows' base m e (m + 1)
put_type rows rows' base m e x l el h ex s =
    let t = types_of_type e (sym el ∙ h) in
    record { stored = s ∙ rw (t, ex); count = rw t }

-- an element that is no literal is a type
pub type_small : (e : ℕ) (l : Bool) → l ≡ is_literal e → l ≡ false → or (ltb e 64) (is_literal e) ≡ true → e < 64
type_small e l el h s = ltb-true e 64 (go (ltb e 64) (is_literal e) (sym el ∙ h) s)
  where
    go : (a b : Bool) → b ≡ false → or a b ≡ true → a ≡ true
    go true b f s = refl
    go false b f s = sym f ∙ s

-- A FORM

types_cons : (e : ℕ) (es : List ℕ) → types_of (e ∷ es) ≡ types_of (e ∷ []) ++ types_of es
unfolding types_of
types_cons e es = go (is_literal e)
  where
    go : (b : Bool) → pick b (types_of es) (e ∷ types_of es) ≡ pick b [] (e ∷ []) ++ types_of es
    go true = refl
    go false = refl

types_nil : types_of [] ≡ []
unfolding types_of
types_nil = refl

types_one : (e : ℕ) → length (types_of (e ∷ [])) ≤ 1
unfolding types_of
types_one e = go (is_literal e)
  where
    go : (b : Bool) → length (pick b [] (e ∷ [])) ≤ 1
    go true = omega arith
    go false = omega arith

-- the elements still to be stored
pub record FormLoop (ws : Words) (at base : ℕ) (rows₀ rows : List ℕ) (left p m : ℕ) : Type 0 where
  pub rest : List ℕ
  pub reads : many left (element ws (type_count ws)) p ≡ value rest (next_of (form ws (type_count ws) at))
  pub stored : sets rows (base + 1 + m) (types_of rest) ≡ sets rows₀ (base + 1) (list_of (form ws (type_count ws) at))
  pub count : m + length (types_of rest) ≡ length (list_of (form ws (type_count ws) at))
  pub room : m + left ≤ 8

form_begin : (ws : Words) (at base : ℕ) (rows : List ℕ) (ts : List ℕ) (next left : ℕ) → form ws (type_count ws) at ≡ value ts next → left ≡ get_or ws at 0 → FormAt ws (type_count ws) at ts next → FormLoop ws at base rows rows left (at + 1) 0
form_begin ws at base rows ts next left e el f = record {
  rest = f.elements;
  reads = rw (e, el) f.reads;
  stored = let z : base + 1 + 0 ≡ base + 1 = omega arith in rw (e, f.types, z);
  count = let z : 0 + length ts ≡ length ts = omega arith in rw (e, f.types) z;
  room = omega (arith, f.few);
}

pub form_start : (ws : Words) (at base : ℕ) (rows : List ℕ) (left : ℕ) → accepted (form ws (type_count ws) at) ≡ true → left ≡ get_or ws at 0 → FormLoop ws at base rows rows left (at + 1) 0
form_start ws at base rows left a el =
    let u = accepted_value (form ws (type_count ws) at) a in
    form_begin ws at base rows u.0 u.1 left u.2 el (form_at_lem ws (type_count ws) at u.2)

pub form_inside : (ws : Words) (at : ℕ) → accepted (form ws (type_count ws) at) ≡ true → at < length ws
form_inside ws at a = let u = accepted_value (form ws (type_count ws) at) a in (form_at_lem ws (type_count ws) at u.2).inside

below_types : (e n : ℕ) → n ≤ 64 → or (ltb e n) (is_literal e) ≡ true → or (ltb e 64) (is_literal e) ≡ true
below_types e n h s = go (ltb e n) refl s
  where
    go : (a : Bool) → ltb e n ≡ a → or a (is_literal e) ≡ true → or (ltb e 64) (is_literal e) ≡ true
    go true d s = rw (lt-ltb e 64 (omega (arith, ltb-true e n d)))
    go false d s = rw s (or_true (ltb e 64))

module _ (ws : Words) (at base : ℕ) (rows₀ rows : List ℕ) (left p m : ℕ) (i : FormLoop ws at base rows₀ rows left p m) where
  pub form_end : left ≤ 0 → (rows' : List ℕ) → rows' ≡ set rows base m → FormPut rows₀ rows' base p (form ws (type_count ws) at)
  form_end h rows' e = done i.rest i.reads i.stored i.count
    where
      done : (rest : List ℕ) → many left (element ws (type_count ws)) p ≡ value rest (next_of (form ws (type_count ws) at))
          → sets rows (base + 1 + m) (types_of rest) ≡ sets rows₀ (base + 1) (list_of (form ws (type_count ws) at))
          → m + length (types_of rest) ≡ length (list_of (form ws (type_count ws) at)) → FormPut rows₀ rows' base p (form ws (type_count ws) at)
      done rest r s c =
          let q = many_none (element ws (type_count ws)) left p h in
          let z : rest ≡ [] = cc in
          let y : p ≡ next_of (form ws (type_count ws) at) = cc in
          let x : rows ≡ sets rows₀ (base + 1) (list_of (form ws (type_count ws) at)) = rw (z, types_nil) at s in
          let n : m + 0 ≡ length (list_of (form ws (type_count ws) at)) = rw (z, types_nil) at c in
          let k : m ≡ length (list_of (form ws (type_count ws) at)) = omega arith in
          record { stored = e ∙ rw (x, k) (set_below rows₀ base (base + 1) (length (list_of (form ws (type_count ws) at))) (list_of (form ws (type_count ws) at)) (omega arith) ∙ rw add-one); next = y }

  module _ (some : 0 < left) where
    next_element : (e : ℕ) × (q : ℕ) × (more : List ℕ) × (element ws (type_count ws) p ≡ value e q) × (many (left - 1) (element ws (type_count ws)) q ≡ value more (next_of (form ws (type_count ws) at))) × (i.rest ≡ e ∷ more)
    next_element = let z : left ≡ suc (left - 1) = omega arith in many_suc (element ws (type_count ws)) (left - 1) p (rw z at i.reads)

    pub form_element : type_count ws ≤ 64 → (x : ℕ) → x ≡ get_or ws p 0 → (or (ltb x 64) (is_literal x) ≡ true) × (p < length ws)
    form_element h x ex =
        let u = next_element in
        let a = element_at ws (type_count ws) p u.3 in
        (rw (ex, ← a.is) (below_types u.0 (type_count ws) h a.stands), a.inside)

    pub form_more : (x r : ℕ) (rows' : List ℕ) → x ≡ get_or ws p 0 → ElementPut rows rows' base m x r → FormLoop ws at base rows₀ rows' (left - 1) (p + 1) r
    form_more x r rows' ex put =
        let u = next_element in
        let a = element_at ws (type_count ws) p u.3 in
        stepped u.2 (rw a.after at u.4) (u.5 ∙ rw (ex, a.is))
      where
        stepped : (more : List ℕ) → many (left - 1) (element ws (type_count ws)) (p + 1) ≡ value more (next_of (form ws (type_count ws) at)) → i.rest ≡ x ∷ more
            → FormLoop ws at base rows₀ rows' (left - 1) (p + 1) r
        stepped more reads er =
            let c : m + length (types_of (x ∷ more)) ≡ length (list_of (form ws (type_count ws) at)) = rw er at i.count in
            let s : sets rows (base + 1 + m) (types_of (x ∷ more)) ≡ sets rows₀ (base + 1) (list_of (form ws (type_count ws) at)) = rw er at i.stored in
            let l : length (types_of (x ∷ more)) ≡ length (types_of (x ∷ [])) + length (types_of more) = rw (types_cons x more) (length-append (types_of (x ∷ [])) (types_of more)) in
            let z : base + 1 + r ≡ base + 1 + m + length (types_of (x ∷ [])) = omega (arith, put.count) in
            record {
              rest = more;
              reads = reads;
              stored = rw (z, put.stored) (sym (sets_append rows (base + 1 + m) (types_of (x ∷ [])) (types_of more)) ∙ ap (λ l. sets rows (base + 1 + m) l) (sym (types_cons x more)) ∙ s);
              count = omega (arith, put.count);
              room = omega (arith, put.count, types_one x, i.room);
            }

-- THE FORMS OF A TYPE

-- the forms still to be stored
pub record FormsLoop (ws : Words) (t k start : ℕ) (rows₀ rows : List ℕ) (left v at : ℕ) : Type 0 where
  pub rest : List (List ℕ)
  pub reads : many left (form ws (type_count ws)) at ≡ value rest (next_of (many k (form ws (type_count ws)) start))
  pub stored : put_rows rows t v rest ≡ put_rows rows₀ t 0 (list_of (many k (form ws (type_count ws)) start))
  pub count : v + left ≡ k

pub forms_start : (ws : Words) (t k start : ℕ) (rows : List ℕ) → accepted (many k (form ws (type_count ws)) start) ≡ true → FormsLoop ws t k start rows rows k 0 start
forms_start ws t k start rows a = begun (accepted_value (many k (form ws (type_count ws)) start) a).0 (accepted_value (many k (form ws (type_count ws)) start) a).1 (accepted_value (many k (form ws (type_count ws)) start) a).2
  where
    begun : (fs : List (List ℕ)) (next : ℕ) → many k (form ws (type_count ws)) start ≡ value fs next → FormsLoop ws t k start rows rows k 0 start
    begun fs next e = record { rest = fs; reads = rw e; stored = rw e; count = omega arith }

put_none : (rows : List ℕ) (t v : ℕ) → put_rows rows t v [] ≡ rows
unfolding put_rows
put_none rows t v = refl

put_form : (rows : List ℕ) (t v : ℕ) (f : List ℕ) (fs : List (List ℕ)) → put_rows rows t v (f ∷ fs) ≡ put_rows (sets rows (row_at t v) (row_of f)) t (v + 1) fs
unfolding put_rows
put_form rows t v f fs = refl

module _ (ws : Words) (t k start : ℕ) (rows₀ rows : List ℕ) (left v at : ℕ) (i : FormsLoop ws t k start rows₀ rows left v at) where
  pub forms_end : left ≤ 0 → FormsPut rows₀ rows t at (many k (form ws (type_count ws)) start)
  forms_end h = done i.rest i.reads i.stored
    where
      done : (rest : List (List ℕ)) → many left (form ws (type_count ws)) at ≡ value rest (next_of (many k (form ws (type_count ws)) start))
          → put_rows rows t v rest ≡ put_rows rows₀ t 0 (list_of (many k (form ws (type_count ws)) start)) → FormsPut rows₀ rows t at (many k (form ws (type_count ws)) start)
      done rest r s =
          let q = many_none (form ws (type_count ws)) left at h in
          let z : rest ≡ [] = cc in
          let y : at ≡ next_of (many k (form ws (type_count ws)) start) = cc in
          record { stored = sym (put_none rows t v) ∙ (rw z at s); next = y }

  module _ (some : 0 < left) where
    next_form : (f : List ℕ) × (q : ℕ) × (more : List (List ℕ)) × (form ws (type_count ws) at ≡ value f q) × (many (left - 1) (form ws (type_count ws)) q ≡ value more (next_of (many k (form ws (type_count ws)) start))) × (i.rest ≡ f ∷ more)
    next_form = let z : left ≡ suc (left - 1) = omega arith in many_suc (form ws (type_count ws)) (left - 1) at (rw z at i.reads)

    pub forms_form : accepted (form ws (type_count ws) at) ≡ true
    forms_form = let u = next_form in ap accepted u.3

    pub forms_more : (base r : ℕ) (rows' : List ℕ) → base ≡ row_at t v → FormPut rows rows' base r (form ws (type_count ws) at) → FormsLoop ws t k start rows₀ rows' (left - 1) (v + 1) r
    forms_more base r rows' eb put =
        let u = next_form in
        stepped u.0 u.1 u.2 u.3 u.4 u.5
      where
        stepped : (f : List ℕ) (q : ℕ) (more : List (List ℕ)) → form ws (type_count ws) at ≡ value f q → many (left - 1) (form ws (type_count ws)) q ≡ value more (next_of (many k (form ws (type_count ws)) start))
            → i.rest ≡ f ∷ more → FormsLoop ws t k start rows₀ rows' (left - 1) (v + 1) r
        stepped f q more e reads er =
            let n : r ≡ q = put.next ∙ ap next_of e in
            let s : rows' ≡ sets rows (row_at t v) (row_of f) = put.stored ∙ rw (eb, e) in
            let w : put_rows rows t v (f ∷ more) ≡ put_rows rows₀ t 0 (list_of (many k (form ws (type_count ws)) start)) = rw er at i.stored in
            record {
              rest = more;
              reads = rw n reads;
              stored = rw s (sym (put_form rows t v f more) ∙ w);
              count = omega (arith, i.count);
            }

-- A RECORD

module _ (ws : Words) (at : ℕ) (a : accepted (kind ws (type_count ws) at) ≡ true) where
  the_record : (k : Kind) × (next : ℕ) × (kind ws (type_count ws) at ≡ value k next) × RecordAt ws (type_count ws) at k next
  the_record = let u = accepted_value (kind ws (type_count ws) at) a in (u.0, u.1, u.2, record_at ws (type_count ws) at u.0 u.1 u.2)

  pub record_inside : at + 1 < length ws
  record_inside = the_record.3.inside

  module _ (m w : ℕ) (em : m ≡ get_or ws at 0) (ew : w ≡ get_or ws (at + 1) 0) where
    -- a record with forms
    forms_told : (k : Kind) (next : ℕ) → KindAt ws (type_count ws) at k next → m ≡ 8 → (fs : List (List ℕ)) × (k ≡ forms fs) × (w ≤ 16) × (many w (form ws (type_count ws)) (at + 2) ≡ value fs next)
    forms_told k next (is_token e c) h = absurd (omega arith)
    forms_told k next (is_opt e c l) h = absurd (omega arith)
    forms_told k next (is_sequence style e c l) h = absurd ((style_map style).1 (sym e ∙ sym em ∙ h))
    forms_told k next (has_forms {fs} c e ec low high r) h = let z : w ≡ c = ew ∙ ec in (fs, refl, omega arith, rw z r)

    pub record_forms : m ≡ 8 → (w ≤ 16) × (accepted (many w (form ws (type_count ws)) (at + 2)) ≡ true)
    record_forms h = let u = the_record in let f = forms_told u.0 u.1 u.3.kind_at h in (f.2, ap accepted f.3)

    pub put_forms : m ≡ 8 → (t r : ℕ) (rows rows' : List ℕ) → FormsPut rows rows' t r (many w (form ws (type_count ws)) (at + 2)) → KindPut rows rows' t r (kind ws (type_count ws) at)
    unfolding rows_of
    put_forms h t r rows rows' p =
        let u = the_record in
        let f = forms_told u.0 u.1 u.3.kind_at h in
        let s : rows' ≡ put_rows rows t 0 f.0 = p.stored ∙ ap (λ q. put_rows rows t 0 (list_of q)) f.3 in
        record {
          stored = s ∙ sym (ap (λ q. put_rows rows t 0 (rows_of t (kind_read q))) u.2 ∙ ap (λ k. put_rows rows t 0 (rows_of t k)) f.1);
          next = p.next ∙ ap next_of f.3 ∙ sym (ap next_of u.2);
        }

    -- a token
    token_told : (k : Kind) (next : ℕ) → KindAt ws (type_count ws) at k next → m ≡ 1 → (k ≡ token w) × (next ≡ at + 2)
    token_told k next (is_token e c) h = (rw (ew ∙ c), refl)
    token_told k next (is_opt e c l) h = absurd (omega arith)
    token_told k next (is_sequence style e c l) h = absurd (omega (arith, (style_map style).0))
    token_told k next (has_forms c e ec low high r) h = absurd (omega arith)

    pub put_token : m ≡ 1 → (t : ℕ) (rows : List ℕ) → KindPut rows rows t (at + 2) (kind ws (type_count ws) at)
    unfolding rows_of put_rows
    put_token h t rows =
        let u = the_record in
        let f = token_told u.0 u.1 u.3.kind_at h in
        record {
          stored = sym (ap (λ q. put_rows rows t 0 (rows_of t (kind_read q))) u.2 ∙ ap (λ k. put_rows rows t 0 (rows_of t k)) f.0);
          next = sym f.1 ∙ sym (ap next_of u.2);
        }

    -- an opt
    opt_told : (k : Kind) (next : ℕ) → KindAt ws (type_count ws) at k next → m ≡ 2 → (k ≡ opt w) × (next ≡ at + 2) × (w ≤ type_count ws - 1)
    opt_told k next (is_token e c) h = absurd (omega arith)
    opt_told k next (is_opt e c l) h = (rw (ew ∙ c), refl, omega arith)
    opt_told k next (is_sequence style e c l) h = absurd (omega (arith, (style_map style).0))
    opt_told k next (has_forms c e ec low high r) h = absurd (omega arith)

    pub record_opt : m ≡ 2 → type_count ws ≤ 64 → w < 64
    record_opt h l = let u = the_record in let f = opt_told u.0 u.1 u.3.kind_at h in omega (arith, f.2)

    pub put_opt : m ≡ 2 → (t base x : ℕ) (rows rows₁ rows₂ : List ℕ) → base ≡ row_at t 0 → x ≡ w → rows₁ ≡ set rows base 1 → rows₂ ≡ set rows₁ (base + 1) x → KindPut rows rows₂ t (at + 2) (kind ws (type_count ws) at)
    unfolding rows_of put_rows
    put_opt h t base x rows rows₁ rows₂ eb ex e₁ e₂ =
        let u = the_record in
        let f = opt_told u.0 u.1 u.3.kind_at h in
        let s : rows₂ ≡ sets rows (row_at t 0) (1 ∷ w ∷ []) = e₂ ∙ rw (e₁, ex, add-one base, eb) in
        record {
          stored = s ∙ sym (ap (λ q. put_rows rows t 0 (rows_of t (kind_read q))) u.2 ∙ ap (λ k. put_rows rows t 0 (rows_of t k)) f.0);
          next = sym f.1 ∙ sym (ap next_of u.2);
        }

    -- a sequence
    sequence_told : (k : Kind) (next : ℕ) → KindAt ws (type_count ws) at k next → (m ≡ 8 → ⊥) → (m ≡ 1 → ⊥) → (m ≡ 2 → ⊥) → (style : Style) × (k ≡ sequence style w) × (next ≡ at + 2) × (w ≤ type_count ws - 1)
    sequence_told k next (is_token e c) h₈ h₁ h₂ = absurd (h₁ (em ∙ e))
    sequence_told k next (is_opt e c l) h₈ h₁ h₂ = absurd (h₂ (em ∙ e))
    sequence_told k next (is_sequence style e c l) h₈ h₁ h₂ = (style, rw (ew ∙ c), refl, omega arith)
    sequence_told k next (has_forms c e ec low high r) h₈ h₁ h₂ = absurd (h₈ (em ∙ e))

    pub record_sequence : (m ≡ 8 → ⊥) → (m ≡ 1 → ⊥) → (m ≡ 2 → ⊥) → type_count ws ≤ 64 → w < 64
    record_sequence h₈ h₁ h₂ l = let u = the_record in let f = sequence_told u.0 u.1 u.3.kind_at h₈ h₁ h₂ in omega (arith, f.3)

    pub put_sequence : (m ≡ 8 → ⊥) → (m ≡ 1 → ⊥) → (m ≡ 2 → ⊥) → (t base x : ℕ) (rows rows₁ rows₂ rows₃ : List ℕ) → base ≡ row_at t 0 → x ≡ w
        → rows₁ ≡ set rows base 2 → rows₂ ≡ set rows₁ (base + 1) x → rows₃ ≡ set rows₂ (base + 2) t → KindPut rows rows₃ t (at + 2) (kind ws (type_count ws) at)
    unfolding rows_of put_rows
    put_sequence h₈ h₁ h₂ t base x rows rows₁ rows₂ rows₃ eb ex e₁ e₂ e₃ =
        let u = the_record in
        let f = sequence_told u.0 u.1 u.3.kind_at h₈ h₁ h₂ in
        let s : rows₃ ≡ sets rows (row_at t 0) (2 ∷ w ∷ t ∷ []) = e₃ ∙ rw (e₂, e₁, ex, add-one base, add-two base, eb) in
        record {
          stored = s ∙ sym (ap (λ q. put_rows rows t 0 (rows_of t (kind_read q))) u.2 ∙ ap (λ k. put_rows rows t 0 (rows_of t k)) f.1);
          next = sym f.2 ∙ sym (ap next_of u.2);
        }

    -- the map and the values
    map_forms : (fs : List (List ℕ)) (c next : ℕ) → 1 ≤ c → many c (form ws (type_count ws)) (at + 2) ≡ value fs next → 8 ≡ map_of (forms fs)
    unfolding map_of
    map_forms [] c next low r = let l = many_length (form ws (type_count ws)) c (at + 2) [] next r in absurd (omega arith)
    map_forms (f ∷ fs) c next low r = refl

    is_told : (k : Kind) (next : ℕ) → KindAt ws (type_count ws) at k next → m ≡ map_of k
    unfolding map_of
    is_told k next (is_token e c) = em ∙ e
    is_told k next (is_opt e c l) = em ∙ e
    is_told k next (is_sequence style e c l) = em ∙ e
    is_told k next (has_forms {fs} c e ec low high r) = em ∙ e ∙ map_forms fs c next low r

    pub record_map : m ≡ map_of (kind_read (kind ws (type_count ws) at))
    record_map = let u = the_record in is_told u.0 u.1 u.3.kind_at ∙ sym (ap (λ q. map_of (kind_read q)) u.2)

    value_told : {r : ℕ} → ((k : Kind) (next : ℕ) → KindAt ws (type_count ws) at k next → r ≡ values_of k) → r ≡ values_of (kind_read (kind ws (type_count ws) at))
    value_told f = let u = the_record in f u.0 u.1 u.3.kind_at ∙ sym (ap (λ q. values_of (kind_read q)) u.2)

    pub values_forms : m ≡ 8 → w ≡ values_of (kind_read (kind ws (type_count ws) at))
    unfolding values_of
    values_forms h = value_told (λ k next x. let f = forms_told k next x h in sym (many_length (form ws (type_count ws)) w (at + 2) f.0 next f.3) ∙ sym (ap values_of f.1))

    pub values_number : m ≡ 1 → w ≡ 2 → greatest_number + 1 ≡ values_of (kind_read (kind ws (type_count ws) at))
    unfolding values_of
    values_number h e = value_told (λ k next x. let f = token_told k next x h in sym (ap values_of f.0 ∙ rw e))

    pub values_name : m ≡ 1 → (w ≡ 2 → ⊥) → greatest_name + 1 ≡ values_of (kind_read (kind ws (type_count ws) at))
    unfolding values_of
    values_name h e = value_told (λ k next x. let f = token_told k next x h in sym (ap values_of f.0 ∙ rw (ne_eqb w 2 e)))

    pub values_two : (m ≡ 8 → ⊥) → (m ≡ 1 → ⊥) → 2 ≡ values_of (kind_read (kind ws (type_count ws) at))
    unfolding values_of
    values_two h₈ h₁ = value_told two
      where
        two : (k : Kind) (next : ℕ) → KindAt ws (type_count ws) at k next → 2 ≡ values_of k
        two k next (is_token e c) = absurd (h₁ (em ∙ e))
        two k next (is_opt e c l) = refl
        two k next (is_sequence style e c l) = refl
        two k next (has_forms c e ec low high r) = absurd (h₈ (em ∙ e))

-- THE TYPES

-- the types still to be stored
pub record FillLoop (ws : Words) (g : Grammar) (heads₀ rows₀ heads rows : List ℕ) (left t at : ℕ) : Type 0 where
  pub rest : Grammar
  pub end : ℕ
  pub reads : many left (kind ws (type_count ws)) at ≡ value rest end
  pub rows_so : put_kinds rows t rest ≡ put_kinds rows₀ 0 g
  pub heads_so : put_heads heads t rest ≡ put_heads heads₀ 0 g
  pub count : t + left ≡ type_count ws
  pub few : type_count ws ≤ 64

kinds_none : (rows heads : List ℕ) (t : ℕ) → (put_kinds rows t [] ≡ rows) × (put_heads heads t [] ≡ heads)
unfolding put_kinds put_heads
kinds_none rows heads t = (refl, refl)

kinds_more : (rows heads : List ℕ) (t : ℕ) (k : Kind) (ks : Grammar)
    → (put_kinds rows t (k ∷ ks) ≡ put_kinds (put_rows rows t 0 (rows_of t k)) (t + 1) ks) × (put_heads heads t (k ∷ ks) ≡ put_heads (sets heads (t * 2) (map_of k ∷ values_of k ∷ [])) (t + 1) ks)
unfolding put_kinds put_heads
kinds_more rows heads t k ks = (refl, refl)

module _ (ws : Words) (g : Grammar) (heads₀ rows₀ heads rows : List ℕ) (left t at : ℕ) (i : FillLoop ws g heads₀ rows₀ heads rows left t at) where
  pub fill_end : left ≤ 0 → (rows ≡ put_kinds rows₀ 0 g) × (heads ≡ put_heads heads₀ 0 g)
  fill_end h = done i.rest i.reads i.rows_so i.heads_so
    where
      done : (rest : Grammar) → many left (kind ws (type_count ws)) at ≡ value rest i.end → put_kinds rows t rest ≡ put_kinds rows₀ 0 g → put_heads heads t rest ≡ put_heads heads₀ 0 g
          → (rows ≡ put_kinds rows₀ 0 g) × (heads ≡ put_heads heads₀ 0 g)
      done rest r s u =
          let q = many_none (kind ws (type_count ws)) left at h in
          let z : rest ≡ [] = cc in
          let n = kinds_none rows heads t in
          (sym n.0 ∙ (rw z at s), sym n.1 ∙ (rw z at u))

  module _ (some : 0 < left) where
    next_kind : (k : Kind) × (q : ℕ) × (more : Grammar) × (kind ws (type_count ws) at ≡ value k q) × (many (left - 1) (kind ws (type_count ws)) q ≡ value more i.end) × (i.rest ≡ k ∷ more)
    next_kind = let z : left ≡ suc (left - 1) = omega arith in many_suc (kind ws (type_count ws)) (left - 1) at (rw z at i.reads)

    pub fill_record : accepted (kind ws (type_count ws) at) ≡ true
    fill_record = let u = next_kind in ap accepted u.3

    pub fill_more : (r m n : ℕ) (heads₁ heads₂ rows' : List ℕ) → m ≡ map_of (kind_read (kind ws (type_count ws) at)) → n ≡ values_of (kind_read (kind ws (type_count ws) at))
        → heads₁ ≡ set heads (t * 2) m → heads₂ ≡ set heads₁ (t * 2 + 1) n → KindPut rows rows' t r (kind ws (type_count ws) at) → FillLoop ws g heads₀ rows₀ heads₂ rows' (left - 1) (t + 1) r
    fill_more r m n heads₁ heads₂ rows' em en e₁ e₂ put =
        let u = next_kind in
        stepped u.0 u.1 u.2 u.3 u.4 u.5
      where
        stepped : (k : Kind) (q : ℕ) (more : Grammar) → kind ws (type_count ws) at ≡ value k q → many (left - 1) (kind ws (type_count ws)) q ≡ value more i.end → i.rest ≡ k ∷ more
            → FillLoop ws g heads₀ rows₀ heads₂ rows' (left - 1) (t + 1) r
        stepped k q more e reads er =
            let p : r ≡ q = put.next ∙ ap next_of e in
            let s : rows' ≡ put_rows rows t 0 (rows_of t k) = put.stored ∙ rw e in
            let m' : m ≡ map_of k = em ∙ rw e in
            let n' : n ≡ values_of k = en ∙ rw e in
            let h : heads₂ ≡ sets heads (t * 2) (map_of k ∷ values_of k ∷ []) = e₂ ∙ rw (e₁, m', n', add-one (t * 2)) in
            let w = kinds_more rows heads t k more in
            let a : put_kinds rows t (k ∷ more) ≡ put_kinds rows₀ 0 g = rw er at i.rows_so in
            let b : put_heads heads t (k ∷ more) ≡ put_heads heads₀ 0 g = rw er at i.heads_so in
            record {
              rest = more;
              end = i.end;
              reads = rw p reads;
              rows_so = rw s (sym w.0 ∙ a);
              heads_so = rw h (sym w.1 ∙ b);
              count = omega (arith, i.count);
              few = i.few;
            }

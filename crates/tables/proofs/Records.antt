-- What the words of a record that was read are. Assumes nothing.
use Prim.Native.Nat.{ℕ, suc, ◌+◌, ◌-◌, ◌<◌, ◌≤◌}
use mathlib.Core.Path.{◌≡◌, refl, sym, ap, ◌∙◌}
use mathlib.Core.List.{List, [], ◌∷◌}
use mathlib.Core.Bool.{Bool, true, false}
use native.Mathlib.Omega.{arith}
use lib.ListN.{length, get_or}
use lib.Dec.{ltb, eqb}
use borrow.Author.Tests.{eqb-true}
use Rattle.words.specs.Reader.{Words, pick, or, value, refused, and_then, ◌>>=◌, return, word, many}
use Rattle.words.proofs.Laws.{then_value, pick_value, word_value, in_value, many_length}
use Rattle.grammar.specs.Grammar.{Style, repeat, list, map_in, Kind, token, opt, sequence, forms, is_literal, types_of, field, element, form, kind}

-- AN ELEMENT

pub record ElementAt (ws : Words) (n at e next : ℕ) : Type 0 where
  pub inside : at < length ws
  pub is : e ≡ get_or ws at 0
  pub after : next ≡ at + 1
  pub stands : or (ltb e n) (is_literal e) ≡ true

pub element_at : (ws : Words) (n at : ℕ) {e next : ℕ} → element ws n at ≡ value e next → ElementAt ws n at e next
unfolding element
element_at ws n at {e} {next} h =
    let u = then_value (word 10 ws at) (λ x p. pick (or (ltb x n) (is_literal x)) (value x p) (refused 11 at)) h in
    let w = word_value 10 ws at u.2 in
    let v = pick_value (or (ltb u.0 n) (is_literal u.0)) u.0 e u.1 11 at next u.3 in
    record { inside = w.0; is = sym v.1 ∙ w.1; after = sym v.2 ∙ w.2; stands = rw v.1 at v.0 }

-- A FORM

types_most : (es : List ℕ) → length (types_of es) ≤ length es
unfolding types_of
types_most [] = omega arith
types_most (e ∷ es) = go (is_literal e) (types_most es)
  where
    go : (b : Bool) → length (types_of es) ≤ length es → length (pick b (types_of es) (e ∷ types_of es)) ≤ suc (length es)
    go true h = omega arith
    go false h = omega arith

pub record FormAt (ws : Words) (n at : ℕ) (ts : List ℕ) (next : ℕ) : Type 0 where
  pub inside : at < length ws
  pub few : get_or ws at 0 ≤ 8
  pub elements : List ℕ
  pub reads : many (get_or ws at 0) (element ws n) (at + 1) ≡ value elements next
  pub types : types_of elements ≡ ts

form_of : (ws : Words) (n at : ℕ) {ts : List ℕ} {next : ℕ} (k p : ℕ) (es : List ℕ) → k ≡ get_or ws at 0 → p ≡ at + 1 → at < length ws → k ≤ 8
    → many k (element ws n) p ≡ value es next → types_of es ≡ ts → FormAt ws n at ts next
form_of ws n at k p es ek ep h few e t = record { inside = h; few = rw ek at few; elements = es; reads = rw (ek, ep) at e; types = t }

pub form_at_lem : (ws : Words) (n at : ℕ) {ts : List ℕ} {next : ℕ} → form ws n at ≡ value ts next → FormAt ws n at ts next
unfolding form field
form_at_lem ws n at {ts} {next} e =
    let u = then_value (field ws 0 8 at) (λ k. ◌>>=◌ (many k (element ws n)) (λ es. return (types_of es))) e in
    let f = in_value 10 11 ws 0 8 at u.2 in
    let v = then_value (many u.0 (element ws n) u.1) (λ es. return (types_of es)) u.3 in
    form_of ws n at u.0 u.1 v.0 f.0 f.1 f.4 f.3 (cc (v.2, v.3)) (cc v.3)

pub form_short : (ws : Words) (n at : ℕ) {ts : List ℕ} {next : ℕ} → form ws n at ≡ value ts next → length ts ≤ 8
form_short ws n at {ts} {next} e =
    let f = form_at_lem ws n at e in
    omega (arith, f.few, types_most f.elements, ap length f.types, many_length (element ws n) (get_or ws at 0) (at + 1) f.elements next f.reads)

-- A RECORD

pub data KindAt (ws : Words) (n at : ℕ) : Kind → ℕ → Type 0 where
  is_token : {c : ℕ} → get_or ws at 0 ≡ 1 → get_or ws (at + 1) 0 ≡ c → KindAt ws n at (token c) (at + 2)
  is_opt : {e : ℕ} → get_or ws at 0 ≡ 2 → get_or ws (at + 1) 0 ≡ e → e ≤ n - 1 → KindAt ws n at (opt e) (at + 2)
  is_sequence : (style : Style) {e : ℕ} → get_or ws at 0 ≡ map_in style → get_or ws (at + 1) 0 ≡ e → e ≤ n - 1 → KindAt ws n at (sequence style e) (at + 2)
  has_forms : {fs : List (List ℕ)} {next : ℕ} (k : ℕ) → get_or ws at 0 ≡ 8 → get_or ws (at + 1) 0 ≡ k → 1 ≤ k → k ≤ 16 → many k (form ws n) (at + 2) ≡ value fs next → KindAt ws n at (forms fs) next

pub record RecordAt (ws : Words) (n at : ℕ) (k : Kind) (next : ℕ) : Type 0 where
  pub inside : at + 1 < length ws
  pub kind_at : KindAt ws n at k next

module _ (ws : Words) (n at : ℕ) (k : Kind) (next : ℕ) where
  -- a record of one field
  one_field : (low high : ℕ) (make : ℕ → Kind) → and_then (field ws low high (at + 1)) (λ c. return (make c)) ≡ value k next
      → (at + 1 < length ws) × (c : ℕ) × (get_or ws (at + 1) 0 ≡ c) × (c ≤ high) × (make c ≡ k) × (at + 2 ≡ next)
  unfolding field
  one_field low high make h =
      let u = then_value (field ws low high (at + 1)) (λ c. return (make c)) h in
      let f = in_value 10 11 ws low high (at + 1) u.2 in
      let y : u.1 ≡ next = cc u.3 in
      (f.4, u.0, sym f.0, f.3, cc u.3, omega (arith, f.1))

  is_record : (kd : Kind) (p : ℕ) → kd ≡ k → p ≡ next → at + 1 < length ws → KindAt ws n at kd p → RecordAt ws n at k next
  is_record kd p ek ep h a = record { inside = h; kind_at = rw (ek, ep) at a }

  token_at : get_or ws at 0 ≡ 1 → and_then (field ws 1 3 (at + 1)) (λ c. return (token c)) ≡ value k next → RecordAt ws n at k next
  token_at m h = let u = one_field 1 3 token h in is_record (token u.1) (at + 2) u.4 u.5 u.0 (is_token m u.2)

  opt_at : get_or ws at 0 ≡ 2 → and_then (field ws 0 (n - 1) (at + 1)) (λ c. return (opt c)) ≡ value k next → RecordAt ws n at k next
  opt_at m h = let u = one_field 0 (n - 1) opt h in is_record (opt u.1) (at + 2) u.4 u.5 u.0 (is_opt m u.2 u.3)

  sequence_at : (style : Style) → get_or ws at 0 ≡ map_in style → and_then (field ws 0 (n - 1) (at + 1)) (λ c. return (sequence style c)) ≡ value k next → RecordAt ws n at k next
  sequence_at style m h = let u = one_field 0 (n - 1) (sequence style) h in is_record (sequence style u.1) (at + 2) u.4 u.5 u.0 (is_sequence style m u.2 u.3)

  has_forms_lem : (c p : ℕ) (fs : List (List ℕ)) → get_or ws at 0 ≡ 8 → c ≡ get_or ws (at + 1) 0 → 1 ≤ c → c ≤ 16 → p ≡ at + 2 → many c (form ws n) p ≡ value fs next → KindAt ws n at (forms fs) next
  has_forms_lem c p fs m ec low high ep e = has_forms c m (sym ec) low high (rw ep at e)

  forms_at : get_or ws at 0 ≡ 8 → and_then (field ws 1 16 (at + 1)) (λ c. ◌>>=◌ (many c (form ws n)) (λ fs. return (forms fs))) ≡ value k next → RecordAt ws n at k next
  unfolding field
  forms_at m h =
      let u = then_value (field ws 1 16 (at + 1)) (λ c. ◌>>=◌ (many c (form ws n)) (λ fs. return (forms fs))) h in
      let f = in_value 10 11 ws 1 16 (at + 1) u.2 in
      let v = then_value (many u.0 (form ws n) u.1) (λ fs. return (forms fs)) u.3 in
      is_record (forms v.0) next (cc v.3) refl f.4 (has_forms_lem u.0 u.1 v.0 m f.0 f.2 f.3 (omega (arith, f.1)) (cc (v.2, v.3)))

  pub record_at : kind ws n at ≡ value k next → RecordAt ws n at k next
  unfolding kind
  record_at e =
      let u = then_value (word 10 ws at) _ e in
      let w = word_value 10 ws at u.2 in
      go u.0 u.1 w.1 w.2 (eqb u.0 1) (eqb u.0 2) (eqb u.0 4) (eqb u.0 8) (eqb u.0 16) refl refl refl refl refl u.3
    where
      go : (m p : ℕ) → m ≡ get_or ws at 0 → p ≡ at + 1 → (a b c d f : Bool) → eqb m 1 ≡ a → eqb m 2 ≡ b → eqb m 4 ≡ c → eqb m 8 ≡ d → eqb m 16 ≡ f
          → pick a (◌>>=◌ (field ws 1 3) (λ c. return (token c))) (pick b (◌>>=◌ (field ws 0 (n - 1)) (λ c. return (opt c))) (pick c (◌>>=◌ (field ws 0 (n - 1)) (λ c. return (sequence repeat c)))
          (pick d (◌>>=◌ (field ws 1 16) (λ c. ◌>>=◌ (many c (form ws n)) (λ fs. return (forms fs)))) (pick f (◌>>=◌ (field ws 0 (n - 1)) (λ c. return (sequence list c))) (λ q. refused 11 at))))) p ≡ value k next
          → RecordAt ws n at k next
      go m p em ep true b c d f ea eb ec ed ef h = token_at (sym em ∙ eqb-true m 1 ea) (rw ep at h)
      go m p em ep false true c d f ea eb ec ed ef h = opt_at (sym em ∙ eqb-true m 2 eb) (rw ep at h)
      go m p em ep false false true d f ea eb ec ed ef h = sequence_at repeat (sym em ∙ eqb-true m 4 ec) (rw ep at h)
      go m p em ep false false false true f ea eb ec ed ef h = forms_at (sym em ∙ eqb-true m 8 ed) (rw ep at h)
      go m p em ep false false false false true ea eb ec ed ef h = sequence_at list (sym em ∙ eqb-true m 16 ef) (rw ep at h)
      go m p em ep false false false false false ea eb ec ed ef h = let z : ◌≡◌ {A = ℕ} 0 1 = cc in absurd (omega arith)

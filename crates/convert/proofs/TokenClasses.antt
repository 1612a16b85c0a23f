-- The classes of a grammar's tokens, found in its words record by record. Assumes nothing.
use Prim.Native.Nat.{ℕ, zero, suc, ◌+◌, ◌-◌, ◌<◌, ◌≤◌}
use mathlib.Core.Path.{◌≡◌, refl, sym, ap, ◌∙◌}
use mathlib.Core.List.{List, [], ◌∷◌, map}
use mathlib.Core.Bool.{Bool, true, false}
use native.Mathlib.Omega.{arith}
use native.Mathlib.Numerals.{add-one}
use lib.ListN.{length, get_or, set, replicate, length-replicate, length-map}
use lib.Seq.{sets}
use lib.Dec.{ltb}
use borrow.Author.Tests.{ltb-true, ltb-false}
use Rattle.words.specs.Reader.{Words, value, many, accepted}
use Rattle.words.proofs.Laws.{accepted_value, many_done, many_suc}
use Rattle.words.proofs.Stretches.{get_d_map}
use Rattle.words.proofs.Sets.{get_d_above, get_d_within}
use Rattle.grammar.specs.Grammar.{Kind, forms, Grammar, element, form, kind, read_grammar}
use Rattle.grammar.specs.Kinds.{kind_of}
use Rattle.tables.specs.Tables.{read_of}
use Rattle.tables.specs.Filling.{type_count, kind_read, next_of}
use Rattle.tables.proofs.Lookups.{no_kind}
use Rattle.tables.proofs.Records.{element_at, form_at_lem, KindAt, is_token, is_opt, is_sequence, has_forms, record_at}
use Rattle.tables.proofs.Filling.{style_map}
use Rattle.tables.proofs.Shown.{zeros_clear, accepted_decoded, decoded_length}
use Rattle.convert.specs.Table.{class_of}
use Rattle.convert.specs.Views.{Classes}

-- THE FORMS OF A RECORD

elements_next : (ws : Words) (n k p : ℕ) (es : List ℕ) (next : ℕ) → many k (element ws n) p ≡ value es next → next ≡ p + k
unfolding many
elements_next ws n zero p es next e = let z : p ≡ next = cc e in omega arith
elements_next ws n (suc k) p es next e =
    let u = many_suc (element ws n) k p e in
    let a = element_at ws n p u.3 in
    omega (arith, a.after, elements_next ws n k u.1 u.2 next u.4)

-- i forms have been passed
pub record FormsWalk (ws : Words) (k start i at : ℕ) : Type 0 where
  pub rest : List (List ℕ)
  pub reads : many (k - i) (form ws (type_count ws)) at ≡ value rest (next_of (many k (form ws (type_count ws)) start))

pub walk_start : (ws : Words) (k start : ℕ) → accepted (many k (form ws (type_count ws)) start) ≡ true → FormsWalk ws k start 0 start
walk_start ws k start a = let u = accepted_value (many k (form ws (type_count ws)) start) a in let z : k - 0 ≡ k = omega arith in record { rest = u.0; reads = rw z u.2 ∙ ap (value u.0) (sym (ap next_of u.2)) }

module _ {ws : Words} {k start i at : ℕ} (w : FormsWalk ws k start i at) where
  pub walk_end : k ≤ i → at ≡ next_of (many k (form ws (type_count ws)) start)
  walk_end h = let z : value [] at ≡ value w.rest (next_of (many k (form ws (type_count ws)) start)) = sym (many_done (form ws (type_count ws)) k i at h) ∙ w.reads in cc z

  module _ (more : i < k) where
    walked : (f : List ℕ) × (p : ℕ) × (fs : List (List ℕ)) × (form ws (type_count ws) at ≡ value f p) × (many (k - (i + 1)) (form ws (type_count ws)) p ≡ value fs (next_of (many k (form ws (type_count ws)) start)))
    walked =
        let z : suc (k - (i + 1)) ≡ k - i = omega arith in
        let u = many_suc (form ws (type_count ws)) (k - (i + 1)) at (ap (λ j. many j (form ws (type_count ws)) at) z ∙ w.reads) in
        (u.0, u.1, u.2, u.3, u.4)

    pub walk_inside : {x : ℕ} → x ≡ get_or ws at 0 → (at < length ws) × (x ≤ 8)
    walk_inside e = let f = form_at_lem ws (type_count ws) at walked.3 in (f.inside, omega (arith, f.few))

    pub walk_more : {x : ℕ} → x ≡ get_or ws at 0 → FormsWalk ws k start (i + 1) (at + (1 + x))
    walk_more {x} e =
        let u = walked in
        let a = form_at_lem ws (type_count ws) at u.3 in
        let n : u.1 ≡ at + (1 + x) = omega (arith, elements_next ws (type_count ws) (get_or ws at 0) (at + 1) a.elements u.1 a.reads) in
        record { rest = u.2; reads = ap (many (k - (i + 1)) (form ws (type_count ws))) (sym n) ∙ u.4 }

-- A RECORD

module _ (ws : Words) (at : ℕ) (a : accepted (kind ws (type_count ws) at) ≡ true) where
  there : (k : Kind) × (next : ℕ) × (kind ws (type_count ws) at ≡ value k next)
  there = accepted_value (kind ws (type_count ws) at) a

  pub record_long : at + 1 < length ws
  record_long = (record_at ws (type_count ws) at there.0 there.1 there.2).inside

  module _ (m : ℕ) (em : m ≡ get_or ws at 0) where
    formed : (k : Kind) (next w : ℕ) → KindAt ws (type_count ws) at k next → m ≡ 8 → w ≡ get_or ws (at + 1) 0 → (fs : List (List ℕ)) × (many w (form ws (type_count ws)) (at + 2) ≡ value fs next)
    formed k next w (is_token e c) h ew = absurd (omega arith)
    formed k next w (is_opt e c l) h ew = absurd (omega arith)
    formed k next w (is_sequence style e c l) h ew = absurd ((style_map style).1 (sym e ∙ sym em ∙ h))
    formed k next w (has_forms {fs} c e ec low high r) h ew = (fs, ap (λ i. many i (form ws (type_count ws)) (at + 2)) (ew ∙ ec) ∙ r)

    pub end_forms : m ≡ 8 → (w : ℕ) → w ≡ get_or ws (at + 1) 0 → (accepted (many w (form ws (type_count ws)) (at + 2)) ≡ true) × (next_of (many w (form ws (type_count ws)) (at + 2)) ≡ next_of (kind ws (type_count ws) at))
    end_forms h w ew =
        let u = formed there.0 there.1 w (record_at ws (type_count ws) at there.0 there.1 there.2).kind_at h ew in
        (ap accepted u.1, ap next_of u.1 ∙ sym (ap next_of there.2))

    one_field : (k : Kind) (next : ℕ) → KindAt ws (type_count ws) at k next → (m ≡ 8 → ⊥) → at + 2 ≡ next
    one_field k next (is_token e c) h = refl
    one_field k next (is_opt e c l) h = refl
    one_field k next (is_sequence style e c l) h = refl
    one_field k next (has_forms c e ec low high r) h = absurd (h (em ∙ e))

    pub end_field : (m ≡ 8 → ⊥) → at + 2 ≡ next_of (kind ws (type_count ws) at)
    end_field h = one_field there.0 there.1 (record_at ws (type_count ws) at there.0 there.1 there.2).kind_at h ∙ sym (ap next_of there.2)

    token_class : (k : Kind) (next : ℕ) → KindAt ws (type_count ws) at k next → m ≡ 1 → get_or ws (at + 1) 0 ≡ class_of k
    unfolding class_of
    token_class k next (is_token e c) h = c
    token_class k next (is_opt e c l) h = absurd (omega arith)
    token_class k next (is_sequence style e c l) h = absurd (omega (arith, (style_map style).0))
    token_class k next (has_forms c e ec low high r) h = absurd (omega arith)

    pub class_token : m ≡ 1 → (w : ℕ) → w ≡ get_or ws (at + 1) 0 → w ≡ class_of (kind_read (kind ws (type_count ws) at))
    class_token h w ew = ew ∙ token_class there.0 there.1 (record_at ws (type_count ws) at there.0 there.1 there.2).kind_at h ∙ sym (ap (λ q. class_of (kind_read q)) there.2)

    no_class : (k : Kind) (next : ℕ) → KindAt ws (type_count ws) at k next → (m ≡ 1 → ⊥) → 0 ≡ class_of k
    unfolding class_of
    no_class k next (is_token e c) h = absurd (h (em ∙ e))
    no_class k next (is_opt e c l) h = refl
    no_class k next (is_sequence style e c l) h = refl
    no_class k next (has_forms c e ec low high r) h = refl

    pub class_none : (m ≡ 1 → ⊥) → 0 ≡ class_of (kind_read (kind ws (type_count ws) at))
    class_none h = no_class there.0 there.1 (record_at ws (type_count ws) at there.0 there.1 there.2).kind_at h ∙ sym (ap (λ q. class_of (kind_read q)) there.2)

-- ALL RECORDS

-- the classes of the first t types are there
pub record ClassLoop (ws : Words) (cs : Words) (t at : ℕ) : Type 0 where
  pub rest : Grammar
  pub end : ℕ
  pub reads : many (type_count ws - t) (kind ws (type_count ws)) at ≡ value rest end
  pub stored : sets cs t (map class_of rest) ≡ sets (replicate 64 0) 0 (map class_of (read_of (read_grammar ws)))

-- a grammar has at most 64 types
pub few_types : (ws : Words) → accepted (read_grammar ws) ≡ true → type_count ws ≤ 64
few_types ws a = (accepted_decoded ws a).high

pub class_start : {ws : Words} → accepted (read_grammar ws) ≡ true → ClassLoop ws (replicate 64 0) 0 1
class_start {ws} a = let d = accepted_decoded ws a in let z : type_count ws - 0 ≡ type_count ws = omega arith in record { rest = read_of (read_grammar ws); end = d.next; reads = rw z d.records; stored = refl }

one_class : (cs : Words) (t x : ℕ) (k : Kind) (ks : Grammar) → x ≡ class_of k → sets (set cs t x) (t + 1) (map class_of ks) ≡ sets cs t (map class_of (k ∷ ks))
one_class cs t x k ks e = rw (e, add-one t)

no_type : (g : Grammar) (t : ℕ) → length g ≤ t → 0 ≡ class_of (kind_of g t)
unfolding class_of
no_type g t h = rw (no_kind g t h)

module _ {ws cs : Words} {t at : ℕ} (l : ClassLoop ws cs t at) (passes : accepted (read_grammar ws) ≡ true) where
  pub class_end : type_count ws ≤ t → Classes (read_of (read_grammar ws)) cs
  unfolding kind_of
  class_end h = record { class = λ i. found i (ltb i (length g)) refl }
    where
      g : Grammar
      g = read_of (read_grammar ws)

      long : length (map class_of g) ≤ 64
      long = let d = accepted_decoded ws passes in omega (arith, length-map g class_of, decoded_length ws g d, d.high)

      none : [] ≡ l.rest
      none = let z : value [] at ≡ value l.rest l.end = sym (many_done (kind ws (type_count ws)) (type_count ws) t at h) ∙ l.reads in cc z

      all : cs ≡ sets (replicate 64 0) 0 (map class_of g)
      all = ap (λ k. sets cs t (map class_of k)) none ∙ l.stored

      found : (i : ℕ) (b : Bool) → ltb i (length g) ≡ b → get_or cs i 0 ≡ class_of (kind_of g i)
      found i true e =
          let low = ltb-true i (length g) e in
          let z : 0 + i ≡ i = omega arith in
          ap (λ k. get_or k i 0) all ∙ ap (λ j. get_or (sets (replicate 64 0) 0 (map class_of g)) j 0) (sym z) ∙ get_d_within (replicate 64 0) 0 i (map class_of g) (omega (arith, long, length-replicate {A = ℕ} 64 0)) (omega (arith, length-map g class_of)) ∙ get_d_map class_of g i (forms []) 0 low
      found i false e =
          let high = ltb-false i (length g) e in
          ap (λ k. get_or k i 0) all ∙ get_d_above (replicate 64 0) 0 i (map class_of g) (omega (arith, length-map g class_of)) ∙ zeros_clear 64 i ∙ no_type g i high

  module _ (more : t < type_count ws) where
    first_record : (k : Kind) × (p : ℕ) × (ks : Grammar) × (kind ws (type_count ws) at ≡ value k p) × (many (type_count ws - (t + 1)) (kind ws (type_count ws)) p ≡ value ks l.end) × (l.rest ≡ k ∷ ks)
    first_record =
        let z : suc (type_count ws - (t + 1)) ≡ type_count ws - t = omega arith in
        let u = many_suc (kind ws (type_count ws)) (type_count ws - (t + 1)) at (ap (λ i. many i (kind ws (type_count ws)) at) z ∙ l.reads) in
        (u.0, u.1, u.2, u.3, u.4, u.5)

    pub class_record : accepted (kind ws (type_count ws) at) ≡ true
    class_record = ap accepted first_record.3

    pub class_more : {x r : ℕ} → x ≡ class_of (kind_read (kind ws (type_count ws) at)) → r ≡ next_of (kind ws (type_count ws) at) → ClassLoop ws (set cs t x) (t + 1) r
    class_more {x} {r} ex er =
        let u = first_record in
        let n : r ≡ u.1 = er ∙ ap next_of u.3 in
        let c : x ≡ class_of u.0 = ex ∙ ap (λ q. class_of (kind_read q)) u.3 in
        record {
          rest = u.2;
          end = l.end;
          reads = ap (many (type_count ws - (t + 1)) (kind ws (type_count ws))) n ∙ u.4;
          stored = one_class cs t x u.0 u.2 c ∙ sym (ap (λ k. sets cs t (map class_of k)) u.5) ∙ l.stored;
        }

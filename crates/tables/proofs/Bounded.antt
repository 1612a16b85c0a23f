-- An accepted grammar has at most 64 types, and names no type from 64 on. Assumes nothing.
use Prim.Native.Nat.{ℕ, zero, suc, ◌+◌, ◌<◌, ◌≤◌}
use mathlib.Core.Path.{◌≡◌, refl}
use mathlib.Core.List.{List, [], ◌∷◌, ◌++◌}
use mathlib.Core.Bool.{Bool, true, false}
use native.Mathlib.Omega.{arith}
use lib.ListN.{length, get_or}
use lib.Dec.{ltb, eqb}
use borrow.Author.Tests.{ltb-true}
use Rattle.words.specs.Reader.{Words, pick, or, value, many}
use Rattle.words.proofs.Laws.{many_suc}
use Rattle.grammar.specs.Limits.{most_types}
use Rattle.grammar.specs.Grammar.{Kind, token, opt, sequence, forms, Grammar, is_literal, types_of, element, form, kind, read_grammar}
use Rattle.grammar.specs.Kinds.{kind_of, children_of, children}
use Rattle.tables.specs.Filling.{type_count}
use Rattle.tables.proofs.Records.{element_at, form_at_lem, KindAt, is_token, is_opt, is_sequence, has_forms, record_at}
use Rattle.tables.proofs.Shown.{read_decoded, decoded_length}

-- types as an accepted grammar has them
abbrev pub Low : List ℕ → Type 0
Low [] = Unit {0}
Low (t ∷ ts) = (t < most_types) × Low ts

pub low_append : (ts us : List ℕ) → Low ts → Low us → Low (ts ++ us)
low_append [] us p q = q
low_append (t ∷ ts) us p q = (p.0, low_append ts us p.1 q)

pub record Bounded (g : Grammar) : Type 0 where
  pub few : length g ≤ most_types
  pub closed : (t v : ℕ) → t < most_types → Low (children g t v)

-- THE KINDS NAME SUCH TYPES

abbrev AllLow : List (List ℕ) → Type 0
AllLow [] = Unit {0}
AllLow (f ∷ fs) = Low f × AllLow fs

abbrev KindLow : Kind → Type 0
KindLow (token c) = Unit {0}
KindLow (opt e) = e < most_types
KindLow (sequence style e) = e < most_types
KindLow (forms fs) = AllLow fs

abbrev KindsLow : Grammar → Type 0
KindsLow [] = Unit {0}
KindsLow (k ∷ ks) = KindLow k × KindsLow ks

module _ (ws : Words) (n : ℕ) (few : n ≤ most_types) where
  types_cons : (e : ℕ) (es : List ℕ) → or (ltb e n) (is_literal e) ≡ true → Low (types_of es) → Low (types_of (e ∷ es))
  unfolding types_of
  types_cons e es = go (ltb e n) (is_literal e) refl
    where
      go : (a b : Bool) → ltb e n ≡ a → or a b ≡ true → Low (types_of es) → Low (pick b (types_of es) (e ∷ types_of es))
      go a true p q l = l
      go true false p q l = let z = ltb-true e n p in (omega arith, l)
      go false false p q l = let z : ◌≡◌ {A = ℕ} 0 1 = cc in absurd (omega arith)

  elements_low : (k at : ℕ) (es : List ℕ) (next : ℕ) → many k (element ws n) at ≡ value es next → Low (types_of es)
  unfolding many types_of
  elements_low zero at es next e = let z : [] ≡ es = cc in rw (← z) tt
  elements_low (suc k) at es next e =
      let u = many_suc (element ws n) k at e in
      rw u.5 (types_cons u.0 u.2 (element_at ws n at u.3).stands (elements_low k u.1 u.2 next u.4))

  form_low : (at : ℕ) (f : List ℕ) (next : ℕ) → form ws n at ≡ value f next → Low f
  form_low at f next e = let u = form_at_lem ws n at e in rw u.types at (elements_low (get_or ws at 0) (at + 1) u.elements next u.reads)

  forms_low : (k at : ℕ) (fs : List (List ℕ)) (next : ℕ) → many k (form ws n) at ≡ value fs next → AllLow fs
  unfolding many
  forms_low zero at fs next e = let z : [] ≡ fs = cc in rw (← z) tt
  forms_low (suc k) at fs next e =
      let u = many_suc (form ws n) k at e in
      rw u.5 (form_low at u.0 u.1 u.3, forms_low k u.1 u.2 next u.4)

  kind_low : {at : ℕ} {k : Kind} {next : ℕ} → KindAt ws n at k next → KindLow k
  kind_low (is_token e c) = tt
  kind_low (is_opt e c l) = omega arith
  kind_low (is_sequence style e c l) = omega arith
  kind_low {at} (has_forms {fs} {next} c e ec low high r) = forms_low c (at + 2) fs next r

  kinds_low : (k at : ℕ) (ks : Grammar) (next : ℕ) → many k (kind ws n) at ≡ value ks next → KindsLow ks
  unfolding many
  kinds_low zero at ks next e = let z : [] ≡ ks = cc in rw (← z) tt
  kinds_low (suc k) at ks next e =
      let u = many_suc (kind ws n) k at e in
      rw u.5 (kind_low (record_at ws n at u.0 u.1 u.3).kind_at, kinds_low k u.1 u.2 next u.4)

-- SO DO THEIR CHILDREN

form_at_low : (fs : List (List ℕ)) (v : ℕ) → AllLow fs → Low (get_or fs v [])
form_at_low [] v l = tt
form_at_low (f ∷ fs) zero l = l.0
form_at_low (f ∷ fs) (suc v) l = form_at_low fs v l.1

kind_at_low : (g : Grammar) (t : ℕ) → KindsLow g → KindLow (kind_of g t)
unfolding kind_of
kind_at_low [] t l = tt
kind_at_low (k ∷ ks) zero l = l.0
kind_at_low (k ∷ ks) (suc t) l = kind_at_low ks t l.1

pick_low : (b : Bool) (ts us : List ℕ) → Low ts → Low us → Low (pick b ts us)
pick_low true ts us p q = p
pick_low false ts us p q = q

children_of_low : (kd : Kind) (t v : ℕ) → t < most_types → KindLow kd → Low (children_of kd t v)
unfolding children_of
children_of_low (token c) t v h l = tt
children_of_low (opt e) t v h l = pick_low (eqb v 0) (e ∷ []) [] (l, tt) tt
children_of_low (sequence style e) t v h l = pick_low (eqb v 0) (e ∷ t ∷ []) [] (l, (h, tt)) tt
children_of_low (forms fs) t v h l = form_at_low fs v l

children_low : (g : Grammar) → KindsLow g → (t v : ℕ) → t < most_types → Low (children g t v)
unfolding children
children_low g l t v h = children_of_low (kind_of g t) t v h (kind_at_low g t l)

pub read_bounded : (ws : Words) (g : Grammar) (next : ℕ) → read_grammar ws ≡ value g next → Bounded g
read_bounded ws g next e =
    let d = read_decoded ws g next e in
    record {
      few = omega (arith, decoded_length ws g d, d.high);
      closed = children_low g (kinds_low ws (type_count ws) d.high (type_count ws) 1 g d.next d.records);
    }

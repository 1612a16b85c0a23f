-- What the layout's readers read, where they refuse nothing: types as a grammar has them, pairs that end where the next field begins. Assumes nothing.
use Prim.Native.Nat.{ℕ, zero, suc, ◌+◌, ◌-◌, ◌*◌, ◌≤◌, ◌<◌}
use mathlib.Core.Path.{◌≡◌, refl, sym, ap, ap₂, ◌∙◌, subst, subst₂}
use mathlib.Core.List.{List, []}
use mathlib.Core.Bool.{Bool, true, false}
use mathlib.Core.Option.{Option, none, some}
use native.Mathlib.Omega.{arith}
use lib.ListN.{length, get_or, drop, take, length-drop, length-take}
use lib.Dec.{leb, eqb}
use borrow.Author.Tests.{leb-true, le-leb, eqb-true}
use Rattle.words.specs.Reader.{Words, pick, value, refused, Reader, ◌>>=◌, return, word, many}
use Rattle.words.proofs.Laws.{then_value, word_value, pick_value, in_value, many_suc, many_length}
use Rattle.grammar.specs.Limits.{most_types}
use Rattle.tables.proofs.Bounded.{Low}
use Rattle.tree.proofs.Trees.{Even, even_of}
use Rattle.rules.specs.Limits.{most_parameters, most_pairs, most_variables}
use Rattle.rules.specs.Rules.{Piece, Part, Rule, shapes}
use Rattle.rules.specs.Layout.{Head, PartAt, deconstruct_at, construct_at, condition_at, bit, only_if, strategy_of, stretch, field, pairs, variable_at, deconstruct_fields, condition_fields, part_of, reach, replacement, type_field, search_fields, construct_fields, part_at, part, parameters, head_fields, head, parts, rule}
use Rattle.rules.specs.Views.{pairs_at, pairs_end, part_as, place_of_pairs}
use Rattle.rules.specs.declared.Part.{Part as PartFound}

pub no_true : {A : Type 0} → false ≡ true → A
no_true e = let z : ◌≡◌ {A = ℕ} 0 1 = cc in absurd (omega arith)

-- PAIRS

-- the pairs whose count stands at p end before next
pub record Stretch (ws : Words) (p next : ℕ) : Type 0 where
  pub even : Even (stretch ws p)
  pub ends : suc p + length (stretch ws p) ≡ next
  pub here : pairs_at ws p ≡ stretch ws p
  pub end_is : pairs_end ws p ≡ next

-- pairs that are read give where their count stands, end where it says, and are few
pub pairs_extent : (ws : Words) (at : ℕ) {p next : ℕ} → pairs ws at ≡ value p next → (p ≡ at) × (next ≡ at + 1 + 2 * get_or ws at 0) × (get_or ws at 0 ≤ most_pairs) × (next ≤ length ws)
unfolding pairs field
pairs_extent ws at {p} {next} e =
    let a = then_value (field ws 1 most_pairs at) (λ k q. pick (leb (q + 2 * k) (length ws)) (value at (q + 2 * k)) (refused 20 (length ws))) e in
    let b = pick_value (leb (a.1 + 2 * a.0) (length ws)) at p (a.1 + 2 * a.0) 20 (length ws) next a.3 in
    let c = in_value 20 21 ws 1 most_pairs at a.2 in
    (sym b.1, omega (arith, b.2, c.0, c.1), omega (arith, c.0, c.3), omega (arith, b.2, leb-true (a.1 + 2 * a.0) (length ws) b.0))

pub pairs_at_lem : (ws : Words) (p : ℕ) {q next : ℕ} → pairs ws p ≡ value q next → pairs_at ws p ≡ stretch ws p
unfolding pairs_at
pairs_at_lem ws p e = rw e

pub pairs_value : (ws : Words) (at : ℕ) {p next : ℕ} → pairs ws at ≡ value p next → (p ≡ at) × Stretch ws at next
unfolding stretch pairs_end
pairs_value ws at {p} {next} e =
    let a = pairs_extent ws at e in
    let n : length (take (2 * get_or ws at 0) (drop (at + 1) ws)) ≡ 2 * get_or ws at 0 = omega (arith, a.1, a.3, length-take (2 * get_or ws at 0) (drop (at + 1) ws), length-drop (at + 1) ws) in
    (a.0, record { even = even_of (take (2 * get_or ws at 0) (drop (at + 1) ws)) (omega (arith, n)); ends = omega (arith, n, a.1); here = pairs_at_lem ws at e; end_is = rw (le-leb (at + 1 + 2 * get_or ws at 0) (length ws) (omega (arith, a.1, a.3))) (sym a.1) })

-- PARTS

-- what a part's reader tells
abbrev pub Told : Words → PartAt → ℕ → Type 0
Told ws (deconstruct_at none x p) next = Stretch ws p next
Told ws (deconstruct_at (some s) x p) next = (s < most_types) × Stretch ws p next
Told ws (construct_at s p) next = (s < most_types) × Stretch ws p next
Told ws (condition_at negated p) next = Stretch ws p next

abbrev Tells : Words → Reader PartAt → Type 0
Tells ws r = (at : ℕ) (q : PartAt) (next : ℕ) → r at ≡ value q next → Told ws q next

pick_tells : (ws : Words) (b : Bool) (r s : Reader PartAt) → Tells ws r → Tells ws s → Tells ws (pick b r s)
pick_tells ws true r s p q = p
pick_tells ws false r s p q = q

pairs_tells : (ws : Words) (f : ℕ → PartAt) → ((p next : ℕ) → Stretch ws p next → Told ws (f p) next) → Tells ws (◌>>=◌ (pairs ws) (λ p. return (f p)))
pairs_tells ws f h at q next e =
    let a = then_value (pairs ws at) (λ p. return (f p)) e in
    let b = pairs_value ws at a.2 in
    let y : f a.0 ≡ q = cc a.3 in
    let z : a.1 ≡ next = cc a.3 in
    subst₂ (Told ws) (ap f (sym b.0) ∙ y) z (h at a.1 b.1)

deconstruct_tells : (ws : Words) (s : Option ℕ) → ((x p next : ℕ) → Stretch ws p next → Told ws (deconstruct_at s x p) next) → Tells ws (deconstruct_fields ws s)
unfolding deconstruct_fields
deconstruct_tells ws s h at q next e =
    let a = then_value (variable_at ws at) (λ x. ◌>>=◌ (pairs ws) (λ p. return (deconstruct_at s x p))) e in
    pairs_tells ws (deconstruct_at s a.0) (h a.0) a.1 q next a.3

condition_tells : (ws : Words) (negated : Bool) → Tells ws (condition_fields ws negated)
unfolding condition_fields
condition_tells ws negated = pairs_tells ws (condition_at negated) (λ p next s. s)

module _ (types : ℕ) (ws : Words) (few : types ≤ most_types) where
  type_value : (at : ℕ) {s next : ℕ} → type_field types ws at ≡ value s next → s < most_types
  unfolding type_field field
  type_value at e = let a = in_value 20 21 ws 0 (types - 1) at e in omega (arith, a.3)

  type_tells : (f : ℕ → Reader PartAt) → ((s : ℕ) → s < most_types → Tells ws (f s)) → Tells ws (◌>>=◌ (type_field types ws) f)
  type_tells f h at q next e =
      let a = then_value (type_field types ws at) f e in
      h a.0 (type_value at a.2) a.1 q next a.3

  search_tells : Tells ws (search_fields types ws)
  unfolding search_fields
  search_tells = type_tells (λ s. deconstruct_fields ws (some s)) (λ s l. deconstruct_tells ws (some s) (λ x p next st. (l, st)))

  construct_tells : Tells ws (construct_fields types ws)
  unfolding construct_fields
  construct_tells = type_tells (λ s. ◌>>=◌ (pairs ws) (λ p. return (construct_at s p))) (λ s l. pairs_tells ws (construct_at s) (λ p next st. (l, st)))

  pub part_tells : Tells ws (part_at types ws)
  unfolding part_at
  part_tells at q next e =
      let a = then_value (word 20 ws at) _ e in
      pick_tells ws (eqb a.0 1) _ _ (deconstruct_tells ws none (λ x p next st. st))
      (pick_tells ws (eqb a.0 3) _ _ search_tells
      (pick_tells ws (eqb a.0 4) _ _ construct_tells
      (pick_tells ws (eqb a.0 8) _ _ (condition_tells ws false)
      (pick_tells ws (eqb a.0 24) _ _ (condition_tells ws true) other)))) a.1 q next a.3
    where
      other : Tells ws (λ n. refused 21 at)
      other at' q' next' e = let z : ◌≡◌ {A = ℕ} 0 1 = cc in absurd (omega arith)

pub part_value : (types : ℕ) (ws : Words) (at : ℕ) {p : Part} {next : ℕ} → part types ws at ≡ value p next → (q : PartAt) × (part_at types ws at ≡ value q next) × (part_of ws q ≡ p)
unfolding part
part_value types ws at {p} {next} e =
    let a = then_value (part_at types ws at) (λ q. return (part_of ws q)) e in
    let z : a.1 ≡ next = cc a.3 in
    (a.0, a.2 ∙ ap (value a.0) z, cc a.3)

-- WHERE A PART'S FIELDS STAND

-- the part whose map stands at a position, by its map
abbrev pub part_by : Words → ℕ → ℕ → PartFound
part_by ws at m =
    pick (eqb m 1) (part_as (deconstruct_at none (at + 1) (at + 2)))
    (pick (eqb m 3) (part_as (deconstruct_at (some (get_or ws (at + 1) 0)) (at + 2) (at + 3)))
    (pick (eqb m 4) (part_as (construct_at (get_or ws (at + 1) 0) (at + 2))) (part_as (condition_at (eqb m 24) (at + 1)))))

module _ (types : ℕ) (ws : Words) where
  -- the part is the one at those places, and ends where its pairs do
  Placed : PartAt → PartAt → ℕ → Type 0
  Placed p q next = (p ≡ q) × (pairs_end ws (place_of_pairs (part_as p)) ≡ next)

  pairs_place : (f : ℕ → PartAt) → ((p : ℕ) → place_of_pairs (part_as (f p)) ≡ p) → (at : ℕ) {q : PartAt} {next : ℕ} → ◌>>=◌ (pairs ws) (λ p. return (f p)) at ≡ value q next → Placed (f at) q next
  unfolding Placed
  pairs_place f h at e =
      let a = then_value (pairs ws at) (λ p. return (f p)) e in
      let b = pairs_value ws at a.2 in
      (ap f (sym b.0) ∙ cc a.3, rw (h at) (b.1.end_is ∙ cc a.3))

  deconstruct_place : (s : Option ℕ) → ((x p : ℕ) → place_of_pairs (part_as (deconstruct_at s x p)) ≡ p) → (at j : ℕ) → at + 1 ≡ j → {q : PartAt} {next : ℕ} → deconstruct_fields ws s at ≡ value q next → Placed (deconstruct_at s at j) q next
  unfolding deconstruct_fields variable_at
  deconstruct_place s h at j z {q} {next} e =
      let a = then_value (variable_at ws at) (λ x. ◌>>=◌ (pairs ws) (λ p. return (deconstruct_at s x p))) e in
      let b = then_value (word 20 ws at) (λ v. return at) a.2 in
      let x : at ≡ a.0 = cc b.3 in
      let y : j ≡ a.1 = sym z ∙ sym (word_value 20 ws at b.2).2 ∙ cc b.3 in
      subst₂ (λ i k. Placed (deconstruct_at s i k) q next) (sym x) (sym y) (pairs_place (deconstruct_at s a.0) (h a.0) a.1 a.3)

  type_place : (f : ℕ → Reader PartAt) (at j : ℕ) → at + 1 ≡ j → {q : PartAt} {next : ℕ} → ◌>>=◌ (type_field types ws) f at ≡ value q next → f (get_or ws at 0) j ≡ value q next
  unfolding type_field field
  type_place f at j z e =
      let a = then_value (type_field types ws at) f e in
      let c = in_value 20 21 ws 0 (types - 1) at a.2 in
      sym (ap₂ f c.0 (c.1 ∙ z)) ∙ a.3

  pub part_found : (at : ℕ) (q : PartAt) (next : ℕ) → part_at types ws at ≡ value q next → (part_by ws at (get_or ws at 0) ≡ part_as q) × (pairs_end ws (place_of_pairs (part_as q)) ≡ next) × (at ≤ length ws)
  unfolding part_at search_fields construct_fields condition_fields Placed
  part_found at q next e =
      let a = then_value (word 20 ws at) _ e in
      let w = word_value 20 ws at a.2 in
      let t = go (eqb a.0 1) (eqb a.0 3) (eqb a.0 4) (eqb a.0 8) (eqb a.0 24) (apart a.0) (rw w.2 at a.3) in
      (subst (λ m. part_by ws at m ≡ part_as q) w.1 t.0, t.1, omega arith)
    where
      two : at + 1 + 1 ≡ at + 2
      two = omega arith

      three : at + 2 + 1 ≡ at + 3
      three = omega arith

      apart : (m : ℕ) → eqb m 8 ≡ true → eqb m 24 ≡ false
      apart m e = rw (eqb-true m 8 e)

      found : {p : PartAt} → Placed p q next → (part_as p ≡ part_as q) × (pairs_end ws (place_of_pairs (part_as q)) ≡ next)
      found x = (ap part_as x.0, rw (← x.0) x.1)

      go : (b c d f k : Bool) → (f ≡ true → k ≡ false)
          → pick b (deconstruct_fields ws none) (pick c (search_fields types ws) (pick d (construct_fields types ws) (pick f (condition_fields ws false) (pick k (condition_fields ws true) (λ n. refused 21 at))))) (at + 1) ≡ value q next
          → (pick b (part_as (deconstruct_at none (at + 1) (at + 2))) (pick c (part_as (deconstruct_at (some (get_or ws (at + 1) 0)) (at + 2) (at + 3))) (pick d (part_as (construct_at (get_or ws (at + 1) 0) (at + 2))) (part_as (condition_at k (at + 1))))) ≡ part_as q)
          × (pairs_end ws (place_of_pairs (part_as q)) ≡ next)
      go true c d f k h e = found (deconstruct_place none (λ x p. refl) (at + 1) (at + 2) two e)
      go false true d f k h e = found (deconstruct_place (some (get_or ws (at + 1) 0)) (λ x p. refl) (at + 2) (at + 3) three (type_place (λ s. deconstruct_fields ws (some s)) (at + 1) (at + 2) two e))
      go false false true f k h e = found (pairs_place (construct_at (get_or ws (at + 1) 0)) (λ p. refl) (at + 2) (type_place (λ s. ◌>>=◌ (pairs ws) (λ p. return (construct_at s p))) (at + 1) (at + 2) two e))
      go false false false true k h e = rw (h refl) (found (pairs_place (condition_at false) (λ p. refl) (at + 1) e))
      go false false false false true h e = found (pairs_place (condition_at true) (λ p. refl) (at + 1) e)
      go false false false false false h e = let z : ◌≡◌ {A = ℕ} 0 1 = cc in absurd (omega arith)

-- A RULE'S HEAD

low_many : (types : ℕ) (ws : Words) → types ≤ most_types → (k at : ℕ) (ts : List ℕ) (next : ℕ) → many k (type_field types ws) at ≡ value ts next → Low ts
unfolding many
low_many types ws h zero at ts next e = let z : [] ≡ ts = cc in rw (← z) tt
low_many types ws h (suc k) at ts next e =
    let u = many_suc (type_field types ws) k at e in
    rw u.5 (type_value types ws h at u.3, low_many types ws h k u.1 u.2 next u.4)

record Parameters (b : Bool) (ps : List ℕ) : Type 0 where
  low : Low ps
  few : length ps ≤ most_variables
  bare : b ≡ false → ps ≡ []

module _ (types : ℕ) (ws : Words) (m at : ℕ) (ps : List ℕ) (next : ℕ) where
  parameters_few : parameters types ws m at ≡ value ps next → length ps ≤ most_parameters
  unfolding parameters field
  parameters_few = go (bit 1 m)
    where
      go : (b : Bool) → only_if b [] (◌>>=◌ (field ws 1 most_parameters) (λ k. many k (type_field types ws))) at ≡ value ps next → length ps ≤ most_parameters
      go true e =
          let a = then_value (field ws 1 most_parameters at) (λ k. many k (type_field types ws)) e in
          omega (arith, (in_value 20 21 ws 1 most_parameters at a.2).3, many_length (type_field types ws) a.0 a.1 ps next a.3)
      go false e = let z : [] ≡ ps = cc in rw (← z) (omega arith)

  parameters_value : types ≤ most_types → parameters types ws m at ≡ value ps next → Parameters (bit 1 m) ps
  unfolding parameters
  parameters_value h p = go (bit 1 m) p
    where
      few : length ps ≤ most_variables
      few = omega (arith, parameters_few p)

      go : (b : Bool) → only_if b [] (◌>>=◌ (field ws 1 most_parameters) (λ k. many k (type_field types ws))) at ≡ value ps next → Parameters b ps
      go true e =
          let a = then_value (field ws 1 most_parameters at) (λ k. many k (type_field types ws)) e in
          record { low = low_many types ws h a.0 a.1 ps next a.3; few = few; bare = λ q. no_true (sym q) }
      go false e =
          let z : [] ≡ ps = cc in
          record { low = rw (← z) tt; few = few; bare = λ q. sym z }

pub record HeadTold (ws : Words) (at : ℕ) (h : Head) : Type 0 where
  pub target : h.target < most_types
  pub low : Low h.parameters
  pub few : length h.parameters ≤ most_variables
  pub there : at < length ws
  pub map : h.map ≡ get_or ws at 0
  pub bare : bit 1 h.map ≡ false → h.parameters ≡ []

abbrev head_of : ℕ → ℕ → ℕ → List ℕ → Head
head_of m t r ps = record { map = m; target = t; strategy = strategy_of r; parameters = ps }

-- the fields that a head was read from: its map, its target, its reach and its parameters
record HeadFrom (types : ℕ) (ws : Words) (at : ℕ) (h : Head) (next : ℕ) : Type 0 where
  m : ℕ
  t : ℕ
  r : ℕ
  ps : List ℕ
  n₀ : ℕ
  n₁ : ℕ
  n₂ : ℕ
  map_read : field ws 0 15 at ≡ value m n₀
  target_read : type_field types ws n₀ ≡ value t n₁
  reach_read : reach ws m n₁ ≡ value r n₂
  parameters_read : parameters types ws m n₂ ≡ value ps next
  is : head_of m t r ps ≡ h

head_from : (types : ℕ) (ws : Words) (at : ℕ) (h : Head) (next : ℕ) → head types ws at ≡ value h next → HeadFrom types ws at h next
unfolding head head_fields
head_from types ws at h next e =
    let a = then_value (field ws 0 15 at) (λ m. ◌>>=◌ (type_field types ws) (λ t. head_fields types ws m t)) e in
    let b = then_value (type_field types ws a.1) (λ t. head_fields types ws a.0 t) a.3 in
    let c = then_value (reach ws a.0 b.1) (λ r. ◌>>=◌ (parameters types ws a.0) (λ ps. return (head_of a.0 b.0 r ps))) b.3 in
    let d = then_value (parameters types ws a.0 c.1) (λ ps. return (head_of a.0 b.0 c.0 ps)) c.3 in
    from a.0 b.0 c.0 d.0 a.1 b.1 c.1 d.1 a.2 b.2 c.2 d.2 (cc d.3) (cc d.3)
  where
    from : (m t r : ℕ) (ps : List ℕ) (n₀ n₁ n₂ n₃ : ℕ) → field ws 0 15 at ≡ value m n₀ → type_field types ws n₀ ≡ value t n₁ → reach ws m n₁ ≡ value r n₂ → parameters types ws m n₂ ≡ value ps n₃
        → head_of m t r ps ≡ h → n₃ ≡ next → HeadFrom types ws at h next
    from m t r ps n₀ n₁ n₂ n₃ e₀ e₁ e₂ e₃ y z = record {
      m = m;
      t = t;
      r = r;
      ps = ps;
      n₀ = n₀;
      n₁ = n₁;
      n₂ = n₂;
      map_read = e₀;
      target_read = e₁;
      reach_read = e₂;
      parameters_read = e₃ ∙ ap (value ps) z;
      is = y;
    }

pub head_few : (types : ℕ) (ws : Words) (at : ℕ) (h : Head) (next : ℕ) → head types ws at ≡ value h next → length h.parameters ≤ most_parameters
head_few types ws at h next e =
    let a = head_from types ws at h next e in
    subst (λ x. length x.parameters ≤ most_parameters) a.is (parameters_few types ws a.m a.n₂ a.ps next a.parameters_read)

pub head_value : (types : ℕ) (ws : Words) → types ≤ most_types → (at : ℕ) (h : Head) (next : ℕ) → head types ws at ≡ value h next → HeadTold ws at h
unfolding field
head_value types ws few at h next e =
    let a = head_from types ws at h next e in
    let q = parameters_value types ws a.m a.n₂ a.ps next few a.parameters_read in
    let f = in_value 20 21 ws 0 15 at a.map_read in
    subst (HeadTold ws at) a.is (told a.m a.t a.r a.ps (type_value types ws few a.n₀ a.target_read) q f.4 f.0)
  where
    told : (m t r : ℕ) (ps : List ℕ) → t < most_types → Parameters (bit 1 m) ps → at < length ws → m ≡ get_or ws at 0 → HeadTold ws at (head_of m t r ps)
    told m t r ps l q i j = record { target = l; low = q.low; few = q.few; there = i; map = j; bare = q.bare }

-- A RULE

abbrev pub made : Words → Head → ℕ → List Part → Option (List Piece) → Rule
made ws h p ps o = record { target = h.target; strategy = h.strategy; parameters = h.parameters; pattern = shapes (stretch ws p); parts = ps; replacement = o }

-- n₀, n₁, n₂: where the pattern's count stands, and where the pattern and the parts end
pub record RuleRead (types : ℕ) (ws : Words) (at : ℕ) (r : Rule) (next : ℕ) : Type 0 where
  pub h : Head
  pub n₀ : ℕ
  pub n₁ : ℕ
  pub n₂ : ℕ
  pub ps : List Part
  pub o : Option (List Piece)
  pub header : head types ws at ≡ value h n₀
  pub pattern : Stretch ws n₀ n₁
  pub parts_read : parts types ws h.map n₁ ≡ value ps n₂
  pub replacement_read : replacement ws h.map n₂ ≡ value o next
  pub is : made ws h n₀ ps o ≡ r

pub rule_value : (types : ℕ) (ws : Words) (at : ℕ) (r : Rule) (next : ℕ) → rule types ws at ≡ value r next → RuleRead types ws at r next
unfolding rule
rule_value types ws at r next e =
    let a = then_value (head types ws at) (λ h. ◌>>=◌ (pairs ws) (λ p. ◌>>=◌ (parts types ws h.map) (λ ps. ◌>>=◌ (replacement ws h.map) (λ o. return (made ws h p ps o))))) e in
    let h = a.0 in
    let b = then_value (pairs ws a.1) (λ p. ◌>>=◌ (parts types ws h.map) (λ ps. ◌>>=◌ (replacement ws h.map) (λ o. return (made ws h p ps o)))) a.3 in
    let c = then_value (parts types ws h.map b.1) (λ ps. ◌>>=◌ (replacement ws h.map) (λ o. return (made ws h b.0 ps o))) b.3 in
    let d = then_value (replacement ws h.map c.1) (λ o. return (made ws h b.0 c.0 o)) c.3 in
    read a.0 a.1 b.1 c.1 d.1 b.0 c.0 d.0 a.2 (pairs_value ws a.1 b.2) c.2 d.2 (cc d.3) (cc d.3)
  where
    read : (h : Head) (n₀ n₁ n₂ n₃ p : ℕ) (ps : List Part) (o : Option (List Piece)) → head types ws at ≡ value h n₀ → (p ≡ n₀) × Stretch ws n₀ n₁ → parts types ws h.map n₁ ≡ value ps n₂
        → replacement ws h.map n₂ ≡ value o n₃ → made ws h p ps o ≡ r → n₃ ≡ next → RuleRead types ws at r next
    read h n₀ n₁ n₂ n₃ p ps o e st f g y z = record {
      h = h;
      n₀ = n₀;
      n₁ = n₁;
      n₂ = n₂;
      ps = ps;
      o = o;
      header = e;
      pattern = st.1;
      parts_read = f;
      replacement_read = g ∙ ap (value o) z;
      is = ap (λ k. made ws h k ps o) (sym st.0) ∙ y;
    }

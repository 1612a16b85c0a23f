-- Laws of positions: typing a stretch of pairs, a part, the parts and a rule ends where their layout ends. Assumes nothing.
use Prim.Native.Nat.{ℕ, zero, suc, ◌+◌}
use mathlib.Core.Path.{◌≡◌, refl, sym, ap, ◌∙◌}
use mathlib.Core.List.{List, [], ◌∷◌, ◌++◌}
use mathlib.Core.Bool.{Bool, true, false}
use mathlib.Core.Option.{Option, none, some}
use native.Mathlib.Omega.{arith}
use lib.ListN.{length, get_or}
use lib.Dec.{ltb, eqb}
use borrow.Author.Tests.{ltb-false}
use Rattle.words.specs.Reader.{Words, pick, value, refused, Reader, and_then, return, require, word, many, ◌>>=◌}
use Rattle.words.proofs.Laws.{then_value}
use Rattle.grammar.specs.Grammar.{Grammar}
use Rattle.tree.specs.Dues.{whole}
use Rattle.tree.specs.Dues as Dues
use Rattle.tree.specs.Reading.{tree}
use Rattle.tree.proofs.Dues.{pairs_forward}
use Rattle.rules.specs.Limits.{most_parts}
use Rattle.rules.specs.Rules.{Rule, Rules, Part, Piece, shapes, pieces}
use Rattle.rules.specs.Layout as Layout
use Rattle.rules.specs.Layout.{Head, PartAt, deconstruct_at, construct_at, condition_at, bit, only_if, stretch, field, pairs, variable_at, deconstruct_fields, condition_fields, part_of, replacement, type_field, search_fields, construct_fields, part_at, part, parts, rule}
use Rattle.judgement.specs.Typing.{Place, in_pattern, in_replacement, in_condition, Due, a_tree, a_chain, Context, meets, typed, variable_there, part_typed, parts_typed, rule_typed}
use Rattle.typing.specs.Views.{parts_for, replacement_for}
use Rattle.judgement.proofs.Accept.{meets_steady}
use Rattle.pairs.proofs.Stretch.{Stretch, pairs_shape, stretch_length}

module _ (g : Grammar) (rules : Rules) (ws : Words) where
  pub typed_next : (here : Place) (d : Due) (Γ Δ : Context) (at n next : ℕ) → Stretch ws at n → typed g rules ws here d Γ at ≡ value Δ next → next ≡ n
  unfolding typed whole
  typed_next here d Γ Δ at n next s e =
      let m = suc at + length (stretch ws at) in
      let u = then_value (Dues.pairs (meets g rules here) 23 (stretch ws at) (d ∷ []) Γ (suc at)) (λ known next. pick (ltb next m) (refused 23 next) (value known next)) e in
      let f = pairs_forward (meets g rules here) 23 (meets_steady g rules here) (stretch ws at) (d ∷ []) Γ (suc at) u.0 u.1 u.2 in
      let v = over_value (ltb u.1 m) u.0 Δ u.1 next u.3 in
      omega (arith, stretch_length ws at n s, s.after, f.1, v.1, ltb-false u.1 m v.0)
    where
      over_value : (b : Bool) (x y : Context) (p q : ℕ) → pick b (refused 23 p) (value x p) ≡ value y q → (b ≡ false) × (p ≡ q)
      over_value true x y p q h = let z : ◌≡◌ {A = ℕ} 0 1 = cc in absurd (omega arith)
      over_value false x y p q h = (refl, cc)

-- A PART

-- where the count of a part's pairs stands
abbrev pub pairs_at : PartAt → ℕ
pairs_at (deconstruct_at s x p) = p
pairs_at (construct_at s p) = p
pairs_at (condition_at b p) = p

shape_as : (ws : Words) (at p q : ℕ) (a : PartAt) (n : ℕ) (b : PartAt) → pairs ws at ≡ value p q → value b q ≡ value a n → pairs_at b ≡ p → Stretch ws (pairs_at a) n
shape_as ws at p q a n b e f h =
    let s = pairs_shape ws at p q e in
    let y : b ≡ a = cc f in
    let z : q ≡ n = cc f in
    rw (← y, ← z, h, s.0) s.1

deconstruct_pairs : (ws : Words) (s : Option ℕ) (at : ℕ) (a : PartAt) (n : ℕ) → deconstruct_fields ws s at ≡ value a n → Stretch ws (pairs_at a) n
unfolding deconstruct_fields
deconstruct_pairs ws s at a n e =
    let u = then_value (variable_at ws at) (λ x. ◌>>=◌ (pairs ws) (λ p. return (deconstruct_at s x p))) e in
    let v = then_value (pairs ws u.1) (λ p. return (deconstruct_at s u.0 p)) u.3 in
    shape_as ws u.1 v.0 v.1 a n (deconstruct_at s u.0 v.0) v.2 v.3 refl

construct_pairs : (types : ℕ) (ws : Words) (at : ℕ) (a : PartAt) (n : ℕ) → construct_fields types ws at ≡ value a n → Stretch ws (pairs_at a) n
unfolding construct_fields
construct_pairs types ws at a n e =
    let u = then_value (type_field types ws at) (λ s. ◌>>=◌ (pairs ws) (λ p. return (construct_at s p))) e in
    let v = then_value (pairs ws u.1) (λ p. return (construct_at u.0 p)) u.3 in
    shape_as ws u.1 v.0 v.1 a n (construct_at u.0 v.0) v.2 v.3 refl

condition_pairs : (ws : Words) (b : Bool) (at : ℕ) (a : PartAt) (n : ℕ) → condition_fields ws b at ≡ value a n → Stretch ws (pairs_at a) n
unfolding condition_fields
condition_pairs ws b at a n e =
    let v = then_value (pairs ws at) (λ p. return (condition_at b p)) e in
    shape_as ws at v.0 v.1 a n (condition_at b v.0) v.2 v.3 refl

pub part_pairs : (types : ℕ) (ws : Words) (at : ℕ) (a : PartAt) (n : ℕ) → part_at types ws at ≡ value a n → Stretch ws (pairs_at a) n
unfolding part_at search_fields
part_pairs types ws at a n e =
    let none_fits : ℕ → Reader PartAt = λ m next. refused 21 at in
    let u = then_value (word 20 ws at) (λ m. pick (eqb m 1) (deconstruct_fields ws none) (pick (eqb m 3) (search_fields types ws) (pick (eqb m 4) (construct_fields types ws) (pick (eqb m 8) (condition_fields ws false) (pick (eqb m 24) (condition_fields ws true) (none_fits m)))))) e in
    go (eqb u.0 1) (eqb u.0 3) (eqb u.0 4) (eqb u.0 8) (eqb u.0 24) u.1 u.3
  where
    go : (b₁ b₃ b₄ b₈ b₂₄ : Bool) (p : ℕ)
        → pick b₁ (deconstruct_fields ws none) (pick b₃ (search_fields types ws) (pick b₄ (construct_fields types ws) (pick b₈ (condition_fields ws false) (pick b₂₄ (condition_fields ws true) (λ next. refused 21 at))))) p ≡ value a n → Stretch ws (pairs_at a) n
    go true b₃ b₄ b₈ b₂₄ p e = deconstruct_pairs ws none p a n e
    go false true b₄ b₈ b₂₄ p e = let v = then_value (type_field types ws p) (λ s. deconstruct_fields ws (some s)) e in deconstruct_pairs ws (some v.0) v.1 a n v.3
    go false false true b₈ b₂₄ p e = construct_pairs types ws p a n e
    go false false false true b₂₄ p e = condition_pairs ws false p a n e
    go false false false false true p e = condition_pairs ws true p a n e
    go false false false false false p e = let z : ◌≡◌ {A = ℕ} 0 1 = cc in absurd (omega arith)

module _ (g : Grammar) (rules : Rules) (ws : Words) where
  part_next : (a : PartAt) (Γ Δ : Context) (at n next : ℕ) → Stretch ws (pairs_at a) n → part_typed g rules ws a Γ at ≡ value Δ next → next ≡ n
  unfolding part_typed
  part_next (deconstruct_at none x p) Γ Δ at n next s e =
      let u = then_value (variable_there g rules ws Γ x) (λ v next. typed g rules ws in_pattern (a_tree (tree 1 (get_or Γ v 0))) Γ p) e in
      typed_next g rules ws in_pattern (a_tree (tree 1 (get_or Γ u.0 0))) Γ Δ p n next s u.3
  part_next (deconstruct_at (some t) x p) Γ Δ at n next s e =
      let u = then_value (variable_there g rules ws Γ x) (λ v next. typed g rules ws in_pattern (a_tree (tree 1 t)) Γ p) e in
      typed_next g rules ws in_pattern (a_tree (tree 1 t)) Γ Δ p n next s u.3
  part_next (construct_at t p) Γ Δ at n next s e =
      let u = then_value (require (ltb (length Γ) 16) 24 0 at) (λ u next. and_then (typed g rules ws in_replacement (a_tree (tree 1 t)) Γ p) (λ Δ. return (Γ ++ t ∷ []))) e in
      let v = then_value (typed g rules ws in_replacement (a_tree (tree 1 t)) Γ p) (λ Δ. return (Γ ++ t ∷ [])) u.3 in
      let z : v.1 ≡ next = cc v.3 in
      sym z ∙ typed_next g rules ws in_replacement (a_tree (tree 1 t)) Γ v.0 p n v.1 s v.2
  part_next (condition_at b p) Γ Δ at n next s e = typed_next g rules ws in_condition a_chain Γ Δ p n next s e

  pub parts_next : (types : ℕ) → length g ≡ types → (k : ℕ) (Γ Δ : Context) (at next : ℕ) → parts_typed g rules ws k Γ at ≡ value Δ next → (ps : List Part) × (many k (part types ws) at ≡ value ps next)
  unfolding parts_typed many part
  parts_next types l zero Γ Δ at next e = let z : at ≡ next = cc in ([], rw z)
  parts_next types l (suc k) Γ Δ at next e =
      let u = then_value (part_at (length g) ws at) (λ p n. and_then (part_typed g rules ws p Γ at) (parts_typed g rules ws k)) e in
      let v = then_value (part_typed g rules ws u.0 Γ at) (parts_typed g rules ws k) u.3 in
      let f : part_at types ws at ≡ value u.0 u.1 = rw (← l) u.2 in
      let z : v.1 ≡ u.1 = part_next u.0 Γ v.0 at u.1 v.1 (part_pairs types ws at u.0 u.1 f) v.2 in
      let i = parts_next types l k v.0 Δ v.1 next v.3 in
      let j : many k (part types ws) u.1 ≡ value i.0 next = ap (λ p. many k (part types ws) p) (sym z) ∙ i.1 in
      (part_of ws u.0 ∷ i.0, rw (f, j))

  pub parts_for_next : (types : ℕ) → length g ≡ types → (m : ℕ) (Γ Δ : Context) (at next : ℕ) → parts_for g rules ws m Γ at ≡ value Δ next → (ps : List Part) × (parts types ws m at ≡ value ps next)
  unfolding parts
  parts_for_next types l m Γ Δ at next = go (bit 2 m)
    where
      go : (b : Bool) → only_if b Γ (◌>>=◌ (field ws 1 8) (λ k. parts_typed g rules ws k Γ)) at ≡ value Δ next
          → (ps : List Part) × (only_if b [] (◌>>=◌ (field ws 1 most_parts) (λ k. many k (part types ws))) at ≡ value ps next)
      go true e =
          let u = then_value (field ws 1 8 at) (λ k. parts_typed g rules ws k Γ) e in
          let i = parts_next types l u.0 Γ Δ u.1 next u.3 in
          (i.0, ap (λ q. and_then q (λ k. many k (part types ws))) u.2 ∙ i.1)
      go false e = let z : at ≡ next = cc in ([], rw z)

  replacement_next : (m t : ℕ) (Γ : Context) (at n next : ℕ) (o : Option (List Piece)) → replacement ws m at ≡ value o n → replacement_for g rules ws m t Γ at ≡ value (tt {0}) next → next ≡ n
  unfolding replacement
  replacement_next m t Γ at n next o = go (bit 3 m)
    where
      go : (b : Bool) → only_if b none (◌>>=◌ (pairs ws) (λ q. return (some (pieces (stretch ws q))))) at ≡ value o n
          → and_then (only_if b Γ (typed g rules ws in_replacement (a_tree (tree 1 t)) Γ) at) (λ Θ. return (tt {0})) ≡ value (tt {0}) next → next ≡ n
      go true f e =
          let u = then_value (pairs ws at) (λ q. return (some (pieces (stretch ws q)))) f in
          let s = (pairs_shape ws at u.0 u.1 u.2).1 in
          let v = then_value (typed g rules ws in_replacement (a_tree (tree 1 t)) Γ at) (λ Θ. return (tt {0})) e in
          let y : u.1 ≡ n = cc u.3 in
          let z : v.1 ≡ next = cc v.3 in
          sym z ∙ typed_next g rules ws in_replacement (a_tree (tree 1 t)) Γ v.0 at u.1 v.1 s v.2 ∙ y
      go false f e = let y : at ≡ n = cc in let z : at ≡ next = cc in omega arith

-- A RULE

-- what a rule's layout went through
pub record RuleAt (types : ℕ) (ws : Words) (at n : ℕ) : Type 0 where
  pub head : Head
  pub pattern : ℕ
  pub matched : ℕ
  pub parts : List Part
  pub next : ℕ
  pub replaced : Option (List Piece)
  pub head_read_lem : Layout.head types ws at ≡ value head pattern
  pub pairs_there : Stretch ws pattern matched
  pub parts_read : Layout.parts types ws head.map matched ≡ value parts next
  pub replacement_read : replacement ws head.map next ≡ value replaced n

-- and what of it the rule shows
abbrev pub Shown : (types : ℕ) (ws : Words) (at : ℕ) (r : Rule) (n : ℕ) → Type 0
Shown types ws at r n = (a : RuleAt types ws at n) × (r.target ≡ a.head.target) × (r.strategy ≡ a.head.strategy) × (r.parameters ≡ a.head.parameters) × (r.replacement ≡ a.replaced)

shown : (types : ℕ) (ws : Words) (at : ℕ) (r : Rule) (n : ℕ) (h : Head) (p q m : ℕ) (ps : List Part) (l : ℕ) (o : Option (List Piece)) (k : ℕ)
    → Layout.head types ws at ≡ value h p → pairs ws p ≡ value q m → Layout.parts types ws h.map m ≡ value ps l → replacement ws h.map l ≡ value o k
    → value (record { target = h.target; strategy = h.strategy; parameters = h.parameters; pattern = shapes (stretch ws q); parts = ps; replacement = o }) k ≡ value r n → Shown types ws at r n
shown types ws at r n h p q m ps l o k e₁ e₂ e₃ e₄ e₅ =
    let y : record { target = h.target; strategy = h.strategy; parameters = h.parameters; pattern = shapes (stretch ws q); parts = ps; replacement = o } ≡ r = cc e₅ in
    let z : k ≡ n = cc e₅ in (
      record { head = h; pattern = p; matched = m; parts = ps; next = l; replaced = o; head_read_lem = e₁; pairs_there = (pairs_shape ws p q m e₂).1; parts_read = e₃; replacement_read = e₄ ∙ ap (value o) z },
      sym (ap (λ x. x.target) y),
      sym (ap (λ x. x.strategy) y),
      sym (ap (λ x. x.parameters) y),
      sym (ap (λ x. x.replacement) y),
    )

pub rule_shape : (types : ℕ) (ws : Words) (at : ℕ) (r : Rule) (n : ℕ) → rule types ws at ≡ value r n → Shown types ws at r n
unfolding rule
rule_shape types ws at r n e =
    let make : Head → ℕ → List Part → Option (List Piece) → Rule = λ h p ps o. record { target = h.target; strategy = h.strategy; parameters = h.parameters; pattern = shapes (stretch ws p); parts = ps; replacement = o } in
    let u = then_value (Layout.head types ws at) (λ h. ◌>>=◌ (pairs ws) (λ p. ◌>>=◌ (Layout.parts types ws h.map) (λ ps. ◌>>=◌ (replacement ws h.map) (λ o. return (make h p ps o))))) e in
    let v = then_value (pairs ws u.1) (λ p. ◌>>=◌ (Layout.parts types ws u.0.map) (λ ps. ◌>>=◌ (replacement ws u.0.map) (λ o. return (make u.0 p ps o)))) u.3 in
    let w = then_value (Layout.parts types ws u.0.map v.1) (λ ps. ◌>>=◌ (replacement ws u.0.map) (λ o. return (make u.0 v.0 ps o))) v.3 in
    let x = then_value (replacement ws u.0.map w.1) (λ o. return (make u.0 v.0 w.0 o)) w.3 in
    shown types ws at r n u.0 u.1 v.0 v.1 w.0 w.1 x.0 x.1 u.2 v.2 w.2 x.2 x.3

module _ (g : Grammar) (rules : Rules) (types : ℕ) (ws : Words) (l : length g ≡ types) (at n : ℕ) (a : RuleAt types ws at n) where
  -- after the pattern and the parts comes the replacement
  pub rule_replacement : (here : Place) (d : Due) (Γ Δ Θ : Context) (e next : ℕ) → typed g rules ws here d Γ a.pattern ≡ value Δ e → parts_for g rules ws a.head.map Δ e ≡ value Θ next → next ≡ a.next
  rule_replacement here d Γ Δ Θ e next t q =
      let z = typed_next g rules ws here d Γ Δ a.pattern a.matched e a.pairs_there t in
      let u = parts_for_next g rules ws types l a.head.map Δ Θ e next q in
      let y : value u.0 next ≡ value a.parts a.next = sym u.1 ∙ ap (Layout.parts types ws a.head.map) z ∙ a.parts_read in
      cc y

  pub rule_next : (next : ℕ) → rule_typed g rules ws at ≡ value (tt {0}) next → next ≡ n
  unfolding rule_typed
  rule_next next e =
      let u = then_value (Layout.head (length g) ws at) (λ h. ◌>>=◌ (typed g rules ws in_pattern (a_tree (tree 1 h.target)) h.parameters) (λ Γ. ◌>>=◌ (parts_for g rules ws h.map Γ) (λ Δ. replacement_for g rules ws h.map h.target Δ))) e in
      let f : value u.0 u.1 ≡ value a.head a.pattern = sym u.2 ∙ ap (λ k. Layout.head k ws at) l ∙ a.head_read_lem in
      go u.0 u.1 (cc f) (cc f) u.3
    where
      go : (h : Head) (p : ℕ) → h ≡ a.head → p ≡ a.pattern
          → and_then (typed g rules ws in_pattern (a_tree (tree 1 h.target)) h.parameters p) (λ Γ. ◌>>=◌ (parts_for g rules ws h.map Γ) (λ Δ. replacement_for g rules ws h.map h.target Δ)) ≡ value (tt {0}) next → next ≡ n
      go h p x y i =
          let e : and_then (typed g rules ws in_pattern (a_tree (tree 1 a.head.target)) a.head.parameters a.pattern) (λ Γ. ◌>>=◌ (parts_for g rules ws a.head.map Γ) (λ Δ. replacement_for g rules ws a.head.map a.head.target Δ)) ≡ value (tt {0}) next = rw (x, y) at i in
          let v = then_value (typed g rules ws in_pattern (a_tree (tree 1 a.head.target)) a.head.parameters a.pattern) (λ Γ. ◌>>=◌ (parts_for g rules ws a.head.map Γ) (λ Δ. replacement_for g rules ws a.head.map a.head.target Δ)) e in
          let w = then_value (parts_for g rules ws a.head.map v.0 v.1) (λ Δ. replacement_for g rules ws a.head.map a.head.target Δ) v.3 in
          let z = rule_replacement in_pattern (a_tree (tree 1 a.head.target)) a.head.parameters v.0 w.0 v.1 w.1 v.2 w.2 in
          replacement_next g rules ws a.head.map a.head.target w.0 w.1 n next a.replaced (ap (replacement ws a.head.map) z ∙ a.replacement_read) w.3

-- The check of the parts accepts exactly the parts that fit. Assumes nothing.
use Prim.Native.Nat.{ℕ, zero, suc, ◌≤◌, ◌<◌}
use mathlib.Core.Path.{◌≡◌, refl, sym, ap, ◌∙◌}
use mathlib.Core.List.{List, [], ◌∷◌, ◌++◌}
use mathlib.Core.Bool.{Bool, true, false, cond}
use mathlib.Core.Option.{Option, none, some}
use native.Mathlib.Omega.{arith}
use lib.ListN.{length, get_or, length-append}
use lib.Dec.{ltb, leb}
use borrow.Author.Tests.{ltb-true, ltb-false, le-leb, lt-leb}
use Rattle.words.specs.Reader.{Words, pick, value, refused, and_then, return, require, many}
use Rattle.words.proofs.Laws.{many_suc}
use Rattle.grammar.specs.Limits.{most_types}
use Rattle.grammar.specs.Grammar.{Grammar}
use Rattle.grammar.specs.Kinds.{children}
use Rattle.tables.proofs.Bounded.{Low, low_append, Bounded}
use Rattle.tree.specs.Reading.{tree}
use Rattle.tree.proofs.Dues.{plain, placed, bind, plain_then, when}
use Rattle.rules.specs.Limits.{most_rules, most_variables}
use Rattle.rules.specs.Rules.{Rules, Part, Shape, Application, deconstruct, search, construct, condition, shapes, pieces, condition_of}
use Rattle.rules.specs.Layout.{PartAt, deconstruct_at, construct_at, condition_at, stretch, part_at, part, part_of as decoded}
use Rattle.rules.proofs.Laid.{Stretch, Told, part_tells, part_value}
use Rattle.judgement.specs.Typing.{in_pattern, in_replacement, in_condition, a_tree, a_chain, Context, typed, variable_there, part_typed, parts_typed}
use Rattle.judgement.specs.WellTyped.{Types, Has, testing, Pattern, pattern_end, a_node, a_new, a_same, PartFits, deconstructs, searches_for, constructs, tests, PartsFit, no_part, a_part}
use Rattle.judgement.specs.Tested.{one_pattern, one_replacement, all_apply_of, part_of, parts_of}
use Rattle.judgement.proofs.Tested.{part_of_lem, parts_of_lem}
use Rattle.judgement.proofs.Patterns.{pattern_grows, limited, limited_none, limited_some, limited_then, pattern_whole}
use Rattle.judgement.proofs.Replacements.{replacement_whole}
use Rattle.judgement.proofs.Conditions.{read_variable, condition_whole}

-- VARIABLES HAVE TYPES AS A GRAMMAR HAS THEM, and only become more

low_has : (Γ : Types) (x t : ℕ) → Low Γ → Has Γ x t → t < most_types
low_has [] x t l h = let z : ◌≡◌ {A = ℕ} 0 1 = cc in absurd (omega arith)
low_has (u ∷ Γ) zero t l h = let z : u ≡ t = cc in rw z at l.0
low_has (u ∷ Γ) (suc x) t l h = low_has Γ x t l.1 h

low_get_d : (Γ : Types) (x : ℕ) → Low Γ → x < length Γ → get_or Γ x 0 < most_types
low_get_d [] x l h = absurd (omega arith)
low_get_d (u ∷ Γ) zero l h = l.0
low_get_d (u ∷ Γ) (suc x) l h = low_get_d Γ x l.1 (omega arith)

pub pattern_low : {g : Grammar} {Γ due Γ' : Types} {ps : List Shape} → Bounded g → Pattern g Γ due ps Γ' → Low Γ → Low due → Low Γ'
pattern_low bounded pattern_end p q = p
pattern_low {g} bounded (a_node {due = due} {t = t} {v = v} fine r) p q = pattern_low bounded r p (low_append (children g t v) due (bounded.closed t v q.0) q.1)
pattern_low bounded (a_new {Γ = Γ} {t = t} r) p q = pattern_low bounded r (low_append Γ (t ∷ []) p (q.0, tt)) q.1
pattern_low bounded (a_same h r) p q = pattern_low bounded r p q.1

-- the types that a part names
abbrev LowPart : Part → Type 0
LowPart (deconstruct x ps) = Unit {0}
LowPart (search s x ps) = s < most_types
LowPart (construct s ps) = s < most_types
LowPart (condition b x apps) = Unit {0}

part_low : {g : Grammar} {rules : Rules} {Γ Γ' : Types} {p : Part} → Bounded g → PartFits g rules Γ p Γ' → LowPart p → Low Γ → Low Γ'
part_low bounded (deconstructs {Γ = Γ} {x = x} {t = t} h r) lp l = pattern_low bounded r.typed l (low_has Γ x t l h, tt)
part_low bounded (searches_for h r) lp l = pattern_low bounded r.typed l (lp, tt)
part_low bounded (constructs {Γ = Γ} {ty = ty} r) lp l = low_append Γ (ty ∷ []) l (lp, tt)
part_low bounded (tests h r) lp l = l

part_grows : {g : Grammar} {rules : Rules} {Γ Γ' : Types} {p : Part} → PartFits g rules Γ p Γ' → length Γ ≤ length Γ'
part_grows (deconstructs h r) = pattern_grows r.typed
part_grows (searches_for h r) = pattern_grows r.typed
part_grows (constructs {Γ = Γ} {ty = ty} r) = omega (arith, length-append Γ (ty ∷ []))
part_grows (tests h r) = omega arith

pub parts_grow : {g : Grammar} {rules : Rules} {Γ Γ' : Types} {ps : List Part} → PartsFit g rules Γ ps Γ' → length Γ ≤ length Γ'
parts_grow no_part = omega arith
parts_grow (a_part p r) = let a = part_grows p in let b = parts_grow r in omega arith

pub parts_over : (g : Grammar) (rules : Rules) (ps : List Part) (Γ : Types) → most_variables < length Γ → limited (parts_of g rules Γ ps) ≡ none
parts_over g rules ps Γ h = limited_none (parts_of g rules Γ ps) (λ Δ e. let z = parts_grow (parts_of_lem g rules ps Γ Δ e) in omega arith)

-- WHAT IS ACCEPTED

module _ (g : Grammar) (rules : Rules) (ws : Words) (bounded : Bounded g) (few : length rules ≤ most_rules) where
  -- the pairs whose count stands at p
  module _ (p next : ℕ) (st : Stretch ws p next) (Γ : Context) where
    pub typed_pattern : (t : ℕ) → t < most_types → length Γ ≤ most_variables → plain (typed g rules ws in_pattern (a_tree (tree 1 t)) Γ p) ≡ placed (limited (one_pattern g Γ (shapes (stretch ws p)) t)) next
    unfolding typed
    typed_pattern t lt n = pattern_whole g rules bounded (stretch ws p) t Γ (suc p) st.even lt n ∙ ap (placed (limited (one_pattern g Γ (shapes (stretch ws p)) t))) st.ends

    pub typed_replacement : (t : ℕ) → t < most_types
        → plain (typed g rules ws in_replacement (a_tree (tree 1 t)) Γ p) ≡ placed (when (one_replacement g rules Γ (pieces (stretch ws p)) t) (some Γ)) next
    unfolding typed
    typed_replacement t lt =
        replacement_whole g rules bounded few (stretch ws p) t Γ (suc p) st.even lt ∙ ap (placed (when (one_replacement g rules Γ (pieces (stretch ws p)) t) (some Γ))) st.ends

    -- the condition that stands there
    abbrev chain_part : Bool → Part
    chain_part negated = condition negated (get_or (stretch ws p) 1 0) (condition_of (stretch ws p))

    typed_condition : (negated : Bool) → plain (typed g rules ws in_condition a_chain Γ p) ≡ placed (part_of g rules Γ (chain_part negated)) next
    unfolding typed
    typed_condition negated = condition_whole g rules few negated (stretch ws p) Γ (suc p) ∙ ap (placed (part_of g rules Γ (chain_part negated))) st.ends

    module _ (n : length Γ ≤ most_variables) (at : ℕ) where
      deconstruct_typed : (x : ℕ) → Low Γ → plain (part_typed g rules ws (deconstruct_at none x p) Γ at) ≡ placed (limited (part_of g rules Γ (deconstruct (get_or ws x 0) (shapes (stretch ws p))))) next
      unfolding part_typed part_of variable_there
      deconstruct_typed x l = rw (read_variable Γ v (λ t. one_pattern g Γ (shapes (stretch ws p)) t)) (go (ltb v (length Γ)) refl)
        where
          v : ℕ
          v = get_or ws x 0

          go : (b : Bool) → ltb v (length Γ) ≡ b → plain (and_then (pick b (value v (suc x)) (refused 22 x)) (λ v next. typed g rules ws in_pattern (a_tree (tree 1 (get_or Γ v 0))) Γ p))
              ≡ placed (limited (when b (one_pattern g Γ (shapes (stretch ws p)) (get_or Γ v 0)))) next
          go true e = typed_pattern (get_or Γ v 0) (low_get_d Γ v l (ltb-true v (length Γ) e)) n
          go false e = refl

      search_typed : (s x : ℕ) → s < most_types
          → plain (part_typed g rules ws (deconstruct_at (some s) x p) Γ at) ≡ placed (limited (part_of g rules Γ (search s (get_or ws x 0) (shapes (stretch ws p))))) next
      unfolding part_typed part_of variable_there
      search_typed s x lt = rw (read_variable Γ v (λ t. one_pattern g Γ (shapes (stretch ws p)) s)) (go (ltb v (length Γ)))
        where
          v : ℕ
          v = get_or ws x 0

          go : (b : Bool) → plain (and_then (pick b (value v (suc x)) (refused 22 x)) (λ v next. typed g rules ws in_pattern (a_tree (tree 1 s)) Γ p))
              ≡ placed (limited (when b (one_pattern g Γ (shapes (stretch ws p)) s))) next
          go true = typed_pattern s lt n
          go false = refl

      construct_typed : (s : ℕ) → s < most_types → plain (part_typed g rules ws (construct_at s p) Γ at) ≡ placed (limited (part_of g rules Γ (construct s (pieces (stretch ws p))))) next
      unfolding part_typed part_of
      construct_typed s lt = go (ltb (length Γ) most_variables) refl
        where
          built : Types
          built = Γ ++ s ∷ []

          fits : Bool
          fits = one_replacement g rules Γ (pieces (stretch ws p)) s

          room : (b : Bool) → leb (length built) most_variables ≡ true → bind (when b (some Γ)) (λ Δ. some built) ≡ limited (cond b (some built) none)
          room true e = rw e
          room false e = refl

          no_room : (b : Bool) → leb (length built) most_variables ≡ false → none ≡ limited (cond b (some built) none)
          no_room true e = rw e
          no_room false e = refl

          go : (c : Bool) → ltb (length Γ) most_variables ≡ c → plain (and_then (require c 24 0 at) (λ u next. and_then (typed g rules ws in_replacement (a_tree (tree 1 s)) Γ p) (λ Δ. return built)))
              ≡ placed (limited (cond fits (some built) none)) next
          go true e =
              let z = ltb-true (length Γ) most_variables e in
              plain_then (typed g rules ws in_replacement (a_tree (tree 1 s)) Γ p) (when fits (some Γ)) next (λ Δ. return built) (λ Δ. some built) next (typed_replacement s lt) (λ Δ q. refl)
              ∙ ap (λ o. placed o next) (room fits (le-leb (length built) most_variables (omega (arith, length-append Γ (s ∷ [])))))
          go false e =
              let z = ltb-false (length Γ) most_variables e in
              ap (λ o. placed o next) (no_room fits (lt-leb (length built) most_variables (omega (arith, length-append Γ (s ∷ [])))))

      condition_typed : (negated : Bool) → plain (part_typed g rules ws (condition_at negated p) Γ at) ≡ placed (limited (part_of g rules Γ (chain_part negated))) next
      unfolding part_typed part_of
      condition_typed negated = typed_condition negated ∙ ap (λ o. placed o next) same
        where
          x : ℕ
          x = get_or (stretch ws p) 1 0

          apps : List Application
          apps = condition_of (stretch ws p)

          go : (a b : Bool) → when a (cond b (some Γ) none) ≡ limited (when a (cond b (some Γ) none))
          go true true = rw (le-leb (length Γ) most_variables n)
          go true false = refl
          go false b = refl

          same : part_of g rules Γ (condition negated x apps) ≡ limited (part_of g rules Γ (condition negated x apps))
          same = rw (read_variable Γ x (λ t. cond (all_apply_of g rules Γ testing t apps) (some Γ) none)) (go (ltb x (length Γ)) (all_apply_of g rules Γ testing (get_or Γ x 0) apps))

  part_typed_lem : (q : PartAt) (next : ℕ) (Γ : Context) (at : ℕ) → Told ws q next → Low Γ → length Γ ≤ most_variables
      → plain (part_typed g rules ws q Γ at) ≡ placed (limited (part_of g rules Γ (decoded ws q))) next
  unfolding decoded
  part_typed_lem (deconstruct_at none x p) next Γ at t l n = deconstruct_typed p next t Γ n at x l
  part_typed_lem (deconstruct_at (some s) x p) next Γ at t l n = search_typed p next t.1 Γ n at s x t.0
  part_typed_lem (construct_at s p) next Γ at t l n = construct_typed p next t.1 Γ n at s t.0
  part_typed_lem (condition_at b p) next Γ at t l n = condition_typed p next t Γ n at b

  told_low : (q : PartAt) (next : ℕ) → Told ws q next → LowPart (decoded ws q)
  unfolding decoded
  told_low (deconstruct_at none x p) next t = tt
  told_low (deconstruct_at (some s) x p) next t = t.0
  told_low (construct_at s p) next t = t.0
  told_low (condition_at b p) next t = tt

  -- the parts from position n on are `more`, and end at next
  abbrev Rest : ℕ → List Part → ℕ → ℕ → Type 0
  Rest k more n next = (Γ : Context) → Low Γ → length Γ ≤ most_variables → plain (parts_typed g rules ws k Γ n) ≡ placed (limited (parts_of g rules Γ more)) next

  parts_step : (k at n next : ℕ) (q : PartAt) (more : List Part) (Γ : Context) → part_at (length g) ws at ≡ value q n → Told ws q n → Low Γ → length Γ ≤ most_variables → Rest k more n next
      → plain (parts_typed g rules ws (suc k) Γ at) ≡ placed (limited (parts_of g rules Γ (decoded ws q ∷ more))) next
  unfolding parts_typed parts_of
  parts_step k at n next q more Γ e t l m ih =
      rw e (plain_then (part_typed g rules ws q Γ at) (limited one) n (parts_typed g rules ws k) (λ Δ. limited (parts_of g rules Δ more)) next (part_typed_lem q n Γ at t l m) others
      ∙ ap (λ o. placed o next) (limited_then one (λ Δ. parts_of g rules Δ more) (λ Δ. parts_over g rules more Δ)))
    where
      one : Option Types
      one = part_of g rules Γ (decoded ws q)

      others : (Δ : Types) → limited one ≡ some Δ → plain (parts_typed g rules ws k Δ n) ≡ placed (limited (parts_of g rules Δ more)) next
      others Δ f = let x = limited_some one Δ f in ih Δ (part_low bounded (part_of_lem g rules Γ Δ (decoded ws q) x.0) (told_low q n t) l) x.1

  nothing_left : (at next : ℕ) (ps : List Part) → many zero (part (length g) ws) at ≡ value ps next → Rest zero ps at next
  unfolding many parts_typed parts_of
  nothing_left at next ps e Γ l m =
      let y : [] ≡ ps = cc in
      let z : at ≡ next = cc in
      rw (← y, ← z, le-leb (length Γ) most_variables m)

  pub parts_typed_lem : (k at next : ℕ) (ps : List Part) → many k (part (length g) ws) at ≡ value ps next → Rest k ps at next
  parts_typed_lem zero at next ps e Γ l m = nothing_left at next ps e Γ l m
  parts_typed_lem (suc k) at next ps e Γ l m =
      let u = many_suc (part (length g) ws) k at e in
      let c = part_value (length g) ws at u.3 in
      parts_step k at u.1 next c.0 u.2 Γ c.1 (part_tells (length g) ws bounded.few at c.0 u.1 c.1) l m (parts_typed_lem k u.1 next u.2 u.4)
      ∙ ap (λ l. placed (limited (parts_of g rules Γ l)) next) (ap (λ p. p ∷ u.2) c.2 ∙ sym u.5)

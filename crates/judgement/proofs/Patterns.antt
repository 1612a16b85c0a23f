-- A pattern's pairs are accepted exactly if the pattern stands for a tree of the type due, within the limits. Assumes nothing.
use Prim.Native.Nat.{ℕ, ◌+◌, ◌≤◌, ◌<◌, max}
use mathlib.Core.Path.{◌≡◌, refl, sym, ap, ◌∙◌}
use mathlib.Core.List.{List, [], ◌∷◌, ◌++◌}
use mathlib.Core.Bool.{Bool, true, false, cond, ◌&&◌}
use mathlib.Core.Option.{Option, none, some}
use native.Mathlib.Omega.{arith}
use lib.ListN.{length, length-append}
use lib.Dec.{ltb, leb, eqb}
use borrow.Author.Tests.{ltb-true, ltb-false, leb-true, leb-false, le-leb, lt-leb, eqb-true}
use Rattle.words.specs.Reader.{Words, pick, and}
use Rattle.words.proofs.Laws.{or_true, or_false}
use Rattle.grammar.specs.Limits.{most_types}
use Rattle.grammar.specs.Grammar.{Grammar}
use Rattle.grammar.specs.Kinds.{allowed, children}
use Rattle.tables.proofs.Bounded.{Low, low_append, Bounded}
use Rattle.tree.specs.Limits.{most_nesting}
use Rattle.tree.specs.Tree.{levels}
use Rattle.tree.specs.Dues.{Next, whole}
use Rattle.tree.specs.Reading.{tree, dues_of}
use Rattle.tree.proofs.Trees.{Even, no_odd, even_tail, more_length}
use Rattle.tree.proofs.Dues.{plain, placed, bind, when, bind_when, when_none, exact}
use Rattle.tree.proofs.Accepted.{leb_max}
use Rattle.rules.specs.Limits.{most_variables, mark_new, mark_variable}
use Rattle.rules.specs.Rules.{Rules, Shape, node, new, same, shapes}
use Rattle.judgement.specs.Typing.{in_pattern, Due, a_tree, Context, may_stand, meets}
use Rattle.judgement.specs.WellTyped.{Types, Pattern, pattern_end, a_node, a_new, a_same, pattern_nesting}
use Rattle.judgement.specs.Tested.{on_some, has_type, pattern_of, one_pattern}
use Rattle.judgement.proofs.Tested.{no_some, pattern_of_lem}
use Rattle.judgement.proofs.Accept.{meet, read, whole_read, leaving, trees_due, children_due, node_meet, new_meet, variable_meet, after_node}

-- AT MOST 16 VARIABLES

abbrev pub limited : Option Types → Option Types
limited o = bind o (λ Γ. when (leb (length Γ) most_variables) (some Γ))

pub limited_none : (o : Option Types) → ((Γ : Types) → o ≡ some Γ → most_variables < length Γ) → limited o ≡ none
limited_none none h = refl
limited_none (some Γ) h = rw (lt-leb (length Γ) most_variables (h Γ refl))

pub limited_some : (o : Option Types) (Γ : Types) → limited o ≡ some Γ → (o ≡ some Γ) × (length Γ ≤ most_variables)
limited_some none Γ e = no_some e
limited_some (some Δ) Γ e = go (leb (length Δ) most_variables) refl e
  where
    go : (b : Bool) → leb (length Δ) most_variables ≡ b → when b (some Δ) ≡ some Γ → (some Δ ≡ some Γ) × (length Γ ≤ most_variables)
    go true p e = let z : Δ ≡ Γ = cc in (e, rw z at (leb-true (length Δ) most_variables p))
    go false p e = no_some e

-- the limit at the end is the limit at each step, where the variables only become more
pub limited_then : (o : Option Types) (f : Types → Option Types) → ((Γ : Types) → most_variables < length Γ → limited (f Γ) ≡ none) → bind (limited o) (λ Γ. limited (f Γ)) ≡ limited (on_some o f)
unfolding on_some
limited_then none f h = refl
limited_then (some Γ) f h = go (leb (length Γ) most_variables) refl
  where
    go : (b : Bool) → leb (length Γ) most_variables ≡ b → bind (when b (some Γ)) (λ Γ. limited (f Γ)) ≡ limited (f Γ)
    go true e = refl
    go false e = sym (h Γ (leb-false (length Γ) most_variables e))

pub pattern_grows : {g : Grammar} {Γ due Γ' : Types} {ps : List Shape} → Pattern g Γ due ps Γ' → length Γ ≤ length Γ'
pattern_grows pattern_end = omega arith
pattern_grows (a_node fine r) = pattern_grows r
pattern_grows (a_new {Γ = Γ} {t = t} r) = let h = pattern_grows r in omega (arith, length-append Γ (t ∷ []))
pattern_grows (a_same h r) = pattern_grows r

over : (g : Grammar) (ps : List Shape) (Γ due : Types) → most_variables < length Γ → limited (pattern_of g Γ ps due) ≡ none
over g ps Γ due h = limited_none (pattern_of g Γ ps due) (λ Δ e. let z = pattern_grows (pattern_of_lem ps Γ due e) in omega arith)

-- WHAT IS ACCEPTED

-- the shape that a pair stands for
abbrev shape_of : Bool → Bool → ℕ → ℕ → Shape
shape_of is_new is_variable t v = pick is_new (new v) (pick is_variable (same v) (node t v))

-- the variables after the shapes, if they stand for trees of the types at the nestings
abbrev answer : Grammar → Context → List Shape → List ℕ → List ℕ → Option Context
answer g Γ ps ks ts = when (leb (pattern_nesting g ps ks) most_nesting) (limited (pattern_of g Γ ps ts))

joined : (a c b : Bool) (o : Option Types) → when a (when c (when b (limited o))) ≡ when (and a b) (limited (cond c o none))
joined true true b o = refl
joined true false true o = refl
joined true false false o = refl
joined false c b o = refl

module _ (g : Grammar) (rules : Rules) (bounded : Bounded g) where
  abbrev Exact : Words → Type 0
  Exact ws = (ks ts : List ℕ) (Γ : Context) → Even ws → length ks ≡ length ts → Low ts → length Γ ≤ most_variables → read g rules in_pattern ws (trees_due ks ts) Γ ≡ answer g Γ (shapes ws) ks ts

  step : (t v : ℕ) (ws : Words) (k d : ℕ) (ks ts : List ℕ) (Γ : Context) → Even ws → length ks ≡ length ts → d < most_types → Low ts → length Γ ≤ most_variables → Exact ws
      → bind (meet g rules in_pattern (a_tree (tree k d)) Γ t v) (λ s. read g rules in_pattern ws (s.dues ++ trees_due ks ts) s.known)
      ≡ answer g Γ (shape_of (eqb t mark_new) (eqb t mark_variable) t v ∷ shapes ws) (k ∷ ks) (d ∷ ts)
  unfolding pattern_nesting pattern_of may_stand
  step t v ws k d ks ts Γ ev h ld low few ih = go (eqb t mark_new) (eqb t mark_variable) refl refl
    where
      rest : Next Due Context → Option Context
      rest s = read g rules in_pattern ws (s.dues ++ trees_due ks ts) s.known

      -- the nestings after a node, and after a variable
      inner : ℕ → ℕ
      inner d = pattern_nesting g (shapes ws) (levels g d v k ++ ks)

      m : ℕ
      m = pattern_nesting g (shapes ws) ks

      top : Bool
      top = leb k most_nesting

      fresh : (c : Bool) → ltb (length Γ) most_variables ≡ c → bind (when c (leaving (Γ ++ d ∷ []) [])) rest ≡ answer g (Γ ++ d ∷ []) (shapes ws) ks ts
      fresh true e = let z = ltb-true (length Γ) most_variables e in ih ks ts (Γ ++ d ∷ []) ev h low (omega (arith, length-append Γ (d ∷ [])))
      fresh false e = let z = ltb-false (length Γ) most_variables e in rw (over g (shapes ws) (Γ ++ d ∷ []) ts (omega (arith, length-append Γ (d ∷ [])))) (when_none (leb m most_nesting))

      is_new : (c : Bool) → eqb v d ≡ c → bind (when c (when (ltb (length Γ) most_variables) (leaving (Γ ++ d ∷ []) []))) rest ≡ when c (answer g (Γ ++ v ∷ []) (shapes ws) ks ts)
      is_new true e = rw (eqb-true v d e) (fresh (ltb (length Γ) most_variables) refl)
      is_new false e = refl

      is_node : (c : Bool) → eqb t d ≡ c → bind (when c (when top (children_due g k d Γ v))) rest
          ≡ when (leb (max k (inner t)) most_nesting) (limited (cond (c && allowed g t v) (pattern_of g Γ (shapes ws) (children g t v ++ ts)) none))
      is_node true e =
          rw (eqb-true t d e, leb_max k (inner d) most_nesting)
          (after_node g rules in_pattern ws Γ k d v ks ts top
          ∙ ap (λ o. when top (when (allowed g d v) o))
          (ih (levels g d v k ++ ks) (children g d v ++ ts) Γ ev (more_length g d v k ks ts h) (low_append (children g d v) ts (bounded.closed d v ld) low) few)
          ∙ joined top (allowed g d v) (leb (inner d) most_nesting) (pattern_of g Γ (shapes ws) (children g d v ++ ts)))
      is_node false e = when_none (leb (max k (inner t)) most_nesting)

      go : (a b : Bool) → eqb t mark_new ≡ a → eqb t mark_variable ≡ b → bind (meet g rules in_pattern (a_tree (tree k d)) Γ t v) rest ≡ answer g Γ (shape_of a b t v ∷ shapes ws) (k ∷ ks) (d ∷ ts)
      go true b p q =
          rw (new_meet g rules in_pattern k d Γ t v ld (rw p (or_true (eqb t d))) (eqb-true t mark_new p), leb_max k m most_nesting)
          (bind_when top (when (eqb v d) (when (ltb (length Γ) most_variables) (leaving (Γ ++ d ∷ []) []))) rest ∙ ap (when top) (is_new (eqb v d) refl)
          ∙ joined top (eqb v d) (leb m most_nesting) (pattern_of g (Γ ++ v ∷ []) (shapes ws) ts))
      go false true p q =
          rw (variable_meet g rules in_pattern k d Γ t v ld (rw (p, q) (or_true (eqb t d))) (eqb-true t mark_variable q), leb_max k m most_nesting)
          (bind_when top (when (has_type Γ v d) (leaving Γ [])) rest ∙ ap (when top) (bind_when (has_type Γ v d) (leaving Γ []) rest ∙ ap (when (has_type Γ v d)) (ih ks ts Γ ev h low few))
          ∙ joined top (has_type Γ v d) (leb m most_nesting) (pattern_of g Γ (shapes ws) ts))
      go false false p q = rw (node_meet g rules in_pattern k d Γ t v (rw (p, q) (sym (or_false (eqb t d))))) (is_node (eqb t d) refl)

  pattern_exact : (ws : Words) → Exact ws
  unfolding exact meet pattern_of pattern_nesting shapes dues_of
  pattern_exact [] [] [] Γ ev h low few = rw (le-leb (length Γ) most_variables few)
  pattern_exact [] [] (t ∷ ts) Γ ev h low few = absurd (omega arith)
  pattern_exact [] (k ∷ ks) [] Γ ev h low few = absurd (omega arith)
  pattern_exact [] (k ∷ ks) (t ∷ ts) Γ ev h low few = refl
  pattern_exact (w ∷ []) ks ts Γ ev h low few = absurd (no_odd w ev)
  pattern_exact (w ∷ v ∷ ws) [] [] Γ ev h low few = refl
  pattern_exact (w ∷ v ∷ ws) [] (t ∷ ts) Γ ev h low few = absurd (omega arith)
  pattern_exact (w ∷ v ∷ ws) (k ∷ ks) [] Γ ev h low few = absurd (omega arith)
  pattern_exact (w ∷ v ∷ ws) (k ∷ ks) (t ∷ ts) Γ ev h low few = step w v ws k t ks ts Γ (even_tail w v ws ev) (omega arith) low.0 low.1 few (pattern_exact ws)

  -- the pairs of a pattern against the type due
  pub pattern_whole : (ws : Words) (t : ℕ) (Γ : Context) (at : ℕ) → Even ws → t < most_types → length Γ ≤ most_variables
      → plain (whole (meets g rules in_pattern) 23 ws (a_tree (tree 1 t) ∷ []) Γ at) ≡ placed (limited (one_pattern g Γ (shapes ws) t)) (at + length ws)
  unfolding one_pattern dues_of
  pattern_whole ws t Γ at ev lt few =
      whole_read g rules in_pattern ws (a_tree (tree 1 t)) Γ at
      ∙ ap (λ o. placed o (at + length ws)) (pattern_exact ws (1 ∷ []) (t ∷ []) Γ ev refl (lt, tt) few ∙ go (leb (pattern_nesting g (shapes ws) (1 ∷ [])) most_nesting) (pattern_of g Γ (shapes ws) (t ∷ [])))
    where
      go : (b : Bool) (o : Option Types) → when b (limited o) ≡ limited (cond b o none)
      go true o = refl
      go false o = refl

-- The rounds find just the types of which a finite tree exists. Assumes nothing.
use Prim.Native.Nat.{ℕ, zero, suc, ◌+◌, ◌-◌, ◌<◌, ◌≤◌}
use mathlib.Core.Path.{◌≡◌, refl, sym, ap, ◌∙◌}
use mathlib.Core.List.{List, [], ◌∷◌}
use mathlib.Core.Bool.{Bool, true, false}
use native.Mathlib.Omega.{arith}
use lib.ListN.{length, get_or}
use lib.Dec.{eqb, leb-zero}
use borrow.Author.Tests.{lt-ltb, ltb-true}
use Rattle.words.specs.Reader.{pick, and, or}
use Rattle.words.proofs.Laws.{and_both, or_true}
use Rattle.grammar.specs.Limits.{greatest_name, greatest_number}
use Rattle.grammar.specs.Grammar.{Kind, token, opt, sequence, forms, Grammar, all_known, any_form_known, finishes, round, rounds, finite}
use Rattle.grammar.specs.Kinds.{kind_of, allows, allowed, children_of, children}
use Rattle.grammar.specs.Finite.{Finite, none, node}
use Rattle.grammar.proofs.Laws.{round_same, round_length}

-- WHAT THE ROUNDS FIND IS FINITE

round_at : (known : List Bool) (g : Grammar) (t : ℕ) → get_or (round known g) t false ≡ finishes known (kind_of g t)
unfolding round finishes any_form_known kind_of
round_at known [] t = refl
round_at known (k ∷ g) zero = refl
round_at known (k ∷ g) (suc t) = round_at known g t

join : {g : Grammar} {t : ℕ} {ts : List ℕ} → Finite g (t ∷ []) → Finite g ts → Finite g (t ∷ ts)
join (node v a f none) p = node v a f p

-- a node of a type whose kind is known
node_of : (g : Grammar) (t v : ℕ) (k : Kind) → kind_of g t ≡ k → allows k v ≡ true → Finite g (children_of k t v) → Finite g (t ∷ [])
unfolding allowed children
node_of g t v k e a f = node {t = t} v (rw e a) (rw e f) none

module _ (g : Grammar) (known : List Bool) (below : (t : ℕ) → get_or known t false ≡ true → Finite g (t ∷ [])) where
  all_finite : (ts : List ℕ) → all_known known ts ≡ true → Finite g ts
  unfolding all_known
  all_finite [] e = none
  all_finite (t ∷ ts) e = let b = and_both (get_or known t false) (all_known known ts) e in join (below t b.0) (all_finite ts b.1)

  any_finite : (fs : List (List ℕ)) → any_form_known known fs ≡ true → (v : ℕ) × (v < length fs) × Finite g (get_or fs v [])
  unfolding any_form_known
  any_finite [] e = let z : ◌≡◌ {A = ℕ} 0 1 = cc in absurd (omega arith)
  any_finite (f ∷ fs) e = go (all_known known f) refl e (any_finite fs)
    where
      go : (b : Bool) → all_known known f ≡ b → or b (any_form_known known fs) ≡ true → (any_form_known known fs ≡ true → (v : ℕ) × (v < length fs) × Finite g (get_or fs v [])) → (v : ℕ) × (v < suc (length fs)) × Finite g (get_or (f ∷ fs) v [])
      go true h i rest = (0, omega arith, all_finite f h)
      go false h i rest = let u = rest i in (suc u.0, omega (arith, u.1), u.2)

  kind_finite : (t : ℕ) (k : Kind) → kind_of g t ≡ k → finishes known k ≡ true → Finite g (t ∷ [])
  unfolding finishes allows children_of
  kind_finite t (token c) e h = node_of g t 0 (token c) e (leb-zero (pick (eqb c 2) greatest_number greatest_name)) none
  kind_finite t (opt c) e h = node_of g t 1 (opt c) e refl none
  kind_finite t (sequence style c) e h = node_of g t 1 (sequence style c) e refl none
  kind_finite t (forms fs) e h = let u = any_finite fs h in node_of g t u.0 (forms fs) e (lt-ltb u.0 (length fs) u.1) u.2

rounds_finite : (g : Grammar) (i t : ℕ) → get_or (rounds i g) t false ≡ true → Finite g (t ∷ [])
unfolding rounds
rounds_finite g zero t e = let z : ◌≡◌ {A = ℕ} 0 1 = cc in absurd (omega arith)
rounds_finite g (suc i) t e = kind_finite g (rounds i g) (rounds_finite g i) t (kind_of g t) refl (sym (round_at (rounds i g) g t) ∙ e)

-- ENOUGH ROUNDS CHANGE NOTHING

-- all that one knows, the other knows
abbrev Within : List Bool → List Bool → Type 0
Within a b = (t : ℕ) → get_or a t false ≡ true → get_or b t false ≡ true

module _ (a b : List Bool) (w : Within a b) where
  all_within : (ts : List ℕ) → all_known a ts ≡ true → all_known b ts ≡ true
  unfolding all_known
  all_within [] e = refl
  all_within (t ∷ ts) e = let u = and_both (get_or a t false) (all_known a ts) e in rw (w t u.0) (all_within ts u.1)

  any_within : (fs : List (List ℕ)) → any_form_known a fs ≡ true → any_form_known b fs ≡ true
  unfolding any_form_known
  any_within [] e = e
  any_within (f ∷ fs) e = go (all_known a f) refl e (any_within fs)
    where
      go : (x : Bool) → all_known a f ≡ x → or x (any_form_known a fs) ≡ true → (any_form_known a fs ≡ true → any_form_known b fs ≡ true) → or (all_known b f) (any_form_known b fs) ≡ true
      go true h i rest = rw (all_within f h)
      go false h i rest = rw (rest i) (or_true (all_known b f))

  finishes_within : (k : Kind) → finishes a k ≡ true → finishes b k ≡ true
  unfolding finishes
  finishes_within (token c) e = refl
  finishes_within (opt c) e = refl
  finishes_within (sequence style c) e = refl
  finishes_within (forms fs) e = any_within fs e

  round_within : (g : Grammar) → Within (round a g) (round b g)
  round_within g t e = round_at b g t ∙ finishes_within (kind_of g t) (sym (round_at a g t) ∙ e)

rounds_within : (g : Grammar) (i : ℕ) → Within (rounds i g) (rounds (suc i) g)
unfolding rounds
rounds_within g zero t e = let z : ◌≡◌ {A = ℕ} 0 1 = cc in absurd (omega arith)
rounds_within g (suc i) t e = round_within (rounds i g) (round (rounds i g) g) (rounds_within g i) g t e

one : Bool → ℕ
one true = 1
one false = 0

count : List Bool → ℕ
count [] = 0
count (b ∷ bs) = one b + count bs

count_most : (bs : List Bool) → count bs ≤ length bs
unfolding count one
count_most [] = omega arith
count_most (true ∷ bs) = omega (arith, count_most bs)
count_most (false ∷ bs) = omega (arith, count_most bs)

count_within : (a b : List Bool) → length a ≡ length b → Within a b → (count a ≤ count b) × (count b ≤ count a → a ≡ b)
unfolding count one
count_within [] [] l w = (omega arith, λ h. refl)
count_within [] (y ∷ b) l w = absurd (omega arith)
count_within (x ∷ a) [] l w = absurd (omega arith)
count_within (true ∷ a) (true ∷ b) l w = let u = count_within a b (omega arith) (λ t. w (suc t)) in (omega (arith, u.0), λ h. ap (λ r. true ∷ r) (u.1 (omega arith)))
count_within (true ∷ a) (false ∷ b) l w = let z : false ≡ true = w zero refl in let y : ◌≡◌ {A = ℕ} 0 1 = cc in absurd (omega arith)
count_within (false ∷ a) (true ∷ b) l w = let u = count_within a b (omega arith) (λ t. w (suc t)) in (omega (arith, u.0), λ h. absurd (omega (arith, u.0)))
count_within (false ∷ a) (false ∷ b) l w = let u = count_within a b (omega arith) (λ t. w (suc t)) in (omega (arith, u.0), λ h. ap (λ r. false ∷ r) (u.1 (omega arith)))

-- a round too few: it changes nothing, or more is known than rounds were made
data Settled (g : Grammar) (i : ℕ) : Type 0 where
  settled : ((t : ℕ) → get_or (rounds (suc i) g) t false ≡ get_or (rounds i g) t false) → Settled g i
  growing : suc i ≤ count (rounds (suc i) g) → Settled g i

-- a list in which nothing is known
count_zero : (bs : List Bool) → count bs ≤ 0 → (t : ℕ) → get_or bs t false ≡ false
unfolding count one
count_zero [] h t = refl
count_zero (true ∷ bs) h t = absurd (omega arith)
count_zero (false ∷ bs) h zero = refl
count_zero (false ∷ bs) h (suc t) = count_zero bs (omega arith) t

rounds_length : (g : Grammar) (i : ℕ) → length (rounds (suc i) g) ≡ length g
unfolding rounds
rounds_length g i = round_length (rounds i g) g

settles : (g : Grammar) (i : ℕ) → Settled g i
unfolding rounds
settles g zero = go (count (rounds 1 g)) refl
  where
    go : (n : ℕ) → count (rounds 1 g) ≡ n → Settled g zero
    go zero e = settled (count_zero (rounds 1 g) (omega arith))
    go (suc n) e = growing (omega arith)
settles g (suc i) = go (settles g i)
  where
    u : (count (rounds (suc i) g) ≤ count (rounds (suc (suc i)) g)) × (count (rounds (suc (suc i)) g) ≤ count (rounds (suc i) g) → rounds (suc i) g ≡ rounds (suc (suc i)) g)
    u = count_within (rounds (suc i) g) (rounds (suc (suc i)) g) (rounds_length g i ∙ sym (rounds_length g (suc i))) (rounds_within g (suc i))

    grow : suc i ≤ count (rounds (suc i) g) → (d : ℕ) → count (rounds (suc (suc i)) g) - count (rounds (suc i) g) ≡ d → Settled g (suc i)
    grow h zero e = settled (λ t. ap (λ bs. get_or bs t false) (sym (u.1 (omega arith))))
    grow h (suc d) e = growing (omega arith)

    go : Settled g i → Settled g (suc i)
    go (settled s) = settled (λ t. ap (λ bs. get_or bs t false) (round_same (rounds (suc i) g) (rounds i g) s g))
    go (growing h) = grow h (count (rounds (suc (suc i)) g) - count (rounds (suc i) g)) refl

same_round : (g : Grammar) (i t : ℕ) → get_or (round (rounds i g) g) t false ≡ get_or (rounds (suc i) g) t false
unfolding rounds
same_round g i t = refl

fixed : (g : Grammar) (t : ℕ) → finishes (finite g) (kind_of g t) ≡ get_or (finite g) t false
unfolding finite
fixed g t = go (settles g (length g))
  where
    go : Settled g (length g) → finishes (rounds (length g) g) (kind_of g t) ≡ get_or (rounds (length g) g) t false
    go (settled s) = sym (round_at (rounds (length g) g) g t) ∙ same_round g (length g) t ∙ s t
    go (growing h) = absurd (omega (arith, count_most (rounds (suc (length g)) g), rounds_length g (length g)))

-- ALL THAT IS FINITE IS FOUND

-- a form whose types all are known
any_at : (known : List Bool) (fs : List (List ℕ)) (v : ℕ) → v < length fs → all_known known (get_or fs v []) ≡ true → any_form_known known fs ≡ true
unfolding any_form_known
any_at known [] v h e = absurd (omega arith)
any_at known (f ∷ fs) zero h e = rw e
any_at known (f ∷ fs) (suc v) h e = rw (any_at known fs v (omega arith) e) (or_true (all_known known f))

-- a node's kind finishes with what its children finish with
node_finishes : (known : List Bool) (k : Kind) (t v : ℕ) → allows k v ≡ true → all_known known (children_of k t v) ≡ true → finishes known k ≡ true
unfolding finishes allows children_of
node_finishes known (token c) t v a e = refl
node_finishes known (opt c) t v a e = refl
node_finishes known (sequence style c) t v a e = refl
node_finishes known (forms fs) t v a e = any_at known fs v (ltb-true v (length fs) a) e

both_true : (a b : Bool) → a ≡ true → b ≡ true → and a b ≡ true
both_true a b e f = rw (e, f)

found : (g : Grammar) {ts : List ℕ} → Finite g ts → all_known (finite g) ts ≡ true
unfolding all_known allowed children
found g none = refl
found g (node {t} {ts} v a p q) = both_true (get_or (finite g) t false) (all_known (finite g) ts) (sym (fixed g t) ∙ node_finishes (finite g) (kind_of g t) t v a (found g p)) (found g q)

-- THE TWO TOGETHER: 12 is given for just the types of which no finite tree exists
pub finite_sound : (g : Grammar) (t : ℕ) → get_or (finite g) t false ≡ true → Finite g (t ∷ [])
unfolding finite
finite_sound g t e = rounds_finite g (length g) t e

pub finite_complete : (g : Grammar) (t : ℕ) → Finite g (t ∷ []) → get_or (finite g) t false ≡ true
unfolding all_known
finite_complete g t p = (and_both (get_or (finite g) t false) true (found g p)).0

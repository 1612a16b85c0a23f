-- Laws of a row of dues that is pushed, the last first. Assumes nothing.
use Prim.Native.Nat.{ℕ, zero, suc, ◌+◌, ◌<◌, ◌≤◌}
use mathlib.Core.Path.{◌≡◌, refl, sym, ap, ◌∙◌}
use mathlib.Core.List.{List, [], ◌∷◌, ◌++◌, map}
use mathlib.Core.Bool.{Bool, true, false}
use native.Mathlib.Omega.{arith}
use native.Mathlib.Nat.{add-zero}
use native.Mathlib.Numerals.{add-one}
use lib.ListN.{length, get_or, drop, replicate, length-map, length-replicate, drop_of_length-le}
use lib.Dec.{ltb, eqb}
use borrow.Author.Tests.{eq-eqb, ne_eqb, le-leb}
use Rattle.std.specs.Prelude.{Option, None, Result, Ok}
use Rattle.words.specs.Reader.{Words, Reader, and_then}
use Rattle.grammar.specs.Grammar.{Grammar}
use Rattle.grammar.specs.Kinds.{allowed, children, is_sequence}
use Rattle.tables.specs.Types.{TypesOf}
use Rattle.tables.specs.declared.types.Types.{Types}
use Rattle.tree.specs.Tree.{levels}
use Rattle.tree.specs.Reading.{tree, dues_of}
use Rattle.tree.proofs.Reading.{children_dues, sequence_some, sequence_none}
use Rattle.tree.specs.Dues.{Next, second_word, leaves}
use Rattle.rules.specs.Rules.{Rules}
use Rattle.judgement.specs.Wanted.{exactly, wants}
use Rattle.judgement.specs.Typing.{Place, Due, a_tree, argument, Context, may_stand, variable, node, meets}
use Rattle.dues.specs.Views.{children_due, node_due, words_at, parameters_due, Meets}

-- the i first dues of the row are still to be pushed
pub row_start : (l s : List Due) (i : ℕ) → length l ≤ i → s ≡ drop i l ++ s
row_start l s i h = rw (drop_of_length-le l {i = i} h)

pub row_more : (l s s' : List Due) (i j : ℕ) {d : Due} → j + 1 ≡ i → drop j l ≡ d ∷ drop (suc j) l → s' ≡ drop i l ++ s → d ∷ s' ≡ drop j l ++ s
row_more l s s' i j e f p = rw (f, p, ← e, add-one)

children_at : (k : ℕ) (cs : List ℕ) (i : ℕ) → i < length cs → drop i (children_due k cs) ≡ a_tree (tree k (get_or cs i 0)) ∷ drop (suc i) (children_due k cs)
children_at k [] i h = absurd (omega arith)
children_at k (c ∷ cs) zero h = refl
children_at k (c ∷ cs) (suc i) h = children_at k cs i (omega arith)

pub children_last : (k : ℕ) (cs : List ℕ) (s s' : List Due) (i j : ℕ) {e : ℕ} → j + 1 ≡ i → i ≤ length cs → e ≡ get_or cs j 0 → s' ≡ drop i (children_due k cs) ++ s → a_tree (tree k e) ∷ s' ≡ drop j (children_due k cs) ++ s
children_last k cs s s' i j z m e p = row_more (children_due k cs) s s' i j z (children_at k cs j (omega arith) ∙ ap (λ x. a_tree (tree k x) ∷ drop (suc j) (children_due k cs)) (sym e)) p

pub children_length : (k : ℕ) (cs : List ℕ) → length (children_due k cs) ≡ length cs
children_length k [] = refl
children_length k (c ∷ cs) = ap suc (children_length k cs)

pub replicate_more : (d : Due) (k : ℕ) (s s' : List Due) → s' ≡ replicate k d ++ s → d ∷ s' ≡ replicate (k + 1) d ++ s
replicate_more d k s s' e = rw (add-one k, e)

arguments_at : (ws : Words) (first k i : ℕ) → i < k → drop i (parameters_due ws first k) ≡ argument (exactly (get_or ws (first + i) 0)) ∷ drop (suc i) (parameters_due ws first k)
unfolding words_at
arguments_at ws first zero i h = absurd (omega arith)
arguments_at ws first (suc k) zero h = rw (add-zero first)
arguments_at ws first (suc k) (suc i) h = let z : first + suc i ≡ first + 1 + i = omega arith in rw z (arguments_at ws (first + 1) k i (omega arith))

pub arguments_last : (ws : Words) (first k : ℕ) (s s' : List Due) (i j : ℕ) {e : ℕ} → j + 1 ≡ i → i ≤ k → e ≡ get_or ws (first + j) 0 → s' ≡ drop i (parameters_due ws first k) ++ s → argument (exactly e) ∷ s' ≡ drop j (parameters_due ws first k) ++ s
arguments_last ws first k s s' i j z m e p = row_more (parameters_due ws first k) s s' i j z (arguments_at ws first k j (omega arith) ∙ ap (λ x. argument (exactly x) ∷ drop (suc j) (parameters_due ws first k)) (sym e)) p

pub parameters_length : (ws : Words) (first k : ℕ) → length (map exactly (words_at ws first k)) ≡ k
unfolding words_at
parameters_length ws first zero = refl
parameters_length ws first (suc k) = ap suc (parameters_length ws (first + 1) k)

pub arguments_length : (ws : Words) (first k : ℕ) → length (parameters_due ws first k) ≡ k
arguments_length ws first k = length-map (map exactly (words_at ws first k)) argument ∙ parameters_length ws first k

pub replicate_few : (d : Due) (k : ℕ) → k ≤ 4 → length (replicate k d) ≤ 8
replicate_few d k h = omega (arith, length-replicate k d)

-- A NODE'S CHILDREN

dues_length : (ks ts : List ℕ) → length (map a_tree (dues_of ks ts)) ≤ length ts
unfolding dues_of
dues_length [] ts = omega arith
dues_length (k ∷ ks) [] = omega arith
dues_length (k ∷ ks) (t ∷ ts) = omega (arith, dues_length ks ts)

pub node_few : (g : Grammar) {types : Types} (d v n : ℕ) → TypesOf g types → length (node_due g d v n) ≤ 8
node_few g d v n t = omega (arith, dues_length (levels g d v n) (children g d v), t.rows_of_lem.most d v)

module _ (g : Grammar) (d v n : ℕ) {b : Bool} (eb : b ≡ is_sequence g d) where
  pub level_due : b ≡ false → children_due (n + 1) (children g d v) ≡ node_due g d v n
  level_due h = rw (add-one n) (ap (map a_tree) (sym (children_dues g d v n (sym eb ∙ h))))

  pub last_due : b ≡ true → (v ≡ 0 → ⊥) → [] ≡ node_due g d v n
  last_due h z = ap (map a_tree) (sym (sequence_none g d v n (sym eb ∙ h) z))

  pub some_due : {e : ℕ} → b ≡ true → v ≡ 0 → e ≡ get_or (children g d 0) 0 0 → a_tree (tree (n + 1) e) ∷ a_tree (tree n d) ∷ [] ≡ node_due g d v n
  some_due h z i = rw (z, i, add-one n) (ap (map a_tree) (sym (sequence_some g d n (sym eb ∙ h))))

pub node_met : (g : Grammar) {types : Types} (n d v at : ℕ) (ds ds' : List Due) (Γ : Context) → TypesOf g types → true ≡ allowed g d v → ds' ≡ node_due g d v n ++ ds → Meets (Ok None) Γ ds ds' (node g n d Γ v at)
unfolding node
node_met g n d v at ds ds' Γ t a p = rw (← a) (record { says = record { dues = node_due g d v n; next = at + 2; read = refl; pushed = p; few = node_few g d v n t } })

-- a variable where a tree is due is met as an argument of its type
pub variable_argument : (g : Grammar) (rules : Rules) (here : Place) (d t v at : ℕ) (Γ : Context) → t ≡ 65 → meets g rules here (argument (exactly d)) Γ t v at ≡ variable d Γ v at
unfolding meets variable wants
variable_argument g rules here d t v at Γ e = rw (eq-eqb t 65 e) (go (ltb v (length Γ)) (eqb (get_or Γ v 0) d) (leaves Γ []))
  where
    go : (a b : Bool) (r : Reader (Next Due Context)) → and_then (second_word a 22 at) (λ u next. and_then (second_word b 23 next) (λ w. r)) ≡ and_then (and_then (second_word a 22 at) (λ u. second_word b 23)) (λ u. r)
    go true b r = refl
    go false b r = refl

pub tree_variable : (g : Grammar) (rules : Rules) (here : Place) (n d t v at : ℕ) (ds : List Due) (Γ : Context) {m : Result (Option ℕ) (ℕ × ℕ)} → true ≡ may_stand here d t → n ≤ 64 → (t ≡ d → ⊥) → (t ≡ 64 → ⊥) → t ≡ 65
    → Meets m Γ ds ds (meets g rules here (argument (exactly d)) Γ t v at) → Meets m Γ ds ds (meets g rules here (a_tree (tree n d)) Γ t v at)
unfolding meets
tree_variable g rules here n d t v at ds Γ s low other h e k = rw (← s, le-leb n 64 low, ne_eqb t d other, ne_eqb t 64 h, eq-eqb t 65 e) (rw (variable_argument g rules here d t v at Γ e) at k)

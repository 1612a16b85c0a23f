-- Number tokens: the values that they may have, and the trees that they are. Assumes nothing.
use Prim.Native.Nat.{ℕ, ◌≤◌}
use mathlib.Core.Path.{◌≡◌, refl, subst}
use mathlib.Core.List.{[], ◌∷◌}
use mathlib.Core.Bool.{true, false}
use native.Mathlib.Omega.{arith}
use borrow.Author.Tests.{leb-true, le-leb}
use Rattle.words.specs.Reader.{Words}
use Rattle.words.proofs.Laws.{and_both}
use Rattle.grammar.specs.Limits.{greatest_number}
use Rattle.grammar.specs.Grammar.{Kind, token, opt, sequence, forms, Grammar}
use Rattle.grammar.specs.Kinds.{kind_of, allows, allowed, children_of, children, is_number_kind, is_number}
use Rattle.tree.specs.Tree as T
use Rattle.tree.specs.Tree.{Trees, Tree, size, nesting_from, nesting, is_tree, type_of}
use Rattle.tree.proofs.Trees.{tells, none_left, child_trees, passes_tree, tree_type}
use Rattle.meaning.specs.Operations.{value_of, with_value, is_number_token}

pub false_not : {A : Type 0} → false ≡ true → A
false_not e = let z : ◌≡◌ {A = ℕ} 0 1 = cc in absurd (omega arith)

number_allows : (kd : Kind) (m : ℕ) → is_number_kind kd ≡ true → m ≤ greatest_number → allows kd m ≡ true
unfolding is_number_kind allows
number_allows (token c) m e h = rw e (le-leb m greatest_number h)
number_allows (opt x) m e h = false_not e
number_allows (sequence style x) m e h = false_not e
number_allows (forms fs) m e h = false_not e

number_children : (kd : Kind) (t v : ℕ) → is_number_kind kd ≡ true → children_of kd t v ≡ []
unfolding is_number_kind children_of
number_children (token c) t v e = refl
number_children (opt x) t v e = false_not e
number_children (sequence style x) t v e = false_not e
number_children (forms fs) t v e = false_not e

number_within : (kd : Kind) (v : ℕ) → is_number_kind kd ≡ true → allows kd v ≡ true → v ≤ greatest_number
unfolding is_number_kind allows
number_within (token c) v e a = leb-true v greatest_number (rw e at a)
number_within (opt x) v e a = false_not e
number_within (sequence style x) v e a = false_not e
number_within (forms fs) v e a = false_not e

-- the value of a number token is in range
pub value_within : {g : Grammar} {t : ℕ} (ws : Words) → is_number g t ≡ true → Trees g (t ∷ []) ws → value_of ws ≤ greatest_number
unfolding is_number allowed value_of
value_within [] e r = absurd (tells r)
value_within (w ∷ []) e r = absurd (tells r)
value_within {g} {t} (w ∷ v ∷ ws) e r = number_within (kind_of g t) v e (tells r).1

-- a number token of any value in range
pub number_tree : (g : Grammar) (t m : ℕ) → is_number g t ≡ true → m ≤ greatest_number → Tree g t (t ∷ m ∷ [])
unfolding is_number allowed children size nesting nesting_from
number_tree g t m e h =
    let a = number_allows (kind_of g t) m e h in
    let c = number_children (kind_of g t) t m e in
    record { typed = T.node {ts = []} {ws = []} a (rw c T.none); nodes = omega arith; nested = omega arith }

pub with_value_tree : {g : Grammar} {t : ℕ} (scope : Words) (m : ℕ) → is_number g t ≡ true → Tree g t scope → m ≤ greatest_number → Tree g t (with_value scope m)
unfolding with_value
with_value_tree {g} {t} scope m number x h = rw (tree_type scope x.typed) (number_tree g t m number h)

-- a number token is its root alone
pub record NumberToken (g : Grammar) (ws : Words) : Type 0 where
  pub type : ℕ
  pub number : ℕ
  pub is : ws ≡ type ∷ number ∷ []
  pub kind : is_number g type ≡ true

pub number_root : {g : Grammar} (ws : Words) (t : ℕ) → is_number g t ≡ true → Trees g (t ∷ []) ws → NumberToken g ws
unfolding is_number children
number_root [] t e r = absurd (tells r)
number_root (w ∷ []) t e r = absurd (tells r)
number_root {g} (w ∷ v ∷ ws) t e r =
    let c : children g t v ≡ [] = number_children (kind_of g t) t v e in
    let x : ws ≡ [] = none_left ws (subst (λ cs. Trees g cs ws) c (child_trees r)) in
    record { type = t; number = v; is = rw ((tells r).0, x); kind = e }

pub number_token : (g : Grammar) (ws : Words) → is_number_token g ws ≡ true → NumberToken g ws
unfolding is_number_token
number_token g ws e =
    let a = and_both (is_number g (type_of ws)) (is_tree g (type_of ws) ws) e in
    number_root ws (type_of ws) a.0 (passes_tree ws a.1).typed

-- A VARIABLE IN A PATTERN MATCHES exactly a tree that is the same and holds no blank. Assumes nothing.
use Prim.Native.Nat.{ℕ}
use mathlib.Core.Path.{◌≡◌, refl, sym, ◌∙◌}
use mathlib.Core.List.{List, ◌∷◌}
use mathlib.Core.Bool.{Bool, true, false, not}
use mathlib.Core.Option.{none, some}
use native.Mathlib.Omega.{arith}
use lib.ListN.{get_elem?}
use Rattle.words.specs.Reader.{Words, and}
use Rattle.words.specs.Views.{equal_words}
use Rattle.words.proofs.Stretches.{equal_true, equal_same}
use Rattle.grammar.specs.Grammar.{Grammar}
use Rattle.tree.specs.Tree.{after, first_tree}
use Rattle.tree.specs.Blanks.{holds_blank}
use Rattle.tree.proofs.Blanks.{blank_there, blank_held}
use Rattle.rules.specs.Limits.{mark_variable}
use Rattle.rules.specs.Rules.{Shape, same, shapes}
use Rattle.meaning.specs.declared.State.{State}
use Rattle.meaning.specs.Computation.{ok, then_of, present, choose}
use Rattle.meaning.specs.Meaning.{Bindings, variable, same_tree, match}
use Rattle.meaning.specs.Sound.{KnownEqual, SameExactly}

-- THE TEST

equal_known : (g : Grammar) (u w : Words) → same_tree g u w ≡ true → KnownEqual g u w
unfolding same_tree
equal_known g u w e = go (equal_words u w) (holds_blank g w) refl refl e
  where
    go : (a b : Bool) → equal_words u w ≡ a → holds_blank g w ≡ b → and a (not b) ≡ true → KnownEqual g u w
    go true true ea eb f = let z : ◌≡◌ {A = ℕ} 0 1 = cc in absurd (omega arith)
    go true false ea eb f = record { same = equal_true u w ea; filled = λ b. let q = sym eb ∙ blank_held g w b in let z : ◌≡◌ {A = ℕ} 0 1 = cc in absurd (omega arith) }
    go false b ea eb f = let z : ◌≡◌ {A = ℕ} 0 1 = cc in absurd (omega arith)

known_equal : (g : Grammar) (u w : Words) → KnownEqual g u w → same_tree g u w ≡ true
unfolding same_tree
known_equal g u w k = rw (k.same, equal_same w) (go (holds_blank g w) refl)
  where
    go : (b : Bool) → holds_blank g w ≡ b → not b ≡ true
    go true e = absurd (k.filled (blank_there g w e))
    go false e = refl

-- THE PAIR

-- what the test of the two trees makes of the pair
module _ (strict : Bool) (g : Grammar) (ps : List Shape) (b : Bindings) (left : State) (t v : ℕ) (ws : Words) (x : ℕ) (u : Words) (there : get_elem? b.env x ≡ some u) where
  pub same_other : same_tree g u (first_tree g (t ∷ v ∷ ws)) ≡ false → match strict g (same x ∷ ps) (t ∷ v ∷ ws) b left ≡ ok none left
  unfolding match variable present then_of choose
  same_other e = rw (there, e)

  pub same_there : same_tree g u (first_tree g (t ∷ v ∷ ws)) ≡ true → match strict g (same x ∷ ps) (t ∷ v ∷ ws) b left ≡ match strict g ps (after g (t ∷ v ∷ ws) 1) b left
  unfolding match variable present then_of choose
  same_there e = rw (there, e)

module _ (strict : Bool) (g : Grammar) (x : ℕ) (ps u : Words) (t v : ℕ) (below : Words) (b : Bindings) (left : State) (there : get_elem? b.env x ≡ some u) where
  matched : (test : Bool) → same_tree g u (first_tree g (t ∷ v ∷ below)) ≡ test → (c : Bindings) (next : State)
      → match strict g (shapes (mark_variable ∷ x ∷ ps)) (t ∷ v ∷ below) b left ≡ ok (some c) next → KnownEqual g u (first_tree g (t ∷ v ∷ below))
  unfolding shapes
  matched true e c next f = equal_known g u (first_tree g (t ∷ v ∷ below)) e
  matched false e c next f = let q = sym (same_other strict g (shapes ps) b left t v below x u there e) ∙ f in let z : ◌≡◌ {A = ℕ} 0 1 = cc in absurd (omega arith)

  differs : (test : Bool) → same_tree g u (first_tree g (t ∷ v ∷ below)) ≡ test → (KnownEqual g u (first_tree g (t ∷ v ∷ below)) → ⊥)
      → match strict g (shapes (mark_variable ∷ x ∷ ps)) (t ∷ v ∷ below) b left ≡ ok none left
  unfolding shapes
  differs true e h = absurd (h (equal_known g u (first_tree g (t ∷ v ∷ below)) e))
  differs false e h = same_other strict g (shapes ps) b left t v below x u there e

pub same_exactly : SameExactly
unfolding shapes
same_exactly strict g x ps u t v below b left there =
    let test = same_tree g u (first_tree g (t ∷ v ∷ below)) in
    record {
      sound = matched strict g x ps u t v below b left there test refl;
      complete = λ k. same_there strict g (shapes ps) b left t v below x u there (known_equal g u (first_tree g (t ∷ v ∷ below)) k);
      fails = differs strict g x ps u t v below b left there test refl;
    }

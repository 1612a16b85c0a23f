-- THE READER OF A SLIP ACCEPTS EXACTLY THE TREES of type 0 within the limits, with their counts; and the laws of counts. Assumes nothing.
use Prim.Native.Nat.{ℕ, suc, ◌+◌, ◌*◌, ◌/◌, ◌%◌}
use mathlib.Core.Path.{◌≡◌, refl, sym, ap, ap₂, subst, ◌∙◌}
use mathlib.Core.List.{[], ◌∷◌}
use mathlib.Core.Bool.{Bool, true, false}
use native.Mathlib.Omega.{arith}
use lib.ListN.{length}
use lib.Dec.{eqb}
use borrow.Author.Tests.{le-leb, eq-eqb, eqb-true}
use Rattle.words.specs.Reader.{Words, pick, and, between, Read, value, refused, and_then, return, accepted}
use Rattle.words.proofs.Laws.{then_value, require_value, accepted_value, and_both}
use Rattle.grammar.specs.Grammar.{Grammar}
use Rattle.tree.specs.Limits.{most_slip_words}
use Rattle.tree.specs.Tree.{Tree, size, first_tree}
use Rattle.tree.specs.Reading.{read_tree}
use Rattle.tree.specs.Slip.{uncounted, counted, in_slip, right_counts, read_slip, read_edition, in_edition, SlipExactly}
use Rattle.tree.proofs.Trees.{Even, no_odd, even_tail, trees_even, tree_some}
use Rattle.tree.proofs.Accepted.{accepted_tree, tree_is_accepted, tree_next}

-- THREE WORDS A NODE, and two

pub uncounted_length : (ws : Words) → length (uncounted ws) ≡ 2 * (length ws / 3)
unfolding uncounted
uncounted_length [] = refl
uncounted_length (t ∷ []) = refl
uncounted_length (t ∷ v ∷ []) = refl
uncounted_length (t ∷ v ∷ c ∷ ws) = let e = uncounted_length ws in omega arith

pub counted_length : (g : Grammar) (ws : Words) → length (counted g ws) ≡ 3 * size ws
unfolding counted size
counted_length g [] = refl
counted_length g (t ∷ []) = refl
counted_length g (t ∷ v ∷ ws) = let e = counted_length g ws in omega arith

-- the counts put on and taken off
pub uncount : (g : Grammar) (ws : Words) → Even ws → uncounted (counted g ws) ≡ ws
unfolding uncounted counted
uncount g [] h = refl
uncount g (t ∷ []) h = absurd (no_odd t h)
uncount g (t ∷ v ∷ ws) h = ap (λ (l : Words). t ∷ v ∷ l) (uncount g ws (even_tail t v ws h))

-- THE COUNTS ARE RIGHT exactly where they are those of the tree

pub counts_sound : (g : Grammar) (ws : Words) (at : ℕ) {a : Unit {0}} {next : ℕ} → length ws % 3 ≡ 0 → right_counts g ws at ≡ value a next → ws ≡ counted g (uncounted ws)
unfolding right_counts uncounted counted
counts_sound g [] at h e = refl
counts_sound g (t ∷ []) at h e = absurd (omega arith)
counts_sound g (t ∷ v ∷ []) at h e = absurd (omega arith)
counts_sound g (t ∷ v ∷ c ∷ ws) at {a} {next} h e = go (eqb c (size (first_tree g (t ∷ v ∷ uncounted ws)))) refl (λ q. counts_sound g ws (at + 3) (omega arith) q) e
  where
    go : (b : Bool) → eqb c (size (first_tree g (t ∷ v ∷ uncounted ws))) ≡ b → (right_counts g ws (at + 3) ≡ value a next → ws ≡ counted g (uncounted ws))
        → pick b (right_counts g ws (at + 3)) (refused 34 (at + 2)) ≡ value a next → t ∷ v ∷ c ∷ ws ≡ t ∷ v ∷ size (first_tree g (t ∷ v ∷ uncounted ws)) ∷ counted g (uncounted ws)
    go true q ih r = ap₂ (λ (n : ℕ) (l : Words). t ∷ v ∷ n ∷ l) (eqb-true c (size (first_tree g (t ∷ v ∷ uncounted ws))) q) (ih r)
    go false q ih r = let z : ◌≡◌ {A = ℕ} 0 1 = cc in absurd (omega arith)

pub counts_complete : (g : Grammar) (ws : Words) (at : ℕ) → Even ws → right_counts g (counted g ws) at ≡ value tt (at + length (counted g ws))
unfolding right_counts counted
counts_complete g [] at h = let z : at + 0 ≡ at = omega arith in rw z
counts_complete g (t ∷ []) at h = absurd (no_odd t h)
counts_complete g (t ∷ v ∷ ws) at h =
    let k = size (first_tree g (t ∷ v ∷ ws)) in
    let z : at + 3 + length (counted g ws) ≡ at + suc (suc (suc (length (counted g ws)))) = omega arith in
    rw (uncount g ws (even_tail t v ws h), eq-eqb k k refl) (counts_complete g ws (at + 3) (even_tail t v ws h) ∙ ap (value tt) z)

-- THE THEOREM

slip_value : {A : Type 0} (q : Read A) {a : A} {next : ℕ} → in_slip q ≡ value a next → accepted q ≡ true
unfolding in_slip
slip_value (value a n) e = refl
slip_value (refused n p) e = let z : ◌≡◌ {A = ℕ} 0 1 = cc in absurd (omega arith)

abbrev slip_test : ℕ → Bool
slip_test n = and (between 1 most_slip_words n) (eqb (n % 3) 0)

pub slip_sound : (g : Grammar) (ws tree : Words) (next : ℕ) → read_slip g ws ≡ value tree next → Tree g 0 tree × (ws ≡ counted g tree)
unfolding read_slip
slip_sound g ws tree next e =
    let a = require_value (slip_test (length ws)) 30 0 0 (λ u next. and_then (in_slip (read_tree g (uncounted ws))) (λ u next. and_then (right_counts g ws 0) (λ u. return (uncounted ws)))) e in
    let b = then_value (in_slip (read_tree g (uncounted ws))) (λ u next. and_then (right_counts g ws 0) (λ u. return (uncounted ws))) a.1 in
    let c = then_value (right_counts g ws 0) (λ u. return (uncounted ws)) b.3 in
    let same : uncounted ws ≡ tree = cc in
    let three : length ws % 3 ≡ 0 = eqb-true (length ws % 3) 0 (and_both (between 1 most_slip_words (length ws)) (eqb (length ws % 3) 0) a.0).1 in
    rw (sym same) (accepted_tree g 0 (uncounted ws) (slip_value (read_tree g (uncounted ws)) b.2), counts_sound g ws 0 three c.2)

slip_complete : {g : Grammar} {tree : Words} → Tree g 0 tree → read_slip g (counted g tree) ≡ value tree (length (counted g tree))
unfolding read_slip in_slip
slip_complete {g} {tree} x =
    let even = trees_even x.typed in
    let long = counted_length g tree in
    let n = length (counted g tree) in
    let a = accepted_value (read_tree g tree) (tree_is_accepted x) in
    let z : n % 3 ≡ 0 = omega arith in
    let y : 0 + n ≡ n = omega arith in
    rw (le-leb 1 n (omega (arith, tree_some tree x.typed)), le-leb n most_slip_words (omega (arith, x.nodes)), eq-eqb (n % 3) 0 z, uncount g tree even, a.2, counts_complete g tree 0 even, y)

-- .. and for both editions: what passes is exactly a tree of type 0 within the limits, written in the edition
pub slip_exactly : (edition : Bool) (g : Grammar) (ws tree : Words) → SlipExactly edition g ws tree
unfolding read_edition in_edition
slip_exactly true g ws tree = record { sound = λ p. slip_sound g ws tree p.0 p.1; complete = λ x e. rw e (slip_complete x) }
slip_exactly false g ws tree = record {
  sound = λ p.
      let a = then_value (read_tree g ws) (λ u. return ws) p.1 in
      let same : ws ≡ tree = cc in
      (subst (Tree g 0) same (accepted_tree g 0 ws (rw a.2)), same);
  complete = λ x e.
      let a = accepted_value (read_tree g tree) (tree_is_accepted x) in
      rw (e, a.2, tree_next g 0 tree a.2);
}

-- THE SLIP IS ACCEPTED exactly if it is the counted form of a tree of type 0 within the limits
pub slip_accepted : (g : Grammar) (ws : Words) → (accepted (read_slip g ws) ≡ true → (tree : Words) × Tree g 0 tree × (ws ≡ counted g tree)) × ((tree : Words) → Tree g 0 tree → ws ≡ counted g tree → accepted (read_slip g ws) ≡ true)
slip_accepted g ws =
    (λ e. let a = accepted_value (read_slip g ws) e in let b = slip_sound g ws a.0 a.1 a.2 in (a.0, b.0, b.1), λ tree x e. rw (e, slip_complete x))

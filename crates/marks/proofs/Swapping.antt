-- A tree in the place of another that nests as deep: what this changes in the trees around it, and that no mark before it changes if it is as large. Assumes nothing.
use Prim.Native.Nat.{ℕ, zero, suc, ◌+◌, ◌<◌, ◌≤◌, max}
use mathlib.Core.Path.{◌≡◌, refl, sym, ap, ap₂, ◌∙◌}
use mathlib.Core.List.{List, [], ◌∷◌, ◌++◌}
use native.Mathlib.Omega.{arith}
use lib.ListN.{length, take}
use Rattle.words.specs.Reader.{Words}
use Rattle.grammar.specs.Grammar.{Grammar}
use Rattle.grammar.specs.Kinds.{children}
use Rattle.tree.specs.Tree.{Trees, size, levels, nesting_from, nesting, first}
use Rattle.tree.specs.Rest.{Positive}
use Rattle.tree.proofs.Trees.{Even, no_odd, even_tail, size_append, trees_even, first_none, first_append, after_append, nesting_append, more_positive}
use Rattle.marks.specs.Marked.{mark, mark_of, marked}
use Rattle.marks.proofs.Marks.{first_more, tree_deeper}

-- the first trees of a tree and what follows it
first_on : {g : Grammar} {t : ℕ} {u : Words} → Trees g (t ∷ []) u → (x : Words) (n : ℕ) → first g (u ++ x) (suc n) ≡ u ++ first g x n
first_on {g} {t} {u} r x n = first_more g (u ++ x) 1 n (suc n) (omega arith) ∙ ap₂ (λ a b. a ++ first g b n) (first_append r x) (after_append r x)

-- how deep a tree nests at a place is known from its nesting
same_deep : {g : Grammar} {t t' : ℕ} (u u' : Words) → Trees g (t ∷ []) u → Trees g (t' ∷ []) u' → nesting g u ≡ nesting g u' → (k : ℕ) → 1 ≤ k → nesting_from g u (k ∷ []) ≡ nesting_from g u' (k ∷ [])
same_deep u u' r r' e zero h = absurd (omega arith)
same_deep u u' r r' e (suc d) h = let z : suc d ≡ 1 + d = omega arith in rw z (tree_deeper u r d ∙ ap (λ n. n + d) e ∙ sym (tree_deeper u' r' d))

-- no trees
none_deep : (g : Grammar) (ws : Words) → nesting_from g ws [] ≡ 0
unfolding nesting_from
none_deep g [] = refl
none_deep g (t ∷ []) = refl
none_deep g (t ∷ v ∷ ws) = refl

module _ (g : Grammar) (t t' : ℕ) (u u' x : Words) (r : Trees g (t ∷ []) u) (r' : Trees g (t' ∷ []) u') (nests : nesting g u ≡ nesting g u') where
  -- the nesting of the first trees
  pub swap_nesting : (a : Words) → Even a → (n : ℕ) (ks : List ℕ) → Positive ks → nesting_from g (first g (a ++ (u ++ x)) n) ks ≡ nesting_from g (first g (a ++ (u' ++ x)) n) ks
  unfolding first nesting_from
  swap_nesting [] h zero ks p = rw (first_none g (u ++ x), first_none g (u' ++ x))
  swap_nesting [] h (suc n) [] p = none_deep g (first g (u ++ x) (suc n)) ∙ sym (none_deep g (first g (u' ++ x) (suc n)))
  swap_nesting [] h (suc n) (k ∷ ks) p =
      rw (first_on r x n, first_on r' x n)
      (nesting_append r (first g x n) (k ∷ []) ks refl ∙ ap (λ m. max m (nesting_from g (first g x n) ks)) (same_deep u u' r r' nests k p.0) ∙ sym (nesting_append r' (first g x n) (k ∷ []) ks refl))
  swap_nesting (y ∷ []) h n ks p = absurd (no_odd y h)
  swap_nesting (y ∷ v ∷ a) h zero ks p = refl
  swap_nesting (y ∷ v ∷ a) h (suc n) [] p = refl
  swap_nesting (y ∷ v ∷ a) h (suc n) (k ∷ ks) p =
      ap (max k) (swap_nesting a (even_tail y v a h) (length (children g y v) + n) (levels g y v k ++ ks) (more_positive g y v k ks p.0 p.1))

  -- the size of the first trees, where it is among them
  pub swap_among : (a : Words) → Even a → (n : ℕ) → length a < length (first g (a ++ (u ++ x)) n) → size (first g (a ++ (u ++ x)) n) + size u' ≡ size (first g (a ++ (u' ++ x)) n) + size u
  unfolding first size
  swap_among [] h zero l = absurd (omega (arith, ap length (first_none g (u ++ x))))
  swap_among [] h (suc n) l =
      rw (first_on r x n, first_on r' x n) (omega (arith, size_append u (first g x n) (trees_even r), size_append u' (first g x n) (trees_even r')))
  swap_among (y ∷ []) h n l = absurd (no_odd y h)
  swap_among (y ∷ v ∷ a) h zero l = absurd (omega arith)
  swap_among (y ∷ v ∷ a) h (suc n) l = let e = swap_among a (even_tail y v a h) (length (children g y v) + n) (omega arith) in omega arith

  -- .. if it is as large
  module _ (sizes : size u ≡ size u') where
    swap_size : (a : Words) → Even a → (n : ℕ) → size (first g (a ++ (u ++ x)) n) ≡ size (first g (a ++ (u' ++ x)) n)
    unfolding first size
    swap_size [] h zero = rw (first_none g (u ++ x), first_none g (u' ++ x))
    swap_size [] h (suc n) =
        rw (first_on r x n, first_on r' x n) (omega (arith, size_append u (first g x n) (trees_even r), size_append u' (first g x n) (trees_even r')))
    swap_size (y ∷ []) h n = absurd (no_odd y h)
    swap_size (y ∷ v ∷ a) h zero = refl
    swap_size (y ∷ v ∷ a) h (suc n) = ap suc (swap_size a (even_tail y v a h) (length (children g y v) + n))

    -- the marks before the tree
    pub swap_marks : (a : Words) → Even a → marked g (a ++ (u' ++ x)) ≡ take (length a) (marked g (a ++ (u ++ x))) ++ marked g (u' ++ x)
    unfolding marked mark_of nesting
    swap_marks [] h = refl
    swap_marks (y ∷ []) h = absurd (no_odd y h)
    swap_marks (y ∷ v ∷ a) h =
        ap₂ (λ m l. m ∷ v ∷ l) (ap₂ (mark y) (sym (swap_size (y ∷ v ∷ a) h 1)) (sym (swap_nesting (y ∷ v ∷ a) h 1 (1 ∷ []) (omega arith, tt)))) (swap_marks a (even_tail y v a h))

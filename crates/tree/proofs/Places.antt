-- Trees in a tree: at each node stands a tree, and any other of its type may take its place. Assumes nothing.
use Prim.Native.Nat.{ℕ, ◌+◌, ◌%◌, ◌≤◌, ◌<◌, max}
use mathlib.Core.Path.{◌≡◌, refl, sym, ap, subst, ◌∙◌}
use mathlib.Core.List.{List, [], ◌∷◌, ◌++◌}
use mathlib.Core.Bool.{Bool, true, false}
use native.Mathlib.Omega.{arith}
use lib.ListN.{length, get_or, take, drop, take-append-drop}
use lib.Seq.{length-take-le}
use lib.Dec.{leb}
use borrow.Author.Tests.{leb-true, leb-false, le-leb, lt-leb}
use Rattle.words.specs.Reader.{Words}
use Rattle.words.proofs.Stretches.{drop_pair}
use Rattle.grammar.specs.Grammar.{Grammar}
use Rattle.grammar.specs.Kinds.{allowed, children}
use Rattle.tree.specs.Limits.{most_nodes, most_nesting}
use Rattle.tree.specs.Tree.{Trees, node, Tree, size, levels, nesting_from, nesting, node_nesting, after, first_tree}
use Rattle.tree.specs.Rest.{Positive}
use Rattle.tree.proofs.Trees.{Even, no_odd, even_tail, even_of, size_append, trees_even, tells, trees_append, first_after, first_even, split, more_length, nesting_rise, nesting_append, more_positive}

-- WHAT IS DUE AT A PLACE, after the words a: trees of the types `us` at the nestings `ls`. Whatever trees of these types follow a, the whole is trees.
record Place (g : Grammar) (ts ks : List ℕ) (a b : Words) : Type 0 where
  us : List ℕ
  ls : List ℕ
  typed : Trees g us b
  each : length ls ≡ length us
  positive : Positive ls
  refill : (c : Words) → Trees g us c → Trees g ts (a ++ c)
  above : ℕ
  deep : (c : Words) → nesting_from g (a ++ c) ks ≡ max above (nesting_from g c ls)
  level : node_nesting g (a ++ b) ks (length a) ≡ node_nesting g b ls 0

node_place : {g : Grammar} {ts ks : List ℕ} {a b : Words} {t v : ℕ} (k : ℕ) → allowed g t v ≡ true → Place g (children g t v ++ ts) (levels g t v k ++ ks) a b → Place g (t ∷ ts) (k ∷ ks) (t ∷ v ∷ a) b
unfolding nesting_from node_nesting
node_place k fine p = record {
  us = p.us;
  ls = p.ls;
  typed = p.typed;
  each = p.each;
  positive = p.positive;
  refill = λ c r. node fine (p.refill c r);
  above = max k p.above;
  deep = λ c. let e = p.deep c in omega arith;
  level = p.level;
}

-- one node on, where the rest of the way is known
on_node : {g : Grammar} {t x y : ℕ} {ts : List ℕ} {a b : Words} (k : ℕ) (ks : List ℕ) → Trees g (t ∷ ts) (x ∷ y ∷ (a ++ b)) → length (k ∷ ks) ≡ length (t ∷ ts) → Positive (k ∷ ks)
    → (Trees g (children g t y ++ ts) (a ++ b) → length (levels g t y k ++ ks) ≡ length (children g t y ++ ts) → Positive (levels g t y k ++ ks) → Place g (children g t y ++ ts) (levels g t y k ++ ks) a b)
    → Place g (t ∷ ts) (k ∷ ks) (x ∷ y ∷ a) b
on_node {g} {t} {x} {y} {ts} k ks r e p rest =
    let q = tells r in
    rw q.0 (node_place k q.1 (rest q.2 (more_length g t y k ks ts (omega arith)) (more_positive g t y k ks p.0 p.1)))

here : {g : Grammar} (b : Words) (ts ks : List ℕ) → Trees g ts b → length ks ≡ length ts → Positive ks → Place g ts ks [] b
here b ts ks r e p = record { us = ts; ls = ks; typed = r; each = e; positive = p; refill = λ c q. q; above = 0; deep = λ c. omega arith; level = refl }

place : {g : Grammar} (a b : Words) (ts ks : List ℕ) → Even a → Trees g ts (a ++ b) → length ks ≡ length ts → Positive ks → Place g ts ks a b
place [] b ts ks h r e p = here b ts ks r e p
place (x ∷ []) b ts ks h r e p = absurd (no_odd x h)
place (x ∷ y ∷ a) b [] ks h r e p = absurd (tells r)
place (x ∷ y ∷ a) b (t ∷ ts) [] h r e p = absurd (omega arith)
place {g} (x ∷ y ∷ a) b (t ∷ ts) (k ∷ ks) h r e p = on_node k ks r e p (place a b (children g t y ++ ts) (levels g t y k ++ ks) (even_tail x y a h))

-- A NODE'S PLACE: the words of the whole are a, then the node's tree, then the others
record At (g : Grammar) (t₀ t : ℕ) (a r : Words) : Type 0 where
  tree : Trees g (t ∷ []) (first_tree g r)
  shallow : nesting g (first_tree g r) ≤ nesting g (a ++ r)
  refill : (new : Words) → Trees g (t ∷ []) new → Trees g (t₀ ∷ []) (a ++ (new ++ after g r 1))
  positive : 1 ≤ node_nesting g (a ++ r) (1 ∷ []) (length a)
  besides : ℕ
  nested : besides ≤ nesting g (a ++ r)
  deep : (new : Words) → Trees g (t ∷ []) new → nesting g (a ++ (new ++ after g r 1)) ≡ max besides (nesting_from g new (node_nesting g (a ++ r) (1 ∷ []) (length a) ∷ []))

at_place : {g : Grammar} {t₀ t v : ℕ} {a b : Words} (us ls : List ℕ) (p : Place g (t₀ ∷ []) (1 ∷ []) a (t ∷ v ∷ b)) → p.us ≡ us → p.ls ≡ ls → At g t₀ t a (t ∷ v ∷ b)
unfolding nesting node_nesting
at_place {g} {t₀} {t} {v} {a} {b} [] ls p eu el = absurd (tells (subst (λ l. Trees g l (t ∷ v ∷ b)) eu p.typed))
at_place (u ∷ us) [] p eu el = absurd (omega (arith, p.each, ap length eu, ap length el))
at_place {g} {t₀} {t} {v} {a} {b} (u ∷ us) (l ∷ ls) p eu el =
    let r : Words = t ∷ v ∷ b in
    let q : Trees g (u ∷ us) r = subst (λ l. Trees g l r) eu p.typed in
    let z : t ≡ u = (tells q).0 in
    let s = split r (u ∷ []) us q in
    let d : nesting_from g (a ++ r) (1 ∷ []) ≡ max p.above (nesting_from g r (l ∷ ls)) = rw el at (p.deep r) in
    let m : nesting_from g (first_tree g r ++ after g r 1) (l ∷ ls) ≡ max (nesting_from g (first_tree g r) (l ∷ [])) (nesting_from g (after g r 1) ls) = nesting_append s.front (after g r 1) (l ∷ []) ls refl in
    let m' : nesting_from g r (l ∷ ls) ≡ max (nesting_from g (first_tree g r) (l ∷ [])) (nesting_from g (after g r 1) ls) = ap (λ (w : Words). nesting_from g w (l ∷ ls)) (sym (first_after g r 1)) ∙ m in
    let o : Positive (l ∷ ls) = subst Positive el p.positive in
    let level : node_nesting g (a ++ r) (1 ∷ []) (length a) ≡ l = rw el at p.level in
    record {
      tree = subst (λ x. Trees g (x ∷ []) (first_tree g r)) (sym z) s.front;
      shallow = omega (arith, nesting_rise g (first_tree g r) 1 l o.0);
      refill = λ new n. p.refill (new ++ after g r 1) (subst (λ l. Trees g l (new ++ after g r 1)) (sym eu) (trees_append (subst (λ x. Trees g (x ∷ []) new) z n) s.back));
      positive = omega (arith, o.0);
      besides = max p.above (nesting_from g (after g r 1) ls);
      nested = omega arith;
      deep = λ new n.
          let x : nesting_from g (a ++ (new ++ after g r 1)) (1 ∷ []) ≡ max p.above (nesting_from g (new ++ after g r 1) (l ∷ ls)) = rw el at (p.deep (new ++ after g r 1)) in
          let y : nesting_from g (new ++ after g r 1) (l ∷ ls) ≡ max (nesting_from g new (l ∷ [])) (nesting_from g (after g r 1) ls) = nesting_append n (after g r 1) (l ∷ []) ls refl in
          rw level (omega arith);
    }

-- A NODE STANDS AT EACH EVEN POSITION of trees
pub node_at : {g : Grammar} {ts : List ℕ} (ws : Words) → Trees g ts ws → (p : ℕ) → p % 2 ≡ 0 → p < length ws
    → (drop p ws ≡ get_or ws p 0 ∷ get_or ws (p + 1) 0 ∷ drop (p + 2) ws) × (ws ≡ take p ws ++ (get_or ws p 0 ∷ get_or ws (p + 1) 0 ∷ drop (p + 2) ws)) × (length (take p ws) % 2 ≡ 0)
node_at ws r p e h =
    let d = drop_pair ws p (omega (arith, trees_even r)) in
    (d, sym (take-append-drop p ws) ∙ ap (λ (l : Words). take p ws ++ l) d, omega (arith, length-take-le p ws (omega arith)))

leb_over : (k m n : ℕ) → k ≤ n → leb (max k m) n ≡ leb m n
leb_over k m n h = go (leb m n) refl
  where
    go : (b : Bool) → leb m n ≡ b → leb (max k m) n ≡ b
    go true e = let l = leb-true m n e in le-leb (max k m) n (omega arith)
    go false e = let l = leb-false m n e in lt-leb (max k m) n (omega arith)

-- the words a, then new in the place of the first tree of r
abbrev pub spliced : Grammar → Words → Words → Words → Words
spliced g a r new = a ++ (new ++ after g r 1)

module _ (g : Grammar) (ws a : Words) (t v : ℕ) (b : Words) (e : ws ≡ a ++ (t ∷ v ∷ b)) (even : length a % 2 ≡ 0) where
  at : {t₀ : ℕ} → Trees g (t₀ ∷ []) ws → At g t₀ t a (t ∷ v ∷ b)
  at {t₀} x =
      let p = place a (t ∷ v ∷ b) (t₀ ∷ []) (1 ∷ []) (even_of a even) (rw e at x) refl (omega arith, tt) in
      at_place p.us p.ls p refl refl

  old_size : size ws ≡ size a + (size (first_tree g (t ∷ v ∷ b)) + size (after g (t ∷ v ∷ b) 1))
  old_size =
      let r : Words = t ∷ v ∷ b in
      let f : size r ≡ size (first_tree g r) + size (after g r 1) = ap size (sym (first_after g r 1)) ∙ size_append (first_tree g r) (after g r 1) (first_even g r 1) in
      ap size e ∙ size_append a r (even_of a even) ∙ ap (λ (n : ℕ). size a + n) f

  -- AT EACH NODE of a tree stands a tree of the node's type, nested no deeper than the whole, and no larger
  pub subtree_trees : {t₀ : ℕ} → Trees g (t₀ ∷ []) ws → Trees g (t ∷ []) (first_tree g (t ∷ v ∷ b))
  subtree_trees x = (at x).tree

  pub subtree_nesting : {t₀ : ℕ} → Trees g (t₀ ∷ []) ws → nesting g (first_tree g (t ∷ v ∷ b)) ≤ nesting g ws
  subtree_nesting x = subst (λ w. nesting g (first_tree g (t ∷ v ∷ b)) ≤ nesting g w) (sym e) (at x).shallow

  pub subtree_size : size (first_tree g (t ∷ v ∷ b)) ≤ size ws
  subtree_size = omega (arith, old_size)

  pub subtree : {t₀ : ℕ} → Tree g t₀ ws → Tree g t (first_tree g (t ∷ v ∷ b))
  subtree x = record {
    typed = subtree_trees x.typed;
    nodes = omega (arith, subtree_size, x.nodes);
    nested = omega (arith, subtree_nesting x.typed, x.nested);
  }

  -- SPLICE: a tree of the node's type, put in its place, gives a tree of the type that the whole had
  pub splice_trees : {t₀ : ℕ} → Trees g (t₀ ∷ []) ws → (new : Words) → Trees g (t ∷ []) new → Trees g (t₀ ∷ []) (spliced g a (t ∷ v ∷ b) new)
  splice_trees x new n = (at x).refill new n

  pub splice_size : (new : Words) → Trees g (t ∷ []) new → size ws + size new ≡ size (spliced g a (t ∷ v ∷ b) new) + size (first_tree g (t ∷ v ∷ b))
  splice_size new n =
      let p : size (spliced g a (t ∷ v ∷ b) new) ≡ size a + (size new + size (after g (t ∷ v ∷ b) 1)) =
      size_append a (new ++ after g (t ∷ v ∷ b) 1) (even_of a even) ∙ ap (λ (k : ℕ). size a + k) (size_append new (after g (t ∷ v ∷ b) 1) (trees_even n)) in
      omega (arith, old_size)

  -- .. and it nests no deeper than so much exactly if the new tree does, standing where the node stood
  pub splice_nesting : {t₀ : ℕ} → Trees g (t₀ ∷ []) ws → (new : Words) → Trees g (t ∷ []) new → (most : ℕ) → nesting g ws ≤ most
      → leb (nesting g (spliced g a (t ∷ v ∷ b) new)) most ≡ leb (nesting_from g new (node_nesting g ws (1 ∷ []) (length a) ∷ [])) most
  splice_nesting x new n most h =
      let p = at x in
      let d : nesting g (spliced g a (t ∷ v ∷ b) new) ≡ max p.besides (nesting_from g new (node_nesting g ws (1 ∷ []) (length a) ∷ [])) =
      p.deep new n ∙ ap (λ l. max p.besides (nesting_from g new (node_nesting g l (1 ∷ []) (length a) ∷ []))) (sym e) in
      let f : p.besides ≤ nesting g ws = subst (λ l. p.besides ≤ nesting g l) (sym e) p.nested in
      rw d (leb_over p.besides (nesting_from g new (node_nesting g ws (1 ∷ []) (length a) ∷ [])) most (omega arith))

  pub node_nested : {t₀ : ℕ} → Trees g (t₀ ∷ []) ws → 1 ≤ node_nesting g ws (1 ∷ []) (length a)
  node_nested x = subst (λ l. 1 ≤ node_nesting g l (1 ∷ []) (length a)) (sym e) (at x).positive

  -- .. within the limits, if its count and its nesting are
  pub splice : {t₀ : ℕ} → Tree g t₀ ws → (new : Words) → Trees g (t ∷ []) new → size (spliced g a (t ∷ v ∷ b) new) ≤ most_nodes → nesting g (spliced g a (t ∷ v ∷ b) new) ≤ most_nesting
      → Tree g t₀ (spliced g a (t ∷ v ∷ b) new)
  splice x new n small flat = record { typed = splice_trees x.typed new n; nodes = small; nested = flat }

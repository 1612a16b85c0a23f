-- THE CHECK OF A TREE ACCEPTS EXACTLY THE TREES of its type within the limits. Assumes nothing.
use Prim.Native.Nat.{ℕ, ◌+◌, ◌*◌, ◌%◌, ◌≤◌, max}
use mathlib.Core.Path.{◌≡◌, refl, sym, ap, ◌∙◌}
use mathlib.Core.List.{List, [], ◌∷◌, ◌++◌}
use mathlib.Core.Bool.{Bool, true, false}
use mathlib.Core.Option.{Option, none, some}
use native.Mathlib.Omega.{arith}
use lib.ListN.{length}
use lib.Dec.{ltb, leb, eqb}
use borrow.Author.Tests.{leb-true, leb-false, le-leb, lt-leb, eqb-true, eq-eqb}
use Rattle.words.specs.Reader.{Words, pick, and, between, Read, value, refused, and_then, ◌>>◌, require, accepted}
use Rattle.words.proofs.Laws.{require_value}
use Rattle.grammar.specs.Grammar.{Grammar}
use Rattle.grammar.specs.Kinds.{allowed, children}
use Rattle.tree.specs.Limits.{most_tree_words, most_nodes, most_nesting}
use Rattle.tree.specs.Tree.{levels, are_trees, nesting_from, nesting, size, is_tree, Tree}
use Rattle.tree.specs.Dues.{Next, first_word, second_word, leaves, pairs, whole}
use Rattle.tree.specs.Reading.{Due, tree, dues_of, meets_node, read_tree_of, read_tree}
use Rattle.tree.proofs.Trees.{levels_length, more_length, trees_even, tree_some, pass_trees, tree_passes, passes_tree}
use Rattle.tree.proofs.Dues.{plain, placed, done, bind, Steady, leaves_steady, require_steady, steady_next, exact, pairs_forward, whole_exact}

-- A NODE READS ONE PAIR, the same at every position
pub node_steady : (g : Grammar) (d : Due) (u : Unit {0}) (t v : ℕ) → Steady (meets_node g d u t v)
unfolding meets_node
node_steady g (tree k d) u t v =
    require_steady (eqb t d) 32 0 _ (require_steady (leb k most_nesting) 33 0 _ (require_steady (allowed g d v) 32 1 _ (leaves_steady tt (dues_of (levels g d v k) (children g d v)))))

pub dues_of_append : (ks ls ts us : List ℕ) → length ks ≡ length ts → dues_of (ks ++ ls) (ts ++ us) ≡ dues_of ks ts ++ dues_of ls us
unfolding dues_of
dues_of_append [] ls [] us h = refl
dues_of_append [] ls (t ∷ ts) us h = absurd (omega arith)
dues_of_append (k ∷ ks) ls [] us h = absurd (omega arith)
dues_of_append (k ∷ ks) ls (t ∷ ts) us h = ap (λ l. tree k t ∷ l) (dues_of_append ks ls ts us (omega arith))

pub leb_max : (k m n : ℕ) → leb (max k m) n ≡ and (leb k n) (leb m n)
leb_max k m n = go (leb k n) (leb m n) refl refl
  where
    go : (a b : Bool) → leb k n ≡ a → leb m n ≡ b → leb (max k m) n ≡ and a b
    go true true p q = le-leb (max k m) n (omega (arith, leb-true k n p, leb-true m n q))
    go true false p q = lt-leb (max k m) n (omega (arith, leb-false m n q))
    go false b p q = lt-leb (max k m) n (omega (arith, leb-false k n p))

module _ (g : Grammar) where
  abbrev all : Words → List Due → Option (Unit {0})
  all ws ds = exact (meets_node g) ws ds tt

  abbrev yes : Bool → Option (Unit {0})
  yes b = pick b (some tt) none

  -- the pairs are met exactly if they are trees, nested no deeper than the most
  trees_exact : (ws : Words) (ks ts : List ℕ) → length ks ≡ length ts → all ws (dues_of ks ts) ≡ yes (and (are_trees g ws ts) (leb (nesting_from g ws ks) most_nesting))
  unfolding exact are_trees nesting_from dues_of meets_node
  trees_exact [] [] [] h = refl
  trees_exact [] [] (t ∷ ts) h = absurd (omega arith)
  trees_exact [] (k ∷ ks) [] h = absurd (omega arith)
  trees_exact [] (k ∷ ks) (t ∷ ts) h = refl
  trees_exact (w ∷ []) ks ts h = refl
  trees_exact (w ∷ v ∷ ws) [] [] h = refl
  trees_exact (w ∷ v ∷ ws) [] (t ∷ ts) h = absurd (omega arith)
  trees_exact (w ∷ v ∷ ws) (k ∷ ks) [] h = absurd (omega arith)
  trees_exact (w ∷ v ∷ ws) (k ∷ ks) (t ∷ ts) h =
      go (eqb w t) (leb k most_nesting) (allowed g t v) refl refl
      (ap (all ws) (sym (dues_of_append (levels g t v k) ks (children g t v) ts (levels_length g t v k))) ∙ trees_exact ws (levels g t v k ++ ks) (children g t v ++ ts) (more_length g t v k ks ts (omega arith)))
    where
      go : (a b c : Bool) → eqb w t ≡ a → leb k most_nesting ≡ b
          → all ws (dues_of (levels g t v k) (children g t v) ++ dues_of ks ts) ≡ yes (and (are_trees g ws (children g t v ++ ts)) (leb (nesting_from g ws (levels g t v k ++ ks)) most_nesting))
          → bind (done (and_then (first_word a 32 0) (λ u. ◌>>◌ (first_word b 33) (◌>>◌ (second_word c 32) (leaves {C = Unit {0}} tt (dues_of (levels g t v k) (children g t v))))))) (λ s. all ws (s.dues ++ dues_of ks ts))
          ≡ yes (and (and a (and c (are_trees g ws (children g t v ++ ts)))) (leb (max k (nesting_from g ws (levels g w v k ++ ks))) most_nesting))
      go true true true p q ih = rw (eqb-true w t p, leb_max k (nesting_from g ws (levels g t v k ++ ks)) most_nesting, q) ih
      go true true false p q ih = refl
      go true false c p q ih = rw (eqb-true w t p, leb_max k (nesting_from g ws (levels g t v k ++ ks)) most_nesting, q) (too_deep (and c (are_trees g ws (children g t v ++ ts))))
        where
          too_deep : (b : Bool) → none ≡ yes (and b false)
          too_deep true = refl
          too_deep false = refl
      go false b c p q ih = refl

-- THE WHOLE CHECK, with the count of the words

abbrev count_test : ℕ → Bool
count_test n = and (between 1 most_tree_words n) (eqb (n % 2) 0)

-- "two words a node": the count of the words says that of the nodes
count_same : (n s : ℕ) → n ≡ 2 * s → 1 ≤ n → count_test n ≡ leb s most_nodes
count_same n s e h =
    let z : n % 2 ≡ 0 = omega arith in
    rw (le-leb 1 n h, eq-eqb (n % 2) 0 z) (go (leb s most_nodes) refl)
  where
    go : (b : Bool) → leb s most_nodes ≡ b → and (leb n most_tree_words) true ≡ b
    go true q = let y = leb-true s most_nodes q in rw (le-leb n most_tree_words (omega arith))
    go false q = let y = leb-false s most_nodes q in rw (lt-leb n most_tree_words (omega arith))

accepted_plain : {A : Type 0} (q : Read A) → accepted q ≡ accepted (plain q)
accepted_plain (value a n) = refl
accepted_plain (refused n p) = refl

pub tree_of_accepted : (g : Grammar) (t : ℕ) (ws : Words) → accepted (read_tree_of g t ws) ≡ is_tree g t ws
unfolding read_tree_of is_tree nesting dues_of
tree_of_accepted g t ws = go (count_test (length ws)) (are_trees g ws (t ∷ [])) refl refl
  where
    placed_yes : (b : Bool) (n : ℕ) → accepted (placed (yes g b) n) ≡ b
    placed_yes true n = refl
    placed_yes false n = refl

    all_read : accepted (whole (meets_node g) 31 ws (tree 1 t ∷ []) tt 0) ≡ and (are_trees g ws (t ∷ [])) (leb (nesting g ws) most_nesting)
    all_read =
        accepted_plain (whole (meets_node g) 31 ws (tree 1 t ∷ []) tt 0) ∙ ap accepted (whole_exact (meets_node g) 31 (node_steady g) ws (tree 1 t ∷ []) tt 0)
        ∙ ap (λ o. accepted (placed o (0 + length ws))) (trees_exact g ws (1 ∷ []) (t ∷ []) refl)
        ∙ placed_yes (and (are_trees g ws (t ∷ [])) (leb (nesting_from g ws (1 ∷ [])) most_nesting)) (0 + length ws)

    counted : are_trees g ws (t ∷ []) ≡ true → count_test (length ws) ≡ leb (size ws) most_nodes
    counted q = let r = pass_trees ws (t ∷ []) q in count_same (length ws) (size ws) (trees_even r) (omega (arith, trees_even r, tree_some ws r))

    go : (a b : Bool) → count_test (length ws) ≡ a → are_trees g ws (t ∷ []) ≡ b
        → accepted (and_then (require a 30 0 0) (λ u. whole (meets_node g) 31 ws (tree 1 t ∷ []) tt)) ≡ and b (and (leb (size ws) most_nodes) (leb (nesting g ws) most_nesting))
    go true true p q = all_read ∙ rw (q, sym (counted q) ∙ p)
    go true false p q = all_read ∙ rw q
    go false true p q = rw (sym (counted q) ∙ p)
    go false false p q = refl

-- the check of a tree against its grammar
pub tree_accepted : (g : Grammar) (ws : Words) → accepted (read_tree g ws) ≡ is_tree g 0 ws
tree_accepted g ws = tree_of_accepted g 0 ws

pub accepted_tree : (g : Grammar) (t : ℕ) (ws : Words) → accepted (read_tree_of g t ws) ≡ true → Tree g t ws
accepted_tree g t ws e = passes_tree ws (sym (tree_of_accepted g t ws) ∙ e)

pub tree_is_accepted : {g : Grammar} {t : ℕ} {ws : Words} → Tree g t ws → accepted (read_tree_of g t ws) ≡ true
tree_is_accepted {g} {t} {ws} x = tree_of_accepted g t ws ∙ tree_passes x

-- what is read of a tree ends with its words
pub tree_next : (g : Grammar) (t : ℕ) (ws : Words) {a : Unit {0}} {next : ℕ} → read_tree_of g t ws ≡ value a next → next ≡ length ws
unfolding read_tree_of
tree_next g t ws {a} {next} e =
    let w = (require_value (count_test (length ws)) 30 0 0 (λ u. whole (meets_node g) 31 ws (tree 1 t ∷ []) tt) e).1 in
    go (exact (meets_node g) ws (tree 1 t ∷ []) tt) (sym (ap plain w) ∙ whole_exact (meets_node g) 31 (node_steady g) ws (tree 1 t ∷ []) tt 0)
  where
    go : (o : Option (Unit {0})) → value a next ≡ placed o (0 + length ws) → next ≡ length ws
    go none h = let z : ◌≡◌ {A = ℕ} 0 1 = cc in absurd (omega arith)
    go (some b) h = let z : next ≡ 0 + length ws = cc in omega arith

-- WHERE A TREE IS REFUSED: within its words, or at their end

node_refused : (g : Grammar) (d : Due) (u : Unit {0}) (t v at : ℕ) {n p : ℕ} → meets_node g d u t v at ≡ refused n p → p ≤ at + 1
unfolding meets_node
node_refused g (tree k d) u t v at {n} {p} e = go (eqb t d) (leb k most_nesting) (allowed g d v) e
  where
    go : (a b c : Bool) → and_then (first_word a 32 at) (λ u. ◌>>◌ (first_word b 33) (◌>>◌ (second_word c 32) (leaves {C = Unit {0}} tt (dues_of (levels g d v k) (children g d v))))) ≡ refused n p → p ≤ at + 1
    go true true true e = let z : ◌≡◌ {A = ℕ} 0 1 = cc in absurd (omega arith)
    go true true false e = let z : at + 1 ≡ p = cc in omega arith
    go true false c e = let z : at + 0 ≡ p = cc in omega arith
    go false b c e = let z : at + 0 ≡ p = cc in omega arith

pairs_refused : (g : Grammar) (ws : Words) (ds : List Due) (u : Unit {0}) (at : ℕ) {n p : ℕ} → pairs (meets_node g) 31 ws ds u at ≡ refused n p → p ≤ at + length ws
unfolding pairs
pairs_refused g [] [] u at e = let z : ◌≡◌ {A = ℕ} 0 1 = cc in absurd (omega arith)
pairs_refused g [] (d ∷ ds) u at {n} {p} e = let z : at ≡ p = cc in omega arith
pairs_refused g (t ∷ []) [] u at e = let z : ◌≡◌ {A = ℕ} 0 1 = cc in absurd (omega arith)
pairs_refused g (t ∷ []) (d ∷ ds) u at {n} {p} e = let z : at + 1 ≡ p = cc in omega arith
pairs_refused g (t ∷ v ∷ ws) [] u at e = let z : ◌≡◌ {A = ℕ} 0 1 = cc in absurd (omega arith)
pairs_refused g (t ∷ v ∷ ws) (d ∷ ds) u at {n} {p} e = go (meets_node g d u t v at) refl e (λ es w from q. pairs_refused g ws es w from q)
  where
    go : (q : Read (Next Due (Unit {0}))) → meets_node g d u t v at ≡ q → and_then q (λ s. pairs (meets_node g) 31 ws (s.dues ++ ds) s.known) ≡ refused n p
        → ((es : List Due) (w : Unit {0}) (from : ℕ) → pairs (meets_node g) 31 ws es w from ≡ refused n p → p ≤ from + length ws) → p ≤ at + length (t ∷ v ∷ ws)
    go (value s m) h i rest = omega (arith, steady_next (meets_node g d u t v) (node_steady g d u t v) at s m h, rest (s.dues ++ ds) s.known m i)
    go (refused o m) h i rest = let z : m ≡ p = cc in omega (arith, node_refused g d u t v at h)

pub tree_refused_within : (g : Grammar) (t : ℕ) (ws : Words) {n p : ℕ} → read_tree_of g t ws ≡ refused n p → p ≤ length ws
unfolding read_tree_of whole
tree_refused_within g t ws {n} {p} e = counts (count_test (length ws)) e
  where
    left : (b : Bool) (u : Unit {0}) (next : ℕ) → next ≤ 0 + length ws → pick b (refused 31 next) (value u next) ≡ refused n p → p ≤ length ws
    left true u next h i = let z : next ≡ p = cc in omega arith
    left false u next h i = let z : ◌≡◌ {A = ℕ} 0 1 = cc in absurd (omega arith)

    all_of : (q : Read (Unit {0})) → pairs (meets_node g) 31 ws (tree 1 t ∷ []) tt 0 ≡ q → and_then q (λ known next. pick (ltb next (0 + length ws)) (refused 31 next) (value known next)) ≡ refused n p → p ≤ length ws
    all_of (value u next) h i = left (ltb next (0 + length ws)) u next (pairs_forward (meets_node g) 31 (node_steady g) ws (tree 1 t ∷ []) tt 0 u next h).1 i
    all_of (refused o m) h i = let z : m ≡ p = cc in omega (arith, pairs_refused g ws (tree 1 t ∷ []) tt 0 h)

    counts : (b : Bool) → and_then (require b 30 0 0) (λ u. whole (meets_node g) 31 ws (tree 1 t ∷ []) tt) ≡ refused n p → p ≤ length ws
    counts true i = all_of (pairs (meets_node g) 31 ws (tree 1 t ∷ []) tt 0) refl i
    counts false i = let z : 0 + 0 ≡ p = cc in omega arith

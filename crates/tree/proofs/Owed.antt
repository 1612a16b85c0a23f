-- THE TREES OWED: how they run along the words, where the first trees end by them, and that from any node of a tree they first come to 0 at the end of the
-- node's own tree. Assumes nothing.
use Prim.Native.Nat.{ℕ, zero, suc, ◌+◌, ◌*◌, ◌-◌, ◌≤◌, ◌<◌}
use mathlib.Core.Path.{◌≡◌, refl, sym, ap, subst, ◌∙◌}
use mathlib.Core.List.{List, [], ◌∷◌, ◌++◌}
use native.Mathlib.Omega.{arith}
use native.Mathlib.Nat.{zero-add}
use lib.ListN.{length, get_or, take, drop, length-append}
use lib.Seq.{take_at}
use Rattle.words.specs.Reader.{Words}
use Rattle.words.proofs.Stretches.{drop_pair}
use Rattle.grammar.specs.Grammar.{Grammar}
use Rattle.grammar.specs.Kinds.{children}
use Rattle.tree.specs.Tree.{Trees, none, node, size, first, after, first_tree, type_of}
use Rattle.tree.specs.Owed.{owed, OwnTree, FirstComesToNone}
use Rattle.tree.proofs.Trees.{trees_even, first_after}
use Rattle.tree.proofs.Places.{node_at, subtree_trees}

-- ALONG THE WORDS: what is owed after a nodes is owed from there on
pub owed_on : (g : Grammar) (ws : Words) (a b n : ℕ) → 2 * a ≤ length ws → owed g ws (a + b) n ≡ owed g (drop (2 * a) ws) b (owed g ws a n)
unfolding owed
owed_on g ws zero b n h = ap (λ (k : ℕ). owed g ws k n) (zero-add b)
owed_on g [] (suc a) b n h = absurd (omega arith)
owed_on g (t ∷ []) (suc a) b n h = absurd (omega arith)
owed_on g (t ∷ v ∷ ws) (suc a) b n h =
    let k : suc a + b ≡ suc (a + b) = omega arith in
    let d : 2 * suc a ≡ suc (suc (2 * a)) = omega arith in
    rw k (rw d (owed_on g ws a b (length (children g t v) + (n - 1)) (omega arith)))

one_node : (g : Grammar) (t v : ℕ) (ws : Words) (n : ℕ) → owed g (t ∷ v ∷ ws) 1 n ≡ length (children g t v) + (n - 1)
unfolding owed
one_node g t v ws n = refl

-- .. one node on
pub owed_next : (g : Grammar) (ws : Words) (k n : ℕ) → 2 * k + 2 ≤ length ws → owed g ws (k + 1) n ≡ length (children g (get_or ws (2 * k) 0) (get_or ws (2 * k + 1) 0)) + (owed g ws k n - 1)
owed_next g ws k n h =
    owed_on g ws k 1 n (omega arith)
    ∙ ap (λ (l : Words). owed g l 1 (owed g ws k n)) (drop_pair ws (2 * k) h)
    ∙ one_node g (get_or ws (2 * k) 0) (get_or ws (2 * k + 1) 0) (drop (2 * k + 2) ws) (owed g ws k n)

-- WHERE THE FIRST TREES END: as long as some are owed, the nodes passed are theirs
pub first_owed : (g : Grammar) (ws : Words) (k n : ℕ) → 2 * k ≤ length ws → ((i : ℕ) → i < k → 0 < owed g ws i n) → length (first g ws n) ≡ 2 * k + length (first g (drop (2 * k) ws) (owed g ws k n))
unfolding owed first
first_owed g ws zero n h some = sym (zero-add (length (first g ws n)))
first_owed g [] (suc k) n h some = absurd (omega arith)
first_owed g (t ∷ []) (suc k) n h some = absurd (omega arith)
first_owed g (t ∷ v ∷ ws) (suc k) zero h some = absurd (omega (arith, some 0 (omega arith)))
first_owed g (t ∷ v ∷ ws) (suc k) (suc n) h some =
    let d : 2 * suc k ≡ suc (suc (2 * k)) = omega arith in
    let one : suc n - 1 ≡ n = omega arith in
    let r = first_owed g ws k (length (children g t v) + (suc n - 1)) (omega arith) (λ i l. some (suc i) (omega arith)) in
    let same = ap (λ (m : ℕ). length (first g ws (length (children g t v) + m))) one in
    rw d (omega (arith, r, same))

-- THE OWN TREE: trees pay what is owed for them, and no more: what else is owed is left
pub owed_after : {g : Grammar} {xs : List ℕ} {u : Words} → Trees g xs u → (b : Words) (m n : ℕ) → n ≡ length xs + m → owed g (u ++ b) (size u) n ≡ m
unfolding owed size
owed_after none b m n e = omega arith
owed_after {g} (node {t} {v} {ts} fine q) b m n e = owed_after q b m (length (children g t v) + (n - 1)) (omega (arith, length-append (children g t v) ts))

-- .. and before each of their nodes more than that is owed
pub owed_within : {g : Grammar} {xs : List ℕ} {u : Words} → Trees g xs u → (b : Words) (m n i : ℕ) → n ≡ length xs + m → i < size u → m < owed g (u ++ b) i n
unfolding owed size
owed_within none b m n i e h = absurd (omega arith)
owed_within (node fine q) b m n zero e h = omega arith
owed_within {g} (node {t} {v} {ts} fine q) b m n (suc i) e h = owed_within q b m (length (children g t v) + (n - 1)) i (omega (arith, length-append (children g t v) ts)) (omega arith)

-- the first tree of the words, where it is one
own_tree : {g : Grammar} (t v : ℕ) (b : Words) → Trees g (t ∷ []) (first_tree g (t ∷ v ∷ b)) → OwnTree g (t ∷ v ∷ b) (size (first_tree g (t ∷ v ∷ b)))
unfolding type_of
own_tree {g} t v b x =
    let s : Words = t ∷ v ∷ b in
    let u = first_tree g s in
    let e : u ++ after g s 1 ≡ s = first_after g s 1 in
    let k : take (2 * size u) s ≡ u = ap (λ (w : Words). take (2 * size u) w) (sym e) ∙ take_at u (after g s 1) (2 * size u) (trees_even x) in
    record {
      tree = subst (λ w. Trees g (t ∷ []) w) (sym k) x;
      none = subst (λ w. owed g w (size u) 1 ≡ 0) e (owed_after x (after g s 1) 0 1 refl);
      some = λ i h. subst (λ w. 0 < owed g w i 1) e (owed_within x (after g s 1) 0 1 i refl h);
    }

-- THE THEOREM
pub first_comes_to_none : FirstComesToNone
first_comes_to_none g t ws x i h =
    let n = node_at ws x (2 * i) (omega arith) (omega (arith, trees_even x)) in
    let y = subtree_trees g ws (take (2 * i) ws) (get_or ws (2 * i) 0) (get_or ws (2 * i + 1) 0) (drop (2 * i + 2) ws) n.1 n.2 x in
    rw n.0 (own_tree (get_or ws (2 * i) 0) (get_or ws (2 * i + 1) 0) (drop (2 * i + 2) ws) y)

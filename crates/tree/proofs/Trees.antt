-- Laws of trees: what they are made of, the first of them and what follows, their nesting, and the test. Assumes nothing.
use Prim.Native.Nat.{ℕ, zero, suc, ◌+◌, ◌*◌, ◌%◌, ◌≤◌, max, ◌<◌}
use mathlib.Core.Path.{◌≡◌, refl, sym, ap, ◌∙◌}
use mathlib.Core.List.{List, [], ◌∷◌, ◌++◌, map, append_assoc, append-nil}
use mathlib.Core.Bool.{Bool, true, false}
use native.Mathlib.Omega.{arith}
use lib.ListN.{length, get_or, take, drop, length-append, length-map, take-append-drop}
use lib.Dec.{eqb, leb}
use borrow.Author.Tests.{eq-eqb, eqb-true, le-leb, leb-true}
use Rattle.words.specs.Reader.{Words, pick, and}
use Rattle.words.proofs.Laws.{and_both}
use Rattle.grammar.specs.Grammar.{Kind, token, opt, sequence, forms, Grammar}
use Rattle.grammar.specs.Kinds.{kind_of, allowed, children_of, children}
use Rattle.tree.specs.Limits.{most_nodes, most_nesting}
use Rattle.tree.specs.Tree.{Trees, none, node, size, levels_of, levels, nesting_from, nesting, Tree, are_trees, is_tree, first, after, type_of}
use Rattle.tree.specs.Rest.{Positive}

-- TWO WORDS A NODE

abbrev pub Even : Words → Type 0
Even ws = length ws ≡ 2 * size ws

pub even_of : (ws : Words) → length ws % 2 ≡ 0 → Even ws
unfolding size
even_of [] h = refl
even_of (x ∷ []) h = absurd (omega arith)
even_of (x ∷ y ∷ ws) h = let e = even_of ws (omega arith) in omega arith

pub no_odd : (x : ℕ) → Even (x ∷ []) → ⊥
unfolding size
no_odd x h = omega arith

pub even_tail : (x y : ℕ) (ws : Words) → Even (x ∷ y ∷ ws) → Even ws
unfolding size
even_tail x y ws h = omega arith

pub even_none : (x : Words) → Even x → length x < 2 → x ≡ []
unfolding size
even_none [] e h = refl
even_none (a ∷ []) e h = absurd (omega arith)
even_none (a ∷ b ∷ x) e h = absurd (omega arith)

pub size_append : (a b : Words) → Even a → size (a ++ b) ≡ size a + size b
unfolding size
size_append [] b h = omega arith
size_append (x ∷ []) b h = absurd (omega arith)
size_append (x ∷ y ∷ a) b h = let e = size_append a b (omega arith) in omega arith

pub trees_even : {g : Grammar} {ts : List ℕ} {ws : Words} → Trees g ts ws → Even ws
unfolding size
trees_even none = refl
trees_even (node fine r) = let e = trees_even r in omega arith

-- WHAT TREES ARE MADE OF, by the shapes of the types and the words

abbrev pub Tells : Grammar → List ℕ → Words → Type 0
Tells g [] [] = Unit {0}
Tells g [] (w ∷ ws) = ⊥
Tells g (t ∷ ts) [] = ⊥
Tells g (t ∷ ts) (w ∷ []) = ⊥
Tells g (t ∷ ts) (w ∷ v ∷ ws) = (w ≡ t) × (allowed g t v ≡ true) × Trees g (children g t v ++ ts) ws

pub tells : {g : Grammar} {ts : List ℕ} {ws : Words} → Trees g ts ws → Tells g ts ws
tells none = tt
tells (node fine r) = (refl, fine, r)

pub none_left : {g : Grammar} (ws : Words) → Trees g [] ws → ws ≡ []
none_left [] r = refl
none_left (w ∷ ws) r = absurd (tells r)

pub tree_type : {g : Grammar} {t : ℕ} {ts : List ℕ} (ws : Words) → Trees g (t ∷ ts) ws → type_of ws ≡ t
unfolding type_of
tree_type [] r = absurd (tells r)
tree_type (w ∷ []) r = absurd (tells r)
tree_type (w ∷ v ∷ ws) r = (tells r).0

pub tree_some : {g : Grammar} {t : ℕ} {ts : List ℕ} (ws : Words) → Trees g (t ∷ ts) ws → 1 ≤ size ws
unfolding size
tree_some [] r = absurd (tells r)
tree_some (w ∷ []) r = absurd (tells r)
tree_some (w ∷ v ∷ ws) r = omega arith

-- the words after a node are its children's trees
pub child_trees : {g : Grammar} {t w v : ℕ} {ws : Words} → Trees g (t ∷ []) (w ∷ v ∷ ws) → Trees g (children g t v) ws
child_trees r = rw append-nil at (tells r).2

pub trees_append : {g : Grammar} {xs ts : List ℕ} {u b : Words} → Trees g xs u → Trees g ts b → Trees g (xs ++ ts) (u ++ b)
trees_append none r = r
trees_append (node fine q) r = node fine (rw append_assoc at (trees_append q r))

-- THE FIRST TREES AND WHAT FOLLOWS, of any words

pub first_none : (g : Grammar) (ws : Words) → first g ws zero ≡ []
unfolding first
first_none g [] = refl
first_none g (t ∷ []) = refl
first_none g (t ∷ v ∷ ws) = refl

pub after_none : (g : Grammar) (ws : Words) → after g ws zero ≡ ws
unfolding after
after_none g [] = refl
after_none g (t ∷ []) = refl
after_none g (t ∷ v ∷ ws) = refl

pub first_after : (g : Grammar) (ws : Words) (n : ℕ) → first g ws n ++ after g ws n ≡ ws
unfolding first after
first_after g [] n = refl
first_after g (t ∷ []) n = refl
first_after g (t ∷ v ∷ ws) zero = refl
first_after g (t ∷ v ∷ ws) (suc n) = ap (λ (l : Words). t ∷ v ∷ l) (first_after g ws (length (children g t v) + n))

pub first_take : (g : Grammar) (ws : Words) (n : ℕ) → first g ws n ≡ take (length (first g ws n)) ws
unfolding first
first_take g [] n = refl
first_take g (t ∷ []) n = refl
first_take g (t ∷ v ∷ ws) zero = refl
first_take g (t ∷ v ∷ ws) (suc n) = ap (λ (l : Words). t ∷ v ∷ l) (first_take g ws (length (children g t v) + n))

pub after_drop : (g : Grammar) (ws : Words) (n : ℕ) → after g ws n ≡ drop (length (first g ws n)) ws
unfolding after first
after_drop g [] n = refl
after_drop g (t ∷ []) n = refl
after_drop g (t ∷ v ∷ ws) zero = refl
after_drop g (t ∷ v ∷ ws) (suc n) = after_drop g ws (length (children g t v) + n)

pub first_even : (g : Grammar) (ws : Words) (n : ℕ) → Even (first g ws n)
unfolding first size
first_even g [] n = refl
first_even g (t ∷ []) n = refl
first_even g (t ∷ v ∷ ws) zero = refl
first_even g (t ∷ v ∷ ws) (suc n) = let h = first_even g ws (length (children g t v) + n) in omega arith

-- .. where the words are trees: the first of them are trees, and so is what follows
pub record Split (g : Grammar) (xs ts : List ℕ) (ws : Words) : Type 0 where
  pub front : Trees g xs (first g ws (length xs))
  pub back : Trees g ts (after g ws (length xs))

cons_split : {g : Grammar} {x v : ℕ} {xs ts : List ℕ} {ws : Words} → allowed g x v ≡ true → Split g (children g x v ++ xs) ts ws → Split g (x ∷ xs) ts (x ∷ v ∷ ws)
unfolding first after
cons_split {g} {x} {v} {xs} fine s =
    let e : length (children g x v ++ xs) ≡ length (children g x v) + length xs = length-append (children g x v) xs in
    record { front = node fine (rw e at s.front); back = rw e at s.back }

pub split : {g : Grammar} (ws : Words) (xs ts : List ℕ) → Trees g (xs ++ ts) ws → Split g xs ts ws
unfolding first after
split [] [] ts r = record { front = none; back = r }
split [] (x ∷ xs) ts r = absurd (tells r)
split (w ∷ []) [] [] r = absurd (tells r)
split (w ∷ []) [] (t ∷ ts) r = absurd (tells r)
split (w ∷ []) (x ∷ xs) ts r = absurd (tells r)
split (w ∷ v ∷ ws) [] ts r = record { front = none; back = r }
split {g} (w ∷ v ∷ ws) (x ∷ xs) ts r =
    let t = tells r in
    rw t.0 (cons_split t.1 (split ws (children g x v ++ xs) ts (rw append_assoc t.2)))

-- A TREE IS A PREFIX OF NO OTHER: the first trees of `u ++ b` are u, what follows is b
pub first_append : {g : Grammar} {xs : List ℕ} {u : Words} → Trees g xs u → (b : Words) → first g (u ++ b) (length xs) ≡ u
unfolding first
first_append {g} none b = first_none g b
first_append {g} (node {t} {v} {ts} {ws} fine q) b =
    ap (λ (n : ℕ). t ∷ v ∷ first g (ws ++ b) n) (sym (length-append (children g t v) ts)) ∙ ap (λ (l : Words). t ∷ v ∷ l) (first_append q b)

pub after_append : {g : Grammar} {xs : List ℕ} {u : Words} → Trees g xs u → (b : Words) → after g (u ++ b) (length xs) ≡ b
unfolding after
after_append {g} none b = after_none g b
after_append {g} (node {t} {v} {ts} {ws} fine q) b =
    ap (λ (n : ℕ). after g (ws ++ b) n) (sym (length-append (children g t v) ts)) ∙ after_append q b

pub no_prefix : {g : Grammar} {xs : List ℕ} {u : Words} → Trees g xs u → (b : Words) → Trees g xs (u ++ b) → b ≡ []
no_prefix {g} {xs} {u} q b r =
    sym (after_append q b) ∙ none_left (after g (u ++ b) (length xs)) (split (u ++ b) xs [] (rw append-nil r)).back

-- .. so the words at a place show the tree there: if they begin with a tree, that is it
pub prefix_first : {g : Grammar} {xs : List ℕ} {u : Words} → Trees g xs u → (r : Words) → take (length u) r ≡ u → first g r (length xs) ≡ u
prefix_first {g} {xs} {u} q r e =
    ap (λ (l : Words). first g l (length xs)) (sym (take-append-drop (length u) r) ∙ ap (λ (l : Words). l ++ drop (length u) r) e) ∙ first_append q (drop (length u) r)

-- NESTING

pick_length : {A B : Type 0} (b : Bool) (x y : List A) (x' y' : List B) → length x ≡ length x' → length y ≡ length y' → length (pick b x y) ≡ length (pick b x' y')
pick_length true x y x' y' p q = p
pick_length false x y x' y' p q = q

levels_of_length : (kd : Kind) (t v k : ℕ) → length (levels_of kd v k) ≡ length (children_of kd t v)
unfolding levels_of children_of
levels_of_length (token c) t v k = refl
levels_of_length (opt e) t v k = pick_length (eqb v 0) (suc k ∷ []) [] (e ∷ []) [] refl refl
levels_of_length (sequence style e) t v k = pick_length (eqb v 0) (suc k ∷ k ∷ []) [] (e ∷ t ∷ []) [] refl refl
levels_of_length (forms fs) t v k = length-map (get_or fs v []) (λ e. suc k)

-- one for each child
pub levels_length : (g : Grammar) (t v k : ℕ) → length (levels g t v k) ≡ length (children g t v)
unfolding levels children
levels_length g t v k = levels_of_length (kind_of g t) t v k

pub more_length : (g : Grammar) (t v k : ℕ) (ks ts : List ℕ) → length ks ≡ length ts → length (levels g t v k ++ ks) ≡ length (children g t v ++ ts)
more_length g t v k ks ts h = omega (arith, length-append (levels g t v k) ks, length-append (children g t v) ts, levels_length g t v k)

-- each nesting at most that of the other list
abbrev LeAll : List ℕ → List ℕ → Type 0
LeAll [] [] = Unit {0}
LeAll [] (b ∷ bs) = ⊥
LeAll (a ∷ as') [] = ⊥
LeAll (a ∷ as') (b ∷ bs) = (a ≤ b) × LeAll as' bs

le_all_append : (xs ys as' bs : List ℕ) → LeAll xs ys → LeAll as' bs → LeAll (xs ++ as') (ys ++ bs)
le_all_append [] [] as' bs p q = q
le_all_append [] (y ∷ ys) as' bs p q = absurd p
le_all_append (x ∷ xs) [] as' bs p q = absurd p
le_all_append (x ∷ xs) (y ∷ ys) as' bs p q = (p.0, le_all_append xs ys as' bs p.1 q)

le_all_map : (es : List ℕ) (k l : ℕ) → k ≤ l → LeAll (map (λ e. suc k) es) (map (λ e. suc l) es)
le_all_map [] k l h = tt
le_all_map (e ∷ es) k l h = (omega arith, le_all_map es k l h)

pick_le_all : (b : Bool) (x y x' y' : List ℕ) → LeAll x x' → LeAll y y' → LeAll (pick b x y) (pick b x' y')
pick_le_all true x y x' y' p q = p
pick_le_all false x y x' y' p q = q

levels_of_rise : (kd : Kind) (v k l : ℕ) → k ≤ l → LeAll (levels_of kd v k) (levels_of kd v l)
unfolding levels_of
levels_of_rise (token c) v k l h = tt
levels_of_rise (opt e) v k l h = pick_le_all (eqb v 0) (suc k ∷ []) [] (suc l ∷ []) [] (omega arith, tt) tt
levels_of_rise (sequence style e) v k l h = pick_le_all (eqb v 0) (suc k ∷ k ∷ []) [] (suc l ∷ l ∷ []) [] (omega arith, (h, tt)) tt
levels_of_rise (forms fs) v k l h = le_all_map (get_or fs v []) k l h

levels_rise : (g : Grammar) (t v k l : ℕ) → k ≤ l → LeAll (levels g t v k) (levels g t v l)
unfolding levels
levels_rise g t v k l h = levels_of_rise (kind_of g t) v k l h

nesting_rises : (g : Grammar) (ws : Words) (ks ls : List ℕ) → LeAll ks ls → nesting_from g ws ks ≤ nesting_from g ws ls
unfolding nesting_from
nesting_rises g [] ks ls h = omega arith
nesting_rises g (w ∷ []) ks ls h = omega arith
nesting_rises g (w ∷ v ∷ ws) [] ls h = omega arith
nesting_rises g (w ∷ v ∷ ws) (k ∷ ks) [] h = absurd h
nesting_rises g (w ∷ v ∷ ws) (k ∷ ks) (l ∷ ls) h =
    let e = nesting_rises g ws (levels g w v k ++ ks) (levels g w v l ++ ls) (le_all_append (levels g w v k) (levels g w v l) ks ls (levels_rise g w v k l h.0) h.1) in
    omega arith

-- a tree that stands deeper nests deeper
pub nesting_rise : (g : Grammar) (ws : Words) (k l : ℕ) → k ≤ l → nesting_from g ws (k ∷ []) ≤ nesting_from g ws (l ∷ [])
nesting_rise g ws k l h = nesting_rises g ws (k ∷ []) (l ∷ []) (h, tt)

pub nesting_append : {g : Grammar} {xs : List ℕ} {u : Words} → Trees g xs u → (b : Words) (ls ks : List ℕ) → length ls ≡ length xs
    → nesting_from g (u ++ b) (ls ++ ks) ≡ max (nesting_from g u ls) (nesting_from g b ks)
unfolding nesting_from
nesting_append none b [] ks h = omega arith
nesting_append none b (l ∷ ls) ks h = absurd (omega arith)
nesting_append (node fine q) b [] ks h = absurd (omega arith)
nesting_append {g} (node {t} {v} {ts} {ws} fine q) b (l ∷ ls) ks h =
    let e : nesting_from g (ws ++ b) (levels g t v l ++ (ls ++ ks)) ≡ max (nesting_from g ws (levels g t v l ++ ls)) (nesting_from g b ks) =
    rw append_assoc at (nesting_append q b (levels g t v l ++ ls) ks (more_length g t v l ls ts (omega arith))) in
    omega arith

positive_append : (xs ys : List ℕ) → Positive xs → Positive ys → Positive (xs ++ ys)
positive_append [] ys p q = q
positive_append (x ∷ xs) ys p q = (p.0, positive_append xs ys p.1 q)

positive_map : (es : List ℕ) (k : ℕ) → Positive (map (λ e. suc k) es)
positive_map [] k = tt
positive_map (e ∷ es) k = (omega arith, positive_map es k)

pick_positive : (b : Bool) (x y : List ℕ) → Positive x → Positive y → Positive (pick b x y)
pick_positive true x y p q = p
pick_positive false x y p q = q

levels_of_positive : (kd : Kind) (v k : ℕ) → 1 ≤ k → Positive (levels_of kd v k)
unfolding levels_of
levels_of_positive (token c) v k h = tt
levels_of_positive (opt e) v k h = pick_positive (eqb v 0) (suc k ∷ []) [] (omega arith, tt) tt
levels_of_positive (sequence style e) v k h = pick_positive (eqb v 0) (suc k ∷ k ∷ []) [] (omega arith, (h, tt)) tt
levels_of_positive (forms fs) v k h = positive_map (get_or fs v []) k

pub more_positive : (g : Grammar) (t v k : ℕ) (ks : List ℕ) → 1 ≤ k → Positive ks → Positive (levels g t v k ++ ks)
unfolding levels
more_positive g t v k ks h p = positive_append (levels_of (kind_of g t) v k) ks (levels_of_positive (kind_of g t) v k h) p

-- THE TEST IS THE TREES

pub and_intro : {a b : Bool} → a ≡ true → b ≡ true → and a b ≡ true
and_intro p q = rw (p, q)

pub trees_pass : {g : Grammar} {ts : List ℕ} {ws : Words} → Trees g ts ws → are_trees g ws ts ≡ true
unfolding are_trees
trees_pass none = refl
trees_pass (node {t} fine r) = and_intro (eq-eqb t t refl) (and_intro fine (trees_pass r))

pub pass_trees : {g : Grammar} (ws : Words) (ts : List ℕ) → are_trees g ws ts ≡ true → Trees g ts ws
unfolding are_trees
pass_trees [] [] e = none
pass_trees [] (t ∷ ts) e = let z : ◌≡◌ {A = ℕ} 0 1 = cc in absurd (omega arith)
pass_trees (w ∷ []) ts e = let z : ◌≡◌ {A = ℕ} 0 1 = cc in absurd (omega arith)
pass_trees (w ∷ v ∷ ws) [] e = let z : ◌≡◌ {A = ℕ} 0 1 = cc in absurd (omega arith)
pass_trees {g} (w ∷ v ∷ ws) (t ∷ ts) e =
    let p = and_both (eqb w t) (and (allowed g t v) (are_trees g ws (children g t v ++ ts))) e in
    let q = and_both (allowed g t v) (are_trees g ws (children g t v ++ ts)) p.1 in
    rw (eqb-true w t p.0) (node q.0 (pass_trees ws (children g t v ++ ts) q.1))

pub tree_passes : {g : Grammar} {t : ℕ} {ws : Words} → Tree g t ws → is_tree g t ws ≡ true
unfolding is_tree
tree_passes {g} {t} {ws} x = and_intro (trees_pass x.typed) (and_intro (le-leb (size ws) most_nodes x.nodes) (le-leb (nesting g ws) most_nesting x.nested))

pub passes_tree : {g : Grammar} {t : ℕ} (ws : Words) → is_tree g t ws ≡ true → Tree g t ws
unfolding is_tree
passes_tree {g} {t} ws e =
    let p = and_both (are_trees g ws (t ∷ [])) (and (leb (size ws) most_nodes) (leb (nesting g ws) most_nesting)) e in
    let q = and_both (leb (size ws) most_nodes) (leb (nesting g ws) most_nesting) p.1 in
    record { typed = pass_trees ws (t ∷ []) p.0; nodes = leb-true _ _ q.0; nested = leb-true _ _ q.1 }

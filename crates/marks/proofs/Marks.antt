-- Laws of marked trees. Assumes nothing.
use Prim.Native.Nat.{ℕ, zero, suc, ◌+◌, ◌*◌, ◌<◌, ◌≤◌, max}
use mathlib.Core.Path.{◌≡◌, refl, sym, ap, ap₂, ◌∙◌}
use mathlib.Core.List.{List, [], ◌∷◌, ◌++◌, map, append_assoc}
use mathlib.Core.Bool.{Bool, true, false}
use native.Mathlib.Omega.{arith}
use lib.ListN.{length, get_or, drop}
use lib.Seq.{drop-nil}
use lib.Dec.{eqb}
use Rattle.words.specs.Reader.{Words, pick}
use Rattle.grammar.specs.Grammar.{Kind, token, opt, sequence, forms, Grammar}
use Rattle.grammar.specs.Kinds.{kind_of, children}
use Rattle.tree.specs.Tree.{Trees, none, node, size, levels_of, levels, nesting_from, nesting, first, after, first_tree}
use Rattle.tree.proofs.Trees.{tells, split, first_append, first_after}
use Rattle.marks.specs.Marked.{mark, type_in, size_in, nesting_in, mark_of, marked, unmarked}

-- WHAT A MARK SAYS

pub mark_type : (t n k : ℕ) → t < 64 → type_in (mark t n k) ≡ t
unfolding mark
mark_type t n k h = omega arith

pub mark_size : (t n k : ℕ) → t < 64 → n < 4096 → size_in (mark t n k) ≡ n
unfolding mark
mark_size t n k h l = omega arith

pub mark_nesting : (t n k : ℕ) → t < 64 → n < 4096 → nesting_in (mark t n k) ≡ k
unfolding mark
mark_nesting t n k h l = omega arith

-- MARKED WORDS

pub marked_length : (g : Grammar) (ws : Words) → length (marked g ws) ≡ length ws
unfolding marked
marked_length g [] = refl
marked_length g (t ∷ []) = refl
marked_length g (t ∷ v ∷ ws) = ap (λ n. suc (suc n)) (marked_length g ws)

-- the node at an even place
pub unmarked_type : (ws : Words) (h q : ℕ) → q ≡ 2 * h → q + 2 ≤ length ws → get_or (unmarked ws) q 0 ≡ type_in (get_or ws q 0)
unfolding unmarked
unmarked_type [] h q e l = absurd (omega arith)
unmarked_type (w ∷ []) h q e l = absurd (omega arith)
unmarked_type (w ∷ v ∷ ws) h zero e l = refl
unmarked_type (w ∷ v ∷ ws) h (suc zero) e l = absurd (omega arith)
unmarked_type (w ∷ v ∷ ws) zero (suc (suc q)) e l = absurd (omega arith)
unmarked_type (w ∷ v ∷ ws) (suc h) (suc (suc q)) e l = unmarked_type ws h q (omega arith) (omega arith)

pub unmarked_value : (ws : Words) (h q : ℕ) → q ≡ 2 * h → q + 2 ≤ length ws → get_or (unmarked ws) (suc q) 0 ≡ get_or ws (suc q) 0
unfolding unmarked
unmarked_value [] h q e l = absurd (omega arith)
unmarked_value (w ∷ []) h q e l = absurd (omega arith)
unmarked_value (w ∷ v ∷ ws) h zero e l = refl
unmarked_value (w ∷ v ∷ ws) h (suc zero) e l = absurd (omega arith)
unmarked_value (w ∷ v ∷ ws) zero (suc (suc q)) e l = absurd (omega arith)
unmarked_value (w ∷ v ∷ ws) (suc h) (suc (suc q)) e l = unmarked_value ws h q (omega arith) (omega arith)

-- the first tree is the same, whatever follows the trees
first_same : {g : Grammar} {t v : ℕ} {ts : List ℕ} {ws : Words} → Trees g (t ∷ ts) (t ∷ v ∷ ws) → (b : Words) → first_tree g (t ∷ v ∷ (ws ++ b)) ≡ first_tree g (t ∷ v ∷ ws)
first_same {g} {t} {v} {ts} {ws} r b =
    let s = split (t ∷ v ∷ ws) (t ∷ []) ts r in
    let e : (t ∷ v ∷ ws) ++ b ≡ first_tree g (t ∷ v ∷ ws) ++ (after g (t ∷ v ∷ ws) 1 ++ b) =
    ap (λ l. l ++ b) (sym (first_after g (t ∷ v ∷ ws) 1)) ∙ append_assoc (first_tree g (t ∷ v ∷ ws)) (after g (t ∷ v ∷ ws) 1) b in
    ap (first_tree g) e ∙ first_append s.front (after g (t ∷ v ∷ ws) 1 ++ b)

pub marked_append : {g : Grammar} {ts : List ℕ} {u : Words} → Trees g ts u → (b : Words) → marked g (u ++ b) ≡ marked g u ++ marked g b
unfolding marked mark_of
marked_append none b = refl
marked_append (node {t} {v} {ts} {ws} fine q) b = rw (first_same (node {ts = ts} fine q) b, marked_append q b)

-- the first mark
pub first_mark : (g : Grammar) (ws : Words) → 2 ≤ length ws → get_or (marked g ws) 0 0 ≡ mark (get_or (first_tree g ws) 0 0) (size (first_tree g ws)) (nesting g (first_tree g ws))
unfolding marked mark_of first
first_mark g [] h = absurd (omega arith)
first_mark g (t ∷ []) h = absurd (omega arith)
first_mark g (t ∷ v ∷ ws) h = refl

-- the marks from a node on
pub marked_drop : (g : Grammar) (ws : Words) (h p : ℕ) → p ≡ 2 * h → get_or (marked g ws) p 0 ≡ get_or (marked g (drop p ws)) 0 0
unfolding marked
marked_drop g ws zero p e = let z : p ≡ 0 = omega arith in rw z
marked_drop g [] (suc h) p e = rw (drop-nil {A = ℕ} p)
marked_drop g (t ∷ []) (suc h) zero e = absurd (omega arith)
marked_drop g (t ∷ []) (suc h) (suc p) e = rw (drop-nil {A = ℕ} p)
marked_drop g (t ∷ v ∷ ws) (suc h) zero e = absurd (omega arith)
marked_drop g (t ∷ v ∷ ws) (suc h) (suc zero) e = absurd (omega arith)
marked_drop g (t ∷ v ∷ ws) (suc h) (suc (suc p)) e = marked_drop g ws h p (omega arith)

pub marked_suffix : (g : Grammar) (ws : Words) (h q : ℕ) → q ≡ 2 * h → drop q (marked g ws) ≡ marked g (drop q ws)
unfolding marked
marked_suffix g ws zero q e = let z : q ≡ 0 = omega arith in rw z
marked_suffix g [] (suc h) q e = rw (drop-nil {A = ℕ} q)
marked_suffix g (t ∷ []) (suc h) zero e = absurd (omega arith)
marked_suffix g (t ∷ []) (suc h) (suc q) e = rw (drop-nil {A = ℕ} q)
marked_suffix g (t ∷ v ∷ ws) (suc h) zero e = absurd (omega arith)
marked_suffix g (t ∷ v ∷ ws) (suc h) (suc zero) e = absurd (omega arith)
marked_suffix g (t ∷ v ∷ ws) (suc h) (suc (suc q)) e = marked_suffix g ws h q (omega arith)

-- the trees one after the other
pub first_more : (g : Grammar) (ws : Words) (m n k : ℕ) → k ≡ m + n → first g ws k ≡ first g ws m ++ first g (after g ws m) n
unfolding first after
first_more g [] m n k e = refl
first_more g (t ∷ []) m n k e = refl
first_more g (t ∷ v ∷ ws) zero n k e = let z : k ≡ n = omega arith in rw z
first_more g (t ∷ v ∷ ws) (suc m) n zero e = absurd (omega arith)
first_more g (t ∷ v ∷ ws) (suc m) n (suc k) e = ap (λ l. t ∷ v ∷ l) (first_more g ws (length (children g t v) + m) n (length (children g t v) + k) (omega arith))

-- NESTING, d levels deeper

abbrev deeper : ℕ → List ℕ → List ℕ
deeper d ks = map (λ k. k + d) ks

deeper_append : (d : ℕ) (ks ls : List ℕ) → deeper d (ks ++ ls) ≡ deeper d ks ++ deeper d ls
deeper_append d [] ls = refl
deeper_append d (k ∷ ks) ls = ap (λ l. (k + d) ∷ l) (deeper_append d ks ls)

deeper_forms : (es : List ℕ) (k d : ℕ) → map (λ e. suc (k + d)) es ≡ deeper d (map (λ e. suc k) es)
deeper_forms [] k d = refl
deeper_forms (e ∷ es) k d = let z : suc (k + d) ≡ suc k + d = omega arith in ap₂ (λ x l. x ∷ l) z (deeper_forms es k d)

levels_deeper : (kd : Kind) (v k d : ℕ) → levels_of kd v (k + d) ≡ deeper d (levels_of kd v k)
unfolding levels_of
levels_deeper (token c) v k d = refl
levels_deeper (opt e) v k d = go (eqb v 0)
  where
    go : (b : Bool) → pick b (suc (k + d) ∷ []) [] ≡ deeper d (pick b (suc k ∷ []) [])
    go true = let z : suc (k + d) ≡ suc k + d = omega arith in rw z
    go false = refl
levels_deeper (sequence style e) v k d = go (eqb v 0)
  where
    go : (b : Bool) → pick b (suc (k + d) ∷ (k + d) ∷ []) [] ≡ deeper d (pick b (suc k ∷ k ∷ []) [])
    go true = let z : suc (k + d) ≡ suc k + d = omega arith in rw z
    go false = refl
levels_deeper (forms fs) v k d = deeper_forms (get_or fs v []) k d

nesting_deeper : (g : Grammar) (ws : Words) (ks : List ℕ) (d k : ℕ) → max (k + d) (nesting_from g ws (deeper d ks)) ≡ max k (nesting_from g ws ks) + d
unfolding nesting_from levels
nesting_deeper g [] ks d k = omega arith
nesting_deeper g (t ∷ []) ks d k = omega arith
nesting_deeper g (t ∷ v ∷ ws) [] d k = omega arith
nesting_deeper g (t ∷ v ∷ ws) (l ∷ ks) d k =
    let e : levels_of (kind_of g t) v (l + d) ++ deeper d ks ≡ deeper d (levels_of (kind_of g t) v l ++ ks) =
    ap (λ x. x ++ deeper d ks) (levels_deeper (kind_of g t) v l d) ∙ sym (deeper_append d (levels_of (kind_of g t) v l) ks) in
    rw e (let h = nesting_deeper g ws (levels_of (kind_of g t) v l ++ ks) d l in omega arith)

one_deeper : (g : Grammar) (t v d : ℕ) → levels g t v (1 + d) ++ [] ≡ deeper d (levels g t v 1 ++ [])
unfolding levels
one_deeper g t v d = rw (levels_deeper (kind_of g t) v 1 d) (sym (deeper_append d (levels_of (kind_of g t) v 1) []))

-- a tree at the nesting 1 + d
pub tree_deeper : {g : Grammar} {t : ℕ} (u : Words) → Trees g (t ∷ []) u → (d : ℕ) → nesting_from g u ((1 + d) ∷ []) ≡ nesting g u + d
unfolding nesting_from nesting
tree_deeper [] r d = absurd (tells r)
tree_deeper (w ∷ []) r d = absurd (tells r)
tree_deeper {g} (w ∷ v ∷ ws) r d = rw (one_deeper g w v d) (nesting_deeper g ws (levels g w v 1 ++ []) d 1)

-- NESTING AND SIZE: each level has a node

abbrev Under : ℕ → List ℕ → Type 0
Under m [] = Unit {0}
Under m (k ∷ ks) = (k ≤ m + 1) × Under m ks

under_append : (m : ℕ) (ks ls : List ℕ) → Under m ks → Under m ls → Under m (ks ++ ls)
under_append m [] ls p q = q
under_append m (k ∷ ks) ls p q = (p.0, under_append m ks ls p.1 q)

under_more : (m : ℕ) (ks : List ℕ) → Under m ks → Under (m + 1) ks
under_more m [] p = tt
under_more m (k ∷ ks) p = (omega (arith, p.0), under_more m ks p.1)

under_forms : (m k : ℕ) (es : List ℕ) → k ≤ m + 1 → Under (m + 1) (map (λ e. suc k) es)
under_forms m k [] h = tt
under_forms m k (e ∷ es) h = (omega arith, under_forms m k es h)

under_levels : (kd : Kind) (m v k : ℕ) → k ≤ m + 1 → Under (m + 1) (levels_of kd v k)
unfolding levels_of
under_levels (token c) m v k h = tt
under_levels (opt e) m v k h = go (eqb v 0)
  where
    go : (b : Bool) → Under (m + 1) (pick b (suc k ∷ []) [])
    go true = (omega arith, tt)
    go false = tt
under_levels (sequence style e) m v k h = go (eqb v 0)
  where
    go : (b : Bool) → Under (m + 1) (pick b (suc k ∷ k ∷ []) [])
    go true = (omega arith, (omega arith, tt))
    go false = tt
under_levels (forms fs) m v k h = under_forms m k (get_or fs v []) h

nesting_under : (g : Grammar) (ws : Words) (ks : List ℕ) (m : ℕ) → Under m ks → nesting_from g ws ks ≤ m + size ws
unfolding nesting_from size levels
nesting_under g [] ks m u = omega arith
nesting_under g (t ∷ []) ks m u = omega arith
nesting_under g (t ∷ v ∷ ws) [] m u = omega arith
nesting_under g (t ∷ v ∷ ws) (k ∷ ks) m u =
    let h = nesting_under g ws (levels_of (kind_of g t) v k ++ ks) (m + 1) (under_append (m + 1) (levels_of (kind_of g t) v k) ks (under_levels (kind_of g t) m v k u.0) (under_more m ks u.1)) in
    omega (arith, u.0)

pub nesting_size : (g : Grammar) (ws : Words) → nesting g ws ≤ size ws
unfolding nesting
nesting_size g ws = omega (arith, nesting_under g ws (1 ∷ []) 0 (omega arith, tt))

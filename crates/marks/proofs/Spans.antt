-- Stretches of work memory, and the loop that marks the nodes of a tree from its last to its first. Assumes nothing.
use Prim.Native.Nat.{ℕ, zero, suc, ◌+◌, ◌-◌, ◌*◌, ◌/◌, ◌<◌, ◌≤◌}
use mathlib.Core.Path.{◌≡◌, refl, sym, ap, ap₂, subst, ◌∙◌}
use mathlib.Core.List.{List, [], ◌∷◌, ◌++◌}
use mathlib.Core.Bool.{true}
use native.Mathlib.Omega.{arith}
use native.Mathlib.Numerals.{add-one}
use lib.ListN.{length, get_or, take, drop, set, length-set, length-take, length-drop, take-append-drop}
use lib.Seq.{drop-drop, drop-nil, take-nil, take-take, drop-set-lt, take-set-le, get_or-set_same, get_or-set_other, get_or-take, get_or-drop}
use Rattle.words.specs.Reader.{Words}
use Rattle.words.proofs.Stretches.{drop_pair}
use Rattle.grammar.specs.Grammar.{Grammar}
use Rattle.grammar.specs.Kinds.{allowed, children}
use Rattle.tables.specs.Types.{TypesOf}
use Rattle.tables.specs.declared.types.Types.{Types}
use Rattle.tree.specs.Tree.{Trees, size, first, after}
use Rattle.tree.proofs.Trees.{tells, first_after, first_even, size_append}
use Rattle.marks.specs.Marked.{type_in, marked}
use Rattle.marks.specs.Post.{span, MarkMade, NodeMarked, Unfinished}
use Rattle.marks.proofs.Marks.{unmarked_type, unmarked_value}

-- STRETCHES

pub drop_take : (n p : ℕ) (l : Words) → drop p (take n l) ≡ take (n - p) (drop p l)
drop_take n zero l = let e : n ≡ n - 0 = omega arith in ap (λ k. take k l) e
drop_take zero (suc p) l = let e : 0 ≡ 0 - suc p = omega arith in drop-nil (suc p) ∙ ap (λ k. take k (drop (suc p) l)) e
drop_take (suc n) (suc p) [] = sym (take-nil (suc n - suc p))
drop_take (suc n) (suc p) (a ∷ l) = let e : n - p ≡ suc n - suc p = omega arith in drop_take n p l ∙ ap (λ k. take k (drop p l)) e

-- a stretch that begins later
pub span_later : (w : Words) (base p top : ℕ) → base ≤ p → drop (p - base) (span w base top) ≡ span w p top
span_later w base p top h =
    let a : top - base - (p - base) ≡ top - p = omega arith in
    let b : base + (p - base) ≡ p = omega arith in
    drop_take (top - base) (p - base) (drop base w) ∙ ap₂ take a (drop-drop (p - base) base w ∙ ap (λ n. drop n w) b)

pub span_length : (w : Words) (base top : ℕ) → top ≤ length w → length (span w base top) ≡ top - base
span_length w base top h = omega (arith, length-take (top - base) (drop base w), length-drop base w)

-- a stretch by its first pair
pub span_pair : (w : Words) (p top : ℕ) → p + 2 ≤ top → top ≤ length w → span w p top ≡ get_or w p 0 ∷ get_or w (p + 1) 0 ∷ span w (p + 2) top
span_pair w p top h l = let z : top - p ≡ suc (suc (top - (p + 2))) = omega arith in rw (z, drop_pair w p (omega arith))

-- the first word of a stretch
pub word_there : (w x : Words) (at n : ℕ) → take n (drop at w) ≡ x → 0 < n → get_or w at 0 ≡ get_or x 0 0
word_there w x at n e h = let z : at + 0 ≡ at = omega arith in ap (λ k. get_or w k 0) (sym z) ∙ sym (get_or-drop at w 0 0) ∙ sym (get_or-take n (drop at w) 0 0 h) ∙ ap (λ l. get_or l 0 0) e

-- SUFFIXES OF TREES

pub suffix_trees : {g : Grammar} {ts : List ℕ} (ws : Words) → Trees g ts ws → (h q : ℕ) → q ≡ 2 * h → q ≤ length ws → (us : List ℕ) × Trees g us (drop q ws)
suffix_trees {g} {ts} ws r zero q e l = let z : q ≡ 0 = omega arith in (ts, rw z r)
suffix_trees [] r (suc h) q e l = absurd (omega arith)
suffix_trees {ts = []} (w ∷ ws) r (suc h) q e l = absurd (tells r)
suffix_trees {ts = t ∷ ts} (w ∷ []) r (suc h) q e l = absurd (tells r)
suffix_trees {ts = t ∷ ts} (w ∷ v ∷ ws) r (suc h) zero e l = absurd (omega arith)
suffix_trees {ts = t ∷ ts} (w ∷ v ∷ ws) r (suc h) (suc zero) e l = absurd (omega arith)
suffix_trees {g = g} {ts = t ∷ ts} (w ∷ v ∷ ws) r (suc h) (suc (suc q)) e l = suffix_trees {ts = children g t v ++ ts} ws (tells r).2 h q (omega arith) (omega arith)

-- .. of which there are some
pub suffix_some : {g : Grammar} {ts : List ℕ} (ws : Words) → Trees g ts ws → (h q : ℕ) → q ≡ 2 * h → q < length ws → (c : ℕ) × (cs : List ℕ) × Trees g (c ∷ cs) (drop q ws)
suffix_some {g} ws r h q e l = go (suffix_trees ws r h q e (omega arith))
  where
    none_here : (x : Words) → Trees g [] x → length x ≡ 0
    none_here [] t = refl
    none_here (y ∷ x) t = absurd (tells t)

    go : (us : List ℕ) × Trees g us (drop q ws) → (c : ℕ) × (cs : List ℕ) × Trees g (c ∷ cs) (drop q ws)
    go ([], t) = absurd (omega (arith, none_here (drop q ws) t, length-drop q ws))
    go ((c ∷ cs), t) = (c, cs, t)

-- the node that a suffix begins with
pub record NodeAt (g : Grammar) (t v : ℕ) (ws : Words) : Type 0 where
  pub rest : List ℕ
  pub fine : allowed g t v ≡ true
  pub below : Trees g (children g t v ++ rest) ws

pub node_of : {g : Grammar} (us : List ℕ) (t v : ℕ) (ws : Words) → Trees g us (t ∷ v ∷ ws) → NodeAt g t v ws
node_of [] t v ws r = absurd (tells r)
node_of (u ∷ us) t v ws r = let q = tells r in rw q.0 (record { rest = us; fine = q.1; below = q.2 })

pub suffix_size : (ws : Words) (h q : ℕ) → q ≡ 2 * h → size (drop q ws) ≤ size ws
unfolding size
suffix_size ws zero q e = let z : q ≡ 0 = omega arith in rw z (omega arith)
suffix_size [] (suc h) q e = rw (drop-nil {A = ℕ} q) (omega arith)
suffix_size (w ∷ []) (suc h) zero e = absurd (omega arith)
suffix_size (w ∷ []) (suc h) (suc q) e = rw (drop-nil {A = ℕ} q) (omega arith)
suffix_size (w ∷ v ∷ ws) (suc h) zero e = absurd (omega arith)
suffix_size (w ∷ v ∷ ws) (suc h) (suc zero) e = absurd (omega arith)
suffix_size (w ∷ v ∷ ws) (suc h) (suc (suc q)) e = let i = suffix_size ws h q (omega arith) in omega arith

pub first_size : (g : Grammar) (ws : Words) (n : ℕ) → size (first g ws n) ≤ size ws
first_size g ws n = omega (arith, size_append (first g ws n) (after g ws n) (first_even g ws n), ap size (first_after g ws n))

-- THE LOOP

-- so it is for every unfinished tree with its grammar's tables, and with what is given besides
abbrev pub Each : (Grammar → Words → Type 0) → Types → Words → ℕ → ℕ → ℕ → (Grammar → Words → Type 0) → Type 0
Each Given types w base place top P =
    (g : Grammar) (t : ℕ) (ws : Words) → TypesOf g types → Trees g (t ∷ []) ws → size ws ≤ 2048 → Unfinished g w base place top ws → Given g ws → P g ws

pub record MarkLoop (Given : Grammar → Words → Type 0) (types : Types) (w₀ w : Words) (base place top p : ℕ) : Type 0 where
  pub high : p ≤ place
  pub half : ℕ
  pub even : p ≡ base + 2 * half
  pub long : length w ≡ length w₀
  pub kept : take p w ≡ take p w₀
  pub above : drop top w ≡ drop top w₀
  run : Each Given types w₀ base place top (λ g ws. span w p top ≡ marked g (drop (p - base) ws))

pub mark_start : (Given : Grammar → Words → Type 0) (types : Types) (w : Words) (base place top : ℕ) → base ≤ place → MarkLoop Given types w w base place top (base + 2 * ((place - base) / 2))
mark_start Given types w base place top h = record {
  high = omega arith;
  half = (place - base) / 2;
  even = refl;
  long = refl;
  kept = refl;
  above = refl;
  run = λ g t ws tb r s u k. let all : base + 2 * ((place - base) / 2) ≡ place = omega (arith, u.even) in rw all u.back;
}

pub same_below : (w w₀ : Words) (n i : ℕ) → i < n → take n w ≡ take n w₀ → get_or w i 0 ≡ get_or w₀ i 0
same_below w w₀ n i h e = sym (get_or-take n w i 0 h) ∙ ap (λ l. get_or l i 0) e ∙ get_or-take n w₀ i 0 h

marked_pair : (g : Grammar) (t v m : ℕ) (x y : Words) → m ≡ get_or (marked g (t ∷ v ∷ x)) 0 0 → y ≡ marked g x → m ∷ v ∷ y ≡ marked g (t ∷ v ∷ x)
unfolding marked
marked_pair g t v m x y em ey = rw (em, ey)

-- a word of a stretch
pub span_word : (w : Words) (base top i : ℕ) → i < top - base → get_or (span w base top) i 0 ≡ get_or w (base + i) 0
span_word w base top i h = get_or-take (top - base) (drop base w) i 0 h ∙ get_or-drop base w i 0

pub node_marked : (types : Types) (w : Words) (p top t m : ℕ) → t ≡ type_in (get_or w p 0) → MarkMade types t (get_or w (p + 1) 0) (span w (p + 2) top) m → NodeMarked types w (set w p m) p top
node_marked types w p top t m e made = record { word = m; made = subst (λ k. MarkMade types k (get_or w (p + 1) 0) (span w (p + 2) top) m) e made; stored = refl }

-- the node at q of a tree that is not all marked
module _ (g : Grammar) (w : Words) (base place top : ℕ) (ws : Words) (u : Unfinished g w base place top ws) (room : top ≤ length w) (q h : ℕ) (low : base ≤ q) (two : q + 2 ≤ place) (high : place ≤ top) (e : q - base ≡ 2 * h) where
  node_type : get_or ws (q - base) 0 ≡ type_in (get_or w q 0)
  node_type =
      let back : base + (q - base) ≡ q = omega arith in
      let l : length (span w base place) ≡ place - base = span_length w base place (omega arith) in
      sym (get_or-take (place - base) ws (q - base) 0 (omega arith)) ∙ ap (λ l. get_or l (q - base) 0) (sym u.front) ∙ unmarked_type (span w base place) h (q - base) e (omega arith)
      ∙ ap type_in (span_word w base place (q - base) (omega arith) ∙ ap (λ n. get_or w n 0) back)

  node_value : get_or ws (q - base + 1) 0 ≡ get_or w (q + 1) 0
  node_value =
      let back : base + (q - base + 1) ≡ q + 1 = omega arith in
      let l : length (span w base place) ≡ place - base = span_length w base place (omega arith) in
      sym (get_or-take (place - base) ws (q - base + 1) 0 (omega arith)) ∙ ap (λ l. get_or l (q - base + 1) 0) (sym u.front) ∙ rw (add-one (q - base)) (unmarked_value (span w base place) h (q - base) e (omega arith))
      ∙ (span_word w base place (q - base + 1) (omega arith) ∙ ap (λ n. get_or w n 0) back)

  node_pair : drop (q - base) ws ≡ type_in (get_or w q 0) ∷ get_or w (q + 1) 0 ∷ drop (q + 2 - base) ws
  node_pair =
      let up : q - base + 2 ≡ q + 2 - base = omega arith in
      drop_pair ws (q - base) (omega (arith, u.long)) ∙ ap₂ (λ a b. a ∷ b) node_type (ap₂ (λ a b. a ∷ b) node_value (ap (λ n. drop n ws) up))

module _ (Given : Grammar → Words → Type 0) (types : Types) (w₀ w : Words) (base place top p : ℕ) (i : MarkLoop Given types w₀ w base place top p) (up : place ≤ top) (room : top ≤ length w₀) where
  -- the node before p
  module _ (two : 2 ≤ p - base) (q : ℕ) (eq : q ≡ p - 2) where
    left : (h : ℕ) × (q - base ≡ 2 * h)
    left = (i.half - 1, omega (arith, i.even))

    pair : (g : Grammar) (ws : Words) → Unfinished g w₀ base place top ws → drop (q - base) ws ≡ type_in (get_or w q 0) ∷ get_or w (q + 1) 0 ∷ drop (q + 2 - base) ws
    pair g ws f =
        node_pair g w₀ base place top ws f room q left.0 (omega arith) (omega (arith, i.high)) up left.1
        ∙ ap₂ (λ a b. type_in a ∷ b ∷ drop (q + 2 - base) ws) (sym (same_below w w₀ p q (omega arith) i.kept)) (sym (same_below w w₀ p (q + 1) (omega arith) i.kept))

    done : Each Given types w₀ base place top (λ g ws. span w (q + 2) top ≡ marked g (drop (q + 2 - base) ws))
    done g t ws tb r s f k = let next : q + 2 ≡ p = omega arith in rw next (i.run g t ws tb r s f k)

    -- its mark is stored
    pub mark_step : (m : ℕ) → Each Given types w₀ base place top (λ g ws. m ≡ get_or (marked g (drop (q - base) ws)) 0 0) → MarkLoop Given types w₀ (set w q m) base place top q
    mark_step m is = record {
      high = omega (arith, i.high);
      half = i.half - 1;
      even = omega (arith, i.even);
      long = length-set w q m ∙ i.long;
      kept = take-set-le q w q m (omega arith) ∙ sym (take-take q p w (omega arith)) ∙ ap (take q) i.kept ∙ take-take q p w₀ (omega arith);
      above = drop-set-lt top w q m (omega (arith, i.high)) ∙ i.above;
      run = λ g t ws tb r s f k.
          let e = pair g ws f in
          stored
          ∙ marked_pair g (type_in (get_or w q 0)) (get_or w (q + 1) 0) m (drop (q + 2 - base) ws) (span w (q + 2) top) (is g t ws tb r s f k ∙ ap (λ l. get_or (marked g l) 0 0) e) (done g t ws tb r s f k)
          ∙ ap (marked g) (sym e);
    }
      where
        stored : span (set w q m) q top ≡ m ∷ get_or w (q + 1) 0 ∷ span w (q + 2) top
        stored =
            let l : length (set w q m) ≡ length w₀ = length-set w q m ∙ i.long in
            span_pair (set w q m) q top (omega (arith, i.high)) (omega arith)
            ∙ ap₂ (λ a b. a ∷ b) (get_or-set_same w q m 0 (omega (arith, i.high, i.long)))
            (ap₂ (λ a b. a ∷ b) (get_or-set_other w q (q + 1) m 0 (λ e. omega arith)) (ap (take (top - (q + 2))) (drop-set-lt (q + 2) w q m (omega arith))))

    -- it is marked
    pub mark_more : (w' : Words) → NodeMarked types w w' q top → MarkLoop Given types w₀ w' base place top q
    unfolding marked
    mark_more w' n = rw n.stored (mark_step n.word made)
      where
        made : Each Given types w₀ base place top (λ g ws. n.word ≡ get_or (marked g (drop (q - base) ws)) 0 0)
        made g u ws tb r s f k =
            let t = type_in (get_or w q 0) in
            let v = get_or w (q + 1) 0 in
            let x = drop (q + 2 - base) ws in
            let e = pair g ws f in
            let suffix = suffix_trees ws r left.0 (q - base) left.1 (omega (arith, f.long, i.high)) in
            let there = node_of suffix.0 t v x (rw e at suffix.1) in
            let a = first_size g (t ∷ v ∷ x) 1 in
            let b = suffix_size ws left.0 (q - base) left.1 in
            let c : size (drop (q - base) ws) ≡ size (t ∷ v ∷ x) = ap size e in
            n.made g x there.rest tb (done g u ws tb r s f k) there.below there.fine (omega arith) ∙ ap (λ l. get_or (marked g l) 0 0) (sym e)

  -- all before p are marked
  pub mark_all : p ≡ base → Each Given types w₀ base place top (λ g ws. w ≡ take base w₀ ++ (marked g ws ++ drop top w₀))
  mark_all e g t ws tb r s f k =
      let front : take base w ≡ take base w₀ = rw e at i.kept in
      let z : base - base ≡ 0 = omega arith in
      let m : span w base top ≡ marked g ws = rw (e, z) at (i.run g t ws tb r s f k) in
      let b : base + (top - base) ≡ top = omega (arith, i.even, i.high) in
      let d : drop (top - base) (drop base w) ≡ drop top w₀ = drop-drop (top - base) base w ∙ ap (λ n. drop n w) b ∙ i.above in
      sym (take-append-drop base w) ∙ ap₂ (λ a b. a ++ b) front (sym (take-append-drop (top - base) (drop base w)) ∙ ap₂ (λ a b. a ++ b) m d)

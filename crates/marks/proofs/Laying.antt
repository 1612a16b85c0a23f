-- Trees under way, and the loop that marks what has no mark in them. Assumes nothing.
use Prim.Native.Nat.{ℕ, zero, suc, ◌+◌, ◌-◌, ◌*◌, ◌<◌, ◌≤◌}
use mathlib.Core.Path.{◌≡◌, refl, sym, ap, ap₂, ◌∙◌}
use mathlib.Core.List.{List, [], ◌∷◌, ◌++◌, append_assoc, append-nil}
use native.Mathlib.Omega.{arith}
use lib.ListN.{length, get_or, length-append, drop_of_length-le, get_or-append}
use lib.Seq.{drop_at, take_all, get_or-append-add, set-get_or}
use Rattle.tables.specs.declared.types.Types.{Types}
use Rattle.words.specs.Reader.{Words}
use Rattle.grammar.specs.Grammar.{Grammar}
use Rattle.grammar.specs.Kinds.{children}
use Rattle.tree.specs.Tree.{Trees, none, node, size}
use Rattle.tree.proofs.Trees.{Even, even_of, tells, trees_even}
use Rattle.marks.specs.Marked.{type_in, size_in, marked, unmarked, UnderWay, nothing, written, copied}
use Rattle.marks.specs.Post.{span, Unfinished, TreeMarked}
use Rattle.marks.proofs.Marks.{marked_length, marked_append, marked_drop}
use Rattle.marks.proofs.Marking.{type_there}
use Rattle.marks.proofs.Same.{unmark}
use Rattle.marks.proofs.Spans.{span_length, span_word, same_below, suffix_trees, MarkLoop, mark_step, mark_all}

-- WHAT IS UNDER WAY

-- a tree whose nodes have no marks
pub under_plain : {g : Grammar} {ts : List ℕ} {ws : Words} → Trees g ts ws → UnderWay g ws ws
under_plain none = nothing
under_plain (node {t} {v} fine r) = written t v (under_plain r)

-- a tree that was copied
pub under_tree : {g : Grammar} {t : ℕ} {u x : Words} → Trees g (t ∷ []) u → x ≡ marked g u → UnderWay g x u
under_tree {g} {u = u} r e = rw e (rw (append-nil (marked g u), append-nil u) at (copied r nothing))

-- one after the other
pub under_append : {g : Grammar} {a x b y : Words} → UnderWay g a x → UnderWay g b y → UnderWay g (a ++ b) (x ++ y)
under_append nothing q = q
under_append (written t v p) q = written t v (under_append p q)
under_append {g} {b = b} {y = y} (copied {u = u} {l} {ws} r p) q = rw (append_assoc (marked g u) l b, append_assoc u ws y) (copied r (under_append p q))

under_length : {g : Grammar} {l ws : Words} → UnderWay g l ws → length l ≡ length ws
under_length nothing = refl
under_length (written t v p) = ap (λ n. suc (suc n)) (under_length p)
under_length {g} (copied {u = u} {l} {ws} r p) = omega (arith, length-append (marked g u) l, length-append u ws, marked_length g u, under_length p)

-- what follows a tree
rest_trees : {g : Grammar} {t : ℕ} {ts : List ℕ} {u ws : Words} → Trees g (t ∷ []) u → Trees g ts (u ++ ws) → (us : List ℕ) × Trees g us ws
rest_trees {u = u} {ws} r q =
    let s = suffix_trees (u ++ ws) q (size u) (length u) (trees_even r) (omega (arith, length-append u ws)) in
    (s.0, rw (drop_at u ws (length u) refl) at s.1)

unmarked_append : (a b : Words) → Even a → unmarked (a ++ b) ≡ unmarked a ++ unmarked b
unfolding unmarked size
unmarked_append [] b h = refl
unmarked_append (w ∷ []) b h = absurd (omega arith)
unmarked_append (w ∷ v ∷ a) b h = ap (λ l. type_in w ∷ v ∷ l) (unmarked_append a b (omega arith))

under_unmarked : {g : Grammar} {ts : List ℕ} {l ws : Words} → length g ≤ 64 → UnderWay g l ws → Trees g ts ws → unmarked l ≡ ws
unfolding unmarked
under_unmarked few nothing r = refl
under_unmarked {ts = []} few (written t v p) r = absurd (tells r)
under_unmarked {g} {ts = c ∷ ts} few (written t v p) r =
    let q = tells r in
    let e : type_in t ≡ t = omega (arith, q.0, type_there g c v q.1) in
    ap₂ (λ a b. a ∷ v ∷ b) e (under_unmarked {ts = children g c v ++ ts} few p q.2)
under_unmarked {g} few (copied {u = u} {l} s p) r =
    unmarked_append (marked g u) l (even_of (marked g u) (omega (arith, marked_length g u, trees_even s))) ∙ ap₂ (λ a b. a ++ b) (unmark few s) (under_unmarked few p (rest_trees s r).1)

-- WHAT IS MARKED IS MARKED RIGHTLY

-- a word behind the first words
word_behind : (a b : Words) (q : ℕ) → length a ≤ q → get_or (a ++ b) q 0 ≡ get_or b (q - length a) 0
word_behind a b q h = let z : length a + (q - length a) ≡ q = omega arith in ap (λ k. get_or (a ++ b) k 0) (sym z) ∙ get_or-append-add a b (q - length a) 0

under_right : {g : Grammar} {ts : List ℕ} {l ws : Words} → length g ≤ 64 → UnderWay g l ws → Trees g ts ws → (h q : ℕ) → q ≡ 2 * h → q < length ws → (size_in (get_or l q 0) ≡ 0 → ⊥) → get_or l q 0 ≡ get_or (marked g ws) q 0
unfolding marked
under_right few nothing r h q e i n = absurd (omega arith)
under_right {ts = []} few (written t v p) r h q e i n = absurd (tells r)
under_right {g} {ts = c ∷ ts} few (written t v p) r h zero e i n = let k = tells r in absurd (n (omega (arith, k.0, type_there g c v k.1)))
under_right {ts = c ∷ ts} few (written t v p) r h (suc zero) e i n = absurd (omega arith)
under_right {g = g} {ts = c ∷ ts} few (written {l = l} {ws = ws} t v p) r h (suc (suc q)) e i n = under_right {ts = children g c v ++ ts} few p (tells r).2 (h - 1) q (omega arith) (omega arith) n
under_right {g} few (copied {u = u} {l} {ws} s p) r h q e i n = go (length u - q) refl (λ a b c. under_right few p (rest_trees s r).1 (h - size u) (q - length u) a b c)
  where
    go : (d : ℕ) → length u - q ≡ d → (q - length u ≡ 2 * (h - size u) → q - length u < length ws → (size_in (get_or l (q - length u) 0) ≡ 0 → ⊥) → get_or l (q - length u) 0 ≡ get_or (marked g ws) (q - length u) 0)
        → get_or (marked g u ++ l) q 0 ≡ get_or (marked g (u ++ ws)) q 0
    go zero k later =
        let long = marked_length g u in
        let back : q - length (marked g u) ≡ q - length u = omega arith in
        let here = word_behind (marked g u) l q (omega arith) ∙ ap (λ j. get_or l j 0) back in
        let there = ap (λ x. get_or x q 0) (marked_append s ws) ∙ word_behind (marked g u) (marked g ws) q (omega arith) ∙ ap (λ j. get_or (marked g ws) j 0) back in
        here ∙ later (omega (arith, trees_even s)) (omega (arith, length-append u ws)) (λ z. n (ap size_in here ∙ z)) ∙ sym there
    go (suc d) k later =
        let long = marked_length g u in
        get_or-append (marked g u) l 0 q (omega arith) ∙ sym (ap (λ x. get_or x q 0) (marked_append s ws) ∙ get_or-append (marked g u) (marked g ws) 0 q (omega arith))

-- THE LOOP

abbrev pub TreeLoop : Types → Words → Words → ℕ → ℕ → ℕ → Type 0
TreeLoop types w₀ w base top p = MarkLoop (λ g ws. UnderWay g (span w₀ base top) ws) types w₀ w base top top p

module _ (types : Types) (w₀ w : Words) (base top p : ℕ) (i : TreeLoop types w₀ w base top p) (room : top ≤ length w₀) where
  -- the node before p has a mark
  pub tree_skip : 2 ≤ p - base → (q : ℕ) → q ≡ p - 2 → (size_in (get_or w q 0) ≡ 0 → ⊥) → TreeLoop types w₀ w base top q
  tree_skip two q eq n =
      rw (set-get_or w q 0) at (mark_step (λ g ws. UnderWay g (span w₀ base top) ws) types w₀ w base top top p i (omega arith) room two q eq (get_or w q 0) (λ g t ws tb r s f k.
      let h = i.half - 1 in
      let even : q - base ≡ 2 * h = omega (arith, i.even) in
      let back : base + (q - base) ≡ q = omega arith in
      let is : get_or w q 0 ≡ get_or (span w₀ base top) (q - base) 0 = same_below w w₀ p q (omega arith) i.kept ∙ ap (λ n. get_or w₀ n 0) (sym back) ∙ sym (span_word w₀ base top (q - base) (omega (arith, i.high))) in
      is ∙ under_right tb.heads_of.types k r h (q - base) even (omega (arith, f.long, i.high)) (λ z. n (ap size_in is ∙ z)) ∙ marked_drop g ws h (q - base) even))

  unfinished : {g : Grammar} {t : ℕ} {ws : Words} → length g ≤ 64 → Trees g (t ∷ []) ws → UnderWay g (span w₀ base top) ws → Unfinished g w₀ base top top ws
  unfolding marked
  unfinished {ws = ws} few r u =
      let long : length ws ≡ top - base = sym (under_length u) ∙ span_length w₀ base top room in
      let z : top - top ≡ 0 = omega arith in
      record {
        long = long;
        half = size ws;
        even = omega (arith, trees_even r);
        front = under_unmarked few u r ∙ sym (take_all (top - base) ws (omega arith));
        back = rw (z, drop_of_length-le ws {i = top - base} (omega arith));
      }

  pub tree_end : p ≡ base → TreeMarked types w₀ w base top
  tree_end e = record {
    long = i.long;
    marks = λ g t ws tb r s u. mark_all (λ g ws. UnderWay g (span w₀ base top) ws) types w₀ w base top top p i (omega arith) room e g t ws tb r s (unfinished tb.heads_of.types r u) u;
  }

-- Marked trees that are compared: two are the same exactly if the trees are. Assumes nothing.
use Prim.Native.Nat.{ℕ, ◌+◌, ◌-◌, ◌*◌, ◌<◌, ◌≤◌}
use mathlib.Core.Path.{◌≡◌, refl, sym, ap, ap₂, ◌∙◌}
use mathlib.Core.List.{List, [], ◌∷◌, append-nil}
use mathlib.Core.Bool.{Bool, true, false}
use native.Mathlib.Omega.{arith}
use lib.ListN.{length, get_or, take, drop}
use lib.Seq.{take_at}
use Rattle.words.specs.Reader.{Words}
use Rattle.words.specs.Views.{equal_words}
use Rattle.words.proofs.Stretches.{equal_true, equal_alike}
use Rattle.grammar.specs.Grammar.{Grammar}
use Rattle.tree.specs.Tree.{Trees, none, node, size, after, first_tree}
use Rattle.tree.proofs.Trees.{split, trees_even, tree_some, first_append, first_after, first_even}
use Rattle.marks.specs.Marked.{type_in, size_in, mark_of, marked, unmarked, Stands}
use Rattle.marks.specs.Post.{SameTree}
use Rattle.marks.proofs.Marks.{mark_type, marked_append, marked_length}
use Rattle.marks.proofs.Marking.{type_there, Child, child_of}
use Rattle.marks.proofs.Spans.{word_there, first_size}

-- THE TREE UNDER THE MARKS

pub unmark : {g : Grammar} {ts : List ℕ} {ws : Words} → length g ≤ 64 → Trees g ts ws → unmarked (marked g ws) ≡ ws
unfolding unmarked marked mark_of
unmark l none = refl
unmark {g} l (node {t} {v} {ts} {ws} fine r) =
    ap₂ (λ a b. a ∷ v ∷ b) (mark_type t (size (first_tree g (t ∷ v ∷ ws))) _ (omega (arith, type_there g t v fine))) (unmark l r)

pub equal_marked : {g : Grammar} {ts us : List ℕ} {a b : Words} → length g ≤ 64 → Trees g ts a → Trees g us b → equal_words (marked g a) (marked g b) ≡ equal_words a b
equal_marked {g} {a = a} {b} l p q = equal_alike (marked g a) (marked g b) a b (λ e. sym (unmark l p) ∙ ap unmarked e ∙ unmark l q) (λ e. ap (marked g) e)

-- A WHOLE TREE

pub whole_first : {g : Grammar} {t : ℕ} (u : Words) → Trees g (t ∷ []) u → first_tree g u ≡ u
whole_first {g} u r = ap (first_tree g) (sym (append-nil u)) ∙ first_append r []

-- the first tree of the words, marked
pub marked_first : {g : Grammar} {t : ℕ} {ts : List ℕ} (ws : Words) (m : ℕ) → Trees g (t ∷ ts) ws → m ≡ length (first_tree g ws) → take m (marked g ws) ≡ marked g (first_tree g ws)
marked_first {g} {t} {ts} ws m r e =
    let s = split ws (t ∷ []) ts r in
    ap (λ l. take m (marked g l)) (sym (first_after g ws 1)) ∙ ap (take m) (marked_append s.front (after g ws 1))
    ∙ take_at (marked g (first_tree g ws)) (marked g (after g ws 1)) m (marked_length g (first_tree g ws) ∙ sym e)

-- TYPE AND SIZE AT HAND

stands_child : (g : Grammar) (arena : Words) (start : ℕ) (u : Words) (w : ℕ) → length g ≤ 64 → (s : Stands g arena start u) → w ≡ get_or arena start 0 → Child g s.type [] u w
stands_child g arena start u w l s e =
    let r = s.tree.typed in
    let f = whole_first u r in
    let here = word_there arena (marked g u) start (length u) s.words (omega (arith, trees_even r, tree_some u r)) in
    child_of g s.type [] u w l (rw f (omega (arith, s.tree.nodes))) r (e ∙ here)

pub stands_root : (g : Grammar) (arena : Words) (start : ℕ) (u : Words) (w : ℕ) → length g ≤ 64 → (s : Stands g arena start u) → w ≡ get_or arena start 0 → type_in w ≡ s.type
stands_root g arena start u w l s e = (stands_child g arena start u w l s e).root

pub stands_size : (g : Grammar) (arena : Words) (start : ℕ) (u : Words) (w : ℕ) → length g ≤ 64 → Stands g arena start u → w ≡ get_or arena start 0 → size_in w ≡ size u
stands_size g arena start u w l s e = (stands_child g arena start u w l s e).counted ∙ ap size (whole_first u s.tree.typed)

pub part_size : {g : Grammar} {t : ℕ} {ts : List ℕ} (part ws : Words) (w : ℕ) → length g ≤ 64 → size ws ≤ 2048 → Trees g (t ∷ ts) ws → part ≡ marked g ws → w ≡ get_or part 0 0 → size_in w ≡ size (first_tree g ws)
part_size {g} {t} {ts} part ws w l s r e ew = (child_of g t ts ws w l (omega (arith, first_size g ws 1)) r (ew ∙ rw e)).counted

-- COMPARING

equal_not : (a b : Words) → (a ≡ b → ⊥) → false ≡ equal_words a b
equal_not a b h = go (equal_words a b) refl
  where
    go : (x : Bool) → equal_words a b ≡ x → false ≡ x
    go true e = absurd (h (equal_true a b e))
    go false e = refl

module _ (arena part : Words) (start a b n m : ℕ) (ea : a ≡ get_or arena start 0) (eb : b ≡ get_or part 0 0) (en : n ≡ size_in a) (em : m ≡ size_in b) where
  pub same_sizes : (2 * n ≡ 2 * m → ⊥) → SameTree arena start part false
  same_sizes h g u ws t ts l s e r k = equal_not u (first_tree g ws) (λ q. h (omega (arith, stands_size g arena start u a l s ea, part_size part ws b l k r e eb, ap size q)))

  pub same_arena : length arena < start + 2 * n → SameTree arena start part false
  same_arena h g u ws t ts l s e r k = absurd (omega (arith, stands_size g arena start u a l s ea, trees_even s.tree.typed, s.inside))

  pub same_part : length part < 2 * m → SameTree arena start part false
  same_part h g u ws t ts l s e r k =
      absurd (omega (arith, part_size part ws b l k r e eb, first_size g ws 1, ap length e, marked_length g ws, trees_even r))

  pub same_words : 2 * n ≡ 2 * m → (r : Bool) → r ≡ equal_words (take (start + 2 * n - start) (drop start arena)) (take (2 * m) part) → SameTree arena start part r
  same_words q r er g u ws t ts l s e tr k =
      let a₁ : start + 2 * n - start ≡ length u = omega (arith, stands_size g arena start u a l s ea, trees_even s.tree.typed) in
      let b₁ : 2 * m ≡ length (first_tree g ws) = omega (arith, part_size part ws b l k tr e eb, first_even g ws 1) in
      er ∙ ap₂ equal_words (ap (λ j. take j (drop start arena)) a₁ ∙ s.words) (ap (take (2 * m)) e ∙ marked_first ws (2 * m) tr b₁)
      ∙ equal_marked l s.tree.typed (split ws (t ∷ []) ts tr).front

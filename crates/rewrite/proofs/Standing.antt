-- Trees that stand in work memory: below a place, and where the words above it change. Assumes nothing.
use Prim.Native.Nat.{ℕ, ◌+◌, ◌-◌, ◌*◌, ◌<◌, ◌≤◌}
use mathlib.Core.Path.{◌≡◌, refl, sym, ap, ◌∙◌}
use mathlib.Core.List.{[], ◌∷◌}
use native.Mathlib.Omega.{arith}
use lib.ListN.{length, take, drop, length-take, length-drop}
use lib.Seq.{take-take}
use Rattle.words.specs.Reader.{Words}
use Rattle.grammar.specs.Grammar.{Grammar}
use Rattle.tree.specs.Tree.{Tree, size}
use Rattle.tree.proofs.Trees.{tells, trees_even}
use Rattle.marks.specs.Marked.{marked, Stands}
use Rattle.marks.proofs.Marks.{marked_length}
use Rattle.marks.proofs.Spans.{drop_take}
use Rattle.rewrite.specs.Arena.{Standing}

-- WORDS

-- what is the same below a place is the same below any lower
pub take_less : (a b : ℕ) (w w' : Words) → a ≤ b → take b w' ≡ take b w → take a w' ≡ take a w
take_less a b w w' h e = sym (take-take a b w' h) ∙ ap (take a) e ∙ take-take a b w h

-- a stretch that ends by a
pub stretch_below : (w : Words) (a s n : ℕ) → s + n ≤ a → take n (drop s (take a w)) ≡ take n (drop s w)
stretch_below w a s n h = ap (take n) (drop_take a s w) ∙ take-take n (a - s) (drop s w) (omega arith)

pub stretch_kept : (w w' : Words) (a s n : ℕ) → s + n ≤ a → take a w' ≡ take a w → take n (drop s w') ≡ take n (drop s w)
stretch_kept w w' a s n h e = sym (stretch_below w' a s n h) ∙ ap (λ x. take n (drop s x)) e ∙ stretch_below w a s n h

-- TREES

-- two words a node
pub tree_length : {g : Grammar} {t : ℕ} {ws : Words} → Tree g t ws → length ws ≡ 2 * size ws
tree_length x = trees_even x.typed

-- a tree has its root
pub some_nodes : {g : Grammar} {t : ℕ} (ws : Words) → Tree g t ws → 0 < size ws
unfolding size
some_nodes [] x = absurd (tells x.typed)
some_nodes (w ∷ []) x = absurd (tells x.typed)
some_nodes (w ∷ v ∷ ws) x = omega arith

module _ {g : Grammar} {s : ℕ} {ws : Words} (w : Words) (a : ℕ) where
  pub stands_inside : Stands g (take a w) s ws → s + length ws ≤ a
  stands_inside x = omega (arith, x.inside, length-take a w)

  pub stands_whole : Stands g (take a w) s ws → Stands g w s ws
  stands_whole x = record {
    type = x.type;
    tree = x.tree;
    inside = omega (arith, x.inside, length-take a w);
    words = sym (stretch_below w a s (length ws) (stands_inside x)) ∙ x.words;
  }

  pub stands_below : s + length ws ≤ a → Stands g w s ws → Stands g (take a w) s ws
  stands_below h x = record {
    type = x.type;
    tree = x.tree;
    inside = omega (arith, x.inside, length-take a w);
    words = stretch_below w a s (length ws) h ∙ x.words;
  }

pub stands_up : {g : Grammar} {s : ℕ} {ws : Words} (w : Words) (a b : ℕ) → a ≤ b → Stands g (take a w) s ws → Stands g (take b w) s ws
stands_up w a b h x = let i = stands_inside w a x in stands_below w b (omega arith) (stands_whole w a x)

-- A TREE OF n NODES AT base

module _ {g : Grammar} {base n t : ℕ} {ws : Words} where
  -- .. ends inside
  pub standing_inside : (w : Words) → Standing g w base n t ws → base + 2 * n ≤ length w
  standing_inside w x =
      let a = some_nodes ws x.tree in
      let b : length (take (2 * n) (drop base w)) ≡ length (marked g ws) = ap length x.words in
      omega (arith, x.nodes, b, marked_length g ws, tree_length x.tree, length-take (2 * n) (drop base w), length-drop base w)

  pub standing_stands : (w : Words) → Standing g w base n t ws → Stands g w base ws
  standing_stands w x =
      let l : length ws ≡ 2 * n = omega (arith, tree_length x.tree, x.nodes) in
      record { type = t; tree = x.tree; inside = omega (arith, standing_inside w x, l); words = ap (λ k. take k (drop base w)) l ∙ x.words }

  pub standing_kept : (w w' : Words) (a : ℕ) → base + 2 * n ≤ a → take a w' ≡ take a w → Standing g w base n t ws → Standing g w' base n t ws
  standing_kept w w' a h e x = record { tree = x.tree; nodes = x.nodes; words = stretch_kept w w' a base (2 * n) h e ∙ x.words }

  pub standing_below : (w : Words) (a : ℕ) → base + 2 * n ≤ a → Standing g w base n t ws → Standing g (take a w) base n t ws
  standing_below w a h x = record { tree = x.tree; nodes = x.nodes; words = stretch_below w a base (2 * n) h ∙ x.words }

  pub standing_end : (w : Words) (a : ℕ) → Standing g (take a w) base n t ws → base + 2 * n ≤ a
  standing_end w a x = omega (arith, standing_inside (take a w) x, length-take a w)

  pub standing_whole : (w : Words) (a : ℕ) → Standing g (take a w) base n t ws → Standing g w base n t ws
  standing_whole w a x = record { tree = x.tree; nodes = x.nodes; words = sym (stretch_below w a base (2 * n) (standing_end w a x)) ∙ x.words }

pub stands_standing : {g : Grammar} {s : ℕ} {ws : Words} (w : Words) (x : Stands g w s ws) → Standing g w s (size ws) x.type ws
stands_standing {s = s} w x = record { tree = x.tree; nodes = refl; words = ap (λ k. take k (drop s w)) (sym (tree_length x.tree)) ∙ x.words }

-- The loop that marks only the nodes above a place: the trees that end by it are marked as they were. Assumes nothing.
use Prim.Native.Nat.{ℕ, ◌+◌, ◌-◌, ◌*◌, ◌≤◌}
use mathlib.Core.Path.{◌≡◌, refl, sym, ap, ◌∙◌}
use mathlib.Core.List.{List, [], ◌∷◌}
use native.Mathlib.Omega.{arith}
use lib.ListN.{length, get_or, take, drop, length-drop}
use lib.Seq.{take-take, get_or-take, set-get_or}
use Rattle.tables.specs.declared.types.Types.{Types}
use Rattle.words.specs.Reader.{Words}
use Rattle.grammar.specs.Grammar.{Grammar}
use Rattle.tree.specs.Tree.{Trees, size, nesting, first_tree}
use Rattle.tree.proofs.Trees.{split, first_take, first_even, prefix_first}
use Rattle.marks.specs.Marked.{mark, size_in, marked}
use Rattle.marks.specs.Post.{Kept, AboveMarked}
use Rattle.marks.proofs.Marks.{first_mark, marked_drop}
use Rattle.marks.proofs.Spans.{drop_take, span_word, same_below, suffix_some, suffix_size, MarkLoop, mark_step, mark_all}
use Rattle.marks.proofs.Same.{part_size}

-- a stretch that lies in the first k words
within : (x : Words) (k q n : ℕ) → q + n ≤ k → take n (drop q x) ≡ take n (drop q (take k x))
within x k q n h = sym (ap (take n) (drop_take k q x) ∙ take-take n (k - q) (drop q x) (omega arith))

-- the mark of a node whose tree lies in the first k words is the same wherever these are
pub kept_mark : {g : Grammar} {ts : List ℕ} (old ws : Words) → Trees g ts old → (k h q : ℕ) → q ≡ 2 * h → q + 2 ≤ k → k ≤ length old → k ≤ length ws → take k old ≡ take k ws
    → q + length (first_tree g (drop q old)) ≤ k → get_or (marked g (drop q old)) 0 0 ≡ get_or (marked g (drop q ws)) 0 0
kept_mark {g} old ws r k h q e two lo lw same inside =
    let here = suffix_some old r h q e (omega arith) in
    let u = first_tree g (drop q old) in
    let n = length u in
    let words : take n (drop q ws) ≡ u = within ws k q n inside ∙ ap (λ l. take n (drop q l)) (sym same) ∙ sym (within old k q n inside) ∙ sym (first_take g (drop q old) 1) in
    let is : first_tree g (drop q ws) ≡ u = prefix_first (split (drop q old) (here.0 ∷ []) here.1 here.2).front (drop q ws) words in
    first_mark g (drop q old) (omega (arith, length-drop q old)) ∙ ap (λ l. mark (get_or l 0 0) (size l) (nesting g l)) (sym is) ∙ sym (first_mark g (drop q ws) (omega (arith, length-drop q ws)))

-- THE LOOP

abbrev pub AboveLoop : Types → Words → Words → ℕ → ℕ → ℕ → ℕ → Type 0
AboveLoop types w₀ w base place top p = MarkLoop (λ g ws. Kept g w₀ base place ws) types w₀ w base place top p

module _ (types : Types) (w₀ w : Words) (base place top p : ℕ) (i : AboveLoop types w₀ w base place top p) (up : place ≤ top) (room : top ≤ length w₀) where
  -- the tree of the node before p ends by the place
  pub above_skip : 2 ≤ p - base → (q : ℕ) → q ≡ p - 2 → q + 2 * size_in (get_or w q 0) ≤ place → AboveLoop types w₀ w base place top q
  above_skip two q eq ends =
      rw (set-get_or w q 0) at (mark_step (λ g ws. Kept g w₀ base place ws) types w₀ w base place top p i up room two q eq (get_or w q 0)
      (λ g t ws tb r s f k.
      let h = i.half - 1 in
      let even : q - base ≡ 2 * h = omega (arith, i.even) in
      let back : base + (q - base) ≡ q = omega arith in
      let here = suffix_some k.old k.tree h (q - base) even (omega (arith, k.long, i.high)) in
      let is : get_or w q 0 ≡ get_or (marked g (drop (q - base) k.old)) 0 0 =
      same_below w w₀ p q (omega arith) i.kept ∙ ap (λ n. get_or w₀ n 0) (sym back) ∙ sym (span_word w₀ base place (q - base) (omega (arith, i.high))) ∙ ap (λ l. get_or l (q - base) 0) k.stands
      ∙ get_or-take (place - base) (marked g k.old) (q - base) 0 (omega (arith, i.high)) ∙ marked_drop g k.old h (q - base) even in
      let counted = part_size (marked g (drop (q - base) k.old)) (drop (q - base) k.old) (get_or w q 0) tb.heads_of.types (omega (arith, k.few, suffix_size k.old h (q - base) even)) here.2 refl is in
      is ∙ kept_mark k.old ws k.tree (place - base) h (q - base) even (omega (arith, i.high)) k.long (omega (arith, f.long)) k.same
      (omega (arith, first_even g (drop (q - base) k.old) 1, i.high))))

  pub above_end : p ≡ base → AboveMarked types w₀ w base place top
  above_end e = record { long = i.long; marks = mark_all (λ g ws. Kept g w₀ base place ws) types w₀ w base place top p i up room e }

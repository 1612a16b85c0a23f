-- A tree that is finished: its marks, and what its first word says of its nesting. Assumes nothing.
use Prim.Native.Nat.{ℕ, ◌+◌, ◌-◌, ◌*◌, ◌<◌, ◌≤◌}
use mathlib.Core.Path.{◌≡◌, refl, subst, ap, ◌∙◌}
use mathlib.Core.List.{[], ◌∷◌, ◌++◌}
use native.Mathlib.Omega.{arith}
use lib.ListN.{length, get_or, take, drop}
use lib.Seq.{take_at, drop_at, length-take-le}
use Rattle.std.specs.Prelude.{Result, Ok, Err}
use Rattle.tables.specs.declared.types.Types.{Types}
use Rattle.words.specs.Reader.{Words}
use Rattle.grammar.specs.Grammar.{Grammar}
use Rattle.tree.specs.Tree.{Trees, size, nesting}
use Rattle.tree.proofs.Trees.{trees_even, tree_some}
use Rattle.marks.specs.Marked.{nesting_in, marked}
use Rattle.marks.specs.Post.{TreeMarked}
use Rattle.marks.proofs.Marks.{marked_length}
use Rattle.marks.proofs.Marking.{child_of}
use Rattle.marks.proofs.Spans.{word_there}
use Rattle.marks.proofs.Same.{whole_first}
use Rattle.tree.specs.Limits.{most_nesting}
use Rattle.rewrite.specs.Arena.{Within, Closed}

-- the nesting of a tree that stands at a place
pub nesting_there : {g : Grammar} {t : ℕ} (w ws : Words) (at n : ℕ) → length g ≤ 64 → Trees g (t ∷ []) ws → size ws ≡ n → n ≤ 2048 → take (2 * n) (drop at w) ≡ marked g ws → nesting_in (get_or w at 0) ≡ nesting g ws
nesting_there {g} {t} w ws at n l r s few e =
    let f = whole_first ws r in
    (child_of g t [] ws (get_or w at 0) l (rw f (omega arith)) r (word_there w (marked g ws) at (2 * n) e (omega (arith, tree_some ws r)))).nested ∙ ap (nesting g) f

module _ (types : Types) (w w' : Words) (top n k : ℕ) (room : top + 2 * n ≤ length w) (m : TreeMarked types w w' top (top + 2 * n)) (ek : k ≡ nesting_in (get_or w' top 0)) where
  closed : (r : Result (Unit {0}) ℕ) → Within most_nesting 43 k r → Closed types w w' top n r
  closed r er = record {
    long = m.long;
    closed = λ g u ws tb t s few e.
        let l : length ws ≡ 2 * n = omega (arith, trees_even t) in
        let z : top + 2 * n - top ≡ 2 * n = omega arith in
        let is = m.marks g u ws tb t (omega arith) (rw z e) in
        let front = length-take-le top w (omega arith) in
        let stands : take (2 * n) (drop top w') ≡ marked g ws =
        ap (λ x. take (2 * n) (drop top x)) is ∙ ap (take (2 * n)) (drop_at (take top w) (marked g ws ++ drop (top + 2 * n) w) top front) ∙ take_at (marked g ws) (drop (top + 2 * n) w) (2 * n) (marked_length g ws ∙ l) in (
          ap (take top) is ∙ take_at (take top w) (marked g ws ++ drop (top + 2 * n) w) top front,
          stands,
          subst (λ d. Within most_nesting 43 d r) (ek ∙ nesting_there w' ws top n tb.heads_of.types t s few stands) er,
        );
  }

  pub closed_deep : 64 < k → Closed types w w' top n (Err 43)
  closed_deep h = closed (Err 43) (h, refl)

  pub closed_flat : k ≤ 64 → Closed types w w' top n (Ok tt)
  closed_flat h = closed (Ok tt) h

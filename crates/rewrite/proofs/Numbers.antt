-- Number tokens that stand in work memory: their values read and written. Assumes nothing.
use Prim.Native.Nat.{ℕ, ◌+◌, ◌*◌, ◌<◌, ◌≤◌}
use mathlib.Core.Path.{◌≡◌, refl, sym, ap, ◌∙◌, subst}
use mathlib.Core.Bool.{true}
use mathlib.Core.List.{[], ◌∷◌}
use native.Mathlib.Omega.{arith}
use lib.ListN.{length, get_or, take, drop, set}
use lib.Seq.{get_or-take, get_or-drop, take-set-lt, drop-set-add}
use Rattle.words.specs.Reader.{Words}
use Rattle.grammar.specs.Limits.{greatest_number}
use Rattle.grammar.specs.Grammar.{Grammar}
use Rattle.grammar.specs.Kinds.{is_number}
use Rattle.tree.specs.Tree.{Tree, size, nesting, nesting_from, first, type_of}
use Rattle.tree.proofs.Trees.{tells}
use Rattle.meaning.specs.Operations.{value_of, with_value}
use Rattle.meaning.proofs.Numbers.{NumberToken, number_tree}
use Rattle.marks.specs.Marked.{mark_of, marked, Stands}
use Rattle.rewrite.specs.Arena.{Standing}
use Rattle.rewrite.proofs.Standing.{tree_length, some_nodes}

marked_value : (g : Grammar) (ws : Words) → get_or (marked g ws) 1 0 ≡ value_of ws
unfolding marked value_of
marked_value g [] = refl
marked_value g (t ∷ []) = refl
marked_value g (t ∷ v ∷ ws) = refl

-- the value of a tree that stands at a place is the word after it
pub value_there : {g : Grammar} (w : Words) (s : ℕ) (ws : Words) → Stands g w s ws → get_or w (s + 1) 0 ≡ value_of ws
value_there {g} w s ws x =
    let long : 1 < length ws = omega (arith, some_nodes ws x.tree, tree_length x.tree) in
    sym (get_or-drop s w 1 0) ∙ sym (get_or-take (length ws) (drop s w) 1 0 long) ∙ ap (λ l. get_or l 1 0) x.words ∙ marked_value g ws

-- a number token's mark does not depend on its value
number_written : (g : Grammar) (w : Words) (base n t x u v : ℕ) → is_number g x ≡ true → v ≤ greatest_number → Standing g w base n t (x ∷ u ∷ []) → Standing g (set w (base + 1) v) base n t (x ∷ v ∷ [])
unfolding size marked mark_of first nesting nesting_from
number_written g w base n t x u v e h s = record {
  tree = subst (λ (y : ℕ). Tree g y (x ∷ v ∷ [])) (tells s.tree.typed).0 (number_tree g x v e h);
  nodes = s.nodes;
  words = ap (take (2 * n)) (drop-set-add base w 1 v) ∙ take-set-lt (2 * n) (drop base w) 1 v (omega (arith, s.nodes)) ∙ ap (λ l. set l 1 v) s.words;
}

pub value_written : (g : Grammar) (w : Words) (base n t v : ℕ) (scope : Words) → NumberToken g scope → v ≤ greatest_number → Standing g w base n t scope → Standing g (set w (base + 1) v) base n t (with_value scope v)
unfolding with_value type_of
value_written g w base n t v scope k h s =
    let s' : Standing g w base n t (k.type ∷ k.number ∷ []) = subst (Standing g w base n t) k.is s in
    rw k.is (number_written g w base n t k.type k.number v k.kind h s')

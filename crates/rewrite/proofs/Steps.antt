-- What the first pair of a pattern does, one law a way. Assumes nothing.
use Prim.Native.Nat.{ℕ, ◌+◌, ◌≤◌, ◌<◌}
use mathlib.Core.Path.{◌≡◌, refl}
use mathlib.Core.List.{List, [], ◌∷◌, ◌++◌}
use mathlib.Core.Bool.{Bool, true, false}
use mathlib.Core.Option.{none, some}
use native.Mathlib.Omega.{arith}
use lib.ListN.{length, get_elem?}
use borrow.Author.Tests.{eq-eqb, ne_eqb, le-leb, lt-leb, lt-ltb, le-ltb}
use Rattle.words.specs.Reader.{Words}
use Rattle.grammar.specs.Grammar.{Grammar}
use Rattle.tree.specs.Tree.{size, is_tree, after, first_tree}
use Rattle.rules.specs.Rules.{Shape, node, new, same, shapes}
use Rattle.meaning.specs.declared.State.{State}
use Rattle.meaning.specs.Computation.{ok, stop, stuck, then_of, stop_unless, surely, check, present, choose, live_within}
use Rattle.meaning.specs.Meaning.{Bindings, live, variable, bind, match}

-- THE PAIR

module _ (t v : ℕ) (ps : Words) where
  pub pair_new : t ≡ 64 → shapes (t ∷ v ∷ ps) ≡ new v ∷ shapes ps
  unfolding shapes
  pair_new e = rw (eq-eqb t 64 e)

  pub pair_same : (t ≡ 64 → ⊥) → t ≡ 65 → shapes (t ∷ v ∷ ps) ≡ same v ∷ shapes ps
  unfolding shapes
  pair_same n e = rw (ne_eqb t 64 n, eq-eqb t 65 e)

  pub pair_node : (t ≡ 64 → ⊥) → (t ≡ 65 → ⊥) → shapes (t ∷ v ∷ ps) ≡ node t v ∷ shapes ps
  unfolding shapes
  pair_node n e = rw (ne_eqb t 64 n, ne_eqb t 65 e)

pub no_pair : (ps : Words) → length ps < 2 → shapes ps ≡ []
unfolding shapes
no_pair [] h = refl
no_pair (t ∷ []) h = refl
no_pair (t ∷ v ∷ ps) h = absurd (omega arith)

-- WHAT IT DOES

check_passes : (strict b : Bool) (left : State) → b ≡ true → check strict b left ≡ ok tt left
unfolding check surely
check_passes true b left e = rw e
check_passes false b left e = refl

module _ (strict : Bool) (g : Grammar) (ps : List Shape) (b : Bindings) (left : State) where
  pub match_end : (ws : Words) → match strict g [] ws b left ≡ ok (some b) left
  unfolding match
  match_end ws = refl

  pub match_short : (s : Shape) → match strict g (s ∷ ps) [] b left ≡ ok none left
  unfolding match
  match_short s = refl

  module _ (t v : ℕ) (ws : Words) where
    pub node_type : (u w : ℕ) → (t ≡ u → ⊥) → match strict g (node u w ∷ ps) (t ∷ v ∷ ws) b left ≡ ok none left
    unfolding match choose
    node_type u w h = rw (ne_eqb t u h)

    pub node_value : (u w : ℕ) → t ≡ u → (v ≡ w → ⊥) → match strict g (node u w ∷ ps) (t ∷ v ∷ ws) b left ≡ ok none left
    unfolding match choose
    node_value u w e h = rw (eq-eqb t u e, ne_eqb v w h)

    pub node_both : (u w : ℕ) → t ≡ u → v ≡ w → match strict g (node u w ∷ ps) (t ∷ v ∷ ws) b left ≡ match strict g ps ws b left
    unfolding match choose
    node_both u w e h = rw (eq-eqb t u e, eq-eqb v w h)

    pub new_type : (u : ℕ) → (t ≡ u → ⊥) → match strict g (new u ∷ ps) (t ∷ v ∷ ws) b left ≡ ok none left
    unfolding match choose
    new_type u h = rw (ne_eqb t u h)

    pub new_full : (u : ℕ) → t ≡ u → 6144 < live b + size (first_tree g (t ∷ v ∷ ws)) → match strict g (new u ∷ ps) (t ∷ v ∷ ws) b left ≡ stop 44 left
    unfolding match choose live_within stop_unless then_of
    new_full u e h = rw (eq-eqb t u e, lt-leb (live b + size (first_tree g (t ∷ v ∷ ws))) 6144 h)

    pub new_seventeenth : (u : ℕ) → t ≡ u → live b + size (first_tree g (t ∷ v ∷ ws)) ≤ 6144 → 16 ≤ length b.env → match strict g (new u ∷ ps) (t ∷ v ∷ ws) b left ≡ stuck
    unfolding match choose live_within stop_unless then_of bind surely
    new_seventeenth u e h k = rw (eq-eqb t u e, le-leb (live b + size (first_tree g (t ∷ v ∷ ws))) 6144 h, le-ltb (length b.env) 16 k)

    pub new_bound : (u : ℕ) → t ≡ u → live b + size (first_tree g (t ∷ v ∷ ws)) ≤ 6144 → length b.env < 16 → is_tree g u (first_tree g (t ∷ v ∷ ws)) ≡ true
        → match strict g (new u ∷ ps) (t ∷ v ∷ ws) b left ≡ match strict g ps (after g (t ∷ v ∷ ws) 1) (record { env = b.env ++ first_tree g (t ∷ v ∷ ws) ∷ []; besides = b.besides }) left
    unfolding match choose live_within stop_unless then_of bind surely
    new_bound u e h k i = rw (eq-eqb t u e, le-leb (live b + size (first_tree g (t ∷ v ∷ ws))) 6144 h, lt-ltb (length b.env) 16 k, check_passes strict (is_tree g u (first_tree g (t ∷ v ∷ ws))) left i)

    pub same_unbound : (x : ℕ) → get_elem? b.env x ≡ none → match strict g (same x ∷ ps) (t ∷ v ∷ ws) b left ≡ stuck
    unfolding match variable present then_of
    same_unbound x e = rw e

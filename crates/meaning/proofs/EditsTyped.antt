-- EVERY TREE SO MADE IS WITHIN THE TYPING THAT SLIPS ARE HELD TO: what an operation on sequences gives is a tree of its scope's type. Assumes nothing.
use Prim.Native.Nat.{ℕ, ◌+◌}
use mathlib.Core.Path.{◌≡◌, refl, subst}
use mathlib.Core.List.{List, [], ◌∷◌}
use mathlib.Core.Bool.{Bool, true, false}
use mathlib.Core.Option.{Option, none, some}
use native.Mathlib.Omega.{arith}
use lib.Dec.{leb}
use borrow.Author.Tests.{leb-true}
use Rattle.words.specs.Reader.{Words}
use Rattle.grammar.specs.Grammar.{Grammar}
use Rattle.tree.specs.Limits.{most_nodes, most_nesting}
use Rattle.tree.specs.Tree.{Tree, Trees, size, nesting, are_trees, type_of}
use Rattle.tree.proofs.Trees.{trees_pass}
use Rattle.rules.specs.Rules.{Edit}
use Rattle.meaning.specs.Limits.{most_live}
use Rattle.meaning.specs.declared.State.{State}
use Rattle.meaning.specs.Computation.{ok, then_of, stop_unless, surely, check, present, nodes_within, nesting_within, live_within}
use Rattle.meaning.specs.Edits.{edit_fits, edited, edit}
use Rattle.meaning.specs.Meaning.{apply}
use Rattle.meaning.specs.Sound.{EditsTyped}
use Rattle.meaning.proofs.Edits.{edited_typed}

module _ (g : Grammar) (o : Edit) (args : List Words) (scope : Words) (fits : edit_fits g o scope args ≡ true) (besides under : ℕ) (left next : State) (made : Words) where
  -- the tree u, of the scope's type, has passed the limits and is what the step gives
  step_typed : (strict : Bool) (u : Words) → edited g o scope args ≡ some u → edit strict g o args scope besides under left ≡ ok made next → Tree g (type_of scope) made
  unfolding edit check surely then_of present nodes_within nesting_within live_within stop_unless
  step_typed strict u q e = go strict (leb (under + size u) most_nodes) (leb (nesting g u) most_nesting) (leb (besides + size u) most_live) refl refl refl e
    where
      typed : Trees g (type_of scope ∷ []) u
      typed = edited_typed g scope o args u fits q

      passed : are_trees g u (type_of scope ∷ []) ≡ true
      passed = trees_pass typed

      tree : leb (under + size u) most_nodes ≡ true → leb (nesting g u) most_nesting ≡ true → u ≡ made → Tree g (type_of scope) made
      tree a b same = subst (Tree g (type_of scope)) same (record { typed = typed; nodes = omega (arith, leb-true (under + size u) most_nodes a); nested = leb-true (nesting g u) most_nesting b })

      go : (strict a b c : Bool) → leb (under + size u) most_nodes ≡ a → leb (nesting g u) most_nesting ≡ b → leb (besides + size u) most_live ≡ c
          → edit strict g o args scope besides under left ≡ ok made next → Tree g (type_of scope) made
      go true true true true p n l e = let z = rw (fits, q, p, passed, n, l) at e in tree p n cc
      go false true true true p n l e = let z = rw (q, p, n, l) at e in tree p n cc
      go true true true false p n l e = let z = rw (fits, q, p, passed, n, l) at e in let y : ◌≡◌ {A = ℕ} 0 1 = cc in absurd (omega arith)
      go false true true false p n l e = let z = rw (q, p, n, l) at e in let y : ◌≡◌ {A = ℕ} 0 1 = cc in absurd (omega arith)
      go true true false c p n l e = let z = rw (fits, q, p, passed, n) at e in let y : ◌≡◌ {A = ℕ} 0 1 = cc in absurd (omega arith)
      go false true false c p n l e = let z = rw (q, p, n) at e in let y : ◌≡◌ {A = ℕ} 0 1 = cc in absurd (omega arith)
      go true false b c p n l e = let z = rw (fits, q, p) at e in let y : ◌≡◌ {A = ℕ} 0 1 = cc in absurd (omega arith)
      go false false b c p n l e = let z = rw (q, p) at e in let y : ◌≡◌ {A = ℕ} 0 1 = cc in absurd (omega arith)

  -- the operation made something
  made_typed : (strict : Bool) (m : Option Words) → edited g o scope args ≡ m → edit strict g o args scope besides under left ≡ ok made next → Tree g (type_of scope) made
  unfolding edit check surely then_of present
  made_typed strict (some u) q e = step_typed strict u q e
  made_typed true none q e = let z = rw (fits, q) at e in let y : ◌≡◌ {A = ℕ} 0 1 = cc in absurd (omega arith)
  made_typed false none q e = let z = rw q at e in let y : ◌≡◌ {A = ℕ} 0 1 = cc in absurd (omega arith)

pub edits_typed : EditsTyped
unfolding apply
edits_typed strict g rules deeper o args scope fits besides under left next made e = made_typed g o args scope fits besides under left next made strict (edited g o scope args) refl e

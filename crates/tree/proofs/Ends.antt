-- Where a tree ends: a loop that counts the trees still owed. Assumes nothing.
use Prim.Native.Nat.{ℕ, ◌+◌, ◌*◌, ◌-◌, ◌≤◌, ◌<◌}
use mathlib.Core.Path.{◌≡◌, refl, sym, ap, ◌∙◌}
use mathlib.Core.List.{[], ◌∷◌}
use mathlib.Core.Bool.{Bool, true, false}
use native.Mathlib.Omega.{arith}
use lib.ListN.{length, get_or, drop, length-drop}
use lib.Dec.{ltb}
use borrow.Author.Tests.{ltb-true, ltb-false}
use Rattle.words.specs.Reader.{Words}
use Rattle.grammar.specs.Grammar.{Grammar}
use Rattle.tables.specs.Types.{OfRows, Counted}
use Rattle.tables.specs.declared.types.Types.{Types}
use Rattle.tree.specs.Tree.{first}
use Rattle.tree.specs.Owed as O
use Rattle.tree.specs.Views.{Ends}
use Rattle.tree.proofs.Trees.{first_none}
use Rattle.tree.proofs.Owed.{owed_next, first_owed}

first_short : (g : Grammar) (ws : Words) (n : ℕ) → length ws < 2 → first g ws n ≡ []
unfolding first
first_short g [] n h = refl
first_short g (t ∷ []) n h = refl
first_short g (t ∷ v ∷ ws) n h = absurd (omega arith)

-- so many trees are owed at the position, after the nodes before it, and some were before each of these
pub record Owed (types : Types) (ws : Words) (owed at : ℕ) : Type 0 where
  pub within : at ≤ length ws
  pub few : owed ≤ 255 * at + 1
  pub nodes : ℕ
  pub twice : at ≡ 2 * nodes
  pub count : OfRows types (λ g. O.owed g ws nodes 1 ≡ owed)
  pub some : OfRows types (λ g. (i : ℕ) → i < nodes → 0 < O.owed g ws i 1)

pub owed_start : {types : Types} {ws : Words} → Owed types ws 1 0
unfolding O.owed
owed_start {types} {ws} = record { within = omega arith; few = omega arith; nodes = 0; twice = refl; count = λ g h. refl; some = λ g h i l. absurd (omega arith) }

module _ {types : Types} {ws : Words} {owed at : ℕ} (o : Owed types ws owed at) where
  pub owed_more : 0 < owed → at + 1 < length ws → {c : ℕ} → Counted types (get_or ws at 0) (get_or ws (at + 1) 0) c → Owed types ws (c + (owed - 1)) (at + 2)
  owed_more more two {c} counted = record {
    within = omega (arith, o.within);
    few = omega (arith, o.few, counted.small);
    nodes = o.nodes + 1;
    twice = omega (arith, o.twice);
    count = count;
    some = some;
  }
    where
      count : OfRows types (λ g. O.owed g ws (o.nodes + 1) 1 ≡ c + (owed - 1))
      count g h =
          let n = rw (sym o.twice) at (owed_next g ws o.nodes 1 (omega (arith, o.twice))) in
          omega (arith, n, counted.count g h, o.count g h)

      some : OfRows types (λ g. (i : ℕ) → i < o.nodes + 1 → 0 < O.owed g ws i 1)
      some g h i l = go (ltb i o.nodes) refl
        where
          go : (b : Bool) → ltb i o.nodes ≡ b → 0 < O.owed g ws i 1
          go true e = o.some g h i (ltb-true i o.nodes e)
          go false e =
              let last : i ≡ o.nodes = omega (arith, ltb-false i o.nodes e) in
              rw last (omega (arith, o.count g h))

  -- the words are the first tree as far as the loop has passed them, and then the rest of it
  rest : OfRows types (λ g. length (first g ws 1) ≡ at + length (first g (drop at ws) owed))
  rest g h = rw (sym o.twice, o.count g h) at (first_owed g ws o.nodes 1 (omega (arith, o.within, o.twice)) (o.some g h))

  pub owed_short : length ws ≤ at + 1 → Ends types ws at
  owed_short h = record {
    within = o.within;
    end = λ g x. let z : length (first g (drop at ws) owed) ≡ 0 = ap length (first_short g (drop at ws) owed (simp length-drop (omega arith))) in omega (arith, rest g x);
  }

  pub owed_none : owed ≤ 0 → Ends types ws at
  owed_none h = record {
    within = o.within;
    end = λ g x.
        let n : owed ≡ 0 = omega arith in
        let z : length (first g (drop at ws) owed) ≡ 0 = ap (λ (m : ℕ). length (first g (drop at ws) m)) n ∙ ap length (first_none g (drop at ws)) in
        omega (arith, rest g x);
  }

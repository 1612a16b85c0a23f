-- A result that is finished: 42 to 44 in their order, and where it stands. Assumes nothing.
use Rattle.tables.specs.declared.types.Types.{Types}
use Rattle.std.specs.Prelude.{Result, Ok, Err}
use Prim.Native.Nat.{ℕ, ◌+◌, ◌≤◌, ◌<◌}
use mathlib.Core.Path.{ap, ◌≡◌, sym, ◌∙◌}
use native.Mathlib.Omega.{arith}
use lib.ListN.{take}
use borrow.Author.Tests.{le-leb, lt-leb}
use Rattle.words.specs.Reader.{Words}
use Rattle.grammar.specs.Grammar.{Grammar}
use Rattle.tree.specs.Limits.{most_nodes, most_nesting}
use Rattle.tree.specs.Tree.{size, nesting}
use Rattle.meaning.specs.Limits.{most_live}
use Rattle.rewrite.specs.Arena.{Within, Closed}
use Rattle.sequences.specs.Listed.{limits, Made, Seals}

-- THE LIMITS IN THEIR ORDER

module _ (g : Grammar) (under besides : ℕ) (u : Words) where
  pub limits_many : most_nodes < under + size u → limits g under besides u ≡ Err 42
  unfolding limits
  limits_many h = rw (lt-leb (under + size u) most_nodes h)

  pub limits_deep : under + size u ≤ most_nodes → most_nesting < nesting g u → limits g under besides u ≡ Err 43
  unfolding limits
  limits_deep h d = rw (le-leb (under + size u) most_nodes h, lt-leb (nesting g u) most_nesting d)

  pub limits_live : under + size u ≤ most_nodes → nesting g u ≤ most_nesting → most_live < besides + size u → limits g under besides u ≡ Err 44
  unfolding limits
  limits_live h d l = rw (le-leb (under + size u) most_nodes h, le-leb (nesting g u) most_nesting d, lt-leb (besides + size u) most_live l)

  pub limits_none : under + size u ≤ most_nodes → nesting g u ≤ most_nesting → besides + size u ≤ most_live → limits g under besides u ≡ Ok tt
  unfolding limits
  limits_none h d l = rw (le-leb (under + size u) most_nodes h, le-leb (nesting g u) most_nesting d, le-leb (besides + size u) most_live l)

-- AN ANSWER

pub ok_is : {a b : ℕ} → ◌≡◌ {A = Result ℕ ℕ} (Ok a) (Ok b) → a ≡ b
ok_is e = cc

pub no_ok : {a b : ℕ} → ◌≡◌ {A = Result ℕ ℕ} (Err a) (Ok b) → ⊥
no_ok e = cc

-- a stop before anything is written
pub made_stopped : {g : Grammar} {w w' : Words} {base under besides t k : ℕ} {u : Words} → take base w' ≡ take base w → limits g under besides u ≡ Err k → Made g w w' base under besides t u (Err k)
made_stopped b e = record { below = b; made = e }

-- FINISHED

module _ (types : Types) (w w' : Words) (base n besides : ℕ) (deep : Result (Unit {0}) ℕ) (c : Closed types w w' base n deep) (few : n ≤ most_nodes) (held : besides ≤ most_live) where
  pub sealed_deep : {k : ℕ} → deep ≡ Err k → Seals types w w' base n besides (Err k)
  sealed_deep {k} e = record {
    long = c.long;
    few = λ z. absurd (no_ok z);
    fits = λ z. absurd (no_ok z);
    meant = λ g t under u tb x s room way.
        let y = c.closed g t u tb x s few way in
        let d : Within most_nesting 43 (nesting g u) (Err k) = rw e at y.2 in
        made_stopped y.0 (limits_deep g under besides u (omega arith) d.0 ∙ ap Err (sym d.1));
  }

  pub sealed_over : {v : Unit {0}} → deep ≡ Ok v → {k : ℕ} → (most_live < besides + n) × (k ≡ 44) → Seals types w w' base n besides (Err k)
  sealed_over e l = record {
    long = c.long;
    few = λ z. absurd (no_ok z);
    fits = λ z. absurd (no_ok z);
    meant = λ g t under u tb x s room way.
        let y = c.closed g t u tb x s few way in
        let d : nesting g u ≤ most_nesting = rw e at y.2 in
        made_stopped y.0 (limits_live g under besides u (omega arith) d (omega arith) ∙ ap Err (sym l.1));
  }

  pub sealed_there : {v : Unit {0}} → deep ≡ Ok v → besides + n ≤ most_live → Seals types w w' base n besides (Ok n)
  sealed_there e l = record {
    long = c.long;
    few = λ z. omega (arith, ok_is z);
    fits = λ z. omega (arith, ok_is z);
    meant = λ g t under u tb x s room way.
        let y = c.closed g t u tb x s few way in
        let d : nesting g u ≤ most_nesting = rw e at y.2 in
        record {
          below = y.0;
          made = (limits_none g under besides u (omega arith) d (omega arith), record { tree = record { typed = x; nodes = omega arith; nested = d }; nodes = s; words = y.1 });
        };
  }

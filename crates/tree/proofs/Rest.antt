-- Laws of what is left of a tree from one of its nodes on. Assumes nothing.
use Prim.Native.Nat.{ℕ, zero, suc, ◌*◌, ◌≤◌, max}
use mathlib.Core.Path.{◌≡◌, refl}
use mathlib.Core.List.{List, [], ◌∷◌, ◌++◌}
use native.Mathlib.Omega.{arith}
use lib.ListN.{length, drop}
use Rattle.words.specs.Reader.{Words}
use Rattle.grammar.specs.Grammar.{Grammar}
use Rattle.grammar.specs.Kinds.{children}
use Rattle.tree.specs.Limits.{most_nodes, most_nesting}
use Rattle.tree.specs.Tree.{Trees, Tree, size, levels, nesting_from, nesting, first, after, first_tree}
use Rattle.tree.specs.Rest.{Positive, Rest}
use Rattle.tree.proofs.Trees.{tells, first_after, first_even, size_append, split, more_length, nesting_rise, nesting_append, more_positive}

-- a tree is such a rest
pub tree_rest : {g : Grammar} {t : ℕ} {ws : Words} → Tree g t ws → Rest g (t ∷ []) ws
unfolding nesting
tree_rest x = record { typed = x.typed; ks = 1 ∷ []; each = refl; positive = (omega arith, tt); nested = x.nested; nodes = x.nodes }

-- one node on
rest_step : {g : Grammar} {t w v : ℕ} {ts : List ℕ} {ws : Words} (ks : List ℕ) → Trees g (t ∷ ts) (w ∷ v ∷ ws) → length ks ≡ suc (length ts) → Positive ks
    → nesting_from g (w ∷ v ∷ ws) ks ≤ most_nesting → size (w ∷ v ∷ ws) ≤ most_nodes → Rest g (children g t v ++ ts) ws
unfolding nesting_from size
rest_step [] r e p n s = absurd (omega arith)
rest_step {g} {t} {w} {v} {ts} {ws} (k ∷ ks) r e p n s =
    let x = tells r in
    let n' : max k (nesting_from g ws (levels g t v k ++ ks)) ≤ most_nesting = rw x.0 at n in
    record {
      typed = x.2;
      ks = levels g t v k ++ ks;
      each = more_length g t v k ks ts (omega arith);
      positive = more_positive g t v k ks p.0 p.1;
      nested = omega arith;
      nodes = omega arith;
    }

pub rest_node : {g : Grammar} {t w v : ℕ} {ts : List ℕ} {ws : Words} → Rest g (t ∷ ts) (w ∷ v ∷ ws) → Rest g (children g t v ++ ts) ws
rest_node x = rest_step x.ks x.typed x.each x.positive x.nested x.nodes

-- from the node i on
pub rest_at : {g : Grammar} (i : ℕ) (ts : List ℕ) (ws : Words) → Rest g ts ws → i ≤ size ws → (us : List ℕ) × Rest g us (drop (2 * i) ws)
unfolding size
rest_at zero ts ws x h = (ts, x)
rest_at (suc i) ts [] x h = absurd (omega arith)
rest_at (suc i) ts (w ∷ []) x h = absurd (omega arith)
rest_at (suc i) [] (w ∷ v ∷ ws) x h = absurd (tells x.typed)
rest_at {g} (suc i) (t ∷ ts) (w ∷ v ∷ ws) x h = let z : 2 * suc i ≡ suc (suc (2 * i)) = omega arith in rw z (rest_at i (children g t v ++ ts) ws (rest_node x) (omega arith))

-- one tree on
pub record Onward (g : Grammar) (t : ℕ) (ts : List ℕ) (ws : Words) : Type 0 where
  pub tree : Tree g t (first_tree g ws)
  pub rest : Rest g ts (after g ws 1)

rest_on : {g : Grammar} {t : ℕ} {ts : List ℕ} {ws : Words} (ks : List ℕ) → Trees g (t ∷ ts) ws → length ks ≡ suc (length ts) → Positive ks
    → nesting_from g ws ks ≤ most_nesting → size ws ≤ most_nodes → Onward g t ts ws
unfolding nesting
rest_on [] r e p n s = absurd (omega arith)
rest_on {g} {t} {ts} {ws} (k ∷ ks) r e p n s =
    let x = split ws (t ∷ []) ts r in
    let u = first g ws 1 in
    let b = after g ws 1 in
    let n₁ : nesting_from g (u ++ b) (k ∷ ks) ≤ most_nesting = rw (first_after g ws 1) n in
    let n₂ = nesting_append x.front b (k ∷ []) ks refl in
    let n₃ = nesting_rise g u 1 k p.0 in
    let s₁ : size (u ++ b) ≤ most_nodes = rw (first_after g ws 1) s in
    let s₂ = size_append u b (first_even g ws 1) in
    record {
      tree = record { typed = x.front; nodes = omega arith; nested = omega arith };
      rest = record { typed = x.back; ks = ks; each = omega arith; positive = p.1; nested = omega arith; nodes = omega arith };
    }

pub onward : {g : Grammar} {t : ℕ} {ts : List ℕ} {ws : Words} → Rest g (t ∷ ts) ws → Onward g t ts ws
onward x = rest_on x.ks x.typed x.each x.positive x.nested x.nodes

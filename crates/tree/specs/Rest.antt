-- What is left of a tree from one of its nodes on: trees of the types that are due, within the tree's limits. Assumes nothing: these are definitions.
use Rattle.std.specs.Prelude.{ℕ, ◌≤◌, ◌≡◌, List, [], ◌∷◌, length}
use Rattle.words.specs.Reader.{Words}
use Rattle.grammar.specs.Grammar.{Grammar}
use Rattle.tree.specs.Limits.{most_nodes, most_nesting}
use Rattle.tree.specs.Tree.{Trees, size, nesting_from}

-- each nesting is at least 1
abbrev pub Positive : List ℕ → Type 0
Positive [] = Unit {0}
Positive (k ∷ ks) = (1 ≤ k) × Positive ks

-- trees of the types, each at some nesting
pub record Rest (g : Grammar) (ts : List ℕ) (ws : Words) : Type 0 where
  pub typed : Trees g ts ws
  pub ks : List ℕ
  pub each : length ks ≡ length ts
  pub positive : Positive ks
  pub nested : nesting_from g ws ks ≤ most_nesting
  pub nodes : size ws ≤ most_nodes

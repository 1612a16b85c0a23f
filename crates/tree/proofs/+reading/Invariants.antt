-- `node`, `sequence` and `children`, which call each other, meet their contracts. The measure is the nesting left, spread by a factor of three for the order
-- of the calls at one level. Both loops are walks: the whole reading is that of what is still due. Assumes nothing.
use Rattle.tree.proofs.Reading.{Walk}
use Rattle.tree.specs.Views.{nesting_at, level}
use Rattle.tree.specs.Reading.{tree, read_trees}
use Rattle.grammar.specs.Kinds as Kinds
use lib.ListN.{length, drop}
use mathlib.Core.List.{[], ◌∷◌}
use Prim.Native.Nat.{◌+◌, ◌*◌, ◌-◌}
use Rattle.tree.proofs.+reading.Given as goal

abbrev pub decreases-children : goal.decreases-children
decreases-children l = 3 * l.left + 3

abbrev pub decreases-node : goal.decreases-node
decreases-node l = 3 * l.left + 2

abbrev pub decreases-sequence : goal.decreases-sequence
decreases-sequence l = 3 * l.left + 1

abbrev pub invariant-children-loop-i : goal.invariant-children-loop-i
invariant-children-loop-i l = Walk l.types l.s l.start
    (λ g. read_trees g l.s (level (nesting_at l.left) (Kinds.children g l.t l.v)) l.start)
    (λ g. level (nesting_at l.left) (drop l.i (Kinds.children g l.t l.v))) l.at

abbrev pub invariant-sequence-loop-v : goal.invariant-sequence-loop-v
invariant-sequence-loop-v l = Walk l.types l.s l.start
    (λ g. read_trees g l.s (tree (nesting_at l.left) l.d ∷ []) l.start)
    (λ g. tree (nesting_at l.left) l.d ∷ []) l.at

abbrev pub decreases-sequence-loop-v : goal.decreases-sequence-loop-v
decreases-sequence-loop-v l = l.start + length l.s - l.at

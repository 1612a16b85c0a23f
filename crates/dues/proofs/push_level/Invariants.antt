-- The i first children are still to be pushed. Assumes nothing.
use Rattle.tables.specs.Tables.{Rows}
use Rattle.grammar.specs.Grammar.{Grammar}
use Rattle.grammar.specs.Kinds.{children}
use Rattle.dues.specs.Views.{children_due}
use lib.ListN.{length, drop}
use mathlib.Core.List.{◌++◌}
use mathlib.Core.Path.{◌≡◌}
use Prim.Native.Nat.{◌+◌, ◌≤◌}
use Rattle.dues.proofs.push_level.Given as goal

abbrev pub invariant-loop-i : goal.invariant-loop-i
invariant-loop-i l = record {
  few : l.count ≤ 255;
  left : l.i ≤ l.count;
  height : length l.stack + l.i ≡ length l.initial.stack + l.count;
  pushed : (g : Grammar) → Rows g l.types.types.rows → (l.count ≡ length (children g l.t l.v)) × (l.stack ≡ drop l.i (children_due l.nesting (children g l.t l.v)) ++ l.initial.stack);
}

-- The i first arguments are still to be pushed. Assumes nothing.
use Rattle.dues.specs.Views.{parameters_due}
use lib.ListN.{length, drop}
use mathlib.Core.List.{◌++◌}
use mathlib.Core.Path.{◌≡◌}
use Prim.Native.Nat.{◌+◌, ◌≤◌}
use Rattle.dues.proofs.push_arguments.Given as goal

abbrev pub invariant-loop-i : goal.invariant-loop-i
invariant-loop-i l = record {
  left : l.i ≤ l.k;
  height : length l.stack + l.i ≡ length l.initial.stack + l.k;
  pushed : l.stack ≡ drop l.i (parameters_due l.ws l.first l.k) ++ l.initial.stack;
}

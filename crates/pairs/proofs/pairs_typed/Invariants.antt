-- `pairs::pairs_typed` meets its contract. The loop's invariant: the whole reading is that of the pairs left, from where the loop stands, against what the stack has due. Assumes nothing.
use Prim.Native.Nat.{◌+◌, ◌-◌, ◌*◌, ◌≤◌}
use lib.ListN.{length}
use mathlib.Core.List.{[], ◌∷◌}
use mathlib.Core.Path.{◌≡◌}
use Rattle.judgement.specs.Typing.{meets}
use Rattle.tree.specs.Dues.{whole}
use Rattle.dues.specs.Due.{due_as}
use Rattle.dues.specs.Views.{place_as}
use Rattle.pairs.specs.Views.{OfBook}
use Rattle.pairs.proofs.Loop.{rest}
use Rattle.pairs.proofs.pairs_typed.Given as goal

abbrev pub invariant-loop-due : goal.invariant-loop-due
invariant-loop-due l = record {
  low : 2 * length l.stack + 7 * (length l.ps - l.i) ≤ 1794;
  within : l.i ≤ length l.ps;
  few : length l.known ≤ 16;
  same : OfBook l.book (λ g rules. whole (meets g rules (place_as l.here)) 23 l.ps (due_as l.fn.first ∷ []) l.variables l.start ≡ rest (meets g rules (place_as l.here)) l.ps l.start l.i l.stack l.known);
}

abbrev pub decreases-loop-due : goal.decreases-loop-due
decreases-loop-due l = length l.ps - l.i

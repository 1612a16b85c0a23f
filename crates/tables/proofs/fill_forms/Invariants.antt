-- `tables::fill_forms` meets its contract. Assumes nothing.
use Prim.Native.Nat.{ℕ, ◌+◌}
use mathlib.Core.Path.{◌≡◌}
use Rattle.tables.proofs.Filling.{FormsLoop}
use Rattle.tables.proofs.fill_forms.Given as goal

abbrev pub invariant-loop-v : goal.invariant-loop-v
invariant-loop-v l = (left : ℕ) × (l.v + left ≡ l.k) × FormsLoop l.ws l.t l.k l.start l.initial.rows l.rows left l.v l.at

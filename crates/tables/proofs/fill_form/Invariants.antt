-- `tables::fill_form` meets its contract. Assumes nothing.
use Prim.Native.Nat.{ℕ, ◌+◌}
use mathlib.Core.Path.{◌≡◌}
use Rattle.tables.proofs.Filling.{FormLoop}
use Rattle.tables.proofs.fill_form.Given as goal

abbrev pub invariant-loop : goal.invariant-loop
invariant-loop l = (left : ℕ) × (l.counter + left ≡ l.count) × FormLoop l.ws l.at l.base l.initial.rows l.rows left l.p l.m

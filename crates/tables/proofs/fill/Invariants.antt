-- `tables::fill` meets its contract. Assumes nothing.
use Prim.Native.Nat.{ℕ, ◌+◌}
use mathlib.Core.Path.{◌≡◌}
use Rattle.tables.proofs.Filling.{FillLoop}
use Rattle.tables.specs.Tables.{read_of}
use Rattle.grammar.specs.Grammar.{read_grammar}
use Rattle.tables.proofs.fill.Given as goal

abbrev pub invariant-loop-t : goal.invariant-loop-t
invariant-loop-t l = (left : ℕ) × (l.t + left ≡ l.count) × FillLoop l.ws (read_of (read_grammar l.ws)) l.initial.heads l.initial.rows l.heads l.rows left l.t l.at

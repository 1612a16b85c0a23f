-- ROUND NEVER STOPS: the most a number may be is a whole number, so no number is rounded past it. Assumes nothing.
use Prim.Native.Nat.{ℕ, ◌/◌, ◌≤◌}
use mathlib.Core.Path.{◌≡◌}
use mathlib.Core.List.{[]}
use mathlib.Core.Bool.{true, false}
use native.Mathlib.Omega.{arith}
use borrow.Author.Tests.{le-leb}
use Rattle.grammar.specs.Limits.{greatest_number}
use Rattle.rules.specs.Rules.{round}
use Rattle.meaning.specs.declared.State.{State}
use Rattle.meaning.specs.Computation.{ok, then_of, stop_unless, surely, check}
use Rattle.meaning.specs.Operations.{rounded, in_range, with_none, compute, value_of, values_of, are_number_tokens}
use Rattle.meaning.specs.Meaning.{apply}
use Rattle.meaning.specs.Sound.{RoundNeverStops}
use Rattle.meaning.proofs.Matching.{is_number_token_true}
use Rattle.meaning.proofs.Numbers.{value_within}
use Rattle.meaning.proofs.Rounding.{half_even_within}

rounded_within : (a : ℕ) → a ≤ greatest_number → rounded a ≤ greatest_number
unfolding rounded
rounded_within a h = omega (arith, half_even_within a 100 (omega arith) (greatest_number / 100) (omega arith))

-- the operation itself
pub round_computes : (a : ℕ) (left : State) → a ≤ greatest_number → compute round a [] left ≡ ok (rounded a) left
unfolding compute with_none in_range then_of stop_unless
round_computes a left h = rw (le-leb (rounded a) greatest_number (rounded_within a h))

pub round_never_stops : RoundNeverStops
unfolding apply are_number_tokens values_of then_of check surely
round_never_stops true g rules deeper t number scope x besides under left = rw (is_number_token_true scope number x, round_computes (value_of scope) left (value_within scope number x.typed))
round_never_stops false g rules deeper t number scope x besides under left = rw (round_computes (value_of scope) left (value_within scope number x.typed))

-- The operations on numbers. Assumes nothing.
use Prim.Native.Nat.{ℕ, ◌+◌, ◌-◌, ◌*◌, ◌/◌, ◌%◌, ◌<◌, ◌≤◌}
use mathlib.Core.Path.{◌≡◌, refl}
use mathlib.Core.Bool.{Bool, true, false}
use native.Mathlib.Omega.{arith}
use native.Mathlib.Nat.{div-add-mod'}
use lib.Dec.{ltb, leb, eqb}
use borrow.Author.Tests.{le-leb, lt-leb, eq-eqb, ne_eqb}
use Rattle.words.specs.Reader.{pick}
use Rattle.grammar.specs.Limits.{greatest_number}
use Rattle.rules.specs.Rules.{add, subtract, quotient, remainder, round, truncate, equal, greater}
use Rattle.rules.proofs.Numbers.{number_of, operation_number}
use Rattle.meaning.specs.declared.State.{State}
use Rattle.meaning.specs.Computation.{ok, then_of, stop_unless}
use Rattle.meaning.specs.Rounding.{half_even}
use Rattle.meaning.specs.Operations.{rounded, truncated, in_range, divisor, with_one, with_none, compute, compare}
use Rattle.std.specs.Prelude.{Option, Some, None, SomeIff, Ok, Err}
use Rattle.operations.specs.Operating.{in_range_as, MeansNumber, Operated, Compared}

-- IN RANGE

pub range_over : (n : ℕ) → greatest_number < n → Err 45 ≡ in_range_as (Some n)
range_over n h = rw (lt-leb n greatest_number h)

pub range_in : (n : ℕ) → n ≤ greatest_number → Ok n ≡ in_range_as (Some n)
range_in n h = rw (le-leb n greatest_number h)

range_means : (n : ℕ) (left : State) → MeansNumber (in_range_as (Some n)) left (in_range n left)
unfolding in_range then_of stop_unless
range_means n left = go (leb n greatest_number)
  where
    go : (b : Bool) → MeansNumber (pick b (Ok n) (Err 45)) left (then_of (stop_unless 45 b left) (λ u l. ok n l))
    go true = refl
    go false = refl

-- what the whole quotient leaves
rest : (a b : ℕ) → a % b ≡ a - b * (a / b)
rest a b = omega (arith, div-add-mod' a b)

-- THE OPERATIONS, one law a way
module _ (op a b : ℕ) where
  pub adds : op ≡ 1000 → Operated op a b (in_range_as (Some (a + b)))
  unfolding compute with_one number_of
  adds h add left k ns = range_means (a + b) left
  adds h subtract left k ns = absurd (omega (arith, operation_number op subtract k))
  adds h quotient left k ns = absurd (omega (arith, operation_number op quotient k))
  adds h remainder left k ns = absurd (omega (arith, operation_number op remainder k))
  adds h round left k ns = absurd (omega (arith, operation_number op round k))
  adds h truncate left k ns = absurd (omega (arith, operation_number op truncate k))
  adds h equal left k ns = absurd (omega (arith, operation_number op equal k))
  adds h greater left k ns = absurd (omega (arith, operation_number op greater k))

  pub rounds : op ≡ 1004 → (w : ℕ) → w ≡ half_even a 100 → Operated op a b (in_range_as (Some (w * 100)))
  unfolding compute with_none number_of rounded
  rounds h w e add left k ns = absurd (omega (arith, operation_number op add k))
  rounds h w e subtract left k ns = absurd (omega (arith, operation_number op subtract k))
  rounds h w e quotient left k ns = absurd (omega (arith, operation_number op quotient k))
  rounds h w e remainder left k ns = absurd (omega (arith, operation_number op remainder k))
  rounds h w e round left k ns = rw e (range_means (half_even a 100 * 100) left)
  rounds h w e truncate left k ns = absurd (omega (arith, operation_number op truncate k))
  rounds h w e equal left k ns = absurd (omega (arith, operation_number op equal k))
  rounds h w e greater left k ns = absurd (omega (arith, operation_number op greater k))

  pub truncates : op ≡ 1005 → Operated op a b (in_range_as (Some (a / 100 * 100)))
  unfolding compute with_none number_of truncated
  truncates h add left k ns = absurd (omega (arith, operation_number op add k))
  truncates h subtract left k ns = absurd (omega (arith, operation_number op subtract k))
  truncates h quotient left k ns = absurd (omega (arith, operation_number op quotient k))
  truncates h remainder left k ns = absurd (omega (arith, operation_number op remainder k))
  truncates h round left k ns = absurd (omega (arith, operation_number op round k))
  truncates h truncate left k ns = range_means (a / 100 * 100) left
  truncates h equal left k ns = absurd (omega (arith, operation_number op equal k))
  truncates h greater left k ns = absurd (omega (arith, operation_number op greater k))

  pub subtracts : op ≡ 1001 → (r : Option ℕ) → SomeIff r (b ≤ a) (a - b) → Operated op a b (in_range_as r)
  unfolding compute with_one number_of then_of stop_unless
  subtracts h None s add left k ns = absurd (omega (arith, operation_number op add k))
  subtracts h None s subtract left k ns = rw (lt-leb b a (omega (arith, s)))
  subtracts h None s quotient left k ns = absurd (omega (arith, operation_number op quotient k))
  subtracts h None s remainder left k ns = absurd (omega (arith, operation_number op remainder k))
  subtracts h None s round left k ns = absurd (omega (arith, operation_number op round k))
  subtracts h None s truncate left k ns = absurd (omega (arith, operation_number op truncate k))
  subtracts h None s equal left k ns = absurd (omega (arith, operation_number op equal k))
  subtracts h None s greater left k ns = absurd (omega (arith, operation_number op greater k))
  subtracts h (Some n) s add left k ns = absurd (omega (arith, operation_number op add k))
  subtracts h (Some n) s subtract left k ns = rw (s.1, le-leb b a s.0) (range_means (a - b) left)
  subtracts h (Some n) s quotient left k ns = absurd (omega (arith, operation_number op quotient k))
  subtracts h (Some n) s remainder left k ns = absurd (omega (arith, operation_number op remainder k))
  subtracts h (Some n) s round left k ns = absurd (omega (arith, operation_number op round k))
  subtracts h (Some n) s truncate left k ns = absurd (omega (arith, operation_number op truncate k))
  subtracts h (Some n) s equal left k ns = absurd (omega (arith, operation_number op equal k))
  subtracts h (Some n) s greater left k ns = absurd (omega (arith, operation_number op greater k))

  pub divides_by_zero : op ≡ 1002 → (0 < b → ⊥) → Operated op a b (in_range_as None)
  unfolding compute with_one number_of then_of stop_unless divisor
  divides_by_zero h s add left k ns = absurd (omega (arith, operation_number op add k))
  divides_by_zero h s subtract left k ns = absurd (omega (arith, operation_number op subtract k))
  divides_by_zero h s quotient left k ns = rw (eq-eqb b 0 (omega (arith, s)))
  divides_by_zero h s remainder left k ns = absurd (omega (arith, operation_number op remainder k))
  divides_by_zero h s round left k ns = absurd (omega (arith, operation_number op round k))
  divides_by_zero h s truncate left k ns = absurd (omega (arith, operation_number op truncate k))
  divides_by_zero h s equal left k ns = absurd (omega (arith, operation_number op equal k))
  divides_by_zero h s greater left k ns = absurd (omega (arith, operation_number op greater k))

  pub divides : op ≡ 1002 → (w : ℕ) → (0 < b) × (w ≡ a / b) → Operated op a b (in_range_as (Some (w * 100)))
  unfolding compute with_one number_of then_of stop_unless divisor
  divides h w s add left k ns = absurd (omega (arith, operation_number op add k))
  divides h w s subtract left k ns = absurd (omega (arith, operation_number op subtract k))
  divides h w s quotient left k ns = rw (s.1, ne_eqb b 0 (λ e. omega (arith, s.0))) (range_means (a / b * 100) left)
  divides h w s remainder left k ns = absurd (omega (arith, operation_number op remainder k))
  divides h w s round left k ns = absurd (omega (arith, operation_number op round k))
  divides h w s truncate left k ns = absurd (omega (arith, operation_number op truncate k))
  divides h w s equal left k ns = absurd (omega (arith, operation_number op equal k))
  divides h w s greater left k ns = absurd (omega (arith, operation_number op greater k))

  pub remains : (op ≡ 1000 → ⊥) → (op ≡ 1001 → ⊥) → (op ≡ 1002 → ⊥) → (op ≡ 1004 → ⊥) → (op ≡ 1005 → ⊥) → (r : Option ℕ) → SomeIff r (0 < b) (a % b) → Operated op a b (in_range_as r)
  unfolding compute with_one number_of then_of stop_unless divisor
  remains not_add not_subtract not_quotient not_round not_truncate None s add left k ns = absurd (not_add (operation_number op add k))
  remains not_add not_subtract not_quotient not_round not_truncate None s subtract left k ns = absurd (not_subtract (operation_number op subtract k))
  remains not_add not_subtract not_quotient not_round not_truncate None s quotient left k ns = absurd (not_quotient (operation_number op quotient k))
  remains not_add not_subtract not_quotient not_round not_truncate None s remainder left k ns = rw (eq-eqb b 0 (omega (arith, s)))
  remains not_add not_subtract not_quotient not_round not_truncate None s round left k ns = absurd (not_round (operation_number op round k))
  remains not_add not_subtract not_quotient not_round not_truncate None s truncate left k ns = absurd (not_truncate (operation_number op truncate k))
  remains not_add not_subtract not_quotient not_round not_truncate None s equal left k ns = absurd (ns refl)
  remains not_add not_subtract not_quotient not_round not_truncate None s greater left k ns = absurd (ns refl)
  remains not_add not_subtract not_quotient not_round not_truncate (Some n) s add left k ns = absurd (not_add (operation_number op add k))
  remains not_add not_subtract not_quotient not_round not_truncate (Some n) s subtract left k ns = absurd (not_subtract (operation_number op subtract k))
  remains not_add not_subtract not_quotient not_round not_truncate (Some n) s quotient left k ns = absurd (not_quotient (operation_number op quotient k))
  remains not_add not_subtract not_quotient not_round not_truncate (Some n) s remainder left k ns = rw (s.1, ne_eqb b 0 (λ e. omega (arith, s.0)), rest a b) (range_means (a - b * (a / b)) left)
  remains not_add not_subtract not_quotient not_round not_truncate (Some n) s round left k ns = absurd (not_round (operation_number op round k))
  remains not_add not_subtract not_quotient not_round not_truncate (Some n) s truncate left k ns = absurd (not_truncate (operation_number op truncate k))
  remains not_add not_subtract not_quotient not_round not_truncate (Some n) s equal left k ns = absurd (ns refl)
  remains not_add not_subtract not_quotient not_round not_truncate (Some n) s greater left k ns = absurd (ns refl)

-- THE COMPARISONS

module _ (op a b : ℕ) where
  pub equals : op ≡ 1008 → Compared op a b (eqb a b)
  unfolding compare with_one number_of
  equals h add left k ns = absurd (ns refl)
  equals h subtract left k ns = absurd (ns refl)
  equals h quotient left k ns = absurd (ns refl)
  equals h remainder left k ns = absurd (ns refl)
  equals h round left k ns = absurd (ns refl)
  equals h truncate left k ns = absurd (ns refl)
  equals h equal left k ns = refl
  equals h greater left k ns = absurd (omega (arith, operation_number op greater k))

  pub exceeds : (op ≡ 1008 → ⊥) → Compared op a b (ltb b a)
  unfolding compare with_one number_of
  exceeds h add left k ns = absurd (ns refl)
  exceeds h subtract left k ns = absurd (ns refl)
  exceeds h quotient left k ns = absurd (ns refl)
  exceeds h remainder left k ns = absurd (ns refl)
  exceeds h round left k ns = absurd (ns refl)
  exceeds h truncate left k ns = absurd (ns refl)
  exceeds h equal left k ns = absurd (h (operation_number op equal k))
  exceeds h greater left k ns = refl

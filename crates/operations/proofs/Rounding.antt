-- Rounding in code: the way down to the whole number, n % d, against the way up to the next, d - n % d. Assumes nothing.
use Prim.Native.Nat.{ℕ, ◌+◌, ◌-◌, ◌/◌, ◌%◌, ◌≤◌, ◌<◌}
use mathlib.Core.Path.{◌≡◌}
use native.Mathlib.Omega.{arith}
use native.Mathlib.Nat.{mod-lt}
use Rattle.meaning.specs.Rounding.{half_even}
use Rattle.meaning.proofs.Rounding.{half_under, half_at, half_over}

module _ (n d : ℕ) (some : 0 < d) where
  pub rest_fits : n % d ≤ d
  rest_fits = omega (arith, mod-lt n some)

  pub nearer_below : n % d < d - n % d → n / d ≡ half_even n d
  nearer_below h = half_under n d (omega arith)

  pub as_near : n % d ≡ d - n % d → n / d + n / d % 2 ≡ half_even n d
  as_near h = half_at n d (omega (arith, rest_fits))

  -- the way down is not the shorter one, so it is not 0
  module _ (far : d - n % d ≤ n % d) where
    pub nearer_above : (n % d ≡ d - n % d → ⊥) → n / d + 1 ≡ half_even n d
    nearer_above h = half_over n d (omega (arith, rest_fits))

-- Rounding to a whole number, an exact half to the even one. Assumes nothing: these are definitions.
use Rattle.std.specs.Prelude.{ℕ, ◌+◌, ◌-◌, ◌*◌, ◌/◌, ◌%◌, ◌≤◌, ◌<◌, ◌≡◌, eqb, ltb}
use Rattle.words.specs.Reader.{pick}

-- T-01: "rounds an exact half to the even whole number". Of n / d, for any divisor d but 0: under a half the whole number below, at a half the even one, over a half the next
unfoldable pub half_even : ℕ → ℕ → ℕ
half_even n d = pick (ltb (2 * (n % d)) d) (n / d) (pick (eqb (2 * (n % d)) d) (n / d + n / d % 2) (n / d + 1))

-- how far apart two numbers are
abbrev pub apart : ℕ → ℕ → ℕ
apart a b = (a - b) + (b - a)

-- how far the whole number q is from n / d, in parts of d
abbrev pub off : ℕ → ℕ → ℕ → ℕ
off n d q = apart n (q * d)

-- q is a whole number nearest to n / d, and where another is as near, q is the even one
pub record NearestEven (n d q : ℕ) : Type 0 where
  pub nearest : (m : ℕ) → off n d q ≤ off n d m
  pub even : (m : ℕ) → off n d m ≡ off n d q → (m ≡ q → ⊥) → q % 2 ≡ 0

-- THE LAW of `half_even`: it is that number, and no other is; proofs/Rounding.antt proves it
abbrev pub RoundsHalfEven : Type 0
RoundsHalfEven = (n d : ℕ) → 0 < d → NearestEven n d (half_even n d) × ((q : ℕ) → NearestEven n d q → q ≡ half_even n d)

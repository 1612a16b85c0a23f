-- ROUNDING: `half_even` is the whole number nearest to n / d, the even one at a half, and no other is; it passes no whole number that n / d does not pass. Assumes nothing.
use Prim.Native.Nat.{ℕ, ◌+◌, ◌-◌, ◌*◌, ◌/◌, ◌%◌, ◌≤◌, ◌<◌}
use mathlib.Core.Path.{◌≡◌, refl, sym, subst}
use mathlib.Core.Bool.{Bool, true, false}
use native.Mathlib.Omega.{arith}
use native.Mathlib.Nat.{mod-lt, div-add-mod', le_refl, add-mul, mul-le-mul_right, lt_of_mul-lt-mul_right}
use borrow.Author.Tests.{lt-ltb, le-ltb, eq-eqb, ne_eqb, ltb-true, ltb-false, eqb-true, eqb-false}
use lib.Dec.{eqb, ltb}
use Rattle.meaning.specs.Rounding.{half_even, off, NearestEven, RoundsHalfEven}

-- UNDER A HALF, AT IT, OVER IT

module _ (n d : ℕ) where
  pub half_under : 2 * (n % d) < d → n / d ≡ half_even n d
  unfolding half_even
  half_under h = rw (lt-ltb (2 * (n % d)) d h)

  pub half_at : 2 * (n % d) ≡ d → n / d + n / d % 2 ≡ half_even n d
  unfolding half_even
  half_at h = rw (le-ltb (2 * (n % d)) d (omega arith), eq-eqb (2 * (n % d)) d h)

  pub half_over : d < 2 * (n % d) → n / d + 1 ≡ half_even n d
  unfolding half_even
  half_over h = rw (le-ltb (2 * (n % d)) d (omega arith), ne_eqb (2 * (n % d)) d (λ e. omega arith))

  -- what holds in each of the three holds of it
  by_half : (P : ℕ → Type 0) → (2 * (n % d) < d → P (n / d)) → (2 * (n % d) ≡ d → P (n / d + n / d % 2)) → (d < 2 * (n % d) → P (n / d + 1)) → P (half_even n d)
  by_half P under at over = go (ltb (2 * (n % d)) d) (eqb (2 * (n % d)) d) refl refl
    where
      go : (a b : Bool) → ltb (2 * (n % d)) d ≡ a → eqb (2 * (n % d)) d ≡ b → P (half_even n d)
      go true b e f = let h = ltb-true (2 * (n % d)) d e in subst P (half_under h) (under h)
      go false true e f = let h = eqb-true (2 * (n % d)) d f in subst P (half_at h) (at h)
      go false false e f = let h : d < 2 * (n % d) = omega (arith, ltb-false (2 * (n % d)) d e, eqb-false (2 * (n % d)) d f) in subst P (half_over h) (over h)

  -- it is the whole number below, or the next
  pub half_even_next : half_even n d ≤ n / d + 1
  half_even_next = by_half (λ k. k ≤ n / d + 1) (λ h. omega arith) (λ h. omega arith) (λ h. omega arith)

-- TWO WHOLE NUMBERS are the same, or their multiples are a divisor apart at least

module _ (d : ℕ) where
  next : (k : ℕ) → (k + 1) * d ≡ k * d + d
  next k = omega (arith, add-mul k 1 d)

  further : (m k : ℕ) → m < k → m * d + d ≤ k * d
  further m k l = let h : m + 1 ≤ k = omega arith in omega (arith, next m, mul-le-mul_right {m = m + 1} {n = k} d h)

  -- one of the three ways that two whole numbers may lie
  sides : {P : Type 0} (m k : ℕ) → (m * d + d ≤ k * d → P) → (m ≡ k → P) → (k * d + d ≤ m * d → P) → P
  sides {P} m k less same more = go (ltb m k) (ltb k m) refl refl
    where
      go : (a b : Bool) → ltb m k ≡ a → ltb k m ≡ b → P
      go true b e f = less (further m k (ltb-true m k e))
      go false true e f = more (further k m (ltb-true k m f))
      go false false e f = same (omega (arith, ltb-false m k e, ltb-false k m f))

  -- of two in a row, one is odd
  row_odd : (k h : ℕ) → 0 < d → k * d + d ≡ h * d → k % 2 ≡ 0 → h % 2 ≡ 0 → ⊥
  row_odd k h some e ek eh = sides (k + 1) h (λ l. omega (arith, next k)) (λ s. omega arith) (λ l. omega (arith, next k))

-- NEAREST: no farther than half a divisor, and even if so far

module _ (n d : ℕ) (some : 0 < d) where
  -- the ways from n to two whole numbers add up to a divisor at least, so a way of at most half of one is the shorter
  near : (k : ℕ) → 2 * off n d k ≤ d → (2 * off n d k ≡ d → k % 2 ≡ 0) → NearestEven n d k
  near k close even =
      record {
        nearest = λ m. sides d m k (λ l. omega arith) (λ e. rw e (le_refl (off n d k))) (λ l. omega arith);
        even = λ m same other. even (sides d m k (λ l. omega arith) (λ e. absurd (other e)) (λ l. omega arith));
      }

  parts : n / d * d + n % d ≡ n
  parts = div-add-mod' n d

  rest : n % d < d
  rest = mod-lt n some

  -- the next whole number is as far above as the rest falls short of the divisor
  off_next : off n d (n / d + 1) ≡ d - n % d
  off_next = omega (arith, parts, rest, next d (n / d))

  off_whole : off n d (n / d) ≡ n % d
  off_whole = omega (arith, parts)

  -- of the two that are as near, the even one
  at_half : (b : Bool) → eqb (n / d % 2) 0 ≡ b → 2 * (n % d) ≡ d → NearestEven n d (n / d + n / d % 2)
  at_half true e h = let z : n / d + n / d % 2 ≡ n / d = omega (arith, eqb-true (n / d % 2) 0 e) in
      rw z (near (n / d) (omega (arith, off_whole)) (λ h. eqb-true (n / d % 2) 0 e))
  at_half false e h = let z : n / d + n / d % 2 ≡ n / d + 1 = omega (arith, eqb-false (n / d % 2) 0 e) in
      rw z (near (n / d + 1) (omega (arith, off_next)) (λ h. omega (arith, eqb-false (n / d % 2) 0 e)))

  rounded_near : NearestEven n d (half_even n d)
  rounded_near =
      by_half n d (NearestEven n d)
      (λ h. near (n / d) (omega (arith, off_whole)) (λ e. absurd (omega (arith, off_whole))))
      (λ h. at_half (eqb (n / d % 2) 0) refl h)
      (λ h. near (n / d + 1) (omega (arith, off_next)) (λ e. absurd (omega (arith, off_next))))

  -- as one of the two whole numbers beside n / d is no farther than half a divisor, no nearest one is
  close : (k : ℕ) → NearestEven n d k → 2 * off n d k ≤ d
  close k a =
      let under : off n d k ≤ n % d = subst (λ x. off n d k ≤ x) off_whole (a.nearest (n / d)) in
      let over : off n d k ≤ d - n % d = subst (λ x. off n d k ≤ x) off_next (a.nearest (n / d + 1)) in
      omega (arith, rest)

  module _ (q k : ℕ) (a : NearestEven n d q) (b : NearestEven n d k) where
    as_far : off n d q ≡ off n d k
    as_far = omega (arith, a.nearest k, b.nearest q)

    -- two that are not the same would be both even, and in a row
    no_row : q * d + d ≤ k * d → ⊥
    no_row l =
        let other : q ≡ k → ⊥ = λ e. let f : q * d ≡ k * d = rw e in omega arith in
        row_odd d q k some (omega (arith, as_far, close k b)) (a.even k (sym as_far) (λ e. other (sym e))) (b.even q as_far other)

  only_near : (q k : ℕ) → NearestEven n d q → NearestEven n d k → q ≡ k
  only_near q k a b = sides d q k (λ l. absurd (no_row q k a b l)) (λ e. e) (λ l. absurd (no_row k q b a l))

  -- a number that does not pass a whole number is not rounded past it
  pub half_even_within : (m : ℕ) → n ≤ m * d → half_even n d ≤ m
  half_even_within m h =
      let under : n / d < m + 1 = lt_of_mul-lt-mul_right d (omega (arith, parts, next d m)) in
      let over : 0 < n % d → n / d < m = λ r. lt_of_mul-lt-mul_right d (omega (arith, parts)) in
      by_half n d (λ k. k ≤ m) (λ r. omega arith) (λ r. omega (arith, over (omega arith))) (λ r. omega (arith, over (omega arith)))

-- THE LAW
pub rounds_half_even : RoundsHalfEven
rounds_half_even n d some = (rounded_near n d some, λ q a. only_near n d some q (half_even n d) a (rounded_near n d some))

-- Laws of putting a text into bytes, over plain variables. Assumes nothing.
use Prim.Native.Nat.{ℕ, zero, suc, ◌+◌, ◌<◌, ◌≤◌, ◌/◌, ◌%◌, ◌^◌}
use mathlib.Core.Path.{◌≡◌, refl, sym, ap, ◌∙◌}
use mathlib.Core.Bool.{Bool, true, false}
use lib.Dec.{ltb}
use mathlib.Core.List.{[], ◌∷◌, ◌++◌, append_assoc, append-nil}
use native.Mathlib.Omega.{arith}
use Rattle.std.proofs.Math.Nat.{pow-succ'}
use native.Mathlib.Numerals.{add-one}
use lib.ListN.{length, get_or, take, length-take}
use lib.Seq.{take_all, take-suc}
use borrow.Author.Tests.{lt-ltb, le-ltb, ltb-true, ltb-false}
use Rattle.words.specs.Reader.{Words}
use Rattle.decimal.proofs.Lists.{take_again, drop_more}
use Rattle.decimal.specs.Numbers.{Bytes}
use Rattle.decimal.specs.Printed.{digits, decimal, spaced, all_spaced, line_end, line, Put}

-- nothing is put
pub put_nothing : (w : Bytes) (at : ℕ) → at ≤ length w → Put w at [] at w
put_nothing w at h = record {
  text = rw append-nil (sym (take_all (length w) (take at w) (simp length-take (omega arith))));
  rest = refl;
  more = omega arith;
  fits = h;
  long = refl;
}

-- one text after another
pub put_both : {w m v : Bytes} {at p q : ℕ} {s t : Bytes} → Put w at s p m → Put m p t q v → Put w at (s ++ t) q v
put_both {w} {m} {v} {at} {p} {q} {s} {t} x y =
    let e : take q v ≡ take (length w) (take (length w) (take at w ++ s) ++ t) = rw (← x.text, ← x.long) y.text in
    record {
      text = e ∙ take_again (length w) (take at w ++ s) t ∙ rw append_assoc;
      rest = y.rest ∙ drop_more p q m w y.more x.rest;
      more = omega (arith, x.more, y.more);
      fits = omega (arith, y.fits, x.long);
      long = y.long ∙ x.long;
    }

-- THE DIGITS

pub one_digit : (k n : ℕ) → n < 10 → digits (suc k) n ≡ (48 + n) ∷ []
unfolding digits
one_digit k n h = rw (lt-ltb n 10 h)

last_digit : (k n : ℕ) → 10 ≤ n → digits (suc k) n ≡ digits k (n / 10) ++ ((48 + n % 10) ∷ [])
unfolding digits
last_digit k n h = rw (le-ltb n 10 h)

-- as many digits as the number has are enough
enough : (k n : ℕ) → n < 10 ^ suc k → digits (suc (suc k)) n ≡ digits (suc k) n
enough zero n h = one_digit 1 n h ∙ sym (one_digit 0 n h)
enough (suc k) n h = by (ltb n 10) refl (λ l. enough k (n / 10) l)
  where
    by : (t : Bool) → ltb n 10 ≡ t → (n / 10 < 10 ^ suc k → digits (suc (suc k)) (n / 10) ≡ digits (suc k) (n / 10)) → digits (suc (suc (suc k))) n ≡ digits (suc (suc k)) n
    by true e more = let l = ltb-true n 10 e in one_digit (suc (suc k)) n l ∙ sym (one_digit (suc k) n l)
    by false e more =
        let l = ltb-false n 10 e in
        let d : n / 10 < 10 ^ suc k = omega (arith, h, pow-succ' 10 (suc k)) in
        rw (last_digit (suc (suc k)) n l, last_digit (suc k) n l, more d) refl

pub more_digits : (n : ℕ) → n < 18446744073709551616 → 10 ≤ n → decimal n ≡ decimal (n / 10) ++ ((48 + n % 10) ∷ [])
more_digits n f h = last_digit 19 n h ∙ ap (λ (ds : Bytes). ds ++ ((48 + n % 10) ∷ [])) (sym (enough 18 (n / 10) (omega arith)))

-- A ROW OF NUMBERS

spaced_snoc : (ws : Words) (w : ℕ) → all_spaced (ws ++ (w ∷ [])) ≡ all_spaced ws ++ spaced w
unfolding all_spaced
spaced_snoc [] w = append-nil (spaced w)
spaced_snoc (v ∷ ws) w = ap (λ (l : Bytes). spaced v ++ l) (spaced_snoc ws w) ∙ sym (append_assoc (spaced v) (all_spaced ws) (spaced w))

pub spaced_next : (ws : Words) (i : ℕ) → i < length ws → all_spaced (take i ws) ++ spaced (get_or ws i 0) ≡ all_spaced (take (i + 1) ws)
spaced_next ws i h = sym (rw (add-one, take-suc ws i 0 h) (spaced_snoc (take i ws) (get_or ws i 0)))

pub line_empty : (ws : Words) → length ws ≡ 0 → line ws ≡ line_end
unfolding line
line_empty [] e = refl
line_empty (w ∷ ws) e = absurd (omega arith)

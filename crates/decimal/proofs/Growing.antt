-- Laws of a text that grows, over plain variables. Assumes nothing.
use Prim.Native.Nat.{ℕ, ◌+◌, ◌<◌, ◌≤◌, ◌/◌, ◌%◌}
use mathlib.Core.Path.{◌≡◌, refl, ◌∙◌, subst}
use mathlib.Core.List.{[], ◌∷◌, ◌++◌}
use native.Mathlib.Omega.{arith}
use lib.ListN.{length, get_or, take}
use Rattle.words.specs.Reader.{Words}
use Rattle.decimal.specs.Numbers.{Bytes}
use Rattle.decimal.specs.Printed.{decimal, spaced, all_spaced, line, Put}
use Rattle.decimal.specs.Texts.{Grows}
use Rattle.decimal.specs.declared.printed.Text.{Text}
use Rattle.decimal.proofs.Putting.{put_nothing, put_both, one_digit, more_digits, spaced_next, line_empty}

pub grows_nothing : (a : Text) → Grows a [] a
grows_nothing a = record { same = refl; put = put_nothing a.bytes.now a.end a.within }

-- one text after another
pub grows_both : {a b c : Text} {s t : Bytes} → Grows a s b → Grows b t c → Grows a (s ++ t) c
grows_both x y = record { same = y.same ∙ x.same; put = put_both x.put y.put }

pub grows_number : {a b c : Text} (ws : Words) (i : ℕ) → i < length ws → Grows a (all_spaced (take i ws)) b → Grows b (spaced (get_or ws i 0)) c → Grows a (all_spaced (take (i + 1) ws)) c
grows_number {a} {b} {c} ws i h x y = subst (λ (t : Bytes). Grows a t c) (spaced_next ws i h) (grows_both x y)

-- what a text that began empty holds at last
pub grows_put : {a b : Text} {w w' t : Bytes} → a.end ≡ 0 → a.bytes.now ≡ w → Grows a t b → b.bytes.now ≡ w' → Put w 0 t b.end w'
grows_put e f x g = rw (← f, ← g, ← e) x.put

-- THE DIGITS

pub grows_digits : {a b c : Text} (n : ℕ) → n < 18446744073709551616 → 10 ≤ n → Grows a (decimal (n / 10)) b → Grows b ((48 + n % 10) ∷ []) c → Grows a (decimal n) c
grows_digits n f h x y = rw (more_digits n f h) (grows_both x y)

pub grows_digit : {a b c : Text} (n : ℕ) → n < 10 → b ≡ a → Grows b ((48 + n % 10) ∷ []) c → Grows a (decimal n) c
grows_digit n h q y = let m : n % 10 ≡ n = omega arith in rw (one_digit 19 n h) (rw (q, m) at y)

-- A LINE

pub grows_line : {a b c d : Text} {first : ℕ} (ws others : Words) → ws ≡ first ∷ others → Grows a (decimal first) b → Grows b (all_spaced others) c → Grows c (10 ∷ []) d → Grows a (line ws) d
unfolding line
grows_line ws others e x y z = rw e (grows_both x (grows_both y z))

pub grows_line_end : {a b c : Text} (ws : Words) → length ws ≡ 0 → b ≡ a → Grows b (10 ∷ []) c → Grows a (line ws) c
grows_line_end ws e q x = rw (line_empty ws e) (rw q at x)

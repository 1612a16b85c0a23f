-- A text may be read in pieces, and there is room enough for any input and any answer. Assumes nothing.
use Prim.Native.Nat.{ℕ, zero, suc, ◌+◌, ◌*◌, ◌-◌, ◌<◌, ◌≤◌, ◌/◌, ◌%◌}
use mathlib.Core.Path.{◌≡◌, refl, sym, ap, ◌∙◌, subst}
use mathlib.Core.Logic.{◌⊎◌, inl, inr, ⊎_elim}
use mathlib.Core.List.{[], ◌∷◌, ◌++◌}
use mathlib.Core.Bool.{Bool, true, false}
use mathlib.Core.Option.{Option, none, some}
use native.Mathlib.Omega.{arith}
use lib.ListN.{length, take, drop, length-append, length-drop}
use lib.Seq.{take_all}
use lib.Dec.{ltb, leb}
use borrow.Author.Tests.{ltb-true, ltb-false, leb-true}
use Rattle.words.specs.Reader.{Words, pick, and}
use Rattle.meaning.specs.Meaning.{done, stopped, cannot_go_on}
use Rattle.meaning.specs.Outcome.{Inputs, Outcome, refused, ended, filled_by}
use Rattle.decimal.specs.Numbers.{Bytes, is_digit, is_white, Numbers, at, grown, added, byte_at, byte, bytes, last_at, last, start, numbers}
use Rattle.decimal.specs.Input.{counted, whole, input, input_at, input_of, most_numbers, input_from, most_grammar, most_rules, most_slip}
use Rattle.decimal.specs.Printed.{digits, all_spaced, line, counts, printed, Put}
use Rattle.decimal.proofs.Reading.{added_least, byte_least}
use Rattle.decimal.specs.declared.numbers.Place.{Place}
use Rattle.decimal.specs.declared.numbers.Place.TheVariants.{Unread, Between, Within}

-- IN PIECES

pub in_pieces : (room : ℕ) (s : Numbers) (a b : Bytes) → bytes room s (a ++ b) ≡ bytes room (bytes room s a) b
unfolding bytes
in_pieces room s [] b = refl
in_pieces room s (x ∷ a) b = in_pieces room (byte room s x) a b

-- AN ANSWER IS SHORT

digits_short : (k n : ℕ) → length (digits k n) ≤ k
unfolding digits
digits_short zero n = omega arith
digits_short (suc k) n = short (ltb n 10) (digits k (n / 10)) (digits_short k (n / 10))
  where
    short : (t : Bool) (more : Bytes) → length more ≤ k → length (pick t ((48 + n) ∷ []) (more ++ ((48 + n % 10) ∷ []))) ≤ suc k
    short true more h = omega arith
    short false more h = simp length-append (omega arith)

spaced_short : (ws : Words) → length (all_spaced ws) ≤ 21 * length ws
unfolding all_spaced
spaced_short [] = omega arith
spaced_short (w ∷ ws) = simp length-append (omega (arith, digits_short 20 w, spaced_short ws))

line_short : (ws : Words) → length (line ws) ≤ 21 * length ws + 1
unfolding line
line_short [] = omega arith
line_short (w ∷ ws) = simp length-append (omega (arith, digits_short 20 w, spaced_short ws))

counts_short : (a k : ℕ) (ws : Words) → length (counts a k ws) ≤ 21 * length ws + 65
unfolding counts
counts_short a k ws = simp length-append (omega (arith, digits_short 20 a, digits_short 20 k, digits_short 20 (length ws), line_short ws))

pub printed_short : (o : Outcome) → length (printed o) ≤ 21 * length (filled_by o) + 100
unfolding printed filled_by
printed_short (refused n p) = simp length-append (omega (arith, digits_short 20 n, digits_short 20 p))
printed_short (ended done a k ws) = simp length-append (omega (arith, counts_short a k ws))
printed_short (ended (stopped n) a k ws) = simp length-append (omega (arith, digits_short 20 n, counts_short a k ws))
printed_short (ended cannot_go_on a k ws) = omega arith

-- a text that there is room for is put whole
pub put_whole : (w t w' : Bytes) (r : ℕ) → Put w 0 t r w' → length t ≤ length w → take r w' ≡ t
put_whole w t w' r x h = x.text ∙ take_all (length w) t h

-- NO INPUT HAS MORE NUMBERS

counted_few : (most n : ℕ) (ns : Words) (f : Words → Words → Option Inputs) (x : Inputs) → ((a b : Words) → f a b ≡ some x → length b ≤ n) → counted most ns f ≡ some x → length ns ≤ 1 + most + n
unfolding counted
counted_few most n [] f x few e = omega arith
counted_few most n (k ∷ ns) f x few e = by (leb k most) (leb k (length ns)) refl e
  where
    by : (s t : Bool) → leb k most ≡ s → pick (and s t) (f (take k ns) (drop k ns)) none ≡ some x → length (k ∷ ns) ≤ 1 + most + n
    by true true h e = omega (arith, leb-true k most h, few (take k ns) (drop k ns) e, length-drop k ns)
    by true false h e = let z : ◌≡◌ {A = ℕ} 0 1 = cc in absurd (omega arith)
    by false t h e = let z : ◌≡◌ {A = ℕ} 0 1 = cc in absurd (omega arith)

whole_few : (x y : Inputs) (ns : Words) → whole x ns ≡ some y → length ns ≤ 0
unfolding whole
whole_few x y [] e = omega arith
whole_few x y (n ∷ ns) e = let z : ◌≡◌ {A = ℕ} 0 1 = cc in absurd (omega arith)

pub few_numbers : (ns : Words) (x : Inputs) → input ns ≡ some x → length ns ≤ most_numbers
unfolding input
few_numbers [] x e = let z : ◌≡◌ {A = ℕ} 0 1 = cc in absurd (omega arith)
few_numbers (b ∷ ns) x e =
    let l = counted_few most_grammar (1 + most_rules + (1 + most_slip + 0)) ns _ x (λ g ms.
    counted_few most_rules (1 + most_slip + 0) ms _ x (λ r ks.
    counted_few most_slip 0 ks _ x (λ t js. whole_few _ x js))) e in
    omega (arith, l)

-- SO IT DOES NOT MATTER HOW MUCH ROOM THERE IS BEYOND THAT

module _ (small big : ℕ) (more : small ≤ big) where
  -- with more room and with less: the same, or there were too many numbers for less
  abbrev Alike : Numbers → Numbers → Type 0
  Alike s t = (s ≡ t) ⊎ ((t.place ≡ Unread) × (small < length s.found))

  added_alike : (ns : Words) (v : ℕ) → Alike (added big ns v) (added small ns v)
  unfolding added
  added_alike ns v = by (ltb (length ns) small) (ltb (length ns) big) refl refl
    where
      by : (s t : Bool) → ltb (length ns) small ≡ s → ltb (length ns) big ≡ t → Alike (pick t (at Between (ns ++ (v ∷ []))) (at Unread ns)) (pick s (at Between (ns ++ (v ∷ []))) (at Unread ns))
      by true true e f = inl refl
      by true false e f = absurd (omega (arith, ltb-true (length ns) small e, ltb-false (length ns) big f))
      by false true e f = inr (refl, simp length-append (omega (arith, ltb-false (length ns) small e)))
      by false false e f = inl refl

  picked_alike : (t : Bool) (a b c : Numbers) → Alike b c → Alike (pick t a b) (pick t a c)
  picked_alike true a b c h = inl refl
  picked_alike false a b c h = h

  same_byte : (p : Place) (ns : Words) (b : ℕ) → Alike (byte_at big p ns b) (byte_at small p ns b)
  unfolding byte_at
  same_byte Unread ns b = inl refl
  same_byte Between ns b = inl refl
  same_byte (Within v) ns b = picked_alike (is_digit b) (at (grown (10 * v + (b - 48))) ns) (pick (is_white b) (added big ns v) (at Unread ns)) (pick (is_white b) (added small ns v) (at Unread ns)) (white (is_white b) (added_alike ns v))
    where
      white : (t : Bool) → Alike (added big ns v) (added small ns v) → Alike (pick t (added big ns v) (at Unread ns)) (pick t (added small ns v) (at Unread ns))
      white true h = h
      white false h = inl refl

  stays_unread : (p : Place) (ns : Words) (b : ℕ) → p ≡ Unread → (byte_at small p ns b).place ≡ Unread
  unfolding byte_at
  stays_unread p ns b e = rw e

  byte_alike : (s t : Numbers) (b : ℕ) → Alike s t → Alike (byte big s b) (byte small t b)
  byte_alike s t b (inl e) = subst (λ (x : Numbers). Alike (byte big s b) (byte small x b)) e (same_byte s.place s.found b)
  byte_alike s t b (inr h) = inr (stays_unread t.place t.found b h.0, omega (arith, h.1, byte_least big s.place s.found b))

  bytes_alike : (text : Bytes) (s t : Numbers) → Alike s t → Alike (bytes big s text) (bytes small t text)
  unfolding bytes
  bytes_alike [] s t h = h
  bytes_alike (b ∷ text) s t h = bytes_alike text (byte big s b) (byte small t b) (byte_alike s t b h)

  same_end : (p : Place) (ns : Words) → Alike (last_at big p ns) (last_at small p ns)
  unfolding last_at
  same_end Unread ns = inl refl
  same_end Between ns = inl refl
  same_end (Within v) ns = added_alike ns v

  ends_unread : (p : Place) (ns : Words) → p ≡ Unread → (last_at small p ns).place ≡ Unread
  unfolding last_at
  ends_unread p ns e = rw e

  end_least : (p : Place) (ns : Words) → length ns ≤ length (last_at big p ns).found
  unfolding last_at
  end_least Unread ns = omega arith
  end_least Between ns = omega arith
  end_least (Within v) ns = added_least big ns v

  end_alike : (s t : Numbers) → Alike s t → Alike (last big s) (last small t)
  end_alike s t (inl e) = subst (λ (x : Numbers). Alike (last big s) (last small x)) e (same_end s.place s.found)
  end_alike s t (inr h) = inr (ends_unread t.place t.found h.0, omega (arith, h.1, end_least s.place s.found))

none_over : (p : Place) (ns : Words) → most_numbers < length ns → input_at p ns ≡ none
unfolding input_at
none_over Unread ns h = refl
none_over (Within v) ns h = refl
none_over Between ns h = by (input ns) refl
  where
    by : (x : Option Inputs) → input ns ≡ x → input ns ≡ none
    by none e = e
    by (some x) e = absurd (omega (arith, few_numbers ns x e))

pub unread_none : (p : Place) (ns : Words) → p ≡ Unread → input_at p ns ≡ none
unfolding input_at
unread_none p ns e = rw e

pub enough_room : (room : ℕ) (text : Bytes) → most_numbers ≤ room → input_of (numbers room text) ≡ input_from text
unfolding numbers input_from
enough_room room text h =
    let s = numbers room text in
    let t = numbers most_numbers text in
    ⊎_elim
    (λ e. ap input_of e)
    (λ u. none_over s.place s.found u.1 ∙ sym (unread_none t.place t.found u.0))
    (end_alike most_numbers room h (bytes room start text) (bytes most_numbers start text) (bytes_alike most_numbers room h text start start (inl refl)))

-- However a text is delivered, what is read is its numbers. Assumes nothing.
use Prim.Native.Nat.{ℕ, zero, suc}
use mathlib.Core.Path.{◌≡◌, refl, sym, ap}
use mathlib.Core.List.{List, [], ◌∷◌, ◌++◌}
use mathlib.Core.Bool.{Bool, true, false}
use mathlib.Core.Option.{Option, none, some}
use native.Mathlib.Omega.{arith}
use lib.ListN.{take}
use Rattle.std.specs.Prelude.{Option as Answer, Some, None}
use Rattle.words.specs.Reader.{Words, pick}
use Rattle.decimal.specs.Numbers.{Bytes, Numbers, at, byte_at, bytes, last_at, last, start, numbers, may_be, delivered, more_after, Delivery, read_over, joined, text_of}
use Rattle.decimal.specs.declared.numbers.Place.{Place}
use Rattle.decimal.specs.declared.numbers.Place.TheVariants.{Unread, Between, Within}
use Rattle.decimal.proofs.Whole.{in_pieces}

-- ONE DELIVERY MORE

module _ (room : ℕ) (s : Numbers) (d : Delivery) where
  pub over_more : (ds : List Delivery) → more_after d.got (delivered room s d.got d.buffer).place ≡ true → read_over room s (d ∷ ds) ≡ read_over room (delivered room s d.got d.buffer) ds
  unfolding read_over
  over_more ds e = rw e

  pub over_last : more_after d.got (delivered room s d.got d.buffer).place ≡ false → read_over room s (d ∷ []) ≡ some (delivered room s d.got d.buffer)
  unfolding read_over
  over_last e = rw e

-- a read that failed
abbrev failed : Delivery
failed = record { got = None; buffer = [] }

pub over_failed : (room : ℕ) (s : Numbers) → read_over room s (failed ∷ []) ≡ some (at Unread [])
unfolding read_over delivered more_after
over_failed room s = refl

-- WHAT IS UNREAD STAYS SO

bytes_unread : (room : ℕ) (ns : Words) (text : Bytes) → bytes room (at Unread ns) text ≡ at Unread ns
unfolding bytes byte_at
bytes_unread room ns [] = refl
bytes_unread room ns (b ∷ text) = bytes_unread room ns text

unread_done : (room : ℕ) (p : Place) (ns : Words) (text : Bytes) → may_be p ≡ false → last room (bytes room (at p ns) text) ≡ at p ns
unfolding last_at
unread_done room Unread ns text e = rw (bytes_unread room ns text)
unread_done room Between ns text e = let z : ◌≡◌ {A = ℕ} 0 1 = cc in absurd (omega arith)
unread_done room (Within v) ns text e = let z : ◌≡◌ {A = ℕ} 0 1 = cc in absurd (omega arith)

-- A TEXT THAT IS DELIVERED TO ITS END

-- after a piece the rest is read, or the text is unread already
piece_and_rest : (room : ℕ) (t : Numbers) (rest : Bytes) (read : Option Numbers) (more : Bool) → may_be t.place ≡ more → read ≡ some (last room (bytes room t rest)) → pick more read (some t) ≡ some (last room (bytes room t rest))
piece_and_rest room t rest read true m e = e
piece_and_rest room t rest read false m e = ap some (sym (unread_done room t.place t.found rest m))

pub over_text : (room : ℕ) (s : Numbers) (ds : List Delivery) (text : Bytes) → text_of ds ≡ some text → read_over room s ds ≡ some (last room (bytes room s text))
unfolding text_of read_over joined delivered more_after bytes
over_text room s [] text e = let z : ◌≡◌ {A = ℕ} 0 1 = cc in absurd (omega arith)
over_text room s (d ∷ ds) text e = step d.got (text_of ds) (λ t rest h. over_text room t ds rest h) refl e
  where
    step : (got : Answer ℕ) (others : Option Bytes) → ((t : Numbers) (rest : Bytes) → text_of ds ≡ some rest → read_over room t ds ≡ some (last room (bytes room t rest)))
        → text_of ds ≡ others → joined got d.buffer others ≡ some text
        → pick (more_after got (delivered room s got d.buffer).place) (read_over room (delivered room s got d.buffer) ds) (some (delivered room s got d.buffer)) ≡ some (last room (bytes room s text))
    step None others over h e = let z : ◌≡◌ {A = ℕ} 0 1 = cc in absurd (omega arith)
    step (Some zero) others over h e = let i : [] ≡ text = cc in rw (← i)
    step (Some (suc n)) none over h e = let z : ◌≡◌ {A = ℕ} 0 1 = cc in absurd (omega arith)
    step (Some (suc n)) (some rest) over h e =
        let t = bytes room s (take (suc n) d.buffer) in
        let i : take (suc n) d.buffer ++ rest ≡ text = cc in
        rw (← i, in_pieces room s (take (suc n) d.buffer) rest)
        (piece_and_rest room t rest (read_over room t ds) (may_be t.place) refl (over t rest h))

-- the numbers of the text
pub over_numbers : (room : ℕ) (ds : List Delivery) (text : Bytes) → text_of ds ≡ some text → read_over room start ds ≡ some (numbers room text)
unfolding numbers
over_numbers room ds text e = over_text room start ds text e

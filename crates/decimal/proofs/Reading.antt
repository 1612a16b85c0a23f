-- Laws of the reading of numbers, over plain variables. Assumes nothing.
use Prim.Native.Nat.{ℕ, zero, suc, ◌+◌, ◌*◌, ◌-◌, ◌<◌, ◌≤◌, min}
use mathlib.Core.Path.{◌≡◌, refl, sym, ap, ◌∙◌}
use mathlib.Core.List.{[], ◌∷◌, ◌++◌}
use mathlib.Core.Bool.{Bool, true, false}
use native.Mathlib.Omega.{arith}
use native.Mathlib.Numerals.{add-one, unary_clauses}
use lib.ListN.{length, get_or, take, drop, set, length-append, take-append-drop, drop_of_length-le}
use lib.Seq.{length-take-le, take-nil, drop-cons, append_snoc, set_split, take-append_seam, drop-append_seam}
use lib.Dec.{ltb}
use Rattle.std.specs.Prelude.{Some, None}
use borrow.Author.Tests.{lt-ltb, le-ltb}
use Rattle.words.specs.Reader.{Words, pick}
use Rattle.decimal.proofs.Lists.{drop_more}
use Rattle.decimal.specs.Numbers.{Bytes, is_digit, is_white, Numbers, at, grown, added, byte_at, byte, bytes, last, delivered, more_after, may_be, said, Stands, Delivers}
use Rattle.decimal.specs.declared.numbers.Place.{Place}
use Rattle.decimal.specs.declared.numbers.Place.TheVariants.{Unread, Between, Within}
use Rattle.decimal.specs.declared.numbers.Reading.{Reading}
use Rattle.decimal.specs.declared.numbers.Piece.{Piece}

-- ONE BYTE

abbrev reading : Place → ℕ → Reading
reading p n = record { place = p; count = n }

-- nothing is found
pub stands_same : (w : Words) (p : Place) (count : ℕ) → count ≤ length w → Stands (at p (take count w)) w (reading p count) w
stands_same w p count h = record { place = refl; count = sym (length-take-le count w h); words = rw (length-take-le count w h) (sym (take-append-drop count w)) }

-- a number is found
pub add_room : (w : Words) (count v : ℕ) → count < length w → Stands (added (length w) (take count w) v) w (reading Between (count + 1)) (set w count v)
unfolding added
add_room w count v h =
    let n : length (take count w) ≡ count = length-take-le count w (omega arith) in
    let m : length (take count w ++ (v ∷ [])) ≡ count + 1 = rw (length-append, n) in
    rw (n, lt-ltb count (length w) h)
    record { place = refl; count = sym m; words = rw (m, add-one, append_snoc) (set_split w count v h) }

pub add_full : (w : Words) (count v : ℕ) → count ≤ length w → length w ≤ count → Stands (added (length w) (take count w) v) w (reading Unread count) w
unfolding added
add_full w count v h f =
    let n : length (take count w) ≡ count = length-take-le count w h in
    rw (n, le-ltb count (length w) f)
    (stands_same w Unread count h)

-- THE BYTES ONE AFTER THE OTHER

pick_least : {n : ℕ} (t : Bool) (a b : Numbers) → n ≤ length a.found → n ≤ length b.found → n ≤ length (pick t a b).found
pick_least true a b h k = h
pick_least false a b h k = k

pub added_least : (room : ℕ) (ns : Words) (v : ℕ) → length ns ≤ length (added room ns v).found
unfolding added
added_least room ns v = pick_least (ltb (length ns) room) (at Between (ns ++ (v ∷ []))) (at Unread ns) (simp length-append (omega arith)) (omega arith)

-- no number is lost
pub byte_least : (room : ℕ) (p : Place) (ns : Words) (b : ℕ) → length ns ≤ length (byte_at room p ns b).found
unfolding byte_at
byte_least room Unread ns b = omega arith
byte_least room Between ns b = omega arith
byte_least room (Within v) ns b =
    pick_least (is_digit b) (at (grown (10 * v + (b - 48))) ns) (pick (is_white b) (added room ns v) (at Unread ns)) (omega arith)
    (pick_least (is_white b) (added room ns v) (at Unread ns) (added_least room ns v) (omega arith))

-- the answer is what stands in the words
pub stands_said : (s : Numbers) (w w' : Words) (r : Reading) → Stands s w r w' → said r w' ≡ s
stands_said s w w' r x =
    let t : take r.count w' ≡ s.found = rw (x.count, x.words) (take-append_seam s.found (drop (length s.found) w)) in
    rw (x.place, t)

stands_rest : (s : Numbers) (w w' : Words) (r : Reading) → Stands s w r w' → drop r.count w' ≡ drop r.count w
stands_rest s w w' r x = rw (x.count, x.words) (drop-append_seam s.found (drop (length s.found) w))

-- the loop: what was read, and what is left
pub record Going (text : Bytes) (r₀ : Reading) (w₀ : Words) (r : Reading) (w : Words) (i : ℕ) : Type 0 where
  pub within : i ≤ length text
  pub long : length w ≡ length w₀
  pub fits : r.count ≤ length w
  pub left : bytes (length w₀) (said r w) (drop i text) ≡ bytes (length w₀) (said r₀ w₀) text
  pub rest : drop r.count w ≡ drop r.count w₀

module _ (text : Bytes) (r₀ : Reading) (w₀ : Words) where
  pub going_first : r₀.count ≤ length w₀ → Going text r₀ w₀ r₀ w₀ 0
  going_first h = record { within = omega arith; long = refl; fits = h; left = refl; rest = refl }

  pub going_next : (r r' : Reading) (w w' : Words) (i : ℕ) → Going text r₀ w₀ r w i → i < length text → length w' ≡ length w
      → Stands (byte (length w) (said r w) (get_or text i 0)) w r' w' → Going text r₀ w₀ r' w' (i + 1)
  unfolding bytes
  going_next r r' w w' i g h l x =
      let s = byte (length w) (said r w) (get_or text i 0) in
      let n : r.count ≤ r'.count = omega (arith, x.count, byte_least (length w) r.place (take r.count w) (get_or text i 0), length-take-le r.count w g.fits) in
      let d : drop i text ≡ get_or text i 0 ∷ drop (i + 1) text = rw add-one (drop-cons text i 0 h) in
      let e : said r' w' ≡ byte (length w₀) (said r w) (get_or text i 0) = rw (← g.long) (stands_said s w w' r' x) in
      record {
        within = omega arith;
        long = l ∙ g.long;
        fits = omega (arith, x.count, ap length x.words, length-append s.found (drop (length s.found) w));
        left = rw e (rw d at g.left);
        rest = stands_rest s w w' r' x ∙ drop_more r.count r'.count w w₀ n g.rest;
      }

  pub going_last : (r : Reading) (w : Words) (i : ℕ) → Going text r₀ w₀ r w i → length text ≤ i → Stands (bytes (length w₀) (said r₀ w₀) text) w₀ r w
  unfolding bytes
  going_last r w i g h =
      let d : drop i text ≡ [] = drop_of_length-le text {i = i} h in
      let e : said r w ≡ bytes (length w₀) (said r₀ w₀) text = rw d at g.left in
      let n : length (take r.count w) ≡ r.count = length-take-le r.count w g.fits in
      rw (← e)
      record { place = refl; count = sym n; words = rw (n, ← g.rest) (sym (take-append-drop r.count w)) }

-- a count past the words counts them all
pub count_all : (w : Words) (n : ℕ) → take (min n (length w)) w ≡ take n w
count_all [] n = take-nil (min n 0) ∙ sym (take-nil n)
count_all (x ∷ w) zero = simp unary_clauses
count_all (x ∷ w) (suc n) = simp unary_clauses (ap (λ (l : Words). x ∷ l) (count_all w n))

pub said_all : (w : Words) (p : Place) (n m : ℕ) → m ≡ min n (length w) → at p (take m w) ≡ at p (take n w)
said_all w p n m e = rw (e, count_all)

-- A PIECE OF A TEXT

abbrev piece : Reading → Bool → Piece
piece r more = record { read = r; more = more }

none_counted : (n : ℕ) → take {A = ℕ} n (0 ∷ []) ≡ [] → n ≡ 0
none_counted zero e = refl
none_counted (suc n) e = let z : ◌≡◌ {A = ℕ} 0 1 = cc in absurd (omega arith)

module _ (room : ℕ) (s : Numbers) (buffer : Bytes) (w : Words) where
  pub piece_failed : (r : Reading) → ((ws : Words) → said r ws ≡ at Unread []) → Delivers None (delivered room s None buffer) w (piece r false) w
  unfolding delivered more_after
  piece_failed r u = record { read = record { place = ap (λ (x : Numbers). x.place) (u []); count = none_counted r.count (ap (λ (x : Numbers). x.found) (u (0 ∷ []))); words = refl }; more = refl }

  pub piece_last : (n : ℕ) (r : Reading) (w' : Words) → n ≡ 0 → Stands (last room s) w r w' → Delivers (Some n) (delivered room s (Some n) buffer) w (piece r false) w'
  unfolding delivered more_after
  piece_last zero r w' e x = record { read = x; more = refl }
  piece_last (suc n) r w' e x = absurd (omega arith)

  pub piece_bytes : (n m : ℕ) (r : Reading) (more : Bool) (w' : Words) → (n ≡ 0 → ⊥) → m ≡ min n (length buffer)
      → Stands (bytes room s (take m buffer)) w r w' → more ≡ may_be r.place → Delivers (Some n) (delivered room s (Some n) buffer) w (piece r more) w'
  unfolding delivered more_after
  piece_bytes zero m r more w' z e x g = absurd (z refl)
  piece_bytes (suc k) m r more w' z e x g =
      let t : take m buffer ≡ take (suc k) buffer = rw (e, count_all) in
      let y : Stands (bytes room s (take (suc k) buffer)) w r w' = rw t at x in
      record { read = y; more = g ∙ ap may_be y.place }

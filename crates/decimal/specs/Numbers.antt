-- THE NUMBERS OF A TEXT, from its bytes: "reads decimal numbers from standard input". Assumes nothing: these are definitions.
use Rattle.std.specs.Prelude.{ℕ, zero, suc, ◌+◌, ◌*◌, ◌-◌, ◌≡◌, List, [], ◌∷◌, ◌++◌, Bool, true, false, length, take, drop, ltb, leb, eqb}
use Rattle.std.specs.Prelude.{Option as Answer, Some, None}
use Rattle.std.proofs.Math.Option.{Option, none, some}
use Rattle.words.specs.Reader.{Words, pick, or, between}
use Rattle.decimal.specs.declared.numbers.Place.{Place}
use Rattle.decimal.specs.declared.numbers.Place.TheVariants.{Unread, Between, Within}
use Rattle.decimal.specs.declared.numbers.Reading.{Reading}
use Rattle.decimal.specs.declared.numbers.Piece.{Piece}

-- a text
abbrev pub Bytes : Type 0
Bytes = List ℕ

-- "0" to "9"
abbrev pub is_digit : ℕ → Bool
is_digit b = between 48 57 b

-- a blank; or tab, line feed, vertical tab, form feed, carriage return
abbrev pub is_white : ℕ → Bool
is_white b = or (eqb b 32) (between 9 13 b)

-- "All memory is u32 words": the largest
abbrev pub most_word : ℕ
most_word = 4294967295

-- where a reading stands, and the numbers that it found
pub record Numbers : Type 0 where
  pub place : Place
  pub found : Words

-- a reading at a place
abbrev pub at : Place → Words → Numbers
at p ns = record { place = p; found = ns }

-- a number is under way with this value, if it is one word
unfoldable pub grown : ℕ → Place
grown v = pick (leb v most_word) (Within v) Unread

-- one byte where no number is under way
unfoldable pub outside : ℕ → Place
outside b = pick (is_digit b) (grown (b - 48)) (pick (is_white b) Between Unread)

-- one number more, if there is room for it
unfoldable pub added : ℕ → Words → ℕ → Numbers
added room ns v = pick (ltb (length ns) room) (at Between (ns ++ (v ∷ []))) (at Unread ns)

-- one byte; other bytes than digits and white space are "other input"
unfoldable pub byte_at : ℕ → Place → Words → ℕ → Numbers
byte_at room Unread ns b = at Unread ns
byte_at room Between ns b = at (outside b) ns
byte_at room (Within v) ns b = pick (is_digit b) (at (grown (10 * v + (b - 48))) ns) (pick (is_white b) (added room ns v) (at Unread ns))

-- one byte, wherever the reading stands
abbrev pub byte : ℕ → Numbers → ℕ → Numbers
byte room s b = byte_at room s.place s.found b

-- the bytes one after the other
unfoldable pub bytes : ℕ → Numbers → Bytes → Numbers
bytes room s [] = s
bytes room s (b ∷ bs) = bytes room (byte room s b) bs

-- the text ends: a number under way is one more
unfoldable pub last_at : ℕ → Place → Words → Numbers
last_at room Unread ns = at Unread ns
last_at room Between ns = at Between ns
last_at room (Within v) ns = added room ns v

-- the end, wherever the reading stands
abbrev pub last : ℕ → Numbers → Numbers
last room s = last_at room s.place s.found

-- before the first byte
abbrev pub start : Numbers
start = at Between []

-- THE NUMBERS OF A TEXT, with room for so many; the place is Between where it holds nothing but numbers
unfoldable pub numbers : ℕ → Bytes → Numbers
numbers room text = last room (bytes room start text)

-- may a text that was read so far be an input?
abbrev pub may_be : Place → Bool
may_be Unread = false
may_be Between = true
may_be (Within v) = true

-- IN PIECES, as the system's `read` delivers them: it answers a count and puts so many bytes at the start of a buffer, or it fails and answers none

-- the reading after one: a read that failed leaves a text unread, no bytes are its end
unfoldable pub delivered : ℕ → Numbers → Answer ℕ → Bytes → Numbers
delivered room s None buffer = at Unread []
delivered room s (Some zero) buffer = last room s
delivered room s (Some (suc n)) buffer = bytes room s (take (suc n) buffer)

-- may there be more, where a reading stands after it?
unfoldable pub more_after : Answer ℕ → Place → Bool
more_after None p = false
more_after (Some zero) p = false
more_after (Some (suc n)) p = may_be p

-- one answer of `read`
pub record Delivery : Type 0 where
  pub got : Answer ℕ
  pub buffer : Bytes

-- the reading over deliveries, one after the other, up to where there is no more; none if there may still be more
unfoldable pub read_over : ℕ → Numbers → List Delivery → Option Numbers
read_over room s [] = none
read_over room s (d ∷ ds) =
    let t = delivered room s d.got d.buffer in
    pick (more_after d.got t.place) (read_over room t ds) (some t)

-- the bytes of one, and the text that the others bring
unfoldable pub joined : Answer ℕ → Bytes → Option Bytes → Option Bytes
joined None buffer rest = none
joined (Some zero) buffer rest = some []
joined (Some (suc n)) buffer none = none
joined (Some (suc n)) buffer (some rest) = some (take (suc n) buffer ++ rest)

-- the text that deliveries bring; none if a read failed, or if its end did not come
unfoldable pub text_of : List Delivery → Option Bytes
text_of [] = none
text_of (d ∷ ds) = joined d.got d.buffer (text_of ds)

-- WHAT THE CODE PROMISES

-- what a reading's answer says, with the words as they are
abbrev pub said : Reading → Words → Numbers
said r ws = at r.place (take r.count ws)

-- the answer, and the words afterwards: the numbers from word 0 on, the rest unchanged
pub record Stands (s : Numbers) (before : Words) (r : Reading) (after : Words) : Type 0 where
  pub place : r.place ≡ s.place
  pub count : r.count ≡ length s.found
  pub words : after ≡ s.found ++ drop (length s.found) before

-- the answer to a piece: the reading, the words afterwards, and whether there may be more
pub record Delivers (got : Answer ℕ) (s : Numbers) (before : Words) (r : Piece) (after : Words) : Type 0 where
  pub read : Stands s before r.read after
  pub more : r.more ≡ more_after got s.place

-- Reading words at a position. A reader gives what it read and the next position, or a refusal: its number, and the word at fault.
-- Assumes nothing: these are definitions.
use Rattle.std.specs.Prelude.{ℕ, zero, suc, ◌+◌, List, [], ◌∷◌, Bool, true, false, length, get_or, ltb, leb}

-- "All memory is u32 words, counted from 0"
abbrev pub Words : Type 0
Words = List ℕ

-- one of two, by a test
abbrev pub pick : {A : Type 0} → Bool → A → A → A
pick true a b = a
pick false a b = b

-- both tests
abbrev pub and : Bool → Bool → Bool
and true b = b
and false b = false

-- either test
abbrev pub or : Bool → Bool → Bool
or true b = true
or false b = b

-- is the number from low to high?
abbrev pub between : ℕ → ℕ → ℕ → Bool
between low high w = and (leb low w) (leb w high)

-- what a reading comes to
pub data Read (A : Type 0) : Type 0 where
  -- what was read, and the position of the next word
  value : A → ℕ → Read A
  -- the refusal's number, and its position
  refused : ℕ → ℕ → Read A

-- a reading from a position on
abbrev pub Reader : Type 0 → Type 0
Reader A = ℕ → Read A

-- goes on with what was read; a refusal is the end
abbrev pub and_then : {A B : Type 0} → Read A → (A → Reader B) → Read B
and_then (value a next) f = f a next
and_then (refused n p) f = refused n p

-- one reader after the other, by what the first read
abbrev pub ◌>>=◌ : {A B : Type 0} → Reader A → (A → Reader B) → Reader B
◌>>=◌ r f at = and_then (r at) f

-- one reader after the other
abbrev pub ◌>>◌ : {A B : Type 0} → Reader A → Reader B → Reader B
◌>>◌ r s at = and_then (r at) (λ a. s)

-- reads nothing
abbrev pub return : {A : Type 0} → A → Reader A
return a at = value a at

-- the refusal n at this word
abbrev pub refuse : {A : Type 0} → ℕ → Reader A
refuse n at = refused n at

-- goes on if the test holds; otherwise the refusal n, k words on from here
abbrev pub require : Bool → ℕ → ℕ → Reader (Unit {0})
require ok n k at = pick ok (value tt at) (refused n (at + k))

-- one word; if the words end before it, the refusal `ends` at the length
unfoldable pub word : ℕ → Words → Reader ℕ
word ends ws at = pick (ltb at (length ws)) (value (get_or ws at 0) (at + 1)) (refused ends (length ws))

-- one word from low to high; otherwise the refusal `fault` at the word
unfoldable pub word_in : ℕ → ℕ → Words → ℕ → ℕ → Reader ℕ
word_in ends fault ws low high at = and_then (word ends ws at) (λ w next. pick (between low high w) (value w next) (refused fault at))

-- the same reader k times
unfoldable pub many : {A : Type 0} → ℕ → Reader A → Reader (List A)
many zero r = return []
many (suc k) r = do
  a ← r
  more ← many k r
  return (a ∷ more)

-- the words end here; otherwise the refusal `ends` at the first left over
unfoldable pub end : ℕ → Words → Reader (Unit {0})
end ends ws at = pick (ltb at (length ws)) (refused ends at) (value tt at)

-- was it read, or refused?
abbrev pub accepted : {A : Type 0} → Read A → Bool
accepted (value a next) = true
accepted (refused n p) = false

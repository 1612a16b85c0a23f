-- What the code hands back of a reading, and the comparison of words. Assumes nothing: these are definitions.
use Rattle.std.specs.Prelude.{ℕ, [], ◌∷◌, Bool, true, false, eqb, Result, Ok, Err}
use Rattle.words.specs.Reader.{Words, and, Read, value, refused}

-- a check's answer: nothing refused, with the position after what was read; or the paper's number and position of the refusal
abbrev pub answer : {A : Type 0} → Read A → Result ℕ (ℕ × ℕ)
answer (value a next) = Ok next
answer (refused n p) = Err (n, p)

-- one word's reading: the word and the next position, or the refusal
abbrev pub got : Read ℕ → Result (ℕ × ℕ) (ℕ × ℕ)
got (value w next) = Ok (w, next)
got (refused n p) = Err (n, p)

-- what the code makes of what was read, and the next position; or the refusal
abbrev pub shown : {A B : Type 0} → (A → B) → Read A → Result (B × ℕ) (ℕ × ℕ)
shown f (value a next) = Ok (f a, next)
shown f (refused n p) = Err (n, p)

-- are the words the same?
unfoldable pub equal_words : Words → Words → Bool
equal_words [] [] = true
equal_words [] (w ∷ ws) = false
equal_words (v ∷ vs) [] = false
equal_words (v ∷ vs) (w ∷ ws) = and (eqb v w) (equal_words vs ws)

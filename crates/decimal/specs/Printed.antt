-- WHAT IS PRINTED of an outcome, down to the bytes. Assumes nothing: these are definitions.
use Rattle.std.specs.Prelude.{ℕ, zero, suc, ◌+◌, ◌≤◌, ◌/◌, ◌%◌, ◌≡◌, [], ◌∷◌, ◌++◌, length, take, drop, ltb}
use Rattle.words.specs.Reader.{Words, pick}
use Rattle.meaning.specs.Meaning.{done, stopped, cannot_go_on}
use Rattle.meaning.specs.Outcome.{Outcome, refused, ended}
use Rattle.decimal.specs.Numbers.{Bytes}

-- a number's last digits, at most so many, the most significant first
unfoldable pub digits : ℕ → ℕ → Bytes
digits zero n = []
digits (suc k) n = pick (ltb n 10) ((48 + n) ∷ []) (digits k (n / 10) ++ ((48 + n % 10) ∷ []))

-- a number of 64 bits has at most 20 digits
abbrev pub most_digits : ℕ
most_digits = 20

-- a number in digits
abbrev pub decimal : ℕ → Bytes
decimal n = digits most_digits n

-- a blank and a number
abbrev pub spaced : ℕ → Bytes
spaced n = 32 ∷ decimal n

-- each number after a blank
unfoldable pub all_spaced : Words → Bytes
all_spaced [] = []
all_spaced (w ∷ ws) = spaced w ++ all_spaced ws

-- the end of a line
abbrev pub line_end : Bytes
line_end = 10 ∷ []

-- a line of numbers, with single blanks between them
unfoldable pub line : Words → Bytes
line [] = line_end
line (w ∷ ws) = decimal w ++ (all_spaced ws ++ line_end)

-- "trials, replacements, words; the tree", with its counts
unfoldable pub counts : ℕ → ℕ → Words → Bytes
counts attempts replacements ws = spaced attempts ++ (spaced replacements ++ (spaced (length ws) ++ (line_end ++ line ws)))

-- "unread"
abbrev pub unread_word : Bytes
unread_word = 117 ∷ 110 ∷ 114 ∷ 101 ∷ 97 ∷ 100 ∷ []

-- "refused"
abbrev pub refused_word : Bytes
refused_word = 114 ∷ 101 ∷ 102 ∷ 117 ∷ 115 ∷ 101 ∷ 100 ∷ []

-- "done"
abbrev pub done_word : Bytes
done_word = 100 ∷ 111 ∷ 110 ∷ 101 ∷ []

-- "stopped"
abbrev pub stopped_word : Bytes
stopped_word = 115 ∷ 116 ∷ 111 ∷ 112 ∷ 112 ∷ 101 ∷ 100 ∷ []

-- "other input .. `unread`"
abbrev pub printed_unread : Bytes
printed_unread = unread_word ++ line_end

-- "(ending, trials, replacements, words; the tree). A stop prints `stopped`, its number, then the same; a refusal `refused`, number, position"
unfoldable pub printed : Outcome → Bytes
printed (refused n p) = refused_word ++ (spaced n ++ (spaced p ++ line_end))
printed (ended done a k ws) = done_word ++ counts a k ws
printed (ended (stopped n) a k ws) = stopped_word ++ (spaced n ++ counts a k ws)
-- no outcome ends so
printed (ended cannot_go_on a k ws) = []

-- WHAT THE CODE PROMISES

-- a text is put at a position, as much of it as there is room for; r is the position after it, and the rest is unchanged
pub record Put (before : Bytes) (at : ℕ) (what : Bytes) (r : ℕ) (after : Bytes) : Type 0 where
  pub text : take r after ≡ take (length before) (take at before ++ what)
  pub rest : drop r after ≡ drop r before
  pub more : at ≤ r
  pub fits : r ≤ length before
  pub long : length after ≡ length before

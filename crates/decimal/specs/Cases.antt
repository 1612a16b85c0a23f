-- Texts, the inputs that they are, and what is printed: tables, each with one proof. Texts are written as bytes. Assumes nothing.
use Rattle.std.specs.Prelude.{ℕ, ◌≡◌, refl, List, [], ◌∷◌, ◌++◌, map, replicate}
use Rattle.std.specs.Prelude.{Option as Answer, Some, None}
use Rattle.std.proofs.Math.Option.{Option, none, some}
use Rattle.words.specs.Reader.{Words}
use Rattle.meaning.specs.Meaning.{done, stopped}
use Rattle.meaning.specs.Outcome.{Inputs, refused, ended}
use Rattle.decimal.specs.Numbers.{Bytes, Numbers, at, byte_at, bytes, added, grown, outside, last_at, start, numbers, delivered, more_after, Delivery, read_over, joined, text_of}
use Rattle.decimal.specs.Input.{counted, whole, input, input_at, input_from}
use Rattle.decimal.specs.Printed.{digits, decimal, all_spaced, line, counts, printed}
use Rattle.decimal.specs.declared.numbers.Place.TheVariants.{Unread, Between}

-- THE NUMBERS OF A TEXT, with room for four
texts : List Bytes
texts =
    -- nothing; white space of every kind
    []
    ∷ (32 ∷ 9 ∷ 10 ∷ 11 ∷ 12 ∷ 13 ∷ [])
    -- "7", "007 10\n"
    ∷ (55 ∷ [])
    ∷ (48 ∷ 48 ∷ 55 ∷ 32 ∷ 49 ∷ 48 ∷ 10 ∷ [])
    -- "4294967295", "4294967296"
    ∷ (52 ∷ 50 ∷ 57 ∷ 52 ∷ 57 ∷ 54 ∷ 55 ∷ 50 ∷ 57 ∷ 53 ∷ [])
    ∷ (52 ∷ 50 ∷ 57 ∷ 52 ∷ 57 ∷ 54 ∷ 55 ∷ 50 ∷ 57 ∷ 54 ∷ [])
    -- "1 -2", "+1", "1.5", "1,5", "0x1", a zero byte, a byte above 127
    ∷ (49 ∷ 32 ∷ 45 ∷ 50 ∷ [])
    ∷ (43 ∷ 49 ∷ [])
    ∷ (49 ∷ 46 ∷ 53 ∷ [])
    ∷ (49 ∷ 44 ∷ 53 ∷ [])
    ∷ (48 ∷ 120 ∷ 49 ∷ [])
    ∷ (49 ∷ 0 ∷ [])
    ∷ (49 ∷ 160 ∷ [])
    -- "1 2 3 4", "1 2 3 4 5", "1 2 3 4 5 "
    ∷ (49 ∷ 32 ∷ 50 ∷ 32 ∷ 51 ∷ 32 ∷ 52 ∷ [])
    ∷ (49 ∷ 32 ∷ 50 ∷ 32 ∷ 51 ∷ 32 ∷ 52 ∷ 32 ∷ 53 ∷ [])
    ∷ (49 ∷ 32 ∷ 50 ∷ 32 ∷ 51 ∷ 32 ∷ 52 ∷ 32 ∷ 53 ∷ 32 ∷ [])
    ∷ []

read : List Numbers
read =
    at Between []
    ∷ at Between []
    ∷ at Between (7 ∷ [])
    ∷ at Between (7 ∷ 10 ∷ [])
    ∷ at Between (4294967295 ∷ [])
    ∷ at Unread []
    ∷ at Unread (1 ∷ [])
    ∷ at Unread []
    ∷ at Unread []
    ∷ at Unread []
    ∷ at Unread []
    ∷ at Unread []
    ∷ at Unread []
    ∷ at Between (1 ∷ 2 ∷ 3 ∷ 4 ∷ [])
    ∷ at Unread (1 ∷ 2 ∷ 3 ∷ 4 ∷ [])
    ∷ at Unread (1 ∷ 2 ∷ 3 ∷ 4 ∷ [])
    ∷ []

texts_read : map (numbers 4) texts ≡ read
unfolding grown outside added byte_at bytes last_at numbers texts read
texts_read = refl

-- A TEXT IN PIECES, with room for four

abbrev piece : Answer ℕ → Bytes → Delivery
piece got buffer = record { got = got; buffer = buffer }

pieces : List (List Delivery)
pieces =
    -- "1", "2 3" in a longer buffer, the end: "12 3"
    (piece (Some 1) (49 ∷ []) ∷ piece (Some 3) (50 ∷ 32 ∷ 51 ∷ 57 ∷ []) ∷ piece (Some 0) [] ∷ [])
    -- the end at once
    ∷ (piece (Some 0) (49 ∷ []) ∷ [])
    -- a read that fails, after "1 "; a wrong byte, and no end; "1", and no end
    ∷ (piece (Some 2) (49 ∷ 32 ∷ []) ∷ piece None [] ∷ [])
    ∷ (piece (Some 3) (49 ∷ 32 ∷ 45 ∷ []) ∷ [])
    ∷ (piece (Some 1) (49 ∷ []) ∷ [])
    ∷ []

pieces_read : map (read_over 4 start) pieces ≡ (some (at Between (12 ∷ 3 ∷ [])) ∷ some (at Between []) ∷ some (at Unread []) ∷ some (at Unread (1 ∷ [])) ∷ none ∷ [])
unfolding grown outside added byte_at bytes last_at delivered more_after read_over pieces
pieces_read = refl

pieces_text : map text_of pieces ≡ (some (49 ∷ 50 ∷ 32 ∷ 51 ∷ []) ∷ some [] ∷ none ∷ none ∷ none ∷ [])
unfolding joined text_of pieces
pieces_text = refl

-- THE PARTS OF AN INPUT

abbrev one : ℕ → Words → Words → Words → Option Inputs
one budget grammar rules slip = some (record { budget = budget; grammar = grammar; rules = rules; slip = slip })

rows : List Words
rows =
    (3 ∷ 2 ∷ 8 ∷ 1 ∷ 1 ∷ 9 ∷ 0 ∷ [])
    -- lengths of 0
    ∷ (3 ∷ 0 ∷ 0 ∷ 0 ∷ [])
    -- no number; only a budget; no length of a slip; a word short; one left over
    ∷ []
    ∷ (3 ∷ [])
    ∷ (3 ∷ 0 ∷ 0 ∷ [])
    ∷ (3 ∷ 0 ∷ 0 ∷ 2 ∷ 7 ∷ [])
    ∷ (3 ∷ 0 ∷ 0 ∷ 0 ∷ 0 ∷ [])
    -- one past each limit, and two past it
    ∷ ((3 ∷ 4097 ∷ []) ++ (replicate 4097 1 ++ (0 ∷ 0 ∷ [])))
    ∷ ((3 ∷ 4098 ∷ []) ++ (replicate 4098 1 ++ (0 ∷ 0 ∷ [])))
    ∷ ((3 ∷ 0 ∷ 0 ∷ 6146 ∷ []) ++ replicate 6146 1)
    ∷ ((3 ∷ 0 ∷ 0 ∷ 6145 ∷ []) ++ replicate 6145 1)
    ∷ []

parts : List (Option Inputs)
parts =
    one 3 (8 ∷ 1 ∷ []) (9 ∷ []) []
    ∷ one 3 [] [] []
    ∷ none
    ∷ none
    ∷ none
    ∷ none
    ∷ none
    ∷ one 3 (replicate 4097 1) [] []
    ∷ none
    ∷ none
    ∷ one 3 [] [] (replicate 6145 1)
    ∷ []

rows_parted : map input rows ≡ parts
unfolding counted whole input rows parts
rows_parted = refl

-- "3 1 8 1 9 0" and "3 1 8 1 9"
whole_text : map input_from ((51 ∷ 32 ∷ 49 ∷ 32 ∷ 56 ∷ 32 ∷ 49 ∷ 32 ∷ 57 ∷ 32 ∷ 48 ∷ []) ∷ (51 ∷ 32 ∷ 49 ∷ 32 ∷ 56 ∷ 32 ∷ 49 ∷ 32 ∷ 57 ∷ []) ∷ []) ≡ one 3 (8 ∷ []) (9 ∷ []) [] ∷ none ∷ []
unfolding grown outside added byte_at bytes last_at numbers counted whole input input_at input_from
whole_text = refl

-- WHAT IS PRINTED

-- "0", "7", "10", "4200", "4294967295", "18446744073709551615"
numbers_printed : map decimal (0 ∷ 7 ∷ 10 ∷ 4200 ∷ 4294967295 ∷ 18446744073709551615 ∷ []) ≡
    (48 ∷ [])
    ∷ (55 ∷ [])
    ∷ (49 ∷ 48 ∷ [])
    ∷ (52 ∷ 50 ∷ 48 ∷ 48 ∷ [])
    ∷ (52 ∷ 50 ∷ 57 ∷ 52 ∷ 57 ∷ 54 ∷ 55 ∷ 50 ∷ 57 ∷ 53 ∷ [])
    ∷ (49 ∷ 56 ∷ 52 ∷ 52 ∷ 54 ∷ 55 ∷ 52 ∷ 52 ∷ 48 ∷ 55 ∷ 51 ∷ 55 ∷ 48 ∷ 57 ∷ 53 ∷ 53 ∷ 49 ∷ 54 ∷ 49 ∷ 53 ∷ [])
    ∷ []
unfolding digits
numbers_printed = refl

-- "refused 31 2\n", "done 3 1 4\n0 0 1 1\n", "stopped 40 2 0 2\n0 10\n"
outcomes_printed : map printed (refused 31 2 ∷ ended done 3 1 (0 ∷ 0 ∷ 1 ∷ 1 ∷ []) ∷ ended (stopped 40) 2 0 (0 ∷ 10 ∷ []) ∷ []) ≡
    (114 ∷ 101 ∷ 102 ∷ 117 ∷ 115 ∷ 101 ∷ 100 ∷ 32 ∷ 51 ∷ 49 ∷ 32 ∷ 50 ∷ 10 ∷ [])
    ∷ (100 ∷ 111 ∷ 110 ∷ 101 ∷ 32 ∷ 51 ∷ 32 ∷ 49 ∷ 32 ∷ 52 ∷ 10 ∷ 48 ∷ 32 ∷ 48 ∷ 32 ∷ 49 ∷ 32 ∷ 49 ∷ 10 ∷ [])
    ∷ (115 ∷ 116 ∷ 111 ∷ 112 ∷ 112 ∷ 101 ∷ 100 ∷ 32 ∷ 52 ∷ 48 ∷ 32 ∷ 50 ∷ 32 ∷ 48 ∷ 32 ∷ 50 ∷ 10 ∷ 48 ∷ 32 ∷ 49 ∷ 48 ∷ 10 ∷ [])
    ∷ []
unfolding digits all_spaced line counts printed
outcomes_printed = refl

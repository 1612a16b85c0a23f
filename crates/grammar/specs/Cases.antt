-- The single check of a grammar, run on document 01's grammars, their near misses and damaged ones; the values of tokens at their limits: a table and a proof each. Assumes nothing.
use Rattle.std.specs.Prelude.{◌≡◌, refl, List, [], ◌∷◌, ◌++◌, map, Bool, true, false, replicate, ℕ, Result, Ok, Err}
use Rattle.words.specs.Reader.{Words, word, word_in, many, end}
use Rattle.words.specs.Views.{answer}
use Rattle.grammar.specs.Grammar.{token, types_of, field, element, form, kind, grammar, all_known, any_form_known, finishes, round, rounds, finite, finite_records, read_grammar, grammar_fits, check_grammar}
use Rattle.grammar.specs.Kinds.{allows}

run : Words → (Result ℕ (ℕ × ℕ))
run ws = answer (check_grammar ws)

inputs : List Words
inputs =
    -- program of sequence number; then ended early at each kind of word, and with a word left over
    (3 ∷ 8 ∷ 1 ∷ 1 ∷ 1 ∷ 4 ∷ 2 ∷ 1 ∷ 2 ∷ [])
    ∷ []
    ∷ (3 ∷ [])
    ∷ (3 ∷ 8 ∷ [])
    ∷ (3 ∷ 8 ∷ 1 ∷ [])
    ∷ (3 ∷ 8 ∷ 1 ∷ 1 ∷ [])
    ∷ (3 ∷ 8 ∷ 1 ∷ 1 ∷ 1 ∷ 4 ∷ [])
    ∷ (3 ∷ 8 ∷ 1 ∷ 1 ∷ 1 ∷ 4 ∷ 2 ∷ 1 ∷ [])
    ∷ (3 ∷ 8 ∷ 1 ∷ 1 ∷ 1 ∷ 4 ∷ 2 ∷ 1 ∷ 2 ∷ 0 ∷ [])
    -- program of list number; ended early
    ∷ (3 ∷ 8 ∷ 1 ∷ 1 ∷ 1 ∷ 16 ∷ 2 ∷ 1 ∷ 2 ∷ [])
    ∷ (3 ∷ 8 ∷ 1 ∷ 1 ∷ 1 ∷ 16 ∷ [])
    -- counts of types: none, 65
    ∷ (0 ∷ [])
    ∷ (65 ∷ [])
    -- maps: none, two bits, a list's and another, a bit that is not listed
    ∷ (1 ∷ 0 ∷ [])
    ∷ (1 ∷ 3 ∷ 1 ∷ [])
    ∷ (1 ∷ 17 ∷ 1 ∷ [])
    ∷ (1 ∷ 20 ∷ 0 ∷ [])
    ∷ (1 ∷ 32 ∷ 1 ∷ [])
    -- classes 0 to 4
    ∷ (1 ∷ 1 ∷ 0 ∷ [])
    ∷ (1 ∷ 1 ∷ 1 ∷ [])
    ∷ (1 ∷ 1 ∷ 3 ∷ [])
    ∷ (1 ∷ 1 ∷ 4 ∷ [])
    -- an opt, a repeat and a list of a type that is not there, of a literal, of themselves
    ∷ (1 ∷ 2 ∷ 1 ∷ [])
    ∷ (1 ∷ 16 ∷ 1 ∷ [])
    ∷ (1 ∷ 4 ∷ 65536 ∷ [])
    ∷ (1 ∷ 16 ∷ 65536 ∷ [])
    ∷ (1 ∷ 2 ∷ 0 ∷ [])
    ∷ (1 ∷ 4 ∷ 0 ∷ [])
    ∷ (1 ∷ 16 ∷ 0 ∷ [])
    -- forms: none, 17, an empty one, nine elements
    ∷ (1 ∷ 8 ∷ 0 ∷ [])
    ∷ (1 ∷ 8 ∷ 17 ∷ [])
    ∷ (1 ∷ 8 ∷ 1 ∷ 0 ∷ [])
    ∷ (1 ∷ 8 ∷ 1 ∷ 9 ∷ [])
    ∷ (1 ∷ 8 ∷ 16 ∷ [] ++ replicate 16 0)
    -- elements: both ends of the literals, and what lies beyond
    ∷ (1 ∷ 8 ∷ 1 ∷ 2 ∷ 65536 ∷ 131071 ∷ [])
    ∷ (1 ∷ 8 ∷ 1 ∷ 2 ∷ 65536 ∷ 131072 ∷ [])
    ∷ (1 ∷ 8 ∷ 1 ∷ 2 ∷ 65535 ∷ 131072 ∷ [])
    -- a type of which no finite tree exists: by itself; as the lower of two; not reached from type 0; behind a word left over
    ∷ (1 ∷ 8 ∷ 1 ∷ 1 ∷ 0 ∷ [])
    ∷ (3 ∷ 1 ∷ 1 ∷ 8 ∷ 1 ∷ 1 ∷ 2 ∷ 8 ∷ 1 ∷ 1 ∷ 1 ∷ [])
    ∷ (2 ∷ 1 ∷ 1 ∷ 8 ∷ 2 ∷ 1 ∷ 1 ∷ 2 ∷ 0 ∷ 1 ∷ [])
    ∷ (1 ∷ 8 ∷ 1 ∷ 1 ∷ 0 ∷ 7 ∷ [])
    -- finished only in the third round, from the last type to the first
    ∷ (3 ∷ 8 ∷ 1 ∷ 1 ∷ 1 ∷ 8 ∷ 1 ∷ 1 ∷ 2 ∷ 8 ∷ 1 ∷ 0 ∷ [])
    ∷ []

outputs : List (Result ℕ (ℕ × ℕ))
outputs =
    Ok 9
    ∷ Err (10, 0)
    ∷ Err (10, 1)
    ∷ Err (10, 2)
    ∷ Err (10, 3)
    ∷ Err (10, 4)
    ∷ Err (10, 6)
    ∷ Err (10, 8)
    ∷ Err (10, 9)
    ∷ Ok 9
    ∷ Err (10, 6)
    ∷ Err (11, 0)
    ∷ Err (11, 0)
    ∷ Err (11, 1)
    ∷ Err (11, 1)
    ∷ Err (11, 1)
    ∷ Err (11, 1)
    ∷ Err (11, 1)
    ∷ Err (11, 2)
    ∷ Ok 3
    ∷ Ok 3
    ∷ Err (11, 2)
    ∷ Err (11, 2)
    ∷ Err (11, 2)
    ∷ Err (11, 2)
    ∷ Err (11, 2)
    ∷ Ok 3
    ∷ Ok 3
    ∷ Ok 3
    ∷ Err (11, 2)
    ∷ Err (11, 2)
    ∷ Ok 4
    ∷ Err (11, 3)
    ∷ Ok 19
    ∷ Ok 6
    ∷ Err (11, 5)
    ∷ Err (11, 4)
    ∷ Err (12, 1)
    ∷ Err (12, 3)
    ∷ Err (12, 3)
    ∷ Err (10, 5)
    ∷ Ok 12
    ∷ []

right : map run inputs ≡ outputs
unfolding word word_in many end types_of field element form kind grammar all_known any_form_known finishes round rounds finite finite_records read_grammar grammar_fits check_grammar run inputs outputs
right = refl

-- THE VALUES OF A TOKEN, at and past the most of a number, a name and a string

values : List Bool
values = allows (token 2) 4000000000 ∷ allows (token 2) 4000000001 ∷ allows (token 1) 65535 ∷ allows (token 1) 65536 ∷ allows (token 3) 65535 ∷ allows (token 3) 65536 ∷ []

-- T-02: "4,000,000,000 passes and 4,000,000,001 is refused"
values_right : values ≡ true ∷ false ∷ true ∷ false ∷ true ∷ false ∷ []
unfolding allows values
values_right = refl

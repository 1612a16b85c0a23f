-- The limits of a grammar and of the values of its tokens, each named once. Assumes nothing: these are definitions.
use Rattle.std.specs.Prelude.{ℕ}

-- "A grammar has at most 4,096 words"
abbrev pub most_grammar_words : ℕ
most_grammar_words = 4096

-- "the number of types, 1 to 64"
abbrev pub most_types : ℕ
most_types = 64

-- forms: "their count, 1 to 16"
abbrev pub most_forms : ℕ
most_forms = 16

-- "a count of elements, 0 to 8"
abbrev pub most_elements : ℕ
most_elements = 8

-- "65,536 to 131,071 for a literal"
abbrev pub first_literal : ℕ
first_literal = 65536

-- the last of them
abbrev pub last_literal : ℕ
last_literal = 131071

-- "0 to 65,535 for a name or string"
abbrev pub greatest_name : ℕ
greatest_name = 65535

-- T-02: "A number's value now runs to 4,000,000,000 hundredths"
abbrev pub greatest_number : ℕ
greatest_number = 4000000000

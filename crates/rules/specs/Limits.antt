-- The limits of a rule book and the numbers that mark its pairs, each named once. Assumes nothing: these are definitions.
use Rattle.std.specs.Prelude.{ℕ}

-- "The book has at most 16,384 words"
abbrev pub most_rule_words : ℕ
most_rule_words = 16384

-- "the number of rules, 1 to 64"
abbrev pub most_rules : ℕ
most_rules = 64

-- parameters: "count 1 to 4"
abbrev pub most_parameters : ℕ
most_parameters = 4

-- parts: "count 1 to 8"
abbrev pub most_parts : ℕ
most_parts = 8

-- "a count of pairs, 1 to 128"
abbrev pub most_pairs : ℕ
most_pairs = 128

-- "Variables are numbered from 0 as they arise ..; at most 16 a rule"
abbrev pub most_variables : ℕ
most_variables = 16

-- "(K, 0) with K 1 to 4"
abbrev pub most_applications : ℕ
most_applications = 4

-- "(64, type) in a pattern, a new variable"
abbrev pub mark_new : ℕ
mark_new = 64

-- "(65, variable), in a pattern matching only the same tree, in a replacement a copy"
abbrev pub mark_variable : ℕ
mark_variable = 65

-- "a group: (66, variable)"
abbrev pub mark_chain : ℕ
mark_chain = 66

-- The limits of a tree, each named once. Assumes nothing: these are definitions.
use Rattle.std.specs.Prelude.{ℕ}

-- 30: "over 4,096" words
abbrev pub most_tree_words : ℕ
most_tree_words = 4096

-- "The slip may have 6,144 words", with its counts
abbrev pub most_slip_words : ℕ
most_slip_words = 6144

-- "A tree has 1 to 2,048 nodes"
abbrev pub most_nodes : ℕ
most_nodes = 2048

-- nesting: "The most is 64"
abbrev pub most_nesting : ℕ
most_nesting = 64

-- The readers of a slip and the single check, run: each case of T-07, each refusal's number and position, which of two comes first, and both editions.
-- Assumes nothing.
use Rattle.std.specs.Prelude.{◌≡◌, refl, List, [], ◌∷◌, ◌++◌, map, Bool, true, false, ℕ, zero, suc}
use Rattle.words.specs.Reader.{Words, Read, value, refused, word, word_in, many, end}
use Rattle.grammar.specs.Grammar.{repeat, list, token, opt, sequence, forms, Grammar, types_of, field, element, form, kind, grammar, all_known, any_form_known, finishes, round, rounds, finite, finite_records, read_grammar, grammar_fits, check_grammar}
use Rattle.grammar.specs.Kinds.{kind_of, allows, allowed, children_of, children}
use Rattle.tree.specs.Tree.{size, levels_of, levels, first}
use Rattle.tree.specs.Dues.{pairs, whole}
use Rattle.tree.specs.Reading.{dues_of, meets_node, read_tree_of}
use Rattle.tree.specs.Slip.{uncounted, counted, place_in, in_slip, right_counts, read_slip, read_edition, check_slip}

-- program of repeat number
numbers : Grammar
numbers = forms ((1 ∷ []) ∷ []) ∷ sequence repeat 2 ∷ token 2 ∷ []

-- a name and an opt of a list of names, or nothing
names : Grammar
names = forms ((1 ∷ 2 ∷ []) ∷ [] ∷ []) ∷ token 1 ∷ opt 3 ∷ sequence list 1 ∷ []

-- a form of one type, an opt of the root: it nests
nests : Grammar
nests = forms ((1 ∷ []) ∷ []) ∷ opt 0 ∷ []

-- "The example slip becomes 0 0 6, 1 0 5, 2 200 1, 1 0 3, 2 500 1, 1 1 1"
example : Words
example = 0 ∷ 0 ∷ 6 ∷ 1 ∷ 0 ∷ 5 ∷ 2 ∷ 200 ∷ 1 ∷ 1 ∷ 0 ∷ 3 ∷ 2 ∷ 500 ∷ 1 ∷ 1 ∷ 1 ∷ 1 ∷ []

twelve : Words
twelve = 0 ∷ 0 ∷ 1 ∷ 0 ∷ 2 ∷ 200 ∷ 1 ∷ 0 ∷ 2 ∷ 500 ∷ 1 ∷ 1 ∷ []

-- n times the words, then the others
times : ℕ → Words → Words → Words
times zero a b = b
times (suc n) a b = a ++ times n a b

-- a root and a repeat of n numbers, in the two-word edition
row : ℕ → Words
row n = 0 ∷ 0 ∷ times n (1 ∷ 0 ∷ 2 ∷ 7 ∷ []) (1 ∷ 1 ∷ [])

-- 2 n nodes, root and opt in turn, one in the other, all counts 0
deep : ℕ → Words → Words
deep n b = times n (0 ∷ 0 ∷ 0 ∷ 1 ∷ 0 ∷ 0 ∷ []) b

-- the counts of the example's tree
counts : counted numbers twelve ≡ example
unfolding kind_of children_of children size first counted numbers example twelve
counts = refl

plain : uncounted example ≡ twelve
unfolding uncounted example twelve
plain = refl

-- the example's root, then a repeat that begins with a number
with_number : ℕ → ℕ → Words
with_number n c = 0 ∷ 0 ∷ 4 ∷ 1 ∷ 0 ∷ 3 ∷ 2 ∷ n ∷ c ∷ 1 ∷ 1 ∷ 1 ∷ []

run : Bool × Grammar × Words → Read Words
run p = read_edition p.0 p.1 p.2

inputs : List (Bool × Grammar × Words)
inputs =
    -- the paper's: the example; 0 0 1; 1 1 1 added; a number too large
    (true, numbers, example)
    ∷ (true, numbers, 0 ∷ 0 ∷ 1 ∷ [])
    ∷ (true, numbers, example ++ 1 ∷ 1 ∷ 1 ∷ [])
    ∷ (true, numbers, with_number 4000000001 1)
    -- the greatest number; a type and a form that are not allowed
    ∷ (true, numbers, with_number 4000000000 1)
    ∷ (true, numbers, 0 ∷ 0 ∷ 2 ∷ 2 ∷ 1 ∷ 1 ∷ [])
    ∷ (true, numbers, 0 ∷ 1 ∷ 2 ∷ 1 ∷ 1 ∷ 1 ∷ [])
    -- 30: no words, no multiple of three, before anything that the words hold; the two-word edition
    ∷ (true, numbers, [])
    ∷ (true, numbers, 7 ∷ [])
    ∷ (true, numbers, 0 ∷ 0 ∷ 2 ∷ 1 ∷ [])
    ∷ (true, numbers, example ++ 1 ∷ 1 ∷ [])
    ∷ (true, numbers, 0 ∷ 0 ∷ 1 ∷ 1 ∷ [])
    ∷ (true, numbers, times 2049 (7 ∷ 7 ∷ 7 ∷ []) [])
    ∷ (true, numbers, times 2048 (7 ∷ 7 ∷ 7 ∷ []) [])
    -- 34: the root's count, an inner one, the last one; 0; one that leaves its own node out; the first of two
    ∷ (true, numbers, 0 ∷ 0 ∷ 3 ∷ 1 ∷ 1 ∷ 1 ∷ [])
    ∷ (true, numbers, 0 ∷ 0 ∷ 4 ∷ 1 ∷ 0 ∷ 4 ∷ 2 ∷ 5 ∷ 1 ∷ 1 ∷ 1 ∷ 1 ∷ [])
    ∷ (true, numbers, 0 ∷ 0 ∷ 2 ∷ 1 ∷ 1 ∷ 2 ∷ [])
    ∷ (true, numbers, with_number 5 0)
    ∷ (true, numbers, 0 ∷ 0 ∷ 1 ∷ 1 ∷ 1 ∷ 0 ∷ [])
    ∷ (true, numbers, 0 ∷ 0 ∷ 2 ∷ 1 ∷ 1 ∷ 4294967295 ∷ [])
    -- after 31, 32 and 33 over the whole slip, though a wrong count stand before
    ∷ (true, numbers, 0 ∷ 0 ∷ 9 ∷ [])
    ∷ (true, numbers, 0 ∷ 0 ∷ 9 ∷ 1 ∷ 1 ∷ 1 ∷ 1 ∷ 1 ∷ 1 ∷ [])
    ∷ (true, numbers, 0 ∷ 0 ∷ 9 ∷ 1 ∷ 2 ∷ 1 ∷ [])
    ∷ (true, nests, deep 32 (0 ∷ 0 ∷ 2 ∷ 1 ∷ 1 ∷ 1 ∷ []))
    ∷ (true, nests, deep 31 (0 ∷ 0 ∷ 2 ∷ 1 ∷ 1 ∷ 1 ∷ []))
    -- many nodes: a row of 40 numbers with its counts
    ∷ (true, numbers, counted numbers (row 40))
    -- a form without children, an opt with its element and with none, a list; the opt's own node left out of its count, the list counted as its elements
    ∷ (true, names, 0 ∷ 1 ∷ 1 ∷ [])
    ∷ (true, names, 0 ∷ 0 ∷ 3 ∷ 1 ∷ 7 ∷ 1 ∷ 2 ∷ 1 ∷ 1 ∷ [])
    ∷ (true, names, 0 ∷ 0 ∷ 8 ∷ 1 ∷ 7 ∷ 1 ∷ 2 ∷ 0 ∷ 6 ∷ 3 ∷ 0 ∷ 5 ∷ 1 ∷ 7 ∷ 1 ∷ 3 ∷ 0 ∷ 3 ∷ 1 ∷ 8 ∷ 1 ∷ 3 ∷ 1 ∷ 1 ∷ [])
    ∷ (true, names, 0 ∷ 0 ∷ 8 ∷ 1 ∷ 7 ∷ 1 ∷ 2 ∷ 0 ∷ 5 ∷ 3 ∷ 0 ∷ 5 ∷ 1 ∷ 7 ∷ 1 ∷ 3 ∷ 0 ∷ 3 ∷ 1 ∷ 8 ∷ 1 ∷ 3 ∷ 1 ∷ 1 ∷ [])
    ∷ (true, names, 0 ∷ 0 ∷ 8 ∷ 1 ∷ 7 ∷ 1 ∷ 2 ∷ 0 ∷ 6 ∷ 3 ∷ 0 ∷ 2 ∷ 1 ∷ 7 ∷ 1 ∷ 3 ∷ 0 ∷ 3 ∷ 1 ∷ 8 ∷ 1 ∷ 3 ∷ 1 ∷ 1 ∷ [])
    -- the two-word edition: the example, ends early, words left over, odd, over 4,096, a number too large
    ∷ (false, numbers, twelve)
    ∷ (false, numbers, 0 ∷ 0 ∷ [])
    ∷ (false, numbers, twelve ++ 1 ∷ 1 ∷ [])
    ∷ (false, numbers, 0 ∷ 0 ∷ 1 ∷ [])
    ∷ (false, numbers, times 2049 (7 ∷ 7 ∷ []) [])
    ∷ (false, numbers, 0 ∷ 0 ∷ 1 ∷ 0 ∷ 2 ∷ 4000000001 ∷ 1 ∷ 1 ∷ [])
    -- a slip of one edition read as the other
    ∷ (false, numbers, example)
    ∷ (true, numbers, twelve)
    ∷ []

outputs : List (Read Words)
outputs =
    value twelve 18
    ∷ refused 31 3
    ∷ refused 31 18
    ∷ refused 32 7
    ∷ value (0 ∷ 0 ∷ 1 ∷ 0 ∷ 2 ∷ 4000000000 ∷ 1 ∷ 1 ∷ []) 12
    ∷ refused 32 3
    ∷ refused 32 1
    ∷ refused 30 0
    ∷ refused 30 0
    ∷ refused 30 0
    ∷ refused 30 0
    ∷ refused 30 0
    ∷ refused 30 0
    ∷ refused 32 0
    ∷ refused 34 2
    ∷ refused 34 5
    ∷ refused 34 5
    ∷ refused 34 8
    ∷ refused 34 2
    ∷ refused 34 5
    ∷ refused 31 3
    ∷ refused 31 6
    ∷ refused 32 4
    ∷ refused 33 192
    ∷ refused 34 2
    ∷ value (row 40) 246
    ∷ value (0 ∷ 1 ∷ []) 3
    ∷ value (0 ∷ 0 ∷ 1 ∷ 7 ∷ 2 ∷ 1 ∷ []) 9
    ∷ value (0 ∷ 0 ∷ 1 ∷ 7 ∷ 2 ∷ 0 ∷ 3 ∷ 0 ∷ 1 ∷ 7 ∷ 3 ∷ 0 ∷ 1 ∷ 8 ∷ 3 ∷ 1 ∷ []) 24
    ∷ refused 34 8
    ∷ refused 34 11
    ∷ value twelve 12
    ∷ refused 31 2
    ∷ refused 31 12
    ∷ refused 30 0
    ∷ refused 30 0
    ∷ refused 32 5
    ∷ refused 32 2
    ∷ refused 32 3
    ∷ []

right : map run inputs ≡ outputs
unfolding kind_of allows allowed children_of children size levels_of levels first pairs whole dues_of meets_node read_tree_of uncounted counted place_in in_slip right_counts read_slip read_edition numbers names nests example twelve times row deep with_number run inputs outputs
right = refl

-- THE SINGLE CHECK: the grammar's own refusals come first

checks : List (Read Words)
checks =
    check_slip number_words example
    ∷ check_slip number_words (0 ∷ 0 ∷ 1 ∷ [])
    ∷ check_slip number_words (0 ∷ 0 ∷ 3 ∷ 1 ∷ 1 ∷ 1 ∷ [])
    ∷ check_slip (times 1025 (0 ∷ 0 ∷ 0 ∷ 0 ∷ []) []) []
    ∷ check_slip (1 ∷ 8 ∷ 1 ∷ 1 ∷ 0 ∷ []) []
    ∷ check_slip (3 ∷ 8 ∷ 1 ∷ []) example
    ∷ check_slip (3 ∷ 3 ∷ 1 ∷ []) twelve
    ∷ []
  where
    number_words : Words
    number_words = 3 ∷ 8 ∷ 1 ∷ 1 ∷ 1 ∷ 4 ∷ 2 ∷ 1 ∷ 2 ∷ []

checks_right : checks ≡ value twelve 18 ∷ refused 31 3 ∷ refused 34 2 ∷ refused 4 0 ∷ refused 12 1 ∷ refused 10 3 ∷ refused 11 1 ∷ []
unfolding word word_in many end types_of field element form kind grammar all_known any_form_known finishes round rounds finite finite_records read_grammar grammar_fits check_grammar kind_of allows allowed children_of children size levels_of levels first pairs whole dues_of meets_node read_tree_of uncounted place_in in_slip right_counts read_slip check_slip example twelve times checks
checks_right = refl

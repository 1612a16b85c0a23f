-- The reader of a tree, run, with the grammar's check before it: document 01's cases of the slip's rows in its own edition of two words a node, each refusal's
-- number and position, and which of two comes first. CasesSlip.antt has those that T-07 moves, with counts.
-- Assumes nothing.
use Rattle.std.specs.Prelude.{◌≡◌, refl, List, [], ◌∷◌, ◌++◌, map, ℕ, zero, suc, drop, Result, Ok, Err}
use Rattle.words.specs.Reader.{Words, and_then, word, word_in, many, end}
use Rattle.words.specs.Views.{answer}
use Rattle.grammar.specs.Grammar.{repeat, token, sequence, forms, Grammar, types_of, field, element, form, kind, grammar, all_known, any_form_known, finishes, round, rounds, finite, finite_records, read_grammar, grammar_fits, check_grammar}
use Rattle.grammar.specs.Kinds.{kind_of, allows, allowed, children_of, children}
use Rattle.tree.specs.Tree.{levels_of, levels}
use Rattle.tree.specs.Dues.{pairs, whole}
use Rattle.tree.specs.Owed.{owed}
use Rattle.tree.specs.Reading.{dues_of, meets_node, read_tree_of, read_tree}

-- program of repeat number
numbers : Words
numbers = 3 ∷ 8 ∷ 1 ∷ 1 ∷ 1 ∷ 4 ∷ 2 ∷ 1 ∷ 2 ∷ []

-- program of list number; one type, a list of itself
lists : Words
lists = 3 ∷ 8 ∷ 1 ∷ 1 ∷ 1 ∷ 16 ∷ 2 ∷ 1 ∷ 2 ∷ []

listed : Words
listed = 1 ∷ 16 ∷ 0 ∷ []

-- a form with a literal before its one type, an opt of the root: it nests
nests : Words
nests = 2 ∷ 8 ∷ 1 ∷ 2 ∷ 65536 ∷ 1 ∷ 2 ∷ 0 ∷ []

-- one type, a sequence of itself
itself : Words
itself = 1 ∷ 4 ∷ 0 ∷ []

-- a form of a name and an opt of a number: the root, the name, the opt, the number
pair : Words
pair = 4 ∷ 8 ∷ 1 ∷ 2 ∷ 1 ∷ 2 ∷ 1 ∷ 1 ∷ 2 ∷ 3 ∷ 1 ∷ 2 ∷ []

twelve : Words
twelve = 0 ∷ 0 ∷ 1 ∷ 0 ∷ 2 ∷ 200 ∷ 1 ∷ 0 ∷ 2 ∷ 500 ∷ 1 ∷ 1 ∷ []

-- n times the words, then the others
times : ℕ → Words → Words → Words
times zero a b = b
times (suc n) a b = a ++ times n a b

-- 2 n nodes, root and opt in turn, one in the other
deep : ℕ → Words → Words
deep n b = times n (0 ∷ 0 ∷ 1 ∷ 0 ∷ []) b

run : Words × Words → Result ℕ (ℕ × ℕ)
run p = answer (and_then (check_grammar p.0) (λ g next. read_tree g p.1))

inputs : List (Words × Words)
inputs =
    -- the paper's: the twelve-word slip; slip 0 0 1 1; 0 0; 1 1 added; the greatest number, and one more
    (numbers, twelve)
    ∷ (numbers, 0 ∷ 0 ∷ 1 ∷ 1 ∷ [])
    ∷ (numbers, 0 ∷ 0 ∷ [])
    ∷ (numbers, twelve ++ 1 ∷ 1 ∷ [])
    ∷ (numbers, 0 ∷ 0 ∷ 1 ∷ 0 ∷ 2 ∷ 4000000000 ∷ 1 ∷ 1 ∷ [])
    ∷ (numbers, 0 ∷ 0 ∷ 1 ∷ 0 ∷ 2 ∷ 4000000001 ∷ 1 ∷ 1 ∷ [])
    -- a form that is not there; a sequence may not stand for its element, nor the element for it; no third value of a sequence
    ∷ (numbers, 0 ∷ 1 ∷ 1 ∷ 1 ∷ [])
    ∷ (numbers, 0 ∷ 0 ∷ 1 ∷ 0 ∷ 1 ∷ 1 ∷ [])
    ∷ (numbers, 0 ∷ 0 ∷ 2 ∷ 1 ∷ [])
    ∷ (numbers, 0 ∷ 0 ∷ 1 ∷ 2 ∷ [])
    -- the root of another type; no words, an odd count: before anything the words hold; a type not there
    ∷ (numbers, 1 ∷ 1 ∷ [])
    ∷ (numbers, [])
    ∷ (numbers, 7 ∷ [])
    ∷ (numbers, 7 ∷ 0 ∷ 0 ∷ [])
    ∷ (numbers, 7 ∷ 0 ∷ [])
    -- 4,096 words; two more
    ∷ (numbers, 0 ∷ 0 ∷ times 1023 (1 ∷ 0 ∷ 2 ∷ 7 ∷ []) (1 ∷ 1 ∷ []))
    ∷ (numbers, 0 ∷ 0 ∷ times 1024 (1 ∷ 0 ∷ 2 ∷ 7 ∷ []) [])
    -- the grammar's own refusals come first
    ∷ (times 1025 (0 ∷ 0 ∷ 0 ∷ 0 ∷ []) [], [])
    ∷ (1 ∷ 8 ∷ 1 ∷ 1 ∷ 0 ∷ [], [])
    ∷ (3 ∷ 8 ∷ 1 ∷ [], twelve)
    ∷ (3 ∷ 3 ∷ 1 ∷ [], twelve)
    -- names, opts: the greatest name, one more; an opt with its element, with none, with a third value
    ∷ (pair, 0 ∷ 0 ∷ 1 ∷ 65535 ∷ 2 ∷ 0 ∷ 3 ∷ 4000000000 ∷ [])
    ∷ (pair, 0 ∷ 0 ∷ 1 ∷ 65536 ∷ 2 ∷ 1 ∷ [])
    ∷ (pair, 0 ∷ 0 ∷ 1 ∷ 0 ∷ 2 ∷ 1 ∷ [])
    ∷ (pair, 0 ∷ 0 ∷ 1 ∷ 0 ∷ 2 ∷ 2 ∷ [])
    ∷ (pair, 0 ∷ 0 ∷ 1 ∷ 0 ∷ 2 ∷ 0 ∷ [])
    -- nesting 64; 65; 65 and a wrong type; 65 and a wrong value; 65 due and no words left
    ∷ (nests, deep 31 (0 ∷ 0 ∷ 1 ∷ 1 ∷ []))
    ∷ (nests, deep 32 (0 ∷ 0 ∷ 1 ∷ 1 ∷ []))
    ∷ (nests, deep 32 (1 ∷ 1 ∷ []))
    ∷ (nests, deep 32 (0 ∷ 9 ∷ []))
    ∷ (nests, deep 32 [])
    -- the rest of a sequence has its parent's nesting; an element that is a sequence too is one deeper
    ∷ (numbers, 0 ∷ 0 ∷ times 70 (1 ∷ 0 ∷ 2 ∷ 7 ∷ []) (1 ∷ 1 ∷ []))
    ∷ (itself, times 70 (0 ∷ 0 ∷ 0 ∷ 1 ∷ []) (0 ∷ 1 ∷ []))
    ∷ (itself, times 63 (0 ∷ 0 ∷ []) (times 64 (0 ∷ 1 ∷ []) []))
    ∷ (itself, times 64 (0 ∷ 0 ∷ []) (times 65 (0 ∷ 1 ∷ []) []))
    -- a list: its elements with no nodes between them, none, a third value, an element of another type; its rest and its element nest as a repeat's
    ∷ (lists, twelve)
    ∷ (lists, 0 ∷ 0 ∷ 1 ∷ 1 ∷ [])
    ∷ (lists, 0 ∷ 0 ∷ 1 ∷ 2 ∷ [])
    ∷ (lists, 0 ∷ 0 ∷ 1 ∷ 0 ∷ 1 ∷ 1 ∷ [])
    ∷ (lists, 0 ∷ 0 ∷ times 70 (1 ∷ 0 ∷ 2 ∷ 7 ∷ []) (1 ∷ 1 ∷ []))
    ∷ (listed, times 70 (0 ∷ 0 ∷ 0 ∷ 1 ∷ []) (0 ∷ 1 ∷ []))
    ∷ (listed, times 63 (0 ∷ 0 ∷ []) (times 64 (0 ∷ 1 ∷ []) []))
    ∷ (listed, times 64 (0 ∷ 0 ∷ []) (times 65 (0 ∷ 1 ∷ []) []))
    ∷ []

outputs : List (Result ℕ (ℕ × ℕ))
outputs =
    Ok 12
    ∷ Ok 4
    ∷ Err (31, 2)
    ∷ Err (31, 12)
    ∷ Ok 8
    ∷ Err (32, 5)
    ∷ Err (32, 1)
    ∷ Err (32, 4)
    ∷ Err (32, 2)
    ∷ Err (32, 3)
    ∷ Err (32, 0)
    ∷ Err (30, 0)
    ∷ Err (30, 0)
    ∷ Err (30, 0)
    ∷ Err (32, 0)
    ∷ Ok 4096
    ∷ Err (30, 0)
    ∷ Err (4, 0)
    ∷ Err (12, 1)
    ∷ Err (10, 3)
    ∷ Err (11, 1)
    ∷ Ok 8
    ∷ Err (32, 3)
    ∷ Ok 6
    ∷ Err (32, 5)
    ∷ Err (31, 6)
    ∷ Ok 128
    ∷ Err (33, 128)
    ∷ Err (32, 128)
    ∷ Err (33, 128)
    ∷ Err (31, 128)
    ∷ Ok 284
    ∷ Ok 282
    ∷ Ok 254
    ∷ Err (33, 128)
    ∷ Ok 12
    ∷ Ok 4
    ∷ Err (32, 3)
    ∷ Err (32, 4)
    ∷ Ok 284
    ∷ Ok 282
    ∷ Ok 254
    ∷ Err (33, 128)
    ∷ []

right : map run inputs ≡ outputs
unfolding word word_in many end types_of field element form kind grammar all_known any_form_known finishes round rounds finite finite_records read_grammar grammar_fits check_grammar kind_of allows allowed children_of children levels_of levels pairs whole dues_of meets_node read_tree_of numbers lists listed nests itself pair twelve times deep run inputs outputs
right = refl

-- THE TREES OWED after 0 to 6 nodes of the twelve-word slip, and from its second and its third node on

program : Grammar
program = forms ((1 ∷ []) ∷ []) ∷ sequence repeat 2 ∷ token 2 ∷ []

owing : List (List ℕ)
owing =
    map (λ k. owed program twelve k 1) (0 ∷ 1 ∷ 2 ∷ 3 ∷ 4 ∷ 5 ∷ 6 ∷ [])
    ∷ map (λ k. owed program (drop 2 twelve) k 1) (0 ∷ 1 ∷ 2 ∷ 3 ∷ 4 ∷ 5 ∷ [])
    ∷ map (λ k. owed program (drop 4 twelve) k 1) (0 ∷ 1 ∷ [])
    ∷ []

owing_right : owing ≡ (1 ∷ 1 ∷ 2 ∷ 1 ∷ 2 ∷ 1 ∷ 0 ∷ []) ∷ (1 ∷ 2 ∷ 1 ∷ 2 ∷ 1 ∷ 0 ∷ []) ∷ (1 ∷ 0 ∷ []) ∷ []
unfolding kind_of children_of children owed twelve program owing
owing_right = refl

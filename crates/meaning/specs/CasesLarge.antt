-- Inputs near 2,048 nodes, 6,144 live nodes and nesting 64, each with its outcome: one table, one proof. The letters are the readings', as in CasesRun.antt.
-- Assumes nothing.
use Rattle.std.specs.Prelude.{ℕ, zero, suc, ◌≡◌, refl, List, [], ◌∷◌, ◌++◌, replicate}
use Rattle.words.specs.Reader.{Words}
use Rattle.meaning.specs.Meaning.{done, stopped}
use Rattle.meaning.specs.Outcome.{Outcome, ended, outcome}
use Rattle.meaning.specs.Cases.{Case, large, given, found}
use Rattle.words.specs.Reader as Reader
use Rattle.words.specs.Views as Views
use Rattle.grammar.specs.Grammar as Grammar
use Rattle.grammar.specs.Kinds as Kinds
use Rattle.tree.specs.Tree as Tree
use Rattle.tree.specs.Blanks as Blanks
use Rattle.tree.specs.Sequences as Sequences
use Rattle.tree.specs.Dues as Dues
use Rattle.tree.specs.Reading as Reading
use Rattle.tree.specs.Slip as Slip
use Rattle.rules.specs.Rules as Rules
use Rattle.rules.specs.Layout as Layout
use Rattle.judgement.specs.Wanted as Wanted
use Rattle.judgement.specs.Typing as Typing
use Rattle.meaning.specs.Computation as Computation
use Rattle.meaning.specs.Rounding as Rounding
use Rattle.meaning.specs.Operations as Operations
use Rattle.meaning.specs.Edits as Edits
use Rattle.meaning.specs.Meaning as Meaning
use Rattle.meaning.specs.Outcome as Outcome
use Rattle.meaning.specs.Cases as Cases

-- "Grammar 3 8 1 1 1 4 2 1 2 (program of repeat number)"
numbers : Words
numbers = 3 ∷ 8 ∷ 1 ∷ 1 ∷ 1 ∷ 4 ∷ 2 ∷ 1 ∷ 2 ∷ []

-- a tree of that grammar, with these numbers
elements : List ℕ → Words
elements [] = 1 ∷ 1 ∷ []
elements (n ∷ ns) = 1 ∷ 0 ∷ 2 ∷ n ∷ elements ns

list : List ℕ → Words
list ns = 0 ∷ 0 ∷ elements ns

-- type 0 is a tree of type 0, a sequence of numbers, or two trees of type 0
deep : Words
deep = 3 ∷ 8 ∷ 3 ∷ 1 ∷ 0 ∷ 1 ∷ 1 ∷ 2 ∷ 0 ∷ 0 ∷ 4 ∷ 2 ∷ 1 ∷ 2 ∷ []

-- the words k times
times : ℕ → Words → Words
times zero ws = []
times (suc k) ws = ws ++ times k ws

table : List Case
table =
    -- H1: a replacement put in place counts once: 2,048 nodes thrice
    -- scope, variable and replacement of 2,048 nodes
    large 9 numbers (1 ∷ 8 ∷ 0 ∷ 1 ∷ 64 ∷ 0 ∷ 1 ∷ 65 ∷ 0 ∷ []) (list (replicate 1023 5)) (ended done 1 1 (list (replicate 1023 5)))
    -- M2, H2: scope, variable, copy and argument
    -- of 1,536 nodes each
    ∷ large 9 numbers (2 ∷ 8 ∷ 0 ∷ 1 ∷ 64 ∷ 0 ∷ 4 ∷ 66 ∷ 0 ∷ 1 ∷ 0 ∷ 1 ∷ 1 ∷ 65 ∷ 0 ∷ 10 ∷ 0 ∷ 1 ∷ 0 ∷ 2 ∷ 0 ∷ 0 ∷ 1 ∷ 1 ∷ 1 ∷ 65 ∷ 0 ∷ []) (list (replicate 767 5)) (ended done 2 1 (list (replicate 767 5)))
    -- of 1,538
    ∷ large 9 numbers (2 ∷ 8 ∷ 0 ∷ 1 ∷ 64 ∷ 0 ∷ 4 ∷ 66 ∷ 0 ∷ 1 ∷ 0 ∷ 1 ∷ 1 ∷ 65 ∷ 0 ∷ 10 ∷ 0 ∷ 1 ∷ 0 ∷ 2 ∷ 0 ∷ 0 ∷ 1 ∷ 1 ∷ 1 ∷ 65 ∷ 0 ∷ []) (list (replicate 768 5)) (ended (stopped 44) 1 0 (list (replicate 768 5)))
    -- M3: a variable is bound at its pair
    -- the pattern binds 1,533 nodes before it fails, where 6,140 are live
    ∷ large 9 (3 ∷ 8 ∷ 1 ∷ 2 ∷ 1 ∷ 2 ∷ 4 ∷ 2 ∷ 1 ∷ 2 ∷ []) (2 ∷ 8 ∷ 0 ∷ 1 ∷ 64 ∷ 0 ∷ 4 ∷ 66 ∷ 0 ∷ 1 ∷ 0 ∷ 1 ∷ 1 ∷ 65 ∷ 0 ∷ 10 ∷ 0 ∷ 1 ∷ 0 ∷ 3 ∷ 0 ∷ 0 ∷ 64 ∷ 1 ∷ 2 ∷ 777 ∷ 1 ∷ 65 ∷ 0 ∷ []) (0 ∷ 0 ∷ (times 766 (1 ∷ 0 ∷ 2 ∷ 5 ∷ []) ++ (1 ∷ 1 ∷ 2 ∷ 5 ∷ []))) (ended (stopped 44) 2 0 (0 ∷ 0 ∷ (times 766 (1 ∷ 0 ∷ 2 ∷ 5 ∷ []) ++ (1 ∷ 1 ∷ 2 ∷ 5 ∷ []))))
    -- H5, H7: a condition's copy of one number, and an operation on one
    -- the copy is the 6,144th node, and the operation adds none
    ∷ large 9 numbers (1 ∷ 12 ∷ 0 ∷ 2 ∷ 0 ∷ 0 ∷ 64 ∷ 1 ∷ 4 ∷ 4 ∷ 2 ∷ 1 ∷ 2 ∷ 250 ∷ 4 ∷ 1 ∷ 1 ∷ 65 ∷ 0 ∷ 4 ∷ 2 ∷ 3 ∷ 66 ∷ 1 ∷ 1 ∷ 0 ∷ 1004 ∷ 0 ∷ 1 ∷ 3 ∷ 1 ∷ 2 ∷ 1 ∷ 2 ∷ 0 ∷ 0 ∷ 1 ∷ 1 ∷ []) (list (replicate 1023 5)) (ended done 1 0 (list (replicate 1023 5)))
    -- .. also where it stops by 45; nor is its argument live
    ∷ large 9 numbers (1 ∷ 12 ∷ 0 ∷ 2 ∷ 0 ∷ 0 ∷ 64 ∷ 1 ∷ 4 ∷ 4 ∷ 2 ∷ 1 ∷ 2 ∷ 4000000000 ∷ 4 ∷ 1 ∷ 1 ∷ 65 ∷ 0 ∷ 4 ∷ 2 ∷ 4 ∷ 66 ∷ 1 ∷ 1 ∷ 0 ∷ 1000 ∷ 1 ∷ 65 ∷ 1 ∷ 1 ∷ 3 ∷ 1 ∷ 2 ∷ 1 ∷ 2 ∷ 0 ∷ 0 ∷ 1 ∷ 1 ∷ []) (list (replicate 1023 5)) (ended (stopped 45) 1 0 (list (replicate 1023 5)))
    -- a condition's copy is the 6,144th
    ∷ large 9 numbers (1 ∷ 12 ∷ 0 ∷ 2 ∷ 0 ∷ 0 ∷ 64 ∷ 1 ∷ 4 ∷ 4 ∷ 2 ∷ 1 ∷ 2 ∷ 5 ∷ 4 ∷ 1 ∷ 1 ∷ 65 ∷ 0 ∷ 8 ∷ 4 ∷ 66 ∷ 1 ∷ 1 ∷ 0 ∷ 1008 ∷ 1 ∷ 65 ∷ 1 ∷ 1 ∷ 1 ∷ 1 ∷ 2 ∷ 6 ∷ 2 ∷ 0 ∷ 0 ∷ 1 ∷ 1 ∷ []) (list (replicate 1023 5)) (ended done 1 0 (list (replicate 1023 5)))
    -- .. or the 6,145th
    ∷ large 9 numbers (1 ∷ 12 ∷ 0 ∷ 2 ∷ 0 ∷ 0 ∷ 64 ∷ 1 ∷ 5 ∷ 4 ∷ 2 ∷ 1 ∷ 2 ∷ 5 ∷ 4 ∷ 2 ∷ 1 ∷ 2 ∷ 5 ∷ 4 ∷ 1 ∷ 1 ∷ 65 ∷ 0 ∷ 8 ∷ 4 ∷ 66 ∷ 1 ∷ 1 ∷ 0 ∷ 1008 ∷ 1 ∷ 65 ∷ 1 ∷ 1 ∷ 1 ∷ 1 ∷ 2 ∷ 6 ∷ 2 ∷ 0 ∷ 0 ∷ 1 ∷ 1 ∷ []) (list (replicate 1023 5)) (ended (stopped 44) 1 0 (list (replicate 1023 5)))
    -- H2: what is under way is live: while a tree is copied into it, while a chain copies, and in the chain's calls
    -- scope, variable, a built number, the root of the replacement and the copy are 6,144
    ∷ large 9 numbers (1 ∷ 12 ∷ 0 ∷ 2 ∷ 0 ∷ 0 ∷ 64 ∷ 1 ∷ 1 ∷ 4 ∷ 2 ∷ 1 ∷ 2 ∷ 5 ∷ 2 ∷ 0 ∷ 0 ∷ 65 ∷ 0 ∷ []) (list (replicate 1023 5)) (ended done 1 1 (list (replicate 1023 5)))
    -- one number more
    ∷ large 9 numbers (1 ∷ 12 ∷ 0 ∷ 2 ∷ 0 ∷ 0 ∷ 64 ∷ 1 ∷ 2 ∷ 4 ∷ 2 ∷ 1 ∷ 2 ∷ 5 ∷ 4 ∷ 2 ∷ 1 ∷ 2 ∷ 5 ∷ 2 ∷ 0 ∷ 0 ∷ 65 ∷ 0 ∷ []) (list (replicate 1023 5)) (ended (stopped 44) 1 0 (list (replicate 1023 5)))
    -- a chain's copy of one number is the 6,144th, behind one written node; its operation divides by 0
    ∷ large 9 numbers (1 ∷ 12 ∷ 0 ∷ 4 ∷ 0 ∷ 0 ∷ 1 ∷ 0 ∷ 64 ∷ 2 ∷ 64 ∷ 1 ∷ 6 ∷ 4 ∷ 1 ∷ 1 ∷ 65 ∷ 1 ∷ 4 ∷ 2 ∷ 1 ∷ 2 ∷ 5 ∷ 4 ∷ 2 ∷ 1 ∷ 2 ∷ 5 ∷ 4 ∷ 2 ∷ 1 ∷ 2 ∷ 5 ∷ 4 ∷ 1 ∷ 6 ∷ 1 ∷ 0 ∷ 66 ∷ 0 ∷ 1 ∷ 0 ∷ 1002 ∷ 1 ∷ 65 ∷ 0 ∷ 1 ∷ 1 ∷ 1 ∷ 0 ∷ 1 ∷ 2 ∷ 9 ∷ 2 ∷ 0 ∷ 0 ∷ 1 ∷ 1 ∷ []) (list (0 ∷ replicate 1022 5)) (ended (stopped 45) 1 0 (list (0 ∷ replicate 1022 5)))
    -- .. or the 6,145th: the operation is not reached
    ∷ large 9 numbers (1 ∷ 12 ∷ 0 ∷ 4 ∷ 0 ∷ 0 ∷ 1 ∷ 0 ∷ 64 ∷ 2 ∷ 64 ∷ 1 ∷ 7 ∷ 4 ∷ 1 ∷ 1 ∷ 65 ∷ 1 ∷ 4 ∷ 2 ∷ 1 ∷ 2 ∷ 5 ∷ 4 ∷ 2 ∷ 1 ∷ 2 ∷ 5 ∷ 4 ∷ 2 ∷ 1 ∷ 2 ∷ 5 ∷ 4 ∷ 2 ∷ 1 ∷ 2 ∷ 5 ∷ 4 ∷ 1 ∷ 6 ∷ 1 ∷ 0 ∷ 66 ∷ 0 ∷ 1 ∷ 0 ∷ 1002 ∷ 1 ∷ 65 ∷ 0 ∷ 1 ∷ 1 ∷ 1 ∷ 0 ∷ 1 ∷ 2 ∷ 9 ∷ 2 ∷ 0 ∷ 0 ∷ 1 ∷ 1 ∷ []) (list (0 ∷ replicate 1022 5)) (ended (stopped 44) 1 0 (list (0 ∷ replicate 1022 5)))
    -- the argument of a chain's call is the 6,144th, behind one written node and the copy; the call makes no match
    ∷ large 9 numbers (2 ∷ 12 ∷ 0 ∷ 4 ∷ 0 ∷ 0 ∷ 1 ∷ 0 ∷ 64 ∷ 2 ∷ 64 ∷ 1 ∷ 5 ∷ 4 ∷ 1 ∷ 1 ∷ 65 ∷ 1 ∷ 4 ∷ 2 ∷ 1 ∷ 2 ∷ 5 ∷ 4 ∷ 2 ∷ 1 ∷ 2 ∷ 5 ∷ 4 ∷ 1 ∷ 6 ∷ 1 ∷ 0 ∷ 66 ∷ 0 ∷ 1 ∷ 0 ∷ 1 ∷ 1 ∷ 65 ∷ 0 ∷ 1 ∷ 1 ∷ 1 ∷ 0 ∷ 1 ∷ 2 ∷ 9 ∷ 2 ∷ 0 ∷ 0 ∷ 1 ∷ 1 ∷ 10 ∷ 2 ∷ 1 ∷ 2 ∷ 1 ∷ 2 ∷ 7 ∷ 1 ∷ 2 ∷ 7 ∷ []) (list (0 ∷ replicate 1022 5)) (ended done 2 0 (list (0 ∷ replicate 1022 5)))
    -- .. or the 6,145th: the call is not opened
    ∷ large 9 numbers (2 ∷ 12 ∷ 0 ∷ 4 ∷ 0 ∷ 0 ∷ 1 ∷ 0 ∷ 64 ∷ 2 ∷ 64 ∷ 1 ∷ 6 ∷ 4 ∷ 1 ∷ 1 ∷ 65 ∷ 1 ∷ 4 ∷ 2 ∷ 1 ∷ 2 ∷ 5 ∷ 4 ∷ 2 ∷ 1 ∷ 2 ∷ 5 ∷ 4 ∷ 2 ∷ 1 ∷ 2 ∷ 5 ∷ 4 ∷ 1 ∷ 6 ∷ 1 ∷ 0 ∷ 66 ∷ 0 ∷ 1 ∷ 0 ∷ 1 ∷ 1 ∷ 65 ∷ 0 ∷ 1 ∷ 1 ∷ 1 ∷ 0 ∷ 1 ∷ 2 ∷ 9 ∷ 2 ∷ 0 ∷ 0 ∷ 1 ∷ 1 ∷ 10 ∷ 2 ∷ 1 ∷ 2 ∷ 1 ∷ 2 ∷ 7 ∷ 1 ∷ 2 ∷ 7 ∷ []) (list (0 ∷ replicate 1022 5)) (ended (stopped 44) 1 0 (list (0 ∷ replicate 1022 5)))
    -- H16: a written node that passes 42 and 44 gives 42
    ∷ large 9 deep (1 ∷ 12 ∷ 0 ∷ 2 ∷ 0 ∷ 0 ∷ 64 ∷ 0 ∷ 1 ∷ 4 ∷ 1 ∷ 1 ∷ 1 ∷ 1 ∷ 4 ∷ 0 ∷ 2 ∷ 65 ∷ 0 ∷ 0 ∷ 1 ∷ 1 ∷ 1 ∷ []) (times 2 (0 ∷ 0 ∷ []) ++ (0 ∷ 1 ∷ (times 1022 (1 ∷ 0 ∷ 2 ∷ 5 ∷ []) ++ (1 ∷ 1 ∷ [])))) (ended (stopped 42) 1 0 (times 2 (0 ∷ 0 ∷ []) ++ (0 ∷ 1 ∷ (times 1022 (1 ∷ 0 ∷ 2 ∷ 5 ∷ []) ++ (1 ∷ 1 ∷ [])))))
    -- H2, H5: a condition's calls count the caller's variables: scope, variable, copy and argument
    -- of 1,536 nodes each
    ∷ large 9 numbers (2 ∷ 12 ∷ 0 ∷ 1 ∷ 64 ∷ 0 ∷ 1 ∷ 8 ∷ 4 ∷ 66 ∷ 0 ∷ 1 ∷ 0 ∷ 1 ∷ 1 ∷ 65 ∷ 0 ∷ 1 ∷ 65 ∷ 0 ∷ 2 ∷ 0 ∷ 1 ∷ 0 ∷ 2 ∷ 0 ∷ 0 ∷ 1 ∷ 1 ∷ []) (list (replicate 767 5)) (ended done 2 0 (list (replicate 767 5)))
    -- of 1,538
    ∷ large 9 numbers (2 ∷ 12 ∷ 0 ∷ 1 ∷ 64 ∷ 0 ∷ 1 ∷ 8 ∷ 4 ∷ 66 ∷ 0 ∷ 1 ∷ 0 ∷ 1 ∷ 1 ∷ 65 ∷ 0 ∷ 1 ∷ 65 ∷ 0 ∷ 2 ∷ 0 ∷ 1 ∷ 0 ∷ 2 ∷ 0 ∷ 0 ∷ 1 ∷ 1 ∷ []) (list (replicate 768 5)) (ended (stopped 44) 1 0 (list (replicate 768 5)))
    -- H9: 44 of the last pair before 43 of the finished tree
    -- 43
    ∷ large 9 deep (1 ∷ 8 ∷ 0 ∷ 1 ∷ 64 ∷ 0 ∷ 2 ∷ 0 ∷ 0 ∷ 65 ∷ 0 ∷ []) (times 61 (0 ∷ 0 ∷ []) ++ (0 ∷ 1 ∷ (times 969 (1 ∷ 0 ∷ 2 ∷ 5 ∷ []) ++ (1 ∷ 1 ∷ [])))) (ended (stopped 43) 1 0 (times 61 (0 ∷ 0 ∷ []) ++ (0 ∷ 1 ∷ (times 969 (1 ∷ 0 ∷ 2 ∷ 5 ∷ []) ++ (1 ∷ 1 ∷ [])))))
    -- with one tree more live: 44
    ∷ large 9 deep (1 ∷ 12 ∷ 0 ∷ 1 ∷ 64 ∷ 0 ∷ 1 ∷ 4 ∷ 0 ∷ 1 ∷ 65 ∷ 0 ∷ 2 ∷ 0 ∷ 0 ∷ 65 ∷ 0 ∷ []) (times 61 (0 ∷ 0 ∷ []) ++ (0 ∷ 1 ∷ (times 969 (1 ∷ 0 ∷ 2 ∷ 5 ∷ []) ++ (1 ∷ 1 ∷ [])))) (ended (stopped 44) 1 0 (times 61 (0 ∷ 0 ∷ []) ++ (0 ∷ 1 ∷ (times 969 (1 ∷ 0 ∷ 2 ∷ 5 ∷ []) ++ (1 ∷ 1 ∷ [])))))
    -- H10: 43 of the finished replacement before 42 in place
    ∷ large 9 deep (1 ∷ 9 ∷ 0 ∷ 1 ∷ 2 ∷ 0 ∷ 0 ∷ 64 ∷ 0 ∷ 4 ∷ 0 ∷ 0 ∷ 0 ∷ 0 ∷ 0 ∷ 0 ∷ 65 ∷ 0 ∷ []) (0 ∷ 2 ∷ (times 61 (0 ∷ 0 ∷ []) ++ (0 ∷ 1 ∷ 1 ∷ 1 ∷ 0 ∷ 1 ∷ (times 991 (1 ∷ 0 ∷ 2 ∷ 5 ∷ []) ++ (1 ∷ 1 ∷ []))))) (ended (stopped 43) 2 0 (0 ∷ 2 ∷ (times 61 (0 ∷ 0 ∷ []) ++ (0 ∷ 1 ∷ 1 ∷ 1 ∷ 0 ∷ 1 ∷ (times 991 (1 ∷ 0 ∷ 2 ∷ 5 ∷ []) ++ (1 ∷ 1 ∷ []))))))
    -- H12: 42 in place counts the scope as it would be
    -- a number for a number, in 2,048 nodes
    ∷ large 9 numbers (1 ∷ 9 ∷ 2 ∷ 1 ∷ 1 ∷ 2 ∷ 5 ∷ 1 ∷ 2 ∷ 6 ∷ []) (list (replicate 1023 5)) (ended done 1 1 (list (6 ∷ 5 ∷ 5 ∷ 5 ∷ 5 ∷ 5 ∷ 5 ∷ 5 ∷ 5 ∷ 5 ∷ 5 ∷ 5 ∷ 5 ∷ 5 ∷ 5 ∷ 5 ∷ 5 ∷ 5 ∷ 5 ∷ 5 ∷ 5 ∷ 5 ∷ 5 ∷ 5 ∷ 5 ∷ 5 ∷ 5 ∷ 5 ∷ 5 ∷ 5 ∷ 5 ∷ 5 ∷ 5 ∷ 5 ∷ 5 ∷ 5 ∷ 5 ∷ 5 ∷ 5 ∷ 5 ∷ 5 ∷ 5 ∷ 5 ∷ 5 ∷ 5 ∷ 5 ∷ 5 ∷ 5 ∷ 5 ∷ 5 ∷ 5 ∷ 5 ∷ 5 ∷ 5 ∷ 5 ∷ 5 ∷ 5 ∷ 5 ∷ 5 ∷ 5 ∷ 5 ∷ 5 ∷ 5 ∷ 5 ∷ 5 ∷ 5 ∷ 5 ∷ 5 ∷ 5 ∷ 5 ∷ 5 ∷ 5 ∷ 5 ∷ 5 ∷ 5 ∷ 5 ∷ 5 ∷ 5 ∷ 5 ∷ 5 ∷ 5 ∷ 5 ∷ 5 ∷ 5 ∷ 5 ∷ 5 ∷ 5 ∷ 5 ∷ 5 ∷ 5 ∷ 5 ∷ 5 ∷ 5 ∷ 5 ∷ 5 ∷ 5 ∷ 5 ∷ 5 ∷ 5 ∷ 5 ∷ 5 ∷ 5 ∷ 5 ∷ 5 ∷ 5 ∷ 5 ∷ 5 ∷ 5 ∷ 5 ∷ 5 ∷ 5 ∷ 5 ∷ 5 ∷ 5 ∷ 5 ∷ 5 ∷ 5 ∷ 5 ∷ 5 ∷ 5 ∷ 5 ∷ 5 ∷ 5 ∷ 5 ∷ 5 ∷ 5 ∷ 5 ∷ 5 ∷ 5 ∷ 5 ∷ 5 ∷ 5 ∷ 5 ∷ 5 ∷ 5 ∷ 5 ∷ 5 ∷ 5 ∷ 5 ∷ 5 ∷ 5 ∷ 5 ∷ 5 ∷ 5 ∷ 5 ∷ 5 ∷ 5 ∷ 5 ∷ 5 ∷ 5 ∷ 5 ∷ 5 ∷ 5 ∷ 5 ∷ 5 ∷ 5 ∷ 5 ∷ 5 ∷ 5 ∷ 5 ∷ 5 ∷ 5 ∷ 5 ∷ 5 ∷ 5 ∷ 5 ∷ 5 ∷ 5 ∷ 5 ∷ 5 ∷ 5 ∷ 5 ∷ 5 ∷ 5 ∷ 5 ∷ 5 ∷ 5 ∷ 5 ∷ 5 ∷ 5 ∷ 5 ∷ 5 ∷ 5 ∷ 5 ∷ 5 ∷ 5 ∷ 5 ∷ 5 ∷ 5 ∷ 5 ∷ 5 ∷ 5 ∷ 5 ∷ 5 ∷ 5 ∷ 5 ∷ 5 ∷ 5 ∷ 5 ∷ 5 ∷ 5 ∷ 5 ∷ 5 ∷ 5 ∷ 5 ∷ 5 ∷ 5 ∷ 5 ∷ 5 ∷ 5 ∷ 5 ∷ 5 ∷ 5 ∷ 5 ∷ 5 ∷ 5 ∷ 5 ∷ 5 ∷ 5 ∷ 5 ∷ 5 ∷ 5 ∷ 5 ∷ 5 ∷ 5 ∷ 5 ∷ 5 ∷ 5 ∷ 5 ∷ 5 ∷ 5 ∷ 5 ∷ 5 ∷ 5 ∷ 5 ∷ 5 ∷ 5 ∷ 5 ∷ 5 ∷ 5 ∷ 5 ∷ 5 ∷ 5 ∷ 5 ∷ 5 ∷ 5 ∷ 5 ∷ 5 ∷ 5 ∷ 5 ∷ 5 ∷ 5 ∷ 5 ∷ 5 ∷ 5 ∷ 5 ∷ 5 ∷ 5 ∷ 5 ∷ 5 ∷ 5 ∷ 5 ∷ 5 ∷ 5 ∷ 5 ∷ 5 ∷ 5 ∷ 5 ∷ 5 ∷ 5 ∷ 5 ∷ 5 ∷ 5 ∷ 5 ∷ 5 ∷ 5 ∷ 5 ∷ 5 ∷ 5 ∷ 5 ∷ 5 ∷ 5 ∷ 5 ∷ 5 ∷ 5 ∷ 5 ∷ 5 ∷ 5 ∷ 5 ∷ 5 ∷ 5 ∷ 5 ∷ 5 ∷ 5 ∷ 5 ∷ 5 ∷ 5 ∷ 5 ∷ 5 ∷ 5 ∷ 5 ∷ 5 ∷ 5 ∷ 5 ∷ 5 ∷ 5 ∷ 5 ∷ 5 ∷ 5 ∷ 5 ∷ 5 ∷ 5 ∷ 5 ∷ 5 ∷ 5 ∷ 5 ∷ 5 ∷ 5 ∷ 5 ∷ 5 ∷ 5 ∷ 5 ∷ 5 ∷ 5 ∷ 5 ∷ 5 ∷ 5 ∷ 5 ∷ 5 ∷ 5 ∷ 5 ∷ 5 ∷ 5 ∷ 5 ∷ 5 ∷ 5 ∷ 5 ∷ 5 ∷ 5 ∷ 5 ∷ 5 ∷ 5 ∷ 5 ∷ 5 ∷ 5 ∷ 5 ∷ 5 ∷ 5 ∷ 5 ∷ 5 ∷ 5 ∷ 5 ∷ 5 ∷ 5 ∷ 5 ∷ 5 ∷ 5 ∷ 5 ∷ 5 ∷ 5 ∷ 5 ∷ 5 ∷ 5 ∷ 5 ∷ 5 ∷ 5 ∷ 5 ∷ 5 ∷ 5 ∷ 5 ∷ 5 ∷ 5 ∷ 5 ∷ 5 ∷ 5 ∷ 5 ∷ 5 ∷ 5 ∷ 5 ∷ 5 ∷ 5 ∷ 5 ∷ 5 ∷ 5 ∷ 5 ∷ 5 ∷ 5 ∷ 5 ∷ 5 ∷ 5 ∷ 5 ∷ 5 ∷ 5 ∷ 5 ∷ 5 ∷ 5 ∷ 5 ∷ 5 ∷ 5 ∷ 5 ∷ 5 ∷ 5 ∷ 5 ∷ 5 ∷ 5 ∷ 5 ∷ 5 ∷ 5 ∷ 5 ∷ 5 ∷ 5 ∷ 5 ∷ 5 ∷ 5 ∷ 5 ∷ 5 ∷ 5 ∷ 5 ∷ 5 ∷ 5 ∷ 5 ∷ 5 ∷ 5 ∷ 5 ∷ 5 ∷ 5 ∷ 5 ∷ 5 ∷ 5 ∷ 5 ∷ 5 ∷ 5 ∷ 5 ∷ 5 ∷ 5 ∷ 5 ∷ 5 ∷ 5 ∷ 5 ∷ 5 ∷ 5 ∷ 5 ∷ 5 ∷ 5 ∷ 5 ∷ 5 ∷ 5 ∷ 5 ∷ 5 ∷ 5 ∷ 5 ∷ 5 ∷ 5 ∷ 5 ∷ 5 ∷ 5 ∷ 5 ∷ 5 ∷ 5 ∷ 5 ∷ 5 ∷ 5 ∷ 5 ∷ 5 ∷ 5 ∷ 5 ∷ 5 ∷ 5 ∷ 5 ∷ 5 ∷ 5 ∷ 5 ∷ 5 ∷ 5 ∷ 5 ∷ 5 ∷ 5 ∷ 5 ∷ 5 ∷ 5 ∷ 5 ∷ 5 ∷ 5 ∷ 5 ∷ 5 ∷ 5 ∷ 5 ∷ 5 ∷ 5 ∷ 5 ∷ 5 ∷ 5 ∷ 5 ∷ 5 ∷ 5 ∷ 5 ∷ 5 ∷ 5 ∷ 5 ∷ 5 ∷ 5 ∷ 5 ∷ 5 ∷ 5 ∷ 5 ∷ 5 ∷ 5 ∷ 5 ∷ 5 ∷ 5 ∷ 5 ∷ 5 ∷ 5 ∷ 5 ∷ 5 ∷ 5 ∷ 5 ∷ 5 ∷ 5 ∷ 5 ∷ 5 ∷ 5 ∷ 5 ∷ 5 ∷ 5 ∷ 5 ∷ 5 ∷ 5 ∷ 5 ∷ 5 ∷ 5 ∷ 5 ∷ 5 ∷ 5 ∷ 5 ∷ 5 ∷ 5 ∷ 5 ∷ 5 ∷ 5 ∷ 5 ∷ 5 ∷ 5 ∷ 5 ∷ 5 ∷ 5 ∷ 5 ∷ 5 ∷ 5 ∷ 5 ∷ 5 ∷ 5 ∷ 5 ∷ 5 ∷ 5 ∷ 5 ∷ 5 ∷ 5 ∷ 5 ∷ 5 ∷ 5 ∷ 5 ∷ 5 ∷ 5 ∷ 5 ∷ 5 ∷ 5 ∷ 5 ∷ 5 ∷ 5 ∷ 5 ∷ 5 ∷ 5 ∷ 5 ∷ 5 ∷ 5 ∷ 5 ∷ 5 ∷ 5 ∷ 5 ∷ 5 ∷ 5 ∷ 5 ∷ 5 ∷ 5 ∷ 5 ∷ 5 ∷ 5 ∷ 5 ∷ 5 ∷ 5 ∷ 5 ∷ 5 ∷ 5 ∷ 5 ∷ 5 ∷ 5 ∷ 5 ∷ 5 ∷ 5 ∷ 5 ∷ 5 ∷ 5 ∷ 5 ∷ 5 ∷ 5 ∷ 5 ∷ 5 ∷ 5 ∷ 5 ∷ 5 ∷ 5 ∷ 5 ∷ 5 ∷ 5 ∷ 5 ∷ 5 ∷ 5 ∷ 5 ∷ 5 ∷ 5 ∷ 5 ∷ 5 ∷ 5 ∷ 5 ∷ 5 ∷ 5 ∷ 5 ∷ 5 ∷ 5 ∷ 5 ∷ 5 ∷ 5 ∷ 5 ∷ 5 ∷ 5 ∷ 5 ∷ 5 ∷ 5 ∷ 5 ∷ 5 ∷ 5 ∷ 5 ∷ 5 ∷ 5 ∷ 5 ∷ 5 ∷ 5 ∷ 5 ∷ 5 ∷ 5 ∷ 5 ∷ 5 ∷ 5 ∷ 5 ∷ 5 ∷ 5 ∷ 5 ∷ 5 ∷ 5 ∷ 5 ∷ 5 ∷ 5 ∷ 5 ∷ 5 ∷ 5 ∷ 5 ∷ 5 ∷ 5 ∷ 5 ∷ 5 ∷ 5 ∷ 5 ∷ 5 ∷ 5 ∷ 5 ∷ 5 ∷ 5 ∷ 5 ∷ 5 ∷ 5 ∷ 5 ∷ 5 ∷ 5 ∷ 5 ∷ 5 ∷ 5 ∷ 5 ∷ 5 ∷ 5 ∷ 5 ∷ 5 ∷ 5 ∷ 5 ∷ 5 ∷ 5 ∷ 5 ∷ 5 ∷ 5 ∷ 5 ∷ 5 ∷ 5 ∷ 5 ∷ 5 ∷ 5 ∷ 5 ∷ 5 ∷ 5 ∷ 5 ∷ 5 ∷ 5 ∷ 5 ∷ 5 ∷ 5 ∷ 5 ∷ 5 ∷ 5 ∷ 5 ∷ 5 ∷ 5 ∷ 5 ∷ 5 ∷ 5 ∷ 5 ∷ 5 ∷ 5 ∷ 5 ∷ 5 ∷ 5 ∷ 5 ∷ 5 ∷ 5 ∷ 5 ∷ 5 ∷ 5 ∷ 5 ∷ 5 ∷ 5 ∷ 5 ∷ 5 ∷ 5 ∷ 5 ∷ 5 ∷ 5 ∷ 5 ∷ 5 ∷ 5 ∷ 5 ∷ 5 ∷ 5 ∷ 5 ∷ 5 ∷ 5 ∷ 5 ∷ 5 ∷ 5 ∷ 5 ∷ 5 ∷ 5 ∷ 5 ∷ 5 ∷ 5 ∷ 5 ∷ 5 ∷ 5 ∷ 5 ∷ 5 ∷ 5 ∷ 5 ∷ 5 ∷ 5 ∷ 5 ∷ 5 ∷ 5 ∷ 5 ∷ 5 ∷ 5 ∷ 5 ∷ 5 ∷ 5 ∷ 5 ∷ 5 ∷ 5 ∷ 5 ∷ 5 ∷ 5 ∷ 5 ∷ 5 ∷ 5 ∷ 5 ∷ 5 ∷ 5 ∷ 5 ∷ 5 ∷ 5 ∷ 5 ∷ 5 ∷ 5 ∷ 5 ∷ 5 ∷ 5 ∷ 5 ∷ 5 ∷ 5 ∷ 5 ∷ 5 ∷ 5 ∷ 5 ∷ 5 ∷ 5 ∷ 5 ∷ 5 ∷ 5 ∷ 5 ∷ 5 ∷ 5 ∷ 5 ∷ 5 ∷ 5 ∷ 5 ∷ 5 ∷ 5 ∷ 5 ∷ 5 ∷ 5 ∷ 5 ∷ 5 ∷ 5 ∷ 5 ∷ 5 ∷ 5 ∷ 5 ∷ 5 ∷ 5 ∷ 5 ∷ 5 ∷ 5 ∷ 5 ∷ 5 ∷ 5 ∷ 5 ∷ 5 ∷ 5 ∷ 5 ∷ 5 ∷ 5 ∷ 5 ∷ 5 ∷ 5 ∷ 5 ∷ 5 ∷ 5 ∷ 5 ∷ 5 ∷ 5 ∷ 5 ∷ 5 ∷ 5 ∷ 5 ∷ 5 ∷ 5 ∷ 5 ∷ 5 ∷ 5 ∷ 5 ∷ 5 ∷ 5 ∷ 5 ∷ 5 ∷ 5 ∷ 5 ∷ 5 ∷ 5 ∷ 5 ∷ 5 ∷ 5 ∷ 5 ∷ 5 ∷ 5 ∷ 5 ∷ 5 ∷ 5 ∷ 5 ∷ 5 ∷ 5 ∷ 5 ∷ 5 ∷ 5 ∷ 5 ∷ 5 ∷ 5 ∷ 5 ∷ 5 ∷ 5 ∷ 5 ∷ 5 ∷ 5 ∷ 5 ∷ 5 ∷ 5 ∷ 5 ∷ 5 ∷ 5 ∷ 5 ∷ 5 ∷ 5 ∷ 5 ∷ 5 ∷ 5 ∷ 5 ∷ 5 ∷ 5 ∷ 5 ∷ 5 ∷ 5 ∷ 5 ∷ 5 ∷ 5 ∷ 5 ∷ 5 ∷ 5 ∷ 5 ∷ 5 ∷ 5 ∷ 5 ∷ 5 ∷ 5 ∷ 5 ∷ 5 ∷ 5 ∷ 5 ∷ 5 ∷ 5 ∷ 5 ∷ 5 ∷ 5 ∷ 5 ∷ 5 ∷ 5 ∷ 5 ∷ 5 ∷ 5 ∷ 5 ∷ 5 ∷ 5 ∷ 5 ∷ 5 ∷ 5 ∷ 5 ∷ 5 ∷ 5 ∷ 5 ∷ 5 ∷ 5 ∷ 5 ∷ 5 ∷ 5 ∷ 5 ∷ 5 ∷ 5 ∷ 5 ∷ 5 ∷ 5 ∷ 5 ∷ 5 ∷ 5 ∷ 5 ∷ 5 ∷ 5 ∷ 5 ∷ 5 ∷ 5 ∷ 5 ∷ 5 ∷ 5 ∷ 5 ∷ 5 ∷ 5 ∷ 5 ∷ 5 ∷ 5 ∷ 5 ∷ 5 ∷ 5 ∷ 5 ∷ 5 ∷ 5 ∷ 5 ∷ 5 ∷ 5 ∷ 5 ∷ 5 ∷ 5 ∷ 5 ∷ 5 ∷ 5 ∷ 5 ∷ 5 ∷ 5 ∷ 5 ∷ 5 ∷ 5 ∷ 5 ∷ 5 ∷ 5 ∷ 5 ∷ 5 ∷ 5 ∷ 5 ∷ 5 ∷ 5 ∷ 5 ∷ 5 ∷ 5 ∷ 5 ∷ 5 ∷ 5 ∷ 5 ∷ 5 ∷ 5 ∷ 5 ∷ 5 ∷ 5 ∷ [])))
    -- two nodes more than 2,046
    ∷ large 9 numbers (1 ∷ 9 ∷ 1 ∷ 1 ∷ 1 ∷ 64 ∷ 1 ∷ 3 ∷ 1 ∷ 0 ∷ 2 ∷ 5 ∷ 65 ∷ 0 ∷ []) (list (replicate 1022 5)) (ended done 1 1 (list (replicate 1023 5)))
    -- two more than 2,048
    ∷ large 9 numbers (1 ∷ 9 ∷ 1 ∷ 1 ∷ 1 ∷ 64 ∷ 1 ∷ 3 ∷ 1 ∷ 0 ∷ 2 ∷ 5 ∷ 65 ∷ 0 ∷ []) (list (replicate 1023 5)) (ended (stopped 42) 1 0 (list (replicate 1023 5)))
    -- H13: in place 42 comes before 43
    ∷ large 9 deep (1 ∷ 9 ∷ 0 ∷ 1 ∷ 2 ∷ 0 ∷ 0 ∷ 64 ∷ 0 ∷ 4 ∷ 0 ∷ 0 ∷ 0 ∷ 0 ∷ 0 ∷ 0 ∷ 65 ∷ 0 ∷ []) (0 ∷ 2 ∷ (times 60 (0 ∷ 0 ∷ []) ++ (0 ∷ 1 ∷ 1 ∷ 1 ∷ 0 ∷ 1 ∷ (times 991 (1 ∷ 0 ∷ 2 ∷ 5 ∷ []) ++ (1 ∷ 1 ∷ []))))) (ended (stopped 42) 2 0 (0 ∷ 2 ∷ (times 60 (0 ∷ 0 ∷ []) ++ (0 ∷ 1 ∷ 1 ∷ 1 ∷ 0 ∷ 1 ∷ (times 991 (1 ∷ 0 ∷ 2 ∷ 5 ∷ []) ++ (1 ∷ 1 ∷ []))))))
    -- H18: a failed attempt lets go of its variables
    -- 101 attempts, 100 of which bind and build
    ∷ large 200 numbers (1 ∷ 13 ∷ 1 ∷ 1 ∷ 3 ∷ 1 ∷ 0 ∷ 64 ∷ 2 ∷ 64 ∷ 1 ∷ 2 ∷ 4 ∷ 2 ∷ 1 ∷ 65 ∷ 0 ∷ 1 ∷ 0 ∷ 1 ∷ 2 ∷ 9 ∷ 1 ∷ 1 ∷ 1 ∷ []) (list (replicate 100 5)) (ended done 101 0 (list (replicate 100 5)))
    -- T-04: 42 at an operation, over the root that is written before it: 2,048 nodes, and more
    ∷ large 9 numbers (1 ∷ 8 ∷ 0 ∷ 2 ∷ 0 ∷ 0 ∷ 64 ∷ 1 ∷ 7 ∷ 0 ∷ 0 ∷ 66 ∷ 0 ∷ 2 ∷ 0 ∷ 1010 ∷ 1 ∷ 65 ∷ 0 ∷ 1010 ∷ 1 ∷ 65 ∷ 0 ∷ []) (list (replicate 341 5)) (ended done 1 1 (list (replicate 1023 5)))
    ∷ large 9 numbers (1 ∷ 8 ∷ 0 ∷ 2 ∷ 0 ∷ 0 ∷ 64 ∷ 1 ∷ 7 ∷ 0 ∷ 0 ∷ 66 ∷ 0 ∷ 2 ∷ 0 ∷ 1010 ∷ 1 ∷ 65 ∷ 0 ∷ 1010 ∷ 1 ∷ 65 ∷ 0 ∷ []) (list (replicate 342 5)) (ended (stopped 42) 1 0 (list (replicate 342 5)))
    -- 43 at an operation, over the result alone: nesting 64, and 65
    ∷ large 9 (1 ∷ 4 ∷ 0 ∷ []) (1 ∷ 12 ∷ 0 ∷ 1 ∷ 64 ∷ 0 ∷ 1 ∷ 4 ∷ 0 ∷ 1 ∷ 0 ∷ 1 ∷ 4 ∷ 66 ∷ 1 ∷ 1 ∷ 0 ∷ 1015 ∷ 1 ∷ 65 ∷ 0 ∷ []) (times 62 (0 ∷ 0 ∷ []) ++ times 63 (0 ∷ 1 ∷ [])) (ended done 1 1 (times 63 (0 ∷ 0 ∷ []) ++ times 64 (0 ∷ 1 ∷ [])))
    ∷ large 9 (1 ∷ 4 ∷ 0 ∷ []) (1 ∷ 12 ∷ 0 ∷ 1 ∷ 64 ∷ 0 ∷ 1 ∷ 4 ∷ 0 ∷ 1 ∷ 0 ∷ 1 ∷ 4 ∷ 66 ∷ 1 ∷ 1 ∷ 0 ∷ 1015 ∷ 1 ∷ 65 ∷ 0 ∷ []) (times 63 (0 ∷ 0 ∷ []) ++ times 64 (0 ∷ 1 ∷ [])) (ended (stopped 43) 1 0 (times 63 (0 ∷ 0 ∷ []) ++ times 64 (0 ∷ 1 ∷ [])))
    -- 44 at an operation: 6,140 live nodes with the result in its scope's place, and 6,154
    ∷ large 9 numbers (1 ∷ 12 ∷ 0 ∷ 2 ∷ 0 ∷ 0 ∷ 64 ∷ 1 ∷ 3 ∷ 4 ∷ 1 ∷ 1 ∷ 65 ∷ 0 ∷ 4 ∷ 1 ∷ 1 ∷ 65 ∷ 0 ∷ 4 ∷ 1 ∷ 1 ∷ 65 ∷ 0 ∷ 5 ∷ 0 ∷ 0 ∷ 66 ∷ 0 ∷ 1 ∷ 0 ∷ 1010 ∷ 1 ∷ 65 ∷ 0 ∷ []) (list (replicate 438 5)) (ended done 1 1 (list (replicate 876 5)))
    ∷ large 9 numbers (1 ∷ 12 ∷ 0 ∷ 2 ∷ 0 ∷ 0 ∷ 64 ∷ 1 ∷ 3 ∷ 4 ∷ 1 ∷ 1 ∷ 65 ∷ 0 ∷ 4 ∷ 1 ∷ 1 ∷ 65 ∷ 0 ∷ 4 ∷ 1 ∷ 1 ∷ 65 ∷ 0 ∷ 5 ∷ 0 ∷ 0 ∷ 66 ∷ 0 ∷ 1 ∷ 0 ∷ 1010 ∷ 1 ∷ 65 ∷ 0 ∷ []) (list (replicate 439 5)) (ended (stopped 44) 1 0 (list (replicate 439 5)))
    ∷ []

right : found table ≡ given table
unfolding Reader.word Reader.word_in Reader.many Reader.end Views.equal_words Grammar.types_of Grammar.field Grammar.element Grammar.form Grammar.kind Grammar.grammar Grammar.all_known Grammar.any_form_known Grammar.finishes Grammar.round Grammar.rounds Grammar.finite Grammar.finite_records Grammar.read_grammar Grammar.grammar_fits Kinds.kind_of Kinds.allows Kinds.allowed Kinds.children_of Kinds.children Kinds.is_sequence_kind Kinds.is_sequence Kinds.is_number_kind Kinds.is_number Kinds.is_text_kind Kinds.is_text Tree.size Tree.levels_of Tree.levels Tree.nesting_from Tree.nesting Tree.are_trees Tree.is_tree Tree.first Tree.after Tree.type_of Tree.put Blanks.is_blank Blanks.holds_blank Sequences.element_of Sequences.spine Sequences.sequence_of Sequences.elements_in Sequences.elements Sequences.taken_from Dues.pairs Dues.whole Reading.dues_of Reading.meets_node Reading.read_tree_of Slip.uncounted Slip.counted Slip.place_in Slip.in_slip Slip.right_counts Slip.read_slip Rules.operations Rules.applied Rules.shapes Rules.arguments Rules.applications Rules.pairs_in Rules.arguments_written Rules.applications_written Rules.chain_written Rules.unreadable Rules.chain_of Rules.condition_of Rules.pieces_after Rules.pieces Layout.strategy_of Layout.stretch Layout.field Layout.pairs Layout.variable_at Layout.deconstruct_fields Layout.condition_fields Layout.part_of Layout.reach Layout.replacement Layout.main_fits Layout.main_bits Layout.type_field Layout.search_fields Layout.construct_fields Layout.part_at Layout.part Layout.parameters Layout.head_fields Layout.head Layout.parts Layout.rule Layout.layout Layout.read_layout Layout.rules_fit Wanted.wants Typing.may_stand Typing.is_some Typing.applies_rule Typing.applies_operation Typing.fits_scope Typing.operates_on Typing.usable Typing.wanted_by_edit Typing.wanted_by_operation Typing.wanted_by Typing.new_variable Typing.variable Typing.chain Typing.node Typing.meets Typing.typed Typing.variable_there Typing.part_typed Typing.parts_typed Typing.rule_typed Typing.main_target Typing.rules_typed Typing.read_rules Computation.then_of Computation.spend_of Computation.spend Computation.stop_unless Computation.surely Computation.check Computation.present Computation.choose Computation.whether Computation.nodes_within Computation.nesting_within Computation.live_within Rounding.half_even Operations.rounded Operations.truncated Operations.in_range Operations.divisor Operations.with_one Operations.with_none Operations.compute Operations.compare Operations.value_of Operations.values_of Operations.with_value Operations.is_number_token Operations.are_number_tokens Edits.position Edits.selected Edits.joined Edits.with_one Edits.with_two Edits.edited Edits.is_sequence_tree Edits.each Edits.edit_fits Edits.edit Meaning.total Meaning.variable Meaning.variables Meaning.same_tree Meaning.bind Meaning.match Meaning.match_first Meaning.are_trees_of Meaning.fits Meaning.begin Meaning.result_as Meaning.result_of Meaning.opened Meaning.after_round Meaning.apply Meaning.apply_chain Meaning.fill Meaning.finish Meaning.succeeds Meaning.any_succeeds Meaning.part Meaning.parts Meaning.attempt Meaning.seek Meaning.replace Meaning.turn Meaning.rounds Meaning.call_with Meaning.call Meaning.call_matches Meaning.calls Meaning.run_from Meaning.run Outcome.call_fits Outcome.decode Outcome.ended_as Outcome.outcome_of Outcome.outcome Cases.counting Cases.counting_in Cases.plain_of Cases.plainly Cases.given Cases.found numbers elements list deep times table
right = refl

-- Rule books with what their single check finds, by the readings T1 to T18 of document 01's words and T04-1 to T04-8 of document 02's: one table, one proof.
-- Assumes nothing.
use Rattle.std.specs.Prelude.{ℕ, zero, suc, ◌≡◌, refl, List, [], ◌∷◌, ◌++◌, Result, Ok, Err}
use Rattle.words.specs.Reader.{Words}
use Rattle.words.specs.Views.{answer}
use Rattle.judgement.specs.Typing.{check_rules}
use Rattle.words.specs.Reader as Reader
use Rattle.grammar.specs.Grammar as Grammar
use Rattle.grammar.specs.Kinds as Kinds
use Rattle.tree.specs.Tree as Tree
use Rattle.tree.specs.Sequences as Sequences
use Rattle.tree.specs.Dues as Dues
use Rattle.tree.specs.Reading as Reading
use Rattle.rules.specs.Rules as Rules
use Rattle.rules.specs.Layout as Layout
use Rattle.judgement.specs.Wanted as Wanted
use Rattle.judgement.specs.Typing as Typing

-- program of repeat number: the root, the sequence, the number
numbers : Words
numbers = 3 ∷ 8 ∷ 1 ∷ 1 ∷ 1 ∷ 4 ∷ 2 ∷ 1 ∷ 2 ∷ []

-- a root of a repeat and a list of the same numbers: the root, the repeat, the list, the number
kinds : Words
kinds = 4 ∷ 8 ∷ 1 ∷ 2 ∷ 1 ∷ 2 ∷ 4 ∷ 3 ∷ 16 ∷ 3 ∷ 1 ∷ 2 ∷ []

-- a form with a literal before its one type, an opt of the root: it nests
nests : Words
nests = 2 ∷ 8 ∷ 1 ∷ 2 ∷ 65536 ∷ 1 ∷ 2 ∷ 0 ∷ []

-- two of one number type; two number types
twos : Words
twos = 2 ∷ 8 ∷ 1 ∷ 2 ∷ 1 ∷ 1 ∷ 1 ∷ 2 ∷ []

sums : Words
sums = 3 ∷ 8 ∷ 1 ∷ 2 ∷ 1 ∷ 2 ∷ 1 ∷ 2 ∷ 1 ∷ 2 ∷ []

-- a root of two nodes of eight numbers
leaves : Words
leaves = 3 ∷ 8 ∷ 1 ∷ 2 ∷ 1 ∷ 1 ∷ 8 ∷ 1 ∷ 8 ∷ 2 ∷ 2 ∷ 2 ∷ 2 ∷ 2 ∷ 2 ∷ 2 ∷ 2 ∷ 1 ∷ 2 ∷ []

-- n times the words, then the others
times : ℕ → Words → Words → Words
times zero a b = b
times (suc n) a b = a ++ times n a b

-- 2 n nodes of `nests`, one in the other
deep : ℕ → Words → Words
deep n b = times n (0 ∷ 0 ∷ 1 ∷ 0 ∷ []) b

-- a main rule, then a condition whose pattern has this leaf and 15 new variables, up to the count of its parts
with_leaf : Words → Words
with_leaf a = 2 ∷ 8 ∷ 0 ∷ 1 ∷ 64 ∷ 0 ∷ 1 ∷ 65 ∷ 0 ∷ 4 ∷ 0 ∷ 19 ∷ 0 ∷ 0 ∷ 1 ∷ 0 ∷ (a ++ times 7 (64 ∷ 2 ∷ []) (1 ∷ 0 ∷ times 8 (64 ∷ 2 ∷ []) []))

sixteen : Words
sixteen = with_leaf (64 ∷ 2 ∷ [])

fifteen : Words
fifteen = with_leaf (2 ∷ 5 ∷ [])

-- a root of eight types: 1 and 2 repeats and 3 a list of the number 5, 4 an opt of it, 6 a name, 7 another number, 8 a repeat of the repeat 1
edits : Words
edits = 9 ∷ 8 ∷ 1 ∷ 8 ∷ 1 ∷ 2 ∷ 3 ∷ 4 ∷ 5 ∷ 6 ∷ 7 ∷ 8 ∷ 4 ∷ 5 ∷ 4 ∷ 5 ∷ 16 ∷ 5 ∷ 2 ∷ 5 ∷ 1 ∷ 2 ∷ 1 ∷ 1 ∷ 1 ∷ 2 ∷ 4 ∷ 1 ∷ []

-- a main rule that takes its root apart, so that variables 0 to 8 have the types 0 to 8, and has this part, from word 28 on
apart : Words → Words
apart a = 1 ∷ 12 ∷ 0 ∷ 1 ∷ 64 ∷ 0 ∷ 2 ∷ 1 ∷ 0 ∷ 9 ∷ 0 ∷ 0 ∷ 64 ∷ 1 ∷ 64 ∷ 2 ∷ 64 ∷ 3 ∷ 64 ∷ 4 ∷ 64 ∷ 5 ∷ 64 ∷ 6 ∷ 64 ∷ 7 ∷ 64 ∷ 8 ∷ (a ++ 1 ∷ 65 ∷ 0 ∷ [])

-- a build of type s from the variable s, in k pairs: one application, from word 35 on
built : ℕ → ℕ → Words → Words
built s k a = apart (4 ∷ s ∷ k ∷ 66 ∷ s ∷ 1 ∷ 0 ∷ a)

-- a condition on the variable s, in k pairs: one application, from word 34 on
tested : ℕ → ℕ → Words → Words
tested s k a = apart (8 ∷ k ∷ 66 ∷ s ∷ 1 ∷ 0 ∷ a)

-- a main rule, then a rule for type s with the repeat 1 and the number 5 as parameters, and a replacement of k pairs: one application, from word 22 on
replaced : ℕ → ℕ → Words → Words
replaced s k a = 2 ∷ 8 ∷ 0 ∷ 1 ∷ 64 ∷ 0 ∷ 1 ∷ 65 ∷ 0 ∷ 10 ∷ s ∷ 2 ∷ 1 ∷ 5 ∷ 1 ∷ 64 ∷ s ∷ k ∷ 66 ∷ 2 ∷ 1 ∷ 0 ∷ a

-- a grammar's words, a book's, and the answer
data Case : Type 0 where
  case : Words → Words → Result ℕ (ℕ × ℕ) → Case

table : List Case
table =
    -- "Book 1 9 2 2 1 2 200 1 2 4200"; "replacement 1 1: refused 23 at 8"
    case numbers (1 ∷ 9 ∷ 2 ∷ 2 ∷ 1 ∷ 2 ∷ 200 ∷ 1 ∷ 2 ∷ 4200 ∷ []) (Ok 10)
    ∷ case numbers (1 ∷ 9 ∷ 2 ∷ 2 ∷ 1 ∷ 2 ∷ 200 ∷ 1 ∷ 1 ∷ 1 ∷ []) (Err (23, 8))
    -- the grammar's refusals, then the layout's, come first
    ∷ case (1 ∷ 8 ∷ 1 ∷ 1 ∷ 0 ∷ []) (1 ∷ 9 ∷ 2 ∷ 2 ∷ 1 ∷ 99 ∷ 99 ∷ 0 ∷ []) (Err (12, 1))
    ∷ case (3 ∷ 8 ∷ 1 ∷ 1 ∷ 1 ∷ 4 ∷ 2 ∷ 1 ∷ []) (1 ∷ 9 ∷ 2 ∷ 2 ∷ 1 ∷ 2 ∷ 200 ∷ 1 ∷ 2 ∷ 4200 ∷ []) (Err (10, 8))
    ∷ case numbers (1 ∷ 9 ∷ 2 ∷ 2 ∷ 1 ∷ 99 ∷ 99 ∷ 0 ∷ []) (Err (21, 7))
    ∷ case numbers [] (Err (20, 0))
    -- T1: the main rule without reach has type 0, before its pattern; other rules may have any target
    ∷ case numbers (1 ∷ 8 ∷ 0 ∷ 1 ∷ 64 ∷ 0 ∷ 1 ∷ 65 ∷ 0 ∷ []) (Ok 9)
    ∷ case numbers (1 ∷ 8 ∷ 2 ∷ 1 ∷ 64 ∷ 2 ∷ 1 ∷ 65 ∷ 0 ∷ []) (Err (23, 2))
    ∷ case numbers (1 ∷ 8 ∷ 2 ∷ 1 ∷ 64 ∷ 9 ∷ 1 ∷ 65 ∷ 0 ∷ []) (Err (23, 2))
    ∷ case numbers (2 ∷ 8 ∷ 0 ∷ 1 ∷ 64 ∷ 0 ∷ 1 ∷ 65 ∷ 0 ∷ 0 ∷ 2 ∷ 1 ∷ 64 ∷ 2 ∷ []) (Ok 14)
    -- T2: every rule is typed, applied or not
    ∷ case numbers (2 ∷ 8 ∷ 0 ∷ 1 ∷ 64 ∷ 0 ∷ 1 ∷ 65 ∷ 0 ∷ 0 ∷ 2 ∷ 1 ∷ 64 ∷ 1 ∷ []) (Err (23, 13))
    -- T3: a first word that is no kind for its place; no type stands for another
    ∷ case numbers (1 ∷ 9 ∷ 2 ∷ 2 ∷ 1 ∷ 2 ∷ 200 ∷ 1 ∷ 64 ∷ 2 ∷ []) (Err (23, 8))
    ∷ case numbers (1 ∷ 9 ∷ 2 ∷ 2 ∷ 1 ∷ 66 ∷ 0 ∷ 1 ∷ 2 ∷ 4200 ∷ []) (Err (23, 5))
    ∷ case numbers (1 ∷ 9 ∷ 2 ∷ 2 ∷ 1 ∷ 67 ∷ 0 ∷ 1 ∷ 2 ∷ 4200 ∷ []) (Err (23, 5))
    ∷ case numbers (1 ∷ 9 ∷ 2 ∷ 2 ∷ 1 ∷ 3 ∷ 0 ∷ 1 ∷ 2 ∷ 4200 ∷ []) (Err (23, 5))
    ∷ case numbers (1 ∷ 9 ∷ 2 ∷ 2 ∷ 1 ∷ 1 ∷ 1 ∷ 1 ∷ 2 ∷ 4200 ∷ []) (Err (23, 5))
    ∷ case numbers (1 ∷ 9 ∷ 1 ∷ 2 ∷ 1 ∷ 2 ∷ 200 ∷ 1 ∷ 1 ∷ 1 ∷ []) (Err (23, 5))
    -- T4: a new variable's type
    ∷ case numbers (1 ∷ 9 ∷ 2 ∷ 2 ∷ 1 ∷ 64 ∷ 2 ∷ 1 ∷ 2 ∷ 4200 ∷ []) (Ok 10)
    ∷ case numbers (1 ∷ 9 ∷ 2 ∷ 2 ∷ 1 ∷ 64 ∷ 1 ∷ 1 ∷ 2 ∷ 4200 ∷ []) (Err (23, 6))
    ∷ case numbers (1 ∷ 9 ∷ 2 ∷ 2 ∷ 1 ∷ 64 ∷ 9 ∷ 1 ∷ 2 ∷ 4200 ∷ []) (Err (23, 6))
    -- T5: 22 where the variable is not there, 23 where its type is not due; a new variable of another type and the 17th: 23
    ∷ case numbers (1 ∷ 9 ∷ 2 ∷ 2 ∷ 1 ∷ 64 ∷ 2 ∷ 1 ∷ 65 ∷ 0 ∷ []) (Ok 10)
    ∷ case numbers (1 ∷ 9 ∷ 2 ∷ 2 ∷ 1 ∷ 64 ∷ 2 ∷ 1 ∷ 65 ∷ 1 ∷ []) (Err (22, 9))
    ∷ case numbers (1 ∷ 12 ∷ 0 ∷ 1 ∷ 64 ∷ 0 ∷ 1 ∷ 4 ∷ 2 ∷ 1 ∷ 65 ∷ 0 ∷ 1 ∷ 65 ∷ 0 ∷ []) (Err (23, 11))
    ∷ case numbers (1 ∷ 12 ∷ 0 ∷ 1 ∷ 64 ∷ 0 ∷ 1 ∷ 4 ∷ 2 ∷ 1 ∷ 65 ∷ 4 ∷ 1 ∷ 65 ∷ 0 ∷ []) (Err (22, 11))
    ∷ case leaves (sixteen ++ 1 ∷ 1 ∷ 0 ∷ 1 ∷ 64 ∷ 1 ∷ []) (Err (23, 55))
    -- the 17th variable; T6: a 17th that is built is refused at the part's map, before its own words, but after pairs short at that word
    ∷ case leaves (sixteen ++ 1 ∷ 1 ∷ 0 ∷ 1 ∷ 65 ∷ 0 ∷ []) (Ok 56)
    ∷ case leaves (sixteen ++ 1 ∷ 1 ∷ 0 ∷ 1 ∷ 64 ∷ 2 ∷ []) (Err (24, 55))
    ∷ case leaves (sixteen ++ 1 ∷ 4 ∷ 2 ∷ 1 ∷ 2 ∷ 7 ∷ []) (Err (24, 51))
    ∷ case leaves (sixteen ++ 1 ∷ 4 ∷ 2 ∷ 1 ∷ 9 ∷ 9 ∷ []) (Err (24, 51))
    ∷ case leaves (sixteen ++ 2 ∷ 3 ∷ 1 ∷ 0 ∷ 1 ∷ 1 ∷ 0 ∷ 4 ∷ 2 ∷ 1 ∷ 2 ∷ 7 ∷ []) (Err (23, 57))
    ∷ case leaves (fifteen ++ 1 ∷ 4 ∷ 2 ∷ 1 ∷ 2 ∷ 7 ∷ []) (Ok 56)
    ∷ case leaves (fifteen ++ 2 ∷ 4 ∷ 2 ∷ 1 ∷ 2 ∷ 7 ∷ 4 ∷ 2 ∷ 1 ∷ 2 ∷ 7 ∷ []) (Err (24, 56))
    -- T7: nesting 64; a variable at 65; another kind at 65; pairs short at 65
    ∷ case nests (1 ∷ 8 ∷ 0 ∷ 64 ∷ deep 31 (0 ∷ 0 ∷ 64 ∷ 1 ∷ 2 ∷ 0 ∷ 0 ∷ 65 ∷ 0 ∷ [])) (Ok 137)
    ∷ case nests (1 ∷ 8 ∷ 0 ∷ 65 ∷ deep 32 (64 ∷ 0 ∷ 1 ∷ 65 ∷ 0 ∷ [])) (Err (24, 132))
    ∷ case nests (1 ∷ 8 ∷ 0 ∷ 65 ∷ deep 32 (0 ∷ 0 ∷ 1 ∷ 65 ∷ 0 ∷ [])) (Err (24, 132))
    ∷ case nests (1 ∷ 8 ∷ 0 ∷ 65 ∷ deep 32 (1 ∷ 0 ∷ 1 ∷ 65 ∷ 0 ∷ [])) (Err (23, 132))
    ∷ case nests (1 ∷ 8 ∷ 0 ∷ 64 ∷ deep 32 (1 ∷ 65 ∷ 0 ∷ [])) (Err (23, 132))
    -- T8: K is 1 to 4 and stands before a 0
    ∷ case numbers (1 ∷ 8 ∷ 0 ∷ 1 ∷ 64 ∷ 0 ∷ 3 ∷ 66 ∷ 0 ∷ 1 ∷ 0 ∷ 0 ∷ 0 ∷ []) (Ok 13)
    ∷ case numbers (1 ∷ 8 ∷ 0 ∷ 1 ∷ 64 ∷ 0 ∷ 6 ∷ 66 ∷ 0 ∷ 4 ∷ 0 ∷ 0 ∷ 0 ∷ 0 ∷ 0 ∷ 0 ∷ 0 ∷ 0 ∷ 0 ∷ []) (Ok 19)
    ∷ case numbers (1 ∷ 8 ∷ 0 ∷ 1 ∷ 64 ∷ 0 ∷ 3 ∷ 66 ∷ 0 ∷ 0 ∷ 0 ∷ 0 ∷ 0 ∷ []) (Err (23, 9))
    ∷ case numbers (1 ∷ 8 ∷ 0 ∷ 1 ∷ 64 ∷ 0 ∷ 7 ∷ 66 ∷ 0 ∷ 5 ∷ 0 ∷ 0 ∷ 0 ∷ 0 ∷ 0 ∷ 0 ∷ 0 ∷ 0 ∷ 0 ∷ 0 ∷ 0 ∷ []) (Err (23, 9))
    ∷ case numbers (1 ∷ 8 ∷ 0 ∷ 1 ∷ 64 ∷ 0 ∷ 3 ∷ 66 ∷ 0 ∷ 1 ∷ 1 ∷ 0 ∷ 0 ∷ []) (Err (23, 10))
    -- T9: a rule or operation that is not there, or not usable here or on its scope
    ∷ case numbers (1 ∷ 8 ∷ 0 ∷ 1 ∷ 64 ∷ 0 ∷ 3 ∷ 66 ∷ 0 ∷ 1 ∷ 0 ∷ 1 ∷ 0 ∷ []) (Err (22, 11))
    ∷ case numbers (1 ∷ 8 ∷ 0 ∷ 1 ∷ 64 ∷ 0 ∷ 3 ∷ 66 ∷ 0 ∷ 1 ∷ 0 ∷ 999 ∷ 0 ∷ []) (Err (22, 11))
    ∷ case numbers (2 ∷ 8 ∷ 0 ∷ 1 ∷ 64 ∷ 0 ∷ 3 ∷ 66 ∷ 0 ∷ 1 ∷ 0 ∷ 1 ∷ 0 ∷ 0 ∷ 0 ∷ 1 ∷ 64 ∷ 0 ∷ []) (Err (22, 11))
    ∷ case numbers (2 ∷ 8 ∷ 0 ∷ 1 ∷ 64 ∷ 0 ∷ 3 ∷ 66 ∷ 0 ∷ 1 ∷ 0 ∷ 1 ∷ 0 ∷ 8 ∷ 0 ∷ 1 ∷ 64 ∷ 0 ∷ 1 ∷ 65 ∷ 0 ∷ []) (Ok 21)
    ∷ case numbers (2 ∷ 8 ∷ 0 ∷ 1 ∷ 64 ∷ 0 ∷ 3 ∷ 66 ∷ 0 ∷ 1 ∷ 0 ∷ 1 ∷ 0 ∷ 8 ∷ 2 ∷ 1 ∷ 64 ∷ 2 ∷ 1 ∷ 65 ∷ 0 ∷ []) (Err (22, 11))
    ∷ case numbers (2 ∷ 8 ∷ 0 ∷ 1 ∷ 64 ∷ 0 ∷ 3 ∷ 66 ∷ 0 ∷ 1 ∷ 0 ∷ 1 ∷ 0 ∷ 9 ∷ 2 ∷ 1 ∷ 1 ∷ 64 ∷ 2 ∷ 1 ∷ 65 ∷ 0 ∷ []) (Ok 22)
    ∷ case numbers (1 ∷ 9 ∷ 2 ∷ 2 ∷ 1 ∷ 64 ∷ 2 ∷ 4 ∷ 66 ∷ 0 ∷ 1 ∷ 0 ∷ 1000 ∷ 1 ∷ 65 ∷ 0 ∷ []) (Ok 16)
    ∷ case numbers (1 ∷ 9 ∷ 2 ∷ 2 ∷ 1 ∷ 64 ∷ 2 ∷ 4 ∷ 66 ∷ 0 ∷ 1 ∷ 0 ∷ 1006 ∷ 1 ∷ 65 ∷ 0 ∷ []) (Err (22, 12))
    ∷ case numbers (1 ∷ 9 ∷ 2 ∷ 2 ∷ 1 ∷ 64 ∷ 2 ∷ 4 ∷ 66 ∷ 0 ∷ 1 ∷ 0 ∷ 1008 ∷ 1 ∷ 65 ∷ 0 ∷ []) (Err (22, 12))
    ∷ case numbers (1 ∷ 8 ∷ 0 ∷ 1 ∷ 64 ∷ 0 ∷ 4 ∷ 66 ∷ 0 ∷ 1 ∷ 0 ∷ 1000 ∷ 1 ∷ 65 ∷ 0 ∷ []) (Err (22, 11))
    ∷ case numbers (1 ∷ 13 ∷ 2 ∷ 2 ∷ 1 ∷ 64 ∷ 2 ∷ 1 ∷ 8 ∷ 4 ∷ 66 ∷ 0 ∷ 1 ∷ 0 ∷ 1008 ∷ 1 ∷ 65 ∷ 0 ∷ 1 ∷ 65 ∷ 0 ∷ []) (Ok 21)
    ∷ case numbers (1 ∷ 13 ∷ 2 ∷ 2 ∷ 1 ∷ 64 ∷ 2 ∷ 1 ∷ 24 ∷ 4 ∷ 66 ∷ 0 ∷ 1 ∷ 0 ∷ 1009 ∷ 1 ∷ 65 ∷ 0 ∷ 1 ∷ 65 ∷ 0 ∷ []) (Ok 21)
    ∷ case numbers (1 ∷ 13 ∷ 2 ∷ 2 ∷ 1 ∷ 64 ∷ 2 ∷ 1 ∷ 8 ∷ 4 ∷ 66 ∷ 0 ∷ 1 ∷ 0 ∷ 1000 ∷ 1 ∷ 65 ∷ 0 ∷ 1 ∷ 65 ∷ 0 ∷ []) (Err (22, 14))
    ∷ case numbers (1 ∷ 13 ∷ 2 ∷ 2 ∷ 1 ∷ 64 ∷ 2 ∷ 1 ∷ 8 ∷ 4 ∷ 66 ∷ 0 ∷ 1 ∷ 0 ∷ 1007 ∷ 1 ∷ 65 ∷ 0 ∷ 1 ∷ 65 ∷ 0 ∷ []) (Err (22, 14))
    ∷ case numbers (2 ∷ 12 ∷ 0 ∷ 1 ∷ 64 ∷ 0 ∷ 1 ∷ 8 ∷ 3 ∷ 66 ∷ 0 ∷ 1 ∷ 0 ∷ 1 ∷ 0 ∷ 1 ∷ 65 ∷ 0 ∷ 0 ∷ 0 ∷ 1 ∷ 64 ∷ 0 ∷ []) (Ok 23)
    ∷ case numbers (2 ∷ 12 ∷ 0 ∷ 1 ∷ 64 ∷ 0 ∷ 1 ∷ 8 ∷ 3 ∷ 66 ∷ 0 ∷ 1 ∷ 0 ∷ 1 ∷ 0 ∷ 1 ∷ 65 ∷ 0 ∷ 0 ∷ 2 ∷ 1 ∷ 64 ∷ 2 ∷ []) (Err (22, 13))
    -- T10: the argument count, before the arguments
    ∷ case numbers (1 ∷ 9 ∷ 2 ∷ 2 ∷ 1 ∷ 64 ∷ 2 ∷ 3 ∷ 66 ∷ 0 ∷ 1 ∷ 0 ∷ 1005 ∷ 0 ∷ []) (Ok 14)
    ∷ case numbers (1 ∷ 9 ∷ 2 ∷ 2 ∷ 1 ∷ 64 ∷ 2 ∷ 4 ∷ 66 ∷ 0 ∷ 1 ∷ 0 ∷ 1004 ∷ 1 ∷ 65 ∷ 0 ∷ []) (Err (22, 13))
    ∷ case numbers (1 ∷ 9 ∷ 2 ∷ 2 ∷ 1 ∷ 64 ∷ 2 ∷ 3 ∷ 66 ∷ 0 ∷ 1 ∷ 0 ∷ 1000 ∷ 0 ∷ []) (Err (22, 13))
    ∷ case numbers (1 ∷ 9 ∷ 2 ∷ 2 ∷ 1 ∷ 64 ∷ 2 ∷ 4 ∷ 66 ∷ 0 ∷ 1 ∷ 0 ∷ 1000 ∷ 2 ∷ 9 ∷ 9 ∷ []) (Err (22, 13))
    -- T11: an argument's first word, its variable, its type: a parameter's very type, or for an operation a number token
    ∷ case numbers (1 ∷ 9 ∷ 2 ∷ 2 ∷ 1 ∷ 64 ∷ 2 ∷ 4 ∷ 66 ∷ 0 ∷ 1 ∷ 0 ∷ 1000 ∷ 1 ∷ 2 ∷ 0 ∷ []) (Err (23, 14))
    ∷ case numbers (1 ∷ 9 ∷ 2 ∷ 2 ∷ 1 ∷ 64 ∷ 2 ∷ 4 ∷ 66 ∷ 0 ∷ 1 ∷ 0 ∷ 1000 ∷ 1 ∷ 65 ∷ 1 ∷ []) (Err (22, 15))
    ∷ case numbers (1 ∷ 12 ∷ 0 ∷ 1 ∷ 64 ∷ 0 ∷ 2 ∷ 4 ∷ 2 ∷ 1 ∷ 2 ∷ 100 ∷ 4 ∷ 2 ∷ 4 ∷ 66 ∷ 1 ∷ 1 ∷ 0 ∷ 1000 ∷ 1 ∷ 65 ∷ 1 ∷ 1 ∷ 65 ∷ 0 ∷ []) (Ok 26)
    ∷ case numbers (1 ∷ 12 ∷ 0 ∷ 1 ∷ 64 ∷ 0 ∷ 2 ∷ 4 ∷ 2 ∷ 1 ∷ 2 ∷ 100 ∷ 4 ∷ 2 ∷ 4 ∷ 66 ∷ 1 ∷ 1 ∷ 0 ∷ 1000 ∷ 1 ∷ 65 ∷ 0 ∷ 1 ∷ 65 ∷ 0 ∷ []) (Err (23, 22))
    ∷ case numbers (2 ∷ 8 ∷ 0 ∷ 1 ∷ 64 ∷ 0 ∷ 4 ∷ 66 ∷ 0 ∷ 1 ∷ 0 ∷ 1 ∷ 1 ∷ 65 ∷ 0 ∷ 10 ∷ 0 ∷ 1 ∷ 0 ∷ 1 ∷ 64 ∷ 0 ∷ 1 ∷ 65 ∷ 1 ∷ []) (Ok 25)
    ∷ case numbers (2 ∷ 8 ∷ 0 ∷ 1 ∷ 64 ∷ 0 ∷ 4 ∷ 66 ∷ 0 ∷ 1 ∷ 0 ∷ 1 ∷ 1 ∷ 65 ∷ 0 ∷ 10 ∷ 0 ∷ 1 ∷ 2 ∷ 1 ∷ 64 ∷ 0 ∷ 1 ∷ 65 ∷ 1 ∷ []) (Err (23, 14))
    ∷ case sums (1 ∷ 8 ∷ 0 ∷ 3 ∷ 0 ∷ 0 ∷ 64 ∷ 1 ∷ 64 ∷ 2 ∷ 6 ∷ 0 ∷ 0 ∷ 66 ∷ 0 ∷ 1 ∷ 0 ∷ 1000 ∷ 1 ∷ 65 ∷ 1 ∷ 65 ∷ 1 ∷ []) (Ok 23)
    -- T12: a variable is there right after its pair; a built one after its part
    ∷ case twos (1 ∷ 8 ∷ 0 ∷ 3 ∷ 0 ∷ 0 ∷ 64 ∷ 1 ∷ 65 ∷ 0 ∷ 3 ∷ 0 ∷ 0 ∷ 65 ∷ 0 ∷ 65 ∷ 0 ∷ []) (Ok 17)
    ∷ case twos (1 ∷ 8 ∷ 0 ∷ 3 ∷ 0 ∷ 0 ∷ 65 ∷ 0 ∷ 64 ∷ 1 ∷ 3 ∷ 0 ∷ 0 ∷ 65 ∷ 0 ∷ 65 ∷ 0 ∷ []) (Err (22, 7))
    ∷ case numbers (1 ∷ 12 ∷ 0 ∷ 1 ∷ 64 ∷ 0 ∷ 1 ∷ 4 ∷ 2 ∷ 1 ∷ 65 ∷ 1 ∷ 1 ∷ 65 ∷ 0 ∷ []) (Err (22, 11))
    -- T13: pairs short, at the word after the last, in a chain too, unless a count before is at fault
    ∷ case numbers (1 ∷ 8 ∷ 0 ∷ 1 ∷ 0 ∷ 0 ∷ 1 ∷ 65 ∷ 0 ∷ []) (Err (23, 6))
    ∷ case numbers (1 ∷ 8 ∷ 0 ∷ 1 ∷ 64 ∷ 0 ∷ 1 ∷ 0 ∷ 0 ∷ []) (Err (23, 9))
    ∷ case numbers (1 ∷ 8 ∷ 0 ∷ 1 ∷ 64 ∷ 0 ∷ 2 ∷ 66 ∷ 0 ∷ 1 ∷ 0 ∷ []) (Err (23, 11))
    ∷ case numbers (1 ∷ 8 ∷ 0 ∷ 1 ∷ 64 ∷ 0 ∷ 3 ∷ 66 ∷ 0 ∷ 1 ∷ 0 ∷ 0 ∷ 7 ∷ []) (Err (22, 12))
    -- T14: pairs over, at the first left over
    ∷ case numbers (1 ∷ 9 ∷ 2 ∷ 2 ∷ 2 ∷ 2 ∷ 200 ∷ 9 ∷ 9 ∷ 1 ∷ 2 ∷ 4200 ∷ []) (Err (23, 7))
    ∷ case numbers (1 ∷ 9 ∷ 2 ∷ 2 ∷ 1 ∷ 2 ∷ 200 ∷ 2 ∷ 2 ∷ 4200 ∷ 65 ∷ 0 ∷ []) (Err (23, 10))
    -- T15: a condition is one chain, from any variable
    ∷ case numbers (1 ∷ 13 ∷ 2 ∷ 2 ∷ 1 ∷ 64 ∷ 2 ∷ 1 ∷ 8 ∷ 1 ∷ 65 ∷ 0 ∷ 1 ∷ 65 ∷ 0 ∷ []) (Err (23, 10))
    ∷ case numbers (1 ∷ 13 ∷ 2 ∷ 2 ∷ 1 ∷ 64 ∷ 2 ∷ 1 ∷ 8 ∷ 4 ∷ 66 ∷ 1 ∷ 1 ∷ 0 ∷ 1008 ∷ 1 ∷ 65 ∷ 0 ∷ 1 ∷ 65 ∷ 0 ∷ []) (Err (22, 11))
    ∷ case numbers (1 ∷ 13 ∷ 2 ∷ 2 ∷ 1 ∷ 64 ∷ 2 ∷ 1 ∷ 8 ∷ 5 ∷ 66 ∷ 0 ∷ 1 ∷ 0 ∷ 1008 ∷ 1 ∷ 65 ∷ 0 ∷ 65 ∷ 0 ∷ 1 ∷ 65 ∷ 0 ∷ []) (Err (23, 18))
    -- T16: a chain whose variable's type is not due
    ∷ case sums (1 ∷ 8 ∷ 0 ∷ 3 ∷ 0 ∷ 0 ∷ 64 ∷ 1 ∷ 64 ∷ 2 ∷ 6 ∷ 0 ∷ 0 ∷ 66 ∷ 1 ∷ 1 ∷ 0 ∷ 1000 ∷ 1 ∷ 65 ∷ 1 ∷ 65 ∷ 1 ∷ []) (Err (23, 14))
    -- T17: the main rule may be applied, without arguments
    ∷ case numbers (1 ∷ 8 ∷ 0 ∷ 1 ∷ 64 ∷ 0 ∷ 4 ∷ 66 ∷ 0 ∷ 1 ∷ 0 ∷ 0 ∷ 1 ∷ 65 ∷ 0 ∷ []) (Err (22, 12))
    -- T18: a node's value. T-02: "in .. patterns, replacements", "4,000,000,000 passes and 4,000,000,001 is refused"
    ∷ case numbers (1 ∷ 9 ∷ 2 ∷ 2 ∷ 1 ∷ 2 ∷ 4000000000 ∷ 1 ∷ 2 ∷ 4000000000 ∷ []) (Ok 10)
    ∷ case numbers (1 ∷ 9 ∷ 2 ∷ 2 ∷ 1 ∷ 2 ∷ 4000000001 ∷ 1 ∷ 2 ∷ 0 ∷ []) (Err (23, 6))
    ∷ case numbers (1 ∷ 9 ∷ 2 ∷ 2 ∷ 1 ∷ 2 ∷ 0 ∷ 1 ∷ 2 ∷ 4000000001 ∷ []) (Err (23, 9))
    ∷ case numbers (1 ∷ 9 ∷ 1 ∷ 1 ∷ 1 ∷ 1 ∷ 2 ∷ 1 ∷ 1 ∷ 1 ∷ []) (Err (23, 6))
    ∷ case numbers (1 ∷ 8 ∷ 0 ∷ 1 ∷ 0 ∷ 1 ∷ 1 ∷ 65 ∷ 0 ∷ []) (Err (23, 5))
    -- the variable to take apart, and the searched type
    ∷ case numbers (1 ∷ 12 ∷ 0 ∷ 1 ∷ 64 ∷ 0 ∷ 1 ∷ 1 ∷ 0 ∷ 1 ∷ 64 ∷ 0 ∷ 1 ∷ 65 ∷ 0 ∷ []) (Ok 15)
    ∷ case numbers (1 ∷ 12 ∷ 0 ∷ 1 ∷ 64 ∷ 0 ∷ 1 ∷ 1 ∷ 1 ∷ 1 ∷ 64 ∷ 0 ∷ 1 ∷ 65 ∷ 0 ∷ []) (Err (22, 8))
    ∷ case numbers (1 ∷ 12 ∷ 0 ∷ 1 ∷ 64 ∷ 0 ∷ 1 ∷ 3 ∷ 2 ∷ 0 ∷ 1 ∷ 64 ∷ 2 ∷ 1 ∷ 65 ∷ 0 ∷ []) (Ok 16)
    ∷ case numbers (1 ∷ 12 ∷ 0 ∷ 1 ∷ 64 ∷ 0 ∷ 1 ∷ 3 ∷ 2 ∷ 0 ∷ 1 ∷ 64 ∷ 0 ∷ 1 ∷ 65 ∷ 0 ∷ []) (Err (23, 12))
    -- a list is written as a repeat is, its rest on its own nesting
    ∷ case kinds (1 ∷ 8 ∷ 0 ∷ 3 ∷ 0 ∷ 0 ∷ 64 ∷ 1 ∷ 64 ∷ 2 ∷ 7 ∷ 0 ∷ 0 ∷ 65 ∷ 0 ∷ 2 ∷ 0 ∷ 3 ∷ 7 ∷ 2 ∷ 0 ∷ 3 ∷ 8 ∷ 2 ∷ 1 ∷ []) (Ok 25)
    ∷ case (1 ∷ 16 ∷ 0 ∷ []) (1 ∷ 8 ∷ 0 ∷ 127 ∷ times 63 (0 ∷ 0 ∷ 0 ∷ 1 ∷ []) (0 ∷ 1 ∷ 1 ∷ 0 ∷ 1 ∷ [])) (Ok 261)
    -- neither stands for the other: as a node, as a variable, as an argument
    ∷ case kinds (1 ∷ 8 ∷ 0 ∷ 3 ∷ 0 ∷ 0 ∷ 64 ∷ 1 ∷ 64 ∷ 2 ∷ 3 ∷ 0 ∷ 0 ∷ 65 ∷ 0 ∷ 65 ∷ 1 ∷ []) (Ok 17)
    ∷ case kinds (1 ∷ 8 ∷ 0 ∷ 3 ∷ 0 ∷ 0 ∷ 64 ∷ 1 ∷ 64 ∷ 2 ∷ 3 ∷ 0 ∷ 0 ∷ 2 ∷ 1 ∷ 65 ∷ 1 ∷ []) (Err (23, 13))
    ∷ case kinds (1 ∷ 8 ∷ 0 ∷ 3 ∷ 0 ∷ 0 ∷ 64 ∷ 1 ∷ 64 ∷ 2 ∷ 3 ∷ 0 ∷ 0 ∷ 65 ∷ 1 ∷ 65 ∷ 0 ∷ []) (Err (23, 14))
    ∷ case kinds (2 ∷ 8 ∷ 0 ∷ 3 ∷ 0 ∷ 0 ∷ 64 ∷ 1 ∷ 64 ∷ 2 ∷ 6 ∷ 0 ∷ 0 ∷ 66 ∷ 0 ∷ 1 ∷ 0 ∷ 1 ∷ 1 ∷ 65 ∷ 1 ∷ 65 ∷ 1 ∷ 10 ∷ 1 ∷ 1 ∷ 2 ∷ 1 ∷ 64 ∷ 1 ∷ 1 ∷ 65 ∷ 1 ∷ []) (Ok 33)
    ∷ case kinds (2 ∷ 8 ∷ 0 ∷ 3 ∷ 0 ∷ 0 ∷ 64 ∷ 1 ∷ 64 ∷ 2 ∷ 6 ∷ 0 ∷ 0 ∷ 66 ∷ 0 ∷ 1 ∷ 0 ∷ 1 ∷ 1 ∷ 65 ∷ 0 ∷ 65 ∷ 1 ∷ 10 ∷ 1 ∷ 1 ∷ 2 ∷ 1 ∷ 64 ∷ 1 ∷ 1 ∷ 65 ∷ 1 ∷ []) (Err (23, 20))
    -- T04-8: "Only replacements apply these operations, not tests": join, select, head, tail, length and extract in a rule's replacement
    ∷ case edits (replaced 1 4 (1010 ∷ 1 ∷ 65 ∷ 1 ∷ [])) (Ok 26)
    ∷ case edits (replaced 1 5 (1011 ∷ 2 ∷ 65 ∷ 1 ∷ 65 ∷ 1 ∷ [])) (Ok 28)
    ∷ case edits (replaced 1 4 (1012 ∷ 1 ∷ 65 ∷ 1 ∷ [])) (Ok 26)
    ∷ case edits (replaced 1 4 (1013 ∷ 1 ∷ 65 ∷ 1 ∷ [])) (Ok 26)
    ∷ case edits (replaced 5 4 (1014 ∷ 1 ∷ 65 ∷ 0 ∷ [])) (Ok 26)
    ∷ case edits (replaced 1 4 (1015 ∷ 1 ∷ 65 ∷ 0 ∷ [])) (Ok 26)
    -- .. in a build
    ∷ case edits (built 1 4 (1010 ∷ 1 ∷ 65 ∷ 1 ∷ [])) (Ok 42)
    ∷ case edits (built 1 5 (1011 ∷ 2 ∷ 65 ∷ 5 ∷ 65 ∷ 5 ∷ [])) (Ok 44)
    ∷ case edits (built 1 4 (1012 ∷ 1 ∷ 65 ∷ 5 ∷ [])) (Ok 42)
    ∷ case edits (built 1 4 (1013 ∷ 1 ∷ 65 ∷ 5 ∷ [])) (Ok 42)
    ∷ case edits (built 5 4 (1014 ∷ 1 ∷ 65 ∷ 1 ∷ [])) (Ok 42)
    ∷ case edits (built 1 4 (1015 ∷ 1 ∷ 65 ∷ 8 ∷ [])) (Ok 42)
    -- .. in a test: at the first word
    ∷ case edits (tested 1 4 (1010 ∷ 1 ∷ 65 ∷ 1 ∷ [])) (Err (22, 34))
    ∷ case edits (tested 1 5 (1011 ∷ 2 ∷ 65 ∷ 5 ∷ 65 ∷ 5 ∷ [])) (Err (22, 34))
    ∷ case edits (tested 1 4 (1012 ∷ 1 ∷ 65 ∷ 5 ∷ [])) (Err (22, 34))
    ∷ case edits (tested 1 4 (1013 ∷ 1 ∷ 65 ∷ 5 ∷ [])) (Err (22, 34))
    ∷ case edits (tested 5 4 (1014 ∷ 1 ∷ 65 ∷ 1 ∷ [])) (Err (22, 34))
    ∷ case edits (tested 1 4 (1015 ∷ 1 ∷ 65 ∷ 8 ∷ [])) (Err (22, 34))
    -- several in one chain, on a sequence and on a number
    ∷ case edits (apart (4 ∷ 1 ∷ 11 ∷ 66 ∷ 1 ∷ 4 ∷ 0 ∷ 1010 ∷ 1 ∷ 65 ∷ 5 ∷ 1011 ∷ 2 ∷ 65 ∷ 5 ∷ 65 ∷ 7 ∷ 1012 ∷ 1 ∷ 65 ∷ 5 ∷ 1013 ∷ 1 ∷ 65 ∷ 7 ∷ [])) (Ok 56)
    ∷ case edits (apart (4 ∷ 5 ∷ 6 ∷ 66 ∷ 5 ∷ 2 ∷ 0 ∷ 1014 ∷ 1 ∷ 65 ∷ 1 ∷ 1000 ∷ 1 ∷ 65 ∷ 7 ∷ [])) (Ok 46)
    -- T04-1: no operation, on a number, on a sequence, in a test
    ∷ case edits (built 5 4 (1006 ∷ 1 ∷ 65 ∷ 5 ∷ [])) (Err (22, 35))
    ∷ case edits (built 5 4 (1007 ∷ 1 ∷ 65 ∷ 5 ∷ [])) (Err (22, 35))
    ∷ case edits (built 5 4 (1016 ∷ 1 ∷ 65 ∷ 5 ∷ [])) (Err (22, 35))
    ∷ case edits (built 1 4 (1016 ∷ 1 ∷ 65 ∷ 5 ∷ [])) (Err (22, 35))
    ∷ case edits (tested 5 4 (1016 ∷ 1 ∷ 65 ∷ 5 ∷ [])) (Err (22, 34))
    -- T04-2: a scope that is no sequence: a number, though it is an element; an opt, a form, a name
    ∷ case edits (built 5 4 (1010 ∷ 1 ∷ 65 ∷ 5 ∷ [])) (Err (22, 35))
    ∷ case edits (built 5 5 (1011 ∷ 2 ∷ 65 ∷ 5 ∷ 65 ∷ 5 ∷ [])) (Err (22, 35))
    ∷ case edits (built 4 4 (1012 ∷ 1 ∷ 65 ∷ 5 ∷ [])) (Err (22, 35))
    ∷ case edits (built 0 4 (1013 ∷ 1 ∷ 65 ∷ 5 ∷ [])) (Err (22, 35))
    ∷ case edits (built 6 4 (1015 ∷ 1 ∷ 65 ∷ 6 ∷ [])) (Err (22, 35))
    -- .. for length one that is no number; nor does a sequence fit an operation on numbers
    ∷ case edits (built 1 4 (1014 ∷ 1 ∷ 65 ∷ 1 ∷ [])) (Err (22, 35))
    ∷ case edits (built 3 4 (1014 ∷ 1 ∷ 65 ∷ 3 ∷ [])) (Err (22, 35))
    ∷ case edits (built 6 4 (1014 ∷ 1 ∷ 65 ∷ 1 ∷ [])) (Err (22, 35))
    ∷ case edits (built 1 4 (1000 ∷ 1 ∷ 65 ∷ 5 ∷ [])) (Err (22, 35))
    ∷ case edits (built 1 3 (1005 ∷ 0 ∷ [])) (Err (22, 35))
    ∷ case edits (tested 1 4 (1008 ∷ 1 ∷ 65 ∷ 5 ∷ [])) (Err (22, 34))
    -- .. before the count
    ∷ case edits (built 5 3 (1010 ∷ 0 ∷ [])) (Err (22, 35))
    -- T04-6: lists are "fit for the same operations", and any number for length
    ∷ case edits (built 3 4 (1010 ∷ 1 ∷ 65 ∷ 3 ∷ [])) (Ok 42)
    ∷ case edits (built 3 5 (1011 ∷ 2 ∷ 65 ∷ 5 ∷ 65 ∷ 5 ∷ [])) (Ok 44)
    ∷ case edits (built 3 4 (1012 ∷ 1 ∷ 65 ∷ 5 ∷ [])) (Ok 42)
    ∷ case edits (built 3 4 (1013 ∷ 1 ∷ 65 ∷ 5 ∷ [])) (Ok 42)
    ∷ case edits (built 3 4 (1015 ∷ 1 ∷ 65 ∷ 1 ∷ [])) (Ok 42)
    ∷ case edits (built 7 4 (1014 ∷ 1 ∷ 65 ∷ 3 ∷ [])) (Ok 42)
    -- T04-4: the count of arguments, before the arguments
    ∷ case edits (built 1 3 (1010 ∷ 0 ∷ [])) (Err (22, 36))
    ∷ case edits (built 1 5 (1010 ∷ 2 ∷ 9 ∷ 9 ∷ 9 ∷ 9 ∷ [])) (Err (22, 36))
    ∷ case edits (built 1 4 (1011 ∷ 1 ∷ 65 ∷ 5 ∷ [])) (Err (22, 36))
    ∷ case edits (built 1 6 (1011 ∷ 3 ∷ 65 ∷ 5 ∷ 65 ∷ 5 ∷ 65 ∷ 5 ∷ [])) (Err (22, 36))
    ∷ case edits (built 1 5 (1012 ∷ 2 ∷ 65 ∷ 5 ∷ 65 ∷ 5 ∷ [])) (Err (22, 36))
    ∷ case edits (built 1 3 (1013 ∷ 0 ∷ [])) (Err (22, 36))
    ∷ case edits (built 5 3 (1014 ∷ 0 ∷ [])) (Err (22, 36))
    ∷ case edits (built 5 5 (1014 ∷ 2 ∷ 65 ∷ 1 ∷ 65 ∷ 1 ∷ [])) (Err (22, 36))
    ∷ case edits (built 1 3 (1015 ∷ 0 ∷ [])) (Err (22, 36))
    ∷ case edits (built 1 5 (1015 ∷ 2 ∷ 65 ∷ 1 ∷ 65 ∷ 1 ∷ [])) (Err (22, 36))
    -- T04-3: an argument's first word, and its variable, also where any type may stand
    ∷ case edits (built 1 4 (1010 ∷ 1 ∷ 1 ∷ 1 ∷ [])) (Err (23, 37))
    ∷ case edits (built 1 4 (1010 ∷ 1 ∷ 65 ∷ 9 ∷ [])) (Err (22, 38))
    ∷ case edits (built 1 4 (1012 ∷ 1 ∷ 64 ∷ 5 ∷ [])) (Err (23, 37))
    ∷ case edits (built 5 4 (1014 ∷ 1 ∷ 66 ∷ 1 ∷ [])) (Err (23, 37))
    ∷ case edits (built 5 4 (1014 ∷ 1 ∷ 65 ∷ 9 ∷ [])) (Err (22, 38))
    ∷ case edits (built 1 4 (1015 ∷ 1 ∷ 5 ∷ 0 ∷ [])) (Err (23, 37))
    ∷ case edits (built 1 4 (1015 ∷ 1 ∷ 65 ∷ 9 ∷ [])) (Err (22, 38))
    -- T04-5: join takes the very type or the element's. Not another repeat, nor the list, of the same element; nor an opt of it, another number, or the root
    ∷ case edits (built 1 4 (1010 ∷ 1 ∷ 65 ∷ 5 ∷ [])) (Ok 42)
    ∷ case edits (built 1 4 (1010 ∷ 1 ∷ 65 ∷ 2 ∷ [])) (Err (23, 38))
    ∷ case edits (built 1 4 (1010 ∷ 1 ∷ 65 ∷ 3 ∷ [])) (Err (23, 38))
    ∷ case edits (built 1 4 (1010 ∷ 1 ∷ 65 ∷ 4 ∷ [])) (Err (23, 38))
    ∷ case edits (built 1 4 (1010 ∷ 1 ∷ 65 ∷ 7 ∷ [])) (Err (23, 38))
    ∷ case edits (built 1 4 (1010 ∷ 1 ∷ 65 ∷ 0 ∷ [])) (Err (23, 38))
    -- .. to a list; to a repeat of repeats, where the element's element is no element; a repeat of repeats to its element
    ∷ case edits (built 3 4 (1010 ∷ 1 ∷ 65 ∷ 5 ∷ [])) (Ok 42)
    ∷ case edits (built 3 4 (1010 ∷ 1 ∷ 65 ∷ 1 ∷ [])) (Err (23, 38))
    ∷ case edits (built 8 4 (1010 ∷ 1 ∷ 65 ∷ 1 ∷ [])) (Ok 42)
    ∷ case edits (built 8 4 (1010 ∷ 1 ∷ 65 ∷ 2 ∷ [])) (Err (23, 38))
    ∷ case edits (built 8 4 (1010 ∷ 1 ∷ 65 ∷ 5 ∷ [])) (Err (23, 38))
    ∷ case edits (built 1 4 (1010 ∷ 1 ∷ 65 ∷ 8 ∷ [])) (Err (23, 38))
    -- T04-7: a list of itself
    ∷ case (1 ∷ 16 ∷ 0 ∷ []) (1 ∷ 8 ∷ 0 ∷ 1 ∷ 64 ∷ 0 ∷ 4 ∷ 66 ∷ 0 ∷ 1 ∷ 0 ∷ 1010 ∷ 1 ∷ 65 ∷ 0 ∷ []) (Ok 15)
    -- select takes two numbers of any types, judged left to right
    ∷ case edits (built 1 5 (1011 ∷ 2 ∷ 65 ∷ 5 ∷ 65 ∷ 7 ∷ [])) (Ok 44)
    ∷ case edits (built 1 5 (1011 ∷ 2 ∷ 65 ∷ 1 ∷ 65 ∷ 5 ∷ [])) (Err (23, 38))
    ∷ case edits (built 1 5 (1011 ∷ 2 ∷ 65 ∷ 5 ∷ 65 ∷ 6 ∷ [])) (Err (23, 40))
    ∷ case edits (built 1 5 (1011 ∷ 2 ∷ 65 ∷ 5 ∷ 65 ∷ 9 ∷ [])) (Err (22, 40))
    ∷ case edits (built 1 5 (1011 ∷ 2 ∷ 65 ∷ 6 ∷ 65 ∷ 9 ∷ [])) (Err (23, 38))
    ∷ case edits (built 1 5 (1011 ∷ 2 ∷ 65 ∷ 9 ∷ 65 ∷ 6 ∷ [])) (Err (22, 38))
    ∷ case edits (built 1 4 (1011 ∷ 2 ∷ 65 ∷ 5 ∷ [])) (Err (23, 39))
    -- head and tail one
    ∷ case edits (built 1 4 (1012 ∷ 1 ∷ 65 ∷ 7 ∷ [])) (Ok 42)
    ∷ case edits (built 1 4 (1012 ∷ 1 ∷ 65 ∷ 6 ∷ [])) (Err (23, 38))
    ∷ case edits (built 1 4 (1012 ∷ 1 ∷ 65 ∷ 1 ∷ [])) (Err (23, 38))
    ∷ case edits (built 1 4 (1013 ∷ 1 ∷ 65 ∷ 7 ∷ [])) (Ok 42)
    ∷ case edits (built 1 4 (1013 ∷ 1 ∷ 65 ∷ 4 ∷ [])) (Err (23, 38))
    -- length any sequence: a list, one of sequences; no number, opt or form
    ∷ case edits (built 5 4 (1014 ∷ 1 ∷ 65 ∷ 3 ∷ [])) (Ok 42)
    ∷ case edits (built 5 4 (1014 ∷ 1 ∷ 65 ∷ 8 ∷ [])) (Ok 42)
    ∷ case edits (built 5 4 (1014 ∷ 1 ∷ 65 ∷ 5 ∷ [])) (Err (23, 38))
    ∷ case edits (built 5 4 (1014 ∷ 1 ∷ 65 ∷ 4 ∷ [])) (Err (23, 38))
    ∷ case edits (built 5 4 (1014 ∷ 1 ∷ 65 ∷ 0 ∷ [])) (Err (23, 38))
    -- extract any type: its own, the element's, a form, an opt, a name
    ∷ case edits (built 1 4 (1015 ∷ 1 ∷ 65 ∷ 1 ∷ [])) (Ok 42)
    ∷ case edits (built 1 4 (1015 ∷ 1 ∷ 65 ∷ 5 ∷ [])) (Ok 42)
    ∷ case edits (built 1 4 (1015 ∷ 1 ∷ 65 ∷ 0 ∷ [])) (Ok 42)
    ∷ case edits (built 1 4 (1015 ∷ 1 ∷ 65 ∷ 4 ∷ [])) (Ok 42)
    ∷ case edits (built 1 4 (1015 ∷ 1 ∷ 65 ∷ 6 ∷ [])) (Ok 42)
    ∷ []

given : List Case → List (Result ℕ (ℕ × ℕ))
given [] = []
given (case gs ws c ∷ cs) = c ∷ given cs

found : List Case → List (Result ℕ (ℕ × ℕ))
found [] = []
found (case gs ws c ∷ cs) = answer (check_rules gs ws) ∷ found cs

right : found table ≡ given table
unfolding Reader.word Reader.word_in Reader.many Reader.end Grammar.types_of Grammar.field Grammar.element Grammar.form Grammar.kind Grammar.grammar Grammar.all_known Grammar.any_form_known Grammar.finishes Grammar.round Grammar.rounds Grammar.finite Grammar.finite_records Grammar.read_grammar Grammar.grammar_fits Kinds.kind_of Kinds.allows Kinds.allowed Kinds.children_of Kinds.children Kinds.is_sequence_kind Kinds.is_sequence Kinds.is_number_kind Kinds.is_number Tree.levels_of Tree.levels Sequences.element_of Dues.pairs Dues.whole Reading.dues_of Rules.operations Rules.applied Rules.shapes Rules.arguments Rules.applications Rules.pairs_in Rules.arguments_written Rules.applications_written Rules.chain_written Rules.unreadable Rules.chain_of Rules.condition_of Rules.pieces_after Rules.pieces Layout.strategy_of Layout.stretch Layout.field Layout.pairs Layout.variable_at Layout.deconstruct_fields Layout.condition_fields Layout.part_of Layout.reach Layout.replacement Layout.main_fits Layout.main_bits Layout.type_field Layout.search_fields Layout.construct_fields Layout.part_at Layout.part Layout.parameters Layout.head_fields Layout.head Layout.parts Layout.rule Layout.layout Layout.read_layout Layout.rules_fit Wanted.wants Typing.may_stand Typing.is_some Typing.applies_rule Typing.applies_operation Typing.fits_scope Typing.operates_on Typing.usable Typing.wanted_by_edit Typing.wanted_by_operation Typing.wanted_by Typing.new_variable Typing.variable Typing.chain Typing.node Typing.meets Typing.typed Typing.variable_there Typing.part_typed Typing.parts_typed Typing.rule_typed Typing.main_target Typing.rules_typed Typing.read_rules Typing.check_rules numbers kinds nests twos sums leaves times deep with_leaf sixteen fifteen edits apart built tested replaced table given found
right = refl

-- Small inputs that pin how document 01's words on a run are read, each with its outcome: one table, one proof. The letters are the readings': M the order of
-- steps, H live nodes and limits, O operations, A the answer. Memories are as short as they may be. Assumes nothing.
use Rattle.std.specs.Prelude.{ℕ, zero, suc, ◌≡◌, refl, List, [], ◌∷◌, ◌++◌, replicate}
use Rattle.words.specs.Reader.{Words}
use Rattle.meaning.specs.Meaning.{done, stopped}
use Rattle.meaning.specs.Outcome.{Outcome, refused, ended, outcome}
use Rattle.meaning.specs.Cases.{Case, case, over, in_words, large, given, found}
use Rattle.words.specs.Reader as Reader
use Rattle.words.specs.Views as Views
use Rattle.grammar.specs.Grammar as Grammar
use Rattle.grammar.specs.Kinds as Kinds
use Rattle.tree.specs.Tree as Tree
use Rattle.tree.specs.Blanks as Blanks
use Rattle.tree.specs.Sequences as Sequences
use Rattle.tree.specs.Dues as Dues
use Rattle.tree.specs.Reading as Reading
use Rattle.tree.specs.Slip as Slip
use Rattle.rules.specs.Rules as Rules
use Rattle.rules.specs.Layout as Layout
use Rattle.judgement.specs.Wanted as Wanted
use Rattle.judgement.specs.Typing as Typing
use Rattle.meaning.specs.Computation as Computation
use Rattle.meaning.specs.Rounding as Rounding
use Rattle.meaning.specs.Operations as Operations
use Rattle.meaning.specs.Edits as Edits
use Rattle.meaning.specs.Meaning as Meaning
use Rattle.meaning.specs.Outcome as Outcome
use Rattle.meaning.specs.Cases as Cases

-- "Grammar 3 8 1 1 1 4 2 1 2 (program of repeat number). Book 1 9 2 2 1 2 200 1 2 4200. Slip 0 0 1 0 2 200 1 0 2 500 1 1, that is 2.00, 5.00"
numbers : Words
numbers = 3 ∷ 8 ∷ 1 ∷ 1 ∷ 1 ∷ 4 ∷ 2 ∷ 1 ∷ 2 ∷ []

to_forty_two : Words
to_forty_two = 1 ∷ 9 ∷ 2 ∷ 2 ∷ 1 ∷ 2 ∷ 200 ∷ 1 ∷ 2 ∷ 4200 ∷ []

two_and_five : Words
two_and_five = 0 ∷ 0 ∷ 1 ∷ 0 ∷ 2 ∷ 200 ∷ 1 ∷ 0 ∷ 2 ∷ 500 ∷ 1 ∷ 1 ∷ []

-- a tree of that grammar, with these numbers
elements : List ℕ → Words
elements [] = 1 ∷ 1 ∷ []
elements (n ∷ ns) = 1 ∷ 0 ∷ 2 ∷ n ∷ elements ns

list : List ℕ → Words
list ns = 0 ∷ 0 ∷ elements ns

-- the same with a list for the repeat
lists : Words
lists = 3 ∷ 8 ∷ 1 ∷ 1 ∷ 1 ∷ 16 ∷ 2 ∷ 1 ∷ 2 ∷ []

-- a grammar of one type, a sequence of itself
sequences : Words
sequences = 1 ∷ 4 ∷ 0 ∷ []

-- a grammar of one type with two forms: one tree of the type, or none
levels : Words
levels = 1 ∷ 8 ∷ 2 ∷ 1 ∷ 0 ∷ 0 ∷ []

-- the words k times
times : ℕ → Words → Words
times zero ws = []
times (suc k) ws = ws ++ times k ws

-- T-05: slips of two fields of type 1, the payer and the payee, or of one; the kinds of type 1 and of those after it follow
fields : ℕ → Words → Words
fields n kinds = n ∷ 8 ∷ 2 ∷ 2 ∷ 1 ∷ 1 ∷ 1 ∷ 1 ∷ kinds

names : Words
names = fields 2 (1 ∷ 1 ∷ [])

-- "transfers marked to own account": if the payee is the payer, one field is left
own_account : Words
own_account = 1 ∷ 8 ∷ 0 ∷ 3 ∷ 0 ∷ 0 ∷ 64 ∷ 1 ∷ 65 ∷ 0 ∷ 2 ∷ 0 ∷ 1 ∷ 65 ∷ 0 ∷ []

both : Words → Words
both field = 0 ∷ 0 ∷ (field ++ field)

-- payer and payee are the same, and are found to be
alike : ℕ → Words → Words → Case
alike n kinds field = case 1 (fields n kinds) own_account (both field) (ended done 1 1 (0 ∷ 1 ∷ field))

-- .. and hold a blank
blank : ℕ → Words → Words → Case
blank n kinds field = case 1 (fields n kinds) own_account (both field) (ended done 1 0 (both field))

-- T-06: slips of fields, of type 2. A field is a name, or a name as its prefix and a field
prefixes : Words
prefixes = 4 ∷ 8 ∷ 1 ∷ 1 ∷ 1 ∷ 4 ∷ 2 ∷ 8 ∷ 2 ∷ 1 ∷ 3 ∷ 2 ∷ 3 ∷ 2 ∷ 1 ∷ 1 ∷ []

-- a field: its prefixes, and its name at last
prefixed : List ℕ → Words
prefixed [] = []
prefixed (n ∷ []) = 2 ∷ 0 ∷ 3 ∷ n ∷ []
prefixed (n ∷ m ∷ ns) = 2 ∷ 1 ∷ 3 ∷ n ∷ prefixed (m ∷ ns)

rows : List (List ℕ) → Words
rows [] = 1 ∷ 1 ∷ []
rows (f ∷ fs) = 1 ∷ 0 ∷ (prefixed f ++ rows fs)

slip : List (List ℕ) → Words
slip fs = 0 ∷ 0 ∷ rows fs

-- "rules that add a prefix", here 9, to any field; with this reach
prefixing : ℕ → Words
prefixing reach = 1 ∷ 9 ∷ 2 ∷ reach ∷ 1 ∷ 64 ∷ 2 ∷ 3 ∷ 2 ∷ 1 ∷ 3 ∷ 9 ∷ 65 ∷ 0 ∷ []

-- the first number is added to itself, again and again
added_to_itself : Words
added_to_itself = 1 ∷ 9 ∷ 2 ∷ 2 ∷ 1 ∷ 64 ∷ 2 ∷ 4 ∷ 66 ∷ 0 ∷ 1 ∷ 0 ∷ 1000 ∷ 1 ∷ 65 ∷ 0 ∷ []

three : Words
three = slip ((1 ∷ []) ∷ (2 ∷ []) ∷ (3 ∷ []) ∷ [])

each_once : Words
each_once = slip ((9 ∷ 1 ∷ []) ∷ (9 ∷ 2 ∷ []) ∷ (9 ∷ 3 ∷ []) ∷ [])

-- .. its own name, to a field that has none
doubling : Words
doubling = 1 ∷ 9 ∷ 2 ∷ 3 ∷ 2 ∷ 2 ∷ 0 ∷ 64 ∷ 3 ∷ 4 ∷ 2 ∷ 1 ∷ 65 ∷ 0 ∷ 2 ∷ 0 ∷ 65 ∷ 0 ∷ []

-- takes one prefix away
shortening : Words
shortening = 1 ∷ 9 ∷ 2 ∷ 3 ∷ 3 ∷ 2 ∷ 1 ∷ 64 ∷ 3 ∷ 64 ∷ 2 ∷ 1 ∷ 65 ∷ 1 ∷ []

table : List Case
table =
    -- M1: "a trial is due": only where a node of the target type comes up
    -- one number, one attempt, no match: done with the budget spent
    case 1 numbers to_forty_two (list (5 ∷ [])) (ended done 1 0 (list (5 ∷ [])))
    -- two numbers: the second attempt is due
    ∷ case 1 numbers to_forty_two (list (5 ∷ 6 ∷ [])) (ended (stopped 40) 1 0 (list (5 ∷ 6 ∷ [])))
    -- reach 1 ends at the match, with the budget spent
    ∷ case 1 numbers (1 ∷ 9 ∷ 2 ∷ 1 ∷ 1 ∷ 2 ∷ 200 ∷ 1 ∷ 2 ∷ 4200 ∷ []) two_and_five (ended done 1 1 (list (4200 ∷ 500 ∷ [])))
    -- no node of the target type: no attempt
    ∷ case 1 numbers (1 ∷ 9 ∷ 2 ∷ 2 ∷ 1 ∷ 2 ∷ 5 ∷ 1 ∷ 2 ∷ 6 ∷ []) (list []) (ended done 0 0 (list []))
    -- M2: opening a call comes before its first attempt
    -- the 33rd call with the budget spent: 41
    ∷ case 32 numbers (1 ∷ 8 ∷ 0 ∷ 1 ∷ 64 ∷ 0 ∷ 3 ∷ 66 ∷ 0 ∷ 1 ∷ 0 ∷ 0 ∷ 0 ∷ []) (list (5 ∷ [])) (ended (stopped 41) 32 0 (list (5 ∷ [])))
    -- a call whose first attempt is not paid: 40
    ∷ case 31 numbers (1 ∷ 8 ∷ 0 ∷ 1 ∷ 64 ∷ 0 ∷ 3 ∷ 66 ∷ 0 ∷ 1 ∷ 0 ∷ 0 ∷ 0 ∷ []) (list (5 ∷ [])) (ended (stopped 40) 31 0 (list (5 ∷ [])))
    -- a second call, opened, with the budget spent: 40
    ∷ case 1 numbers (2 ∷ 8 ∷ 0 ∷ 1 ∷ 64 ∷ 0 ∷ 4 ∷ 66 ∷ 0 ∷ 1 ∷ 0 ∷ 1 ∷ 1 ∷ 65 ∷ 0 ∷ 10 ∷ 0 ∷ 1 ∷ 0 ∷ 1 ∷ 64 ∷ 0 ∷ 1 ∷ 65 ∷ 1 ∷ []) two_and_five (ended (stopped 40) 1 0 two_and_five)
    -- M4: a searching part takes the first node that matches, and does not go back for another
    -- the first number is no 5.00
    ∷ case 9 numbers (1 ∷ 12 ∷ 0 ∷ 1 ∷ 64 ∷ 0 ∷ 2 ∷ 3 ∷ 2 ∷ 0 ∷ 1 ∷ 64 ∷ 2 ∷ 1 ∷ 1 ∷ 1 ∷ 2 ∷ 500 ∷ 2 ∷ 0 ∷ 0 ∷ 1 ∷ 1 ∷ []) two_and_five (ended done 1 0 two_and_five)
    -- .. and if it is
    ∷ case 9 numbers (1 ∷ 12 ∷ 0 ∷ 1 ∷ 64 ∷ 0 ∷ 2 ∷ 3 ∷ 2 ∷ 0 ∷ 1 ∷ 64 ∷ 2 ∷ 1 ∷ 1 ∷ 1 ∷ 2 ∷ 200 ∷ 2 ∷ 0 ∷ 0 ∷ 1 ∷ 1 ∷ []) two_and_five (ended done 1 1 (list []))
    -- M5: a searching part tries the root first, and a failed node's bindings go
    -- the last number: variable 1 is the one of the node that matched
    ∷ case 9 numbers (1 ∷ 12 ∷ 0 ∷ 1 ∷ 64 ∷ 0 ∷ 1 ∷ 3 ∷ 1 ∷ 0 ∷ 3 ∷ 1 ∷ 0 ∷ 64 ∷ 2 ∷ 1 ∷ 1 ∷ 4 ∷ 0 ∷ 0 ∷ 1 ∷ 0 ∷ 65 ∷ 1 ∷ 1 ∷ 1 ∷ []) two_and_five (ended done 1 1 (list (500 ∷ [])))
    -- the root itself
    ∷ case 9 numbers (1 ∷ 12 ∷ 0 ∷ 1 ∷ 64 ∷ 0 ∷ 1 ∷ 3 ∷ 0 ∷ 0 ∷ 4 ∷ 0 ∷ 0 ∷ 1 ∷ 0 ∷ 64 ∷ 2 ∷ 64 ∷ 1 ∷ 2 ∷ 0 ∷ 0 ∷ 65 ∷ 2 ∷ []) two_and_five (ended done 1 1 (list (500 ∷ [])))
    -- no node matches: no match
    ∷ case 9 numbers (1 ∷ 12 ∷ 0 ∷ 1 ∷ 64 ∷ 0 ∷ 1 ∷ 3 ∷ 2 ∷ 0 ∷ 1 ∷ 2 ∷ 1 ∷ 2 ∷ 0 ∷ 0 ∷ 1 ∷ 1 ∷ []) two_and_five (ended done 1 0 two_and_five)
    -- M6: a condition's applications up to the first success, with bit 4 too
    -- the first succeeds
    ∷ case 9 numbers (3 ∷ 12 ∷ 0 ∷ 1 ∷ 64 ∷ 0 ∷ 1 ∷ 8 ∷ 4 ∷ 66 ∷ 0 ∷ 2 ∷ 0 ∷ 1 ∷ 0 ∷ 1 ∷ 0 ∷ 2 ∷ 0 ∷ 0 ∷ 1 ∷ 1 ∷ 0 ∷ 0 ∷ 1 ∷ 64 ∷ 0 ∷ 0 ∷ 0 ∷ 2 ∷ 0 ∷ 0 ∷ 1 ∷ 1 ∷ []) two_and_five (ended done 2 1 (list []))
    -- the second does
    ∷ case 9 numbers (3 ∷ 12 ∷ 0 ∷ 1 ∷ 64 ∷ 0 ∷ 1 ∷ 8 ∷ 4 ∷ 66 ∷ 0 ∷ 2 ∷ 0 ∷ 2 ∷ 0 ∷ 1 ∷ 0 ∷ 2 ∷ 0 ∷ 0 ∷ 1 ∷ 1 ∷ 0 ∷ 0 ∷ 1 ∷ 64 ∷ 0 ∷ 0 ∷ 0 ∷ 2 ∷ 0 ∷ 0 ∷ 1 ∷ 1 ∷ []) two_and_five (ended done 3 1 (list []))
    -- neither does
    ∷ case 9 numbers (3 ∷ 12 ∷ 0 ∷ 1 ∷ 64 ∷ 0 ∷ 1 ∷ 8 ∷ 4 ∷ 66 ∷ 0 ∷ 2 ∷ 0 ∷ 2 ∷ 0 ∷ 2 ∷ 0 ∷ 2 ∷ 0 ∷ 0 ∷ 1 ∷ 1 ∷ 0 ∷ 0 ∷ 1 ∷ 64 ∷ 0 ∷ 0 ∷ 0 ∷ 2 ∷ 0 ∷ 0 ∷ 1 ∷ 1 ∷ []) two_and_five (ended done 3 0 two_and_five)
    -- bit 4: the first succeeds
    ∷ case 9 numbers (3 ∷ 12 ∷ 0 ∷ 1 ∷ 64 ∷ 0 ∷ 1 ∷ 24 ∷ 4 ∷ 66 ∷ 0 ∷ 2 ∷ 0 ∷ 1 ∷ 0 ∷ 1 ∷ 0 ∷ 2 ∷ 0 ∷ 0 ∷ 1 ∷ 1 ∷ 0 ∷ 0 ∷ 1 ∷ 64 ∷ 0 ∷ 0 ∷ 0 ∷ 2 ∷ 0 ∷ 0 ∷ 1 ∷ 1 ∷ []) two_and_five (ended done 2 0 two_and_five)
    -- bit 4: the second does
    ∷ case 9 numbers (3 ∷ 12 ∷ 0 ∷ 1 ∷ 64 ∷ 0 ∷ 1 ∷ 24 ∷ 4 ∷ 66 ∷ 0 ∷ 2 ∷ 0 ∷ 2 ∷ 0 ∷ 1 ∷ 0 ∷ 2 ∷ 0 ∷ 0 ∷ 1 ∷ 1 ∷ 0 ∷ 0 ∷ 1 ∷ 64 ∷ 0 ∷ 0 ∷ 0 ∷ 2 ∷ 0 ∷ 0 ∷ 1 ∷ 1 ∷ []) two_and_five (ended done 3 0 two_and_five)
    -- bit 4: neither does
    ∷ case 9 numbers (3 ∷ 12 ∷ 0 ∷ 1 ∷ 64 ∷ 0 ∷ 1 ∷ 24 ∷ 4 ∷ 66 ∷ 0 ∷ 2 ∷ 0 ∷ 2 ∷ 0 ∷ 2 ∷ 0 ∷ 2 ∷ 0 ∷ 0 ∷ 1 ∷ 1 ∷ 0 ∷ 0 ∷ 1 ∷ 64 ∷ 0 ∷ 0 ∷ 0 ∷ 2 ∷ 0 ∷ 0 ∷ 1 ∷ 1 ∷ []) two_and_five (ended done 3 1 (list []))
    -- M7: in a condition a rule's replacement is not worked, its parts are
    -- a replacement that would stop by 45
    ∷ case 9 numbers (2 ∷ 13 ∷ 2 ∷ 1 ∷ 1 ∷ 64 ∷ 2 ∷ 1 ∷ 8 ∷ 3 ∷ 66 ∷ 0 ∷ 1 ∷ 0 ∷ 1 ∷ 0 ∷ 1 ∷ 2 ∷ 9 ∷ 8 ∷ 2 ∷ 1 ∷ 64 ∷ 2 ∷ 4 ∷ 66 ∷ 0 ∷ 1 ∷ 0 ∷ 1002 ∷ 1 ∷ 65 ∷ 0 ∷ []) (list (0 ∷ [])) (ended done 2 1 (list (9 ∷ [])))
    -- a part that does
    ∷ case 9 numbers (2 ∷ 13 ∷ 2 ∷ 1 ∷ 1 ∷ 64 ∷ 2 ∷ 1 ∷ 8 ∷ 3 ∷ 66 ∷ 0 ∷ 1 ∷ 0 ∷ 1 ∷ 0 ∷ 1 ∷ 2 ∷ 9 ∷ 12 ∷ 2 ∷ 1 ∷ 64 ∷ 2 ∷ 1 ∷ 4 ∷ 2 ∷ 4 ∷ 66 ∷ 0 ∷ 1 ∷ 0 ∷ 1002 ∷ 1 ∷ 65 ∷ 0 ∷ 1 ∷ 65 ∷ 1 ∷ []) (list (0 ∷ [])) (ended (stopped 45) 2 0 (list (0 ∷ [])))
    -- M8: only the first call's replacements are counted and kept, also where rule 0 is called again
    -- rule 0 calls itself on the rest
    ∷ case 9 numbers (1 ∷ 9 ∷ 1 ∷ 1 ∷ 3 ∷ 1 ∷ 0 ∷ 64 ∷ 2 ∷ 64 ∷ 1 ∷ 5 ∷ 1 ∷ 0 ∷ 2 ∷ 7 ∷ 66 ∷ 1 ∷ 1 ∷ 0 ∷ 0 ∷ 0 ∷ []) two_and_five (ended done 3 1 (list (7 ∷ 7 ∷ [])))
    -- a stop inside the inner call: nothing of it is kept
    ∷ case 2 numbers (1 ∷ 9 ∷ 1 ∷ 1 ∷ 3 ∷ 1 ∷ 0 ∷ 64 ∷ 2 ∷ 64 ∷ 1 ∷ 5 ∷ 1 ∷ 0 ∷ 2 ∷ 7 ∷ 66 ∷ 1 ∷ 1 ∷ 0 ∷ 0 ∷ 0 ∷ []) (list (1 ∷ 2 ∷ 3 ∷ [])) (ended (stopped 40) 2 0 (list (1 ∷ 2 ∷ 3 ∷ [])))
    -- a stop inside a call in a second round: the first replacement stays
    ∷ case 9 numbers (3 ∷ 13 ∷ 2 ∷ 2 ∷ 1 ∷ 64 ∷ 2 ∷ 1 ∷ 24 ∷ 3 ∷ 66 ∷ 0 ∷ 1 ∷ 0 ∷ 2 ∷ 0 ∷ 3 ∷ 66 ∷ 0 ∷ 1 ∷ 0 ∷ 1 ∷ 0 ∷ 12 ∷ 2 ∷ 1 ∷ 64 ∷ 2 ∷ 1 ∷ 4 ∷ 2 ∷ 1 ∷ 2 ∷ 100 ∷ 4 ∷ 66 ∷ 0 ∷ 1 ∷ 0 ∷ 1001 ∷ 1 ∷ 65 ∷ 1 ∷ 0 ∷ 2 ∷ 1 ∷ 2 ∷ 0 ∷ []) (list (100 ∷ 50 ∷ [])) (ended (stopped 45) 8 1 (list (0 ∷ 50 ∷ [])))
    -- M9: the search begins again at the scope's root
    -- three searches over three numbers
    ∷ case 99 numbers (1 ∷ 13 ∷ 2 ∷ 2 ∷ 1 ∷ 64 ∷ 2 ∷ 4 ∷ 4 ∷ 2 ∷ 1 ∷ 2 ∷ 4 ∷ 8 ∷ 4 ∷ 66 ∷ 1 ∷ 1 ∷ 0 ∷ 1009 ∷ 1 ∷ 65 ∷ 0 ∷ 4 ∷ 2 ∷ 1 ∷ 2 ∷ 1 ∷ 24 ∷ 4 ∷ 66 ∷ 0 ∷ 1 ∷ 0 ∷ 1008 ∷ 1 ∷ 65 ∷ 2 ∷ 4 ∷ 66 ∷ 0 ∷ 1 ∷ 0 ∷ 1001 ∷ 1 ∷ 65 ∷ 2 ∷ []) (list (5 ∷ 5 ∷ 3 ∷ [])) (ended done 9 2 (list (5 ∷ 5 ∷ 1 ∷ [])))
    -- the replaced node is tried again
    ∷ case 9 numbers (1 ∷ 9 ∷ 2 ∷ 2 ∷ 1 ∷ 2 ∷ 3 ∷ 1 ∷ 2 ∷ 2 ∷ []) (list (3 ∷ 3 ∷ [])) (ended done 5 2 (list (2 ∷ 2 ∷ [])))
    -- M10: the same tree is one of the same types and values
    -- two neighbours alike
    ∷ case 9 numbers (1 ∷ 9 ∷ 1 ∷ 1 ∷ 5 ∷ 1 ∷ 0 ∷ 64 ∷ 2 ∷ 1 ∷ 0 ∷ 65 ∷ 0 ∷ 64 ∷ 1 ∷ 1 ∷ 65 ∷ 1 ∷ []) (list (4 ∷ 5 ∷ 5 ∷ 6 ∷ [])) (ended done 2 1 (list (4 ∷ 6 ∷ [])))
    -- none alike
    ∷ case 9 numbers (1 ∷ 9 ∷ 1 ∷ 1 ∷ 5 ∷ 1 ∷ 0 ∷ 64 ∷ 2 ∷ 1 ∷ 0 ∷ 65 ∷ 0 ∷ 64 ∷ 1 ∷ 1 ∷ 65 ∷ 1 ∷ []) (list (4 ∷ 5 ∷ 6 ∷ 5 ∷ [])) (ended done 5 0 (list (4 ∷ 5 ∷ 6 ∷ 5 ∷ [])))
    -- a tree of several nodes
    ∷ case 9 (2 ∷ 8 ∷ 2 ∷ 2 ∷ 0 ∷ 0 ∷ 1 ∷ 1 ∷ 1 ∷ 2 ∷ []) (1 ∷ 8 ∷ 0 ∷ 3 ∷ 0 ∷ 0 ∷ 64 ∷ 0 ∷ 65 ∷ 0 ∷ 1 ∷ 65 ∷ 0 ∷ []) (0 ∷ 0 ∷ 0 ∷ 0 ∷ 0 ∷ 1 ∷ 1 ∷ 3 ∷ 0 ∷ 1 ∷ 1 ∷ 4 ∷ 0 ∷ 0 ∷ 0 ∷ 1 ∷ 1 ∷ 3 ∷ 0 ∷ 1 ∷ 1 ∷ 4 ∷ []) (ended done 1 1 (0 ∷ 0 ∷ 0 ∷ 1 ∷ 1 ∷ 3 ∷ 0 ∷ 1 ∷ 1 ∷ 4 ∷ []))
    -- .. and one that differs in its last word
    ∷ case 9 (2 ∷ 8 ∷ 2 ∷ 2 ∷ 0 ∷ 0 ∷ 1 ∷ 1 ∷ 1 ∷ 2 ∷ []) (1 ∷ 8 ∷ 0 ∷ 3 ∷ 0 ∷ 0 ∷ 64 ∷ 0 ∷ 65 ∷ 0 ∷ 1 ∷ 65 ∷ 0 ∷ []) (0 ∷ 0 ∷ 0 ∷ 0 ∷ 0 ∷ 1 ∷ 1 ∷ 3 ∷ 0 ∷ 1 ∷ 1 ∷ 4 ∷ 0 ∷ 0 ∷ 0 ∷ 1 ∷ 1 ∷ 3 ∷ 0 ∷ 1 ∷ 1 ∷ 5 ∷ []) (ended done 1 0 (0 ∷ 0 ∷ 0 ∷ 0 ∷ 0 ∷ 1 ∷ 1 ∷ 3 ∷ 0 ∷ 1 ∷ 1 ∷ 4 ∷ 0 ∷ 0 ∷ 0 ∷ 1 ∷ 1 ∷ 3 ∷ 0 ∷ 1 ∷ 1 ∷ 5 ∷ []))
    -- M11: an application without a match leaves the copy, and the next is applied
    ∷ case 9 numbers (3 ∷ 9 ∷ 2 ∷ 1 ∷ 1 ∷ 64 ∷ 2 ∷ 4 ∷ 66 ∷ 0 ∷ 2 ∷ 0 ∷ 1 ∷ 0 ∷ 2 ∷ 0 ∷ 8 ∷ 2 ∷ 1 ∷ 2 ∷ 1 ∷ 1 ∷ 2 ∷ 2 ∷ 8 ∷ 2 ∷ 1 ∷ 2 ∷ 5 ∷ 1 ∷ 2 ∷ 6 ∷ []) (list (5 ∷ [])) (ended done 3 1 (list (6 ∷ [])))
    -- both match, one after the other
    ∷ case 9 numbers (3 ∷ 9 ∷ 2 ∷ 1 ∷ 1 ∷ 64 ∷ 2 ∷ 4 ∷ 66 ∷ 0 ∷ 2 ∷ 0 ∷ 1 ∷ 0 ∷ 2 ∷ 0 ∷ 8 ∷ 2 ∷ 1 ∷ 2 ∷ 5 ∷ 1 ∷ 2 ∷ 6 ∷ 8 ∷ 2 ∷ 1 ∷ 2 ∷ 6 ∷ 1 ∷ 2 ∷ 7 ∷ []) (list (5 ∷ [])) (ended done 3 1 (list (7 ∷ [])))
    -- M12: the first match ends the search of a condition, whatever its reach
    -- a condition
    ∷ case 9 numbers (2 ∷ 12 ∷ 0 ∷ 1 ∷ 64 ∷ 0 ∷ 1 ∷ 8 ∷ 3 ∷ 66 ∷ 0 ∷ 1 ∷ 0 ∷ 1 ∷ 0 ∷ 2 ∷ 0 ∷ 0 ∷ 1 ∷ 1 ∷ 1 ∷ 2 ∷ 2 ∷ 1 ∷ 2 ∷ 5 ∷ []) (list (4 ∷ 5 ∷ 5 ∷ [])) (ended done 3 1 (list []))
    -- a rule with a replacement acts as one
    ∷ case 9 numbers (2 ∷ 12 ∷ 0 ∷ 1 ∷ 64 ∷ 0 ∷ 1 ∷ 8 ∷ 3 ∷ 66 ∷ 0 ∷ 1 ∷ 0 ∷ 1 ∷ 0 ∷ 2 ∷ 0 ∷ 0 ∷ 1 ∷ 1 ∷ 9 ∷ 2 ∷ 2 ∷ 1 ∷ 2 ∷ 5 ∷ 1 ∷ 2 ∷ 5 ∷ []) (list (4 ∷ 5 ∷ 5 ∷ [])) (ended done 3 1 (list []))
    -- a root-only rule tries the root only
    ∷ case 9 numbers (2 ∷ 12 ∷ 0 ∷ 1 ∷ 64 ∷ 0 ∷ 1 ∷ 8 ∷ 3 ∷ 66 ∷ 0 ∷ 1 ∷ 0 ∷ 1 ∷ 0 ∷ 2 ∷ 0 ∷ 0 ∷ 1 ∷ 1 ∷ 0 ∷ 0 ∷ 2 ∷ 0 ∷ 0 ∷ 1 ∷ 1 ∷ []) (list (4 ∷ [])) (ended done 2 0 (list (4 ∷ [])))
    -- M13: operations and searches in parts are no attempts
    ∷ case 1 numbers (1 ∷ 12 ∷ 0 ∷ 1 ∷ 64 ∷ 0 ∷ 3 ∷ 3 ∷ 2 ∷ 0 ∷ 1 ∷ 2 ∷ 500 ∷ 4 ∷ 2 ∷ 1 ∷ 2 ∷ 3 ∷ 8 ∷ 4 ∷ 66 ∷ 1 ∷ 1 ∷ 0 ∷ 1008 ∷ 1 ∷ 65 ∷ 1 ∷ 6 ∷ 0 ∷ 0 ∷ 1 ∷ 0 ∷ 66 ∷ 1 ∷ 1 ∷ 0 ∷ 1004 ∷ 0 ∷ 1 ∷ 1 ∷ []) two_and_five (ended done 1 1 (list (0 ∷ [])))
    -- the rest of a sequence is a node
    -- the target is the rest
    ∷ case 9 numbers (1 ∷ 9 ∷ 1 ∷ 1 ∷ 3 ∷ 1 ∷ 0 ∷ 2 ∷ 500 ∷ 64 ∷ 1 ∷ 1 ∷ 65 ∷ 0 ∷ []) two_and_five (ended done 2 1 (list (200 ∷ [])))
    -- also the empty one
    ∷ case 9 numbers (1 ∷ 9 ∷ 1 ∷ 1 ∷ 1 ∷ 1 ∷ 1 ∷ 3 ∷ 1 ∷ 0 ∷ 2 ∷ 7 ∷ 1 ∷ 1 ∷ []) (list (5 ∷ [])) (ended done 2 1 (list (5 ∷ 7 ∷ [])))
    -- a list is "a repeat in all but its bit": the paper's example; its rest, and the empty one, are nodes
    ∷ case 3 lists to_forty_two two_and_five (ended done 3 1 (list (4200 ∷ 500 ∷ [])))
    ∷ case 9 lists (1 ∷ 9 ∷ 1 ∷ 1 ∷ 3 ∷ 1 ∷ 0 ∷ 2 ∷ 500 ∷ 64 ∷ 1 ∷ 1 ∷ 65 ∷ 0 ∷ []) two_and_five (ended done 2 1 (list (200 ∷ [])))
    ∷ case 9 lists (1 ∷ 9 ∷ 1 ∷ 1 ∷ 1 ∷ 1 ∷ 1 ∷ 3 ∷ 1 ∷ 0 ∷ 2 ∷ 7 ∷ 1 ∷ 1 ∷ []) (list (5 ∷ [])) (ended done 2 1 (list (5 ∷ 7 ∷ [])))
    -- "Bindings go when a trial ends": a failed attempt's are not there for the next
    -- variable 0 is the second attempt's
    ∷ case 9 numbers (1 ∷ 9 ∷ 1 ∷ 1 ∷ 3 ∷ 1 ∷ 0 ∷ 64 ∷ 2 ∷ 1 ∷ 1 ∷ 5 ∷ 1 ∷ 0 ∷ 65 ∷ 0 ∷ 1 ∷ 0 ∷ 65 ∷ 0 ∷ 1 ∷ 1 ∷ []) two_and_five (ended done 2 1 (list (200 ∷ 500 ∷ 500 ∷ [])))
    -- a failed part's too
    ∷ case 9 numbers (1 ∷ 13 ∷ 1 ∷ 1 ∷ 3 ∷ 1 ∷ 0 ∷ 64 ∷ 2 ∷ 64 ∷ 1 ∷ 2 ∷ 4 ∷ 2 ∷ 1 ∷ 65 ∷ 0 ∷ 1 ∷ 0 ∷ 1 ∷ 2 ∷ 500 ∷ 3 ∷ 1 ∷ 0 ∷ 65 ∷ 2 ∷ 1 ∷ 1 ∷ []) two_and_five (ended done 2 1 two_and_five)
    -- H1, H2, H12, H17: 42, on a sequence of itself; all its trees have odd counts
    -- a tree of 2,047 nodes is built; the last part fails
    ∷ case 9 sequences (1 ∷ 12 ∷ 0 ∷ 1 ∷ 64 ∷ 0 ∷ 3 ∷ 4 ∷ 0 ∷ 127 ∷ (times 63 (0 ∷ 0 ∷ 65 ∷ 0 ∷ []) ++ (0 ∷ 1 ∷ 4 ∷ 0 ∷ 31 ∷ (times 15 (0 ∷ 0 ∷ 65 ∷ 1 ∷ []) ++ (65 ∷ 1 ∷ 1 ∷ 0 ∷ 3 ∷ 0 ∷ 0 ∷ 64 ∷ 0 ∷ 64 ∷ 0 ∷ 1 ∷ 65 ∷ 0 ∷ []))))) (0 ∷ 1 ∷ []) (ended done 1 0 (0 ∷ 1 ∷ []))
    -- one of 2,049 is not
    ∷ case 9 sequences (1 ∷ 12 ∷ 0 ∷ 1 ∷ 64 ∷ 0 ∷ 3 ∷ 4 ∷ 0 ∷ 127 ∷ (times 63 (0 ∷ 0 ∷ 65 ∷ 0 ∷ []) ++ (0 ∷ 1 ∷ 4 ∷ 0 ∷ 33 ∷ (times 15 (0 ∷ 0 ∷ 65 ∷ 1 ∷ []) ++ (0 ∷ 0 ∷ 65 ∷ 0 ∷ 65 ∷ 1 ∷ 1 ∷ 0 ∷ 3 ∷ 0 ∷ 0 ∷ 64 ∷ 0 ∷ 64 ∷ 0 ∷ 1 ∷ 65 ∷ 0 ∷ []))))) (0 ∷ 1 ∷ []) (ended (stopped 42) 1 0 (0 ∷ 1 ∷ []))
    -- H2, H15, H16: 44: scope, pattern's and built variables
    -- 1 + 1 + 127 + 2,047 + 2,047 + 1,921 are 6,144
    ∷ case 9 sequences (1 ∷ 12 ∷ 0 ∷ 1 ∷ 64 ∷ 0 ∷ 5 ∷ 4 ∷ 0 ∷ 127 ∷ (times 63 (0 ∷ 0 ∷ 65 ∷ 0 ∷ []) ++ (0 ∷ 1 ∷ 4 ∷ 0 ∷ 31 ∷ (times 15 (0 ∷ 0 ∷ 65 ∷ 1 ∷ []) ++ (65 ∷ 1 ∷ 4 ∷ 0 ∷ 1 ∷ 65 ∷ 2 ∷ 4 ∷ 0 ∷ 31 ∷ (times 15 (0 ∷ 0 ∷ 65 ∷ 1 ∷ []) ++ (0 ∷ 1 ∷ 1 ∷ 0 ∷ 3 ∷ 0 ∷ 0 ∷ 64 ∷ 0 ∷ 64 ∷ 0 ∷ 1 ∷ 65 ∷ 0 ∷ []))))))) (0 ∷ 1 ∷ []) (ended done 1 0 (0 ∷ 1 ∷ []))
    -- two more are too many
    ∷ case 9 sequences (1 ∷ 12 ∷ 0 ∷ 1 ∷ 64 ∷ 0 ∷ 5 ∷ 4 ∷ 0 ∷ 127 ∷ (times 63 (0 ∷ 0 ∷ 65 ∷ 0 ∷ []) ++ (0 ∷ 1 ∷ 4 ∷ 0 ∷ 31 ∷ (times 15 (0 ∷ 0 ∷ 65 ∷ 1 ∷ []) ++ (65 ∷ 1 ∷ 4 ∷ 0 ∷ 1 ∷ 65 ∷ 2 ∷ 4 ∷ 0 ∷ 33 ∷ (times 15 (0 ∷ 0 ∷ 65 ∷ 1 ∷ []) ++ (0 ∷ 0 ∷ 65 ∷ 0 ∷ 0 ∷ 1 ∷ 1 ∷ 0 ∷ 3 ∷ 0 ∷ 0 ∷ 64 ∷ 0 ∷ 64 ∷ 0 ∷ 1 ∷ 65 ∷ 0 ∷ []))))))) (0 ∷ 1 ∷ []) (ended (stopped 44) 1 0 (0 ∷ 1 ∷ []))
    -- M3: one node bound more is too many, at its pair: that the pattern then fails comes later
    ∷ case 9 sequences (1 ∷ 12 ∷ 0 ∷ 1 ∷ 64 ∷ 0 ∷ 6 ∷ 4 ∷ 0 ∷ 127 ∷ (times 63 (0 ∷ 0 ∷ 65 ∷ 0 ∷ []) ++ (0 ∷ 1 ∷ 4 ∷ 0 ∷ 31 ∷ (times 15 (0 ∷ 0 ∷ 65 ∷ 1 ∷ []) ++ (65 ∷ 1 ∷ 4 ∷ 0 ∷ 1 ∷ 65 ∷ 2 ∷ 4 ∷ 0 ∷ 31 ∷ (times 15 (0 ∷ 0 ∷ 65 ∷ 1 ∷ []) ++ (0 ∷ 1 ∷ 1 ∷ 1 ∷ 3 ∷ 0 ∷ 0 ∷ 64 ∷ 0 ∷ 0 ∷ 1 ∷ 1 ∷ 0 ∷ 3 ∷ 0 ∷ 0 ∷ 64 ∷ 0 ∷ 64 ∷ 0 ∷ 1 ∷ 65 ∷ 0 ∷ []))))))) (0 ∷ 1 ∷ []) (ended (stopped 44) 1 0 (0 ∷ 1 ∷ []))
    -- one step that passes 42 and 44 gives 42
    ∷ case 9 sequences (1 ∷ 12 ∷ 0 ∷ 1 ∷ 64 ∷ 0 ∷ 5 ∷ 4 ∷ 0 ∷ 127 ∷ (times 63 (0 ∷ 0 ∷ 65 ∷ 0 ∷ []) ++ (0 ∷ 1 ∷ 4 ∷ 0 ∷ 31 ∷ (times 15 (0 ∷ 0 ∷ 65 ∷ 1 ∷ []) ++ (65 ∷ 1 ∷ 4 ∷ 0 ∷ 1 ∷ 65 ∷ 2 ∷ 4 ∷ 0 ∷ 31 ∷ (times 15 (0 ∷ 0 ∷ 65 ∷ 1 ∷ []) ++ (65 ∷ 2 ∷ 1 ∷ 0 ∷ 3 ∷ 0 ∷ 0 ∷ 64 ∷ 0 ∷ 64 ∷ 0 ∷ 1 ∷ 65 ∷ 0 ∷ []))))))) (0 ∷ 1 ∷ []) (ended (stopped 42) 1 0 (0 ∷ 1 ∷ []))
    -- one node bound more by a pattern that matches
    ∷ case 9 sequences (1 ∷ 12 ∷ 0 ∷ 1 ∷ 64 ∷ 0 ∷ 5 ∷ 4 ∷ 0 ∷ 127 ∷ (times 63 (0 ∷ 0 ∷ 65 ∷ 0 ∷ []) ++ (0 ∷ 1 ∷ 4 ∷ 0 ∷ 31 ∷ (times 15 (0 ∷ 0 ∷ 65 ∷ 1 ∷ []) ++ (65 ∷ 1 ∷ 4 ∷ 0 ∷ 1 ∷ 65 ∷ 2 ∷ 4 ∷ 0 ∷ 31 ∷ (times 15 (0 ∷ 0 ∷ 65 ∷ 1 ∷ []) ++ (0 ∷ 1 ∷ 1 ∷ 0 ∷ 1 ∷ 64 ∷ 0 ∷ 1 ∷ 65 ∷ 0 ∷ []))))))) (0 ∷ 1 ∷ []) (ended (stopped 44) 1 0 (0 ∷ 1 ∷ []))
    -- one written where 6,144 are live
    ∷ case 9 sequences (1 ∷ 12 ∷ 0 ∷ 1 ∷ 64 ∷ 0 ∷ 4 ∷ 4 ∷ 0 ∷ 127 ∷ (times 63 (0 ∷ 0 ∷ 65 ∷ 0 ∷ []) ++ (0 ∷ 1 ∷ 4 ∷ 0 ∷ 31 ∷ (times 15 (0 ∷ 0 ∷ 65 ∷ 1 ∷ []) ++ (65 ∷ 1 ∷ 4 ∷ 0 ∷ 1 ∷ 65 ∷ 2 ∷ 4 ∷ 0 ∷ 31 ∷ (times 15 (0 ∷ 0 ∷ 65 ∷ 1 ∷ []) ++ (0 ∷ 1 ∷ 1 ∷ 0 ∷ 1 ∷ []))))))) (0 ∷ 1 ∷ []) (ended (stopped 44) 1 0 (0 ∷ 1 ∷ []))
    -- a condition's copy where 6,144 are live
    ∷ case 9 sequences (1 ∷ 12 ∷ 0 ∷ 1 ∷ 64 ∷ 0 ∷ 5 ∷ 4 ∷ 0 ∷ 127 ∷ (times 63 (0 ∷ 0 ∷ 65 ∷ 0 ∷ []) ++ (0 ∷ 1 ∷ 4 ∷ 0 ∷ 31 ∷ (times 15 (0 ∷ 0 ∷ 65 ∷ 1 ∷ []) ++ (65 ∷ 1 ∷ 4 ∷ 0 ∷ 1 ∷ 65 ∷ 2 ∷ 4 ∷ 0 ∷ 31 ∷ (times 15 (0 ∷ 0 ∷ 65 ∷ 1 ∷ []) ++ (0 ∷ 1 ∷ 8 ∷ 3 ∷ 66 ∷ 0 ∷ 1 ∷ 0 ∷ 0 ∷ 0 ∷ 1 ∷ 0 ∷ 1 ∷ []))))))) (0 ∷ 1 ∷ []) (ended (stopped 44) 1 0 (0 ∷ 1 ∷ []))
    -- H2, H6: parameters are live, and 44 at a copy comes before 41 (H3)
    -- 32 calls, each with a parameter, on trees of 64 nodes: 41
    ∷ case 99 numbers (2 ∷ 8 ∷ 0 ∷ 1 ∷ 64 ∷ 0 ∷ 4 ∷ 66 ∷ 0 ∷ 1 ∷ 0 ∷ 1 ∷ 1 ∷ 65 ∷ 0 ∷ 10 ∷ 0 ∷ 1 ∷ 0 ∷ 1 ∷ 64 ∷ 0 ∷ 4 ∷ 66 ∷ 1 ∷ 1 ∷ 0 ∷ 1 ∷ 1 ∷ 65 ∷ 0 ∷ []) (list (replicate 31 5)) (ended (stopped 41) 32 0 (list (replicate 31 5)))
    -- on trees of 66: 44 as the 32nd call takes its argument
    ∷ case 99 numbers (2 ∷ 8 ∷ 0 ∷ 1 ∷ 64 ∷ 0 ∷ 4 ∷ 66 ∷ 0 ∷ 1 ∷ 0 ∷ 1 ∷ 1 ∷ 65 ∷ 0 ∷ 10 ∷ 0 ∷ 1 ∷ 0 ∷ 1 ∷ 64 ∷ 0 ∷ 4 ∷ 66 ∷ 1 ∷ 1 ∷ 0 ∷ 1 ∷ 1 ∷ 65 ∷ 0 ∷ []) (list (replicate 32 5)) (ended (stopped 44) 31 0 (list (replicate 32 5)))
    -- .. also with the budget spent (M2)
    ∷ case 31 numbers (2 ∷ 8 ∷ 0 ∷ 1 ∷ 64 ∷ 0 ∷ 4 ∷ 66 ∷ 0 ∷ 1 ∷ 0 ∷ 1 ∷ 1 ∷ 65 ∷ 0 ∷ 10 ∷ 0 ∷ 1 ∷ 0 ∷ 1 ∷ 64 ∷ 0 ∷ 4 ∷ 66 ∷ 1 ∷ 1 ∷ 0 ∷ 1 ∷ 1 ∷ 65 ∷ 0 ∷ []) (list (replicate 32 5)) (ended (stopped 44) 31 0 (list (replicate 32 5)))
    -- one variable given twice counts twice
    ∷ case 99 numbers (2 ∷ 8 ∷ 0 ∷ 1 ∷ 64 ∷ 0 ∷ 5 ∷ 66 ∷ 0 ∷ 1 ∷ 0 ∷ 1 ∷ 2 ∷ 65 ∷ 0 ∷ 65 ∷ 0 ∷ 10 ∷ 0 ∷ 2 ∷ 0 ∷ 0 ∷ 1 ∷ 64 ∷ 0 ∷ 5 ∷ 66 ∷ 2 ∷ 1 ∷ 0 ∷ 1 ∷ 2 ∷ 65 ∷ 0 ∷ 65 ∷ 1 ∷ []) (list (replicate 25 5)) (ended (stopped 44) 30 0 (list (replicate 25 5)))
    -- without parameters, of 94 nodes: 41
    ∷ case 99 numbers (1 ∷ 8 ∷ 0 ∷ 1 ∷ 64 ∷ 0 ∷ 3 ∷ 66 ∷ 0 ∷ 1 ∷ 0 ∷ 0 ∷ 0 ∷ []) (list (replicate 46 5)) (ended (stopped 41) 32 0 (list (replicate 46 5)))
    -- of 96: 44 at the copy
    ∷ case 99 numbers (1 ∷ 8 ∷ 0 ∷ 1 ∷ 64 ∷ 0 ∷ 3 ∷ 66 ∷ 0 ∷ 1 ∷ 0 ∷ 0 ∷ 0 ∷ []) (list (replicate 47 5)) (ended (stopped 44) 32 0 (list (replicate 47 5)))
    -- H4: 42 of a chain's result is judged where it is moved
    -- the copy is shrunk before the move
    ∷ case 9 sequences (2 ∷ 12 ∷ 0 ∷ 1 ∷ 64 ∷ 0 ∷ 4 ∷ 4 ∷ 0 ∷ 127 ∷ (times 63 (0 ∷ 0 ∷ 65 ∷ 0 ∷ []) ++ (0 ∷ 1 ∷ 4 ∷ 0 ∷ 29 ∷ (times 14 (0 ∷ 0 ∷ 65 ∷ 1 ∷ []) ++ (0 ∷ 1 ∷ 4 ∷ 0 ∷ 5 ∷ 0 ∷ 0 ∷ 66 ∷ 2 ∷ 1 ∷ 0 ∷ 1 ∷ 0 ∷ 65 ∷ 2 ∷ 1 ∷ 0 ∷ 3 ∷ 0 ∷ 0 ∷ 64 ∷ 0 ∷ 64 ∷ 0 ∷ 1 ∷ 65 ∷ 0 ∷ 8 ∷ 0 ∷ 1 ∷ 64 ∷ 0 ∷ 1 ∷ 0 ∷ 1 ∷ []))))) (0 ∷ 1 ∷ []) (ended done 2 0 (0 ∷ 1 ∷ []))
    -- it is not
    ∷ case 9 sequences (2 ∷ 12 ∷ 0 ∷ 1 ∷ 64 ∷ 0 ∷ 4 ∷ 4 ∷ 0 ∷ 127 ∷ (times 63 (0 ∷ 0 ∷ 65 ∷ 0 ∷ []) ++ (0 ∷ 1 ∷ 4 ∷ 0 ∷ 29 ∷ (times 14 (0 ∷ 0 ∷ 65 ∷ 1 ∷ []) ++ (0 ∷ 1 ∷ 4 ∷ 0 ∷ 5 ∷ 0 ∷ 0 ∷ 66 ∷ 2 ∷ 1 ∷ 0 ∷ 1 ∷ 0 ∷ 65 ∷ 2 ∷ 1 ∷ 0 ∷ 3 ∷ 0 ∷ 0 ∷ 64 ∷ 0 ∷ 64 ∷ 0 ∷ 1 ∷ 65 ∷ 0 ∷ 8 ∷ 0 ∷ 1 ∷ 0 ∷ 1 ∷ 1 ∷ 0 ∷ 1 ∷ []))))) (0 ∷ 1 ∷ []) (ended (stopped 42) 2 0 (0 ∷ 1 ∷ []))
    -- H5: a condition's copy is live till the condition ends
    -- two conditions one after the other, the copies of one at a time
    ∷ case 9 sequences (2 ∷ 12 ∷ 0 ∷ 1 ∷ 64 ∷ 0 ∷ 5 ∷ 4 ∷ 0 ∷ 127 ∷ (times 63 (0 ∷ 0 ∷ 65 ∷ 0 ∷ []) ++ (0 ∷ 1 ∷ 4 ∷ 0 ∷ 31 ∷ (times 15 (0 ∷ 0 ∷ 65 ∷ 1 ∷ []) ++ (65 ∷ 1 ∷ 24 ∷ 3 ∷ 66 ∷ 2 ∷ 1 ∷ 0 ∷ 1 ∷ 0 ∷ 24 ∷ 3 ∷ 66 ∷ 2 ∷ 1 ∷ 0 ∷ 1 ∷ 0 ∷ 1 ∷ 0 ∷ 3 ∷ 0 ∷ 0 ∷ 64 ∷ 0 ∷ 64 ∷ 0 ∷ 1 ∷ 65 ∷ 0 ∷ 0 ∷ 0 ∷ 1 ∷ 0 ∷ 1 ∷ []))))) (0 ∷ 1 ∷ []) (ended done 3 0 (0 ∷ 1 ∷ []))
    -- H8: open calls, those of conditions too; operations are none
    -- a sequence of 31 takes 32 calls
    ∷ case 99 numbers (1 ∷ 9 ∷ 1 ∷ 1 ∷ 3 ∷ 1 ∷ 0 ∷ 64 ∷ 2 ∷ 64 ∷ 1 ∷ 5 ∷ 1 ∷ 0 ∷ 2 ∷ 7 ∷ 66 ∷ 1 ∷ 1 ∷ 0 ∷ 0 ∷ 0 ∷ []) (list (replicate 31 5)) (ended done 32 1 (list (replicate 31 7)))
    -- one of 32 a 33rd
    ∷ case 99 numbers (1 ∷ 9 ∷ 1 ∷ 1 ∷ 3 ∷ 1 ∷ 0 ∷ 64 ∷ 2 ∷ 64 ∷ 1 ∷ 5 ∷ 1 ∷ 0 ∷ 2 ∷ 7 ∷ 66 ∷ 1 ∷ 1 ∷ 0 ∷ 0 ∷ 0 ∷ []) (list (replicate 32 5)) (ended (stopped 41) 32 0 (list (replicate 32 5)))
    -- calls in conditions
    ∷ case 99 numbers (1 ∷ 12 ∷ 0 ∷ 1 ∷ 64 ∷ 0 ∷ 1 ∷ 8 ∷ 3 ∷ 66 ∷ 0 ∷ 1 ∷ 0 ∷ 0 ∷ 0 ∷ 1 ∷ 65 ∷ 0 ∷ []) (list (5 ∷ [])) (ended (stopped 41) 32 0 (list (5 ∷ [])))
    -- an operation in the 32nd call: 45
    ∷ case 99 numbers (1 ∷ 13 ∷ 1 ∷ 1 ∷ 3 ∷ 1 ∷ 0 ∷ 64 ∷ 2 ∷ 64 ∷ 1 ∷ 1 ∷ 4 ∷ 2 ∷ 4 ∷ 66 ∷ 0 ∷ 1 ∷ 0 ∷ 1000 ∷ 1 ∷ 65 ∷ 0 ∷ 5 ∷ 1 ∷ 0 ∷ 2 ∷ 7 ∷ 66 ∷ 1 ∷ 1 ∷ 0 ∷ 0 ∷ 0 ∷ []) (list (replicate 31 5 ++ 4000000000 ∷ [])) (ended (stopped 45) 32 0 (list (replicate 31 5 ++ 4000000000 ∷ [])))
    -- H9, H10, H13 to H15: 43
    -- 62 levels over 2: nesting 64
    ∷ case 9 levels (1 ∷ 12 ∷ 0 ∷ 1 ∷ 64 ∷ 0 ∷ 2 ∷ 4 ∷ 0 ∷ 63 ∷ (times 62 (0 ∷ 0 ∷ []) ++ (65 ∷ 0 ∷ 1 ∷ 0 ∷ 1 ∷ 0 ∷ 1 ∷ 1 ∷ 65 ∷ 0 ∷ []))) (0 ∷ 0 ∷ 0 ∷ 1 ∷ []) (ended done 1 0 (0 ∷ 0 ∷ 0 ∷ 1 ∷ []))
    -- 63 levels over 2: 43 when the construct is finished, though never used
    ∷ case 9 levels (1 ∷ 12 ∷ 0 ∷ 1 ∷ 64 ∷ 0 ∷ 2 ∷ 4 ∷ 0 ∷ 64 ∷ (times 63 (0 ∷ 0 ∷ []) ++ (65 ∷ 0 ∷ 1 ∷ 0 ∷ 1 ∷ 0 ∷ 1 ∷ 1 ∷ 65 ∷ 0 ∷ []))) (0 ∷ 0 ∷ 0 ∷ 1 ∷ []) (ended (stopped 43) 1 0 (0 ∷ 0 ∷ 0 ∷ 1 ∷ []))
    -- a replacement of 40 levels put at nesting 25: 64
    ∷ case 99 levels (1 ∷ 9 ∷ 0 ∷ 1 ∷ 1 ∷ 0 ∷ 1 ∷ 40 ∷ (times 39 (0 ∷ 0 ∷ []) ++ (0 ∷ 1 ∷ []))) (times 24 (0 ∷ 0 ∷ []) ++ (0 ∷ 1 ∷ [])) (ended done 25 1 (times 63 (0 ∷ 0 ∷ []) ++ (0 ∷ 1 ∷ [])))
    -- .. at nesting 26: 43 in place
    ∷ case 99 levels (1 ∷ 9 ∷ 0 ∷ 1 ∷ 1 ∷ 0 ∷ 1 ∷ 40 ∷ (times 39 (0 ∷ 0 ∷ []) ++ (0 ∷ 1 ∷ []))) (times 25 (0 ∷ 0 ∷ []) ++ (0 ∷ 1 ∷ [])) (ended (stopped 43) 26 0 (times 25 (0 ∷ 0 ∷ []) ++ (0 ∷ 1 ∷ [])))
    -- in a call it is counted in that call's own scope: 10 levels under 60, undone before the move
    ∷ case 9 levels (3 ∷ 8 ∷ 0 ∷ 1 ∷ 64 ∷ 0 ∷ 64 ∷ (times 60 (0 ∷ 0 ∷ []) ++ (66 ∷ 0 ∷ 2 ∷ 0 ∷ 1 ∷ 0 ∷ 2 ∷ 0 ∷ 8 ∷ 0 ∷ 1 ∷ 64 ∷ 0 ∷ 11 ∷ (times 10 (0 ∷ 0 ∷ []) ++ (65 ∷ 0 ∷ 8 ∷ 0 ∷ 1 ∷ 64 ∷ 0 ∷ 1 ∷ 0 ∷ 1 ∷ []))))) (0 ∷ 1 ∷ []) (ended done 3 1 (times 60 (0 ∷ 0 ∷ []) ++ (0 ∷ 1 ∷ [])))
    -- .. and not undone: 43 when the tree above is finished
    ∷ case 9 levels (3 ∷ 8 ∷ 0 ∷ 1 ∷ 64 ∷ 0 ∷ 63 ∷ (times 60 (0 ∷ 0 ∷ []) ++ (66 ∷ 0 ∷ 1 ∷ 0 ∷ 1 ∷ 0 ∷ 8 ∷ 0 ∷ 1 ∷ 64 ∷ 0 ∷ 11 ∷ (times 10 (0 ∷ 0 ∷ []) ++ (65 ∷ 0 ∷ 8 ∷ 0 ∷ 1 ∷ 64 ∷ 0 ∷ 1 ∷ 0 ∷ 1 ∷ []))))) (0 ∷ 1 ∷ []) (ended (stopped 43) 2 0 (0 ∷ 1 ∷ []))
    -- the rest of a sequence keeps its place's nesting
    ∷ case 9 sequences (1 ∷ 9 ∷ 0 ∷ 1 ∷ 3 ∷ 0 ∷ 0 ∷ 0 ∷ 1 ∷ 0 ∷ 1 ∷ 61 ∷ (times 30 (0 ∷ 0 ∷ []) ++ (times 31 (0 ∷ 1 ∷ [])))) (0 ∷ 0 ∷ 0 ∷ 1 ∷ 0 ∷ 0 ∷ 0 ∷ 1 ∷ 0 ∷ 0 ∷ 0 ∷ 1 ∷ 0 ∷ 1 ∷ []) (ended done 5 1 (0 ∷ 0 ∷ 0 ∷ 1 ∷ 0 ∷ 0 ∷ 0 ∷ 1 ∷ (times 30 (0 ∷ 0 ∷ []) ++ (times 31 (0 ∷ 1 ∷ [])))))
    -- .. a list's too
    ∷ case 9 (1 ∷ 16 ∷ 0 ∷ []) (1 ∷ 9 ∷ 0 ∷ 1 ∷ 3 ∷ 0 ∷ 0 ∷ 0 ∷ 1 ∷ 0 ∷ 1 ∷ 61 ∷ (times 30 (0 ∷ 0 ∷ []) ++ (times 31 (0 ∷ 1 ∷ [])))) (0 ∷ 0 ∷ 0 ∷ 1 ∷ 0 ∷ 0 ∷ 0 ∷ 1 ∷ 0 ∷ 0 ∷ 0 ∷ 1 ∷ 0 ∷ 1 ∷ []) (ended done 5 1 (0 ∷ 0 ∷ 0 ∷ 1 ∷ 0 ∷ 0 ∷ 0 ∷ 1 ∷ (times 30 (0 ∷ 0 ∷ []) ++ (times 31 (0 ∷ 1 ∷ [])))))
    -- H11: a moved tree's nesting is judged where the tree above is finished
    -- a later pair's 45 comes first
    ∷ case 9 (2 ∷ 8 ∷ 2 ∷ 2 ∷ 0 ∷ 1 ∷ 0 ∷ 1 ∷ 2 ∷ []) (2 ∷ 8 ∷ 0 ∷ 3 ∷ 0 ∷ 0 ∷ 64 ∷ 0 ∷ 64 ∷ 1 ∷ 126 ∷ (times 60 (0 ∷ 0 ∷ []) ++ (66 ∷ 0 ∷ 1 ∷ 0 ∷ 1 ∷ 0 ∷ (times 59 (65 ∷ 1 ∷ []) ++ (66 ∷ 1 ∷ 1 ∷ 0 ∷ 1002 ∷ 1 ∷ 65 ∷ 1 ∷ 8 ∷ 0 ∷ 1 ∷ 0 ∷ 1 ∷ 1 ∷ 0 ∷ 1 ∷ []))))) (times 7 (0 ∷ 0 ∷ []) ++ (0 ∷ 1 ∷ (times 7 (1 ∷ 0 ∷ [])))) (ended (stopped 45) 2 0 (times 7 (0 ∷ 0 ∷ []) ++ (0 ∷ 1 ∷ (times 7 (1 ∷ 0 ∷ [])))))
    -- no later stop: 43
    ∷ case 9 (2 ∷ 8 ∷ 2 ∷ 2 ∷ 0 ∷ 1 ∷ 0 ∷ 1 ∷ 2 ∷ []) (2 ∷ 8 ∷ 0 ∷ 3 ∷ 0 ∷ 0 ∷ 64 ∷ 0 ∷ 64 ∷ 1 ∷ 123 ∷ (times 60 (0 ∷ 0 ∷ []) ++ (66 ∷ 0 ∷ 1 ∷ 0 ∷ 1 ∷ 0 ∷ (times 60 (65 ∷ 1 ∷ []) ++ (8 ∷ 0 ∷ 1 ∷ 0 ∷ 1 ∷ 1 ∷ 0 ∷ 1 ∷ []))))) (times 7 (0 ∷ 0 ∷ []) ++ (0 ∷ 1 ∷ (times 7 (1 ∷ 0 ∷ [])))) (ended (stopped 43) 2 0 (times 7 (0 ∷ 0 ∷ []) ++ (0 ∷ 1 ∷ (times 7 (1 ∷ 0 ∷ [])))))
    -- O1 to O4: the operations
    -- add up to the most
    ∷ case 9 numbers (1 ∷ 9 ∷ 1 ∷ 1 ∷ 5 ∷ 1 ∷ 0 ∷ 64 ∷ 2 ∷ 1 ∷ 0 ∷ 64 ∷ 2 ∷ 64 ∷ 1 ∷ 6 ∷ 1 ∷ 0 ∷ 66 ∷ 0 ∷ 1 ∷ 0 ∷ 1000 ∷ 1 ∷ 65 ∷ 1 ∷ 65 ∷ 2 ∷ []) (list (3999999999 ∷ 1 ∷ [])) (ended done 1 1 (list (4000000000 ∷ [])))
    -- .. and past it; past 2^32 too the sum is the true one
    ∷ case 9 numbers (1 ∷ 9 ∷ 1 ∷ 1 ∷ 5 ∷ 1 ∷ 0 ∷ 64 ∷ 2 ∷ 1 ∷ 0 ∷ 64 ∷ 2 ∷ 64 ∷ 1 ∷ 6 ∷ 1 ∷ 0 ∷ 66 ∷ 0 ∷ 1 ∷ 0 ∷ 1000 ∷ 1 ∷ 65 ∷ 1 ∷ 65 ∷ 2 ∷ []) (list (4000000000 ∷ 1 ∷ [])) (ended (stopped 45) 1 0 (list (4000000000 ∷ 1 ∷ [])))
    ∷ case 9 numbers (1 ∷ 9 ∷ 1 ∷ 1 ∷ 5 ∷ 1 ∷ 0 ∷ 64 ∷ 2 ∷ 1 ∷ 0 ∷ 64 ∷ 2 ∷ 64 ∷ 1 ∷ 6 ∷ 1 ∷ 0 ∷ 66 ∷ 0 ∷ 1 ∷ 0 ∷ 1000 ∷ 1 ∷ 65 ∷ 1 ∷ 65 ∷ 2 ∷ []) (list (4000000000 ∷ 294967296 ∷ [])) (ended (stopped 45) 1 0 (list (4000000000 ∷ 294967296 ∷ [])))
    ∷ case 9 numbers (1 ∷ 9 ∷ 1 ∷ 1 ∷ 5 ∷ 1 ∷ 0 ∷ 64 ∷ 2 ∷ 1 ∷ 0 ∷ 64 ∷ 2 ∷ 64 ∷ 1 ∷ 6 ∷ 1 ∷ 0 ∷ 66 ∷ 0 ∷ 1 ∷ 0 ∷ 1000 ∷ 1 ∷ 65 ∷ 1 ∷ 65 ∷ 2 ∷ []) (list (4000000000 ∷ 4000000000 ∷ [])) (ended (stopped 45) 1 0 (list (4000000000 ∷ 4000000000 ∷ [])))
    -- subtract down to 0
    ∷ case 9 numbers (1 ∷ 9 ∷ 1 ∷ 1 ∷ 5 ∷ 1 ∷ 0 ∷ 64 ∷ 2 ∷ 1 ∷ 0 ∷ 64 ∷ 2 ∷ 64 ∷ 1 ∷ 6 ∷ 1 ∷ 0 ∷ 66 ∷ 0 ∷ 1 ∷ 0 ∷ 1001 ∷ 1 ∷ 65 ∷ 1 ∷ 65 ∷ 2 ∷ []) (list (5 ∷ 5 ∷ [])) (ended done 1 1 (list (0 ∷ [])))
    ∷ case 9 numbers (1 ∷ 9 ∷ 1 ∷ 1 ∷ 5 ∷ 1 ∷ 0 ∷ 64 ∷ 2 ∷ 1 ∷ 0 ∷ 64 ∷ 2 ∷ 64 ∷ 1 ∷ 6 ∷ 1 ∷ 0 ∷ 66 ∷ 0 ∷ 1 ∷ 0 ∷ 1001 ∷ 1 ∷ 65 ∷ 1 ∷ 65 ∷ 2 ∷ []) (list (4000000000 ∷ 4000000000 ∷ [])) (ended done 1 1 (list (0 ∷ [])))
    -- .. and under it
    ∷ case 9 numbers (1 ∷ 9 ∷ 1 ∷ 1 ∷ 5 ∷ 1 ∷ 0 ∷ 64 ∷ 2 ∷ 1 ∷ 0 ∷ 64 ∷ 2 ∷ 64 ∷ 1 ∷ 6 ∷ 1 ∷ 0 ∷ 66 ∷ 0 ∷ 1 ∷ 0 ∷ 1001 ∷ 1 ∷ 65 ∷ 1 ∷ 65 ∷ 2 ∷ []) (list (5 ∷ 6 ∷ [])) (ended (stopped 45) 1 0 (list (5 ∷ 6 ∷ [])))
    -- quotient: 10.00 by 3.00 is 3.00
    ∷ case 9 numbers (1 ∷ 9 ∷ 1 ∷ 1 ∷ 5 ∷ 1 ∷ 0 ∷ 64 ∷ 2 ∷ 1 ∷ 0 ∷ 64 ∷ 2 ∷ 64 ∷ 1 ∷ 6 ∷ 1 ∷ 0 ∷ 66 ∷ 0 ∷ 1 ∷ 0 ∷ 1002 ∷ 1 ∷ 65 ∷ 1 ∷ 65 ∷ 2 ∷ []) (list (1000 ∷ 300 ∷ [])) (ended done 1 1 (list (300 ∷ [])))
    -- the greatest quotient
    ∷ case 9 numbers (1 ∷ 9 ∷ 1 ∷ 1 ∷ 5 ∷ 1 ∷ 0 ∷ 64 ∷ 2 ∷ 1 ∷ 0 ∷ 64 ∷ 2 ∷ 64 ∷ 1 ∷ 6 ∷ 1 ∷ 0 ∷ 66 ∷ 0 ∷ 1 ∷ 0 ∷ 1002 ∷ 1 ∷ 65 ∷ 1 ∷ 65 ∷ 2 ∷ []) (list (40000000 ∷ 1 ∷ [])) (ended done 1 1 (list (4000000000 ∷ [])))
    -- .. and one past it; 42,949,673 times 100 is past 2^32 by 4
    ∷ case 9 numbers (1 ∷ 9 ∷ 1 ∷ 1 ∷ 5 ∷ 1 ∷ 0 ∷ 64 ∷ 2 ∷ 1 ∷ 0 ∷ 64 ∷ 2 ∷ 64 ∷ 1 ∷ 6 ∷ 1 ∷ 0 ∷ 66 ∷ 0 ∷ 1 ∷ 0 ∷ 1002 ∷ 1 ∷ 65 ∷ 1 ∷ 65 ∷ 2 ∷ []) (list (40000001 ∷ 1 ∷ [])) (ended (stopped 45) 1 0 (list (40000001 ∷ 1 ∷ [])))
    ∷ case 9 numbers (1 ∷ 9 ∷ 1 ∷ 1 ∷ 5 ∷ 1 ∷ 0 ∷ 64 ∷ 2 ∷ 1 ∷ 0 ∷ 64 ∷ 2 ∷ 64 ∷ 1 ∷ 6 ∷ 1 ∷ 0 ∷ 66 ∷ 0 ∷ 1 ∷ 0 ∷ 1002 ∷ 1 ∷ 65 ∷ 1 ∷ 65 ∷ 2 ∷ []) (list (42949673 ∷ 1 ∷ [])) (ended (stopped 45) 1 0 (list (42949673 ∷ 1 ∷ [])))
    -- divisor 0
    ∷ case 9 numbers (1 ∷ 9 ∷ 1 ∷ 1 ∷ 5 ∷ 1 ∷ 0 ∷ 64 ∷ 2 ∷ 1 ∷ 0 ∷ 64 ∷ 2 ∷ 64 ∷ 1 ∷ 6 ∷ 1 ∷ 0 ∷ 66 ∷ 0 ∷ 1 ∷ 0 ∷ 1002 ∷ 1 ∷ 65 ∷ 1 ∷ 65 ∷ 2 ∷ []) (list (5 ∷ 0 ∷ [])) (ended (stopped 45) 1 0 (list (5 ∷ 0 ∷ [])))
    -- remainder: 250 and 120 give 10
    ∷ case 9 numbers (1 ∷ 9 ∷ 1 ∷ 1 ∷ 5 ∷ 1 ∷ 0 ∷ 64 ∷ 2 ∷ 1 ∷ 0 ∷ 64 ∷ 2 ∷ 64 ∷ 1 ∷ 6 ∷ 1 ∷ 0 ∷ 66 ∷ 0 ∷ 1 ∷ 0 ∷ 1003 ∷ 1 ∷ 65 ∷ 1 ∷ 65 ∷ 2 ∷ []) (list (250 ∷ 120 ∷ [])) (ended done 1 1 (list (10 ∷ [])))
    -- the quotient on the way may pass the limit
    ∷ case 9 numbers (1 ∷ 9 ∷ 1 ∷ 1 ∷ 5 ∷ 1 ∷ 0 ∷ 64 ∷ 2 ∷ 1 ∷ 0 ∷ 64 ∷ 2 ∷ 64 ∷ 1 ∷ 6 ∷ 1 ∷ 0 ∷ 66 ∷ 0 ∷ 1 ∷ 0 ∷ 1003 ∷ 1 ∷ 65 ∷ 1 ∷ 65 ∷ 2 ∷ []) (list (4000000000 ∷ 1 ∷ [])) (ended done 1 1 (list (0 ∷ [])))
    -- divisor 0
    ∷ case 9 numbers (1 ∷ 9 ∷ 1 ∷ 1 ∷ 5 ∷ 1 ∷ 0 ∷ 64 ∷ 2 ∷ 1 ∷ 0 ∷ 64 ∷ 2 ∷ 64 ∷ 1 ∷ 6 ∷ 1 ∷ 0 ∷ 66 ∷ 0 ∷ 1 ∷ 0 ∷ 1003 ∷ 1 ∷ 65 ∷ 1 ∷ 65 ∷ 2 ∷ []) (list (0 ∷ 0 ∷ [])) (ended (stopped 45) 1 0 (list (0 ∷ 0 ∷ [])))
    -- round
    ∷ case 9 numbers (1 ∷ 9 ∷ 2 ∷ 1 ∷ 1 ∷ 64 ∷ 2 ∷ 3 ∷ 66 ∷ 0 ∷ 1 ∷ 0 ∷ 1004 ∷ 0 ∷ []) (list (49 ∷ [])) (ended done 1 1 (list (0 ∷ [])))
    -- an exact half to the even whole number
    ∷ case 9 numbers (1 ∷ 9 ∷ 2 ∷ 1 ∷ 1 ∷ 64 ∷ 2 ∷ 3 ∷ 66 ∷ 0 ∷ 1 ∷ 0 ∷ 1004 ∷ 0 ∷ []) (list (50 ∷ [])) (ended done 1 1 (list (0 ∷ [])))
    ∷ case 9 numbers (1 ∷ 9 ∷ 2 ∷ 1 ∷ 1 ∷ 64 ∷ 2 ∷ 3 ∷ 66 ∷ 0 ∷ 1 ∷ 0 ∷ 1004 ∷ 0 ∷ []) (list (150 ∷ [])) (ended done 1 1 (list (200 ∷ [])))
    ∷ case 9 numbers (1 ∷ 9 ∷ 2 ∷ 1 ∷ 1 ∷ 64 ∷ 2 ∷ 3 ∷ 66 ∷ 0 ∷ 1 ∷ 0 ∷ 1004 ∷ 0 ∷ []) (list (350 ∷ [])) (ended done 1 1 (list (400 ∷ [])))
    ∷ case 9 numbers (1 ∷ 9 ∷ 2 ∷ 1 ∷ 1 ∷ 64 ∷ 2 ∷ 3 ∷ 66 ∷ 0 ∷ 1 ∷ 0 ∷ 1004 ∷ 0 ∷ []) (list (3999999850 ∷ [])) (ended done 1 1 (list (3999999800 ∷ [])))
    -- just under a half, just over it
    ∷ case 9 numbers (1 ∷ 9 ∷ 2 ∷ 1 ∷ 1 ∷ 64 ∷ 2 ∷ 3 ∷ 66 ∷ 0 ∷ 1 ∷ 0 ∷ 1004 ∷ 0 ∷ []) (list (149 ∷ [])) (ended done 1 1 (list (100 ∷ [])))
    ∷ case 9 numbers (1 ∷ 9 ∷ 2 ∷ 1 ∷ 1 ∷ 64 ∷ 2 ∷ 3 ∷ 66 ∷ 0 ∷ 1 ∷ 0 ∷ 1004 ∷ 0 ∷ []) (list (251 ∷ [])) (ended done 1 1 (list (300 ∷ [])))
    ∷ case 9 numbers (1 ∷ 9 ∷ 2 ∷ 1 ∷ 1 ∷ 64 ∷ 2 ∷ 3 ∷ 66 ∷ 0 ∷ 1 ∷ 0 ∷ 1004 ∷ 0 ∷ []) (list (3999999949 ∷ [])) (ended done 1 1 (list (3999999900 ∷ [])))
    -- .. up to the limit, never past it
    ∷ case 9 numbers (1 ∷ 9 ∷ 2 ∷ 1 ∷ 1 ∷ 64 ∷ 2 ∷ 3 ∷ 66 ∷ 0 ∷ 1 ∷ 0 ∷ 1004 ∷ 0 ∷ []) (list (3999999950 ∷ [])) (ended done 1 1 (list (4000000000 ∷ [])))
    ∷ case 9 numbers (1 ∷ 9 ∷ 2 ∷ 1 ∷ 1 ∷ 64 ∷ 2 ∷ 3 ∷ 66 ∷ 0 ∷ 1 ∷ 0 ∷ 1004 ∷ 0 ∷ []) (list (4000000000 ∷ [])) (ended done 1 1 (list (4000000000 ∷ [])))
    -- truncate
    ∷ case 9 numbers (1 ∷ 9 ∷ 2 ∷ 1 ∷ 1 ∷ 64 ∷ 2 ∷ 3 ∷ 66 ∷ 0 ∷ 1 ∷ 0 ∷ 1005 ∷ 0 ∷ []) (list (199 ∷ [])) (ended done 1 1 (list (100 ∷ [])))
    ∷ case 9 numbers (1 ∷ 9 ∷ 2 ∷ 1 ∷ 1 ∷ 64 ∷ 2 ∷ 3 ∷ 66 ∷ 0 ∷ 1 ∷ 0 ∷ 1005 ∷ 0 ∷ []) (list (3999999999 ∷ [])) (ended done 1 1 (list (3999999900 ∷ [])))
    -- number types may differ; the scope's stays
    ∷ case 9 (3 ∷ 8 ∷ 1 ∷ 2 ∷ 1 ∷ 2 ∷ 1 ∷ 2 ∷ 1 ∷ 2 ∷ []) (1 ∷ 8 ∷ 0 ∷ 3 ∷ 0 ∷ 0 ∷ 64 ∷ 1 ∷ 64 ∷ 2 ∷ 6 ∷ 0 ∷ 0 ∷ 66 ∷ 0 ∷ 1 ∷ 0 ∷ 1000 ∷ 1 ∷ 65 ∷ 1 ∷ 65 ∷ 1 ∷ []) (0 ∷ 0 ∷ 1 ∷ 250 ∷ 2 ∷ 120 ∷ []) (ended done 1 1 (0 ∷ 0 ∷ 1 ∷ 370 ∷ 2 ∷ 120 ∷ []))
    -- equal
    ∷ case 9 (3 ∷ 8 ∷ 1 ∷ 2 ∷ 1 ∷ 2 ∷ 1 ∷ 2 ∷ 1 ∷ 2 ∷ []) (1 ∷ 12 ∷ 0 ∷ 3 ∷ 0 ∷ 0 ∷ 64 ∷ 1 ∷ 64 ∷ 2 ∷ 1 ∷ 8 ∷ 4 ∷ 66 ∷ 0 ∷ 1 ∷ 0 ∷ 1008 ∷ 1 ∷ 65 ∷ 1 ∷ 3 ∷ 0 ∷ 0 ∷ 1 ∷ 1 ∷ 2 ∷ 1 ∷ []) (0 ∷ 0 ∷ 1 ∷ 5 ∷ 2 ∷ 5 ∷ []) (ended done 1 1 (0 ∷ 0 ∷ 1 ∷ 1 ∷ 2 ∷ 1 ∷ []))
    ∷ case 9 (3 ∷ 8 ∷ 1 ∷ 2 ∷ 1 ∷ 2 ∷ 1 ∷ 2 ∷ 1 ∷ 2 ∷ []) (1 ∷ 12 ∷ 0 ∷ 3 ∷ 0 ∷ 0 ∷ 64 ∷ 1 ∷ 64 ∷ 2 ∷ 1 ∷ 8 ∷ 4 ∷ 66 ∷ 0 ∷ 1 ∷ 0 ∷ 1008 ∷ 1 ∷ 65 ∷ 1 ∷ 3 ∷ 0 ∷ 0 ∷ 1 ∷ 1 ∷ 2 ∷ 1 ∷ []) (0 ∷ 0 ∷ 1 ∷ 5 ∷ 2 ∷ 6 ∷ []) (ended done 1 0 (0 ∷ 0 ∷ 1 ∷ 5 ∷ 2 ∷ 6 ∷ []))
    -- scope greater
    ∷ case 9 (3 ∷ 8 ∷ 1 ∷ 2 ∷ 1 ∷ 2 ∷ 1 ∷ 2 ∷ 1 ∷ 2 ∷ []) (1 ∷ 12 ∷ 0 ∷ 3 ∷ 0 ∷ 0 ∷ 64 ∷ 1 ∷ 64 ∷ 2 ∷ 1 ∷ 8 ∷ 4 ∷ 66 ∷ 0 ∷ 1 ∷ 0 ∷ 1009 ∷ 1 ∷ 65 ∷ 1 ∷ 3 ∷ 0 ∷ 0 ∷ 1 ∷ 1 ∷ 2 ∷ 1 ∷ []) (0 ∷ 0 ∷ 1 ∷ 6 ∷ 2 ∷ 5 ∷ []) (ended done 1 1 (0 ∷ 0 ∷ 1 ∷ 1 ∷ 2 ∷ 1 ∷ []))
    ∷ case 9 (3 ∷ 8 ∷ 1 ∷ 2 ∷ 1 ∷ 2 ∷ 1 ∷ 2 ∷ 1 ∷ 2 ∷ []) (1 ∷ 12 ∷ 0 ∷ 3 ∷ 0 ∷ 0 ∷ 64 ∷ 1 ∷ 64 ∷ 2 ∷ 1 ∷ 8 ∷ 4 ∷ 66 ∷ 0 ∷ 1 ∷ 0 ∷ 1009 ∷ 1 ∷ 65 ∷ 1 ∷ 3 ∷ 0 ∷ 0 ∷ 1 ∷ 1 ∷ 2 ∷ 1 ∷ []) (0 ∷ 0 ∷ 1 ∷ 4000000000 ∷ 2 ∷ 1 ∷ []) (ended done 1 1 (0 ∷ 0 ∷ 1 ∷ 1 ∷ 2 ∷ 1 ∷ []))
    ∷ case 9 (3 ∷ 8 ∷ 1 ∷ 2 ∷ 1 ∷ 2 ∷ 1 ∷ 2 ∷ 1 ∷ 2 ∷ []) (1 ∷ 12 ∷ 0 ∷ 3 ∷ 0 ∷ 0 ∷ 64 ∷ 1 ∷ 64 ∷ 2 ∷ 1 ∷ 8 ∷ 4 ∷ 66 ∷ 0 ∷ 1 ∷ 0 ∷ 1009 ∷ 1 ∷ 65 ∷ 1 ∷ 3 ∷ 0 ∷ 0 ∷ 1 ∷ 1 ∷ 2 ∷ 1 ∷ []) (0 ∷ 0 ∷ 1 ∷ 5 ∷ 2 ∷ 5 ∷ []) (ended done 1 0 (0 ∷ 0 ∷ 1 ∷ 5 ∷ 2 ∷ 5 ∷ []))
    -- A1 to A3: the answer
    -- without a match the result is the tree
    ∷ case 9 numbers to_forty_two (list (7 ∷ 8 ∷ [])) (ended done 2 0 (list (7 ∷ 8 ∷ [])))
    -- a stop in the second replacement: the first stays, its attempt counts
    ∷ case 9 numbers (1 ∷ 9 ∷ 1 ∷ 2 ∷ 5 ∷ 1 ∷ 0 ∷ 64 ∷ 2 ∷ 1 ∷ 0 ∷ 64 ∷ 2 ∷ 64 ∷ 1 ∷ 6 ∷ 1 ∷ 0 ∷ 66 ∷ 0 ∷ 1 ∷ 0 ∷ 1001 ∷ 1 ∷ 65 ∷ 1 ∷ 65 ∷ 2 ∷ []) (list (10 ∷ 3 ∷ 9 ∷ [])) (ended (stopped 45) 2 1 (list (7 ∷ 9 ∷ [])))
    -- "Places go from the top": call, grammar, book layout, book typing, slip
    -- budget 0, with all else wrong
    ∷ case 0 [] (0 ∷ []) [] (refused 3 0)
    -- budget 1,000,001
    ∷ case 1000001 numbers to_forty_two two_and_five (refused 3 0)
    -- budget 1,000,000
    ∷ case 1000000 numbers to_forty_two two_and_five (ended done 3 1 (list (4200 ∷ 500 ∷ [])))
    -- the grammar before the rules
    ∷ case 3 (1 ∷ 8 ∷ 1 ∷ 1 ∷ 0 ∷ []) (1 ∷ 9 ∷ 9 ∷ []) (0 ∷ 0 ∷ []) (refused 12 1)
    -- layout before typing, which is at a lower word
    ∷ case 3 numbers (2 ∷ 9 ∷ 2 ∷ 2 ∷ 1 ∷ 3 ∷ 0 ∷ 1 ∷ 2 ∷ 1 ∷ 16 ∷ []) (0 ∷ 0 ∷ []) (refused 21 10)
    -- typing before the slip
    ∷ case 3 numbers (1 ∷ 9 ∷ 2 ∷ 2 ∷ 1 ∷ 3 ∷ 0 ∷ 1 ∷ 2 ∷ 1 ∷ []) (0 ∷ 0 ∷ []) (refused 23 5)
    -- the slip: no multiple of three
    ∷ in_words 3 numbers to_forty_two (0 ∷ 0 ∷ []) (refused 30 0)
    -- the slip: its root of another type
    ∷ case 3 numbers to_forty_two (1 ∷ 1 ∷ []) (refused 32 0)
    -- T-07: its root's count
    ∷ in_words 3 numbers to_forty_two (0 ∷ 0 ∷ 3 ∷ 1 ∷ 1 ∷ 1 ∷ []) (refused 34 2)
    -- T-04
    -- a sequence joined with itself; its first element joined to its rest
    ∷ case 1 numbers (1 ∷ 8 ∷ 0 ∷ 2 ∷ 0 ∷ 0 ∷ 64 ∷ 1 ∷ 5 ∷ 0 ∷ 0 ∷ 66 ∷ 0 ∷ 1 ∷ 0 ∷ 1010 ∷ 1 ∷ 65 ∷ 0 ∷ []) two_and_five (ended done 1 1 (list (200 ∷ 500 ∷ 200 ∷ 500 ∷ [])))
    ∷ case 1 numbers (1 ∷ 8 ∷ 0 ∷ 4 ∷ 0 ∷ 0 ∷ 1 ∷ 0 ∷ 64 ∷ 2 ∷ 64 ∷ 1 ∷ 5 ∷ 0 ∷ 0 ∷ 66 ∷ 1 ∷ 1 ∷ 0 ∷ 1010 ∷ 1 ∷ 65 ∷ 0 ∷ []) two_and_five (ended done 1 1 (list (500 ∷ 200 ∷ [])))
    -- select from 1.99 to 2.50
    ∷ case 1 numbers (1 ∷ 12 ∷ 0 ∷ 2 ∷ 0 ∷ 0 ∷ 64 ∷ 1 ∷ 2 ∷ 4 ∷ 2 ∷ 1 ∷ 2 ∷ 199 ∷ 4 ∷ 2 ∷ 1 ∷ 2 ∷ 250 ∷ 6 ∷ 0 ∷ 0 ∷ 66 ∷ 0 ∷ 1 ∷ 0 ∷ 1011 ∷ 2 ∷ 65 ∷ 1 ∷ 65 ∷ 2 ∷ []) (list (100 ∷ 200 ∷ 300 ∷ [])) (ended done 1 1 (list (100 ∷ 200 ∷ [])))
    -- joined, each 2.00 made 42.00 by a rule, and the first three taken: one attempt, and eight of the rule
    ∷ case 9 numbers (2 ∷ 12 ∷ 0 ∷ 2 ∷ 0 ∷ 0 ∷ 64 ∷ 1 ∷ 1 ∷ 4 ∷ 2 ∷ 1 ∷ 2 ∷ 300 ∷ 8 ∷ 0 ∷ 0 ∷ 66 ∷ 0 ∷ 3 ∷ 0 ∷ 1010 ∷ 1 ∷ 65 ∷ 0 ∷ 1 ∷ 0 ∷ 1012 ∷ 1 ∷ 65 ∷ 1 ∷ 9 ∷ 2 ∷ 2 ∷ 1 ∷ 2 ∷ 200 ∷ 1 ∷ 2 ∷ 4200 ∷ []) two_and_five (ended done 9 1 (list (4200 ∷ 500 ∷ 4200 ∷ [])))
    -- the first number becomes the length of the rest, and the number is added
    ∷ case 1 numbers (1 ∷ 8 ∷ 0 ∷ 4 ∷ 0 ∷ 0 ∷ 1 ∷ 0 ∷ 64 ∷ 2 ∷ 64 ∷ 1 ∷ 9 ∷ 0 ∷ 0 ∷ 1 ∷ 0 ∷ 66 ∷ 0 ∷ 2 ∷ 0 ∷ 1014 ∷ 1 ∷ 65 ∷ 1 ∷ 1000 ∷ 1 ∷ 65 ∷ 0 ∷ 65 ∷ 1 ∷ []) two_and_five (ended done 1 1 (list (300 ∷ 500 ∷ [])))
    -- the numbers in the whole tree, appended
    ∷ case 1 lists (1 ∷ 12 ∷ 0 ∷ 1 ∷ 64 ∷ 0 ∷ 1 ∷ 1 ∷ 0 ∷ 2 ∷ 0 ∷ 0 ∷ 64 ∷ 1 ∷ 5 ∷ 0 ∷ 0 ∷ 66 ∷ 1 ∷ 1 ∷ 0 ∷ 1015 ∷ 1 ∷ 65 ∷ 0 ∷ []) two_and_five (ended done 1 1 (list (200 ∷ 500 ∷ 200 ∷ 500 ∷ [])))
    -- T-05
    -- two names alike; "payer and payee were both left empty"; one of them
    ∷ alike 2 (1 ∷ 1 ∷ []) (1 ∷ 5 ∷ [])
    ∷ blank 2 (1 ∷ 1 ∷ []) (1 ∷ 0 ∷ [])
    ∷ case 1 names own_account (0 ∷ 0 ∷ 1 ∷ 5 ∷ 1 ∷ 0 ∷ []) (ended done 1 0 (0 ∷ 0 ∷ 1 ∷ 5 ∷ 1 ∷ 0 ∷ []))
    -- strings; a number 0 is not blank
    ∷ alike 2 (1 ∷ 3 ∷ []) (1 ∷ 65535 ∷ [])
    ∷ blank 2 (1 ∷ 3 ∷ []) (1 ∷ 0 ∷ [])
    ∷ alike 2 (1 ∷ 2 ∷ []) (1 ∷ 0 ∷ [])
    -- an absent opt, an empty repeat or list and a form without elements are not blank
    ∷ alike 3 (2 ∷ 2 ∷ 1 ∷ 1 ∷ []) (1 ∷ 1 ∷ [])
    ∷ alike 3 (4 ∷ 2 ∷ 1 ∷ 1 ∷ []) (1 ∷ 1 ∷ [])
    ∷ alike 3 (16 ∷ 2 ∷ 1 ∷ 1 ∷ []) (1 ∷ 1 ∷ [])
    ∷ alike 2 (8 ∷ 1 ∷ 0 ∷ []) (1 ∷ 0 ∷ [])
    -- a blank in an opt, in a sequence, in its last element
    ∷ alike 3 (2 ∷ 2 ∷ 1 ∷ 1 ∷ []) (1 ∷ 0 ∷ 2 ∷ 5 ∷ [])
    ∷ blank 3 (2 ∷ 2 ∷ 1 ∷ 1 ∷ []) (1 ∷ 0 ∷ 2 ∷ 0 ∷ [])
    ∷ alike 3 (4 ∷ 2 ∷ 1 ∷ 1 ∷ []) (1 ∷ 0 ∷ 2 ∷ 5 ∷ 1 ∷ 0 ∷ 2 ∷ 6 ∷ 1 ∷ 1 ∷ [])
    ∷ blank 3 (4 ∷ 2 ∷ 1 ∷ 1 ∷ []) (1 ∷ 0 ∷ 2 ∷ 0 ∷ 1 ∷ 0 ∷ 2 ∷ 6 ∷ 1 ∷ 1 ∷ [])
    ∷ blank 3 (16 ∷ 2 ∷ 1 ∷ 3 ∷ []) (1 ∷ 0 ∷ 2 ∷ 5 ∷ 1 ∷ 0 ∷ 2 ∷ 0 ∷ 1 ∷ 1 ∷ [])
    -- in a form, beside a number 0; at any depth
    ∷ alike 4 (8 ∷ 1 ∷ 2 ∷ 2 ∷ 3 ∷ 1 ∷ 1 ∷ 1 ∷ 2 ∷ []) (1 ∷ 0 ∷ 2 ∷ 5 ∷ 3 ∷ 0 ∷ [])
    ∷ blank 4 (8 ∷ 1 ∷ 2 ∷ 2 ∷ 3 ∷ 1 ∷ 1 ∷ 1 ∷ 2 ∷ []) (1 ∷ 0 ∷ 2 ∷ 0 ∷ 3 ∷ 5 ∷ [])
    ∷ alike 6 (2 ∷ 2 ∷ 16 ∷ 3 ∷ 8 ∷ 1 ∷ 2 ∷ 5 ∷ 4 ∷ 1 ∷ 3 ∷ 1 ∷ 2 ∷ []) (1 ∷ 0 ∷ 2 ∷ 0 ∷ 3 ∷ 0 ∷ 5 ∷ 0 ∷ 4 ∷ 7 ∷ 2 ∷ 1 ∷ [])
    ∷ blank 6 (2 ∷ 2 ∷ 16 ∷ 3 ∷ 8 ∷ 1 ∷ 2 ∷ 5 ∷ 4 ∷ 1 ∷ 3 ∷ 1 ∷ 2 ∷ []) (1 ∷ 0 ∷ 2 ∷ 0 ∷ 3 ∷ 0 ∷ 5 ∷ 0 ∷ 4 ∷ 0 ∷ 2 ∷ 1 ∷ [])
    -- "A written-out token of value 0 still matches an empty token"; a new variable is bound to one, and copied
    ∷ case 1 names (1 ∷ 8 ∷ 0 ∷ 3 ∷ 0 ∷ 0 ∷ 1 ∷ 0 ∷ 1 ∷ 0 ∷ 2 ∷ 0 ∷ 1 ∷ 1 ∷ 7 ∷ []) (0 ∷ 0 ∷ 1 ∷ 0 ∷ 1 ∷ 0 ∷ []) (ended done 1 1 (0 ∷ 1 ∷ 1 ∷ 7 ∷ []))
    ∷ case 1 names (1 ∷ 8 ∷ 0 ∷ 3 ∷ 0 ∷ 0 ∷ 64 ∷ 1 ∷ 64 ∷ 1 ∷ 2 ∷ 0 ∷ 1 ∷ 65 ∷ 1 ∷ []) (0 ∷ 0 ∷ 1 ∷ 5 ∷ 1 ∷ 0 ∷ []) (ended done 1 1 (0 ∷ 1 ∷ 1 ∷ 0 ∷ []))
    -- "itself included": the payer taken apart by the payer
    ∷ case 1 names (1 ∷ 12 ∷ 0 ∷ 3 ∷ 0 ∷ 0 ∷ 64 ∷ 1 ∷ 64 ∷ 1 ∷ 1 ∷ 1 ∷ 0 ∷ 1 ∷ 65 ∷ 0 ∷ 2 ∷ 0 ∷ 1 ∷ 65 ∷ 0 ∷ []) (0 ∷ 0 ∷ 1 ∷ 5 ∷ 1 ∷ 0 ∷ []) (ended done 1 1 (0 ∷ 1 ∷ 1 ∷ 5 ∷ []))
    ∷ case 1 names (1 ∷ 12 ∷ 0 ∷ 3 ∷ 0 ∷ 0 ∷ 64 ∷ 1 ∷ 64 ∷ 1 ∷ 1 ∷ 1 ∷ 0 ∷ 1 ∷ 65 ∷ 0 ∷ 2 ∷ 0 ∷ 1 ∷ 65 ∷ 0 ∷ []) (0 ∷ 0 ∷ 1 ∷ 0 ∷ 1 ∷ 5 ∷ []) (ended done 1 0 (0 ∷ 0 ∷ 1 ∷ 0 ∷ 1 ∷ 5 ∷ []))
    -- .. by the payee
    ∷ case 1 names (1 ∷ 12 ∷ 0 ∷ 3 ∷ 0 ∷ 0 ∷ 64 ∷ 1 ∷ 64 ∷ 1 ∷ 1 ∷ 1 ∷ 0 ∷ 1 ∷ 65 ∷ 1 ∷ 2 ∷ 0 ∷ 1 ∷ 65 ∷ 0 ∷ []) (0 ∷ 0 ∷ 1 ∷ 5 ∷ 1 ∷ 5 ∷ []) (ended done 1 1 (0 ∷ 1 ∷ 1 ∷ 5 ∷ []))
    ∷ case 1 names (1 ∷ 12 ∷ 0 ∷ 3 ∷ 0 ∷ 0 ∷ 64 ∷ 1 ∷ 64 ∷ 1 ∷ 1 ∷ 1 ∷ 0 ∷ 1 ∷ 65 ∷ 1 ∷ 2 ∷ 0 ∷ 1 ∷ 65 ∷ 0 ∷ []) (0 ∷ 0 ∷ 1 ∷ 0 ∷ 1 ∷ 0 ∷ []) (ended done 1 0 (0 ∷ 0 ∷ 1 ∷ 0 ∷ 1 ∷ 0 ∷ []))
    -- a searching part for two neighbours alike: the blank pair fails, and the next node is tried
    ∷ case 1 (fields 3 (4 ∷ 2 ∷ 1 ∷ 1 ∷ [])) (1 ∷ 12 ∷ 0 ∷ 3 ∷ 0 ∷ 0 ∷ 64 ∷ 1 ∷ 64 ∷ 1 ∷ 1 ∷ 3 ∷ 1 ∷ 0 ∷ 5 ∷ 1 ∷ 0 ∷ 64 ∷ 2 ∷ 1 ∷ 0 ∷ 65 ∷ 2 ∷ 64 ∷ 1 ∷ 4 ∷ 0 ∷ 1 ∷ 1 ∷ 0 ∷ 65 ∷ 2 ∷ 1 ∷ 1 ∷ []) (0 ∷ 0 ∷ 1 ∷ 0 ∷ 2 ∷ 0 ∷ 1 ∷ 0 ∷ 2 ∷ 0 ∷ 1 ∷ 0 ∷ 2 ∷ 5 ∷ 1 ∷ 0 ∷ 2 ∷ 5 ∷ 1 ∷ 1 ∷ 1 ∷ 1 ∷ []) (ended done 1 1 (0 ∷ 1 ∷ 1 ∷ 0 ∷ 2 ∷ 5 ∷ 1 ∷ 1 ∷ []))
    ∷ case 1 (fields 3 (4 ∷ 2 ∷ 1 ∷ 1 ∷ [])) (1 ∷ 12 ∷ 0 ∷ 3 ∷ 0 ∷ 0 ∷ 64 ∷ 1 ∷ 64 ∷ 1 ∷ 1 ∷ 3 ∷ 1 ∷ 0 ∷ 5 ∷ 1 ∷ 0 ∷ 64 ∷ 2 ∷ 1 ∷ 0 ∷ 65 ∷ 2 ∷ 64 ∷ 1 ∷ 4 ∷ 0 ∷ 1 ∷ 1 ∷ 0 ∷ 65 ∷ 2 ∷ 1 ∷ 1 ∷ []) (0 ∷ 0 ∷ 1 ∷ 0 ∷ 2 ∷ 5 ∷ 1 ∷ 0 ∷ 2 ∷ 0 ∷ 1 ∷ 0 ∷ 2 ∷ 0 ∷ 1 ∷ 1 ∷ 1 ∷ 1 ∷ []) (ended done 1 0 (0 ∷ 0 ∷ 1 ∷ 0 ∷ 2 ∷ 5 ∷ 1 ∷ 0 ∷ 2 ∷ 0 ∷ 1 ∷ 0 ∷ 2 ∷ 0 ∷ 1 ∷ 1 ∷ 1 ∷ 1 ∷ []))
    -- a parameter: the payer becomes 9 if it is the payee
    ∷ case 2 names (2 ∷ 8 ∷ 0 ∷ 3 ∷ 0 ∷ 0 ∷ 64 ∷ 1 ∷ 64 ∷ 1 ∷ 6 ∷ 0 ∷ 0 ∷ 66 ∷ 0 ∷ 1 ∷ 0 ∷ 1 ∷ 1 ∷ 65 ∷ 1 ∷ 65 ∷ 1 ∷ 10 ∷ 1 ∷ 1 ∷ 1 ∷ 1 ∷ 65 ∷ 0 ∷ 1 ∷ 1 ∷ 9 ∷ []) (0 ∷ 0 ∷ 1 ∷ 5 ∷ 1 ∷ 5 ∷ []) (ended done 2 1 (0 ∷ 0 ∷ 1 ∷ 9 ∷ 1 ∷ 5 ∷ []))
    ∷ case 2 names (2 ∷ 8 ∷ 0 ∷ 3 ∷ 0 ∷ 0 ∷ 64 ∷ 1 ∷ 64 ∷ 1 ∷ 6 ∷ 0 ∷ 0 ∷ 66 ∷ 0 ∷ 1 ∷ 0 ∷ 1 ∷ 1 ∷ 65 ∷ 1 ∷ 65 ∷ 1 ∷ 10 ∷ 1 ∷ 1 ∷ 1 ∷ 1 ∷ 65 ∷ 0 ∷ 1 ∷ 1 ∷ 9 ∷ []) (0 ∷ 0 ∷ 1 ∷ 0 ∷ 1 ∷ 0 ∷ []) (ended done 2 1 (0 ∷ 0 ∷ 1 ∷ 0 ∷ 1 ∷ 0 ∷ []))
    -- a variable that is built
    ∷ case 1 names (1 ∷ 12 ∷ 0 ∷ 3 ∷ 0 ∷ 0 ∷ 64 ∷ 1 ∷ 64 ∷ 1 ∷ 2 ∷ 4 ∷ 1 ∷ 1 ∷ 1 ∷ 5 ∷ 1 ∷ 0 ∷ 1 ∷ 65 ∷ 2 ∷ 2 ∷ 0 ∷ 1 ∷ 65 ∷ 1 ∷ []) (0 ∷ 0 ∷ 1 ∷ 5 ∷ 1 ∷ 6 ∷ []) (ended done 1 1 (0 ∷ 1 ∷ 1 ∷ 6 ∷ []))
    ∷ case 1 names (1 ∷ 12 ∷ 0 ∷ 3 ∷ 0 ∷ 0 ∷ 64 ∷ 1 ∷ 64 ∷ 1 ∷ 2 ∷ 4 ∷ 1 ∷ 1 ∷ 1 ∷ 0 ∷ 1 ∷ 0 ∷ 1 ∷ 65 ∷ 2 ∷ 2 ∷ 0 ∷ 1 ∷ 65 ∷ 1 ∷ []) (0 ∷ 0 ∷ 1 ∷ 0 ∷ 1 ∷ 6 ∷ []) (ended done 1 0 (0 ∷ 0 ∷ 1 ∷ 0 ∷ 1 ∷ 6 ∷ []))
    -- a search: the attempt at two blanks costs what a failed one does
    ∷ case 9 (4 ∷ 8 ∷ 1 ∷ 1 ∷ 1 ∷ 4 ∷ 2 ∷ 8 ∷ 2 ∷ 2 ∷ 3 ∷ 3 ∷ 1 ∷ 3 ∷ 1 ∷ 1 ∷ []) (1 ∷ 9 ∷ 2 ∷ 2 ∷ 3 ∷ 2 ∷ 0 ∷ 64 ∷ 3 ∷ 65 ∷ 0 ∷ 2 ∷ 2 ∷ 1 ∷ 65 ∷ 0 ∷ []) (0 ∷ 0 ∷ 1 ∷ 0 ∷ 2 ∷ 0 ∷ 3 ∷ 0 ∷ 3 ∷ 0 ∷ 1 ∷ 0 ∷ 2 ∷ 0 ∷ 3 ∷ 5 ∷ 3 ∷ 5 ∷ 1 ∷ 1 ∷ []) (ended done 4 1 (0 ∷ 0 ∷ 1 ∷ 0 ∷ 2 ∷ 0 ∷ 3 ∷ 0 ∷ 3 ∷ 0 ∷ 1 ∷ 0 ∷ 2 ∷ 1 ∷ 3 ∷ 5 ∷ 1 ∷ 1 ∷ []))
    -- T-06
    -- "Each field once": a prefix is added to each of three; a budget of exactly the targets; one more, and one less
    ∷ case 3 prefixes (prefixing 3) three (ended done 3 3 each_once)
    ∷ case 4 prefixes (prefixing 3) three (ended done 3 3 each_once)
    ∷ case 2 prefixes (prefixing 3) three (ended (stopped 40) 2 2 (slip ((9 ∷ 1 ∷ []) ∷ (9 ∷ 2 ∷ []) ∷ (3 ∷ []) ∷ [])))
    -- "under reach 2 these never finish"; under reach 1 only one field is found
    ∷ case 5 prefixes (prefixing 2) three (ended (stopped 40) 5 5 (slip ((9 ∷ 9 ∷ 9 ∷ 9 ∷ 9 ∷ 1 ∷ []) ∷ (2 ∷ []) ∷ (3 ∷ []) ∷ [])))
    ∷ case 5 prefixes (prefixing 1) three (ended done 1 1 (slip ((9 ∷ 1 ∷ []) ∷ (2 ∷ []) ∷ (3 ∷ []) ∷ [])))
    -- "or of 1 where there are none"
    ∷ case 1 prefixes (prefixing 3) (slip []) (ended done 0 0 (slip []))
    -- "a matched tree is replaced and not entered": the field in a field stays; so does one in what is put in place
    ∷ case 2 prefixes (prefixing 3) (slip ((5 ∷ 1 ∷ []) ∷ (2 ∷ []) ∷ [])) (ended done 2 2 (slip ((9 ∷ 5 ∷ 1 ∷ []) ∷ (9 ∷ 2 ∷ []) ∷ [])))
    ∷ case 2 prefixes doubling (slip ((1 ∷ []) ∷ (2 ∷ []) ∷ [])) (ended done 2 2 (slip ((1 ∷ 1 ∷ []) ∷ (2 ∷ 2 ∷ []) ∷ [])))
    ∷ case 2 prefixes shortening (slip ((5 ∷ 6 ∷ 1 ∷ []) ∷ (8 ∷ 2 ∷ []) ∷ [])) (ended done 2 2 (slip ((6 ∷ 1 ∷ []) ∷ (2 ∷ []) ∷ [])))
    -- "an unmatched node's children are tried, left to right": the field in a field that is none to double
    ∷ case 3 prefixes doubling (slip ((5 ∷ 1 ∷ []) ∷ (2 ∷ []) ∷ [])) (ended done 3 2 (slip ((5 ∷ 1 ∷ 1 ∷ []) ∷ (2 ∷ 2 ∷ []) ∷ [])))
    -- the rest of a sequence: in a matched one it is not tried, in an unmatched one it is, also where it is empty
    ∷ case 9 numbers (1 ∷ 9 ∷ 1 ∷ 3 ∷ 3 ∷ 1 ∷ 0 ∷ 64 ∷ 2 ∷ 64 ∷ 1 ∷ 1 ∷ 65 ∷ 1 ∷ []) (list (1 ∷ 2 ∷ 3 ∷ [])) (ended done 1 1 (list (2 ∷ 3 ∷ [])))
    ∷ case 9 lists (1 ∷ 9 ∷ 1 ∷ 3 ∷ 3 ∷ 1 ∷ 0 ∷ 2 ∷ 5 ∷ 64 ∷ 1 ∷ 1 ∷ 65 ∷ 0 ∷ []) (list (4 ∷ 5 ∷ 5 ∷ 6 ∷ [])) (ended done 2 1 (list (4 ∷ 5 ∷ 6 ∷ [])))
    ∷ case 9 numbers (1 ∷ 9 ∷ 1 ∷ 3 ∷ 1 ∷ 1 ∷ 1 ∷ 3 ∷ 1 ∷ 0 ∷ 2 ∷ 9 ∷ 1 ∷ 1 ∷ []) (list (4 ∷ [])) (ended done 2 1 (list (4 ∷ 9 ∷ [])))
    -- a match at the scope's root ends the pass
    ∷ case 9 levels (1 ∷ 9 ∷ 0 ∷ 3 ∷ 2 ∷ 0 ∷ 0 ∷ 64 ∷ 0 ∷ 1 ∷ 65 ∷ 0 ∷ []) (0 ∷ 0 ∷ 0 ∷ 0 ∷ 0 ∷ 1 ∷ []) (ended done 1 1 (0 ∷ 0 ∷ 0 ∷ 1 ∷ []))
    -- "a matched tree is replaced", at once: a stop in the second replacement keeps the first; 45, and 42 over the scope as it then is
    ∷ case 9 numbers (1 ∷ 9 ∷ 2 ∷ 3 ∷ 1 ∷ 64 ∷ 2 ∷ 4 ∷ 66 ∷ 0 ∷ 1 ∷ 0 ∷ 1002 ∷ 1 ∷ 65 ∷ 0 ∷ []) (list (3 ∷ 0 ∷ 5 ∷ [])) (ended (stopped 45) 2 1 (list (100 ∷ 0 ∷ 5 ∷ [])))
    ∷ large 999 prefixes (prefixing 3) (slip (replicate 681 (1 ∷ []))) (ended (stopped 42) 2 1 (slip ((9 ∷ 1 ∷ []) ∷ replicate 680 (1 ∷ []))))
    -- .. and 43: a field with 59 prefixes takes one more, one with 60 does not
    ∷ case 9 prefixes (prefixing 3) (slip ((1 ∷ []) ∷ replicate 60 5 ∷ [])) (ended done 2 2 (slip ((9 ∷ 1 ∷ []) ∷ (9 ∷ replicate 60 5) ∷ [])))
    ∷ case 9 prefixes (prefixing 3) (slip ((1 ∷ []) ∷ replicate 61 5 ∷ [])) (ended (stopped 43) 2 1 (slip ((9 ∷ 1 ∷ []) ∷ replicate 61 5 ∷ [])))
    -- "Conditions may have it too and then act as reach 1": a condition, and a rule with a replacement that acts as one
    ∷ case 9 numbers (2 ∷ 12 ∷ 0 ∷ 1 ∷ 64 ∷ 0 ∷ 1 ∷ 8 ∷ 3 ∷ 66 ∷ 0 ∷ 1 ∷ 0 ∷ 1 ∷ 0 ∷ 2 ∷ 0 ∷ 0 ∷ 1 ∷ 1 ∷ 1 ∷ 2 ∷ 3 ∷ 1 ∷ 2 ∷ 5 ∷ []) (list (4 ∷ 5 ∷ 5 ∷ [])) (ended done 3 1 (list []))
    ∷ case 9 numbers (2 ∷ 12 ∷ 0 ∷ 1 ∷ 64 ∷ 0 ∷ 1 ∷ 8 ∷ 3 ∷ 66 ∷ 0 ∷ 1 ∷ 0 ∷ 1 ∷ 0 ∷ 2 ∷ 0 ∷ 0 ∷ 1 ∷ 1 ∷ 9 ∷ 2 ∷ 3 ∷ 1 ∷ 2 ∷ 5 ∷ 1 ∷ 2 ∷ 5 ∷ []) (list (4 ∷ 5 ∷ 5 ∷ [])) (ended done 3 1 (list []))
    -- in a group: one pass over the copy, whose replacements are not counted; its parameters stay to the end of the pass
    ∷ case 9 numbers (2 ∷ 8 ∷ 0 ∷ 2 ∷ 0 ∷ 0 ∷ 64 ∷ 1 ∷ 4 ∷ 0 ∷ 0 ∷ 66 ∷ 0 ∷ 1 ∷ 0 ∷ 1 ∷ 0 ∷ 9 ∷ 2 ∷ 3 ∷ 1 ∷ 2 ∷ 200 ∷ 1 ∷ 2 ∷ 4200 ∷ []) (list (200 ∷ 500 ∷ 200 ∷ [])) (ended done 4 1 (list (4200 ∷ 500 ∷ 4200 ∷ [])))
    ∷ case 9 numbers (2 ∷ 8 ∷ 0 ∷ 4 ∷ 0 ∷ 0 ∷ 1 ∷ 0 ∷ 64 ∷ 2 ∷ 64 ∷ 1 ∷ 7 ∷ 0 ∷ 0 ∷ 1 ∷ 0 ∷ 65 ∷ 0 ∷ 66 ∷ 1 ∷ 1 ∷ 0 ∷ 1 ∷ 1 ∷ 65 ∷ 0 ∷ 11 ∷ 2 ∷ 3 ∷ 1 ∷ 2 ∷ 1 ∷ 64 ∷ 2 ∷ 1 ∷ 65 ∷ 0 ∷ []) (list (7 ∷ 1 ∷ 2 ∷ [])) (ended done 3 1 (list (7 ∷ 7 ∷ 7 ∷ [])))
    -- reach 4, and 0
    ∷ case 3 prefixes (prefixing 4) three (refused 21 3)
    ∷ case 3 prefixes (prefixing 0) three (refused 21 3)
    -- T-09: budgets that are spent, the one that is enough, and the greatest. A number that grows until it is too great; 42.00 for 2.00
    ∷ case 1 numbers added_to_itself (list (1200000000 ∷ [])) (ended (stopped 40) 1 1 (list (2400000000 ∷ [])))
    ∷ case 2 numbers added_to_itself (list (1200000000 ∷ [])) (ended (stopped 45) 2 1 (list (2400000000 ∷ [])))
    ∷ case 1000000 numbers added_to_itself (list (1200000000 ∷ [])) (ended (stopped 45) 2 1 (list (2400000000 ∷ [])))
    ∷ case 1000000 numbers to_forty_two two_and_five (ended done 3 1 (list (4200 ∷ 500 ∷ [])))
    -- 1 to 5, in this order
    ∷ over 6143 16383 0 [] [] [] (refused 1 0)
    ∷ over 6144 16383 0 [] [] [] (refused 2 0)
    ∷ over 6144 16384 0 (replicate 4097 0) [] [] (refused 3 0)
    ∷ over 6144 16384 1 (replicate 4097 0) (replicate 16385 0) [] (refused 4 0)
    ∷ over 6144 16384 1 [] (replicate 16385 0) [] (refused 5 0)
    -- longer memories change nothing
    ∷ over 7000 20000 3 numbers to_forty_two two_and_five (ended done 3 1 (list (4200 ∷ 500 ∷ [])))
    ∷ []

right : found table ≡ given table
unfolding Reader.word Reader.word_in Reader.many Reader.end Views.equal_words Grammar.types_of Grammar.field Grammar.element Grammar.form Grammar.kind Grammar.grammar Grammar.all_known Grammar.any_form_known Grammar.finishes Grammar.round Grammar.rounds Grammar.finite Grammar.finite_records Grammar.read_grammar Grammar.grammar_fits Kinds.kind_of Kinds.allows Kinds.allowed Kinds.children_of Kinds.children Kinds.is_sequence_kind Kinds.is_sequence Kinds.is_number_kind Kinds.is_number Kinds.is_text_kind Kinds.is_text Tree.size Tree.levels_of Tree.levels Tree.nesting_from Tree.nesting Tree.are_trees Tree.is_tree Tree.first Tree.after Tree.type_of Tree.put Blanks.is_blank Blanks.holds_blank Sequences.element_of Sequences.spine Sequences.sequence_of Sequences.elements_in Sequences.elements Sequences.taken_from Dues.pairs Dues.whole Reading.dues_of Reading.meets_node Reading.read_tree_of Slip.uncounted Slip.counted Slip.place_in Slip.in_slip Slip.right_counts Slip.read_slip Rules.operations Rules.applied Rules.shapes Rules.arguments Rules.applications Rules.pairs_in Rules.arguments_written Rules.applications_written Rules.chain_written Rules.unreadable Rules.chain_of Rules.condition_of Rules.pieces_after Rules.pieces Layout.strategy_of Layout.stretch Layout.field Layout.pairs Layout.variable_at Layout.deconstruct_fields Layout.condition_fields Layout.part_of Layout.reach Layout.replacement Layout.main_fits Layout.main_bits Layout.type_field Layout.search_fields Layout.construct_fields Layout.part_at Layout.part Layout.parameters Layout.head_fields Layout.head Layout.parts Layout.rule Layout.layout Layout.read_layout Layout.rules_fit Wanted.wants Typing.may_stand Typing.is_some Typing.applies_rule Typing.applies_operation Typing.fits_scope Typing.operates_on Typing.usable Typing.wanted_by_edit Typing.wanted_by_operation Typing.wanted_by Typing.new_variable Typing.variable Typing.chain Typing.node Typing.meets Typing.typed Typing.variable_there Typing.part_typed Typing.parts_typed Typing.rule_typed Typing.main_target Typing.rules_typed Typing.read_rules Computation.then_of Computation.spend_of Computation.spend Computation.stop_unless Computation.surely Computation.check Computation.present Computation.choose Computation.whether Computation.nodes_within Computation.nesting_within Computation.live_within Rounding.half_even Operations.rounded Operations.truncated Operations.in_range Operations.divisor Operations.with_one Operations.with_none Operations.compute Operations.compare Operations.value_of Operations.values_of Operations.with_value Operations.is_number_token Operations.are_number_tokens Edits.position Edits.selected Edits.joined Edits.with_one Edits.with_two Edits.edited Edits.is_sequence_tree Edits.each Edits.edit_fits Edits.edit Meaning.total Meaning.variable Meaning.variables Meaning.same_tree Meaning.bind Meaning.match Meaning.match_first Meaning.are_trees_of Meaning.fits Meaning.begin Meaning.result_as Meaning.result_of Meaning.opened Meaning.after_round Meaning.apply Meaning.apply_chain Meaning.fill Meaning.finish Meaning.succeeds Meaning.any_succeeds Meaning.part Meaning.parts Meaning.attempt Meaning.seek Meaning.replace Meaning.turn Meaning.rounds Meaning.call_with Meaning.call Meaning.call_matches Meaning.calls Meaning.run_from Meaning.run Outcome.call_fits Outcome.decode Outcome.ended_as Outcome.outcome_of Outcome.outcome Cases.counting Cases.counting_in Cases.plain_of Cases.plainly Cases.given Cases.found numbers to_forty_two two_and_five elements list lists sequences levels times fields names own_account both alike blank prefixes prefixed rows slip prefixing added_to_itself three each_once doubling shortening table
right = refl

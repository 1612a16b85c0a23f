-- "The two-to-forty-two bench": its cases, from words to the whole outcome, refusals included, and the words to post: one table, one proof. Memories are as
-- short as they may be. Assumes nothing.
use Rattle.std.specs.Prelude.{◌≡◌, refl, List, [], ◌∷◌, true, false}
use Rattle.words.specs.Reader.{Words}
use Rattle.meaning.specs.Meaning.{done, stopped}
use Rattle.meaning.specs.Outcome.{Outcome, refused, ended, outcome, output}
use Rattle.meaning.specs.Cases.{Case, in_words, given, found}
use Rattle.words.specs.Reader as Reader
use Rattle.words.specs.Views as Views
use Rattle.grammar.specs.Grammar as Grammar
use Rattle.grammar.specs.Kinds as Kinds
use Rattle.tree.specs.Tree as Tree
use Rattle.tree.specs.Blanks as Blanks
use Rattle.tree.specs.Sequences as Sequences
use Rattle.tree.specs.Dues as Dues
use Rattle.tree.specs.Reading as Reading
use Rattle.tree.specs.Slip as Slip
use Rattle.rules.specs.Rules as Rules
use Rattle.rules.specs.Layout as Layout
use Rattle.judgement.specs.Wanted as Wanted
use Rattle.judgement.specs.Typing as Typing
use Rattle.meaning.specs.Computation as Computation
use Rattle.meaning.specs.Rounding as Rounding
use Rattle.meaning.specs.Operations as Operations
use Rattle.meaning.specs.Edits as Edits
use Rattle.meaning.specs.Meaning as Meaning
use Rattle.meaning.specs.Outcome as Outcome
use Rattle.meaning.specs.Cases as Cases

-- "Grammar 3 8 1 1 1 4 2 1 2 (program of repeat number). Book 1 9 2 2 1 2 200 1 2 4200. Slip 0 0 1 0 2 200 1 0 2 500 1 1, that is 2.00, 5.00", by T-07 "0 0 6, 1 0 5,
-- 2 200 1, 1 0 3, 2 500 1, 1 1 1", and "Variants of it": those with *, and the others of the list
table : List Case
table =
    -- "budget 3: as above"
    in_words 3 (3 ∷ 8 ∷ 1 ∷ 1 ∷ 1 ∷ 4 ∷ 2 ∷ 1 ∷ 2 ∷ []) (1 ∷ 9 ∷ 2 ∷ 2 ∷ 1 ∷ 2 ∷ 200 ∷ 1 ∷ 2 ∷ 4200 ∷ []) (0 ∷ 0 ∷ 6 ∷ 1 ∷ 0 ∷ 5 ∷ 2 ∷ 200 ∷ 1 ∷ 1 ∷ 0 ∷ 3 ∷ 2 ∷ 500 ∷ 1 ∷ 1 ∷ 1 ∷ 1 ∷ []) (ended done 3 1 (0 ∷ 0 ∷ 6 ∷ 1 ∷ 0 ∷ 5 ∷ 2 ∷ 4200 ∷ 1 ∷ 1 ∷ 0 ∷ 3 ∷ 2 ∷ 500 ∷ 1 ∷ 1 ∷ 1 ∷ 1 ∷ []))
    -- "Budget 2: stopped 40, 2 trials, same tree"
    ∷ in_words 2 (3 ∷ 8 ∷ 1 ∷ 1 ∷ 1 ∷ 4 ∷ 2 ∷ 1 ∷ 2 ∷ []) (1 ∷ 9 ∷ 2 ∷ 2 ∷ 1 ∷ 2 ∷ 200 ∷ 1 ∷ 2 ∷ 4200 ∷ []) (0 ∷ 0 ∷ 6 ∷ 1 ∷ 0 ∷ 5 ∷ 2 ∷ 200 ∷ 1 ∷ 1 ∷ 0 ∷ 3 ∷ 2 ∷ 500 ∷ 1 ∷ 1 ∷ 1 ∷ 1 ∷ []) (ended (stopped 40) 2 1 (0 ∷ 0 ∷ 6 ∷ 1 ∷ 0 ∷ 5 ∷ 2 ∷ 4200 ∷ 1 ∷ 1 ∷ 0 ∷ 3 ∷ 2 ∷ 500 ∷ 1 ∷ 1 ∷ 1 ∷ 1 ∷ []))
    -- "Budget 1: stopped 40, 1 trial, 1 replacement"
    ∷ in_words 1 (3 ∷ 8 ∷ 1 ∷ 1 ∷ 1 ∷ 4 ∷ 2 ∷ 1 ∷ 2 ∷ []) (1 ∷ 9 ∷ 2 ∷ 2 ∷ 1 ∷ 2 ∷ 200 ∷ 1 ∷ 2 ∷ 4200 ∷ []) (0 ∷ 0 ∷ 6 ∷ 1 ∷ 0 ∷ 5 ∷ 2 ∷ 200 ∷ 1 ∷ 1 ∷ 0 ∷ 3 ∷ 2 ∷ 500 ∷ 1 ∷ 1 ∷ 1 ∷ 1 ∷ []) (ended (stopped 40) 1 1 (0 ∷ 0 ∷ 6 ∷ 1 ∷ 0 ∷ 5 ∷ 2 ∷ 4200 ∷ 1 ∷ 1 ∷ 0 ∷ 3 ∷ 2 ∷ 500 ∷ 1 ∷ 1 ∷ 1 ∷ 1 ∷ []))
    -- "reach 1: done, 1 trial"
    ∷ in_words 3 (3 ∷ 8 ∷ 1 ∷ 1 ∷ 1 ∷ 4 ∷ 2 ∷ 1 ∷ 2 ∷ []) (1 ∷ 9 ∷ 2 ∷ 1 ∷ 1 ∷ 2 ∷ 200 ∷ 1 ∷ 2 ∷ 4200 ∷ []) (0 ∷ 0 ∷ 6 ∷ 1 ∷ 0 ∷ 5 ∷ 2 ∷ 200 ∷ 1 ∷ 1 ∷ 0 ∷ 3 ∷ 2 ∷ 500 ∷ 1 ∷ 1 ∷ 1 ∷ 1 ∷ []) (ended done 1 1 (0 ∷ 0 ∷ 6 ∷ 1 ∷ 0 ∷ 5 ∷ 2 ∷ 4200 ∷ 1 ∷ 1 ∷ 0 ∷ 3 ∷ 2 ∷ 500 ∷ 1 ∷ 1 ∷ 1 ∷ 1 ∷ []))
    -- "Slip 0 0 1 1: done, 0 trials"; with its counts 0 0 2, 1 1 1
    ∷ in_words 3 (3 ∷ 8 ∷ 1 ∷ 1 ∷ 1 ∷ 4 ∷ 2 ∷ 1 ∷ 2 ∷ []) (1 ∷ 9 ∷ 2 ∷ 2 ∷ 1 ∷ 2 ∷ 200 ∷ 1 ∷ 2 ∷ 4200 ∷ []) (0 ∷ 0 ∷ 2 ∷ 1 ∷ 1 ∷ 1 ∷ []) (ended done 0 0 (0 ∷ 0 ∷ 2 ∷ 1 ∷ 1 ∷ 1 ∷ []))
    -- "4200 made 200, budget 7: stopped 40, 7 trials, 7 replacements, slip unchanged"
    ∷ in_words 7 (3 ∷ 8 ∷ 1 ∷ 1 ∷ 1 ∷ 4 ∷ 2 ∷ 1 ∷ 2 ∷ []) (1 ∷ 9 ∷ 2 ∷ 2 ∷ 1 ∷ 2 ∷ 200 ∷ 1 ∷ 2 ∷ 200 ∷ []) (0 ∷ 0 ∷ 6 ∷ 1 ∷ 0 ∷ 5 ∷ 2 ∷ 200 ∷ 1 ∷ 1 ∷ 0 ∷ 3 ∷ 2 ∷ 500 ∷ 1 ∷ 1 ∷ 1 ∷ 1 ∷ []) (ended (stopped 40) 7 7 (0 ∷ 0 ∷ 6 ∷ 1 ∷ 0 ∷ 5 ∷ 2 ∷ 200 ∷ 1 ∷ 1 ∷ 0 ∷ 3 ∷ 2 ∷ 500 ∷ 1 ∷ 1 ∷ 1 ∷ 1 ∷ []))
    -- "replacement 1 1: refused 23 at 8"
    ∷ in_words 3 (3 ∷ 8 ∷ 1 ∷ 1 ∷ 1 ∷ 4 ∷ 2 ∷ 1 ∷ 2 ∷ []) (1 ∷ 9 ∷ 2 ∷ 2 ∷ 1 ∷ 2 ∷ 200 ∷ 1 ∷ 1 ∷ 1 ∷ []) (0 ∷ 0 ∷ 6 ∷ 1 ∷ 0 ∷ 5 ∷ 2 ∷ 200 ∷ 1 ∷ 1 ∷ 0 ∷ 3 ∷ 2 ∷ 500 ∷ 1 ∷ 1 ∷ 1 ∷ 1 ∷ []) (refused 23 8)
    -- "Grammar 1 8 1 1 0: 12 at 1"
    ∷ in_words 3 (1 ∷ 8 ∷ 1 ∷ 1 ∷ 0 ∷ []) (1 ∷ 9 ∷ 2 ∷ 2 ∷ 1 ∷ 2 ∷ 200 ∷ 1 ∷ 2 ∷ 4200 ∷ []) (0 ∷ 0 ∷ 6 ∷ 1 ∷ 0 ∷ 5 ∷ 2 ∷ 200 ∷ 1 ∷ 1 ∷ 0 ∷ 3 ∷ 2 ∷ 500 ∷ 1 ∷ 1 ∷ 1 ∷ 1 ∷ []) (refused 12 1)
    -- "slip 0 0: 31 at 2", moved by T-07: "0 0 1 is 31 at 3"
    ∷ in_words 3 (3 ∷ 8 ∷ 1 ∷ 1 ∷ 1 ∷ 4 ∷ 2 ∷ 1 ∷ 2 ∷ []) (1 ∷ 9 ∷ 2 ∷ 2 ∷ 1 ∷ 2 ∷ 200 ∷ 1 ∷ 2 ∷ 4200 ∷ []) (0 ∷ 0 ∷ 1 ∷ []) (refused 31 3)
    -- "The twelve-word slip with 1 1 added: 31 at 12", moved by T-07: "1 1 1 added is 31 at 18"
    ∷ in_words 3 (3 ∷ 8 ∷ 1 ∷ 1 ∷ 1 ∷ 4 ∷ 2 ∷ 1 ∷ 2 ∷ []) (1 ∷ 9 ∷ 2 ∷ 2 ∷ 1 ∷ 2 ∷ 200 ∷ 1 ∷ 2 ∷ 4200 ∷ []) (0 ∷ 0 ∷ 6 ∷ 1 ∷ 0 ∷ 5 ∷ 2 ∷ 200 ∷ 1 ∷ 1 ∷ 0 ∷ 3 ∷ 2 ∷ 500 ∷ 1 ∷ 1 ∷ 1 ∷ 1 ∷ 1 ∷ 1 ∷ 1 ∷ []) (refused 31 18)
    -- "Number 999,999,999 passes, 1,000,000,000 is 32 at 5", moved by T-02: "4,000,000,000 passes and 4,000,000,001 is refused", "1,000,000,000 now passes"; and by T-07: "a number too large is 32 at 7"
    ∷ in_words 3 (3 ∷ 8 ∷ 1 ∷ 1 ∷ 1 ∷ 4 ∷ 2 ∷ 1 ∷ 2 ∷ []) (1 ∷ 9 ∷ 2 ∷ 2 ∷ 1 ∷ 2 ∷ 200 ∷ 1 ∷ 2 ∷ 4200 ∷ []) (0 ∷ 0 ∷ 6 ∷ 1 ∷ 0 ∷ 5 ∷ 2 ∷ 4000000000 ∷ 1 ∷ 1 ∷ 0 ∷ 3 ∷ 2 ∷ 500 ∷ 1 ∷ 1 ∷ 1 ∷ 1 ∷ []) (ended done 2 0 (0 ∷ 0 ∷ 6 ∷ 1 ∷ 0 ∷ 5 ∷ 2 ∷ 4000000000 ∷ 1 ∷ 1 ∷ 0 ∷ 3 ∷ 2 ∷ 500 ∷ 1 ∷ 1 ∷ 1 ∷ 1 ∷ []))
    ∷ in_words 3 (3 ∷ 8 ∷ 1 ∷ 1 ∷ 1 ∷ 4 ∷ 2 ∷ 1 ∷ 2 ∷ []) (1 ∷ 9 ∷ 2 ∷ 2 ∷ 1 ∷ 2 ∷ 200 ∷ 1 ∷ 2 ∷ 4200 ∷ []) (0 ∷ 0 ∷ 6 ∷ 1 ∷ 0 ∷ 5 ∷ 2 ∷ 4000000001 ∷ 1 ∷ 1 ∷ 0 ∷ 3 ∷ 2 ∷ 500 ∷ 1 ∷ 1 ∷ 1 ∷ 1 ∷ []) (refused 32 7)
    ∷ in_words 3 (3 ∷ 8 ∷ 1 ∷ 1 ∷ 1 ∷ 4 ∷ 2 ∷ 1 ∷ 2 ∷ []) (1 ∷ 9 ∷ 2 ∷ 2 ∷ 1 ∷ 2 ∷ 200 ∷ 1 ∷ 2 ∷ 4200 ∷ []) (0 ∷ 0 ∷ 6 ∷ 1 ∷ 0 ∷ 5 ∷ 2 ∷ 1000000000 ∷ 1 ∷ 1 ∷ 0 ∷ 3 ∷ 2 ∷ 500 ∷ 1 ∷ 1 ∷ 1 ∷ 1 ∷ []) (ended done 2 0 (0 ∷ 0 ∷ 6 ∷ 1 ∷ 0 ∷ 5 ∷ 2 ∷ 1000000000 ∷ 1 ∷ 1 ∷ 0 ∷ 3 ∷ 2 ∷ 500 ∷ 1 ∷ 1 ∷ 1 ∷ 1 ∷ []))
    -- "round 125, 150, 49: 100, 200, 0"
    ∷ in_words 3 (3 ∷ 8 ∷ 1 ∷ 1 ∷ 1 ∷ 4 ∷ 2 ∷ 1 ∷ 2 ∷ []) (1 ∷ 9 ∷ 2 ∷ 1 ∷ 1 ∷ 64 ∷ 2 ∷ 3 ∷ 66 ∷ 0 ∷ 1 ∷ 0 ∷ 1004 ∷ 0 ∷ []) (0 ∷ 0 ∷ 4 ∷ 1 ∷ 0 ∷ 3 ∷ 2 ∷ 125 ∷ 1 ∷ 1 ∷ 1 ∷ 1 ∷ []) (ended done 1 1 (0 ∷ 0 ∷ 4 ∷ 1 ∷ 0 ∷ 3 ∷ 2 ∷ 100 ∷ 1 ∷ 1 ∷ 1 ∷ 1 ∷ []))
    ∷ in_words 3 (3 ∷ 8 ∷ 1 ∷ 1 ∷ 1 ∷ 4 ∷ 2 ∷ 1 ∷ 2 ∷ []) (1 ∷ 9 ∷ 2 ∷ 1 ∷ 1 ∷ 64 ∷ 2 ∷ 3 ∷ 66 ∷ 0 ∷ 1 ∷ 0 ∷ 1004 ∷ 0 ∷ []) (0 ∷ 0 ∷ 4 ∷ 1 ∷ 0 ∷ 3 ∷ 2 ∷ 150 ∷ 1 ∷ 1 ∷ 1 ∷ 1 ∷ []) (ended done 1 1 (0 ∷ 0 ∷ 4 ∷ 1 ∷ 0 ∷ 3 ∷ 2 ∷ 200 ∷ 1 ∷ 1 ∷ 1 ∷ 1 ∷ []))
    ∷ in_words 3 (3 ∷ 8 ∷ 1 ∷ 1 ∷ 1 ∷ 4 ∷ 2 ∷ 1 ∷ 2 ∷ []) (1 ∷ 9 ∷ 2 ∷ 1 ∷ 1 ∷ 64 ∷ 2 ∷ 3 ∷ 66 ∷ 0 ∷ 1 ∷ 0 ∷ 1004 ∷ 0 ∷ []) (0 ∷ 0 ∷ 4 ∷ 1 ∷ 0 ∷ 3 ∷ 2 ∷ 49 ∷ 1 ∷ 1 ∷ 1 ∷ 1 ∷ []) (ended done 1 1 (0 ∷ 0 ∷ 4 ∷ 1 ∷ 0 ∷ 3 ∷ 2 ∷ 0 ∷ 1 ∷ 1 ∷ 1 ∷ 1 ∷ []))
    -- T-01: "150 gives 200, 250 gives 200, 50 gives 0, and 125 and 175 give 100 and 200 as before" (125 and 150 above)
    ∷ in_words 3 (3 ∷ 8 ∷ 1 ∷ 1 ∷ 1 ∷ 4 ∷ 2 ∷ 1 ∷ 2 ∷ []) (1 ∷ 9 ∷ 2 ∷ 1 ∷ 1 ∷ 64 ∷ 2 ∷ 3 ∷ 66 ∷ 0 ∷ 1 ∷ 0 ∷ 1004 ∷ 0 ∷ []) (0 ∷ 0 ∷ 4 ∷ 1 ∷ 0 ∷ 3 ∷ 2 ∷ 250 ∷ 1 ∷ 1 ∷ 1 ∷ 1 ∷ []) (ended done 1 1 (0 ∷ 0 ∷ 4 ∷ 1 ∷ 0 ∷ 3 ∷ 2 ∷ 200 ∷ 1 ∷ 1 ∷ 1 ∷ 1 ∷ []))
    ∷ in_words 3 (3 ∷ 8 ∷ 1 ∷ 1 ∷ 1 ∷ 4 ∷ 2 ∷ 1 ∷ 2 ∷ []) (1 ∷ 9 ∷ 2 ∷ 1 ∷ 1 ∷ 64 ∷ 2 ∷ 3 ∷ 66 ∷ 0 ∷ 1 ∷ 0 ∷ 1004 ∷ 0 ∷ []) (0 ∷ 0 ∷ 4 ∷ 1 ∷ 0 ∷ 3 ∷ 2 ∷ 50 ∷ 1 ∷ 1 ∷ 1 ∷ 1 ∷ []) (ended done 1 1 (0 ∷ 0 ∷ 4 ∷ 1 ∷ 0 ∷ 3 ∷ 2 ∷ 0 ∷ 1 ∷ 1 ∷ 1 ∷ 1 ∷ []))
    ∷ in_words 3 (3 ∷ 8 ∷ 1 ∷ 1 ∷ 1 ∷ 4 ∷ 2 ∷ 1 ∷ 2 ∷ []) (1 ∷ 9 ∷ 2 ∷ 1 ∷ 1 ∷ 64 ∷ 2 ∷ 3 ∷ 66 ∷ 0 ∷ 1 ∷ 0 ∷ 1004 ∷ 0 ∷ []) (0 ∷ 0 ∷ 4 ∷ 1 ∷ 0 ∷ 3 ∷ 2 ∷ 175 ∷ 1 ∷ 1 ∷ 1 ∷ 1 ∷ []) (ended done 1 1 (0 ∷ 0 ∷ 4 ∷ 1 ∷ 0 ∷ 3 ∷ 2 ∷ 200 ∷ 1 ∷ 1 ∷ 1 ∷ 1 ∷ []))
    -- "Round 999,999,950: stop 45", moved by T-02: "999,999,950 rounds to it", to 1,000,000,000
    ∷ in_words 3 (3 ∷ 8 ∷ 1 ∷ 1 ∷ 1 ∷ 4 ∷ 2 ∷ 1 ∷ 2 ∷ []) (1 ∷ 9 ∷ 2 ∷ 1 ∷ 1 ∷ 64 ∷ 2 ∷ 3 ∷ 66 ∷ 0 ∷ 1 ∷ 0 ∷ 1004 ∷ 0 ∷ []) (0 ∷ 0 ∷ 4 ∷ 1 ∷ 0 ∷ 3 ∷ 2 ∷ 999999950 ∷ 1 ∷ 1 ∷ 1 ∷ 1 ∷ []) (ended done 1 1 (0 ∷ 0 ∷ 4 ∷ 1 ∷ 0 ∷ 3 ∷ 2 ∷ 1000000000 ∷ 1 ∷ 1 ∷ 1 ∷ 1 ∷ []))
    -- "1000 quotient 300: 300"
    ∷ in_words 3 (3 ∷ 8 ∷ 1 ∷ 1 ∷ 1 ∷ 4 ∷ 2 ∷ 1 ∷ 2 ∷ []) (1 ∷ 9 ∷ 1 ∷ 1 ∷ 5 ∷ 1 ∷ 0 ∷ 64 ∷ 2 ∷ 1 ∷ 0 ∷ 64 ∷ 2 ∷ 64 ∷ 1 ∷ 6 ∷ 1 ∷ 0 ∷ 66 ∷ 0 ∷ 1 ∷ 0 ∷ 1002 ∷ 1 ∷ 65 ∷ 1 ∷ 65 ∷ 2 ∷ []) (0 ∷ 0 ∷ 6 ∷ 1 ∷ 0 ∷ 5 ∷ 2 ∷ 1000 ∷ 1 ∷ 1 ∷ 0 ∷ 3 ∷ 2 ∷ 300 ∷ 1 ∷ 1 ∷ 1 ∷ 1 ∷ []) (ended done 1 1 (0 ∷ 0 ∷ 4 ∷ 1 ∷ 0 ∷ 3 ∷ 2 ∷ 300 ∷ 1 ∷ 1 ∷ 1 ∷ 1 ∷ []))
    ∷ []

-- the words to post, with a result of five words and the words 0 0 1 1 for the slip: done with four filled, stopped with four, done with five, done with six
posted : List Words
posted =
    output true 4 (8 ∷ 8 ∷ 9 ∷ 9 ∷ 7 ∷ []) (0 ∷ 0 ∷ 1 ∷ 1 ∷ [])
    ∷ output false 4 (8 ∷ 8 ∷ 9 ∷ 9 ∷ 7 ∷ []) (0 ∷ 0 ∷ 1 ∷ 1 ∷ [])
    ∷ output true 5 (8 ∷ 8 ∷ 9 ∷ 9 ∷ 7 ∷ []) (0 ∷ 0 ∷ 1 ∷ 1 ∷ [])
    ∷ output true 6 (8 ∷ 8 ∷ 9 ∷ 9 ∷ 7 ∷ []) (0 ∷ 0 ∷ 1 ∷ 1 ∷ [])
    ∷ []

right : (found table ≡ given table) × (posted ≡ (8 ∷ 8 ∷ 9 ∷ 9 ∷ []) ∷ (0 ∷ 0 ∷ 1 ∷ 1 ∷ []) ∷ (8 ∷ 8 ∷ 9 ∷ 9 ∷ 7 ∷ []) ∷ (0 ∷ 0 ∷ 1 ∷ 1 ∷ []) ∷ [])
unfolding Reader.word Reader.word_in Reader.many Reader.end Views.equal_words Grammar.types_of Grammar.field Grammar.element Grammar.form Grammar.kind Grammar.grammar Grammar.all_known Grammar.any_form_known Grammar.finishes Grammar.round Grammar.rounds Grammar.finite Grammar.finite_records Grammar.read_grammar Grammar.grammar_fits Kinds.kind_of Kinds.allows Kinds.allowed Kinds.children_of Kinds.children Kinds.is_sequence_kind Kinds.is_sequence Kinds.is_number_kind Kinds.is_number Kinds.is_text_kind Kinds.is_text Tree.size Tree.levels_of Tree.levels Tree.nesting_from Tree.nesting Tree.are_trees Tree.is_tree Tree.first Tree.after Tree.type_of Tree.put Blanks.is_blank Blanks.holds_blank Sequences.element_of Sequences.spine Sequences.sequence_of Sequences.elements_in Sequences.elements Sequences.taken_from Dues.pairs Dues.whole Reading.dues_of Reading.meets_node Reading.read_tree_of Slip.uncounted Slip.counted Slip.place_in Slip.in_slip Slip.right_counts Slip.read_slip Rules.operations Rules.applied Rules.shapes Rules.arguments Rules.applications Rules.pairs_in Rules.arguments_written Rules.applications_written Rules.chain_written Rules.unreadable Rules.chain_of Rules.condition_of Rules.pieces_after Rules.pieces Layout.strategy_of Layout.stretch Layout.field Layout.pairs Layout.variable_at Layout.deconstruct_fields Layout.condition_fields Layout.part_of Layout.reach Layout.replacement Layout.main_fits Layout.main_bits Layout.type_field Layout.search_fields Layout.construct_fields Layout.part_at Layout.part Layout.parameters Layout.head_fields Layout.head Layout.parts Layout.rule Layout.layout Layout.read_layout Layout.rules_fit Wanted.wants Typing.may_stand Typing.is_some Typing.applies_rule Typing.applies_operation Typing.fits_scope Typing.operates_on Typing.usable Typing.wanted_by_edit Typing.wanted_by_operation Typing.wanted_by Typing.new_variable Typing.variable Typing.chain Typing.node Typing.meets Typing.typed Typing.variable_there Typing.part_typed Typing.parts_typed Typing.rule_typed Typing.main_target Typing.rules_typed Typing.read_rules Computation.then_of Computation.spend_of Computation.spend Computation.stop_unless Computation.surely Computation.check Computation.present Computation.choose Computation.whether Computation.nodes_within Computation.nesting_within Computation.live_within Rounding.half_even Operations.rounded Operations.truncated Operations.in_range Operations.divisor Operations.with_one Operations.with_none Operations.compute Operations.compare Operations.value_of Operations.values_of Operations.with_value Operations.is_number_token Operations.are_number_tokens Edits.position Edits.selected Edits.joined Edits.with_one Edits.with_two Edits.edited Edits.is_sequence_tree Edits.each Edits.edit_fits Edits.edit Meaning.total Meaning.variable Meaning.variables Meaning.same_tree Meaning.bind Meaning.match Meaning.match_first Meaning.are_trees_of Meaning.fits Meaning.begin Meaning.result_as Meaning.result_of Meaning.opened Meaning.after_round Meaning.apply Meaning.apply_chain Meaning.fill Meaning.finish Meaning.succeeds Meaning.any_succeeds Meaning.part Meaning.parts Meaning.attempt Meaning.seek Meaning.replace Meaning.turn Meaning.rounds Meaning.call_with Meaning.call Meaning.call_matches Meaning.calls Meaning.run_from Meaning.run Outcome.call_fits Outcome.decode Outcome.ended_as Outcome.outcome_of Outcome.outcome Outcome.output Cases.counting Cases.counting_in Cases.plain_of Cases.plainly Cases.given Cases.found table posted
right = (refl, refl)

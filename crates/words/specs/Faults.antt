-- The numbers of the refusals: "Where each refusal is checked". Assumes nothing: these are definitions.
use Rattle.std.specs.Prelude.{ℕ, ◌≡◌, refl, ◌==◌, if◌then◌else◌}
use Rattle.words.specs.declared.refusal.Fault.{Fault}
use Rattle.words.specs.declared.refusal.Fault.TheVariants.{ShortResult, ShortWork, Budget, LongGrammar, LongBook, GrammarEnds, GrammarWord, NoFiniteTree, BookEnds, BookWord, NotUsable, Misplaced, NoRoom, SlipLength, SlipEnds, SlipWord, SlipNesting, SlipCount, TableWord, TableMisfit, Numbered}

-- "No.", 1 to 34; 60 and 61 by T-08
abbrev pub number_of : Fault → ℕ
number_of ShortResult = 1
number_of ShortWork = 2
number_of Budget = 3
number_of LongGrammar = 4
number_of LongBook = 5
number_of GrammarEnds = 10
number_of GrammarWord = 11
number_of NoFiniteTree = 12
number_of BookEnds = 20
number_of BookWord = 21
number_of NotUsable = 22
number_of Misplaced = 23
number_of NoRoom = 24
number_of SlipLength = 30
number_of SlipEnds = 31
number_of SlipWord = 32
number_of SlipNesting = 33
number_of SlipCount = 34
number_of TableWord = 60
number_of TableMisfit = 61
number_of (Numbered n) = n

-- the fault has a name of its own
abbrev pub Named : Fault → Type 0
Named f = (n : ℕ) → f ≡ Numbered n → ⊥

-- the fault that a number names
abbrev pub fault_of : ℕ → Fault
fault_of n =
    if n == 1 then ShortResult else
    if n == 2 then ShortWork else
    if n == 3 then Budget else
    if n == 4 then LongGrammar else
    if n == 5 then LongBook else
    if n == 10 then GrammarEnds else
    if n == 11 then GrammarWord else
    if n == 12 then NoFiniteTree else
    if n == 20 then BookEnds else
    if n == 21 then BookWord else
    if n == 22 then NotUsable else
    if n == 23 then Misplaced else
    if n == 24 then NoRoom else
    if n == 30 then SlipLength else
    if n == 31 then SlipEnds else
    if n == 32 then SlipWord else
    if n == 33 then SlipNesting else
    if n == 34 then SlipCount else
    if n == 60 then TableWord else
    if n == 61 then TableMisfit else
    Numbered n

-- each number names its fault
pub fault_of-number_of : (f : Fault) → Named f → fault_of (number_of f) ≡ f
fault_of-number_of ShortResult h = refl
fault_of-number_of ShortWork h = refl
fault_of-number_of Budget h = refl
fault_of-number_of LongGrammar h = refl
fault_of-number_of LongBook h = refl
fault_of-number_of GrammarEnds h = refl
fault_of-number_of GrammarWord h = refl
fault_of-number_of NoFiniteTree h = refl
fault_of-number_of BookEnds h = refl
fault_of-number_of BookWord h = refl
fault_of-number_of NotUsable h = refl
fault_of-number_of Misplaced h = refl
fault_of-number_of NoRoom h = refl
fault_of-number_of SlipLength h = refl
fault_of-number_of SlipEnds h = refl
fault_of-number_of SlipWord h = refl
fault_of-number_of SlipNesting h = refl
fault_of-number_of SlipCount h = refl
fault_of-number_of TableWord h = refl
fault_of-number_of TableMisfit h = refl
fault_of-number_of (Numbered n) h = absurd (h n refl)

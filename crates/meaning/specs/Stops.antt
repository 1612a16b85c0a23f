-- The numbers of the stops.
use Rattle.std.specs.Prelude.{ℕ, ◌≡◌, refl, ◌==◌, if◌then◌else◌}
use Rattle.meaning.specs.declared.Stop.{Stop}
use Rattle.meaning.specs.declared.Stop.TheVariants.{BudgetSpent, CallsTooDeep, TooManyNodes, NestsTooDeep, TooManyLiveNodes, OutOfRange}

-- "run (a stop)", 40 to 45: the number of each cause
abbrev pub number_of : Stop → ℕ
-- "a trial is due and the budget is spent"
number_of BudgetSpent = 40
-- "a 33rd nested call, main being the first"
number_of CallsTooDeep = 41
-- "a tree would pass 2,048 nodes"
number_of TooManyNodes = 42
-- "a finished tree's nesting would pass 64"
number_of NestsTooDeep = 43
-- "held nodes would pass 6,144"
number_of TooManyLiveNodes = 44
-- "an operation's result under 0 or over 999,999,999, or divisor 0"; over 4,000,000,000 by T-02
number_of OutOfRange = 45

-- the cause that a number names
abbrev pub stop_of : ℕ → Stop
stop_of n =
    if n == 40 then BudgetSpent else
    if n == 41 then CallsTooDeep else
    if n == 42 then TooManyNodes else
    if n == 43 then NestsTooDeep else
    if n == 44 then TooManyLiveNodes else
    OutOfRange

-- each number names its stop
pub stop_of-number_of : (s : Stop) → stop_of (number_of s) ≡ s
stop_of-number_of BudgetSpent = refl
stop_of-number_of CallsTooDeep = refl
stop_of-number_of TooManyNodes = refl
stop_of-number_of NestsTooDeep = refl
stop_of-number_of TooManyLiveNodes = refl
stop_of-number_of OutOfRange = refl

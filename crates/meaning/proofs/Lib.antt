-- The soundness of the meaning, from words too, the claim about a list of runs, what rounding is, that round never stops, what operations on sequences make, what a variable in a
-- pattern matches, and what a one-pass rule costs.
pub mod Safe
pub mod Matching
pub mod Numbers
pub mod Edits
pub mod Level
pub mod Sound
pub mod FromWords
pub mod Runs
pub mod Related
pub mod Numbered
pub mod Rounding
pub mod RoundNeverStops
pub mod EditsTyped
pub mod SameExactly
pub mod OnePass
pub mod Budget

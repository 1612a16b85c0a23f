-- Where a search ended, and what a part searches for, as the code has them. Assumes nothing: these are definitions.
use Rattle.std.specs.Prelude.{ℕ, Option, Result}

-- at a node, by its number in the scope; nowhere; or by a stop
abbrev pub Place : Type 0
Place = Result (Option ℕ) ℕ

-- the type of the nodes that a part searches for, if it searches
abbrev pub Searched : Type 0
Searched = Option ℕ

-- the stop of a call, if it was stopped
abbrev pub Halted : Type 0
Halted = Option ℕ

-- The limits of a run, each named once; those of grammars, trees and rules stand with them. Assumes nothing: these are definitions.
use Rattle.std.specs.Prelude.{ℕ}

-- 41: "a 33rd nested call, main being the first"
abbrev pub most_calls : ℕ
most_calls = 32

-- 44: "held nodes would pass 6,144"
abbrev pub most_live : ℕ
most_live = 6144

-- 3: "budget 0 or over 1,000,000"
abbrev pub most_budget : ℕ
most_budget = 1000000

-- 1: "result under 4,096 words"; T-07: "the result needs 6,144"
abbrev pub least_result : ℕ
least_result = 6144

-- 2: "work under 16,384 words"
abbrev pub least_work : ℕ
least_work = 16384

-- A LARGER BUDGET, stated: proofs/Budget.antt proves it. Assumes nothing: these are definitions.
use Rattle.std.specs.Prelude.{ℕ, ◌≤◌, ◌≡◌}
use Rattle.words.specs.Reader.{Words}
use Rattle.meaning.specs.Limits.{most_budget}
use Rattle.meaning.specs.Meaning.{Ending, stopped}
use Rattle.meaning.specs.Outcome.{Inputs, Outcome, refused, ended, outcome}

-- "with all else the same"
abbrev pub with_budget : ℕ → Inputs → Inputs
with_budget budget x = record { budget = budget; grammar = x.grammar; rules = x.rules; slip = x.slip }

-- the outcome under a budget, and the one under a larger budget
pub record Larger (o o' : Outcome) : Type 0 where
  -- "a run that ends in any way other than 40 gives the same ending, tree, trials and replacements"
  pub endings : (e : Ending) (attempts replacements : ℕ) (ws : Words) → o ≡ ended e attempts replacements ws → (e ≡ stopped 40 → ⊥) → o' ≡ o
  -- .. what is refused is refused the same, unless it was the budget itself, by 3
  pub refusals : (n p : ℕ) → o ≡ refused n p → (n ≡ 3 → ⊥) → o' ≡ o
  -- .. and what is not refused, 40 included, is not refused
  pub passes : (e : Ending) (attempts replacements : ℕ) (ws : Words) → o ≡ ended e attempts replacements ws → (n p : ℕ) → o' ≡ refused n p → ⊥

-- .. "under every larger budget allowed"
abbrev pub LargerBudgets : Type 0
LargerBudgets = (result work : ℕ) (x : Inputs) (budget : ℕ) → x.budget ≤ budget → budget ≤ most_budget → Larger (outcome result work x) (outcome result work (with_budget budget x))

-- "a run ending in 40 has made exactly as many trials as its budget"
abbrev pub FortySpendsAll : Type 0
FortySpendsAll = (result work : ℕ) (x : Inputs) (attempts replacements : ℕ) (ws : Words) → outcome result work x ≡ ended (stopped 40) attempts replacements ws → attempts ≡ x.budget

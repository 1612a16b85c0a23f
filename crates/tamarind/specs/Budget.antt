-- A LARGER BUDGET, of `run` and `tamarind_run` themselves: what raising it can change of an answer. proofs/Budget.antt proves it. Assumes nothing: these are definitions.
use Rattle.std.specs.Prelude.{◌≤◌, ◌≡◌, length}
use Rattle.meaning.specs.Limits.{most_budget}
use Rattle.meaning.specs.Runs.{Memories}
use Rattle.meaning.specs.Budget.{with_budget}
use Rattle.tamarind.specs.declared.RunAnswer.{RunAnswer}
use Rattle.tamarind.specs.Pad.{fields, PadRun, RunOn, filled_words}

-- "ending or refusal, number, position, trials, replacements, filled count" of a run's answer
abbrev pub answered : PadRun → RunAnswer
answered r = fields r.by r.answer

-- "a run ending in 40": stopped by that number
pub record OutOfBudget (a : RunAnswer) : Type 0 where
  pub ending : a.ending ≡ 1
  pub number : a.number ≡ 40

-- refused by 3: the budget itself is not allowed
pub record BudgetNotAllowed (a : RunAnswer) : Type 0 where
  pub ending : a.ending ≡ 2
  pub number : a.number ≡ 3

-- "with all else the same", "under every larger budget allowed": two runs at any places of any lists, and the memories before each, of which only the lengths matter
pub record Raises (before before' : Memories) (r r' : PadRun) : Type 0 where
  pub inputs : r'.inputs ≡ with_budget r'.inputs.budget r.inputs
  pub larger : r.inputs.budget ≤ r'.inputs.budget
  pub allowed : r'.inputs.budget ≤ most_budget
  pub results : length before'.result ≡ length before.result
  pub works : length before'.work ≡ length before.work

-- the same answer, the same filled words and, where the memories held the same before, the same left in both
pub record Unchanged (before before' : Memories) (r r' : PadRun) : Type 0 where
  pub answer : answered r' ≡ answered r
  pub filled : filled_words (answered r') r'.left ≡ filled_words (answered r) r.left
  pub left : before' ≡ before → r'.left ≡ r.left

-- what holds of the run under the larger budget
pub record Raised (before before' : Memories) (r r' : PadRun) : Type 0 where
  -- "a run that ends in any way other than 40 gives the same ending, tree, trials and replacements"; and what is refused is refused the same, unless it was the budget
  pub same : (OutOfBudget (answered r) → ⊥) → (BudgetNotAllowed (answered r) → ⊥) → Unchanged before before' r r'
  -- a run ending in 40 is done or stopped, not refused
  pub passes : OutOfBudget (answered r) → (answered r').ending ≤ 1

-- .. of every two such runs
abbrev pub RaisedBudgets : Type 0
RaisedBudgets = (before before' : Memories) (r r' : PadRun) → RunOn before r → RunOn before' r' → Raises before before' r r' → Raised before before' r r'

-- "a run ending in 40 has made exactly as many trials as its budget"
abbrev pub SpentBudget : Type 0
SpentBudget = (before : Memories) (r : PadRun) → RunOn before r → OutOfBudget (answered r) → (answered r).attempts ≡ r.inputs.budget

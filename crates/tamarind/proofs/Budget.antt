-- A LARGER BUDGET, from what `run` and `tamarind_run` ensure: their answers are the meaning's, and there it changes nothing that was finished. Assumes nothing.
use Prim.Native.Nat.{ℕ, ◌≤◌}
use mathlib.Core.Path.{◌≡◌, refl, sym, ap, ◌∙◌}
use native.Mathlib.Omega.{arith}
use lib.ListN.{length}
use Rattle.meaning.specs.Meaning.{done, stopped, cannot_go_on}
use Rattle.meaning.specs.Outcome as Meant
use Rattle.meaning.specs.Outcome.{Inputs, refused, ended, outcome}
use Rattle.meaning.specs.Runs.{Memories, Sure}
use Rattle.meaning.specs.Budget.{Larger}
use Rattle.meaning.proofs.FromWords.{outcome_sure}
use Rattle.meaning.proofs.Budget.{larger_budgets, forty_spends_all}
use Rattle.tamarind.specs.Exports.{exported_run, RunExported}
use Rattle.tamarind.specs.Pad.{PadRun, RunOn}
use Rattle.tamarind.specs.Budget.{answered, OutOfBudget, BudgetNotAllowed, Unchanged, RaisedBudgets, SpentBudget}
use Rattle.tamarind.proofs.Pad.{exports, filled_is}

-- IN THE ANSWER'S FIELDS

-- the outcome is the same, unless what is answered says that the budget was spent or not allowed
outcome_same : (o o' : Meant.Outcome) → Larger o o' → (OutOfBudget (exported_run o) → ⊥) → (BudgetNotAllowed (exported_run o) → ⊥) → o' ≡ o
unfolding exported_run
outcome_same (refused n p) o' h spent forbidden = h.refusals n p refl (λ e. forbidden (record { ending = refl; number = e }))
outcome_same (ended done a k ws) o' h spent forbidden = h.endings done a k ws refl (λ e. let z : ◌≡◌ {A = ℕ} 0 1 = cc in absurd (omega arith))
outcome_same (ended (stopped n) a k ws) o' h spent forbidden = h.endings (stopped n) a k ws refl (λ e. let z : n ≡ 40 = cc in spent (record { ending = refl; number = z }))
outcome_same (ended cannot_go_on a k ws) o' h spent forbidden = h.endings cannot_go_on a k ws refl (λ e. let z : ◌≡◌ {A = ℕ} 0 1 = cc in absurd (omega arith))

-- .. and not refused, if it was stopped
outcome_passes : (o o' : Meant.Outcome) → Larger o o' → OutOfBudget (exported_run o) → (result work : ℕ) (x : Inputs) → Sure result work x o' → (exported_run o').ending ≤ 1
unfolding exported_run
outcome_passes (refused n p) o' h spent result work x sure = absurd (omega (arith, spent.ending))
outcome_passes (ended e a k ws) (refused n p) h spent result work x sure = absurd (h.passes e a k ws refl n p refl)
outcome_passes (ended e a k ws) (ended done a' k' ws') h spent result work x sure = omega arith
outcome_passes (ended e a k ws) (ended (stopped n) a' k' ws') h spent result work x sure = omega arith
outcome_passes (ended e a k ws) (ended cannot_go_on a' k' ws') h spent result work x sure = absurd sure.ends

-- an answer that says 40 tells the whole budget
all_spent : (result work : ℕ) (x : Inputs) (o : Meant.Outcome) → outcome result work x ≡ o → OutOfBudget (exported_run o) → (exported_run o).attempts ≡ x.budget
unfolding exported_run
all_spent result work x (refused n p) e s = absurd (omega (arith, s.ending))
all_spent result work x (ended done a k ws) e s = absurd (omega (arith, s.ending))
all_spent result work x (ended (stopped n) a k ws) e s = forty_spends_all result work x a k ws (e ∙ ap (λ i. ended (stopped i) a k ws) s.number)
all_spent result work x (ended cannot_go_on a k ws) e s = absurd (omega (arith, s.ending))

-- OF RUNS

-- the meaning's outcome of a run
abbrev meant : Memories → PadRun → Meant.Outcome
meant before r = outcome (length before.result) (length before.work) r.inputs

abbrev exported : (before : Memories) (r : PadRun) → RunOn before r → RunExported r.inputs before (answered r) r.left
exported before r h = exports r.by r.inputs before r.answer r.left h

memories_same : (m m' : Memories) → m'.result ≡ m.result → m'.work ≡ m.work → m' ≡ m
memories_same m m' e f = rw (e, f)

module _ (before before' : Memories) (r r' : PadRun) (h : RunOn before r) (h' : RunOn before' r') where
  unchanged : meant before' r' ≡ meant before r → Unchanged before before' r r'
  unchanged same =
      let p = exported before r h in
      let p' = exported before' r' h' in
      record {
        answer = p'.answered ∙ ap exported_run same ∙ sym p.answered;
        filled = filled_is (meant before' r') (answered r') p'.answered before' r'.left p'.result ∙ ap Meant.filled_by same ∙ sym (filled_is (meant before r) (answered r) p.answered before r.left p.result);
        left = λ e. memories_same r.left r'.left (p'.result ∙ rw (same, e) (sym p.result)) (p'.work ∙ rw (same, e) (sym p.work));
      }

pub raised_budgets : RaisedBudgets
raised_budgets before before' r r' h h' up =
    let p = exported before r h in
    let p' = exported before' r' h' in
    let larger : Larger (meant before r) (meant before' r') =
    rw (up.inputs, up.results, up.works) (larger_budgets (length before.result) (length before.work) r.inputs r'.inputs.budget up.larger up.allowed) in
    record {
      same = λ spent forbidden.
          unchanged before before' r r' h h'
          (outcome_same (meant before r) (meant before' r') larger (λ e. spent (rw p.answered e)) (λ e. forbidden (rw p.answered e)));
      passes = λ spent.
          rw p'.answered
          (outcome_passes (meant before r) (meant before' r') larger (rw p.answered at spent) (length before'.result) (length before'.work) r'.inputs
          (outcome_sure (length before'.result) (length before'.work) r'.inputs));
    }

pub spent_budget : SpentBudget
spent_budget before r h spent =
    let p = exported before r h in
    rw p.answered (all_spent (length before.result) (length before.work) r.inputs (meant before r) refl (rw p.answered at spent))

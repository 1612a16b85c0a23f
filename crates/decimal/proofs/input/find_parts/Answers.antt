-- `decimal::input::find_parts` meets its contract. Assumes nothing.
use Rattle.decimal.proofs.Parting.{no_budget, no_grammar, no_rules, no_slip, left_over, all_parts}
use mathlib.Core.Path.{sym, ◌∙◌}
use Rattle.decimal.proofs.input.find_parts.Goals as goal

pub returns-in_err-budget : goal.returns-in_err-budget
returns-in_err-budget c = rw c.from_residual.ensures (no_budget c.args.numbers.now c.in_err-budget.ensures.cases)

pub returns-in_err-grammar : goal.returns-in_err-grammar
returns-in_err-grammar c = rw c.from_residual-in_err-grammar.ensures (no_grammar c.in_ok-budget.ensures.cases.0 c.in_err-grammar.ensures)

pub returns-in_err-rules : goal.returns-in_err-rules
returns-in_err-rules c = rw c.from_residual-in_err-rules.ensures (no_rules c.in_ok-budget.ensures.cases.0 c.in_ok-grammar.ensures c.in_err-rules.ensures)

pub returns-in_err-slip : goal.returns-in_err-slip
returns-in_err-slip c = rw c.from_residual-in_err-slip.ensures (no_slip c.in_ok-budget.ensures.cases.0 c.in_ok-grammar.ensures c.in_ok-rules.ensures c.in_err-slip.ensures)

pub returns-then-not-is_empty : goal.returns-then-not-is_empty
returns-then-not-is_empty c = left_over c.in_ok-budget.ensures.cases.0 c.in_ok-grammar.ensures c.in_ok-rules.ensures c.in_ok-slip.ensures (sym c.is_empty.ensures ∙ c.if-not-is_empty.true)

pub returns : goal.returns
returns c = all_parts c.in_ok-budget.ensures.cases.0 c.in_ok-grammar.ensures c.in_ok-rules.ensures c.in_ok-slip.ensures (sym c.is_empty.ensures ∙ c.if-not-is_empty.false)

-- `rules::read_plan` meets its contract. Assumes nothing.
use Rattle.words.proofs.Laws.{read_word, read_bad, answer_refused}
use Rattle.rules.proofs.Laws.{pairs_passed, head_refused, head_there}
use Rattle.rules.proofs.Plans.{plan_none, rule_headless, rule_patternless, rule_partless, plan_there}
use Rattle.rules.proofs.read_plan.Goals as goal

pub returns-in_err-head : goal.returns-in_err-head
returns-in_err-head c =
    plan_none c.args.types c.args.ws.now c.args.at _ c.from_residual.ensures.0 (rule_headless c.args.types c.args.ws.now c.args.at (head_refused c.args.types c.args.ws.now c.args.at _ c.read_head.ensures c.in_err-head.was))

pub returns-in_err-parts : goal.returns-in_err-parts
returns-in_err-parts c =
    let f = head_there c.args.types c.args.ws.now c.args.at _ c.read_head.ensures c.in_ok-head.was in
    plan_none c.args.types c.args.ws.now c.args.at _ c.from_residual-in_err-parts.ensures.0 (rule_patternless c.args.types c.args.ws.now c.args.at c.in_ok-head.head f.1 (answer_refused _ _ c.pairs.ensures c.in_err-parts.was))

pub returns-in_err-count : goal.returns-in_err-count
returns-in_err-count c =
    let f = head_there c.args.types c.args.ws.now c.args.at _ c.read_head.ensures c.in_ok-head.was in
    plan_none c.args.types c.args.ws.now c.args.at _ c.from_residual-in_err-count.ensures.0
    (rule_partless c.args.types c.args.ws.now c.args.at c.in_ok-head.head f.1 f.2 (pairs_passed c.args.ws.now _ _ c.pairs.ensures c.in_ok-parts.was) (read_bad _ _ c.part_count.ensures c.in_err-count.was))

pub returns : goal.returns
returns c =
    let f = head_there c.args.types c.args.ws.now c.args.at _ c.read_head.ensures c.in_ok-head.was in
    plan_there c.args.types c.args.ws.now c.args.at c.in_ok-head.head f.1 f.2 (pairs_passed c.args.ws.now _ _ c.pairs.ensures c.in_ok-parts.was) f.3 f.4 (read_word _ _ c.part_count.ensures c.in_ok-count.was)

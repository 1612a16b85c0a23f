-- `tamarind::tamarind_check_rules` meets its contract. Assumes nothing.
use Rattle.judgement.specs.Typing.{check_rules}
use Rattle.tamarind.proofs.Laws.{export_check}
use Rattle.tamarind.proofs.tamarind_check_rules.Goals as goal

pub returns : goal.returns
returns c = export_check (check_rules c.args.grammar.now c.args.rules.now) _ _ c.check_rules.ensures c.export.ensures

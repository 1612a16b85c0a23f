-- `tamarind::tamarind_check_grammar` meets its contract. Assumes nothing.
use Rattle.grammar.specs.Grammar.{check_grammar}
use Rattle.tamarind.proofs.Laws.{export_check}
use Rattle.tamarind.proofs.tamarind_check_grammar.Goals as goal

pub returns : goal.returns
returns c = export_check (check_grammar c.args.grammar.now) _ _ c.check_grammar.ensures c.export.ensures

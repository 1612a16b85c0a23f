-- `tamarind::tamarind_check_slip` meets its contract. Assumes nothing.
use Rattle.tamarind.proofs.Laws.{export_check}
use Rattle.tree.specs.Slip.{check_slip}
use Rattle.tamarind.proofs.tamarind_check_slip.Goals as goal

pub returns : goal.returns
returns c = export_check (check_slip c.args.grammar.now c.args.slip.now) _ _ c.check_slip.ensures c.export.ensures

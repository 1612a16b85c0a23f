use Rattle.words.proofs.Laws.{exits}
use Rattle.convert.proofs.Outcome.{between_refused, between_done}
use Rattle.convert.proofs.convert_between.Goals as goal

pub returns-in_err-fitting : goal.returns-in_err-fitting
returns-in_err-fitting c = rw (exits c.from_residual.result c.from_residual.ensures) (between_refused c.args.counted _ c.fill.ensures c.args.table.now c.args.slip.now c.check_table.ensures c.in_err-fitting.was)

pub returns : goal.returns
returns c = between_done c.args.counted _ c.fill.ensures c.args.table.now c.args.slip.now c.check_table.ensures c.in_ok-fitting.was c.convert_slip.ensures

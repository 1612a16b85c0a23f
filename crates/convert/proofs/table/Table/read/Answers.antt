use Rattle.words.proofs.Laws.{exits}
use Rattle.convert.proofs.Outcome.{read_refused, read_root, read_misfit, read_fits}
use Rattle.convert.proofs.table.Table.read.Goals as goal

pub returns-in_err-table : goal.returns-in_err-table
returns-in_err-table c = rw (exits c.from_residual.result c.from_residual.ensures) (read_refused c.args.old.now c.args.new.now c.args.words.now c.whole.ensures c.in_err-table.was)

pub returns-then-type_to-ne0 : goal.returns-then-type_to-ne0
returns-then-type_to-ne0 c = rw c.new.ensures (read_root c.args.old.now c.args.new.now c.args.words.now c.whole.ensures c.in_ok-table.was c.type_to.ensures c.if-type_to-ne0.true)

pub returns-in_err-end : goal.returns-in_err-end
returns-in_err-end c = rw (exits c.from_residual-in_err-end.result c.from_residual-in_err-end.ensures) (read_misfit c.args.old.now c.args.new.now c.args.words.now c.whole.ensures c.in_ok-table.was c.type_to.ensures c.if-type_to-ne0.false c.types_fit.ensures c.in_err-end.was)

pub returns : goal.returns
returns c = read_fits c.args.old.now c.args.new.now c.args.words.now c.whole.ensures c.in_ok-table.was c.type_to.ensures c.if-type_to-ne0.false c.types_fit.ensures c.in_ok-end.was

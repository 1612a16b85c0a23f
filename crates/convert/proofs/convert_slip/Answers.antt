use native.Mathlib.Omega.{arith}
use Rattle.words.proofs.Laws.{exits}
use Rattle.convert.proofs.Outcome.{slip_refused, slip_few, slip_done}
use Rattle.convert.proofs.convert_slip.Goals as goal

pub returns-in_err-read_edition : goal.returns-in_err-read_edition
returns-in_err-read_edition c = rw (exits c.from_residual.result c.from_residual.ensures) (slip_refused c.args.counted c.args.slip.now c.args.types.now c.args.table.now c.read_edition.ensures c.requires c.in_err-read_edition.was)

pub convert_marked-requires : goal.convert_marked-requires
convert_marked-requires c = omega (arith, slip_few c.args.counted c.args.slip.now c.args.types.now c.args.table.now c.read_edition.ensures c.requires c.in_ok-read_edition.was, c.nodes_in-nodes.ensures, c.read_edition.ensures.long, c.requires)

pub overflow_mul-result : goal.overflow_mul-result
overflow_mul-result c = omega (arith, slip_few c.args.counted c.args.slip.now c.args.types.now c.args.table.now c.read_edition.ensures c.requires c.in_ok-read_edition.was, c.nodes_in-nodes.ensures)

pub returns : goal.returns
returns c = slip_done c.args.counted c.args.slip.now c.args.types.now c.args.table.now c.read_edition.ensures c.requires c.in_ok-read_edition.was c.nodes_in-nodes.ensures c.convert_marked.ensures

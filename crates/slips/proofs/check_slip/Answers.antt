-- `slips::check_slip` meets its contract. Assumes nothing.
use Rattle.slips.proofs.Reading.{check_read}
use Rattle.slips.proofs.check_slip.Goals as goal

pub returns : goal.returns
returns c = check_read c.args.grammar.now c.args.slip.now c.check_grammar.ensures c.in_ok-check_grammar.was c.fill.ensures.types_of c.read_slip.ensures

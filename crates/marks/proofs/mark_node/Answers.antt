-- `marks::mark_node` meets its contract. Assumes nothing.
use Rattle.marks.proofs.Spans.{node_marked}
use Rattle.marks.proofs.mark_node.Goals as goal

pub returns : goal.returns
returns c = node_marked c.args.types.now c.args.w.now c.args.p c.args.top c.type_in-t.result c.mark_of-m.result c.type_in-t.ensures c.mark_of-m.ensures

-- `sequences::finish` meets its contract. Assumes nothing.
use Rattle.sequences.proofs.Joining.{finished}
use Rattle.sequences.proofs.finish.Goals as goal

pub returns : goal.returns
returns c = finished c.args.types.now c.args.w.now _ _ c.args.t c.args.base c.args.k c.args.besides _ c.push_node.auto.w c.requires.1 c.push_node.ensures c.seal.ensures

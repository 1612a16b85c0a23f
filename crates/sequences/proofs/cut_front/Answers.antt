-- `sequences::cut_front` meets its contract. Assumes nothing.
use Rattle.sequences.proofs.Cutting.{front_cut}
use Rattle.sequences.proofs.cut_front.Goals as goal

pub returns : goal.returns
returns c = front_cut c.args.w.now _ c.args.base c.args.n c.args.k c.walk-r.result c.requires.2 c.walk-r.ensures c.move_down.auto.w c.move_down.ensures

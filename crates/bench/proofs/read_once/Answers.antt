-- `bench::read_once` meets its contract. Assumes nothing.
use Rattle.bench.proofs.ReadingOn.{once}
use Rattle.bench.proofs.read_once.Goals as goal

pub returns : goal.returns
returns c = once _ _ _ _ _ _ c.read_piece.ensures

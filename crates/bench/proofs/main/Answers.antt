-- `bench::main` meets its contract. Assumes nothing.
use Rattle.bench.proofs.ReadingOn.{input_part}
use Rattle.bench.proofs.main.Goals as goal

pub slice_bounds-write_all-end : goal.slice_bounds-write_all-end
slice_bounds-write_all-end c = input_part c.answer_input-n.result _ c.answer_input-n.ensures

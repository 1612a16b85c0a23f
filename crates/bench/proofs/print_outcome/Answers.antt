-- `bench::print_outcome` meets its contract. Assumes nothing.
use Rattle.bench.proofs.Answering.{part_done, part_stopped}
use Rattle.bench.proofs.print_outcome.Goals as goal

pub slice_bounds-print_done-end : goal.slice_bounds-print_done-end
slice_bounds-print_done-end c = part_done c.args.outcome _ c.args.res.now c.in-Done.is c.requires

pub slice_bounds-print_stopped-end : goal.slice_bounds-print_stopped-end
slice_bounds-print_stopped-end c = part_stopped c.args.outcome _ _ c.args.res.now c.in-Stopped.is c.requires

pub returns-in-Refused : goal.returns-in-Refused
returns-in-Refused c = rw (c.in-Refused.is, ← c.number.ensures, ← c.position.ensures) c.print_refused.ensures

pub returns-in-Done : goal.returns-in-Done
returns-in-Done c = rw c.in-Done.is c.print_done.ensures

pub returns-in-Stopped : goal.returns-in-Stopped
returns-in-Stopped c = rw (c.in-Stopped.is, ← c.number-in-Stopped.ensures) c.print_stopped.ensures

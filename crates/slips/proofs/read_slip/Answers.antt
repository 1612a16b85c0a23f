-- `slips::read_slip` meets its contract. Assumes nothing.
use mathlib.Core.Path.{sym}
use lib.Seq.{length-take-le}
use native.Mathlib.Omega.{arith}
use Rattle.slips.proofs.Loading.{slip_fits, beside_passed}
use Rattle.slips.proofs.read_slip.Goals as goal

pub slice_bounds-buffer-end : goal.slice_bounds-buffer-end
slice_bounds-buffer-end c = omega (arith, slip_fits c.args.types.now c.args.slip.now _ _ c.args.memory.now _ c.read_beside.ensures c.in_ok-next.was)

pub slice_bounds-load-end : goal.slice_bounds-load-end
slice_bounds-load-end c = sym (length-take-le _ _ (omega (arith, slip_fits c.args.types.now c.args.slip.now _ _ c.args.memory.now _ c.read_beside.ensures c.in_ok-next.was)))

pub returns : goal.returns
returns c = beside_passed c.args.types.now c.args.slip.now _ _ c.args.memory.now _ c.read_beside.ensures c.in_ok-next.was (omega (arith, slip_fits c.args.types.now c.args.slip.now _ _ c.args.memory.now _ c.read_beside.ensures c.in_ok-next.was)) c.if-memory-lt-MOST_WORDS.false _ c.load.ensures

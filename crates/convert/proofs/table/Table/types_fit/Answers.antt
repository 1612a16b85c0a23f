use native.Mathlib.Omega.{arith}
use Rattle.convert.proofs.Fitting.{types_end}
use Rattle.convert.proofs.table.Table.types_fit.Goals as goal

pub type_fits-requires : goal.type_fits-requires
type_fits-requires c = (omega (arith, c.requires, c.loop-t-test.true), c.loop-t.invariant.low)

pub returns : goal.returns
returns c = types_end c.loop-t.invariant c.loop-t-test.false

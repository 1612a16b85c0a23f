-- `operations::compute` meets its contract. Assumes nothing.
use Rattle.operations.proofs.Numbers.{adds, subtracts, divides, divides_by_zero, rounds, truncates}
use Rattle.meaning.proofs.Rounding.{half_even_next}
use native.Mathlib.Omega.{arith}
use Rattle.operations.proofs.compute.Goals as goal

pub overflow_mul-result-in-1004 : goal.overflow_mul-result-in-1004
overflow_mul-result-in-1004 c = omega (arith, half_even_next c.args.x 100, c.half_even.ensures, c.requires.0)

pub returns-in-1000 : goal.returns-in-1000
returns-in-1000 c = adds c.args.op c.args.x c.args.y c.in-1000.is

pub returns-in-1001 : goal.returns-in-1001
returns-in-1001 c = subtracts c.args.op c.args.x c.args.y c.in-1001.is _ c.checked_sub.ensures

pub returns-in_err-checked_div-in-1002 : goal.returns-in_err-checked_div-in-1002
returns-in_err-checked_div-in-1002 c = rw c.from_residual.ensures (divides_by_zero c.args.op c.args.x c.args.y c.in-1002.is (c.in_err-checked_div-in-1002.ensures))

pub returns-in_ok-checked_div-in-1002 : goal.returns-in_ok-checked_div-in-1002
returns-in_ok-checked_div-in-1002 c = divides c.args.op c.args.x c.args.y c.in-1002.is _ (c.in_ok-checked_div-in-1002.ensures)

pub returns-in-1004 : goal.returns-in-1004
returns-in-1004 c = rounds c.args.op c.args.x c.args.y c.in-1004.is _ c.half_even.ensures

pub returns-in-1005 : goal.returns-in-1005
returns-in-1005 c = truncates c.args.op c.args.x c.args.y c.in-1005.is

use Prim.Native.Nat.{◌-◌}
use native.Mathlib.Omega.{arith}
use mathlib.Core.Path.{◌∙◌, ap}
use lib.ListN.{length}
use Rattle.dues.specs.Views.{parameters_due}
use Rattle.dues.proofs.Row.{row_start, arguments_length, arguments_last}
use Rattle.dues.proofs.push_arguments.Goals as goal

pub loop-i-init : goal.loop-i-init
loop-i-init c = record { left = omega arith; height = omega arith; pushed = row_start (parameters_due c.args.ws.now c.args.first c.args.k) c.args.stack.now c.args.k (omega (arith, arguments_length c.args.ws.now c.args.first c.args.k)) }

pub loop-i-preserved : goal.loop-i-preserved
loop-i-preserved c = record {
  left = omega arith;
  height = omega (arith, ap length c.push.ensures, c.loop-i.invariant.height);
  pushed = c.push.ensures ∙ arguments_last c.args.ws.now c.args.first c.args.k c.args.stack.now c.loop-i.stack c.loop-i.i (c.loop-i.i - 1) (omega arith) c.loop-i.invariant.left c.word-t.ensures c.loop-i.invariant.pushed;
}

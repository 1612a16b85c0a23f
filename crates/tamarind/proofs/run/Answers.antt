-- `tamarind::run` meets its contract. Assumes nothing.
use native.Mathlib.Omega.{arith}
use Rattle.tamarind.specs.Run.{inputs_of}
use Rattle.tamarind.proofs.Inputs.{call_refused, call_room, inputs_refused, inputs_accepted}
use Rattle.tamarind.proofs.run.Goals as goal

pub returns-in-Err : goal.returns-in-Err
returns-in-Err c = let a = c.args in call_refused a.res.now a.work.now (inputs_of a.budget a.grammar.now a.rules.now a.slip.now) c.call_fits.ensures c.in-Err.is

pub read_inputs-requires : goal.read_inputs-requires
read_inputs-requires c =
    let a = c.args in
    let room = call_room a.res.now a.work.now (inputs_of a.budget a.grammar.now a.rules.now a.slip.now) c.call_fits.ensures c.in_default.is in
    (c.none-types.ensures.blank, omega (arith, room.1), room.0)

pub execute-requires : goal.execute-requires
execute-requires c = let a = c.args in inputs_accepted a.res.now a.work.now (inputs_of a.budget a.grammar.now a.rules.now a.slip.now) c.call_fits.ensures c.in_default.is c.read_inputs.ensures c.in-Ok.is

pub returns-in-Err-read_inputs : goal.returns-in-Err-read_inputs
returns-in-Err-read_inputs c = let a = c.args in inputs_refused a.res.now a.work.now (inputs_of a.budget a.grammar.now a.rules.now a.slip.now) c.call_fits.ensures c.in_default.is c.read_inputs.ensures c.in-Err-read_inputs.is

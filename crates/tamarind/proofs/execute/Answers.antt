use native.Mathlib.Omega.{arith}
use mathlib.Core.Path.{refl}
use Rattle.tamarind.specs.Run.{inputs_in}
use Rattle.tamarind.proofs.Executing.{tree_small, work_long, starts_fit, filled_fits, part_long, part_fits, executed}
use Rattle.tamarind.proofs.execute.Goals as goal

pub rule_starts-starts-requires : goal.rule_starts-starts-requires
rule_starts-starts-requires c = starts_fit (inputs_in c.args.request.now) c.args.res.now c.args.work.now c.args.types.now c.requires c.word.ensures

pub call-c-requires : goal.call-c-requires
call-c-requires c = (record { room = refl; few = omega arith }, omega arith, omega arith, omega arith, tree_small (inputs_in c.args.request.now) c.args.res.now c.args.work.now c.args.types.now c.requires, omega (arith, work_long (inputs_in c.args.request.now) c.args.res.now c.args.work.now c.args.types.now c.requires))

pub slice_bounds-write_slip-end : goal.slice_bounds-write_slip-end
slice_bounds-write_slip-end c = filled_fits (inputs_in c.args.request.now) c.args.res.now c.args.work.now c.args.types.now c.requires c.word.ensures c.rule_starts-starts.ensures (c.rule_at.ensures (omega arith)) refl c.call-c.result c.call-c.ensures

pub slice_bounds-write_slip-end-2 : goal.slice_bounds-write_slip-end-2
slice_bounds-write_slip-end-2 c = part_long (inputs_in c.args.request.now) c.args.res.now c.args.work.now c.args.types.now c.requires c.word.ensures c.rule_starts-starts.ensures (c.rule_at.ensures (omega arith)) refl c.call-c.result c.call-c.ensures

pub write_slip-requires : goal.write_slip-requires
write_slip-requires c = part_fits (inputs_in c.args.request.now) c.args.res.now c.args.work.now c.args.types.now c.requires c.word.ensures c.rule_starts-starts.ensures (c.rule_at.ensures (omega arith)) refl c.call-c.result c.call-c.ensures

pub returns : goal.returns
returns c = executed (inputs_in c.args.request.now) c.args.res.now c.args.work.now c.args.types.now c.requires c.word.ensures c.rule_starts-starts.ensures (c.rule_at.ensures (omega arith)) refl c.call-c.result c.call-c.ensures c.write_slip.ensures c.clear.ensures c.answer_of.ensures

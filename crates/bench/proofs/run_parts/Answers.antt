-- `bench::run_parts` meets its contract. Assumes nothing.
use Rattle.bench.proofs.Answering.{filled_there, ran_answers}
use Rattle.decimal.specs.Input.{inputs_of}
use Rattle.tamarind.specs.Run.{memories}
use Rattle.bench.proofs.run_parts.Goals as goal

pub print_outcome-requires : goal.print_outcome-requires
print_outcome-requires c = filled_there c.run-outcome.result _ c.run-outcome.ensures.filled

pub returns : goal.returns
returns c = ran_answers (inputs_of c.args.parts) (memories c.args.res.now c.args.work.now) _ c.run-outcome.result c.args.out.now _ _ c.run-outcome.ensures c.run-outcome.auto.res c.print_outcome.ensures

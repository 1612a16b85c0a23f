-- `tamarind::tamarind_run` meets its contract. Assumes nothing.
use Rattle.tamarind.proofs.Laws.{run_exported}
use Rattle.tamarind.specs.Run.{inputs_of, memories}
use Rattle.tamarind.proofs.tamarind_run.Goals as goal

pub returns : goal.returns
returns c = run_exported (inputs_of c.args.budget c.args.grammar.now c.args.rules.now c.args.slip.now) (memories c.args.res.now c.args.work.now) c.run.result _ c.run.ensures c.export_run.ensures

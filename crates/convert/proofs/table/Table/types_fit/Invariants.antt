-- t types fit. Assumes nothing.
use Rattle.convert.proofs.Fitting.{TypesLoop}
use Rattle.convert.proofs.table.Table.types_fit.Given as goal

abbrev pub invariant-loop-t : goal.invariant-loop-t
invariant-loop-t l = TypesLoop l.old l.new l.self l.t l.at

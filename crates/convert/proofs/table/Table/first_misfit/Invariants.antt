-- v forms fit. Assumes nothing.
use Rattle.convert.proofs.Fitting.{MisfitLoop}
use Rattle.convert.proofs.table.Table.first_misfit.Given as goal

abbrev pub invariant-loop-v : goal.invariant-loop-v
invariant-loop-v l = MisfitLoop l.old l.new l.self l.k l.t l.m l.v

-- t types have been read. Assumes nothing.
use Rattle.convert.proofs.Entries.{TableLoop}
use Rattle.convert.proofs.table.Table.whole.Given as goal

abbrev pub invariant-loop-t : goal.invariant-loop-t
invariant-loop-t l = TableLoop l.old l.new l.words l.places l.t l.at

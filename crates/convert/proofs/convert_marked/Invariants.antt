-- The first i nodes are still marked, those behind them are written. Assumes nothing.
use Rattle.convert.proofs.Writing.{WriteLoop}
use Rattle.convert.proofs.convert_marked.Given as goal

abbrev pub invariant-loop-i : goal.invariant-loop-i
invariant-loop-i l = WriteLoop l.types l.table l.n l.initial.res l.res l.i

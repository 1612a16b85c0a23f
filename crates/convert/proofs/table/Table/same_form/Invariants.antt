-- i types of the form have been held against the new ones. Assumes nothing.
use Rattle.convert.proofs.Fitting.{FormLoop}
use Rattle.convert.proofs.table.Table.same_form.Given as goal

abbrev pub invariant-loop-i : goal.invariant-loop-i
invariant-loop-i l = FormLoop l.old l.new l.self l.t l.v l.m l.n l.i

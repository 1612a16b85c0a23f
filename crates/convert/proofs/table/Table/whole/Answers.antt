use native.Mathlib.Omega.{arith}
use Rattle.words.proofs.Laws.{exits}
use Rattle.convert.proofs.Entries.{table_start, table_fault, table_more, table_left, table_end}
use mathlib.Core.Path.{refl}
use Rattle.convert.proofs.table.Table.whole.Goals as goal

pub loop-t-init : goal.loop-t-init
loop-t-init c = table_start

pub bounds-places-t : goal.bounds-places-t
bounds-places-t c = omega (arith, c.requires, c.loop-t-test.true)

pub returns-in_err-at : goal.returns-in_err-at
returns-in_err-at c = rw (exits c.from_residual.result c.from_residual.ensures) (table_fault c.loop-t.invariant c.loop-t-test.true _ c.form_count-forms.ensures _ c.entry.ensures c.in_err-at.was)

pub loop-t-preserved : goal.loop-t-preserved
loop-t-preserved c = table_more c.loop-t.invariant c.loop-t-test.true _ c.form_count-forms.ensures _ c.entry.ensures c.in_ok-at.was (omega (arith, c.requires, c.loop-t-test.true))

pub returns-then-at-words : goal.returns-then-at-words
returns-then-at-words c = rw c.new.ensures (table_left c.loop-t.invariant c.loop-t.auto.t-end c.loop-t-test.false c.if-at-words.true)

pub returns : goal.returns
returns c = table_end c.loop-t.invariant c.loop-t.auto.t-end c.loop-t-test.false c.if-at-words.false (omega (arith, c.requires, c.loop-t.auto.t-end)) _ refl refl

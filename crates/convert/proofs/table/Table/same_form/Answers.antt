use Rattle.convert.proofs.Fitting.{form_lengths, form_differs, form_more}
use Rattle.convert.proofs.table.Table.same_form.Goals as goal

pub returns-then-count-child_count : goal.returns-then-count-child_count
returns-then-count-child_count c = form_lengths c.args.old.now c.args.new.now c.args.self.now c.args.t c.args.v c.args.m c.args.n _ _ c.child_count-count.ensures.count c.child_count.ensures.count c.if-count-child_count.true

pub returns-then-mapped-child : goal.returns-then-mapped-child
returns-then-mapped-child c = form_differs c.args.old.now c.args.new.now c.args.self.now c.args.t c.args.v c.args.m c.args.n _ _ c.child_count-count.ensures.count c.child_count.ensures.count c.if-count-child_count.false c.loop-i.i c.loop-i.invariant c.loop-i-test.true _ _ _ c.child.ensures c.child-in-loop-i.ensures c.type_to-mapped.ensures c.if-mapped-child.true

pub loop-i-preserved : goal.loop-i-preserved
loop-i-preserved c = form_more c.args.old.now c.args.new.now c.args.self.now c.args.t c.args.v c.args.m c.args.n _ _ c.child_count-count.ensures.count c.child_count.ensures.count c.if-count-child_count.false c.loop-i.i c.loop-i.invariant c.loop-i-test.true _ _ _ c.child.ensures c.child-in-loop-i.ensures c.type_to-mapped.ensures c.if-mapped-child.false

-- `sequences::join` meets its contract. Assumes nothing.
use Rattle.sequences.proofs.Joining.{joins_itself, joins_else}
use Rattle.marks.specs.Marked.{type_in}
use mathlib.Core.Path.{ap, ◌∙◌}
use Rattle.sequences.proofs.join.Goals as goal

pub returns-then-child-t : goal.returns-then-child-t
returns-then-child-t c = let a = c.args in
    joins_itself a.types.now a.w.now _ a.base a.n a.start a.under a.besides _ c.type_in-t.result c.child.result (c.type_in-t.ensures ∙ ap type_in c.word.ensures) c.child.ensures c.if-child-t.true c.nodes_at-m.result c.nodes_at-m.ensures c.join_sequence.ensures

pub returns : goal.returns
returns c = let a = c.args in
    joins_else a.types.now a.w.now _ a.base a.n a.start a.under a.besides _ c.type_in-t.result c.child.result (c.type_in-t.ensures ∙ ap type_in c.word.ensures) c.child.ensures c.if-child-t.false c.extract.ensures

-- `sequences::extract` meets its contract. Assumes nothing.
use Rattle.sequences.proofs.Extracting.{extracts_sequence, extracted_many, extracted_over, extracted_there}
use Rattle.marks.specs.Marked.{type_in}
use mathlib.Core.Path.{refl, ap, ◌∙◌}
use Rattle.std.proofs.lemmas.Result.{err_from_is_err_and}
use Rattle.sequences.proofs.extract.Goals as goal

pub returns-then-type_in-t : goal.returns-then-type_in-t
returns-then-type_in-t c = let a = c.args in
    extracts_sequence a.types.now a.w.now a.base a.n a.start a.under a.besides c.nodes_at-m.result c.type_in-t.result c.child-e.result c.requires.0 c.requires.4 (c.type_in-t.ensures ∙ ap type_in c.word.ensures) c.child-e.ensures c.nodes_at-m.ensures c.if-t-e.true c.type_in.result (c.type_in.ensures ∙ ap type_in c.word-then-t-e.ensures) c.if-type_in-t.true _ _ c.join_sequence.ensures

pub returns : goal.returns
returns c = let a = c.args in
    extracted_there a.types.now a.w.now a.base a.n a.start a.under a.besides c.nodes_at-m.result c.type_in-t.result c.child-e.result c.requires.0 c.requires.4 (c.type_in-t.ensures ∙ ap type_in c.word.ensures) c.child-e.ensures c.nodes_at-m.ensures _ c.collect.result refl c.in_ok-check_nodes.ensures _ _ c.loosen.ensures c.collect.ensures c.in_ok-k.was _ _ c.finish.ensures

pub returns-in_err-check_nodes : goal.returns-in_err-check_nodes
returns-in_err-check_nodes c = let a = c.args in
    let p = err_from_is_err_and c.from_residual.result c.from_residual.ensures.1 in
    rw (p.1, p.2) (extracted_many a.types.now a.w.now a.base a.n a.start a.under a.besides c.nodes_at-m.result c.type_in-t.result c.child-e.result c.requires.0 c.requires.4 (c.type_in-t.ensures ∙ ap type_in c.word.ensures) c.child-e.ensures c.nodes_at-m.ensures c.in_err-check_nodes.ensures)

pub returns-in_err-k : goal.returns-in_err-k
returns-in_err-k c = let a = c.args in
    let p = err_from_is_err_and c.from_residual-in_err-k.result c.from_residual-in_err-k.ensures.1 in
    rw (p.1, p.2) (extracted_over a.types.now a.w.now a.base a.n a.start a.under a.besides c.nodes_at-m.result c.type_in-t.result c.child-e.result c.requires.0 c.requires.4 (c.type_in-t.ensures ∙ ap type_in c.word.ensures) c.child-e.ensures c.nodes_at-m.ensures _ c.collect.result refl c.in_ok-check_nodes.ensures _ _ c.loosen.ensures c.collect.ensures c.in_err-k.was)

-- `sequences::select` meets its contract. Assumes nothing.
use Rattle.sequences.proofs.Cutting.{selected_many, selected_whole, selected_there}
use Rattle.marks.specs.Marked.{type_in}
use mathlib.Core.Path.{ap, ◌∙◌}
use Rattle.std.proofs.lemmas.Result.{err_from_is_err_and}
use Rattle.sequences.proofs.select.Goals as goal

pub returns-then-kept-m : goal.returns-then-kept-m
returns-then-kept-m c = let a = c.args in
    selected_whole a.types.now a.w.now _ a.base a.n a.a a.b a.under a.besides c.saturating_sub-skip.result c.cut_front-m.result c.type_in-t.result c.saturating_sub.result c.requires.3 (c.type_in-t.ensures ∙ ap type_in c.word.ensures) c.saturating_sub-skip.ensures c.cut_front-m.ensures c.saturating_sub.ensures c.walk-r.result c.walk-r.ensures c.in_ok-check_nodes.ensures c.if-kept-m.true

pub returns : goal.returns
returns c = let a = c.args in
    selected_there a.types.now a.w.now _ a.base a.n a.a a.b a.under a.besides c.saturating_sub-skip.result c.cut_front-m.result c.type_in-t.result c.saturating_sub.result c.requires.3 (c.type_in-t.ensures ∙ ap type_in c.word.ensures) c.saturating_sub-skip.ensures c.cut_front-m.ensures c.saturating_sub.ensures c.walk-r.result c.walk-r.ensures c.in_ok-check_nodes.ensures _ _ _ c.loosen.ensures c.finish.ensures

pub returns-in_err-check_nodes : goal.returns-in_err-check_nodes
returns-in_err-check_nodes c = let a = c.args in
    let p = err_from_is_err_and c.from_residual.result c.from_residual.ensures.1 in
    rw (p.1, p.2) (selected_many a.types.now a.w.now _ a.base a.n a.a a.b a.under a.besides c.saturating_sub-skip.result c.cut_front-m.result c.type_in-t.result c.saturating_sub.result c.requires.3 (c.type_in-t.ensures ∙ ap type_in c.word.ensures) c.saturating_sub-skip.ensures c.cut_front-m.ensures c.saturating_sub.ensures c.walk-r.result c.walk-r.ensures c.in_err-check_nodes.ensures)

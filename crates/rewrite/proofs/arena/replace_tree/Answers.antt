-- `rewrite::arena::replace_tree` meets its contract. Assumes nothing.
use Rattle.rewrite.proofs.Placing.{replaced_none, replaced_many, replaced_deep, replaced_done}
use Rattle.std.proofs.lemmas.Result.{err_from_is_err_and}
use Rattle.rewrite.proofs.arena.replace_tree.Goals as goal

pub returns-then-n-old : goal.returns-then-n-old
returns-then-n-old c = replaced_none c.args.types.now c.args.w.now c.args.base c.args.n c.args.i c.args.from c.args.m c.size_at-old.result c.requires.0 c.size_at-old.ensures.0 c.if-n-old.true

pub returns-in_err-check_nodes : goal.returns-in_err-check_nodes
returns-in_err-check_nodes c =
    let p = err_from_is_err_and c.from_residual.result c.from_residual.ensures.1 in
    rw (p.1, p.2, c.in_err-check_nodes.ensures.1) (replaced_many c.args.types.now c.args.w.now c.args.base c.args.n c.args.i c.args.from c.args.m c.size_at-old.result c.requires.0 c.size_at-old.ensures.0 c.in_err-check_nodes.ensures.0)

pub returns-then-too_deep : goal.returns-then-too_deep
returns-then-too_deep c = rw c.new.ensures (replaced_deep c.args.types.now c.args.w.now c.args.base c.args.n c.args.i c.args.from c.args.m c.size_at-old.result c.requires.0 c.size_at-old.ensures.0 c.in_ok-check_nodes.ensures c.too_deep.result c.too_deep.ensures c.if-too_deep.true)

pub returns : goal.returns
returns c = replaced_done c.args.types.now c.args.w.now c.args.base c.args.n c.args.i c.args.from c.args.m c.size_at-old.result c.requires.0 c.size_at-old.ensures.0 c.in_ok-check_nodes.ensures c.too_deep.result c.too_deep.ensures c.if-too_deep.false _ c.put_in_place.ensures

-- `sequences::count` meets its contract. Assumes nothing.
use Rattle.std.proofs.lemmas.Result.{err_from_is_err_and}
use mathlib.Core.Path.{refl}
use Rattle.sequences.proofs.Counting.{counted_many, counted_live, counted_there}
use Rattle.sequences.proofs.count.Goals as goal

pub returns-in_err-check_nodes : goal.returns-in_err-check_nodes
returns-in_err-check_nodes c =
    let p = err_from_is_err_and c.from_residual.result c.from_residual.ensures.1 in
    rw (p.1, p.2) (counted_many c.args.w.now c.args.base c.args.start c.args.under c.args.besides c.nodes_at-m.result c.walk-r.result c.requires.2 c.nodes_at-m.ensures c.walk-r.ensures c.in_err-check_nodes.ensures)

pub returns-in_err-check_live : goal.returns-in_err-check_live
returns-in_err-check_live c =
    let p = err_from_is_err_and c.from_residual-in_err-check_live.result c.from_residual-in_err-check_live.ensures.1 in
    rw (p.1, p.2) (counted_live c.args.w.now c.args.base c.args.start c.args.under c.args.besides c.nodes_at-m.result c.walk-r.result c.requires.2 c.nodes_at-m.ensures c.walk-r.ensures c.in_ok-check_nodes.ensures c.in_err-check_live.ensures)

pub returns : goal.returns
returns c = counted_there c.args.w.now c.args.base c.args.start c.args.under c.args.besides c.nodes_at-m.result c.walk-r.result c.requires.2 c.nodes_at-m.ensures c.walk-r.ensures c.in_ok-check_nodes.ensures c.in_ok-check_live.ensures _ refl

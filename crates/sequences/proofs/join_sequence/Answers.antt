-- `sequences::join_sequence` meets its contract. Assumes nothing.
use Rattle.sequences.proofs.Joining.{joined_many, joined_sequence}
use native.Mathlib.Omega.{arith}
use Rattle.std.proofs.lemmas.Result.{err_from_is_err_and}
use Rattle.sequences.proofs.join_sequence.Goals as goal

pub push_tree-requires : goal.push_tree-requires
push_tree-requires c = (λ some. omega (arith, c.requires.3 some), omega (arith, c.requires, c.in_ok-check_nodes.ensures, c.loosen.ensures.long))

pub returns : goal.returns
returns c = joined_sequence c.args.types.now c.args.w.now c.args.base c.args.n c.args.start c.args.m c.args.under c.args.besides c.requires.0 c.requires.6 c.requires.5 c.in_ok-check_nodes.ensures _ _ _ _ c.loosen.ensures c.push_tree.auto.w c.push_tree.ensures c.seal.ensures

pub returns-in_err-check_nodes : goal.returns-in_err-check_nodes
returns-in_err-check_nodes c =
    let p = err_from_is_err_and c.from_residual.result c.from_residual.ensures.1 in
    rw (p.1, p.2) (joined_many c.args.types.now c.args.w.now c.args.base c.args.n c.args.start c.args.m c.args.under c.args.besides c.requires.0 c.requires.6 c.requires.5 c.in_err-check_nodes.ensures)

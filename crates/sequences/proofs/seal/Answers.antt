-- `sequences::seal` meets its contract. Assumes nothing.
use Rattle.std.proofs.lemmas.Result.{err_from_is_err_and}
use Rattle.sequences.proofs.Sealing.{sealed_deep, sealed_over, sealed_there}
use Rattle.sequences.proofs.seal.Goals as goal

pub returns-in_err-close : goal.returns-in_err-close
returns-in_err-close c =
    let p = err_from_is_err_and c.from_residual.result c.from_residual.ensures.1 in
    rw (p.1, p.2) (sealed_deep c.args.types.now c.args.w.now _ c.args.base c.args.n c.args.besides c.close.result c.close.ensures c.requires.0 c.requires.2 c.in_err-close.was)

pub returns-in_err-check_live : goal.returns-in_err-check_live
returns-in_err-check_live c =
    let p = err_from_is_err_and c.from_residual-in_err-check_live.result c.from_residual-in_err-check_live.ensures.1 in
    rw (p.1, p.2) (sealed_over c.args.types.now c.args.w.now _ c.args.base c.args.n c.args.besides c.close.result c.close.ensures c.requires.0 c.requires.2 c.in_ok-close.was c.in_err-check_live.ensures)

pub returns : goal.returns
returns c = sealed_there c.args.types.now c.args.w.now _ c.args.base c.args.n c.args.besides c.close.result c.close.ensures c.requires.0 c.requires.2 c.in_ok-close.was c.in_ok-check_live.ensures

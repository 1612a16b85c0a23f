-- `calls::edit_at` meets its contract. Assumes nothing.
use Rattle.rewrite.specs.Vars.{vars_of}
use Rattle.calls.proofs.Applying.{edits_at}
use Rattle.calls.proofs.edit_at.Goals as goal

pub returns : goal.returns
returns c = let a = c.args in
    edits_at a.types.now a.w.now c.edit.new.w a.pairs.now a.at a.base a.n (vars_of a.places.now a.bound) a.under a.besides c.edit.result
    c.word-op.result c.word.result c.word-2.result c.start_in-first.result c.start_in-second.result c.word-op.ensures c.word.ensures c.word-2.ensures c.start_in-first.ensures.0 c.start_in-second.ensures.0 c.edit.ensures

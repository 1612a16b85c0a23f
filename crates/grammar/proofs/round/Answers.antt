use mathlib.Core.Path.{◌∙◌, sym}
use Rattle.grammar.proofs.Laws.{round_done, round_stop, round_more}
use Rattle.grammar.proofs.round.Goals as goal

pub returns-in-Err : goal.returns-in-Err
returns-in-Err c = round_stop c.args.ws.now c.args.known c.args.n c.args.n c.loop-t.t c.loop-t.at c.loop-t.flags c.loop-t-test.true c.in-Err.ensures ∙ sym c.loop-t.invariant

pub loop-t-preserved : goal.loop-t-preserved
loop-t-preserved c = c.loop-t.invariant ∙ round_more c.args.ws.now c.args.known c.args.n c.args.n c.loop-t.t c.loop-t.at c.loop-t.flags c.loop-t-test.true c.in-Ok.ensures

pub returns : goal.returns
returns c = round_done c.args.ws.now c.args.known c.args.n c.args.n c.loop-t.t c.loop-t.at c.loop-t.flags c.loop-t-test.false ∙ sym c.loop-t.invariant

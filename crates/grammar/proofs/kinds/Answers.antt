use mathlib.Core.Path.{◌∙◌, sym}
use Rattle.words.proofs.Laws.{exits, answer_done, answer_stop, answer_next, shown_ok, shown_err}
use Rattle.grammar.specs.Grammar.{kind, finishes}
use Rattle.grammar.proofs.kinds.Goals as goal

pub returns-in_err-next : goal.returns-in_err-next
returns-in_err-next c = exits c.from_residual.result c.from_residual.ensures ∙ answer_stop (kind c.args.ws.now c.args.n) c.args.k c.loop.counter c.loop.at c.loop-test.true (shown_err (finishes c.args.known.now) _ c.in_err-next.ensures) ∙ sym c.loop.invariant

pub loop-preserved : goal.loop-preserved
loop-preserved c = c.loop.invariant ∙ answer_next (kind c.args.ws.now c.args.n) c.args.k c.loop.counter c.loop.at c.loop-test.true (shown_ok (finishes c.args.known.now) _ c.in_ok-next.ensures).1

pub returns : goal.returns
returns c = answer_done (kind c.args.ws.now c.args.n) c.args.k c.loop.counter c.loop.at c.loop-test.false ∙ sym c.loop.invariant

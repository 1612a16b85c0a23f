use native.Mathlib.Omega.{arith}
use mathlib.Core.Path.{◌∙◌, sym, ap}
use Rattle.std.specs.Prelude.{Err}
use Rattle.words.proofs.Laws.{exits}
use Rattle.grammar.proofs.Laws.{records_done, records_endless, records_stop, records_next}
use Rattle.grammar.proofs.finite_records.Goals as goal

pub returns-then-not-flag : goal.returns-then-not-flag
returns-then-not-flag c = ap Err c.new.ensures ∙ records_endless c.args.ws.now c.args.known.now c.args.n c.loop-t.t c.loop-t.at (omega (arith, c.requires)) c.loop-t-test.true (sym c.flag.ensures ∙ c.if-not-flag.true) ∙ sym c.loop-t.invariant

pub returns-in_err-next : goal.returns-in_err-next
returns-in_err-next c = exits c.from_residual.result c.from_residual.ensures ∙ records_stop c.args.ws.now c.args.known.now c.args.n c.loop-t.t c.loop-t.at (omega (arith, c.requires)) c.loop-t-test.true (sym c.flag.ensures ∙ c.if-not-flag.false) c.in_err-next.ensures ∙ sym c.loop-t.invariant

pub loop-t-preserved : goal.loop-t-preserved
loop-t-preserved c = c.loop-t.invariant ∙ records_next c.args.ws.now c.args.known.now c.args.n c.loop-t.t c.loop-t.at (omega (arith, c.requires)) c.loop-t-test.true (sym c.flag.ensures ∙ c.if-not-flag.false) c.in_ok-next.ensures

pub returns : goal.returns
returns c = records_done c.args.ws.now c.args.known.now c.args.n c.loop-t.t c.loop-t.at (omega (arith, c.requires)) c.loop-t-test.false ∙ sym c.loop-t.invariant

use native.Mathlib.Omega.{arith}
use mathlib.Core.Path.{◌∙◌, ap}
use Rattle.std.specs.Prelude.{Err}
use Rattle.words.proofs.Laws.{exits}
use Rattle.grammar.proofs.Laws.{count_next, check_bad, check_stop, check_over, check_finite}
use Rattle.grammar.proofs.read_grammar.Goals as goal

pub returns-in_err-n : goal.returns-in_err-n
returns-in_err-n c = exits c.from_residual.result c.from_residual.ensures ∙ check_bad c.args.ws.now c.in_err-n.ensures

pub kinds-requires : goal.kinds-requires
kinds-requires c = let n = count_next c.args.ws.now c.in_ok-n.ensures in (n.1, n.2)

pub returns-in_err-end : goal.returns-in_err-end
returns-in_err-end c = exits c.from_residual-in_err-end.result c.from_residual-in_err-end.ensures ∙ check_stop c.args.ws.now c.in_ok-n.ensures c.in_err-end.ensures

pub returns-then-end-ws : goal.returns-then-end-ws
returns-then-end-ws c = ap Err c.new.ensures ∙ check_over c.args.ws.now c.in_ok-n.ensures c.in_ok-end.ensures c.if-end-ws.true

pub finite-known-requires : goal.finite-known-requires
finite-known-requires c = let n = count_next c.args.ws.now c.in_ok-n.ensures in (n.1, n.2)

pub finite_records-requires : goal.finite_records-requires
finite_records-requires c = let n = count_next c.args.ws.now c.in_ok-n.ensures in (n.1, n.2, omega (arith, c.finite-known.type_inv))

pub returns : goal.returns
returns c = check_finite c.args.ws.now c.in_ok-n.ensures c.in_ok-end.ensures c.if-end-ws.false _ c.finite-known.ensures _ c.finite_records.ensures

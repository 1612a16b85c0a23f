use native.Mathlib.Omega.{arith}
use mathlib.Core.Path.{◌∙◌, sym}
use Rattle.grammar.proofs.Laws.{flags_none, flags_next, flags_settled, flags_same}
use Rattle.grammar.proofs.finite.Goals as goal

pub loop-init : goal.loop-init
loop-init c = flags_none _

pub returns-then-eq : goal.returns-then-eq
returns-then-eq c = flags_settled c.loop.counter c.args.n _ c.loop.known c.round-next.result (omega (arith, c.loop-test.true)) c.loop.invariant c.round-next.ensures (flags_same _ _ (sym c.eq.ensures ∙ c.if-eq.true))

pub loop-preserved : goal.loop-preserved
loop-preserved c = flags_next c.loop.counter _ c.loop.known c.round-next.result c.loop.invariant c.round-next.ensures

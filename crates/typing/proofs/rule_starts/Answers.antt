use Rattle.typing.proofs.Check.{starts_more, starts_end}
use Rattle.typing.proofs.rule_starts.Goals as goal

pub loop-i-preserved : goal.loop-i-preserved
loop-i-preserved c =
    let m = starts_more c.args.types c.args.ws.now c.loop-i.starts _ c.args.n c.loop-i.i c.loop-i.at c.loop-i.invariant.stored c.loop-i-test.true c.loop-i.invariant.there c.read_rule.ensures in
    rw c.unwrap_or-at.ensures (record { there = m.0; stored = m.1 })

pub returns : goal.returns
returns c = starts_end c.args.types c.args.ws.now c.loop-i.starts _ c.args.n c.loop-i.i c.loop-i.at c.loop-i.invariant.stored c.loop-i-test.false

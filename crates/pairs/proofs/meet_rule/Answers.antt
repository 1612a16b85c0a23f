use native.Mathlib.Omega.{arith}
use Rattle.pairs.proofs.Heads.{head_few, headed_at, counted_other, counted_met}
use Rattle.pairs.proofs.meet_rule.Goals as goal

pub returns-then-pair-head : goal.returns-then-pair-head
returns-then-pair-head c = λ rule h Γ. rw c.second_at.ensures (counted_other _ _ _ c.in_ok-head.ensures rule (headed_at (c.rule_at.ensures c.requires.0) h) c.args.pair.second c.args.pair.at Γ c.if-pair-head.true c.args.stack.now)

pub push_arguments-requires : goal.push_arguments-requires
push_arguments-requires c = let few = head_few _ _ _ c.in_ok-head.ensures in (few.0, omega (arith, few.1, c.args.book.now.short), omega (arith, c.requires.1))

pub returns : goal.returns
returns c = λ rule h Γ. counted_met _ _ _ c.in_ok-head.ensures rule (headed_at (c.rule_at.ensures c.requires.0) h) c.args.pair.second c.args.pair.at Γ c.if-pair-head.false c.args.stack.now _ c.push_arguments.ensures

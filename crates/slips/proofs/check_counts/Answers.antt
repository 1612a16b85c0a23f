use mathlib.Core.Path.{◌∙◌}
use mathlib.Core.Logic.{⊎_elim}
use native.Mathlib.Omega.{arith}
use borrow.Author.Rules.{rules}
use Rattle.slips.proofs.Counts.{count_wrong, count_more, count_end}
use Rattle.slips.proofs.check_counts.Goals as goal

pub returns-then-node-size_in : goal.returns-then-node-size_in
returns-then-node-size_in c =
    let s = c.in-Some.ensures.steps in
    rw (c.new.ensures, s.1) (count_wrong c.loop-i.invariant.counts _ _ _ _ s.0.0.1.0 (s.0.0.1.1 ∙ c.loop-i.invariant.three) s.0.1.1.0 (s.0.1.1.1 ∙ c.loop-i.invariant.two) c.size_in.ensures.0 c.if-node-size_in.true)

pub loop-i-preserved : goal.loop-i-preserved
loop-i-preserved c =
    let s = c.in-Some.ensures.steps in
    record {
      goes = search rules;
      three = s.0.0.0 ∙ c.loop-i.invariant.three;
      two = s.0.1.0 ∙ c.loop-i.invariant.two;
      counts = rw s.2 (count_more c.loop-i.invariant.counts _ _ _ _ s.0.0.1.0 (s.0.0.1.1 ∙ c.loop-i.invariant.three) s.0.1.1.0 (s.0.1.1.1 ∙ c.loop-i.invariant.two) c.size_in.ensures.0 c.if-node-size_in.false);
    }

pub returns : goal.returns
returns c = count_end c.loop-i.invariant.counts (⊎_elim (λ x. omega (arith, x.1.1.0, c.loop-i.invariant.three)) (λ x. omega (arith, x.1.1.0, c.loop-i.invariant.two, c.loop-i.invariant.counts.pairs)) c.in-None.ensures.steps.0)

use mathlib.Core.Bool.{Bool-set}
use mathlib.Core.Path.{sym, ◌∙◌}
use native.Mathlib.Omega.{arith}
use Rattle.std.proofs.Math.Logic.{∥∥₁_elim}
use Rattle.judgement.specs.Typing.{rule_typed}
use Rattle.words.proofs.Laws.{exits, answer_passed, answer_refused, answer_done, answer_stop, answer_next}
use Rattle.typing.proofs.Check.{rule_accepted, rules_more}
use Rattle.typing.proofs.each_typed.Goals as goal

pub rule_typed-requires : goal.rule_typed-requires
rule_typed-requires c = rule_accepted c.args.book.now.types.now.types.count c.args.book.now.words.now _ c.loop.counter c.loop.at (omega (arith, c.count-end.ensures.0, c.loop-test.true)) c.loop.invariant.there

pub returns-in_err-at : goal.returns-in_err-at
returns-in_err-at c = λ g h rules b. exits c.from_residual.result c.from_residual.ensures
    ∙ answer_stop (rule_typed g rules c.args.book.now.words.now) _ c.loop.counter c.loop.at (omega (arith, c.count-end.ensures.0, c.loop-test.true)) (answer_refused (rule_typed g rules c.args.book.now.words.now c.loop.at) _ (c.rule_typed.ensures g h rules b) c.in_err-at.was)
    ∙ sym (c.loop.invariant.same g h rules b)

pub loop-preserved : goal.loop-preserved
loop-preserved c = record {
  there = ∥∥₁_elim c.args.book.now.given (Bool-set _ _) (λ G. rules_more c.args.book.now.types.now.types.count c.args.book.now.words.now _ c.loop.counter c.loop.at (omega (arith, c.count-end.ensures.0, c.loop-test.true)) c.loop.invariant.there G.grammar G.rules G.types_of.count_of (c.rule_typed.ensures G.grammar G.types_of G.rules G.book) c.in_ok-at.was);
  same = λ g h rules b. c.loop.invariant.same g h rules b ∙ answer_next (rule_typed g rules c.args.book.now.words.now) _ c.loop.counter c.loop.at (omega (arith, c.count-end.ensures.0, c.loop-test.true)) (answer_passed (rule_typed g rules c.args.book.now.words.now c.loop.at) _ (c.rule_typed.ensures g h rules b) c.in_ok-at.was).1;
}

pub returns : goal.returns
returns c = λ g h rules b. answer_done (rule_typed g rules c.args.book.now.words.now) _ c.loop.counter c.loop.at (omega (arith, c.count-end.ensures.0, c.loop-test.false)) ∙ sym (c.loop.invariant.same g h rules b)

use Rattle.marks.proofs.Blanks.{blank_short, blanks_asked}
use Rattle.tree.specs.Blanks.{is_blank}
use borrow.Author.Rules.{rules}
use borrow.Author.Tests.{tests}
use Rattle.marks.proofs.holds_blank.Goals as goal

pub returns-then-part-end : goal.returns-then-part-end
returns-then-part-end c = blank_short c.args.types.now c.args.part.now _ _ c.word.ensures c.size_in-end.ensures.0 c.if-part-end.true

pub returns : goal.returns
unfolding is_blank
returns c = blanks_asked c.args.types.now c.args.part.now _ _ c.word.ensures c.size_in-end.ensures.0 c.if-part-end.false c.chunks_exact.ensures.rest c.chunks_exact.ensures.size c.chunks_exact.ensures.runs (search (rules, tests)) (λ x k. search (rules, tests)) (λ x k. search (rules, tests)) _ c.any.ensures.runs

use borrow.Author.Rules.{rules}
use Rattle.convert.proofs.TokenClasses.{walk_inside, walk_end}
use Rattle.convert.proofs.tokens.forms_end.Goals as goal

pub overflow_add-at-in-loop : goal.overflow_add-at-in-loop
overflow_add-at-in-loop c = search (rules, walk_inside c.loop.invariant c.loop-test.true c.word-elements.ensures)

pub returns : goal.returns
returns c = walk_end c.loop.invariant c.loop-test.false

-- `rewrite::matches_variable` meets its contract. Assumes nothing.
use Rattle.rewrite.proofs.Matcher.{variable_other, variable_same}
use Rattle.rewrite.proofs.matches_variable.Goals as goal

pub returns-then-same_tree : goal.returns-then-same_tree
returns-then-same_tree c = variable_same c.args.types.now _ c.if-same_tree.true c.same_tree.ensures _ c.holds_blank.ensures

pub returns-else-same_tree : goal.returns-else-same_tree
returns-else-same_tree c = rw c.if-same_tree.false (variable_other c.args.types.now _ c.if-same_tree.false c.same_tree.ensures)

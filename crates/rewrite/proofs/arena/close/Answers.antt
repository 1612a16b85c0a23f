-- `rewrite::arena::close` meets its contract. Assumes nothing.
use Rattle.marks.specs.Marked.{nesting_in}
use mathlib.Core.Path.{ap, ◌∙◌}
use Rattle.rewrite.proofs.Closing.{closed_deep, closed_flat}
use Rattle.rewrite.proofs.arena.close.Goals as goal

pub returns-then-nesting_in-gt-MOST_NESTING : goal.returns-then-nesting_in-gt-MOST_NESTING
returns-then-nesting_in-gt-MOST_NESTING c = rw c.new.ensures (closed_deep c.args.types.now c.args.w.now _ c.args.top c.args.n c.nesting_in.result c.requires.1 c.mark_tree.ensures (c.nesting_in.ensures.0 ∙ ap nesting_in c.word.ensures) c.if-nesting_in-gt-MOST_NESTING.true)

pub returns-else-nesting_in-gt-MOST_NESTING : goal.returns-else-nesting_in-gt-MOST_NESTING
returns-else-nesting_in-gt-MOST_NESTING c = closed_flat c.args.types.now c.args.w.now _ c.args.top c.args.n c.nesting_in.result c.requires.1 c.mark_tree.ensures (c.nesting_in.ensures.0 ∙ ap nesting_in c.word.ensures) c.if-nesting_in-gt-MOST_NESTING.false

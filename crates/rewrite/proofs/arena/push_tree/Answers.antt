-- `rewrite::arena::push_tree` meets its contract. Assumes nothing.
use Rattle.rewrite.proofs.Leaves.{pushed_none, pushed_tree}
use Rattle.rewrite.proofs.arena.push_tree.Goals as goal

pub copy_up-requires : goal.copy_up-requires
copy_up-requires c = (c.requires.0 c.if-n-gt0.true, c.requires.1)

pub returns-then-n-gt0 : goal.returns-then-n-gt0
returns-then-n-gt0 c = pushed_tree c.args.w.now _ c.args.start c.args.to c.args.n c.copy_up.ensures

pub returns-else-n-gt0 : goal.returns-else-n-gt0
returns-else-n-gt0 c = pushed_none c.args.w.now c.args.start c.args.to c.args.n c.if-n-gt0.false

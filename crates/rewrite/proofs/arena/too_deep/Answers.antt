-- `rewrite::arena::too_deep` meets its contract. Assumes nothing.
use Rattle.marks.specs.Marked.{nesting_in}
use Rattle.rewrite.proofs.Placing.{deep_not, deep_by}
use mathlib.Core.Path.{ap, ◌∙◌}
use Rattle.rewrite.proofs.arena.too_deep.Goals as goal

pub returns-then-deepest-nesting_in : goal.returns-then-deepest-nesting_in
returns-then-deepest-nesting_in c = deep_not c.args.types.now c.args.w.now c.args.base c.args.n c.args.i c.args.from c.nesting_in-deepest.result c.requires.0 (c.nesting_in-deepest.ensures.0 ∙ ap nesting_in c.word.ensures) c.nesting_in.result (c.nesting_in.ensures.0 ∙ ap nesting_in c.word-2.ensures) c.if-deepest-nesting_in.true

pub returns : goal.returns
returns c = deep_by c.args.types.now c.args.w.now c.args.base c.args.n c.args.i c.args.from c.nesting_in-deepest.result c.requires.0 (c.nesting_in-deepest.ensures.0 ∙ ap nesting_in c.word.ensures) c.nesting_at-above.result c.nesting_at-above.ensures.0

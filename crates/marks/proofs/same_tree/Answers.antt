-- `marks::same_tree` meets its contract. Assumes nothing.
use mathlib.Core.Path.{◌∙◌}
use Rattle.words.proofs.Stretches.{pointwise_equal}
use Rattle.marks.proofs.Same.{same_sizes, same_arena, same_part, same_words}
use Rattle.marks.proofs.same_tree.Goals as goal
use Rattle.marks.proofs.same_tree.Goals.{then-n-m-via-then-n-m, then-n-m-via-else-n-m+then-arena-end, then-n-m-via-else-n-m+else-arena-end+then-part-m}

pub returns-then-n-m : goal.returns-then-n-m
returns-then-n-m c = elim c.then-n-m.branch [
  | then-n-m-via-then-n-m w ↦ same_sizes c.args.arena.now c.args.part.now c.args.start _ _ _ _ c.word.ensures c.word-2.ensures c.size_in-n.ensures.0 c.size_in-m.ensures.0 w.if-n-m.true
  | then-n-m-via-else-n-m+then-arena-end w ↦ same_arena c.args.arena.now c.args.part.now c.args.start _ _ _ _ c.word.ensures c.word-2.ensures c.size_in-n.ensures.0 c.size_in-m.ensures.0 w.if-arena-end.true
  | then-n-m-via-else-n-m+else-arena-end+then-part-m w ↦ same_part c.args.arena.now c.args.part.now c.args.start _ _ _ _ c.word.ensures c.word-2.ensures c.size_in-n.ensures.0 c.size_in-m.ensures.0 w.if-part-m.true
]

pub returns : goal.returns
returns c = same_words c.args.arena.now c.args.part.now c.args.start _ _ _ _ c.word.ensures c.word-2.ensures c.size_in-n.ensures.0 c.size_in-m.ensures.0 c.if-n-m.false _ (c.eq.ensures ∙ pointwise_equal _ _)

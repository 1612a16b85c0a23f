use mathlib.Core.Path.{refl}
use Rattle.sequences.proofs.Walking.{walking_start, walking_done, walking_last, walking_past, walking_more}
use mathlib.Core.Path.{◌≡◌, subst}
use Rattle.sequences.specs.Listed.{Walks}
use native.Mathlib.Omega.{arith}
use Rattle.sequences.proofs.walk.Goals as goal
use Rattle.sequences.proofs.walk.Goals.{then-word-ne0-via-then-word-ne0, then-word-ne0-via-else-word-ne0+then-n-next}

pub loop-passed-init : goal.loop-passed-init
loop-passed-init c = walking_start c.args.w.now c.args.base c.args.n c.args.most

pub loop-passed-preserved : goal.loop-passed-preserved
loop-passed-preserved c = walking_more c.args.w.now c.args.base c.args.n c.args.most c.loop-passed.node c.loop-passed.passed c.loop-passed.invariant _ _ c.size_at.ensures.0 refl _ c.word.ensures c.if-word-ne0.false c.loop-passed-test.true c.if-n-next.false

pub returns-then-word-ne0 : goal.returns-then-word-ne0
returns-then-word-ne0 c = elim c.then-word-ne0.branch [
  | then-word-ne0-via-then-word-ne0 w ↦ walking_last c.args.w.now c.args.base c.args.n c.args.most c.loop-passed.node c.loop-passed.passed c.loop-passed.invariant _ c.word.ensures w.if-word-ne0.true
  | then-word-ne0-via-else-word-ne0+then-n-next w ↦ walking_past c.args.w.now c.args.base c.args.n c.args.most c.loop-passed.node c.loop-passed.passed c.loop-passed.invariant _ _ c.size_at.ensures.0 refl _ c.word.ensures w.if-word-ne0.false c.loop-passed-test.true w.if-n-next.true
]

pub returns : goal.returns
returns c = let e : c.loop-passed.passed ≡ c.args.most = omega (arith, c.loop-passed.auto.passed-end, c.loop-passed-test.false) in subst (λ k. Walks c.args.w.now c.args.base c.args.n c.args.most (record { node = c.loop-passed.node; passed = k })) e (walking_done c.args.w.now c.args.base c.args.n c.args.most c.loop-passed.node c.loop-passed.passed c.loop-passed.invariant c.loop-passed-test.false)

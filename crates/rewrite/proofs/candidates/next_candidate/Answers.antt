use Rattle.rewrite.proofs.Clashing.{passing_start, candidate_found, candidate_begun, candidate_fails}
use native.Mathlib.Omega.{arith}
use Rattle.rewrite.proofs.candidates.next_candidate.Goals as goal

pub loop-first-init : goal.loop-first-init
loop-first-init c = passing_start _ _ _ _ _ _ _

pub next_start-next-requires : goal.next_start-next-requires
next_start-next-requires c = λ h. let r = c.requires.3 h in omega (arith, r.0, r.1)

pub overflow_mul-p : goal.overflow_mul-p
overflow_mul-p c = let h = c.requires.3 (omega (arith, c.if-last-next.false)) in omega (arith, h.0, h.1, c.if-last-next.false)

pub overflow_add-p : goal.overflow_add-p
overflow_add-p c = let h = c.requires.3 (omega (arith, c.if-last-next.false)) in omega (arith, h.0, h.1, c.if-last-next.false)

pub offset_bounds-w-p : goal.offset_bounds-w-p
offset_bounds-w-p c = let h = c.requires.3 (omega (arith, c.if-last-next.false)) in omega (arith, h.0, h.1, c.if-last-next.false)

pub slice_bounds-clashes_later-count : goal.slice_bounds-clashes_later-count
slice_bounds-clashes_later-count c = let h = c.requires.3 (omega (arith, c.if-last-next.false)) in omega (arith, h.0, h.1, c.if-last-next.false)

pub slice_bounds-clashes_later-start : goal.slice_bounds-clashes_later-start
slice_bounds-clashes_later-start c = let h = c.requires.3 (omega (arith, c.if-last-next.false)) in omega (arith, h.0, h.1, c.if-last-next.false)

pub slice_bounds-clashes_later-end : goal.slice_bounds-clashes_later-end
slice_bounds-clashes_later-end c = let h = c.requires.3 (omega (arith, c.if-last-next.false)) in omega (arith, h.0, h.1, c.if-last-next.false)

pub clashes_later-requires : goal.clashes_later-requires
clashes_later-requires c = (c.requires.0, c.requires.2, candidate_begun _ _ _ _ _ _ _ _ _ _ c.requires.1 c.requires.2 c.requires.3 _ _ c.loop-first.invariant _ c.next_start-next.ensures c.if-last-next.false (c.looks_further-further.ensures c.if-not-further.false) (omega (arith, c.if-next-eq0.false)))

pub returns-then-not-clashes_later : goal.returns-then-not-clashes_later
returns-then-not-clashes_later c = candidate_found _ _ _ _ _ _ _ _ _ _ c.requires.1 c.requires.2 c.requires.3 _ _ c.loop-first.invariant _ c.next_start-next.ensures

pub overflow_add-node : goal.overflow_add-node
overflow_add-node c = omega (arith, c.if-last-next.false)

pub loop-first-smaller : goal.loop-first-smaller
loop-first-smaller c = omega (arith, c.if-last-next.false, c.next_start-next.ensures.next.node_is)

pub loop-first-preserved : goal.loop-first-preserved
loop-first-preserved c = candidate_fails _ _ _ _ _ _ _ _ _ _ c.requires.1 c.requires.2 c.requires.3 _ _ c.loop-first.invariant _ c.next_start-next.ensures c.if-last-next.false _ (omega (arith, c.if-next-eq0.false)) (c.clashes_later.ensures c.if-not-clashes_later.false)

pub returns-then-not-further : goal.returns-then-not-further
returns-then-not-further c = candidate_found _ _ _ _ _ _ _ _ _ _ c.requires.1 c.requires.2 c.requires.3 _ _ c.loop-first.invariant _ c.next_start-next.ensures

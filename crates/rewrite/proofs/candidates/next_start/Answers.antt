use Rattle.rewrite.proofs.Clashing.{passing_start, passing_other, passing_fail, start_found}
use mathlib.Core.Path.{refl, sym, ◌∙◌}
use native.Mathlib.Omega.{arith}
use Rattle.rewrite.proofs.candidates.next_start.Goals as goal
use Rattle.rewrite.proofs.candidates.next_start.Goals.{then-allows-via-then-allows, then-allows-via-else-allows+then-left-eq0, then-type_in-target+else-allows+else-left-eq0, else-type_in-target}

pub loop-node-init : goal.loop-node-init
loop-node-init c = passing_start _ _ _ _ _ _ _

pub overflow_mul-p : goal.overflow_mul-p
overflow_mul-p c = let h = c.requires (omega (arith, c.loop-node-test.true)) in omega (arith, h, c.loop-node-test.true)

pub overflow_add-p : goal.overflow_add-p
overflow_add-p c = let h = c.requires (omega (arith, c.loop-node-test.true)) in omega (arith, h, c.loop-node-test.true)

pub offset_bounds-w-p : goal.offset_bounds-w-p
offset_bounds-w-p c = let h = c.requires (omega (arith, c.loop-node-test.true)) in omega (arith, h, c.loop-node-test.true)

pub bounds-w-p : goal.bounds-w-p
bounds-w-p c = let h = c.requires (omega (arith, c.loop-node-test.true)) in omega (arith, h, c.loop-node-test.true)

pub overflow_add-node : goal.overflow_add-node
overflow_add-node c = omega (arith, c.loop-node-test.true)

pub loop-node-smaller : goal.loop-node-smaller
loop-node-smaller c = omega (arith, c.loop-node-test.true)

pub returns : goal.returns
returns c = start_found _ _ _ _ _ _ _ _ _ c.loop-node.invariant (λ h. absurd (omega (arith, c.loop-node-test.false))) (λ h k. absurd (omega (arith, c.loop-node-test.false)))

pub returns-then-allows : goal.returns-then-allows
returns-then-allows c = elim c.then-allows.branch [
  | then-allows-via-then-allows w ↦ start_found _ _ _ _ _ _ _ _ _ c.loop-node.invariant (λ h. sym c.type_in.ensures ∙ c.if-type_in-target.true) (λ h k. sym c.allows.ensures ∙ w.if-allows.true)
  | then-allows-via-else-allows+then-left-eq0 w ↦ start_found _ _ _ _ _ _ _ _ _ c.loop-node.invariant (λ h. sym c.type_in.ensures ∙ c.if-type_in-target.true) (λ h k. absurd (omega (arith, k, w.if-left-eq0.true)))
]

pub loop-node-preserved : goal.loop-node-preserved
loop-node-preserved c = elim c.if-type_in-target.branch [
  | then-type_in-target+else-allows+else-left-eq0 w ↦ rw w.left-is (passing_fail _ _ _ _ _ _ _ _ _ c.loop-node.invariant c.loop-node-test.true _ refl (sym c.type_in.ensures ∙ w.if-type_in-target.true) _ (omega (arith, w.if-left-eq0.false)) (sym w.allows.ensures ∙ w.if-allows.false))
  | else-type_in-target w ↦ rw w.left-is (passing_other _ _ _ _ _ _ _ _ _ c.loop-node.invariant c.loop-node-test.true _ refl (λ q. w.if-type_in-target.false (c.type_in.ensures ∙ q)))
]

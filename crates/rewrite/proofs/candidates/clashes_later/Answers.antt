use Rattle.rewrite.proofs.Clashing.{clashing_begun, clashing_type, clashing_value, clashing_node, clashing_other, clashing_new}
use mathlib.Core.Path.{◌≡◌, refl, sym, ◌∙◌}
use Prim.Native.Nat.{ℕ}
use native.Mathlib.Omega.{arith}
use Rattle.rewrite.proofs.candidates.clashes_later.Goals as goal
use Rattle.rewrite.proofs.candidates.clashes_later.Goals.{then-type_in-t-via-then-type_in-t, then-type_in-t-via-else-type_in-t+then-part-p-2, then-t-eq-MARK_NEW+else-type_in-v+else-total-n-gt-MOST_LIVE, else-t-eq-MARK_NEW+else-type_in-t+else-part-p-2}

pub loop-i-init : goal.loop-i-init
loop-i-init c = let p = c.requires in clashing_begun c.args.pairs.now c.args.part.now c.args.live p.1 p.2.0 p.2.1 p.2.2

pub overflow_sub-pairs : goal.overflow_sub-pairs
overflow_sub-pairs c = omega (arith, c.loop-i.invariant.read)

pub overflow_add-p : goal.overflow_add-p
overflow_add-p c = omega (arith, c.loop-i.invariant.near, c.loop-i.invariant.read, c.requires.0)

pub returns-then-part-p : goal.returns-then-part-p
returns-then-part-p c = λ e. let z : ◌≡◌ {A = ℕ} 0 1 = cc in absurd (omega arith)

pub bounds-pairs-i : goal.bounds-pairs-i
bounds-pairs-i c = omega (arith, c.loop-i.invariant.read, c.loop-i-test.true)

pub overflow_add-v : goal.overflow_add-v
overflow_add-v c = omega (arith, c.loop-i.invariant.read, c.loop-i-test.true)

pub bounds-pairs-i-in-loop-i : goal.bounds-pairs-i-in-loop-i
bounds-pairs-i-in-loop-i c = omega (arith, c.loop-i.invariant.read, c.loop-i-test.true)

pub bounds-part-p : goal.bounds-part-p
bounds-part-p c = omega (arith, c.if-part-p.false)

pub returns-then-type_in-v : goal.returns-then-type_in-v
returns-then-type_in-v c = λ e. clashing_other c.args.pairs.now c.args.part.now c.args.live c.loop-i.total c.loop-i.i c.loop-i.p c.loop-i.invariant c.loop-i-test.true c.if-part-p.false _ refl c.if-t-eq-MARK_NEW.true (λ q. c.if-type_in-v.true (c.type_in.ensures ∙ q))

pub overflow_add-total : goal.overflow_add-total
overflow_add-total c = omega (arith, c.loop-i.invariant.fits, c.size_in-n.ensures.1)

pub returns-then-total-n-gt-MOST_LIVE : goal.returns-then-total-n-gt-MOST_LIVE
returns-then-total-n-gt-MOST_LIVE c = λ e. let z : ◌≡◌ {A = ℕ} 0 1 = cc in absurd (omega arith)

pub overflow_add-total-then-t-eq-MARK_NEW : goal.overflow_add-total-then-t-eq-MARK_NEW
overflow_add-total-then-t-eq-MARK_NEW c = omega (arith, c.loop-i.invariant.fits, c.size_in-n.ensures.1)

pub overflow_add-p-then-t-eq-MARK_NEW : goal.overflow_add-p-then-t-eq-MARK_NEW
overflow_add-p-then-t-eq-MARK_NEW c = omega (arith, c.loop-i.invariant.near, c.loop-i.invariant.read, c.requires.0, c.size_in-n.ensures.1)

pub overflow_add-i : goal.overflow_add-i
overflow_add-i c = omega (arith, c.loop-i.invariant.read, c.loop-i-test.true)

pub returns-then-t-eq-MARK_VARIABLE : goal.returns-then-t-eq-MARK_VARIABLE
returns-then-t-eq-MARK_VARIABLE c = λ e. let z : ◌≡◌ {A = ℕ} 0 1 = cc in absurd (omega arith)

pub loop-i-smaller : goal.loop-i-smaller
loop-i-smaller c = omega (arith, c.loop-i.invariant.read, c.loop-i-test.true)

pub returns : goal.returns
returns c = λ e. let z : ◌≡◌ {A = ℕ} 0 1 = cc in absurd (omega arith)

pub returns-then-type_in-t : goal.returns-then-type_in-t
returns-then-type_in-t c = λ e. elim c.then-type_in-t.branch [
  | then-type_in-t-via-then-type_in-t w ↦ clashing_type c.args.pairs.now c.args.part.now c.args.live c.loop-i.total c.loop-i.i c.loop-i.p c.loop-i.invariant c.loop-i-test.true c.if-part-p.false _ refl c.if-t-eq-MARK_NEW.false c.if-t-eq-MARK_VARIABLE.false (λ q. w.if-type_in-t.true (c.type_in-else-t-eq-MARK_NEW.ensures ∙ q))
  | then-type_in-t-via-else-type_in-t+then-part-p-2 w ↦ clashing_value c.args.pairs.now c.args.part.now c.args.live c.loop-i.total c.loop-i.i c.loop-i.p c.loop-i.invariant c.loop-i-test.true c.if-part-p.false _ refl c.if-t-eq-MARK_NEW.false c.if-t-eq-MARK_VARIABLE.false _ refl (sym c.type_in-else-t-eq-MARK_NEW.ensures ∙ w.if-type_in-t.false) w.if-part-p-2.true
]

pub loop-i-preserved : goal.loop-i-preserved
loop-i-preserved c = elim c.if-t-eq-MARK_NEW.branch [
  | then-t-eq-MARK_NEW+else-type_in-v+else-total-n-gt-MOST_LIVE w ↦ rw (w.total-is, w.p-is) (clashing_new c.args.pairs.now c.args.part.now c.args.live c.loop-i.total c.loop-i.i c.loop-i.p c.loop-i.invariant c.loop-i-test.true c.if-part-p.false _ refl w.if-t-eq-MARK_NEW.true (sym w.type_in.ensures ∙ w.if-type_in-v.false) _ w.size_in-n.ensures.0 w.size_in-n.ensures.1 w.if-total-n-gt-MOST_LIVE.false)
  | else-t-eq-MARK_NEW+else-type_in-t+else-part-p-2 w ↦ rw (w.total-is, w.p-is) (clashing_node c.args.pairs.now c.args.part.now c.args.live c.loop-i.total c.loop-i.i c.loop-i.p c.loop-i.invariant c.loop-i-test.true c.if-part-p.false _ refl w.if-t-eq-MARK_NEW.false c.if-t-eq-MARK_VARIABLE.false _ refl (sym w.type_in-else-t-eq-MARK_NEW.ensures ∙ w.if-type_in-t.false) w.if-part-p-2.false)
]

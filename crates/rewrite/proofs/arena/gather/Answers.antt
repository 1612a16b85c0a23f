use Rattle.rewrite.specs.Vars.{vars_of}
use Rattle.rewrite.proofs.Leaves.{gathering_start, gathering_end, gathering_more}
use native.Mathlib.Omega.{arith}
use mathlib.Core.Path.{◌≡◌, refl}
use Rattle.rewrite.proofs.arena.gather.Goals as goal

pub loop-i-init : goal.loop-i-init
loop-i-init c = gathering_start c.args.w.now c.args.pairs.now c.args.at c.args.n (vars_of c.args.places.now c.args.bound) c.args.given.now c.requires.2

pub overflow_mul-i : goal.overflow_mul-i
overflow_mul-i c = omega (arith, c.loop-i.invariant.few)

pub overflow_add-at : goal.overflow_add-at
overflow_add-at c = omega (arith, c.loop-i.invariant.few, c.requires.0)

pub overflow_add-at-in-loop-i : goal.overflow_add-at-in-loop-i
overflow_add-at-in-loop-i c = omega (arith, c.loop-i.invariant.few, c.requires.0)

pub bounds-given-i : goal.bounds-given-i
bounds-given-i c = omega (arith, c.loop-i-test.true, c.min-count.ensures, c.loop-i.invariant.sound.room)

pub overflow_add-total : goal.overflow_add-total
overflow_add-total c = omega (arith, c.loop-i.invariant.small, c.loop-i.invariant.few, c.size_at-total.ensures.1)

pub loop-i-preserved : goal.loop-i-preserved
loop-i-preserved c = gathering_more c.args.w.now c.args.pairs.now c.args.at c.args.n (vars_of c.args.places.now c.args.bound) (vars_of c.loop-i.given c.loop-i.i) c.loop-i.total c.loop-i.i c.loop-i.invariant c.requires.1 (omega (arith, c.loop-i-test.true, c.min-count.ensures)) c.word.ensures c.start_in-start.ensures.0 refl c.size_at-total.ensures.0 c.size_at-total.ensures.1

pub returns : goal.returns
returns c = let e : c.min-count.result ≡ c.loop-i.i = omega (arith, c.loop-i.auto.i-end, c.loop-i-test.false) in rw e (gathering_end c.args.w.now c.args.pairs.now c.args.at c.args.n (vars_of c.args.places.now c.args.bound) (vars_of c.loop-i.given c.loop-i.i) c.loop-i.total c.loop-i.i c.loop-i.invariant (omega (arith, c.loop-i-test.false, c.min-count.ensures)))

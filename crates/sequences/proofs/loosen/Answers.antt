use native.Mathlib.Omega.{arith}
use Rattle.sequences.proofs.Loosening.{loosening_start, loosening_more, loosening_end}
use mathlib.Core.Path.{◌≡◌}
use Prim.Native.Nat.{◌+◌}
use Rattle.sequences.proofs.loosen.Goals as goal

pub loop-i-init : goal.loop-i-init
loop-i-init c = loosening_start c.args.w.now c.args.base c.args.k

pub bounds-w-p : goal.bounds-w-p
bounds-w-p c = omega (arith, c.loop-i.invariant.long, c.requires.1, c.loop-i-test.true)

pub bounds-w-p-in-loop-i : goal.bounds-w-p-in-loop-i
bounds-w-p-in-loop-i c = omega (arith, c.loop-i.invariant.long, c.requires.1, c.loop-i-test.true)

pub bounds-w-p-in-loop-i-2 : goal.bounds-w-p-in-loop-i-2
bounds-w-p-in-loop-i-2 c = omega (arith, c.loop-i.invariant.long, c.requires.1, c.loop-i-test.true)

pub loop-i-preserved : goal.loop-i-preserved
loop-i-preserved c = let e : c.loop-i.i + (1 + c.size_in-n.result) ≡ c.loop-i.i + 1 + c.size_in-n.result = omega arith in rw e (loosening_more c.args.w.now c.loop-i.w c.args.base c.args.k c.loop-i.i c.loop-i.invariant c.size_in-n.result c.type_in.result c.size_in-n.ensures.0 c.size_in-n.ensures.1 c.type_in.ensures c.requires.1 c.requires.0 c.loop-i-test.true)

pub shape_of-w : goal.shape_of-w
shape_of-w c = c.loop-i.invariant.long

pub returns : goal.returns
returns c = loosening_end c.args.w.now c.loop-i.w c.args.base c.args.k c.loop-i.i c.loop-i.invariant c.loop-i-test.false

use Rattle.sequences.proofs.Collecting.{collecting_start, collecting_end, collecting_other, collecting_none, collecting_past, collecting_over, collecting_more}
use native.Mathlib.Omega.{arith}
use mathlib.Core.Path.{refl}
use borrow.Author.Rules.{rules}
use mathlib.Core.Path.{◌≡◌}
use Prim.Native.Nat.{◌+◌}
use Rattle.sequences.proofs.collect.Goals.{then-n-eq0-via-then-n-eq0, then-n-eq0-via-else-n-eq0+then-m-i}
use Rattle.sequences.proofs.collect.Goals as goal

pub loop-i-init : goal.loop-i-init
loop-i-init c = collecting_start c.args.w.now c.args.e c.args.t c.args.base c.args.k c.args.start c.args.m c.args.most c.requires.0

pub overflow_add-p : goal.overflow_add-p
overflow_add-p c = let low = c.requires.3 (omega (arith, c.loop-i-test.true)) in search rules

pub offset_bounds-w-p : goal.offset_bounds-w-p
offset_bounds-w-p c = let low = c.requires.3 (omega (arith, c.loop-i-test.true)) in search rules

pub bounds-w-p : goal.bounds-w-p
bounds-w-p c = omega (arith, c.loop-i.invariant.long, c.loop-i-test.true, c.requires.3 (omega (arith, c.loop-i-test.true)), c.requires.4)

pub loop-i-preserved-then-type_in-e : goal.loop-i-preserved-then-type_in-e
loop-i-preserved-then-type_in-e c = collecting_other c.args.w.now c.loop-i.w c.args.e c.args.t c.args.base c.args.k c.args.start c.args.m c.args.most c.loop-i.nodes c.loop-i.i c.loop-i.invariant _ refl c.loop-i-test.true _ c.type_in.ensures c.if-type_in-e.true

pub shape_of-w-then-n-eq0 : goal.shape_of-w-then-n-eq0
shape_of-w-then-n-eq0 c = c.loop-i.invariant.long

pub returns-then-n-eq0 : goal.returns-then-n-eq0
returns-then-n-eq0 c = elim c.then-n-eq0.branch [
  | then-n-eq0-via-then-n-eq0 w ↦ collecting_none c.args.w.now c.loop-i.w c.args.e c.args.t c.args.base c.args.k c.args.start c.args.m c.args.most c.loop-i.nodes c.loop-i.i c.loop-i.invariant _ refl c.loop-i-test.true _ _ c.size_in-n.ensures.0 c.type_in.ensures c.if-type_in-e.false w.if-n-eq0.true
  | then-n-eq0-via-else-n-eq0+then-m-i w ↦ collecting_past c.args.w.now c.loop-i.w c.args.e c.args.t c.args.base c.args.k c.args.start c.args.m c.args.most c.loop-i.nodes c.loop-i.i c.loop-i.invariant _ refl c.loop-i-test.true _ _ c.size_in-n.ensures.0 c.type_in.ensures c.if-type_in-e.false w.if-m-i.true
]

pub shape_of-w-then-most-nodes : goal.shape_of-w-then-most-nodes
shape_of-w-then-most-nodes c = c.loop-i.invariant.long

pub returns-then-most-nodes : goal.returns-then-most-nodes
returns-then-most-nodes c = rw c.new.ensures (collecting_over c.args.w.now c.loop-i.w c.args.e c.args.t c.args.base c.args.k c.args.start c.args.m c.args.most c.loop-i.nodes c.loop-i.i c.loop-i.invariant _ refl c.loop-i-test.true _ _ c.size_in-n.ensures.0 c.type_in.ensures c.if-type_in-e.false c.if-most-nodes.true)

pub extend-requires : goal.extend-requires
extend-requires c = (λ some. omega (arith, c.loop-i-test.true, c.if-m-i.false, c.requires.3 (omega (arith, c.loop-i-test.true))), omega (arith, c.loop-i.invariant.long, c.requires.1, c.requires.4, c.if-most-nodes.false))

pub loop-i-preserved : goal.loop-i-preserved
loop-i-preserved c = let n : c.loop-i.nodes + (1 + c.size_in-n.result) ≡ c.loop-i.nodes + 1 + c.size_in-n.result = omega arith in rw n (collecting_more c.args.w.now c.loop-i.w c.args.e c.args.t c.args.base c.args.k c.args.start c.args.m c.args.most c.loop-i.nodes c.loop-i.i c.loop-i.invariant _ refl c.loop-i-test.true _ _ c.size_in-n.ensures.0 c.type_in.ensures c.if-type_in-e.false c.if-most-nodes.false (omega (arith, c.loop-i.invariant.long, c.loop-i.invariant.few, c.requires.1, c.requires.4)) _ c.extend.auto.w c.extend.ensures c.if-m-i.false)

pub shape_of-w : goal.shape_of-w
shape_of-w c = c.loop-i.invariant.long

pub returns : goal.returns
returns c = collecting_end c.args.w.now c.loop-i.w c.args.e c.args.t c.args.base c.args.k c.args.start c.args.m c.args.most c.loop-i.nodes c.loop-i.i c.loop-i.invariant c.loop-i-test.false

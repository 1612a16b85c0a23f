use Rattle.tree.proofs.Reading.{walk_bad, walk_refused, walk_next, walk_more, node_bad, node_room, node_children, sequence_room, sequence_end, sequence_turn, children_end, children_turn, part_fits}
use Rattle.tree.specs.Views.{nesting_at}
use Rattle.tree.specs.Limits.{most_tree_words}
use Rattle.words.proofs.Laws.{exits}
use Rattle.words.proofs.Stretches.{part_rest}
use native.Mathlib.Omega.{arith}
use Prim.Native.Nat.{◌-◌}
use Rattle.tree.proofs.+reading.Goals as goal

pub children-returns-in_err-at : goal.children-returns-in_err-at
children-returns-in_err-at t c =
    let turn = children_turn (nesting_at c.args.left) c.args.t c.args.v c.loop-i.i c.loop-i.invariant c.child_count-i-end.ensures.count c.loop-i-test.true
    c.child-child.result c.child-child.ensures in
    rw (exits c.from_residual.result c.from_residual.ensures)
    (walk_refused turn (part_rest (c.loop-i.at - c.args.start) c.args.s.now) c.node.ensures c.in_err-at.was)

pub children-loop-i-preserved : goal.children-loop-i-preserved
children-loop-i-preserved t c =
    let turn = children_turn (nesting_at c.args.left) c.args.t c.args.v c.loop-i.i c.loop-i.invariant c.child_count-i-end.ensures.count c.loop-i-test.true
    c.child-child.result c.child-child.ensures in
    walk_more turn (part_rest (c.loop-i.at - c.args.start) c.args.s.now) c.node.ensures c.in_ok-at.was

pub children-returns : goal.children-returns
children-returns t c =
    children_end (nesting_at c.args.left) c.args.t c.args.v c.loop-i.i c.loop-i.invariant c.child_count-i-end.ensures.count c.loop-i-test.false

pub node-returns-in_err-v : goal.node-returns-in_err-v
node-returns-in_err-v t c =
    rw (exits c.from_residual.result c.from_residual.ensures)
    (node_bad c.args.types.now c.args.s.now c.args.at c.args.d c.args.left c.requires.1 c.head.ensures c.in_err-v.was)

pub node-overflow_sub-left : goal.node-overflow_sub-left
node-overflow_sub-left t c =
    let r = node_room c.args.types.now c.args.s.now c.args.at c.args.d c.args.left c.requires.1 c.head.ensures c.in_ok-v.was in
    omega (arith, r.0)

pub node-slice_bounds-children-count : goal.node-slice_bounds-children-count
node-slice_bounds-children-count t c =
    let r = node_room c.args.types.now c.args.s.now c.args.at c.args.d c.args.left c.requires.1 c.head.ensures c.in_ok-v.was in
    omega (arith, r.1)

pub node-slice_bounds-children-start : goal.node-slice_bounds-children-start
node-slice_bounds-children-start t c =
    let r = node_room c.args.types.now c.args.s.now c.args.at c.args.d c.args.left c.requires.1 c.head.ensures c.in_ok-v.was in
    omega (arith, r.1)

pub node-children-requires : goal.node-children-requires
node-children-requires t c =
    let r = node_room c.args.types.now c.args.s.now c.args.at c.args.d c.args.left c.requires.1 c.head.ensures c.in_ok-v.was in
    (omega arith, (part_fits c.args.s.now c.args.at 2 most_tree_words c.requires.0 r.1 r.2, omega (arith, c.requires.1)))

pub node-returns : goal.node-returns
node-returns t c =
    node_children c.args.types.now c.args.s.now c.args.at c.args.d c.args.left c.requires.1 c.head.ensures c.in_ok-v.was c.is_sequence.ensures
    c.if-is_sequence.false (part_rest 2 c.args.s.now) c.children.ensures

pub sequence-returns-in_err-v : goal.sequence-returns-in_err-v
sequence-returns-in_err-v t c =
    let part = part_rest (c.loop-v.at - c.args.start) c.args.s.now in
    rw (exits c.from_residual.result c.from_residual.ensures) (walk_bad c.loop-v.invariant part c.head.ensures c.in_err-v.was)

pub sequence-returns-then-v-ne0 : goal.sequence-returns-then-v-ne0
sequence-returns-then-v-ne0 t c =
    let part = part_rest (c.loop-v.at - c.args.start) c.args.s.now in
    sequence_end c.args.left c.requires.1 c.loop-v.invariant part c.head.ensures c.requires.2 c.in_ok-v.was c.if-v-ne0.true

pub sequence-overflow_sub-left : goal.sequence-overflow_sub-left
sequence-overflow_sub-left t c =
    let part = part_rest (c.loop-v.at - c.args.start) c.args.s.now in
    let r = sequence_room c.args.left c.requires.1 c.loop-v.invariant part c.head.ensures c.requires.2 c.in_ok-v.was in
    omega (arith, r.0)

pub sequence-overflow_sub-next : goal.sequence-overflow_sub-next
sequence-overflow_sub-next t c =
    let part = part_rest (c.loop-v.at - c.args.start) c.args.s.now in
    let r = sequence_room c.args.left c.requires.1 c.loop-v.invariant part c.head.ensures c.requires.2 c.in_ok-v.was in
    omega (arith, r.2, c.loop-v.invariant.from)

pub sequence-offset_bounds-s-next : goal.sequence-offset_bounds-s-next
sequence-offset_bounds-s-next t c =
    let part = part_rest (c.loop-v.at - c.args.start) c.args.s.now in
    let r = sequence_room c.args.left c.requires.1 c.loop-v.invariant part c.head.ensures c.requires.2 c.in_ok-v.was in
    omega (arith, r.1, r.2, c.requires.0)

pub sequence-slice_bounds-node-count : goal.sequence-slice_bounds-node-count
sequence-slice_bounds-node-count t c =
    let part = part_rest (c.loop-v.at - c.args.start) c.args.s.now in
    let r = sequence_room c.args.left c.requires.1 c.loop-v.invariant part c.head.ensures c.requires.2 c.in_ok-v.was in
    omega (arith, r.1, r.2)

pub sequence-slice_bounds-node-start : goal.sequence-slice_bounds-node-start
sequence-slice_bounds-node-start t c =
    let part = part_rest (c.loop-v.at - c.args.start) c.args.s.now in
    let r = sequence_room c.args.left c.requires.1 c.loop-v.invariant part c.head.ensures c.requires.2 c.in_ok-v.was in
    omega (arith, r.1, r.2)

pub sequence-node-requires : goal.sequence-node-requires
sequence-node-requires t c =
    let part = part_rest (c.loop-v.at - c.args.start) c.args.s.now in
    let r = sequence_room c.args.left c.requires.1 c.loop-v.invariant part c.head.ensures c.requires.2 c.in_ok-v.was in (
      omega arith,
      (
        part_fits c.args.s.now c.args.start (c.in_ok-v.next - c.args.start) most_tree_words c.requires.0
            (omega (arith, r.1, r.2)) (omega (arith, r.2, c.loop-v.invariant.from)),
        omega (arith, c.requires.1),
      ),
    )

pub sequence-returns-in_err-at : goal.sequence-returns-in_err-at
sequence-returns-in_err-at t c =
    let part = part_rest (c.loop-v.at - c.args.start) c.args.s.now in
    let turn = sequence_turn c.args.left c.requires.1 c.loop-v.invariant part c.head.ensures c.requires.2 c.in_ok-v.was c.if-v-ne0.false
    c.child-element.result c.child-element.ensures in
    rw (exits c.from_residual-in_err-at.result c.from_residual-in_err-at.ensures)
    (walk_refused turn (part_rest (c.in_ok-v.next - c.args.start) c.args.s.now) c.node.ensures c.in_err-at.was)

pub sequence-loop-v-smaller : goal.sequence-loop-v-smaller
sequence-loop-v-smaller t c =
    let part = part_rest (c.loop-v.at - c.args.start) c.args.s.now in
    let turn = sequence_turn c.args.left c.requires.1 c.loop-v.invariant part c.head.ensures c.requires.2 c.in_ok-v.was c.if-v-ne0.false
    c.child-element.result c.child-element.ensures in
    let r = sequence_room c.args.left c.requires.1 c.loop-v.invariant part c.head.ensures c.requires.2 c.in_ok-v.was in
    let n = walk_next turn (part_rest (c.in_ok-v.next - c.args.start) c.args.s.now) c.node.ensures c.in_ok-at.was in
    omega arith

pub sequence-loop-v-preserved : goal.sequence-loop-v-preserved
sequence-loop-v-preserved t c =
    let part = part_rest (c.loop-v.at - c.args.start) c.args.s.now in
    let turn = sequence_turn c.args.left c.requires.1 c.loop-v.invariant part c.head.ensures c.requires.2 c.in_ok-v.was c.if-v-ne0.false
    c.child-element.result c.child-element.ensures in
    walk_more turn (part_rest (c.in_ok-v.next - c.args.start) c.args.s.now) c.node.ensures c.in_ok-at.was

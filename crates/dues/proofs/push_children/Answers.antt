use mathlib.Core.List.{◌∷◌, ◌++◌}
use mathlib.Core.Path.{ap, ◌∙◌}
use Prim.Native.Nat.{◌+◌}
use Rattle.tree.specs.Reading.{tree}
use Rattle.judgement.specs.Typing.{a_tree}
use Rattle.dues.proofs.Row.{level_due, last_due, some_due}
use Rattle.dues.proofs.push_children.Goals as goal

pub returns-then-not-is_sequence : goal.returns-then-not-is_sequence
returns-then-not-is_sequence c = λ g h. c.push_level.ensures g h.rows_of_lem ∙ ap (λ l. l ++ c.args.stack.now) (level_due g c.args.d c.args.v c.args.nesting (c.is_sequence.ensures g h.heads_of) c.if-not-is_sequence.true)

pub returns-then-v-eq0 : goal.returns-then-v-eq0
returns-then-v-eq0 c = λ g h. c.push-then-v-eq0.ensures ∙ ap (λ s. a_tree (tree (c.args.nesting + 1) c.child.result) ∷ s) c.push.ensures
    ∙ ap (λ l. l ++ c.args.stack.now) (some_due g c.args.d c.args.v c.args.nesting (c.is_sequence.ensures g h.heads_of) c.if-not-is_sequence.false c.if-v-eq0.true (c.child.ensures g h.rows_of_lem))

pub returns-else-v-eq0 : goal.returns-else-v-eq0
returns-else-v-eq0 c = λ g h. ap (λ l. l ++ c.args.stack.now) (last_due g c.args.d c.args.v c.args.nesting (c.is_sequence.ensures g h.heads_of) c.if-not-is_sequence.false c.if-v-eq0.false)

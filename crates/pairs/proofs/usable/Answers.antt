use mathlib.Core.Path.{◌∙◌}
use Rattle.dues.specs.Views.{place_as}
use Rattle.pairs.proofs.Heads.{rule_head, usable_rule, usable_operation, usable_other}
use Rattle.pairs.proofs.usable.Goals as goal

pub returns-then-a-count : goal.returns-then-a-count
returns-then-a-count c = λ g h rules b. usable_rule g rules (place_as c.args.here) c.args.s c.args.a c.args.book.now.words.now c.args.book.now.starts.now c.args.book.now.types.now.types.count b c.count.ensures.0 c.if-a-count.true (c.rule_usable.ensures _ (rule_head g rules (place_as c.args.here) c.args.s c.args.a c.args.book.now.words.now c.args.book.now.starts.now c.args.book.now.types.now.types.count b c.count.ensures.0 c.if-a-count.true))

pub returns-then-applies_operation : goal.returns-then-applies_operation
returns-then-applies_operation c = λ g h rules b. usable_operation g rules (place_as c.args.here) c.args.s c.args.a c.args.book.now.words.now c.args.book.now.starts.now c.args.book.now.types.now.types.count b c.count.ensures.0 c.if-a-count.false c.applies_operation.ensures c.if-applies_operation.true (c.operates_on.ensures g h.heads_of)

pub returns-else-applies_operation : goal.returns-else-applies_operation
returns-else-applies_operation c = λ g h rules b. c.if-applies_operation.false ∙ usable_other g rules (place_as c.args.here) c.args.s c.args.a c.args.book.now.words.now c.args.book.now.starts.now c.args.book.now.types.now.types.count b c.count.ensures.0 c.if-a-count.false c.applies_operation.ensures c.if-applies_operation.false

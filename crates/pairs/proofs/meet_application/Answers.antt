use mathlib.Core.Path.{sym, ◌∙◌}
use Rattle.dues.specs.Views.{place_as}
use Rattle.pairs.proofs.Heads.{rule_head, application_rule, application_operation, application_unusable}
use Rattle.pairs.proofs.meet_application.Goals as goal

pub returns-then-not-usable : goal.returns-then-not-usable
returns-then-not-usable c = λ g h rules b Γ. rw c.first_at.ensures (application_unusable g rules (place_as c.args.here) c.args.s c.args.pair.first c.args.pair.second c.args.pair.at c.args.stack.now Γ (sym c.if-not-usable.true ∙ c.usable.ensures g h rules b))

pub returns-then-pair-count : goal.returns-then-pair-count
returns-then-pair-count c = λ g h rules b Γ. application_rule g rules (place_as c.args.here) c.args.s c.args.pair.first c.args.book.now.words.now c.args.book.now.starts.now c.args.book.now.types.now.types.count b c.count.ensures.0 c.args.pair.second c.args.pair.at (sym c.if-not-usable.false ∙ c.usable.ensures g h rules b) c.if-pair-count.true
    (c.meet_rule.ensures _ (rule_head g rules (place_as c.args.here) c.args.s c.args.pair.first c.args.book.now.words.now c.args.book.now.starts.now c.args.book.now.types.now.types.count b c.count.ensures.0 c.if-pair-count.true) Γ)

pub returns-else-pair-count : goal.returns-else-pair-count
returns-else-pair-count c = λ g h rules b Γ. application_operation g rules (place_as c.args.here) c.args.s c.args.pair.first c.args.book.now.words.now c.args.book.now.starts.now c.args.book.now.types.now.types.count b c.count.ensures.0 c.args.pair.second c.args.pair.at (sym c.if-not-usable.false ∙ c.usable.ensures g h rules b) c.if-pair-count.false (c.meet_operation.ensures Γ)

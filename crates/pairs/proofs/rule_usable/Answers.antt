use mathlib.Core.Path.{◌∙◌}
use Rattle.dues.specs.Views.{place_as}
use Rattle.pairs.proofs.Heads.{headed_at, usable_fits, usable_not}
use Rattle.pairs.proofs.rule_usable.Goals as goal

pub returns-then-applies_rule : goal.returns-then-applies_rule
returns-then-applies_rule c = λ rule h. usable_fits _ _ _ c.in-Ok.ensures rule (headed_at (c.rule_at.ensures c.requires) h) (place_as c.args.here) c.args.s c.applies_rule.ensures c.if-applies_rule.true c.fits_scope.ensures

pub returns-else-applies_rule : goal.returns-else-applies_rule
returns-else-applies_rule c = λ rule h. c.if-applies_rule.false ∙ usable_not _ _ _ c.in-Ok.ensures rule (headed_at (c.rule_at.ensures c.requires) h) (place_as c.args.here) c.args.s c.applies_rule.ensures c.if-applies_rule.false

use mathlib.Core.Path.{◌∙◌}
use Rattle.convert.proofs.TokenClasses.{end_forms}
use Rattle.convert.proofs.tokens.record_end.Goals as goal

pub returns-then-word-eq8 : goal.returns-then-word-eq8
returns-then-word-eq8 c = c.forms_end.ensures ∙ (end_forms c.args.ws.now c.args.at c.requires _ c.word.ensures c.if-word-eq8.true _ c.word-forms.ensures).1

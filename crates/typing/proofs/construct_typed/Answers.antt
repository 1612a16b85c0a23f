use mathlib.Core.List.{[], ◌∷◌, ◌++◌}
use mathlib.Core.Path.{ap, ◌∙◌}
use Rattle.std.specs.Prelude.{Err}
use Rattle.words.proofs.Laws.{exits}
use Rattle.typing.proofs.Whole.{construct_full, construct_refused, construct_there}
use Rattle.typing.proofs.construct_typed.Goals as goal

pub returns-then-is_full : goal.returns-then-is_full
returns-then-is_full c = λ g h rules b. ap Err c.new.ensures ∙ construct_full g rules c.args.book.now.words.now c.args.variables.now c.args.at c.args.part.built c.args.part.replacement c.is_full.ensures c.if-is_full.true

pub returns-in_err-next : goal.returns-in_err-next
returns-in_err-next c = λ g h rules b. exits c.from_residual.result c.from_residual.ensures ∙ construct_refused g rules c.args.book.now.words.now c.args.variables.now c.args.at c.args.part.built c.args.part.replacement c.is_full.ensures c.if-is_full.false (c.in_err-next.ensures g h rules b)

pub returns : goal.returns
returns c = λ g h rules b. construct_there g rules c.args.book.now.words.now c.args.variables.now c.args.at c.args.part.built c.args.part.replacement c.is_full.ensures c.if-is_full.false (c.in_ok-next.ensures g h rules b) (c.push.ensures ∙ ap (λ Γ. Γ ++ c.args.part.built ∷ []) c.copy-more.ensures.0)

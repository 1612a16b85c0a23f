use mathlib.Core.Path.{sym, ap, ◌∙◌}
use Rattle.words.proofs.Laws.{exits}
use Rattle.pairs.specs.Views.{typed_as}
use Rattle.typing.proofs.Whole.{parts_done, parts_stop, parts_next}
use Rattle.typing.proofs.parts_typed.Goals as goal

pub returns-in_err-known : goal.returns-in_err-known
returns-in_err-known c = λ g h rules b. exits c.from_residual.result c.from_residual.ensures ∙ parts_stop g rules c.args.book.now.words.now c.args.k c.loop.counter c.loop.known c.loop.at c.loop-test.true h.count_of (c.in_err-known.ensures g h.types_of rules b) ∙ ap typed_as (sym (c.loop.invariant g h rules b))

pub loop-preserved : goal.loop-preserved
loop-preserved c = λ g h rules b. c.loop.invariant g h rules b ∙ parts_next g rules c.args.book.now.words.now c.args.k c.loop.counter c.loop.known c.loop.at c.loop-test.true h.count_of (c.in_ok-known.ensures g h.types_of rules b)

pub returns : goal.returns
returns c = λ g h rules b. parts_done g rules c.args.book.now.words.now c.args.k c.loop.counter c.loop.known c.loop.at c.loop-test.false ∙ ap typed_as (sym (c.loop.invariant g h rules b))

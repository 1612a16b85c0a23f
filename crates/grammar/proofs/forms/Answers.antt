use mathlib.Core.Path.{◌∙◌, sym}
use Rattle.words.specs.Reader.{or}
use Rattle.words.proofs.Laws.{exits, shown_stop}
use Rattle.grammar.specs.Grammar.{form, all_known, any_form_known}
use Rattle.grammar.proofs.Laws.{forms_done, forms_more}
use Rattle.grammar.proofs.forms.Goals as goal
use Rattle.grammar.proofs.forms.Goals.{then-any, else-any}

pub returns-in_err-finishes : goal.returns-in_err-finishes
returns-in_err-finishes c = exits c.from_residual.result c.from_residual.ensures ∙ shown_stop (form c.args.ws.now c.args.n) c.args.k c.loop.counter c.loop.at (all_known c.args.known.now) (λ a fs. or a (any_form_known c.args.known.now fs)) c.loop.any c.loop-test.true c.in_err-finishes.ensures ∙ sym c.loop.invariant

pub loop-preserved : goal.loop-preserved
loop-preserved c = c.loop.invariant ∙ forms_more c.args.ws.now c.args.known.now c.args.n c.args.k c.loop.counter c.loop.at c.loop.any c.loop-test.true c.in_ok-finishes.ensures c.if-any.any
    (elim c.if-any.branch [ then-any w ↦ let a = w.if-any.true in let b = w.any-is in cc | else-any w ↦ let a = w.if-any.false in let b = w.any-is in cc ])

pub returns : goal.returns
returns c = forms_done c.args.ws.now c.args.known.now c.args.n c.args.k c.loop.counter c.loop.at c.loop.any c.loop-test.false ∙ sym c.loop.invariant

use mathlib.Core.Path.{◌∙◌, sym}
use Rattle.words.specs.Reader.{and}
use Rattle.words.proofs.Laws.{exits, shown_stop}
use Rattle.grammar.specs.Grammar.{element, all_known, types_of}
use Rattle.grammar.specs.Views.{element_finishes}
use Rattle.grammar.proofs.Laws.{elements_done, elements_more}
use Rattle.grammar.proofs.elements.Goals as goal
use Rattle.grammar.proofs.elements.Goals.{then-all, else-all}

pub returns-in_err-finishes : goal.returns-in_err-finishes
returns-in_err-finishes c = exits c.from_residual.result c.from_residual.ensures ∙ shown_stop (element c.args.ws.now c.args.n) c.args.k c.loop.counter c.loop.at (element_finishes c.args.known.now) (λ a es. and a (all_known c.args.known.now (types_of es))) c.loop.all c.loop-test.true c.in_err-finishes.ensures ∙ sym c.loop.invariant

pub loop-preserved : goal.loop-preserved
loop-preserved c = c.loop.invariant ∙ elements_more c.args.ws.now c.args.known.now c.args.n c.args.k c.loop.counter c.loop.at c.loop.all c.loop-test.true c.in_ok-finishes.ensures c.if-all.all
    (elim c.if-all.branch [ then-all w ↦ let a = w.if-all.true in let b = w.all-is in cc | else-all w ↦ let a = w.if-all.false in let b = w.all-is in cc ])

pub returns : goal.returns
returns c = elements_done c.args.ws.now c.args.known.now c.args.n c.args.k c.loop.counter c.loop.at c.loop.all c.loop-test.false ∙ sym c.loop.invariant

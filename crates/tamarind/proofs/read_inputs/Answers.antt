-- `tamarind::read_inputs` meets its contract. Assumes nothing.
use Rattle.words.proofs.Laws.{exits}
use Rattle.tamarind.proofs.Inputs.{grammar_refused, rules_refused, slip_read}
use Rattle.tamarind.proofs.read_inputs.Goals as goal

pub returns-in_err-read_grammar : goal.returns-in_err-read_grammar
returns-in_err-read_grammar c = rw (exits c.from_residual.result c.from_residual.ensures) (grammar_refused c.args.request.now.grammar.now c.args.request.now.rules.now c.args.request.now.slip.now c.args.types.now.types.types c.args.work.now c.read_grammar.ensures c.in_err-read_grammar.was)

pub returns-in_err-read_rules : goal.returns-in_err-read_rules
returns-in_err-read_rules c = rw (exits c.from_residual-in_err-read_rules.result c.from_residual-in_err-read_rules.ensures) (rules_refused c.args.request.now.grammar.now c.args.request.now.rules.now c.args.request.now.slip.now c.fill.new.self.types.types c.args.work.now c.read_grammar.ensures c.in_ok-read_grammar.was (c.read_rules.ensures _ c.fill.ensures) c.in_err-read_rules.was)

pub returns : goal.returns
returns c = slip_read c.args.request.now.grammar.now c.args.request.now.rules.now c.args.request.now.slip.now c.fill.new.self.types.types c.args.work.now c.read_grammar.ensures c.in_ok-read_grammar.was (c.read_rules.ensures _ c.fill.ensures) c.in_ok-read_rules.was c.fill.ensures c.requires.2 c.read_slip.ensures

pub read_rules-requires : goal.read_rules-requires
read_rules-requires c = (c.requires.1, ∣ (_, c.fill.ensures) ∣₁)

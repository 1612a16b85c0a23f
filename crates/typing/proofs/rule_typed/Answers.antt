use mathlib.Core.Bool.{Bool-set}
use mathlib.Core.Path.{◌∙◌}
use native.Mathlib.Omega.{arith}
use Rattle.std.proofs.Math.Logic.{∥∥₁_elim}
use Rattle.words.proofs.Laws.{exits}
use Rattle.pairs.proofs.Heads.{head_few}
use Rattle.typing.proofs.Whole.{head_fault, pattern_accepted, pattern_fault, parts_refused, rule_done, replacement_accepted}
use Rattle.typing.proofs.rule_typed.Goals as goal

pub returns-in_err-head : goal.returns-in_err-head
returns-in_err-head c = λ g h rules b. exits c.from_residual.result c.from_residual.ensures ∙ head_fault g rules _ _ _ h.count_of c.in_err-head.ensures

pub parameters_of-parameters-requires : goal.parameters_of-parameters-requires
parameters_of-parameters-requires c = let few = head_few _ _ _ c.in_ok-head.ensures in (few.0, omega (arith, few.1, c.args.book.now.short))

pub stretch_typed-requires : goal.stretch_typed-requires
stretch_typed-requires c = pattern_accepted _ _ _ c.in_ok-head.ensures c.requires

pub returns-in_err-matched : goal.returns-in_err-matched
returns-in_err-matched c = λ g h rules b. exits c.from_residual-in_err-matched.result c.from_residual-in_err-matched.ensures ∙ pattern_fault _ _ _ c.in_ok-head.ensures c.requires g rules h.count_of c.parameters_of-parameters.ensures (c.in_err-matched.ensures g h.types_of rules b)

pub returns-in_err-all : goal.returns-in_err-all
returns-in_err-all c = λ g h rules b. exits c.from_residual-in_err-all.result c.from_residual-in_err-all.ensures ∙ parts_refused _ _ _ c.in_ok-head.ensures c.requires g rules h.count_of c.parameters_of-parameters.ensures (c.in_ok-matched.ensures g h.types_of rules b) (c.in_err-all.ensures g h rules b)

pub read_replacement-requires : goal.read_replacement-requires
read_replacement-requires c = ∥∥₁_elim c.args.book.now.given (Bool-set _ _) (λ G. replacement_accepted _ _ _ c.in_ok-head.ensures c.requires G.grammar G.rules G.types_of.count_of c.parameters_of-parameters.ensures (c.in_ok-matched.ensures G.grammar G.types_of.types_of G.rules G.book) (c.in_ok-all.ensures G.grammar G.types_of G.rules G.book))

pub returns : goal.returns
returns c = λ g h rules b. rule_done _ _ _ c.in_ok-head.ensures c.requires g rules h.count_of c.parameters_of-parameters.ensures (c.in_ok-matched.ensures g h.types_of rules b) (c.in_ok-all.ensures g h rules b) (c.read_replacement.ensures g h.types_of rules b)

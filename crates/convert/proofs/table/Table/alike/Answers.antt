use native.Mathlib.Omega.{arith}
use mathlib.Core.Path.{◌∙◌}
use Rattle.convert.proofs.Fitting.{alike_element}
use Rattle.convert.proofs.table.Table.alike.Goals as goal

pub returns-in_default : goal.returns-in_default
returns-in_default c = λ a b es sa sb p. alike_element es a b c.args.t c.args.m _ _ (c.bit-kind.ensures a sa.types.types_of.heads_of) (c.bit.ensures b sb.types.types_of.heads_of) c.if-kind-bit.false (omega arith) (omega arith) _ _ _ (c.child.ensures a sa.types.types_of.rows_of_lem) (c.child-in_default.ensures b sb.types.types_of.rows_of_lem) (c.type_to.ensures ∙ p.type _)

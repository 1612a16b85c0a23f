use mathlib.Core.Path.{◌∙◌, sym}
use native.Mathlib.Omega.{arith}
use Rattle.dues.specs.Views.{place_as}
use Rattle.dues.proofs.Row.{tree_variable}
use Rattle.dues.proofs.meet_tree.Goals as goal

pub returns-then-pair-eq-MARK_VARIABLE : goal.returns-then-pair-eq-MARK_VARIABLE
returns-then-pair-eq-MARK_VARIABLE c = λ g h rules. tree_variable g rules (place_as c.args.here) c.args.nesting c.args.d c.args.pair.first c.args.pair.second c.args.pair.at c.args.stack.now c.args.variables.now
    (sym c.if-not-may_stand.false ∙ c.may_stand.ensures) (omega arith) c.if-pair-d.false c.if-pair-eq-MARK_NEW.false c.if-pair-eq-MARK_VARIABLE.true (c.meet_argument.ensures g h rules (place_as c.args.here) c.args.stack.now)

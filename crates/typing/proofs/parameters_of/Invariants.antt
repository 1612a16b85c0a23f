-- `typing::parameters_of`: the variables are the first i types. Assumes nothing.
use mathlib.Core.Path.{◌≡◌}
use Rattle.dues.specs.Views.{words_at}
use Rattle.typing.proofs.parameters_of.Given as goal

abbrev pub invariant-loop-i : goal.invariant-loop-i
invariant-loop-i l = l.variables ≡ words_at l.ws l.first l.i

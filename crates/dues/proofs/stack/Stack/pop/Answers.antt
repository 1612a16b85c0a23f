use Prim.Native.Nat.{◌-◌}
use native.Mathlib.Omega.{arith}
use mathlib.Core.Path.{◌∙◌, sym, ap}
use Rattle.dues.specs.Stack.{standing}
use Rattle.dues.proofs.Standing.{standing_none, standing_pop, popped_none, popped}
use Rattle.dues.proofs.stack.Stack.pop.Goals as goal

pub returns-then-self-eq0 : goal.returns-then-self-eq0
returns-then-self-eq0 c = popped_none _ (sym c.self.view_is ∙ ap (standing c.self.inside.dues) c.if-self-eq0.true ∙ standing_none c.self.inside.dues)

pub returns : goal.returns
returns c = popped _ _ _ (sym c.self.view_is ∙ standing_pop c.self.inside.dues c.self.inside.height (c.self.inside.height - 1) (omega arith))

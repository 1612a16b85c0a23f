use mathlib.Core.Path.{◌∙◌, sym}
use Rattle.dues.proofs.Row.{node_met}
use Rattle.dues.proofs.meet_node.Goals as goal

pub returns : goal.returns
returns c = λ g h Γ. node_met g c.args.nesting c.args.d c.args.pair.second c.args.pair.at c.args.stack.now _ Γ h (sym c.if-not-is_allowed.false ∙ c.is_allowed.ensures g h.heads_of) (c.push_children.ensures g h)

use Rattle.tree.proofs.Reading.{tree_refused, tree_whole}
use Rattle.words.proofs.Laws.{exits}
use Rattle.std.proofs.lemmas.Grind.{common_steps}
use native.Mathlib.Omega.{arith}
use lib.ListN.{length}
use mathlib.Core.Path.{◌≡◌}
use Rattle.tree.proofs.read_tree_of.Goals as goal

pub returns-in_err-end : goal.returns-in_err-end
returns-in_err-end c =
    let some : length c.args.s.now ≡ 0 → ⊥ = grind (arith, common_steps) in
    rw (exits c.from_residual.result c.from_residual.ensures) (λ g x. tree_refused g c.args.t c.args.s.now some c.if-s-gt-MOST_WORDS.false c.if-s-ne0.false (c.node.ensures g x) c.in_err-end.was)

pub returns-else-end-s : goal.returns-else-end-s
returns-else-end-s c =
    let some : length c.args.s.now ≡ 0 → ⊥ = grind (arith, common_steps) in
    λ g x. tree_whole g c.args.t c.args.s.now some c.if-s-gt-MOST_WORDS.false c.if-s-ne0.false (c.node.ensures g x) c.in_ok-end.was c.if-end-s.false

use mathlib.Core.Path.{ap, ◌∙◌}
use Rattle.std.specs.Slice.Iter.{chunks_exact_rest, chunks_exact_size}
use Rattle.std.proofs.Common.{rules, tests}
use Rattle.dues.specs.Views.{place_as}
use Rattle.dues.proofs.Tokens.{tokens_passed}
use Rattle.dues.proofs.pass_tokens.Goals as goal

pub returns : goal.returns
returns c =
    rw c.in-Tree.is (tokens_passed c.child-e.ensures c.values-n.ensures _ _ (λ x q k. search (rules, tests)) (place_as c.args.here) c.of_tokens.ensures c.if-not-of_tokens.false c.requires c.take_while.result c.take_while.ensures.done c.take_while.ensures.closure (ap chunks_exact_size c.take_while.ensures.source ∙ c.chunks_exact.ensures.size) (ap chunks_exact_rest c.take_while.ensures.source ∙ c.chunks_exact.ensures.rest) c.count-elements.ensures.ran)

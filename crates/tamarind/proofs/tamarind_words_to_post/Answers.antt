-- `tamarind::tamarind_words_to_post` meets its contract. Assumes nothing.
use Rattle.tamarind.proofs.Posted.{names_result, names_slip}
use Rattle.tamarind.proofs.tamarind_words_to_post.Goals as goal

pub returns-then-posts_result : goal.returns-then-posts_result
returns-then-posts_result c =
    let a = c.args in names_result a.ending a.filled a.result_len a.slip_len c.posts_result.ensures c.if-posts_result.true

pub returns : goal.returns
returns c =
    let a = c.args in names_slip a.ending a.filled a.result_len a.slip_len c.posts_result.ensures c.if-posts_result.false

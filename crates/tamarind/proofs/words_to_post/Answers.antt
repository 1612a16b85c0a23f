-- `tamarind::words_to_post` meets its contract. Assumes nothing.
use lib.Seq.{length-take-le}
use mathlib.Core.Path.{sym}
use Rattle.tamarind.proofs.Posted.{result_there, result_posted, slip_posted}
use Rattle.tamarind.proofs.words_to_post.Goals as goal

pub slice_bounds-result-end : goal.slice_bounds-result-end
slice_bounds-result-end c = sym (length-take-le _ _ (result_there _ _ _ c.posts_result.ensures c.if-posts_result.true))

pub returns-then-posts_result : goal.returns-then-posts_result
returns-then-posts_result c = result_posted _ _ _ c.posts_result.ensures _ c.if-posts_result.true

pub returns : goal.returns
returns c = slip_posted _ _ _ c.posts_result.ensures _ c.if-posts_result.false

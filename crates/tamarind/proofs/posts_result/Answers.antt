-- `tamarind::posts_result` meets its contract. Assumes nothing.
use mathlib.Core.Path.{◌∙◌}
use Rattle.tamarind.proofs.Posted.{test_done, test_not_done}
use Rattle.tamarind.proofs.posts_result.Goals as goal

pub returns-then-done : goal.returns-then-done
returns-then-done c = let a = c.args in test_done a.done a.filled a.result_len c.if-done.true

pub returns-else-done : goal.returns-else-done
returns-else-done c = let a = c.args in c.if-done.false ∙ test_not_done a.done a.filled a.result_len c.if-done.false

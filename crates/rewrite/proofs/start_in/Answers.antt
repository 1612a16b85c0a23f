-- `rewrite::start_in` meets its contract. Assumes nothing.
use Rattle.rewrite.specs.Vars.{vars_of}
use Rattle.rewrite.proofs.Matcher.{start_there}
use mathlib.Core.Path.{◌∙◌}
use Rattle.rewrite.proofs.start_in.Goals as goal

pub returns-then-i-lt-MOST_VARIABLES : goal.returns-then-i-lt-MOST_VARIABLES
returns-then-i-lt-MOST_VARIABLES c = (c.place.ensures.0 ∙ start_there (vars_of c.args.starts.now c.args.n) c.args.x c.if-i-n.true c.if-i-lt-MOST_VARIABLES.true, c.place.ensures.1)

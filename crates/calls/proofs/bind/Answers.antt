-- `calls::bind` meets its contract. Assumes nothing.
use native.Mathlib.Omega.{arith}
use Rattle.rewrite.specs.Vars.{vars_of}
use Rattle.calls.proofs.Finishing.{named_bound, named_none}
use Rattle.calls.proofs.bind.Goals as goal

pub bounds-places-n : goal.bounds-places-n
bounds-places-n c = omega (arith, c.if-n-lt-MOST_VARIABLES.true, c.requires.0.room)

pub returns-then-n-lt-MOST_VARIABLES : goal.returns-then-n-lt-MOST_VARIABLES
returns-then-n-lt-MOST_VARIABLES c = named_bound (vars_of c.args.places.now c.args.n) c.args.start c.requires.0 c.if-n-lt-MOST_VARIABLES.true

pub returns : goal.returns
returns c = named_none (vars_of c.args.places.now c.args.n) c.args.start c.requires.0 c.if-n-lt-MOST_VARIABLES.false

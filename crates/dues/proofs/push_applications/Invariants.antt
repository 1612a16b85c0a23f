-- So many are pushed. Assumes nothing.
use Rattle.judgement.specs.Typing.{application}
use lib.ListN.{replicate}
use mathlib.Core.List.{◌++◌}
use mathlib.Core.Path.{◌≡◌}
use Rattle.dues.proofs.push_applications.Given as goal

abbrev pub invariant-loop : goal.invariant-loop
invariant-loop l = l.stack ≡ replicate l.counter (application l.s) ++ l.initial.stack

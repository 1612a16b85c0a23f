-- `bench::read_on` meets its contract. Assumes nothing.
use Rattle.bench.proofs.ReadingOn.{Going}
use Rattle.bench.proofs.read_on.Given as goal

abbrev pub invariant-loop : goal.invariant-loop
invariant-loop l = Going l.initial.read l.initial.numbers l.read l.numbers

-- `decimal::numbers::Reading::read_bytes` meets its contract. Assumes nothing.
use Rattle.decimal.proofs.Reading.{Going}
use Rattle.decimal.proofs.numbers.Reading.read_bytes.Given as goal

abbrev pub invariant-loop-b : goal.invariant-loop-b
invariant-loop-b l = Going l.text l.initial.reading l.initial.words l.reading l.words l.b-index

-- `decimal::numbers::Reading::read_piece` meets its contract. Assumes nothing.
use Rattle.decimal.proofs.Reading.{piece_failed, piece_last, piece_bytes}
use Rattle.decimal.proofs.numbers.Reading.read_piece.Goals as goal

pub returns-in-None : goal.returns-in-None
returns-in-None c = rw c.in-None.is (piece_failed _ _ c.args.buffer.now c.args.words.now _ c.unread.ensures)

pub returns-in-Some-eq0 : goal.returns-in-Some-eq0
returns-in-Some-eq0 c = rw c.in-Some-eq0.is (piece_last _ _ c.args.buffer.now c.args.words.now _ _ _ (rw c.in-Some-eq0.is at c.in-Some-eq0.field-0-test) c.read_end.ensures)

pub returns-in-Some : goal.returns-in-Some
returns-in-Some c = rw c.in-Some.is (piece_bytes _ _ c.args.buffer.now c.args.words.now c.in-Some.n c.min.result _ _ _ (rw c.in-Some.is at c.in-Some.n-test).1 c.min.ensures c.read_bytes-read.ensures c.goes_on.ensures)

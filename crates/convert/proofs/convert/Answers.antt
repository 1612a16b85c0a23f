use Rattle.words.proofs.Laws.{exits}
use Rattle.convert.proofs.Outcome.{whole_small, old_long, new_long, old_refused, new_refused, whole_between}
use Rattle.convert.proofs.convert.Goals as goal

pub returns-then-res-lt-MOST_SLIP_WORDS : goal.returns-then-res-lt-MOST_SLIP_WORDS
returns-then-res-lt-MOST_SLIP_WORDS c = rw (c.from.ensures, c.new.ensures) (whole_small c.args.counted c.args.old.now c.args.new.now c.args.table.now c.args.slip.now c.args.res.now c.if-res-lt-MOST_SLIP_WORDS.true)

pub returns-in_err-check_length : goal.returns-in_err-check_length
returns-in_err-check_length c = rw (exits c.from_residual.result c.from_residual.ensures) (old_long c.args.counted c.args.old.now c.args.new.now c.args.table.now c.args.slip.now c.args.res.now c.if-res-lt-MOST_SLIP_WORDS.false c.check_length.ensures c.in_err-check_length.was)

pub returns-in_err-check_length-2 : goal.returns-in_err-check_length-2
returns-in_err-check_length-2 c = rw (exits c.from_residual-in_err-check_length-2.result c.from_residual-in_err-check_length-2.ensures) (new_long c.args.counted c.args.old.now c.args.new.now c.args.table.now c.args.slip.now c.args.res.now c.if-res-lt-MOST_SLIP_WORDS.false c.check_length.ensures c.in_ok-check_length.was c.check_length-2.ensures c.in_err-check_length-2.was)

pub returns-in_err-check_words : goal.returns-in_err-check_words
returns-in_err-check_words c = rw (exits c.from_residual-in_err-check_words.result c.from_residual-in_err-check_words.ensures) (old_refused c.args.counted c.args.old.now c.args.new.now c.args.table.now c.args.slip.now c.args.res.now c.if-res-lt-MOST_SLIP_WORDS.false c.check_length.ensures c.in_ok-check_length.was c.check_length-2.ensures c.in_ok-check_length-2.was c.check_words.ensures c.in_err-check_words.was)

pub returns-in_err-check_words-2 : goal.returns-in_err-check_words-2
returns-in_err-check_words-2 c = rw (exits c.from_residual-in_err-check_words-2.result c.from_residual-in_err-check_words-2.ensures) (new_refused c.args.counted c.args.old.now c.args.new.now c.args.table.now c.args.slip.now c.args.res.now c.if-res-lt-MOST_SLIP_WORDS.false c.check_length.ensures c.in_ok-check_length.was c.check_length-2.ensures c.in_ok-check_length-2.was c.check_words.ensures c.in_ok-check_words.was c.check_words-2.ensures c.in_err-check_words-2.was)

pub returns : goal.returns
returns c = whole_between c.args.counted c.args.old.now c.args.new.now c.args.table.now c.args.slip.now c.args.res.now c.if-res-lt-MOST_SLIP_WORDS.false c.check_length.ensures c.in_ok-check_length.was c.check_length-2.ensures c.in_ok-check_length-2.was c.check_words.ensures c.in_ok-check_words.was c.check_words-2.ensures c.in_ok-check_words-2.was c.convert_between.ensures

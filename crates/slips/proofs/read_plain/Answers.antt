-- `slips::read_plain` meets its contract. Assumes nothing.
use native.Mathlib.Omega.{arith}
use Rattle.words.proofs.Laws.{exits}
use Rattle.slips.proofs.Reading.{plain_refused, plain_fits, plain_short, plain_passed}
use Rattle.slips.proofs.read_plain.Goals as goal

pub returns-in_err-next : goal.returns-in_err-next
returns-in_err-next c = rw (exits c.from_residual.result c.from_residual.ensures) (plain_refused c.args.types.now c.args.slip.now c.args.memory.now _ c.read_tree.ensures c.in_err-next.was)

pub returns-then-memory-lt-MOST_WORDS : goal.returns-then-memory-lt-MOST_WORDS
returns-then-memory-lt-MOST_WORDS c = plain_short c.args.types.now c.args.slip.now c.args.memory.now _ c.read_tree.ensures c.in_ok-next.was c.if-memory-lt-MOST_WORDS.true

pub load-requires : goal.load-requires
load-requires c = omega (arith, plain_fits c.args.types.now c.args.slip.now c.args.memory.now _ c.read_tree.ensures c.in_ok-next.was, c.if-memory-lt-MOST_WORDS.false)

pub returns : goal.returns
returns c = plain_passed c.args.types.now c.args.slip.now c.args.memory.now _ c.read_tree.ensures c.in_ok-next.was c.if-memory-lt-MOST_WORDS.false _ c.load.ensures _ (omega (arith, c.mark_tree.auto.w, c.load.auto.memory)) c.mark_tree.ensures

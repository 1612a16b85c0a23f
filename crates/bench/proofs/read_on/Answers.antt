use Rattle.bench.proofs.ReadingOn.{going_first, going_next, going_last, going_unread}
use Rattle.bench.proofs.read_on.Goals as goal

pub loop-init : goal.loop-init
loop-init c = going_first _ _

pub returns-then-not-piece : goal.returns-then-not-piece
returns-then-not-piece c = going_last _ _ c.loop.read c.loop.numbers c.loop.invariant _ _ c.read_once-piece.ensures c.if-not-piece.true

pub loop-preserved : goal.loop-preserved
loop-preserved c = going_next _ _ c.loop.read c.loop.numbers c.loop.invariant _ _ c.read_once-piece.ensures c.if-not-piece.false c.read_once-piece.auto.numbers

pub returns : goal.returns
returns c = going_unread _ _ _ _ c.loop.invariant _ c.unread.ensures

use native.Mathlib.Omega.{arith}
use Rattle.convert.proofs.TokenClasses.{class_start, class_record, class_end}
use Rattle.convert.proofs.tokens.classes.Goals as goal

pub loop-t-init : goal.loop-t-init
loop-t-init c = class_start c.requires

pub class_at-requires : goal.class_at-requires
class_at-requires c = class_record c.loop-t.invariant c.requires (omega (arith, c.word-t-end.ensures, c.loop-t-test.true))

pub record_end-at-requires : goal.record_end-at-requires
record_end-at-requires c = class_record c.loop-t.invariant c.requires (omega (arith, c.word-t-end.ensures, c.loop-t-test.true))

pub returns : goal.returns
returns c = class_end c.loop-t.invariant c.requires (omega (arith, c.word-t-end.ensures, c.loop-t-test.false))

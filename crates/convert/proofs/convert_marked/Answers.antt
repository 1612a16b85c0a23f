use mathlib.Core.Path.{refl}
use Rattle.convert.proofs.Writing.{write_start, write_more, write_end}
use Rattle.convert.proofs.Outcome.{fits_numbered}
use Rattle.convert.proofs.convert_marked.Goals as goal

pub loop-i-init : goal.loop-i-init
loop-i-init c = write_start _ _ _ _

pub loop-i-preserved : goal.loop-i-preserved
loop-i-preserved c = write_more c.loop-i.invariant c.requires c.loop-i-test.true _ refl _ _ _ _ c.type_in-t.ensures c.type_to.ensures c.value_to-v.ensures c.size_in.ensures.0

pub returns : goal.returns
returns c = write_end c.loop-i.invariant c.requires c.loop-i-test.false fits_numbered

use Rattle.decimal.proofs.Reading.{going_next, going_last, said_all}
use Rattle.decimal.specs.Numbers.{Numbers, bytes, Stands}
use lib.ListN.{length}
use mathlib.Core.Path.{subst}
use Rattle.decimal.proofs.numbers.Reading.read_bytes.Goals as goal

pub loop-b-preserved : goal.loop-b-preserved
loop-b-preserved c = going_next c.args.text.now _ c.args.words.now c.loop-b.reading _ c.loop-b.words _ c.loop-b.b-index c.loop-b.invariant c.loop-b-test.true c.read_byte-reading.auto.words c.read_byte-reading.ensures

pub returns : goal.returns
returns c = subst (λ (s : Numbers). Stands (bytes (length c.args.words.now) s c.args.text.now) c.args.words.now c.loop-b.reading c.loop-b.words) (said_all c.args.words.now c.args.self.place c.args.self.count _ c.min.ensures) (going_last c.args.text.now _ c.args.words.now c.loop-b.reading c.loop-b.words c.loop-b.b-index c.loop-b.invariant c.loop-b-test.false)

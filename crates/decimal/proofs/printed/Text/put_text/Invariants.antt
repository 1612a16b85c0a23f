-- `decimal::printed::Text::put_text` meets its contract. Assumes nothing.
use Rattle.decimal.specs.Texts.{Grows}
use lib.ListN.{take}
use Rattle.decimal.proofs.printed.Text.put_text.Given as goal

abbrev pub invariant-loop-byte : goal.invariant-loop-byte
invariant-loop-byte l = Grows l.initial.self (take l.byte-index l.text) l.self

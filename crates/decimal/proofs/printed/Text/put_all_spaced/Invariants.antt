-- `decimal::printed::Text::put_all_spaced` meets its contract. Assumes nothing.
use Rattle.decimal.specs.Printed.{all_spaced}
use Rattle.decimal.specs.Texts.{Grows}
use lib.ListN.{take}
use Rattle.decimal.proofs.printed.Text.put_all_spaced.Given as goal

abbrev pub invariant-loop-number : goal.invariant-loop-number
invariant-loop-number l = Grows l.initial.self (all_spaced (take l.number-index l.numbers)) l.self

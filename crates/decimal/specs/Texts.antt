-- A TEXT THAT GROWS in lent bytes, as the code promises it. Assumes nothing: these are definitions.
use Rattle.std.specs.Prelude.{◌≡◌}
use Rattle.decimal.specs.Numbers.{Bytes}
use Rattle.decimal.specs.Printed.{Put}
use Rattle.decimal.specs.declared.printed.Text.{Text}

-- more is put at a text's end, in the same lent bytes
pub record Grows (before : Text) (what : Bytes) (after : Text) : Type 0 where
  pub same : after.bytes.ghost_name ≡ before.bytes.ghost_name
  pub put : Put before.bytes.now before.end what after.end after.bytes.now

-- `tamarind::tamarind_convert` meets its contract. Assumes nothing.
use Rattle.tamarind.proofs.Laws.{conversion_exported}
use Rattle.tamarind.proofs.tamarind_convert.Goals as goal

pub returns : goal.returns
returns c = conversion_exported c.convert-converted.result c.convert-converted.ensures c.export_conversion.ensures

use Rattle.convert.proofs.Entries.{entry_there}
use Rattle.convert.proofs.table.entry.Goals as goal

pub returns : goal.returns
returns c = entry_there c.args.new.now c.args.table.now c.args.k c.args.at c.named.ensures c.in_ok-t.was c.form_count-forms.ensures c.numbers.ensures

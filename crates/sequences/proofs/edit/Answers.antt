-- `sequences::edit` meets its contract. Assumes nothing.
use Rattle.sequences.proofs.Editing.{edits_none, edits_join, edits_count, edits_extract, edits_head, edits_tail, edits_select}
use Rattle.std.proofs.Common.{rules}
use Rattle.sequences.proofs.edit.Goals as goal

pub returns-then-n-eq0 : goal.returns-then-n-eq0
returns-then-n-eq0 c = edits_none c.args.types.now c.args.w.now c.args.op c.args.base c.args.n c.args.first c.args.second c.args.under c.args.besides c.if-n-eq0.true

pub returns-in-1010 : goal.returns-in-1010
returns-in-1010 c = edits_join c.args.types.now c.args.w.now _ c.args.op c.args.base c.args.n c.args.first c.args.second c.args.under c.args.besides _ c.in-1010.is c.join.ensures

pub returns-in-1014 : goal.returns-in-1014
returns-in-1014 c = edits_count c.args.types.now c.args.w.now _ c.args.op c.args.base c.args.n c.args.first c.args.second c.args.under c.args.besides _ c.in-1014.is c.count.ensures

pub returns-in-1015 : goal.returns-in-1015
returns-in-1015 c = edits_extract c.args.types.now c.args.w.now _ c.args.op c.args.base c.args.n c.args.first c.args.second c.args.under c.args.besides _ c.in-1015.is c.extract.ensures

pub returns-in-1012 : goal.returns-in-1012
returns-in-1012 c = edits_head c.args.types.now c.args.w.now _ c.args.op c.args.base c.args.n c.args.first c.args.second c.args.under c.args.besides _ c.position-a.result c.position-a.ensures c.in-1012.is c.select.ensures

pub returns-in-1013 : goal.returns-in-1013
returns-in-1013 c = edits_tail c.args.types.now c.args.w.now _ c.args.op c.args.base c.args.n c.args.first c.args.second c.args.under c.args.besides _ c.position-a-in-1013.result c.position-a-in-1013.ensures c.in-1013.is c.select-in-1013.ensures

pub returns-in_default : goal.returns-in_default
returns-in_default c = edits_select c.args.types.now c.args.w.now _ c.args.op c.args.base c.args.n c.args.first c.args.second c.args.under c.args.besides _ c.position-a-in_default.result c.position-a-in_default.ensures c.position-b.result c.position-b.ensures (search rules) (search rules) (search rules) (search rules) (search rules) c.select-in_default.ensures

use mathlib.Core.Path.{refl}
use Rattle.tables.proofs.Filling.{put_literal, put_type}
use Rattle.tables.proofs.put_element.Goals as goal

pub returns-then-is_literal : goal.returns-then-is_literal
returns-then-is_literal c = put_literal c.args.rows.now c.args.base c.args.m c.args.e _ c.is_literal.ensures c.if-is_literal.true

pub returns : goal.returns
returns c = put_type c.args.rows.now _ c.args.base c.args.m c.args.e _ _ c.is_literal.ensures c.if-is_literal.false refl c.put.ensures

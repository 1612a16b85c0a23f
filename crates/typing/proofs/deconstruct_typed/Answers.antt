use mathlib.Core.Path.{ap, ◌∙◌}
use Rattle.std.specs.Prelude.{Err}
use Rattle.typing.proofs.Whole.{deconstruct_absent, deconstruct_there}
use Rattle.typing.proofs.deconstruct_typed.Goals as goal

pub returns : goal.returns
returns c = λ g h rules b at. deconstruct_there g rules c.args.book.now.words.now c.args.variables.now at c.args.part c.word-v.ensures c.get.ensures c.in-Some.is c.unwrap_or-d.ensures (c.stretch_typed.ensures g h rules b)

pub returns-in_default : goal.returns-in_default
returns-in_default c = λ g h rules b at. ap Err c.new.ensures ∙ deconstruct_absent g rules c.args.book.now.words.now c.args.variables.now at c.args.part c.word-v.ensures c.get.ensures c.in_default.not-Some

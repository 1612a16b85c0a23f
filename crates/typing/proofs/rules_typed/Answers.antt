use mathlib.Core.Path.{refl, ap, ◌∙◌}
use Rattle.std.specs.Prelude.{Err}
use Rattle.typing.proofs.Check.{layout_starts, layout_book, layout_given, main_refused, rules_done}
use Rattle.typing.proofs.rules_typed.Goals as goal

pub rule_starts-starts-requires : goal.rule_starts-starts-requires
rule_starts-starts-requires c = layout_starts c.args.types.now.types.count c.args.ws.now c.requires.1 c.word.ensures

pub invariant_of-book : goal.invariant_of-book
invariant_of-book c = record { few = (layout_starts c.args.types.now.types.count c.args.ws.now c.requires.1 refl).0; short = c.requires.0; given = layout_given c.requires.2 c.requires.1 c.word.ensures c.rule_starts-starts.ensures }

pub returns-then-not-main_fits : goal.returns-then-not-main_fits
returns-then-not-main_fits c = λ g h. ap Err c.new.ensures ∙ main_refused c.args.types.now.types.count c.args.ws.now c.requires.1 c.word.ensures c.rule_starts-starts.ensures g h.count_of c.main_fits.ensures c.if-not-main_fits.true

pub each_typed-requires : goal.each_typed-requires
each_typed-requires c = (layout_starts c.args.types.now.types.count c.args.ws.now c.requires.1 refl).1

pub returns : goal.returns
returns c = λ g h. rules_done c.args.types.now.types.count c.args.ws.now c.requires.1 c.word.ensures c.rule_starts-starts.ensures g h.count_of c.main_fits.ensures c.if-not-main_fits.false (c.each_typed.ensures g h _ (layout_book c.args.types.now.types.count c.args.ws.now c.requires.1 c.word.ensures c.rule_starts-starts.ensures))

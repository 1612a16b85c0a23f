use native.Mathlib.Omega.{arith}
use Rattle.dues.specs.Due.{due_as}
use Rattle.dues.specs.Views.{place_as}
use Rattle.pairs.proofs.Stretch.{stretch_inside, stretch_few, stretch_typed}
use Rattle.pairs.proofs.stretch_typed.Goals as goal

pub overflow_add-start : goal.overflow_add-start
overflow_add-start c = let s = stretch_inside c.args.book.now.words.now c.args.at c.requires in omega (arith, s.within, c.args.book.now.short)

pub overflow_add-end : goal.overflow_add-end
overflow_add-end c = let s = stretch_inside c.args.book.now.words.now c.args.at c.requires in omega (arith, s.within, s.few, c.word.ensures, c.args.book.now.short)

pub offset_bounds-ws-start : goal.offset_bounds-ws-start
offset_bounds-ws-start c = let s = stretch_inside c.args.book.now.words.now c.args.at c.requires in omega (arith, s.within, s.few, c.word.ensures, c.args.book.now.short)

pub slice_bounds-pairs_typed-end : goal.slice_bounds-pairs_typed-end
slice_bounds-pairs_typed-end c = let s = stretch_inside c.args.book.now.words.now c.args.at c.requires in omega (arith, s.within, s.few, c.word.ensures, c.args.book.now.short)

pub pairs_typed-requires : goal.pairs_typed-requires
pairs_typed-requires c = let s = stretch_inside c.args.book.now.words.now c.args.at c.requires in (stretch_few s c.word.ensures, omega (arith, s.within, c.args.book.now.short))

pub returns : goal.returns
returns c = λ g h rules b. stretch_typed g rules c.args.book.now.words.now (place_as c.args.here) (due_as c.args.first) c.args.variables.now c.args.at _ c.word.ensures (c.pairs_typed.ensures g h rules b)

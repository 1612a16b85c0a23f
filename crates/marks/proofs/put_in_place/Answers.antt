-- `marks::put_in_place` meets its contract. Assumes nothing.
use Rattle.marks.proofs.Putting.{put_done, put_resized, put_same, put_not}
use native.Mathlib.Omega.{arith}
use Prim.Native.Nat.{ℕ, ◌+◌, ◌*◌, ◌-◌}
use mathlib.Core.Path.{refl, sym, ap, ◌∙◌}
use mathlib.Core.List.{List}
use lib.ListN.{drop}
use lib.Seq.{paste}
use Rattle.marks.proofs.put_in_place.Goals as goal

pub returns-then-old-new : goal.returns-then-old-new
returns-then-old-new c = put_same c.args.types.now c.args.w.now c.args.base c.args.place c.args.end c.args.from c.args.n c.requires.0 c.requires.1 c.requires.2 c.requires.3 _ (sym c.if-old-new.true) c.move_down.ensures

pub returns-then-end-after : goal.returns-then-end-after
returns-then-end-after c = put_not c.args.types.now c.args.w.now c.args.base c.args.place c.args.end c.args.from c.args.n c.requires.0 c.requires.1 c.requires.2 c.requires.3 (omega (arith, c.if-end-after.true, c.size_in.ensures.0))

pub returns-then-nesting_in : goal.returns-then-nesting_in
returns-then-nesting_in c = put_resized c.args.types.now c.args.w.now c.args.base c.args.place c.args.end c.args.from c.args.n c.requires.0 c.requires.1 c.requires.2 c.requires.3 _ _ _ _ _ _ (ap (λ (k : ℕ). c.args.place + 2 * k) c.size_in.ensures.0) (omega (arith, c.if-end-after.false)) refl (c.move_down-2.ensures ∙ ap (λ (l : List ℕ). paste l c.args.place (drop c.args.from l) (c.args.n + (c.args.end - (c.args.place + 2 * c.size_in.result)))) c.copy_up.ensures) c.size_in-then-nesting_in.ensures.0 c.size_in-then-nesting_in-2.ensures.0 (sym c.nesting_in.ensures.0 ∙ c.if-nesting_in.true ∙ c.nesting_in-2.ensures.0) c.resize_above.ensures

pub returns-else-nesting_in : goal.returns-else-nesting_in
returns-else-nesting_in c = put_done c.args.types.now c.args.w.now c.args.base c.args.place c.args.end c.args.from c.args.n c.requires.0 c.requires.1 c.requires.2 c.requires.3 _ _ _ _ (ap (λ (k : ℕ). c.args.place + 2 * k) c.size_in.ensures.0) (omega (arith, c.if-end-after.false)) refl (c.move_down-2.ensures ∙ ap (λ (l : List ℕ). paste l c.args.place (drop c.args.from l) (c.args.n + (c.args.end - (c.args.place + 2 * c.size_in.result)))) c.copy_up.ensures) c.mark_above.ensures

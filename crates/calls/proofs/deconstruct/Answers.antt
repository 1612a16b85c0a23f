-- `calls::deconstruct` meets its contract. Assumes nothing.
use Rattle.rewrite.specs.Vars.{vars_of, start_at}
use Rattle.rewrite.specs.Matching.{match_in}
use Rattle.calls.specs.Engine.{given_of, open_of}
use Rattle.calls.proofs.Parting.{deconstruct_none, deconstruct_matched, ends_by, part_within}
use lib.ListN.{take, drop, length-take}
use native.Mathlib.Omega.{arith}
use Prim.Native.Nat.{◌+◌, ◌*◌, ◌-◌}
use mathlib.Core.Bool.{true}
use mathlib.Core.Path.{◌≡◌, refl, ap, ◌∙◌}
use Rattle.calls.proofs.deconstruct.Goals as goal
use Rattle.calls.proofs.deconstruct.Goals.{in-Some, in-None}

pub returns-then-n-eq0 : goal.returns-then-n-eq0
returns-then-n-eq0 c = deconstruct_none (given_of c.args.program.now) c.args.w.now c.args.d c.args.next (open_of c.args.places.now c.args.frame) c.args.left c.requires _ _ (c.start_in-start.ensures.0 ∙ ap (λ k. start_at (vars_of c.args.places.now c.args.frame.bound) k) c.word.ensures) c.nodes_at-n.ensures c.if-n-eq0.true

pub slice_bounds-arena-end : goal.slice_bounds-arena-end
slice_bounds-arena-end c = omega (arith, length-take c.args.frame.top c.args.w.now, c.requires.low, c.requires.few, c.requires.long)

pub slice_bounds-part-end : goal.slice_bounds-part-end
slice_bounds-part-end c = omega (arith, ends_by c.nodes_at-n.ensures c.if-n-eq0.false, length-take c.args.frame.top c.args.w.now, c.requires.low, c.requires.few, c.requires.long)

pub match_first-m-requires : goal.match_first-m-requires
match_first-m-requires c = let i = ends_by c.nodes_at-n.ensures c.if-n-eq0.false in (c.pairs_of-pairs.ensures.1, omega (arith, c.requires.low, c.requires.few, part_within c.args.w.now c.args.frame.top c.start_in-start.result (c.start_in-start.result + 2 * c.nodes_at-n.result - c.start_in-start.result) (omega arith)), c.requires.sound, c.requires.few)

pub match_pattern-m-requires : goal.match_pattern-m-requires
match_pattern-m-requires c = let i = ends_by c.nodes_at-n.ensures c.if-n-eq0.false in (c.pairs_of-pairs.ensures.1, omega (arith, c.requires.low, c.requires.few), c.requires.sound, c.requires.few)

pub returns : goal.returns
returns c =
    let z : c.start_in-start.result + 2 * c.nodes_at-n.result - c.start_in-start.result ≡ 2 * c.nodes_at-n.result = omega arith in
    elim c.match-d.branch [
      | in-Some w ↦ rw (c.match_taken.ensures, w.places-is, w.m-is) (deconstruct_matched (given_of c.args.program.now) c.args.w.now c.args.d c.args.next (open_of c.args.places.now c.args.frame) c.args.left c.requires _ _ (c.start_in-start.ensures.0 ∙ ap (λ k. start_at (vars_of c.args.places.now c.args.frame.bound) k) c.word.ensures) c.nodes_at-n.ensures (take c.args.frame.top c.args.w.now) _ refl (ap (λ k. take k (drop c.start_in-start.result (take c.args.frame.top c.args.w.now))) z) _ c.pairs_of-pairs.ensures.0 (match_in w.match_first-m.new.places w.match_first-m.result) (rw w.in-Some.is (w.match_first-m.ensures true)))
      | in-None w ↦ rw (c.match_taken.ensures, w.places-is, w.m-is) (deconstruct_matched (given_of c.args.program.now) c.args.w.now c.args.d c.args.next (open_of c.args.places.now c.args.frame) c.args.left c.requires _ _ (c.start_in-start.ensures.0 ∙ ap (λ k. start_at (vars_of c.args.places.now c.args.frame.bound) k) c.word.ensures) c.nodes_at-n.ensures (take c.args.frame.top c.args.w.now) _ refl (ap (λ k. take k (drop c.start_in-start.result (take c.args.frame.top c.args.w.now))) z) _ c.pairs_of-pairs.ensures.0 (match_in w.match_pattern-m.new.places w.match_pattern-m.result) (rw w.in-None.is (w.match_pattern-m.ensures true)))
    ]

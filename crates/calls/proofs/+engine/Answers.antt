-- The cycle of calls: the goals of each member, with its name before them. Assumes nothing.
use Rattle.std.specs.Prelude.{Ok}
use Rattle.calls.specs.Engine.{given_of, open_of}
use Rattle.calls.proofs.Testing.{Ended, trying_start, trying_stop, trying_more, trying_end, condition_over, condition_tested, matches_over, matches_found, test_verdict, succeeds_deep, succeeds_called, succeeds_holds}
use mathlib.Core.Path.{sym, ◌∙◌, subst, refl, ◌≡◌, ap}
use native.Mathlib.Omega.{arith}
use mathlib.Core.Logic.{⊎_elim}
use borrow.Author.Rules.{rules}
use Rattle.rewrite.specs.Vars.{vars_of, start_at}
use Prim.Native.Nat.{◌+◌, ◌*◌, ◌<◌, ◌-◌}
use lib.ListN.{get_or, length-take, length-drop, take, drop}
use Rattle.calls.proofs.Applying.{apply_deep, apply_called, apply_computed, apply_edited, chaining_start, chaining_stop, chaining_more, chaining_end}
use Rattle.calls.proofs.Frames.{still_after}
use Rattle.rewrite.proofs.Matcher.{kept_same}
use Rattle.calls.proofs.Seeking.{seek_end, seek_past, seek_spent, seek_differs, seek_stops, seek_parts, seek_found, seek_part_differs, seek_part_stops}
use Rattle.calls.proofs.Searching.{seeks_still, tried_few, tried_inside, spent, searching_start, Parting, parting_on}
use Rattle.rules.specs.Views.{onward_of}
use Rattle.calls.proofs.Rounds.{calling_start, calls_over, searched, placed}
use Rattle.calls.proofs.Finishing.{constructs_stopped, constructs_bound, finishes_stopped, finishes_closed}
use Rattle.calls.proofs.Filling.{limits_told, passes, filling_start, filling_end, filling_write_stops, filling_write, filling_copy_stops, filling_copy, filling_chain_stops, filling_chain, fills_over, fills_stopped, fills_added}
use Rattle.calls.proofs.Replacing.{replaces_stopped, replaces_put}
use mathlib.Core.Bool.{not}
use Rattle.calls.proofs.Parting.{step_deconstruct, step_construct, step_condition}
use Rattle.calls.proofs.+engine.Goals as goal

pub any_succeeds-succeeds-t-requires : goal.any_succeeds-succeeds-t-requires
any_succeeds-succeeds-t-requires t c = let p = c.requires in let m = p.0 in let i = c.loop.invariant in
    (omega arith, (record { sound = m.sound; few = m.few; low = m.low; long = omega (arith, m.long, i.long) }, omega (arith, i.near, c.loop-test.true), p.1, p.2, p.3))

pub any_succeeds-returns-in-Stops : goal.any_succeeds-returns-in-Stops
any_succeeds-returns-in-Stops t c = let a = c.args in
    trying_stop (given_of a.program.now) a.w.now a.pairs.now a.start a.n (open_of a.places.now a.frame) a.deep a.left
    _ _ _ _ c.loop.invariant (omega (arith, c.loop-test.true)) c.succeeds-t.new.w c.succeeds-t.result c.succeeds-t.ensures (⊎_elim (λ x. subst Ended (sym x.1) tt) (λ e. subst Ended (sym e) tt) c.in-Stops.is)

pub any_succeeds-returns : goal.any_succeeds-returns
any_succeeds-returns t c = let a = c.args in
    trying_end (given_of a.program.now) a.w.now a.pairs.now a.start a.n (open_of a.places.now a.frame) a.deep a.left
    _ _ _ _ c.loop.invariant (omega (arith, c.loop-test.false))

pub apply-returns-then-deep-eq0 : goal.apply-returns-then-deep-eq0
apply-returns-then-deep-eq0 t c = let a = c.args in let p = c.requires in
    apply_deep (given_of a.program.now) a.w.now a.pairs.now a.at a.base a.n (vars_of a.places.now a.bound) a.besides a.under a.deep a.left p.3 p.1
    c.word-a.result (get_or a.pairs.now (a.at + 1) 0) c.word-a.ensures refl c.if-a-lt-FIRST_OPERATION.true c.if-deep-eq0.true c.new.ensures

pub apply-gather-args-requires : goal.apply-gather-args-requires
apply-gather-args-requires t c = (omega arith, c.requires.0, refl)

pub apply-returns-then-a-lt-FIRST_OPERATION : goal.apply-returns-then-a-lt-FIRST_OPERATION
apply-returns-then-a-lt-FIRST_OPERATION t c = let a = c.args in let p = c.requires in
    apply_called (given_of a.program.now) a.w.now a.pairs.now a.at a.base a.n (vars_of a.places.now a.bound) a.besides a.under a.deep a.left p.3 p.1
    c.word-a.result c.word-count.result c.word-a.ensures c.word-count.ensures c.if-a-lt-FIRST_OPERATION.true c.if-deep-eq0.false _ c.gather-args.ensures c.rule_at-rule.result c.rule_at-rule.ensures
    c.call-c.new.w c.call-c.result c.call-c.ensures c.scope.result c.scope.ensures

pub apply-returns-then-a-lt-JOIN : goal.apply-returns-then-a-lt-JOIN
apply-returns-then-a-lt-JOIN t c = let a = c.args in let p = c.requires in
    apply_computed (given_of a.program.now) a.w.now a.pairs.now a.at a.base a.n (vars_of a.places.now a.bound) a.besides a.under a.deep a.left p.3 p.1
    c.word-a.result (get_or a.pairs.now (a.at + 1) 0) c.word-a.ensures refl c.if-a-lt-FIRST_OPERATION.false c.if-a-lt-JOIN.true p.0 c.value_of-b.result c.value_of-b.ensures
    c.compute_at.new.w c.compute_at.result c.compute_at.ensures c.with_nodes-nodes.result c.with_nodes-nodes.ensures

pub apply-returns : goal.apply-returns
apply-returns t c = let a = c.args in let p = c.requires in
    apply_edited (given_of a.program.now) a.w.now a.pairs.now a.at a.base a.n (vars_of a.places.now a.bound) a.besides a.under a.deep a.left p.3 p.1
    c.word-a.result (get_or a.pairs.now (a.at + 1) 0) c.word-a.ensures refl c.if-a-lt-JOIN.false p.0
    c.edit_at-nodes.new.w c.edit_at-nodes.result c.edit_at-nodes.ensures

pub call-loop-plan-init : goal.call-loop-plan-init
call-loop-plan-init t c =
    let a = c.args in
    (calling_start (given_of a.program.now) a.w.now a.at a.base a.n (vars_of a.places.now a.bound) a.besides a.deep a.left c.requires.4, (c.requires.0, kept_same (vars_of a.places.now a.bound)), refl)

pub call-returns-then-live-gt-MOST_LIVE : goal.call-returns-then-live-gt-MOST_LIVE
call-returns-then-live-gt-MOST_LIVE t c =
    let a = c.args in
    let i = c.loop-plan in
    calls_over (given_of a.program.now) a.w.now a.at a.base a.n (vars_of a.places.now a.bound) a.besides a.deep a.left i.w i.c.nodes i.c.left i.c.replacements i.from i.invariant.0 c.new-halt.ensures c.if-live-gt-MOST_LIVE.true

pub call-replace-b-requires : goal.call-replace-b-requires
call-replace-b-requires t c =
    let a = c.args in
    let i = c.loop-plan in
    let x = searched (given_of a.program.now) a.w.now a.at a.base a.n (vars_of a.places.now a.bound) a.besides a.deep a.left i.w i.c.nodes i.c.left i.c.replacements i.from i.invariant.0 c.if-live-gt-MOST_LIVE.false c.plan_of-plan.result c.plan_of-plan.ensures.1 c.seek-s.new.w _ (seeks_still (vars_of a.places.now a.bound) (vars_of i.places a.bound) refl i.invariant.1.1 c.seek-s.ensures) in
    let p = x.place c.in-Ok-Some.i (c.in-Ok-Some.is ∙ ap Ok (rw c.in-Ok-Some.is at c.in-Ok-Some.field-0-is)) in
    (omega arith, (x.room c.requires.5, p.0, i.invariant.0.few, p.1))

pub call-overflow_add-c : goal.call-overflow_add-c
call-overflow_add-c t c =
    let a = c.args in
    let i = c.loop-plan in
    let h = (placed (given_of a.program.now) a.w.now a.at a.base a.n (vars_of a.places.now a.bound) a.besides a.deep a.left i.w i.c.nodes i.c.left i.c.replacements i.from i.invariant.0 c.if-live-gt-MOST_LIVE.false c.plan_of-plan.result c.plan_of-plan.ensures.1 c.seek-s.new.w _ (seeks_still (vars_of a.places.now a.bound) (vars_of i.places a.bound) refl i.invariant.1.1 c.seek-s.ensures) c.in-Ok-Some.i (c.in-Ok-Some.is ∙ ap Ok (rw c.in-Ok-Some.is at c.in-Ok-Some.field-0-is)) c.replace-b.new.w c.replace-b.result c.replace-b.ensures _ refl).counted in
    let l : a.left.attempts < 4294967296 = search (rules, c.well_formed) in
    omega arith

pub call-overflow_mul-i : goal.call-overflow_mul-i
call-overflow_mul-i t c =
    let a = c.args in
    let i = c.loop-plan in
    omega (arith, ((searched (given_of a.program.now) a.w.now a.at a.base a.n (vars_of a.places.now a.bound) a.besides a.deep a.left i.w i.c.nodes i.c.left i.c.replacements i.from i.invariant.0 c.if-live-gt-MOST_LIVE.false c.plan_of-plan.result c.plan_of-plan.ensures.1 c.seek-s.new.w _ (seeks_still (vars_of a.places.now a.bound) (vars_of i.places a.bound) refl i.invariant.1.1 c.seek-s.ensures)).place c.in-Ok-Some.i (c.in-Ok-Some.is ∙ ap Ok (rw c.in-Ok-Some.is at c.in-Ok-Some.field-0-is))).0, i.invariant.0.few)

pub call-overflow_add-base : goal.call-overflow_add-base
call-overflow_add-base t c =
    let a = c.args in
    let i = c.loop-plan in
    omega (arith, ((searched (given_of a.program.now) a.w.now a.at a.base a.n (vars_of a.places.now a.bound) a.besides a.deep a.left i.w i.c.nodes i.c.left i.c.replacements i.from i.invariant.0 c.if-live-gt-MOST_LIVE.false c.plan_of-plan.result c.plan_of-plan.ensures.1 c.seek-s.new.w _ (seeks_still (vars_of a.places.now a.bound) (vars_of i.places a.bound) refl i.invariant.1.1 c.seek-s.ensures)).place c.in-Ok-Some.i (c.in-Ok-Some.is ∙ ap Ok (rw c.in-Ok-Some.is at c.in-Ok-Some.field-0-is))).0, i.invariant.0.few, c.requires.3)

pub call-onward-from-requires : goal.call-onward-from-requires
call-onward-from-requires t c =
    let a = c.args in
    let i = c.loop-plan in
    (omega (arith, ((searched (given_of a.program.now) a.w.now a.at a.base a.n (vars_of a.places.now a.bound) a.besides a.deep a.left i.w i.c.nodes i.c.left i.c.replacements i.from i.invariant.0 c.if-live-gt-MOST_LIVE.false c.plan_of-plan.result c.plan_of-plan.ensures.1 c.seek-s.new.w _ (seeks_still (vars_of a.places.now a.bound) (vars_of i.places a.bound) refl i.invariant.1.1 c.seek-s.ensures)).place c.in-Ok-Some.i (c.in-Ok-Some.is ∙ ap Ok (rw c.in-Ok-Some.is at c.in-Ok-Some.field-0-is))).0, i.invariant.0.few), c.size_at.ensures.1)

pub call-loop-plan-smaller : goal.call-loop-plan-smaller
call-loop-plan-smaller t c = let a = c.args in
    let i = c.loop-plan in
    (placed (given_of a.program.now) a.w.now a.at a.base a.n (vars_of a.places.now a.bound) a.besides a.deep a.left i.w i.c.nodes i.c.left i.c.replacements i.from i.invariant.0 c.if-live-gt-MOST_LIVE.false c.plan_of-plan.result c.plan_of-plan.ensures.1 c.seek-s.new.w _ (seeks_still (vars_of a.places.now a.bound) (vars_of i.places a.bound) refl i.invariant.1.1 c.seek-s.ensures) c.in-Ok-Some.i (c.in-Ok-Some.is ∙ ap Ok (rw c.in-Ok-Some.is at c.in-Ok-Some.field-0-is)) c.replace-b.new.w c.replace-b.result c.replace-b.ensures _ refl).spent

pub call-loop-plan-preserved : goal.call-loop-plan-preserved
call-loop-plan-preserved t c =
    let a = c.args in
    let i = c.loop-plan in
    let g = c.seek-s.ensures.grown in (
      rw ((c.onward-from.ensures ∙ ap (onward_of c.plan_of-plan.result.strategy c.in-Ok-Some.i) c.size_at.ensures.0)) ((placed (given_of a.program.now) a.w.now a.at a.base a.n (vars_of a.places.now a.bound) a.besides a.deep a.left i.w i.c.nodes i.c.left i.c.replacements i.from i.invariant.0 c.if-live-gt-MOST_LIVE.false c.plan_of-plan.result c.plan_of-plan.ensures.1 c.seek-s.new.w _ (seeks_still (vars_of a.places.now a.bound) (vars_of i.places a.bound) refl i.invariant.1.1 c.seek-s.ensures) c.in-Ok-Some.i (c.in-Ok-Some.is ∙ ap Ok (rw c.in-Ok-Some.is at c.in-Ok-Some.field-0-is)) c.replace-b.new.w c.replace-b.result c.replace-b.ensures c.again.result c.again.ensures).again c.in-Ok.is (ap not c.if-not-again.false)),
      still_after i.invariant.1 g.sound g.kept,
      i.invariant.2,
    )

pub chain-apply-b-requires : goal.chain-apply-b-requires
chain-apply-b-requires t c = let p = c.requires in let i = c.loop.invariant in
    (omega arith, (p.0, i.fits, p.2, i.few, p.4, omega (arith, i.long), omega (arith, i.near, c.loop-test.true)))

pub chain-returns : goal.chain-returns
chain-returns t c = let a = c.args in
    chaining_end (given_of a.program.now) a.w.now a.pairs.now a.from a.base a.n (vars_of a.places.now a.bound) a.besides a.under a.deep a.left
    _ _ _ _ _ c.loop.invariant (omega (arith, c.loop-test.false))

pub condition-returns-then-frame-n-gt-MOST_LIVE : goal.condition-returns-then-frame-n-gt-MOST_LIVE
condition-returns-then-frame-n-gt-MOST_LIVE t c = let a = c.args in let s = c.start_in-start in
    condition_over (given_of a.program.now) a.w.now a.c.negated a.c.chain a.next (open_of a.places.now a.frame) a.deep a.left c.requires
    _ c.word.result s.result c.nodes_at-n.result c.pairs_of-pairs.ensures.0 c.word.ensures s.ensures.0 c.nodes_at-n.ensures c.if-frame-n-gt-MOST_LIVE.true c.new.ensures

pub condition-returns : goal.condition-returns
condition-returns t c = let a = c.args in let s = c.start_in-start in let t = c.any_succeeds-t in
    condition_tested (given_of a.program.now) a.w.now a.c.negated a.c.chain a.next (open_of a.places.now a.frame) a.deep a.left c.requires
    _ c.word.result s.result c.nodes_at-n.result c.pairs_of-pairs.ensures.0 c.word.ensures s.ensures.0 c.nodes_at-n.ensures c.if-frame-n-gt-MOST_LIVE.false
    t.new.w t.result t.ensures c.turned.result c.turned.ensures _ refl

pub construct-bind-bound-requires : goal.construct-bind-bound-requires
construct-bind-bound-requires t c = (c.requires.sound, omega (arith, c.requires.low, c.requires.few))

pub fill-loop-i-init : goal.fill-loop-i-init
fill-loop-i-init t c =
    let a = c.args in
    filling_start (given_of a.program.now) a.w.now c.pairs_of-pairs.result.now (open_of a.places.now a.frame) a.deep a.left c.requires.few

pub fill-loop-i-preserved-then-t-eq-MARK_CHAIN : goal.fill-loop-i-preserved-then-t-eq-MARK_CHAIN
fill-loop-i-preserved-then-t-eq-MARK_CHAIN t c =
    let a = c.args in
    let l = c.loop-i in
    filling_chain (given_of a.program.now) a.w.now c.pairs_of-pairs.result.now (open_of a.places.now a.frame) a.deep a.left c.requires l.w l.fuel l.n l.i l.invariant c.loop-i-test.true c.pairs_of-pairs.ensures.1 c.if-t-eq-MARK_CHAIN.true c.fill_chain-c.new.w c.fill_chain-c.result c.fill_chain-c.ensures c.in-Ok.is

pub fill-push_tree-requires : goal.fill-push_tree-requires
fill-push_tree-requires t c =
    let f = limits_told (c.loop-i.n + c.nodes_at-m.result) (c.args.frame.live + c.loop-i.n + c.nodes_at-m.result) (sym c.check_limits.ensures ∙ passes c.check_limits.result c.in_default.not-Err) in
    (λ h. omega (arith, c.nodes_at-m.ensures.inside h), omega (arith, f.1, c.requires.low, c.requires.long, c.loop-i.invariant.long))

pub fill-loop-i-preserved-then-t-eq-MARK_VARIABLE : goal.fill-loop-i-preserved-then-t-eq-MARK_VARIABLE
fill-loop-i-preserved-then-t-eq-MARK_VARIABLE t c =
    let a = c.args in
    let l = c.loop-i in
    filling_copy (given_of a.program.now) a.w.now c.pairs_of-pairs.result.now (open_of a.places.now a.frame) a.deep a.left c.requires l.w l.fuel l.n l.i l.invariant c.loop-i-test.true c.pairs_of-pairs.ensures.1 c.if-t-eq-MARK_CHAIN.false c.if-t-eq-MARK_VARIABLE.true c.start_in-start.result c.nodes_at-m.result c.start_in-start.ensures.0 c.nodes_at-m.ensures c.check_limits.result c.check_limits.ensures (passes c.check_limits.result c.in_default.not-Err) c.push_tree.new.w c.push_tree.auto.w c.push_tree.ensures

pub fill-loop-i-preserved : goal.fill-loop-i-preserved
fill-loop-i-preserved t c =
    let a = c.args in
    let l = c.loop-i in
    filling_write (given_of a.program.now) a.w.now c.pairs_of-pairs.result.now (open_of a.places.now a.frame) a.deep a.left c.requires l.w l.fuel l.n l.i l.invariant c.loop-i-test.true c.pairs_of-pairs.ensures.1 c.if-t-eq-MARK_CHAIN.false c.if-t-eq-MARK_VARIABLE.false c.check_limits-else-t-eq-MARK_VARIABLE.result c.check_limits-else-t-eq-MARK_VARIABLE.ensures (passes c.check_limits-else-t-eq-MARK_VARIABLE.result c.in_default-check_limits.not-Err) c.push_node.new.w c.push_node.auto.w c.push_node.ensures

pub fill-returns : goal.fill-returns
fill-returns t c =
    let a = c.args in
    let l = c.loop-i in
    filling_end (given_of a.program.now) a.w.now c.pairs_of-pairs.result.now (open_of a.places.now a.frame) a.deep a.left c.requires l.w l.fuel l.n l.i l.invariant a.at c.pairs_of-pairs.ensures.0 c.loop-i-test.false

pub fill_chain-returns-then-besides-m-gt-MOST_LIVE : goal.fill_chain-returns-then-besides-m-gt-MOST_LIVE
fill_chain-returns-then-besides-m-gt-MOST_LIVE t c =
    let a = c.args in
    let q = c.requires in
    fills_over (given_of a.program.now) a.w.now a.pairs.now a.i a.n (open_of a.places.now a.frame) a.deep a.left q.0 q.2 c.start_in-start.result c.nodes_at-m.result (c.start_in-start.ensures.0 ∙ ap (start_at (vars_of a.places.now a.frame.bound)) c.word.ensures) c.nodes_at-m.ensures c.if-besides-m-gt-MOST_LIVE.true q.1 c.new.ensures

pub fill_chain-push_tree-requires : goal.fill_chain-push_tree-requires
fill_chain-push_tree-requires t c = (λ h. omega (arith, c.nodes_at-m.ensures.inside h), omega (arith, c.requires.0.low, c.requires.0.long, c.nodes_at-m.ensures.small))

pub matches-returns-then-live-gt-MOST_LIVE : goal.matches-returns-then-live-gt-MOST_LIVE
matches-returns-then-live-gt-MOST_LIVE t c = let a = c.args in rw c.new.ensures (matches_over (given_of a.program.now) a.w.now a.at a.start a.n (open_of a.places.now a.frame) a.deep a.left c.if-live-gt-MOST_LIVE.true)

pub matches-seek-s-requires : goal.matches-seek-s-requires
matches-seek-s-requires t c = let p = c.requires in
    (omega arith, (record { sound = p.0; few = c.if-live-gt-MOST_LIVE.false; low = omega arith; long = omega arith }, c.plan_of-plan.ensures.0, p.5, p.6, p.7))

pub seek-nodes-init : goal.seek-nodes-init
seek-nodes-init t c = ((c.requires.0.sound, kept_same (vars_of c.args.places.now c.args.frame.bound)), searching_start (given_of c.args.program.now) c.args.w.now c.args.plan c.args.base c.args.n (open_of c.args.places.now c.args.frame) c.args.deep c.args.left c.args.from c.requires.0)

pub seek-next_candidate-next-requires : goal.seek-next_candidate-next-requires
seek-next_candidate-next-requires t c = let h = tried_inside c.args.plan.strategy c.args.n c.nodes.i c.tried-last.result c.tried-last.ensures c.if-last-i.false in (c.pairs_of-pairs.ensures.1, c.first_of-first.ensures.known, c.requires.0.few, λ z. let k = tried_few c.args.plan.strategy c.args.n in (omega (arith, k, c.tried-last.ensures), omega (arith, h, c.requires.4 (omega (arith, h)), length-take (c.args.base + 2 * c.args.n - c.args.base) (drop c.args.base (take c.args.frame.top c.nodes.w)), length-drop c.args.base (take c.args.frame.top c.nodes.w), length-take c.args.frame.top c.nodes.w, c.requires.0.low, c.requires.0.few, c.requires.0.long, c.requires.2, c.requires.3, c.nodes.invariant.1.long)))

pub seek-match_pattern-m-requires : goal.seek-match_pattern-m-requires
seek-match_pattern-m-requires t c = let h = tried_inside c.args.plan.strategy c.args.n c.next_candidate-next.result.node c.tried-last.result c.tried-last.ensures c.if-last-i-2.false in (c.pairs_of-pairs.ensures.1, omega (arith, h, c.requires.4 (omega (arith, h)), c.requires.0.low, c.requires.0.few, c.requires.0.long, c.requires.2, c.requires.3, c.nodes.invariant.1.long), c.nodes.invariant.0.0, c.requires.0.few)

pub seek-nodes-smaller-in-Differs : goal.seek-nodes-smaller-in-Differs
seek-nodes-smaller-in-Differs t c = let h = tried_inside c.args.plan.strategy c.args.n c.next_candidate-next.result.node c.tried-last.result c.tried-last.ensures c.if-last-i-2.false in omega (arith, h, c.next_candidate-next.ensures.node_is)

pub seek-nodes-preserved-in-Differs : goal.seek-nodes-preserved-in-Differs
seek-nodes-preserved-in-Differs t c = let a = c.args in
    seek_differs (given_of a.program.now) a.w.now a.plan a.base a.n a.places.now a.frame a.deep a.left a.from c.requires.0 c.requires.4 c.nodes.w c.nodes.places c.nodes.fuel c.nodes.i c.nodes.invariant.0 c.nodes.invariant.1 _ c.tried-last.ensures _ c.pairs_of-pairs.ensures.0 c.if-last-i.false _ c.next_candidate-next.ensures c.if-last-i-2.false c.if-fuel-eq0.false c.match_pattern-m.result c.match_pattern-m.new.places c.match_pattern-m.ensures c.in-Differs.is

pub seek-loop-init : goal.seek-loop-init
seek-loop-init t c = let a = c.args in
    let all : a.plan.count - 0 ≡ a.plan.count = omega arith in
    (refl, rw (c.after_match-now.ensures, all) (seek_parts (given_of a.program.now) a.w.now a.plan a.base a.n a.places.now a.frame a.deep a.left a.from c.requires.0 c.requires.4 c.nodes.w c.nodes.places c.nodes.fuel c.nodes.i c.nodes.invariant.0 c.nodes.invariant.1 _ c.tried-last.ensures _ c.pairs_of-pairs.ensures.0 c.if-last-i.false _ c.next_candidate-next.ensures c.if-last-i-2.false c.if-fuel-eq0.false c.match_pattern-m.result c.match_pattern-m.new.places c.match_pattern-m.ensures))

pub seek-step-t-requires : goal.seek-step-t-requires
seek-step-t-requires t c = (omega (arith), (record { sound = c.loop.invariant.1.grown.sound; few = c.loop.invariant.1.grown.few; low = c.loop.invariant.1.grown.low; long = omega (arith, c.loop.invariant.1.long, c.nodes.invariant.1.long, c.requires.0.long) }))

pub seek-nodes-smaller : goal.seek-nodes-smaller
seek-nodes-smaller t c = let h = tried_inside c.args.plan.strategy c.args.n c.next_candidate-next.result.node c.tried-last.result c.tried-last.ensures c.if-last-i-2.false in omega (arith, h, c.next_candidate-next.ensures.node_is, c.loop.invariant.0)

pub seek-nodes-preserved : goal.seek-nodes-preserved
seek-nodes-preserved t c = let a = c.args in
    rw c.loop.invariant.0 (seek_part_differs (given_of a.program.now) a.w.now a.plan a.base a.n a.places.now a.frame a.deep a.left a.from c.requires.0 c.requires.4 c.nodes.w c.nodes.places c.nodes.fuel c.nodes.i c.nodes.invariant.0 c.nodes.invariant.1 _ c.tried-last.ensures _ c.pairs_of-pairs.ensures.0 c.if-last-i.false _ c.next_candidate-next.ensures c.if-last-i-2.false c.if-fuel-eq0.false c.match_pattern-m.result c.match_pattern-m.new.places c.match_pattern-m.ensures c.in-Matches.is c.requires.1 c.loop.w c.loop.places c.loop.fuel c.loop.now c.loop.at (c.args.plan.count - c.loop.counter)
    (subst (λ x. Parting (given_of a.program.now) a.deep c.nodes.w (spent c.next_candidate-next.result.left) (open_of c.match_pattern-m.new.places x) a.plan.first a.plan.count c.loop.w c.loop.fuel (open_of c.loop.places c.loop.now) c.loop.at (c.args.plan.count - c.loop.counter)) c.after_match-now.ensures c.loop.invariant.1) (omega (arith, c.loop-test.true)) c.step-t.new.w c.step-t.new.places c.step-t.result c.step-t.ensures c.in-Differs-verdict.is)

pub seek-loop-preserved : goal.seek-loop-preserved
seek-loop-preserved t c =
    let one : c.args.plan.count - (c.loop.counter + 1) ≡ c.args.plan.count - c.loop.counter - 1 = omega arith in
    (c.loop.invariant.0, rw one (parting_on (given_of c.args.program.now) c.args.deep c.nodes.w (spent c.next_candidate-next.result.left) (open_of c.match_pattern-m.new.places c.after_match-now.result) c.args.plan.first c.args.plan.count c.loop.w c.loop.fuel (open_of c.loop.places c.loop.now) c.loop.at (c.args.plan.count - c.loop.counter) c.loop.invariant.1 (omega (arith, c.loop-test.true)) _ _ c.step-t.ensures c.in-Matches-verdict.is))

pub seek-returns-then-last-i : goal.seek-returns-then-last-i
seek-returns-then-last-i t c = let a = c.args in
    seek_end (given_of a.program.now) a.w.now a.plan a.base a.n a.places.now a.frame a.deep a.left a.from c.requires.0 c.requires.4 c.nodes.w c.nodes.places c.nodes.fuel c.nodes.i c.nodes.invariant.0 c.nodes.invariant.1 _ c.tried-last.ensures c.if-last-i.true

pub seek-returns-then-last-i-2 : goal.seek-returns-then-last-i-2
seek-returns-then-last-i-2 t c = let a = c.args in
    seek_past (given_of a.program.now) a.w.now a.plan a.base a.n a.places.now a.frame a.deep a.left a.from c.requires.0 c.requires.4 c.nodes.w c.nodes.places c.nodes.fuel c.nodes.i c.nodes.invariant.0 c.nodes.invariant.1 _ c.tried-last.ensures _ c.pairs_of-pairs.ensures.0 c.if-last-i.false _ c.next_candidate-next.ensures c.if-last-i-2.true

pub seek-returns-then-fuel-eq0 : goal.seek-returns-then-fuel-eq0
seek-returns-then-fuel-eq0 t c = let a = c.args in
    seek_spent (given_of a.program.now) a.w.now a.plan a.base a.n a.places.now a.frame a.deep a.left a.from c.requires.0 c.requires.4 c.nodes.w c.nodes.places c.nodes.fuel c.nodes.i c.nodes.invariant.0 c.nodes.invariant.1 _ c.tried-last.ensures _ c.pairs_of-pairs.ensures.0 c.if-last-i.false _ c.next_candidate-next.ensures c.if-last-i-2.false c.if-fuel-eq0.true c.new.ensures

pub seek-returns-in-Stops : goal.seek-returns-in-Stops
seek-returns-in-Stops t c = let a = c.args in
    seek_stops (given_of a.program.now) a.w.now a.plan a.base a.n a.places.now a.frame a.deep a.left a.from c.requires.0 c.requires.4 c.nodes.w c.nodes.places c.nodes.fuel c.nodes.i c.nodes.invariant.0 c.nodes.invariant.1 _ c.tried-last.ensures _ c.pairs_of-pairs.ensures.0 c.if-last-i.false _ c.next_candidate-next.ensures c.if-last-i-2.false c.if-fuel-eq0.false c.match_pattern-m.result c.match_pattern-m.new.places c.match_pattern-m.ensures c.in-Stops.is

pub seek-returns-after-loop : goal.seek-returns-after-loop
seek-returns-after-loop t c = let a = c.args in
    rw c.loop.invariant.0 (seek_found (given_of a.program.now) a.w.now a.plan a.base a.n a.places.now a.frame a.deep a.left a.from c.requires.0 c.requires.4 c.nodes.w c.nodes.places c.nodes.fuel c.nodes.i c.nodes.invariant.0 c.nodes.invariant.1 _ c.tried-last.ensures _ c.pairs_of-pairs.ensures.0 c.if-last-i.false _ c.next_candidate-next.ensures c.if-last-i-2.false c.if-fuel-eq0.false c.match_pattern-m.result c.match_pattern-m.new.places c.match_pattern-m.ensures c.in-Matches.is c.requires.1 c.loop.w c.loop.places c.loop.fuel c.loop.now c.loop.at (c.args.plan.count - c.loop.counter)
    (subst (λ x. Parting (given_of a.program.now) a.deep c.nodes.w (spent c.next_candidate-next.result.left) (open_of c.match_pattern-m.new.places x) a.plan.first a.plan.count c.loop.w c.loop.fuel (open_of c.loop.places c.loop.now) c.loop.at (c.args.plan.count - c.loop.counter)) c.after_match-now.ensures c.loop.invariant.1) (omega (arith, c.loop-test.false)))

pub seek-returns-in-Stops-verdict : goal.seek-returns-in-Stops-verdict
seek-returns-in-Stops-verdict t c = let a = c.args in
    seek_part_stops (given_of a.program.now) a.w.now a.plan a.base a.n a.places.now a.frame a.deep a.left a.from c.requires.0 c.requires.4 c.nodes.w c.nodes.places c.nodes.fuel c.nodes.i c.nodes.invariant.0 c.nodes.invariant.1 _ c.tried-last.ensures _ c.pairs_of-pairs.ensures.0 c.if-last-i.false _ c.next_candidate-next.ensures c.if-last-i-2.false c.if-fuel-eq0.false c.match_pattern-m.result c.match_pattern-m.new.places c.match_pattern-m.ensures c.in-Matches.is c.requires.1 c.loop.w c.loop.places c.loop.fuel c.loop.now c.loop.at (c.args.plan.count - c.loop.counter)
    (subst (λ x. Parting (given_of a.program.now) a.deep c.nodes.w (spent c.next_candidate-next.result.left) (open_of c.match_pattern-m.new.places x) a.plan.first a.plan.count c.loop.w c.loop.fuel (open_of c.loop.places c.loop.now) c.loop.at (c.args.plan.count - c.loop.counter)) c.after_match-now.ensures c.loop.invariant.1) (omega (arith, c.loop-test.true)) c.step-t.new.w c.step-t.new.places c.step-t.result c.step-t.ensures c.in-Stops-verdict.is

pub step-returns-in-Deconstruct : goal.step-returns-in-Deconstruct
step-returns-in-Deconstruct t c = let a = c.args in
    step_deconstruct (given_of a.program.now) a.w.now a.at (open_of a.places.now a.frame) a.deep a.left a.w.now _ _ c.part_of-f.ensures _ c.in-Deconstruct.is c.deconstruct.ensures refl

pub step-returns-in-Construct : goal.step-returns-in-Construct
step-returns-in-Construct t c = let a = c.args in
    step_construct (given_of a.program.now) a.w.now a.at (open_of a.places.now a.frame) a.deep a.left _ _ _ c.part_of-f.ensures _ c.in-Construct.is c.construct.ensures

pub step-returns-in-Condition : goal.step-returns-in-Condition
step-returns-in-Condition t c = let a = c.args in
    step_condition (given_of a.program.now) a.w.now a.at (open_of a.places.now a.frame) a.deep a.left _ _ _ c.part_of-f.ensures _ c.in-Condition.is c.condition.ensures

pub succeeds-returns-then-deep-eq0 : goal.succeeds-returns-then-deep-eq0
succeeds-returns-then-deep-eq0 t c = let a = c.args in rw c.new.ensures (succeeds_deep (given_of a.program.now) a.w.now a.pairs.now a.at a.start a.n (open_of a.places.now a.frame) a.deep a.left
    c.word-a.result (get_or a.pairs.now (a.at + 1) 0) c.word-a.ensures refl c.if-a-lt-FIRST_OPERATION.true c.if-deep-eq0.true)

pub succeeds-gather-args-requires : goal.succeeds-gather-args-requires
succeeds-gather-args-requires t c = (omega arith, c.requires.0.sound, refl)

pub succeeds-matches-requires : goal.succeeds-matches-requires
succeeds-matches-requires t c = let p = c.requires in let m = p.0 in let g = c.gather-args.ensures in
    (omega arith, (g.sound, omega (arith, m.few, g.small), omega (arith, m.low), omega (arith, m.low, m.few), m.long, p.2, p.3, p.4))

pub succeeds-returns-then-a-lt-FIRST_OPERATION : goal.succeeds-returns-then-a-lt-FIRST_OPERATION
succeeds-returns-then-a-lt-FIRST_OPERATION t c = let a = c.args in
    succeeds_called (given_of a.program.now) a.w.now a.pairs.now a.at a.start a.n (open_of a.places.now a.frame) a.deep a.left
    c.word-a.result c.word-count.result c.word-a.ensures c.word-count.ensures c.if-a-lt-FIRST_OPERATION.true c.if-deep-eq0.false _ c.gather-args.ensures c.rule_at-rule.result c.rule_at-rule.ensures
    c.matches.new.w c.matches.auto.w c.matches.result c.matches.ensures

pub succeeds-returns-then-holds : goal.succeeds-returns-then-holds
succeeds-returns-then-holds t c = let a = c.args in
    succeeds_holds (given_of a.program.now) a.w.now a.pairs.now a.at a.start a.n (open_of a.places.now a.frame) a.deep a.left
    c.word-a.result (get_or a.pairs.now (a.at + 1) 0) c.word-a.ensures refl c.if-a-lt-FIRST_OPERATION.false c.requires.0.sound c.value_of-b.result c.word.result c.value_of-b.ensures c.word.ensures
    c.holds.result c.holds.ensures _ (ap test_verdict c.if-holds.true)

pub succeeds-returns : goal.succeeds-returns
succeeds-returns t c = let a = c.args in
    succeeds_holds (given_of a.program.now) a.w.now a.pairs.now a.at a.start a.n (open_of a.places.now a.frame) a.deep a.left
    c.word-a.result (get_or a.pairs.now (a.at + 1) 0) c.word-a.ensures refl c.if-a-lt-FIRST_OPERATION.false c.requires.0.sound c.value_of-b.result c.word.result c.value_of-b.ensures c.word.ensures
    c.holds.result c.holds.ensures _ (ap test_verdict c.if-holds.false)

pub any_succeeds-loop-init : goal.any_succeeds-loop-init
any_succeeds-loop-init t c = let a = c.args in
    let z : c.chain_count-k.result - 0 ≡ c.chain_count-k.result = omega arith in
    rw z (trying_start (given_of a.program.now) a.w.now a.pairs.now a.start a.n (open_of a.places.now a.frame) a.deep a.left c.chain_count-k.result c.chain_count-k.ensures.0 c.chain_count-k.ensures.1)

pub any_succeeds-loop-preserved : goal.any_succeeds-loop-preserved
any_succeeds-loop-preserved t c = let a = c.args in
    let z : c.chain_count-k.result - (c.loop.counter + 1) ≡ c.chain_count-k.result - c.loop.counter - 1 = omega arith in
    rw z (trying_more (given_of a.program.now) a.w.now a.pairs.now a.start a.n (open_of a.places.now a.frame) a.deep a.left
    _ _ _ _ c.loop.invariant (omega (arith, c.loop-test.true)) c.succeeds-t.new.w c.succeeds-t.result c.succeeds-t.ensures c.in-Differs.is c.word.result c.word.ensures (omega arith))

pub call-returns-in-Ok-None : goal.call-returns-in-Ok-None
call-returns-in-Ok-None t c = let a = c.args in
    let i = c.loop-plan in
    rw i.invariant.2 ((searched (given_of a.program.now) a.w.now a.at a.base a.n (vars_of a.places.now a.bound) a.besides a.deep a.left i.w i.c.nodes i.c.left i.c.replacements i.from i.invariant.0 c.if-live-gt-MOST_LIVE.false c.plan_of-plan.result c.plan_of-plan.ensures.1 c.seek-s.new.w _ (seeks_still (vars_of a.places.now a.bound) (vars_of i.places a.bound) refl i.invariant.1.1 c.seek-s.ensures)).nowhere (c.in-Ok-None.is ∙ ap Ok (rw c.in-Ok-None.is at c.in-Ok-None.field-0-is)))

pub call-returns-in-Err : goal.call-returns-in-Err
call-returns-in-Err t c = let a = c.args in
    let i = c.loop-plan in
    (searched (given_of a.program.now) a.w.now a.at a.base a.n (vars_of a.places.now a.bound) a.besides a.deep a.left i.w i.c.nodes i.c.left i.c.replacements i.from i.invariant.0 c.if-live-gt-MOST_LIVE.false c.plan_of-plan.result c.plan_of-plan.ensures.1 c.seek-s.new.w _ (seeks_still (vars_of a.places.now a.bound) (vars_of i.places a.bound) refl i.invariant.1.1 c.seek-s.ensures)).stops c.in-Err.is

pub call-returns-in-Err-nodes : goal.call-returns-in-Err-nodes
call-returns-in-Err-nodes t c = let a = c.args in
    let i = c.loop-plan in
    (placed (given_of a.program.now) a.w.now a.at a.base a.n (vars_of a.places.now a.bound) a.besides a.deep a.left i.w i.c.nodes i.c.left i.c.replacements i.from i.invariant.0 c.if-live-gt-MOST_LIVE.false c.plan_of-plan.result c.plan_of-plan.ensures.1 c.seek-s.new.w _ (seeks_still (vars_of a.places.now a.bound) (vars_of i.places a.bound) refl i.invariant.1.1 c.seek-s.ensures) c.in-Ok-Some.i (c.in-Ok-Some.is ∙ ap Ok (rw c.in-Ok-Some.is at c.in-Ok-Some.field-0-is)) c.replace-b.new.w c.replace-b.result c.replace-b.ensures _ refl).stops c.in-Err-nodes.is

pub call-returns-then-not-again : goal.call-returns-then-not-again
call-returns-then-not-again t c = let a = c.args in
    let i = c.loop-plan in
    rw i.invariant.2 ((placed (given_of a.program.now) a.w.now a.at a.base a.n (vars_of a.places.now a.bound) a.besides a.deep a.left i.w i.c.nodes i.c.left i.c.replacements i.from i.invariant.0 c.if-live-gt-MOST_LIVE.false c.plan_of-plan.result c.plan_of-plan.ensures.1 c.seek-s.new.w _ (seeks_still (vars_of a.places.now a.bound) (vars_of i.places a.bound) refl i.invariant.1.1 c.seek-s.ensures) c.in-Ok-Some.i (c.in-Ok-Some.is ∙ ap Ok (rw c.in-Ok-Some.is at c.in-Ok-Some.field-0-is)) c.replace-b.new.w c.replace-b.result c.replace-b.ensures c.again.result c.again.ensures).last c.in-Ok.is (ap not c.if-not-again.true))

pub chain-loop-init : goal.chain-loop-init
chain-loop-init t c = let a = c.args in let p = c.requires in
    let z : c.chain_count-k.result - 0 ≡ c.chain_count-k.result = omega arith in
    rw z (chaining_start (given_of a.program.now) a.w.now a.pairs.now a.from a.base a.n (vars_of a.places.now a.bound) a.besides a.under a.deep a.left
    p.3 p.1 p.6 c.chain_count-k.result c.chain_count-k.ensures.0 c.chain_count-k.ensures.1)

pub chain-returns-in-Err : goal.chain-returns-in-Err
chain-returns-in-Err t c = let a = c.args in
    chaining_stop (given_of a.program.now) a.w.now a.pairs.now a.from a.base a.n (vars_of a.places.now a.bound) a.besides a.under a.deep a.left
    _ _ _ _ _ c.loop.invariant (omega (arith, c.loop-test.true)) c.apply-b.new.w c.apply-b.result c.apply-b.ensures c.in-Err.is

pub chain-loop-preserved : goal.chain-loop-preserved
chain-loop-preserved t c = let a = c.args in
    let z : c.chain_count-k.result - (c.loop.counter + 1) ≡ c.chain_count-k.result - c.loop.counter - 1 = omega arith in
    rw z (chaining_more (given_of a.program.now) a.w.now a.pairs.now a.from a.base a.n (vars_of a.places.now a.bound) a.besides a.under a.deep a.left
    _ _ _ _ _ c.loop.invariant (omega (arith, c.loop-test.true)) c.apply-b.new.w c.apply-b.result c.apply-b.ensures c.in-Ok.is c.word.result c.word.ensures (omega arith))

pub construct-returns-in-Err : goal.construct-returns-in-Err
construct-returns-in-Err t c =
    let a = c.args in
    constructs_stopped (given_of a.program.now) a.w.now c.finish-b.new.w a.at a.next (open_of a.places.now a.frame) a.deep a.left c.requires c.finish-b.result c.finish-b.ensures c.in-Err.is

pub construct-returns-in-Ok : goal.construct-returns-in-Ok
construct-returns-in-Ok t c = let a = c.args in
    constructs_bound (given_of a.program.now) a.w.now c.finish-b.new.w a.at a.next (open_of a.places.now a.frame) a.deep a.left c.requires c.finish-b.result c.finish-b.ensures c.in-Ok.is _ c.bind-bound.ensures

pub fill-returns-in-Err : goal.fill-returns-in-Err
fill-returns-in-Err t c =
    let a = c.args in
    let l = c.loop-i in
    filling_chain_stops (given_of a.program.now) a.w.now c.pairs_of-pairs.result.now (open_of a.places.now a.frame) a.deep a.left c.requires l.w l.fuel l.n l.i l.invariant c.loop-i-test.true c.pairs_of-pairs.ensures.1 c.if-t-eq-MARK_CHAIN.true c.fill_chain-c.new.w c.fill_chain-c.result c.fill_chain-c.ensures c.in-Err.is a.at c.pairs_of-pairs.ensures.0

pub fill-returns-in-Err-check_limits : goal.fill-returns-in-Err-check_limits
fill-returns-in-Err-check_limits t c =
    let a = c.args in
    let l = c.loop-i in
    filling_copy_stops (given_of a.program.now) a.w.now c.pairs_of-pairs.result.now (open_of a.places.now a.frame) a.deep a.left c.requires l.w l.fuel l.n l.i l.invariant c.loop-i-test.true c.pairs_of-pairs.ensures.1 c.if-t-eq-MARK_CHAIN.false c.if-t-eq-MARK_VARIABLE.true c.start_in-start.result c.nodes_at-m.result c.start_in-start.ensures.0 c.nodes_at-m.ensures c.check_limits.result c.check_limits.ensures c.in-Err-check_limits.is a.at c.pairs_of-pairs.ensures.0

pub fill-returns-in-Err-check_limits-2 : goal.fill-returns-in-Err-check_limits-2
fill-returns-in-Err-check_limits-2 t c =
    let a = c.args in
    let l = c.loop-i in
    filling_write_stops (given_of a.program.now) a.w.now c.pairs_of-pairs.result.now (open_of a.places.now a.frame) a.deep a.left c.requires l.w l.fuel l.n l.i l.invariant c.loop-i-test.true c.pairs_of-pairs.ensures.1 c.if-t-eq-MARK_CHAIN.false c.if-t-eq-MARK_VARIABLE.false c.check_limits-else-t-eq-MARK_VARIABLE.result c.check_limits-else-t-eq-MARK_VARIABLE.ensures c.in-Err-check_limits-2.is a.at c.pairs_of-pairs.ensures.0

pub fill_chain-returns-in-Err : goal.fill_chain-returns-in-Err
fill_chain-returns-in-Err t c =
    let a = c.args in
    let q = c.requires in
    fills_stopped (given_of a.program.now) a.w.now a.pairs.now a.i a.n (open_of a.places.now a.frame) a.deep a.left q.0 q.2 c.start_in-start.result c.nodes_at-m.result (c.start_in-start.ensures.0 ∙ ap (start_at (vars_of a.places.now a.frame.bound)) c.word.ensures) c.nodes_at-m.ensures c.if-besides-m-gt-MOST_LIVE.false c.push_tree.new.w c.chain-c.new.w c.push_tree.auto.w c.push_tree.ensures c.chain-c.result c.chain-c.ensures c.in-Err.is

pub fill_chain-returns-in-Ok : goal.fill_chain-returns-in-Ok
fill_chain-returns-in-Ok t c =
    let a = c.args in
    let q = c.requires in
    fills_added (given_of a.program.now) a.w.now a.pairs.now a.i a.n (open_of a.places.now a.frame) a.deep a.left q.0 q.2 c.start_in-start.result c.nodes_at-m.result (c.start_in-start.ensures.0 ∙ ap (start_at (vars_of a.places.now a.frame.bound)) c.word.ensures) c.nodes_at-m.ensures c.if-besides-m-gt-MOST_LIVE.false c.push_tree.new.w c.chain-c.new.w c.push_tree.auto.w c.push_tree.ensures c.chain-c.result c.chain-c.ensures c.in-Ok.is c.check_nodes.result c.check_nodes.ensures c.with_nodes-nodes.result c.with_nodes-nodes.ensures

pub finish-returns-in-Err : goal.finish-returns-in-Err
finish-returns-in-Err t c =
    let a = c.args in
    finishes_stopped (given_of a.program.now) a.w.now c.fill-b.new.w a.at (open_of a.places.now a.frame) a.deep a.left c.fill-b.result c.fill-b.ensures c.in-Err.is

pub finish-close-requires : goal.finish-close-requires
finish-close-requires t c =
    let f = c.fill-b.ensures in
    let q = c.requires in
    (omega (arith, f.few c.in-Ok.is), omega (arith, f.fits c.in-Ok.is, f.few c.in-Ok.is, f.long, q.low, q.long, q.few))

pub finish-returns-in-Ok : goal.finish-returns-in-Ok
finish-returns-in-Ok t c =
    let a = c.args in
    finishes_closed (given_of a.program.now) a.w.now c.fill-b.new.w a.at (open_of a.places.now a.frame) a.deep a.left c.fill-b.result c.fill-b.ensures c.in-Ok.is c.close.new.w c.close.result c.close.ensures c.with_nodes.result c.with_nodes.ensures

pub matches-returns : goal.matches-returns
matches-returns t c = let a = c.args in
    matches_found (given_of a.program.now) a.w.now a.at a.start a.n (open_of a.places.now a.frame) a.deep a.left c.if-live-gt-MOST_LIVE.false c.seek-s.new.w c.plan_of-plan.result _ c.plan_of-plan.ensures.1 c.seek-s.ensures _ (sym c.verdict_of.ensures)

pub replace-returns-in-Err : goal.replace-returns-in-Err
replace-returns-in-Err t c =
    let a = c.args in
    let f = c.finish-b in
    replaces_stopped (given_of a.program.now) a.w.now f.new.w a.at a.base a.n a.i (open_of a.places.now a.frame) a.deep a.left f.result
    c.requires.1 c.requires.3 f.ensures c.in-Err.is

pub replace-replace_tree-requires : goal.replace-replace_tree-requires
replace-replace_tree-requires t c =
    let q = c.requires in
    let f = c.finish-b in
    omega (arith, q, f.auto.w, (f.ensures 0).fits c.in-Ok.is, (f.ensures 0).few c.in-Ok.is)

pub replace-returns-in-Ok : goal.replace-returns-in-Ok
replace-returns-in-Ok t c =
    let a = c.args in
    let f = c.finish-b in
    replaces_put (given_of a.program.now) a.w.now f.new.w a.at a.base a.n a.i (open_of a.places.now a.frame) a.deep a.left f.result
    c.requires.1 c.requires.3 f.ensures c.replace_tree.new.w c.replace_tree.result c.requires.2 c.in-Ok.is c.replace_tree.ensures

pub call-shape_of-w-in-Err-nodes : goal.call-shape_of-w-in-Err-nodes
call-shape_of-w-in-Err-nodes t c = let a = c.args in
    let i = c.loop-plan in
    (placed (given_of a.program.now) a.w.now a.at a.base a.n (vars_of a.places.now a.bound) a.besides a.deep a.left i.w i.c.nodes i.c.left i.c.replacements i.from i.invariant.0 c.if-live-gt-MOST_LIVE.false c.plan_of-plan.result c.plan_of-plan.ensures.1 c.seek-s.new.w _ (seeks_still (vars_of a.places.now a.bound) (vars_of i.places a.bound) refl i.invariant.1.1 c.seek-s.ensures) c.in-Ok-Some.i (c.in-Ok-Some.is ∙ ap Ok (rw c.in-Ok-Some.is at c.in-Ok-Some.field-0-is)) c.replace-b.new.w c.replace-b.result c.replace-b.ensures _ refl).long

pub call-shape_of-w-then-not-again : goal.call-shape_of-w-then-not-again
call-shape_of-w-then-not-again t c = let a = c.args in
    let i = c.loop-plan in
    (placed (given_of a.program.now) a.w.now a.at a.base a.n (vars_of a.places.now a.bound) a.besides a.deep a.left i.w i.c.nodes i.c.left i.c.replacements i.from i.invariant.0 c.if-live-gt-MOST_LIVE.false c.plan_of-plan.result c.plan_of-plan.ensures.1 c.seek-s.new.w _ (seeks_still (vars_of a.places.now a.bound) (vars_of i.places a.bound) refl i.invariant.1.1 c.seek-s.ensures) c.in-Ok-Some.i (c.in-Ok-Some.is ∙ ap Ok (rw c.in-Ok-Some.is at c.in-Ok-Some.field-0-is)) c.replace-b.new.w c.replace-b.result c.replace-b.ensures _ refl).long

pub construct-overflow_add-more : goal.construct-overflow_add-more
construct-overflow_add-more t c = omega (arith, (c.finish-b.ensures 0).fits c.in-Ok.is, c.requires.low)

pub construct-overflow_mul-more : goal.construct-overflow_mul-more
construct-overflow_mul-more t c = omega (arith, (c.finish-b.ensures 0).fits c.in-Ok.is, c.requires.low)

pub construct-overflow_add-more-in-Ok : goal.construct-overflow_add-more-in-Ok
construct-overflow_add-more-in-Ok t c = omega (arith, (c.finish-b.ensures 0).fits c.in-Ok.is, c.requires.low)

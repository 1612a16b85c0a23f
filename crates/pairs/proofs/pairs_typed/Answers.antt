use native.Mathlib.Omega.{arith}
use Prim.Native.Nat.{◌+◌, ◌≤◌}
use lib.ListN.{length, length-append}
use mathlib.Core.List.{[], ◌∷◌}
use Rattle.std.proofs.Math.Logic.{∥∥₁_elim}
use Rattle.std.specs.Coded.{le_prop}
use mathlib.Core.Path.{◌∙◌, sym, ap}
use Rattle.std.specs.Prelude.{Ok, Err}
use Rattle.judgement.specs.Typing.{meets}
use Rattle.judgement.proofs.Accept.{meets_steady}
use Rattle.dues.specs.Due.{due_as}
use Rattle.dues.specs.Views.{place_as}
use Rattle.words.proofs.Laws.{exits}
use Rattle.pairs.specs.Views.{typed_as}
use Rattle.pairs.proofs.Loop.{rest, rest_all, rest_short, rest_fault, rest_next, rest_new, rest_over, rest_whole, met_few, met_room, pop_some, pop_none, not_some, taken_off}
use Rattle.pairs.proofs.pairs_typed.Goals as goal

pub loop-due-init : goal.loop-due-init
loop-due-init c = record { low = omega (arith, ap length c.push.ensures, ap length c.clear.ensures, c.requires.0); within = omega arith; few = c.copy-known.ensures.1; same = λ g h rules b. rw (c.push.ensures, c.clear.ensures, c.copy-known.ensures.0) (rest_all (meets g rules (place_as c.args.here)) c.args.ps.now c.args.start (due_as c.args.first) c.args.variables.now) }

pub returns-then-ps-from-lt2 : goal.returns-then-ps-from-lt2
returns-then-ps-from-lt2 c = λ g h rules b. ap Err c.new.ensures ∙ rest_short (meets g rules (place_as c.args.here)) c.args.ps.now c.args.start c.pass_tokens-from.result c.loop-due.known (due_as c.in-Some.due) c.pop.new.self c.pass_tokens-from.ensures.within c.if-ps-from-lt2.true ∙ ap typed_as (sym (taken_off (meets g rules (place_as c.args.here)) c.args.ps.now c.args.start c.loop-due.i c.pass_tokens-from.result c.loop-due.known c.loop-due.stack c.pop.new.self (due_as c.in-Some.due) (c.loop-due.invariant.same g h rules b) (pop_some c.loop-due.stack c.pop.new.self c.pop.ensures c.in-Some.is) (c.pass_tokens-from.ensures.same g h rules)))

pub returns-in_err-met : goal.returns-in_err-met
returns-in_err-met c = λ g h rules b. exits c.from_residual.result c.from_residual.ensures ∙ rest_fault (meets g rules (place_as c.args.here)) c.args.ps.now c.args.start c.pass_tokens-from.result c.loop-due.known (due_as c.in-Some.due) c.pop.new.self (omega arith) (c.in_err-met.ensures g h rules b) ∙ ap typed_as (sym (taken_off (meets g rules (place_as c.args.here)) c.args.ps.now c.args.start c.loop-due.i c.pass_tokens-from.result c.loop-due.known c.loop-due.stack c.pop.new.self (due_as c.in-Some.due) (c.loop-due.invariant.same g h rules b) (pop_some c.loop-due.stack c.pop.new.self c.pop.ensures c.in-Some.is) (c.pass_tokens-from.ensures.same g h rules)))

pub push-requires-in-Some-met : goal.push-requires-in-Some-met
push-requires-in-Some-met c = ∥∥₁_elim c.args.book.now.given le_prop (λ G. met_room (c.meet.ensures G.grammar G.types_of.types_of G.rules G.book) (c.in_ok-met.was ∙ ap Ok c.in-Some-met.is))

pub loop-due-preserved-in-Some-met : goal.loop-due-preserved-in-Some-met
loop-due-preserved-in-Some-met c =
    let more : length c.meet.new.stack ≤ length c.pop.new.self + 8 = ∥∥₁_elim c.args.book.now.given le_prop (λ G. met_few (c.meet.ensures G.grammar G.types_of.types_of G.rules G.book) c.in_ok-met.met c.in_ok-met.was) in
    let top = ap length (pop_some c.loop-due.stack c.pop.new.self c.pop.ensures c.in-Some.is) in
    record {
      low = omega (arith, c.loop-due.invariant.low, c.pass_tokens-from.ensures.later, c.if-ps-from-lt2.false);
      within = omega (arith, c.if-ps-from-lt2.false);
      few = omega (arith, ap length c.push-in-Some-met.ensures, length-append c.loop-due.known (c.in-Some-met.d ∷ []), ∥∥₁_elim c.args.book.now.given le_prop (λ G. met_room (c.meet.ensures G.grammar G.types_of.types_of G.rules G.book) (c.in_ok-met.was ∙ ap Ok c.in-Some-met.is)));
      same = λ g h rules b. taken_off (meets g rules (place_as c.args.here)) c.args.ps.now c.args.start c.loop-due.i c.pass_tokens-from.result c.loop-due.known c.loop-due.stack c.pop.new.self (due_as c.in-Some.due) (c.loop-due.invariant.same g h rules b) (pop_some c.loop-due.stack c.pop.new.self c.pop.ensures c.in-Some.is) (c.pass_tokens-from.ensures.same g h rules)
          ∙ rest_new (meets g rules (place_as c.args.here)) c.args.ps.now c.args.start c.pass_tokens-from.result c.loop-due.known (due_as c.in-Some.due) c.pop.new.self (omega arith) (meets_steady g rules (place_as c.args.here) (due_as c.in-Some.due) c.loop-due.known _ _) (c.meet.ensures g h rules b) (c.in_ok-met.was ∙ ap Ok c.in-Some-met.is) ∙ rw c.push-in-Some-met.ensures;
    }

pub loop-due-preserved : goal.loop-due-preserved
loop-due-preserved c =
    let more : length c.meet.new.stack ≤ length c.pop.new.self + 8 = ∥∥₁_elim c.args.book.now.given le_prop (λ G. met_few (c.meet.ensures G.grammar G.types_of.types_of G.rules G.book) c.in_ok-met.met c.in_ok-met.was) in
    let top = ap length (pop_some c.loop-due.stack c.pop.new.self c.pop.ensures c.in-Some.is) in
    record {
      low = omega (arith, c.loop-due.invariant.low, c.pass_tokens-from.ensures.later, c.if-ps-from-lt2.false);
      within = omega (arith, c.if-ps-from-lt2.false);
      few = c.loop-due.invariant.few;
      same = λ g h rules b. taken_off (meets g rules (place_as c.args.here)) c.args.ps.now c.args.start c.loop-due.i c.pass_tokens-from.result c.loop-due.known c.loop-due.stack c.pop.new.self (due_as c.in-Some.due) (c.loop-due.invariant.same g h rules b) (pop_some c.loop-due.stack c.pop.new.self c.pop.ensures c.in-Some.is) (c.pass_tokens-from.ensures.same g h rules)
          ∙ rest_next (meets g rules (place_as c.args.here)) c.args.ps.now c.args.start c.pass_tokens-from.result c.loop-due.known (due_as c.in-Some.due) c.pop.new.self (omega arith) (meets_steady g rules (place_as c.args.here) (due_as c.in-Some.due) c.loop-due.known _ _) (c.meet.ensures g h rules b) (c.in_ok-met.was ∙ ap Ok (not_some c.in_ok-met.met c.in_default-met.not-Some));
    }

pub returns-then-i-ps : goal.returns-then-i-ps
returns-then-i-ps c = λ g h rules b. cc (rest_over (meets g rules (place_as c.args.here)) c.args.ps.now c.args.start c.loop-due.i c.loop-due.known c.if-i-ps.true ∙ ap typed_as (sym (c.loop-due.invariant.same g h rules b ∙ ap (λ s. rest (meets g rules (place_as c.args.here)) c.args.ps.now c.args.start c.loop-due.i s c.loop-due.known) (pop_none c.loop-due.stack c.pop.new.self c.pop.ensures c.in_default.not-Some))))

pub returns : goal.returns
returns c = λ g h rules b. rest_whole (meets g rules (place_as c.args.here)) c.args.ps.now c.args.start c.loop-due.i c.loop-due.known c.if-i-ps.false ∙ ap typed_as (sym (c.loop-due.invariant.same g h rules b ∙ ap (λ s. rest (meets g rules (place_as c.args.here)) c.args.ps.now c.args.start c.loop-due.i s c.loop-due.known) (pop_none c.loop-due.stack c.pop.new.self c.pop.ensures c.in_default.not-Some)))

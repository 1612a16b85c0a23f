-- DEMAND 3, from what `run` and `tamarind_run` ensure: each run of a list is a step that the meaning allows, so the meaning's claim about the list holds.
-- Assumes nothing.
use Prim.Native.Nat.{ℕ, zero, suc, ◌+◌, ◌-◌, ◌≤◌}
use mathlib.Core.Path.{◌≡◌, refl, sym, ap, ◌∙◌}
use mathlib.Core.List.{List, [], ◌∷◌, map}
use native.Mathlib.Omega.{arith}
use lib.ListN.{length, take, drop}
use lib.Seq.{take_at}
use lib.Dec.{eqb}
use Rattle.words.specs.Reader.{Words, pick}
use Rattle.meaning.specs.Meaning.{done, stopped, cannot_go_on}
use Rattle.meaning.specs.Outcome as Meant
use Rattle.meaning.specs.Outcome.{Inputs, refused, ended, outcome, result_after, work_after, output, is_done, filled_by}
use Rattle.meaning.specs.Runs.{Memories, Ran, step_of, Each, Sure, Fine, zeroed}
use Rattle.meaning.proofs.FromWords.{outcome_sure}
use Rattle.meaning.proofs.Runs.{one_after_another}
use Rattle.meaning.specs.declared.Stop.{Stop}
use Rattle.meaning.specs.declared.Stop.TheVariants.{BudgetSpent, CallsTooDeep, TooManyNodes, NestsTooDeep, TooManyLiveNodes, OutOfRange}
use Rattle.tamarind.specs.declared.Counts.{Counts}
use Rattle.tamarind.specs.declared.RunAnswer.{RunAnswer}
use Rattle.tamarind.specs.declared.Outcome.{Outcome}
use Rattle.tamarind.specs.declared.Outcome.TheVariants.{Refused, Done, Stopped}
use Rattle.tamarind.specs.Run as Run
use Rattle.meaning.specs.Stops.{number_of}
use Rattle.tamarind.specs.Run.{filled_of}
use Rattle.tamarind.specs.Exports.{exported_run, exported_outcome, said_exported, RunExported}
use Rattle.tamarind.specs.Pad.{Callable, run, tamarind_run, AnswerOf, Ensures, fields, PadRun, RunOn, EachOf, filled_words, was_done, Own, step_for, Pad, CanRun}
use Rattle.tamarind.proofs.Laws.{run_exported, exported_ran}

-- THE FIELDS TELL THE ANSWER

abbrev cause_of : ℕ → Stop
cause_of n = pick (eqb n 40) BudgetSpent (pick (eqb n 41) CallsTooDeep (pick (eqb n 42) TooManyNodes (pick (eqb n 43) NestsTooDeep (pick (eqb n 44) TooManyLiveNodes OutOfRange))))

cause_of_number : (s : Stop) → cause_of (number_of s) ≡ s
cause_of_number BudgetSpent = refl
cause_of_number CallsTooDeep = refl
cause_of_number TooManyNodes = refl
cause_of_number NestsTooDeep = refl
cause_of_number TooManyLiveNodes = refl
cause_of_number OutOfRange = refl

abbrev counts_of : RunAnswer → Counts
counts_of r = record { attempts = r.attempts; replacements = r.replacements; filled = r.filled }

abbrev answer_of : (f : Callable) → RunAnswer → AnswerOf f
answer_of run r = pick (eqb r.ending 0) (Done (counts_of r)) (pick (eqb r.ending 1) (Stopped (cause_of r.number) (counts_of r)) (Refused (r.number, r.position)))
answer_of tamarind_run r = r

enum_of_fields : (a : Outcome) → answer_of run (exported_outcome a) ≡ a
enum_of_fields (Refused x) = refl
enum_of_fields (Done c) = refl
enum_of_fields (Stopped s c) = ap (λ t. Stopped t c) (cause_of_number s)

answer_of_fields : (f : Callable) (a : AnswerOf f) → answer_of f (fields f a) ≡ a
answer_of_fields run a = enum_of_fields a
answer_of_fields tamarind_run a = refl

-- WHAT IS EXPORTED OF AN OUTCOME

module _ (result work : ℕ) (x : Inputs) where
  never_three : (o : Meant.Outcome) → Sure result work x o → (exported_run o).ending ≤ 2
  unfolding exported_run
  never_three (refused n p) h = omega arith
  never_three (ended done a k ws) h = omega arith
  never_three (ended (stopped n) a k ws) h = omega arith
  never_three (ended cannot_go_on a k ws) h = absurd h.ends

done_exactly : (o : Meant.Outcome) → was_done (exported_run o) ≡ is_done o
unfolding exported_run is_done
done_exactly (refused n p) = refl
done_exactly (ended done a k ws) = refl
done_exactly (ended (stopped n) a k ws) = refl
done_exactly (ended cannot_go_on a k ws) = refl

filled_count : (o : Meant.Outcome) → (exported_run o).filled ≡ length (filled_by o)
unfolding exported_run filled_by
filled_count (refused n p) = refl
filled_count (ended done a k ws) = refl
filled_count (ended (stopped n) a k ws) = refl
filled_count (ended cannot_go_on a k ws) = refl

filled_from : (o : Meant.Outcome) (result : Words) → take (length (filled_by o)) (result_after o result) ≡ filled_by o
unfolding result_after filled_by
filled_from (refused n p) result = refl
filled_from (ended e a k ws) result = take_at ws (drop (length ws) result) (length ws) refl

module _ (o : Meant.Outcome) (r : RunAnswer) (is : r ≡ exported_run o) where
  ends : (result work : ℕ) (x : Inputs) → Sure result work x o → r.ending ≤ 2
  ends result work x sure = rw is (never_three result work x o sure)

  module _ (before after : Memories) (leaves : after.result ≡ result_after o before.result) where
    pub filled_is : filled_words r after ≡ filled_by o
    filled_is = rw (is, filled_count o, leaves) (filled_from o before.result)

    posts : (slip : Words) → output (is_done o) (length (filled_by o)) after.result slip ≡ pick (is_done o) (filled_by o) slip → output (was_done r) r.filled after.result slip ≡ pick (was_done r) (filled_words r after) slip
    posts slip e = rw (filled_is, is, done_exactly o, filled_count o) e

-- ONE RUN

module _ (f : Callable) (x : Inputs) (before : Memories) (a : AnswerOf f) (after : Memories) (h : Ensures f x before a after) where
  abbrev said : Meant.Outcome
  said = said_exported (fields f a) after.result

  pub exports : RunExported x before (fields f a) after
  exports = both f a h
    where
      both : (f : Callable) (a : AnswerOf f) → Ensures f x before a after → RunExported x before (fields f a) after
      both run a h = run_exported x before a after h refl
      both tamarind_run a h = h

  ran : Ran before (step_for (record { inputs = x; by = f; answer = a; left = after }))
  ran = exported_ran x before (fields f a) after exports

  shown : fields f a ≡ exported_run said
  shown = exports.answered ∙ ap exported_run (sym ran.outcome)

  filled : filled_words (fields f a) after ≡ filled_by said
  filled = filled_is said (fields f a) shown before after ran.result

module _ (f : Callable) (x : Inputs) (first before : Memories) (a : AnswerOf f) (after : Memories) (h : Ensures f x before a after) (fine : Fine first before (step_for (record { inputs = x; by = f; answer = a; left = after }))) where
  alone : (on : AnswerOf f) (left : Memories) → Ensures f x (zeroed first) on left → (a ≡ on) × (filled_words (fields f a) after ≡ filled_words (fields f on) left)
  alone on left k =
      let same = fine.alone (step_for (record { inputs = x; by = f; answer = on; left = left })) refl (ran f x (zeroed first) on left k) in
      let e : fields f a ≡ fields f on = shown f x before a after h ∙ ap exported_run same ∙ sym (shown f x (zeroed first) on left k) in
      (sym (answer_of_fields f a) ∙ ap (answer_of f) e ∙ answer_of_fields f on, filled f x before a after h ∙ ap filled_by same ∙ sym (filled f x (zeroed first) on left k))

own : (first before : Memories) (r : PadRun) → RunOn before r → Fine first before (step_for r) → Own first before r
own first before r h fine =
    let o = (step_for r).outcome in
    let a = fields r.by r.answer in
    let is = shown r.by r.inputs before r.answer r.left h in
    record {
      alone = alone r.by r.inputs first before r.answer r.left h fine;
      ends = ends o a is (length first.result) (length first.work) r.inputs fine.sure;
      posts = posts o a is before r.left (ran r.by r.inputs before r.answer r.left h).result r.inputs.slip fine.posts;
    }

-- THE LIST

each_ran : (before : Memories) (runs : List PadRun) → EachOf RunOn before runs → Each Ran before (map step_for runs)
each_ran before [] h = tt
each_ran before (r ∷ more) h =
    (ran r.by r.inputs before r.answer r.left h.0, each_ran r.left more h.1)

each_own : (first before : Memories) (runs : List PadRun) → EachOf RunOn before runs → Each (Fine first) before (map step_for runs) → EachOf (Own first) before runs
each_own first before [] h f = tt
each_own first before (r ∷ more) h f = (own first before r h.0 f.0, each_own first r.left more h.1 f.1)

-- THE WHOLE CLAIM OF DEMAND 3
pub pad : Pad
pad first runs h = let w = one_after_another first (map step_for runs) (each_ran first runs h) in record { each = each_own first first runs h w.each; whole = w }

-- AN ANSWER THERE IS

number_of_cause : (n : ℕ) → 40 ≤ n → n ≤ 45 → number_of (cause_of n) ≡ n
number_of_cause n low high = let e : n ≡ 40 + (n - 40) = omega arith in rw e (from (n - 40) (omega arith))
  where
    from : (k : ℕ) → k ≤ 5 → number_of (cause_of (40 + k)) ≡ 40 + k
    from zero h = refl
    from (suc zero) h = refl
    from (suc (suc zero)) h = refl
    from (suc (suc (suc zero))) h = refl
    from (suc (suc (suc (suc zero)))) h = refl
    from (suc (suc (suc (suc (suc zero))))) h = refl
    from (suc (suc (suc (suc (suc (suc k)))))) h = absurd (omega arith)

-- the enum of what is exported says the outcome again
module _ (result work : ℕ) (x : Inputs) where
  enum_says : (o : Meant.Outcome) → Sure result work x o → (ws : Words) → (Run.said (answer_of run (exported_run o)) (result_after o ws) ≡ o) × (filled_of (answer_of run (exported_run o)) ≡ length (filled_by o))
  unfolding exported_run result_after filled_by
  enum_says (refused n p) h ws = (refl, refl)
  enum_says (ended done a k us) h ws = (ap (ended done a k) (take_at us (drop (length us) ws) (length us) refl), refl)
  enum_says (ended (stopped n) a k us) h ws = (rw (number_of_cause n h.ends.0 h.ends.1, take_at us (drop (length us) ws) (length us) refl), refl)
  enum_says (ended cannot_go_on a k us) h ws = absurd h.ends

met : (f : Callable) (x : Inputs) (before : Memories) → Ensures f x before (answer_of f (exported_run (step_of before x).outcome)) (step_of before x).left
unfolding step_of
met run x before =
    let o = outcome (length before.result) (length before.work) x in
    let e = enum_says (length before.result) (length before.work) x o (outcome_sure (length before.result) (length before.work) x) before.result in
    record {
      ran = record { outcome = e.0; result = ap (λ o. result_after o before.result) (sym e.0); work = ap (λ o. work_after o before.work) (sym e.0) };
      filled = e.1 ∙ ap (λ o. length (filled_by o)) (sym e.0);
    }
met tamarind_run x before = record { answered = refl; result = refl; work = refl }

-- the meaning's own step
pub can_run : CanRun
can_run f x before = (answer_of f (exported_run (step_of before x).outcome), (step_of before x).left, met f x before)

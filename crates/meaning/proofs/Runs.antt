-- ONE RUN AFTER ANOTHER: the claim about a whole list of runs, by induction on the list. Assumes nothing.
use Prim.Native.Nat.{ℕ}
use mathlib.Core.Path.{◌≡◌, refl, sym, ap, ◌∙◌}
use mathlib.Core.List.{List, [], ◌∷◌, ◌++◌, map}
use mathlib.Core.Bool.{true}
use native.Mathlib.Omega.{arith}
use lib.ListN.{length, get_or, take, drop, replicate, length-replicate}
use lib.Seq.{take_at, drop_at}
use lib.Dec.{leb}
use borrow.Author.Tests.{le-leb}
use Rattle.words.specs.Reader.{Words, pick}
use Rattle.words.proofs.Laws.{and_true}
use Rattle.words.proofs.Stretches.{over_word, over_length}
use Rattle.meaning.specs.Outcome.{Inputs, Outcome, refused, ended, result_after, work_after, output, is_done, filled_by}
use Rattle.meaning.specs.Runs.{Memories, Step, Ran, step_of, Each, lastly, Sure, Leaves, Fine, word_after, OneAfterAnother}
use Rattle.meaning.proofs.FromWords.{outcome_sure}

-- THE CONTRACT CAN BE MET
pub defined_ran : (before : Memories) (x : Inputs) → Ran before (step_of before x)
unfolding step_of
defined_ran before x = record { outcome = refl; result = refl; work = refl }

-- ONE STEP

module _ (o : Outcome) (before after : Memories) (is_result : after.result ≡ result_after o before.result) (is_work : after.work ≡ work_after o before.work) where
  leaves : (q : Outcome) → o ≡ q → Leaves before q after
  unfolding result_after work_after
  leaves (refused n p) e = (rw e at is_result, rw e at is_work)
  leaves (ended s a k ws) e =
      let r : after.result ≡ ws ++ drop (length ws) before.result = rw e at is_result in
      (rw r (take_at ws (drop (length ws) before.result) (length ws) refl), rw r (drop_at ws (drop (length ws) before.result) (length ws) refl), rw e at is_work)

  work_kept : (q : Outcome) → o ≡ q → length after.work ≡ length before.work
  unfolding work_after
  work_kept (refused n p) e = ap length (rw e at is_work)
  work_kept (ended s a k ws) e =
      let w : after.work ≡ replicate (length before.work) 0 = rw e at is_work in
      ap length w ∙ length-replicate {A = ℕ} (length before.work) 0

  result_kept : (work : ℕ) (x : Inputs) (q : Outcome) → o ≡ q → Sure (length before.result) work x q → length after.result ≡ length before.result
  unfolding result_after
  result_kept work x (refused n p) e h = ap length (rw e at is_result)
  result_kept work x (ended s a k ws) e h =
      let r : after.result ≡ ws ++ drop (length ws) before.result = rw e at is_result in
      ap length r ∙ over_length ws before.result h.fits

  word_after_lem : (q : Outcome) → o ≡ q → (more : List Outcome) (i : ℕ) → word_after (q ∷ more) i (get_or before.result i 0) ≡ word_after more i (get_or after.result i 0)
  unfolding word_after result_after
  word_after_lem (refused n p) e more i =
      let r : after.result ≡ before.result = rw e at is_result in
      rw r
  word_after_lem (ended s a k ws) e more i =
      let r : after.result ≡ ws ++ drop (length ws) before.result = rw e at is_result in
      rw (r, over_word ws before.result i)

  posts : (work : ℕ) (x : Inputs) (slip : Words) (q : Outcome) → o ≡ q → Sure (length before.result) work x q → output (is_done q) (length (filled_by q)) after.result slip ≡ pick (is_done q) (filled_by q) slip
  unfolding output filled_by is_done
  posts work x slip (refused n p) e h = refl
  posts work x slip (ended s a k ws) e h =
      let kept : length after.result ≡ length before.result = result_kept work x (ended s a k ws) e h in
      let there : leb (length ws) (length after.result) ≡ true = le-leb (length ws) (length after.result) (omega (arith, h.fits)) in
      let front : take (length ws) after.result ≡ ws = (leaves (ended s a k ws) e).0 in
      rw (there, front, ← and_true (is_done (ended s a k ws)))

-- THE LIST

module _ (first : Memories) where
  fine : (before : Memories) (s : Step) → length before.result ≡ length first.result → length before.work ≡ length first.work → Ran before s → Fine first before s
  fine before s er ew ran =
      let o = s.outcome in
      let sure : Sure (length before.result) (length before.work) s.inputs o = rw ran.outcome (outcome_sure (length before.result) (length before.work) s.inputs) in
      record {
        alone = λ on same alone. ran.outcome ∙ rw (er, ew, ← same) (sym (alone.outcome ∙ rw (length-replicate {A = ℕ} (length first.result) 0, length-replicate {A = ℕ} (length first.work) 0)));
        results = result_kept o before s.left ran.result ran.work (length before.work) s.inputs o refl sure ∙ er;
        works = work_kept o before s.left ran.result ran.work o refl ∙ ew;
        leaves = leaves o before s.left ran.result ran.work o refl;
        posts = posts o before s.left ran.result ran.work (length before.work) s.inputs s.inputs.slip o refl sure;
        sure = rw (er, ew) at sure;
      }

  each : (before : Memories) (steps : List Step) → length before.result ≡ length first.result → length before.work ≡ length first.work → Each Ran before steps → Each (Fine first) before steps
  each before [] er ew ran = tt
  each before (s ∷ more) er ew ran =
      let f = fine before s er ew ran.0 in
      (f, each s.left more f.results f.works ran.1)

words : (before : Memories) (steps : List Step) → Each Ran before steps → (i : ℕ) → get_or (lastly before steps).result i 0 ≡ word_after (map (λ s. s.outcome) steps) i (get_or before.result i 0)
unfolding lastly word_after
words before [] ran i = refl
words before (s ∷ more) ran i =
    words s.left more ran.1 i
    ∙ sym (word_after_lem s.outcome before s.left ran.0.result ran.0.work s.outcome refl (map (λ s. s.outcome) more) i)

pub one_after_another : OneAfterAnother
one_after_another first steps ran = record { each = each first first steps refl refl ran; words = words first steps ran }

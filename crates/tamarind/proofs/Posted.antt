-- THE WORDS TO POST: the choice between the result and the slip is one test, and what a posting names is what `words_to_post` hands back. Assumes nothing.
use Prim.Native.Nat.{ℕ, ◌≤◌}
use mathlib.Core.Path.{◌≡◌, refl, sym, ◌∙◌}
use mathlib.Core.Bool.{Bool, true, false}
use native.Mathlib.Omega.{arith}
use borrow.Author.Tests.{leb-true}
use lib.ListN.{length, take}
use lib.Seq.{take-length}
use lib.Dec.{eqb, leb}
use Rattle.words.specs.Reader.{Words, pick}
use Rattle.words.proofs.Laws.{and_both}
use Rattle.meaning.specs.Outcome.{output}
use Rattle.tamarind.specs.Exports.{posts_result, posting, Posts, PostsOutput}

-- THE TEST

module _ (was_done : Bool) (filled result_length : ℕ) where
  pub test_done : was_done ≡ true → leb filled result_length ≡ posts_result was_done filled result_length
  unfolding posts_result
  test_done t = rw t

  pub test_not_done : was_done ≡ false → false ≡ posts_result was_done filled result_length
  unfolding posts_result
  test_not_done f = rw f

  pub result_there : {b : Bool} → b ≡ posts_result was_done filled result_length → b ≡ true → filled ≤ result_length
  unfolding posts_result
  result_there is t = leb-true filled result_length (and_both was_done (leb filled result_length) (sym is ∙ t)).1

-- THE WORDS, by the test

module _ (was_done : Bool) (filled : ℕ) (result : Words) {b : Bool} (is : b ≡ posts_result was_done filled (length result)) where
  pub result_posted : (slip : Words) → b ≡ true → take filled result ≡ output was_done filled result slip
  unfolding output posts_result
  result_posted slip t = rw (sym is ∙ t)

  pub slip_posted : (slip : Words) → b ≡ false → slip ≡ output was_done filled result slip
  unfolding output posts_result
  slip_posted slip f = rw (sym is ∙ f)

-- WHERE THEY STAND, by the test

module _ (ending filled result_length slip_length : ℕ) {b : Bool} (is : b ≡ posts_result (eqb ending 0) filled result_length) where
  pub names_result : b ≡ true → record { source = 1; words = filled } ≡ posting ending filled result_length slip_length
  unfolding posting
  names_result t = rw (sym is ∙ t)

  pub names_slip : b ≡ false → record { source = 0; words = slip_length } ≡ posting ending filled result_length slip_length
  unfolding posting
  names_slip f = rw (sym is ∙ f)

module _ (ending filled : ℕ) (result slip : Words) where
  by_test : (b : Bool) → b ≡ posts_result (eqb ending 0) filled (length result) → Posts ending filled result slip (pick b (record { source = 1; words = filled }) (record { source = 0; words = length slip }))
  by_test true is = record { there = result_there (eqb ending 0) filled (length result) is refl; posted = result_posted (eqb ending 0) filled result is slip refl }
  by_test false is = record { there = omega arith; posted = take-length slip ∙ slip_posted (eqb ending 0) filled result is slip refl }

-- THE LAW: they are the same words
pub posts_output : PostsOutput
unfolding posting
posts_output ending filled result slip = by_test ending filled result slip (posts_result (eqb ending 0) filled (length result)) refl

-- Laws of answering an input, over plain variables. Assumes nothing.
use Prim.Native.Nat.{ℕ, ◌+◌, ◌*◌, ◌≤◌, min}
use mathlib.Core.Path.{◌≡◌, refl, sym, ap, ◌∙◌, subst}
use mathlib.Core.Logic.{◌⊎◌, inl, inr}
use mathlib.Core.Option.{Option, none, some}
use native.Mathlib.Omega.{arith}
use lib.ListN.{length, take, length-take}
use lib.Seq.{length-take-le}
use Rattle.words.specs.Reader.{Words}
use Rattle.meaning.specs.Limits.{least_result, least_work}
use Rattle.meaning.specs.Outcome.{Inputs, outcome, filled_by}
use Rattle.meaning.specs.Runs.{Memories}
use Rattle.tamarind.specs.Run.{said, filled_of, Runs}
use Rattle.tamarind.specs.declared.Outcome as Code
use Rattle.tamarind.specs.declared.Outcome.TheVariants.{Refused, Done, Stopped}
use Rattle.tamarind.specs.declared.Counts.{Counts}
use Rattle.tamarind.specs.declared.Stop.{Stop}
use Rattle.decimal.specs.Numbers.{Bytes, Numbers}
use Rattle.decimal.specs.Input.{input, input_at, input_of, most_numbers}
use Rattle.decimal.specs.Printed.{printed, printed_unread, Put}
use Rattle.decimal.specs.declared.numbers.Place.{Place}
use Rattle.decimal.specs.declared.numbers.Place.TheVariants.{Unread, Between, Within}
use Rattle.decimal.proofs.Reading.{count_all}
use Rattle.decimal.proofs.Whole.{printed_short, put_whole, enough_room}
use Rattle.bench.specs.Bench.{answer_to, bench, left_by, Answers, Whole, AnswersWhole}

-- THE OUTCOME

-- a part from the start is as long as it is cut
pub part_done : (o : Code.Outcome) (c : Counts) (result : Words) → o ≡ Done c → filled_of o ≤ length result → c.filled ≡ length (take c.filled result)
part_done o c result e h = sym (length-take-le c.filled result (rw e at h))

pub part_stopped : (o : Code.Outcome) (s : Stop) (c : Counts) (result : Words) → o ≡ Stopped s c → filled_of o ≤ length result → c.filled ≡ length (take c.filled result)
part_stopped o s c result e h = sym (length-take-le c.filled result (rw e at h))

-- the words that an answer says are in the result
pub filled_there : (o : Code.Outcome) (result : Words) → filled_of o ≡ length (filled_by (said o result)) → filled_of o ≤ length result
unfolding filled_by
filled_there (Refused x) result e = omega arith
filled_there (Done c) result e = omega (arith, e, length-take c.filled result)
filled_there (Stopped s c) result e = omega (arith, e, length-take c.filled result)

filled_few : (o : Code.Outcome) (result : Words) → length (filled_by (said o result)) ≤ length result
unfolding filled_by
filled_few (Refused x) result = omega arith
filled_few (Done c) result = omega (arith, length-take c.filled result)
filled_few (Stopped s c) result = omega (arith, length-take c.filled result)

pub ran_answers : (x : Inputs) (before after : Memories) (o : Code.Outcome) (out out' : Bytes) (r : ℕ) → Runs x before o after → length after.result ≡ length before.result
    → Put out 0 (printed (said o after.result)) r out' → Answers (some x) before out r after out'
unfolding answer_to
ran_answers x before after o out out' r ran long put =
    let e : said o after.result ≡ outcome (length before.result) (length before.work) x = ran.ran.outcome in
    let p : Put out 0 (printed (outcome (length before.result) (length before.work) x)) r out' = rw e at put in
    let w : after.result ≡ (left_by (some x) before).result = rw e at ran.ran.result in
    let k : after.work ≡ (left_by (some x) before).work = rw e at ran.ran.work in
    let few : length (filled_by (outcome (length before.result) (length before.work) x)) ≤ length after.result = rw e at (filled_few o after.result) in
    record {
      put = p;
      left = rw (w, k);
      whole = λ h. put_whole out (printed (outcome (length before.result) (length before.work) x)) out' r p
          (omega (arith, h, few, long, printed_short (outcome (length before.result) (length before.work) x)));
    }

-- AN INPUT THAT IS NONE

pub none_answers : (x : Option Inputs) (before : Memories) (out out' : Bytes) (r : ℕ) → x ≡ none → Put out 0 printed_unread r out' → Answers x before out r before out'
unfolding answer_to
none_answers x before out out' r e put = rw e record { put = put; left = refl; whole = λ h. put_whole out printed_unread out' r put (omega (arith, h)) }

-- THE NUMBERS OF A TEXT

pub between_input : (p : Place) (ns : Words) (n m : ℕ) → p ≡ Between → m ≡ min n (length ns) → input_at p (take n ns) ≡ input (take m ns)
unfolding input_at
between_input p ns n m e f = rw (e, f, count_all)

pub no_input : (p : Place) (ns : Words) → (p ≡ Unread) ⊎ ((v : ℕ) × (p ≡ Within v)) → input_at p ns ≡ none
unfolding input_at
no_input p ns (inl e) = rw e
no_input p ns (inr x) = rw x.1

-- THE BYTES TO WRITE

pub whole_part : {t : Bytes} (r : ℕ) (out : Bytes) → Whole t r out → r ≡ length (take r out)
whole_part r out x = sym (length-take-le r out x.fits)

pub answers_whole : (x : Option Inputs) (before after : Memories) (out out' : Bytes) (r : ℕ) → length before.result ≡ least_result → length before.work ≡ least_work → length out ≡ 129200
    → Answers x before out r after out' → Whole (answer_to least_result least_work x) r out'
answers_whole x before after out out' r a b n y =
    let h : 21 * length before.result + 100 ≤ length out = omega (arith, a, n) in
    record { bytes = rw (a, b) at (y.whole h); fits = omega (arith, y.put.fits, y.put.long) }

-- a text for which there is room enough is answered as the bench does
pub answers_text : (s : Numbers) (room r : ℕ) (out : Bytes) → room ≡ most_numbers → Whole (answer_to least_result least_work (input_of s)) r out → AnswersWhole s room r out
unfolding bench
answers_text s room r out h x =
    record {
      whole = x;
      text = λ t e. subst (λ (y : Option Inputs). Whole (answer_to least_result least_work y) r out) (ap input_of e ∙ enough_room room t (omega (arith, h))) x;
    }

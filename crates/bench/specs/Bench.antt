-- THE BENCH, from bytes to bytes. Assumes nothing: these are definitions.
use Rattle.std.specs.Prelude.{ℕ, ◌+◌, ◌*◌, ◌≤◌, ◌≡◌, List, length, take}
use Rattle.std.proofs.Math.Option.{Option, none, some}
use Rattle.meaning.specs.Limits.{least_result, least_work}
use Rattle.meaning.specs.Outcome.{Inputs, outcome, result_after, work_after}
use Rattle.meaning.specs.Runs.{Memories}
use Rattle.words.specs.Reader.{Words}
use Rattle.decimal.specs.Numbers.{Bytes, Numbers, start, numbers, Delivery, delivered, read_over, text_of, said, Delivers}
use Rattle.decimal.specs.Input.{most_numbers, input_of, input_from}
use Rattle.decimal.specs.Printed.{printed, printed_unread, Put}
use Rattle.decimal.specs.declared.numbers.Reading.{Reading}
use Rattle.decimal.specs.declared.numbers.Piece.{Piece}

-- what is printed of an input, run over memories of these lengths
unfoldable pub answer_to : ℕ → ℕ → Option Inputs → Bytes
answer_to result work none = printed_unread
answer_to result work (some x) = printed (outcome result work x)

-- what is printed of a text
unfoldable pub bench : Bytes → Bytes
bench text = answer_to least_result least_work (input_from text)

-- WHAT THE CODE PROMISES

-- the memories afterwards; what is unread changes nothing
abbrev pub left_by : Option Inputs → Memories → Memories
left_by none before = before
left_by (some x) before =
    let o = outcome (length before.result) (length before.work) x in
    record { result = result_after o before.result; work = work_after o before.work }

-- the answer to an input, put into `out`
pub record Answers (x : Option Inputs) (before : Memories) (out : Bytes) (r : ℕ) (after : Memories) (out' : Bytes) : Type 0 where
  pub put : Put out 0 (answer_to (length before.result) (length before.work) x) r out'
  pub left : after ≡ left_by x before
  -- in so many bytes it is whole
  pub whole : 21 * length before.result + 100 ≤ length out → take r out' ≡ answer_to (length before.result) (length before.work) x

-- the first r bytes are the text, whole
pub record Whole (text : Bytes) (r : ℕ) (out : Bytes) : Type 0 where
  pub bytes : take r out ≡ text
  pub fits : r ≤ length out

-- the answer to what was read with room for so many numbers: it is whole, and if a text was read, it is the bench's
pub record AnswersWhole (s : Numbers) (room : ℕ) (r : ℕ) (out : Bytes) : Type 0 where
  pub whole : Whole (answer_to least_result least_work (input_of s)) r out
  pub text : (t : Bytes) → s ≡ numbers room t → Whole (bench t) r out

-- a reading went on by one answer of the system's `read`, whatever that was
pub record ReadsOnce (s : Reading) (before : Words) (r : Piece) (after : Words) : Type 0 where
  pub delivery : Delivery
  pub reads : Delivers delivery.got (delivered (length before) (said s before) delivery.got delivery.buffer) before r after

-- a reading went on by some of them, up to where there is no more
pub record ReadsOn (s : Reading) (before : Words) (r : Reading) (after : Words) : Type 0 where
  pub deliveries : List Delivery
  pub reads : read_over (length before) (said s before) deliveries ≡ some (said r after)

-- the answer to what the system's `read` delivered, whatever that was: it is whole, and if that is a text, it is the bench's
pub record AnswersInput (r : ℕ) (out : Bytes) : Type 0 where
  pub deliveries : List Delivery
  pub found : Numbers
  pub reads : read_over most_numbers start deliveries ≡ some found
  pub whole : Whole (answer_to least_result least_work (input_of found)) r out
  pub text : (t : Bytes) → text_of deliveries ≡ some t → Whole (bench t) r out

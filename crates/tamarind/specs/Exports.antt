-- What the exported functions hand back. Assumes nothing: these are definitions.
use Rattle.std.specs.Prelude.{ℕ, ◌≤◌, ◌≡◌, Bool, length, take, eqb, leb}
use Rattle.words.specs.Reader.{Words, pick, and, Read, value, refused}
use Rattle.std.specs.Prelude.{Result, Ok, Err}
use Rattle.meaning.specs.Meaning.{Ending, done, stopped, cannot_go_on}
use Rattle.meaning.specs.Outcome.{Inputs, Outcome, ended, outcome, result_after, work_after, output}
use Rattle.meaning.specs.Outcome as Meant
use Rattle.meaning.specs.Runs.{Memories}
use Rattle.convert.specs.Conversion.{conversion, converted_as}
use Rattle.convert.specs.Conversion as Conversion
use Rattle.convert.specs.Refusals.{grammar_number}
use Rattle.convert.specs.declared.refusal.ConversionRefusal.{ConversionRefusal}
use Rattle.tamarind.specs.declared.Answer.{Answer}
use Rattle.tamarind.specs.declared.RunAnswer.{RunAnswer}
use Rattle.tamarind.specs.declared.ConversionAnswer.{ConversionAnswer}
use Rattle.tamarind.specs.declared.Posting.{Posting}
use Rattle.tamarind.specs.declared.Outcome as Code
use Rattle.tamarind.specs.declared.Outcome.TheVariants as Run
use Rattle.meaning.specs.Stops.{number_of}

-- the paper's number and position of the refusal; 0 and 0 where nothing is refused
abbrev pub exported : {A : Type 0} → Read A → Answer
exported (value a next) = record { number = 0; position = 0 }
exported (refused n p) = record { number = n; position = p }

-- the same of a check's answer
abbrev pub exported_check : Result ℕ (ℕ × ℕ) → Answer
exported_check (Ok p) = record { number = 0; position = 0 }
exported_check (Err x) = record { number = x.0; position = x.1 }

-- A RUN

-- an accepted run's answer: how it ended, the stop's number, and its counts
abbrev pub exported_counts : ℕ → ℕ → ℕ → ℕ → ℕ → RunAnswer
exported_counts ending number attempts replacements filled =
    record { ending = ending; number = number; position = 0; attempts = attempts; replacements = replacements; filled = filled }

-- "ending or refusal, number, position, trials, replacements, filled count .., as far as an outcome has them": 0 done, 1 stopped, 2 refused; 3 never stands (Pad.antt, `ends`)
unfoldable pub exported_run : Outcome → RunAnswer
exported_run (Meant.refused n p) = record { ending = 2; number = n; position = p; attempts = 0; replacements = 0; filled = 0 }
exported_run (ended done a k ws) = exported_counts 0 0 a k (length ws)
exported_run (ended (stopped n) a k ws) = exported_counts 1 n a k (length ws)
exported_run (ended cannot_go_on a k ws) = exported_counts 3 0 a k (length ws)

-- the same of the answer of `run`
abbrev pub exported_outcome : Code.Outcome → RunAnswer
exported_outcome (Run.Refused x) = record { ending = 2; number = x.0; position = x.1; attempts = 0; replacements = 0; filled = 0 }
exported_outcome (Run.Done c) = exported_counts 0 0 c.attempts c.replacements c.filled
exported_outcome (Run.Stopped s c) = exported_counts 1 (number_of s) c.attempts c.replacements c.filled

-- how an accepted run ended, by its ending and its number
abbrev pub ending_of : ℕ → ℕ → Ending
ending_of ending number = pick (eqb ending 0) done (pick (eqb ending 1) (stopped number) cannot_go_on)

-- the outcome that an exported answer says, with the result memory as it is afterwards
abbrev pub said_exported : RunAnswer → Words → Outcome
said_exported r result = pick (eqb r.ending 2) (Meant.refused r.number r.position) (ended (ending_of r.ending r.number) r.attempts r.replacements (take r.filled result))

-- what a run brought, the memories before it, its answer, and the memories after it: all are the meaning's
pub record RunExported (x : Inputs) (before : Memories) (r : RunAnswer) (after : Memories) : Type 0 where
  pub answered : r ≡ exported_run (outcome (length before.result) (length before.work) x)
  pub result : after.result ≡ result_after (outcome (length before.result) (length before.work) x) before.result
  pub work : after.work ≡ work_after (outcome (length before.result) (length before.work) x) before.work

-- A CONVERSION

-- a refusal's number and position and the grammar at fault, or the count of the words filled; 0 where there is none
abbrev pub exported_converted : Result ℕ ConversionRefusal → ConversionAnswer
exported_converted (Ok n) = record { number = 0; position = 0; grammar = 0; filled = n }
exported_converted (Err x) = record { number = x.refusal.0; position = x.refusal.1; grammar = grammar_number x.grammar; filled = 0 }

-- the edition of the slip, what was given, the result before and after, and the answer: all are the definition's
pub record ConversionExported (edition : Bool) (olds news ts ss before after : Words) (r : ConversionAnswer) : Type 0 where
  pub answered : r ≡ exported_converted (converted_as (conversion edition (length before) olds news ts ss))
  pub result : after ≡ Conversion.result_after (conversion edition (length before) olds news ts ss) before

-- WHAT TO POST

-- is it the result's words? If the run was done and the filled count does not lie past the result's end
unfoldable pub posts_result : Bool → ℕ → ℕ → Bool
posts_result was_done filled result_length = and was_done (leb filled result_length)

-- "The words to post are the filled part of the result if the run was done, else the slip itself; a filled count past the result's end also gives the slip", from
-- the ending, the filled count and the lengths of the result and the slip: the source is 1 for the result and 0 for the slip, and so many of its words from word 0
unfoldable pub posting : ℕ → ℕ → ℕ → ℕ → Posting
posting ending filled result_length slip_length =
    pick (posts_result (eqb ending 0) filled result_length) (record { source = 1; words = filled }) (record { source = 0; words = slip_length })

-- the memory that a posting's source names
abbrev pub source_of : Posting → Words → Words → Words
source_of p result slip = pick (eqb p.source 1) result slip

-- all the words that a posting names are there, and they are those that `words_to_post` hands back
pub record Posts (ending filled : ℕ) (result slip : Words) (p : Posting) : Type 0 where
  pub there : p.words ≤ length (source_of p result slip)
  pub posted : take p.words (source_of p result slip) ≡ output (eqb ending 0) filled result slip

-- THE LAW of `posting`, given the lengths of a result and a slip; proofs/Posted.antt proves it
abbrev pub PostsOutput : Type 0
PostsOutput = (ending filled : ℕ) (result slip : Words) → Posts ending filled result slip (posting ending filled (length result) (length slip))

-- THE EDITION of the exported functions: 0 is document 01, and a change request that a caller can see sets its own number: 1 is T-01, 2 is T-02, 4 is T-04, 5 is T-05,
-- 6 is T-06, 7 is T-07, 8 is T-08
abbrev pub edition : ℕ
edition = 8

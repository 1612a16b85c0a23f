-- What is exported of a check's answer is what is exported of the reading, of a run's answer what is exported of the outcome, and that says the outcome again; the same of a conversion.
-- Assumes nothing.
use mathlib.Core.Path.{◌≡◌, refl, ap, ◌∙◌}
use Prim.Native.Nat.{ℕ}
use mathlib.Core.List.{List}
use mathlib.Core.Bool.{Bool}
use lib.ListN.{length, drop}
use lib.Seq.{take_at}
use Rattle.words.specs.Reader.{Words, Read, value, refused}
use Rattle.std.specs.Prelude.{Result}
use Rattle.words.specs.Views.{answer}
use Rattle.tamarind.specs.declared.Answer.{Answer}
use Rattle.meaning.specs.Meaning.{done, stopped, cannot_go_on}
use Rattle.meaning.specs.Outcome.{Inputs, ended, outcome, result_after, filled_by}
use Rattle.meaning.specs.Outcome as Meant
use Rattle.meaning.specs.Runs.{Memories, Ran}
use Rattle.convert.specs.Conversion.{conversion, Converts}
use Rattle.convert.specs.declared.refusal.ConversionRefusal.{ConversionRefusal}
use Rattle.tamarind.specs.declared.RunAnswer.{RunAnswer}
use Rattle.tamarind.specs.declared.ConversionAnswer.{ConversionAnswer}
use Rattle.tamarind.specs.declared.Outcome.{Outcome}
use Rattle.tamarind.specs.declared.Outcome.TheVariants as Run
use Rattle.meaning.specs.Stops.{number_of}
use Rattle.tamarind.specs.Run.{said, filled_of, Runs}
use Rattle.tamarind.specs.Exports.{exported, exported_check, exported_counts, exported_run, exported_outcome, said_exported, RunExported, exported_converted, ConversionExported}

export_answer : {A : Type 0} (q : Read A) → exported_check (answer q) ≡ exported q
export_answer (value a next) = refl
export_answer (refused n p) = refl

pub export_check : {A : Type 0} (q : Read A) (c : Result ℕ (ℕ × ℕ)) (r : Answer) → c ≡ answer q → r ≡ exported_check c → r ≡ exported q
export_check q c r e f = f ∙ ap exported_check e ∙ export_answer q

-- A RUN

exported_said : (o : Outcome) (result : List ℕ) → filled_of o ≡ length (filled_by (said o result)) → exported_outcome o ≡ exported_run (said o result)
unfolding exported_run filled_by
exported_said (Run.Refused x) result h = refl
exported_said (Run.Done c) result h = ap (exported_counts 0 0 c.attempts c.replacements) h
exported_said (Run.Stopped s c) result h = ap (exported_counts 1 (number_of s) c.attempts c.replacements) h

pub run_exported : (x : Inputs) (before : Memories) (o : Outcome) (after : Memories) {r : RunAnswer} → Runs x before o after → r ≡ exported_outcome o → RunExported x before r after
run_exported x before o after h e = record {
  answered = e ∙ exported_said o after.result h.filled ∙ ap exported_run h.ran.outcome;
  result = rw (← h.ran.outcome) h.ran.result;
  work = rw (← h.ran.outcome) h.ran.work;
}

-- .. AND BACK

said_again : (o : Meant.Outcome) (result : Words) → said_exported (exported_run o) (result_after o result) ≡ o
unfolding exported_run result_after
said_again (Meant.refused n p) result = refl
said_again (ended done a k ws) result = ap (ended done a k) (take_at ws (drop (length ws) result) (length ws) refl)
said_again (ended (stopped n) a k ws) result = ap (ended (stopped n) a k) (take_at ws (drop (length ws) result) (length ws) refl)
said_again (ended cannot_go_on a k ws) result = ap (ended cannot_go_on a k) (take_at ws (drop (length ws) result) (length ws) refl)

-- what `tamarind_run` promises is what the meaning asks of a step
pub exported_ran : (x : Inputs) (before : Memories) (r : RunAnswer) (after : Memories) → RunExported x before r after → Ran before (record { inputs = x; outcome = said_exported r after.result; left = after })
exported_ran x before r after h =
    let o = outcome (length before.result) (length before.work) x in
    let e : said_exported r after.result ≡ o = rw (h.answered, h.result) (said_again o before.result) in
    record { outcome = e; result = rw e h.result; work = rw e h.work }

-- A CONVERSION

pub conversion_exported : {edition : Bool} {olds news ts ss before after : Words} (c : Result ℕ ConversionRefusal) {r : ConversionAnswer} → Converts (conversion edition (length before) olds news ts ss) before after c → r ≡ exported_converted c → ConversionExported edition olds news ts ss before after r
conversion_exported c d e = record { answered = e ∙ ap exported_converted d.answered; result = d.result }

-- ONE RUN AFTER ANOTHER, by this core: the claim of demand 3 about a whole list of runs, each made by `run` or by `tamarind_run` as its caller likes.
-- proofs/Pad.antt proves it. Assumes nothing: these are definitions.
use Rattle.std.specs.Prelude.{◌≤◌, ◌≡◌, List, map, Bool, take, eqb}
use Rattle.words.specs.Reader.{Words, pick}
use Rattle.meaning.specs.Outcome.{Inputs, output}
use Rattle.meaning.specs.Runs.{Memories, Step, EachLeaving, zeroed, Whole}
use Rattle.tamarind.specs.declared.Outcome.{Outcome}
use Rattle.tamarind.specs.declared.RunAnswer.{RunAnswer}
use Rattle.tamarind.specs.Run.{Runs}
use Rattle.tamarind.specs.Exports.{exported_outcome, said_exported, RunExported}

-- A RUN OF THE PAD

-- the function that makes it: `run`, called from Rattle, or `tamarind_run`, called from C and Rust
pub data Callable : Type 0 where
  run : Callable
  tamarind_run : Callable

-- its answer: an enum, or a struct
abbrev pub AnswerOf : Callable → Type 0
AnswerOf run = Outcome
AnswerOf tamarind_run = RunAnswer

-- what it ensures, and nothing else: its contract, of what the run brought, the memories before it, the answer, and the memories after it
abbrev pub Ensures : (f : Callable) → Inputs → Memories → AnswerOf f → Memories → Type 0
Ensures run x before a after = Runs x before a after
Ensures tamarind_run x before a after = RunExported x before a after

-- the answer with its fields: "ending or refusal, number, position, trials, replacements, filled count"
abbrev pub fields : (f : Callable) → AnswerOf f → RunAnswer
fields run a = exported_outcome a
fields tamarind_run a = a

-- one run of the pad: "a budget and a grammar, book and slip that lie outside both memories", the function called, its answer, and the memories as it left them
pub record PadRun : Type 0 where
  pub inputs : Inputs
  pub by : Callable
  pub answer : AnswerOf by
  pub left : Memories

-- the function keeps its contract, given the memories before it
abbrev pub RunOn : Memories → PadRun → Type 0
RunOn before r = Ensures r.by r.inputs before r.answer r.left

-- holds of each run, with the memories before it
abbrev pub EachOf : (Memories → PadRun → Type 0) → Memories → List PadRun → Type 0
EachOf P before runs = EachLeaving (λ r. r.left) P before runs

-- WHAT HOLDS OF IT

-- "The filled words are those from word 0, as many as the filled count"
abbrev pub filled_words : RunAnswer → Memories → Words
filled_words a left = take a.filled left.result

-- does the answer say that the run was done?
abbrev pub was_done : RunAnswer → Bool
was_done a = eqb a.ending 0

-- what holds of each run, in the core's own terms
pub record Own (first before : Memories) (r : PadRun) : Type 0 where
  -- "A pad just switched on is one run with the same four inputs over memories of the same lengths, all zero. Each run of the list has the same outcome as
  -- that one": whatever the same function answers and leaves there, the answer is this one, and the filled words are the same
  pub alone : (on : AnswerOf r.by) (left : Memories) → Ensures r.by r.inputs (zeroed first) on left → (r.answer ≡ on) × (filled_words (fields r.by r.answer) r.left ≡ filled_words (fields r.by on) left)
  -- done, stopped or refused: the ending 3, of a step that the meaning cannot continue, never stands
  pub ends : (fields r.by r.answer).ending ≤ 2
  -- what `words_to_post` hands back and `tamarind_words_to_post` names (Exports.antt, `PostsOutput`): "the filled part of the result if the run was done, else the slip itself"
  pub posts : let a = fields r.by r.answer in output (was_done a) a.filled r.left.result r.inputs.slip ≡ pick (was_done a) (filled_words a r.left) r.inputs.slip

-- a run as a step of the meaning's list
abbrev pub step_for : PadRun → Step
step_for r = record { inputs = r.inputs; outcome = said_exported (fields r.by r.answer) r.left.result; left = r.left }

-- "one claim about the whole list, not one for each run"; the memories "may hold any words at first"
pub record OnePad (first : Memories) (runs : List PadRun) : Type 0 where
  pub each : EachOf (Own first) first runs
  -- The rest of the section, in the meaning's terms (crates/meaning/specs/Runs.antt). Of each run, `Fine`: both memories keep their lengths (`results`, `works`),
  -- and what the run leaves in them (`leaves`). Of each accepted run, `Went`: "At each step of the meaning every variable read is
  -- bound, every rule or operation applied is there and fits as under Typing, and a next step, the end or a stop 40 to 45 follows" (`sound`, `ends`: it is never
  -- stuck); its filled words "are one tree, in which the slip's rows above find nothing" (`one`). Of the list: "each result word is as the last accepted run
  -- that filled it left it, or as at first" (`words`)
  pub whole : Whole first (map step_for runs)

-- THE CLAIM: for every list of runs by this core, refused or not
abbrev pub Pad : Type 0
Pad = (first : Memories) (runs : List PadRun) → EachOf RunOn first runs → OnePad first runs

-- THE RUNS IT SPEAKS OF THERE ARE: either function can keep its contract on all inputs and memories, those of a pad just switched on too, where by `Own.alone` it
-- has one answer
abbrev pub CanRun : Type 0
CanRun = (f : Callable) (x : Inputs) (before : Memories) → (a : AnswerOf f) × (after : Memories) × Ensures f x before a after

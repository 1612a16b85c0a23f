-- ONE RUN AFTER ANOTHER: the claim about a whole list of runs, over any core that does on each call what Outcome.antt says. proofs/Runs.antt proves it.
-- Assumes nothing: these are definitions.
use Rattle.std.specs.Prelude.{ℕ, ◌≤◌, ◌≡◌, List, [], ◌∷◌, map, true, false, length, get_or, take, drop, replicate, ltb}
use Rattle.words.specs.Reader as R
use Rattle.words.specs.Reader.{Words, pick, value, accepted}
use Rattle.tree.specs.Slip.{read_slip}
use Rattle.meaning.specs.Meaning.{Ending, run}
use Rattle.meaning.specs.Outcome.{Inputs, Outcome, refused, ended, Decoded, decode, ended_as, outcome, result_after, work_after, output, is_done, filled_by}
use Rattle.meaning.specs.Sound.{WellEnded, Sound}

-- "The result and work memory share no word, each keeps its length throughout, they may hold any words at first"
pub record Memories : Type 0 where
  pub result : Words
  pub work : Words

-- "a grammar, book and slip that lie outside both memories", the outcome, and the memories as the run left them
pub record Step : Type 0 where
  pub inputs : Inputs
  pub outcome : Outcome
  pub left : Memories

-- A CORE'S CONTRACT: what a call does, given the memories as they were before it
pub record Ran (before : Memories) (s : Step) : Type 0 where
  pub outcome : s.outcome ≡ outcome (length before.result) (length before.work) s.inputs
  pub result : s.left.result ≡ result_after s.outcome before.result
  pub work : s.left.work ≡ work_after s.outcome before.work

-- such a call there is for all inputs and memories: the definitions' own
unfoldable pub step_of : Memories → Inputs → Step
step_of before x =
    let o = outcome (length before.result) (length before.work) x in
    record { inputs = x; outcome = o; left = record { result = result_after o before.result; work = work_after o before.work } }

-- holds of each, with the memories before it, where it leaves those: "each run gets them as the run before left them"
abbrev pub EachLeaving : {A : Type 0} → (A → Memories) → (Memories → A → Type 0) → Memories → List A → Type 0
EachLeaving leaves P before [] = Unit {0}
EachLeaving leaves P before (a ∷ more) = P before a × EachLeaving leaves P (leaves a) more

-- holds of each step
abbrev pub Each : (Memories → Step → Type 0) → Memories → List Step → Type 0
Each P before steps = EachLeaving (λ s. s.left) P before steps

-- the memories after the list
unfoldable pub lastly : Memories → List Step → Memories
lastly first [] = first
lastly first (s ∷ more) = lastly s.left more

-- "A pad just switched on is one run with the same four inputs over memories of the same lengths, all zero"
abbrev pub zeroed : Memories → Memories
zeroed m = record { result = replicate (length m.result) 0; work = replicate (length m.work) 0 }

-- an accepted run: what it worked with, and how that went
pub record Went (result work : ℕ) (x : Inputs) (e : Ending) (attempts replacements : ℕ) (ws : Words) : Type 0 where
  pub with : Decoded
  pub next : ℕ
  pub read : decode result work x ≡ value with next
  -- "At each step of the meaning every variable read is bound, every rule or operation applied is there and fits as under Typing, and a next step, the end
  -- or a stop 40 to 45 follows"
  pub sound : Sound with.grammar 0 x.budget (run true with.grammar with.rules with.tree x.budget) (run false with.grammar with.rules with.tree x.budget)
  -- the outcome is the strict run's
  pub same : ended_as with.grammar x.budget (run true with.grammar with.rules with.tree x.budget) ≡ ended e attempts replacements ws
  pub ends : WellEnded e
  pub few : attempts ≤ x.budget
  -- "The filled words .. are one tree, in which the slip's rows above find nothing", T-07: "What is found after a run now includes that every count is right";
  -- and they fit in the result
  pub one : accepted (read_slip with.grammar ws) ≡ true
  pub fits : length ws ≤ result

-- an outcome is a refusal that the checks give, or such a run
abbrev pub Sure : ℕ → ℕ → Inputs → Outcome → Type 0
Sure result work x (refused n p) = decode result work x ≡ R.refused n p
Sure result work x (ended e a k ws) = Went result work x e a k ws

-- a refused run changes no word; an accepted one fills the result from word 0, changes nothing past that, and leaves the work memory all zero
abbrev pub Leaves : Memories → Outcome → Memories → Type 0
Leaves before (refused n p) m = (m.result ≡ before.result) × (m.work ≡ before.work)
Leaves before (ended e a k ws) m = (take (length ws) m.result ≡ ws) × (drop (length ws) m.result ≡ drop (length ws) before.result) × (m.work ≡ replicate (length before.work) 0)

-- what holds of each step of a list that began with the memories `first`
pub record Fine (first before : Memories) (s : Step) : Type 0 where
  -- "Each run of the list has the same outcome as that one", the run on a pad just switched on
  pub alone : (on : Step) → on.inputs ≡ s.inputs → Ran (zeroed first) on → s.outcome ≡ on.outcome
  -- "each keeps its length throughout"
  pub results : length s.left.result ≡ length first.result
  pub works : length s.left.work ≡ length first.work
  pub leaves : Leaves before s.outcome s.left
  -- "The words to post are the filled part of the result if the run was done, else the slip itself"
  pub posts : output (is_done s.outcome) (length (filled_by s.outcome)) s.left.result s.inputs.slip ≡ pick (is_done s.outcome) (filled_by s.outcome) s.inputs.slip
  pub sure : Sure (length first.result) (length first.work) s.inputs s.outcome

-- word i after the outcomes, if it was w before: "each result word is as the last accepted run that filled it left it, or as at first"
unfoldable pub word_after : List Outcome → ℕ → ℕ → ℕ
word_after [] i w = w
word_after (refused n p ∷ more) i w = word_after more i w
word_after (ended e a k ws ∷ more) i w = word_after more i (pick (ltb i (length ws)) (get_or ws i 0) w)

-- "one claim about the whole list"
pub record Whole (first : Memories) (steps : List Step) : Type 0 where
  pub each : Each (Fine first) first steps
  pub words : (i : ℕ) → get_or (lastly first steps).result i 0 ≡ word_after (map (λ s. s.outcome) steps) i (get_or first.result i 0)

-- THE CLAIM: for every list of runs that a core made, whatever the memories held at first
abbrev pub OneAfterAnother : Type 0
OneAfterAnother = (first : Memories) (steps : List Step) → Each Ran first steps → Whole first steps

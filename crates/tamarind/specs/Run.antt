-- WHAT `run` PROMISES: its answer is the meaning's outcome, and both memories afterwards are the meaning's too. Assumes nothing: these are definitions.
use Rattle.std.specs.Prelude.{ℕ, ◌-◌, ◌/◌, ◌≡◌, length, take, Result, Err}
use Rattle.words.specs.Reader.{Words, Read, value, and_then, return}
use Rattle.words.specs.Views.{answer}
use Rattle.grammar.specs.Grammar.{read_grammar}
use Rattle.tables.specs.Types.{AllTypesOf}
use Rattle.tables.specs.declared.types.Types.{Types}
use Rattle.tree.specs.Slip.{read_slip}
use Rattle.judgement.specs.Typing.{read_rules}
use Rattle.meaning.specs.Meaning.{Ending, done, stopped}
use Rattle.meaning.specs.Sound.{WellEnded}
use Rattle.meaning.specs.Outcome.{Inputs, Outcome, refused, ended, Decoded, decode, filled_by}
use Rattle.meaning.specs.Runs.{Memories, Step, Ran}
use Rattle.rewrite.specs.Arena.{Standing}
use Rattle.calls.specs.declared.Called.{Called}
use Rattle.calls.specs.Engine.{EndedAs}
use Rattle.meaning.specs.Stops.{number_of}
use Rattle.tamarind.specs.declared.Request as Asked
use Rattle.tamarind.specs.declared.Outcome as Code
use Rattle.tamarind.specs.declared.Outcome.TheVariants.{Refused, Done, Stopped}

-- THE ANSWER, in the meaning's terms

-- the outcome that an answer says, with the result memory as it is afterwards: "The filled words are those from word 0, as many as the filled count"
abbrev pub said : Code.Outcome → Words → Outcome
said (Refused x) result = refused x.0 x.1
said (Done c) result = ended done c.attempts c.replacements (take c.filled result)
said (Stopped s c) result = ended (stopped (number_of s)) c.attempts c.replacements (take c.filled result)

-- the "filled count" of an answer; 0 where it has none
abbrev pub filled_of : Code.Outcome → ℕ
filled_of (Refused x) = 0
filled_of (Done c) = c.filled
filled_of (Stopped s c) = c.filled

-- THE CONTRACT OF `run`

-- "a budget and a grammar, book and slip"
abbrev pub inputs_of : ℕ → Words → Words → Words → Inputs
inputs_of budget grammar rules slip = record { budget = budget; grammar = grammar; rules = rules; slip = slip }

-- .. as the code holds them
abbrev pub inputs_in : Asked.Request → Inputs
inputs_in i = inputs_of i.budget i.grammar.now i.rules.now i.slip.now

-- the two memories
abbrev pub memories : Words → Words → Memories
memories result work = record { result = result; work = work }

-- the run as a step of the meaning's list
abbrev pub step_by : Inputs → Code.Outcome → Memories → Step
step_by x r after = record { inputs = x; outcome = said r after.result; left = after }

-- what a run brought, the memories before it, its answer, and the memories after it
pub record Runs (x : Inputs) (before : Memories) (r : Code.Outcome) (after : Memories) : Type 0 where
  -- "ending or refusal, number, position, trials, replacements .. and filled words, as far as an outcome has them", and both memories
  pub ran : Ran before (step_by x r after)
  -- "as many as the filled count"
  pub filled : filled_of r ≡ length (filled_by (said r after.result))

-- ITS PARTS

-- "Places go from the top": after the call's own row the grammar, the book and the slip
abbrev pub read_inputs : Words → Words → Words → Read Decoded
read_inputs grammar rules slip =
    and_then (read_grammar grammar) (λ g next.
    and_then (read_rules g rules) (λ rs next.
    and_then (read_slip g slip) (λ tree.
    return (record { grammar = g; rules = rs; tree = tree }))))

-- all three are read; where nothing is refused the types are the grammar's and the slip's tree stands at the bottom of work memory, marked; a refusal changes nothing
pub record InputsRead (grammar rules slip : Words) (types : Types) (w w' : Words) (r : Result ℕ (ℕ × ℕ)) : Type 0 where
  pub answered : r ≡ answer (read_inputs grammar rules slip)
  pub long : length w' ≡ length w
  pub kept : {y : ℕ × ℕ} → r ≡ Err y → w' ≡ w
  pub types_of : (d : Decoded) (next : ℕ) → read_inputs grammar rules slip ≡ value d next → AllTypesOf d.grammar types
  pub stands : (d : Decoded) (next : ℕ) → read_inputs grammar rules slip ≡ value d next → Standing d.grammar w' 0 (length slip / 3) 0 d.tree

-- the answer says how the first call ended, and what it counted
pub record Answered (c : Called) (budget filled : ℕ) (r : Code.Outcome) : Type 0 where
  pub says : (e : Ending) (result : Words) → EndedAs c.stop e → WellEnded e → said r result ≡ ended e (budget - c.left.attempts) c.replacements (take filled result)
  pub filled_is : filled_of r ≡ filled

-- nothing is refused, these are the grammar's types, and the slip's tree stands at the bottom of the work memory w
pub record Accepted (x : Inputs) (result : ℕ) (w : Words) (types : Types) : Type 0 where
  pub with : Decoded
  pub next : ℕ
  pub read : decode result (length w) x ≡ value with next
  pub types_of : AllTypesOf with.grammar types
  pub stands : Standing with.grammar w 0 (length x.slip / 3) 0 with.tree

-- the run, whatever a work memory of that length held before the tree was laid there
abbrev pub RunsOver : Inputs → Words → ℕ → Code.Outcome → Memories → Type 0
RunsOver x result n r after = (work : Words) → length work ≡ n → Runs x (memories result work) r after

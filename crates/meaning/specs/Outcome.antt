-- THE WHOLE OUTCOME OF A RUN, from its words: a refusal, or how the run ended and what it filled; and both memories afterwards. Assumes nothing: these are
-- definitions.
use Rattle.std.specs.Prelude.{ℕ, ◌-◌, [], ◌++◌, Bool, true, false, length, take, drop, replicate, leb}
use Rattle.words.specs.Reader as R
use Rattle.words.specs.Reader.{Words, pick, and, between, Read, value, Reader, and_then, ◌>>◌, return, require}
use Rattle.grammar.specs.Grammar.{Grammar, grammar_fits, read_grammar}
use Rattle.tree.specs.Slip.{counted, read_slip}
use Rattle.rules.specs.Rules.{Rules}
use Rattle.rules.specs.Layout.{rules_fit}
use Rattle.judgement.specs.Typing.{read_rules}
use Rattle.meaning.specs.Limits.{most_budget, least_result, least_work}
use Rattle.meaning.specs.Meaning.{Ending, done, stopped, cannot_go_on, Called, run}

-- what a run brings: "a budget and a grammar, book and slip"
pub record Inputs : Type 0 where
  pub budget : ℕ
  pub grammar : Words
  pub rules : Words
  pub slip : Words

-- "ending or refusal, number, position, trials, replacements, filled count and filled words, as far as an outcome has them"
pub data Outcome : Type 0 where
  -- the refusal's number and position
  refused : ℕ → ℕ → Outcome
  -- the ending, "all trials, that call's replacements put in place, and words filled"
  ended : Ending → ℕ → ℕ → Words → Outcome

-- "call": 1 "result under 4,096 words", by T-07 under 6,144, 2 "work under 16,384 words", 3 "budget 0 or over 1,000,000", "4, 5: grammar, book too long"; "0 for call refusals"
unfoldable pub call_fits : ℕ → ℕ → Inputs → Reader (Unit {0})
call_fits result work x = do
  require (leb least_result result) 1 0
  require (leb least_work work) 2 0
  require (between 1 most_budget x.budget) 3 0
  grammar_fits x.grammar
  rules_fit x.rules

-- what an accepted run works with: the slip's tree is without its counts
pub record Decoded : Type 0 where
  pub grammar : Grammar
  pub rules : Rules
  pub tree : Words

-- "Places go from the top": call, grammar, book layout, book typing, slip
unfoldable pub decode : ℕ → ℕ → Inputs → Read Decoded
decode result work x =
    and_then (call_fits result work x 0) (λ u next.
    and_then (read_grammar x.grammar) (λ g next.
    and_then (read_rules g x.rules) (λ rules next.
    and_then (read_slip g x.slip) (λ tree.
    return (record { grammar = g; rules = rules; tree = tree })))))

-- "Done or stopped, the result holds the slip as left by the last replacement that the first call .. put in place"; T-07: "Each node of a slip and of a result
-- becomes three words"
unfoldable pub ended_as : Grammar → ℕ → Called → Outcome
ended_as g budget c = ended c.ending (budget - c.left.attempts) c.replacements (counted g c.scope)

-- what comes of inputs as they are read
unfoldable pub outcome_of : Inputs → Read Decoded → Outcome
outcome_of x (R.refused n p) = refused n p
outcome_of x (value d next) = ended_as d.grammar x.budget (run false d.grammar d.rules d.tree x.budget)

-- THE OUTCOME, with a result and a work memory of these lengths
unfoldable pub outcome : ℕ → ℕ → Inputs → Outcome
outcome result work x = outcome_of x (decode result work x)

-- THE MEMORIES AFTERWARDS

-- the result: a refused run changes nothing; an accepted one fills the words from word 0 on
unfoldable pub result_after : Outcome → Words → Words
result_after (refused n p) result = result
result_after (ended e a k ws) result = ws ++ drop (length ws) result

-- the work memory: a refused run changes nothing; an accepted one leaves it all zero
unfoldable pub work_after : Outcome → Words → Words
work_after (refused n p) work = work
work_after (ended e a k ws) work = replicate (length work) 0

-- THE WORDS TO POST: "the filled part of the result if the run was done, else the slip itself; a filled count past the result's end also gives the slip"
unfoldable pub output : Bool → ℕ → Words → Words → Words
output was_done filled result slip = pick (and was_done (leb filled (length result))) (take filled result) slip

-- was the run done?
unfoldable pub is_done : Outcome → Bool
is_done (refused n p) = false
is_done (ended done a k ws) = true
is_done (ended (stopped n) a k ws) = false
is_done (ended cannot_go_on a k ws) = false

-- the words that it filled
unfoldable pub filled_by : Outcome → Words
filled_by (refused n p) = []
filled_by (ended e a k ws) = ws

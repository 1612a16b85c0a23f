-- What a table of cases is: inputs with their outcomes, and the outcomes as they are computed. Assumes nothing: these are definitions.
use Rattle.std.specs.Prelude.{ℕ, ◌-◌, List, [], ◌∷◌, false}
use Rattle.words.specs.Reader as R
use Rattle.words.specs.Reader.{Words, Read, value, and_then, return}
use Rattle.grammar.specs.Grammar.{read_grammar}
use Rattle.tables.specs.Tables.{read_of}
use Rattle.tree.specs.Reading.{read_tree}
use Rattle.tree.specs.Slip.{counted}
use Rattle.judgement.specs.Typing.{read_rules}
use Rattle.meaning.specs.Limits.{least_result, least_work}
use Rattle.meaning.specs.Meaning.{run}
use Rattle.meaning.specs.Outcome.{Outcome, refused, ended, Decoded, outcome}

pub data Case : Type 0 where
  -- budget, grammar, rules, the slip's tree, and the outcome with the tree that is left: both get their counts
  case : ℕ → Words → Words → Words → Outcome → Case
  -- the same, over a result and a work memory of these lengths
  over : ℕ → ℕ → ℕ → Words → Words → Words → Outcome → Case
  -- budget, grammar, rules, slip, and the outcome, word for word
  in_words : ℕ → Words → Words → Words → Outcome → Case
  -- as the first, of trees so large that their counts would take too long to compute: neither gets counts
  large : ℕ → Words → Words → Words → Outcome → Case

-- a tree with its counts, by its grammar's words
unfoldable pub counting : Words → Words → Words
counting g ws = counted (read_of (read_grammar g)) ws

-- an outcome whose tree gets its counts
unfoldable pub counting_in : Words → Outcome → Outcome
counting_in g (refused n p) = refused n p
counting_in g (ended e a k ws) = ended e a k (counting g ws)

-- what comes of a tree that is read without counts
unfoldable pub plain_of : ℕ → Read Decoded → Outcome
plain_of budget (R.refused n p) = refused n p
plain_of budget (value d next) = let c = run false d.grammar d.rules d.tree budget in ended c.ending (budget - c.left.attempts) c.replacements c.scope

unfoldable pub plainly : ℕ → Words → Words → Words → Outcome
plainly budget grammar rules tree =
    plain_of budget (and_then (read_grammar grammar) (λ g next. and_then (read_rules g rules) (λ rs next. and_then (read_tree g tree) (λ u. return (record { grammar = g; rules = rs; tree = tree })))))

-- the outcomes as they are given
unfoldable pub given : List Case → List Outcome
given [] = []
given (case b g r t o ∷ more) = counting_in g o ∷ given more
given (over x y b g r t o ∷ more) = counting_in g o ∷ given more
given (in_words b g r s o ∷ more) = o ∷ given more
given (large b g r t o ∷ more) = o ∷ given more

-- the outcomes as they are found
unfoldable pub found : List Case → List Outcome
found [] = []
found (case b g r t o ∷ more) = outcome least_result least_work (record { budget = b; grammar = g; rules = r; slip = counting g t }) ∷ found more
found (over x y b g r t o ∷ more) = outcome x y (record { budget = b; grammar = g; rules = r; slip = counting g t }) ∷ found more
found (in_words b g r s o ∷ more) = outcome least_result least_work (record { budget = b; grammar = g; rules = r; slip = s }) ∷ found more
found (large b g r t o ∷ more) = plainly b g r t ∷ found more

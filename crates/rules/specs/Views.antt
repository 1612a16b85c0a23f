-- What the code hands back of a reading: the paper's numbers and positions for each case of its enums. Assumes nothing: these are definitions.
use Rattle.std.specs.Prelude.{ℕ, zero, suc, ◌+◌, ◌-◌, ◌*◌, ◌≤◌, ◌≡◌, List, [], Bool, true, false, length, get_or, leb, Result, Ok, Err, Some, None}
use Rattle.std.proofs.Math.Option.{none, some}
use Rattle.words.specs.Reader.{Words, pick, Read, value, refused, Reader, many, accepted}
use Rattle.rules.specs.Rules as Rules
use Rattle.rules.specs.Limits.{most_parameters, most_parts, most_applications}
use Rattle.rules.specs.Rules.{root_only, first_match, exhaustive, one_pass, Piece, Rule, shapes, pieces}
use Rattle.rules.specs.Layout as Layout
use Rattle.rules.specs.Layout.{PartAt, deconstruct_at, construct_at, condition_at, bit, only_if, field}
use Rattle.rules.specs.declared.Strategy.{Strategy}
use Rattle.rules.specs.declared.Strategy.TheVariants.{RootOnly, FirstMatch, Exhaustive, OnePass}
use Rattle.rules.specs.declared.Plan.{Plan}
use Rattle.rules.specs.declared.Head.{Head}
use Rattle.rules.specs.declared.FoundPart.{FoundPart}
use Rattle.rules.specs.declared.Part.{Part}
use Rattle.rules.specs.declared.Part.TheVariants.{Deconstruct, Construct, Condition}

-- the strategy, as the code has it
abbrev pub strategy_as : Rules.Strategy → Strategy
strategy_as root_only = RootOnly
strategy_as first_match = FirstMatch
strategy_as exhaustive = Exhaustive
strategy_as one_pass = OnePass

-- the parameters' types are the words right before the pattern's count
abbrev pub head_read : Read Layout.Head → Result Head (ℕ × ℕ)
head_read (value h next) =
    Ok (record { map = h.map; target = h.target; strategy = strategy_as h.strategy; count = length h.parameters; parameters = next - length h.parameters; pattern = next })
head_read (refused n p) = Err (n, p)

-- the part, as the code has it
abbrev pub part_as : PartAt → Part
part_as (deconstruct_at none x p) = Deconstruct (record { searched = None; variable = x; pattern = p })
part_as (deconstruct_at (some s) x p) = Deconstruct (record { searched = Some s; variable = x; pattern = p })
part_as (construct_at s p) = Construct (record { built = s; replacement = p })
part_as (condition_at negated p) = Condition (record { negated = negated; chain = p })

-- where the count of a part's pairs stands
abbrev pub place_of_pairs : Part → ℕ
place_of_pairs (Deconstruct d) = d.pattern
place_of_pairs (Construct c) = c.replacement
place_of_pairs (Condition c) = c.chain

-- a part that is read, and the position after it; or the refusal
abbrev pub part_read : Read PartAt → Result FoundPart (ℕ × ℕ)
part_read (value a next) = Ok (record { part = part_as a; next = next })
part_read (refused n p) = Err (n, p)

-- READING A BOOK THAT HAS PASSED

-- the pairs whose count stands at p; none, if they are not there
unfoldable pub pairs_at : Words → ℕ → Words
pairs_at ws p = pick (accepted (Layout.pairs ws p)) (Layout.stretch ws p) []

-- the position after the pairs whose count stands at p; p, if they are not there
unfoldable pub pairs_end : Words → ℕ → ℕ
pairs_end ws p = pick (leb (p + 1 + 2 * get_or ws p 0) (length ws)) (p + 1 + 2 * get_or ws p 0) p

-- how many parts the map announces
abbrev pub part_count : Words → ℕ → Reader ℕ
part_count ws m = only_if (bit 2 m) 0 (field ws 1 most_parts)

-- what a call needs of its rule, as the plan has it; `end` is where the parts end
pub record Planned (types : ℕ) (ws : Words) (r : Rule) (p : Plan) : Type 0 where
  pub target : p.target ≡ r.target
  pub strategy : p.strategy ≡ strategy_as r.strategy
  pub pattern : r.pattern ≡ shapes (pairs_at ws p.pattern)
  pub end : ℕ
  pub parts : many p.count (Layout.part types ws) p.first ≡ value r.parts end
  pub replacement : (ps : List Piece) → r.replacement ≡ some ps → ps ≡ pieces (pairs_at ws end)
  pub few : length r.parameters ≤ most_parameters

-- WHAT A CALL ASKS OF ITS PLAN AND BOOK

-- how many nodes are tried at most: all, or the root alone
abbrev pub tried_of : Strategy → ℕ → ℕ
tried_of RootOnly zero = 0
tried_of RootOnly (suc n) = 1
tried_of FirstMatch n = n
tried_of Exhaustive n = n
tried_of OnePass n = n

-- does the search go on after a replacement?
abbrev pub again_of : Strategy → Bool
again_of RootOnly = false
again_of FirstMatch = false
again_of Exhaustive = true
again_of OnePass = true

-- .. and where, if the tree put in place of node i has m nodes: at the root again, or behind that tree
abbrev pub onward_of : Strategy → ℕ → ℕ → ℕ
onward_of RootOnly i m = 0
onward_of FirstMatch i m = 0
onward_of Exhaustive i m = 0
onward_of OnePass i m = i + m

-- a chain's count; 0, if that is no count
abbrev pub chain_count : Words → ℕ → ℕ
chain_count pairs at = pick (leb (get_or pairs at 0) most_applications) (get_or pairs at 0) 0

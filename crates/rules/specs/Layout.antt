-- The layout of a rule book (5, 20, 21), read to the rules that it stands for. Positions are the book's own. Pairs are passed over: typing reads them.
-- Assumes nothing: these are definitions.
use Rattle.std.specs.Prelude.{ℕ, ◌+◌, ◌-◌, ◌*◌, ◌%◌, ◌/◌, ◌^◌, List, [], Bool, true, false, not, length, get_or, take, drop, leb, eqb}
use Rattle.std.proofs.Math.Option.{Option, none, some}
use Rattle.words.specs.Reader.{Words, pick, and, or, Read, value, refused, Reader, and_then, ◌>>=◌, ◌>>◌, return, require, word, word_in, many, end}
use Rattle.rules.specs.Limits.{most_rule_words, most_rules, most_parameters, most_parts, most_pairs}
use Rattle.rules.specs.Rules.{Piece, Part, deconstruct, search, construct, condition, Strategy, root_only, first_match, exhaustive, one_pass, Rule, Rules, shapes, condition_of, pieces}

-- a rule's fields before its pattern
pub record Head : Type 0 where
  pub map : ℕ
  pub target : ℕ
  pub strategy : Strategy
  pub parameters : List ℕ

-- "A part is one of three kinds, each with its own fields after its bit map": here types, and positions in the book
pub data PartAt : Type 0 where
  -- the searched type if there is one, where the variable's number stands, and where the pattern's count stands
  deconstruct_at : Option ℕ → ℕ → ℕ → PartAt
  -- the built type, and where the replacement's count stands
  construct_at : ℕ → ℕ → PartAt
  -- whether bit 4 stands, and where the chain's count of pairs stands
  condition_at : Bool → ℕ → PartAt

-- does bit i stand in the map?
abbrev pub bit : ℕ → ℕ → Bool
bit i map = eqb (map / 2 ^ i % 2) 1

-- what a bit of the map announces: read if the bit stands, and otherwise a
abbrev pub only_if : {A : Type 0} → Bool → A → Reader A → Reader A
only_if true a r = r
only_if false a r = return a

-- "reach: 1 first match anywhere, 2 until none is left. Without it only the scope's root is tried", here 0; T-06: "Add reach 3"
unfoldable pub strategy_of : ℕ → Strategy
strategy_of r = pick (eqb r 0) root_only (pick (eqb r 1) first_match (pick (eqb r 2) exhaustive one_pass))

module _ (ws : Words) where
  -- the words of the pairs whose count stands at p
  unfoldable pub stretch : ℕ → Words
  stretch p = take (2 * get_or ws p 0) (drop (p + 1) ws)

  -- a count, a rule's map, a reach or a type. 20: "ends early, or words left over"; 21: "count, map, reach or a type outside pairs not allowed, or rule 0's bits"
  unfoldable pub field : ℕ → ℕ → Reader ℕ
  field low high = word_in 20 21 ws low high

  -- "Patterns and replacements are a count of pairs, 1 to 128, and the pairs": gives where the count stands
  unfoldable pub pairs : Reader ℕ
  pairs at = and_then (field 1 most_pairs at) (λ k next. pick (leb (next + 2 * k) (length ws)) (value at (next + 2 * k)) (refused 20 (length ws)))

  -- the number of a variable, any word here: gives where it stands
  unfoldable pub variable_at : Reader ℕ
  variable_at at = and_then (word 20 ws at) (λ v. return at)

  -- "Bit 0: take apart a variable (its number, a pattern)", after the searched type if there is one
  unfoldable pub deconstruct_fields : Option ℕ → Reader PartAt
  deconstruct_fields s = do
    x ← variable_at
    p ← pairs
    return (deconstruct_at s x p)

  -- "Bit 3: test (a replacement that is one group)", "or with bit 4 also, if none does"
  unfoldable pub condition_fields : Bool → Reader PartAt
  condition_fields negated = do
    p ← pairs
    return (condition_at negated p)

  -- the part that stands there, its pairs decoded
  unfoldable pub part_of : PartAt → Part
  part_of (deconstruct_at none x p) = deconstruct (get_or ws x 0) (shapes (stretch p))
  part_of (deconstruct_at (some s) x p) = search s (get_or ws x 0) (shapes (stretch p))
  part_of (construct_at s p) = construct s (pieces (stretch p))
  part_of (condition_at negated p) = condition negated (get_or (stretch p) 1 0) (condition_of (stretch p))

  -- "bit 0, reach: 1 .., 2 ..", T-06: 3; 0 where the bit does not stand
  unfoldable pub reach : ℕ → Reader ℕ
  reach m = only_if (bit 0 m) 0 (field 1 3)

  -- "bit 3, a replacement"
  unfoldable pub replacement : ℕ → Reader (Option (List Piece))
  replacement m = only_if (bit 3 m) none (do
    q ← pairs
    return (some (pieces (stretch q))))

  -- "Rule 0 is the main rule: it has bit 3 and not bit 1"; where the words end before its map, its reader gives 20
  unfoldable pub main_fits : ℕ → Bool
  main_fits at = or (leb (length ws) at) (and (bit 3 (get_or ws at 0)) (not (bit 1 (get_or ws at 0))))

  -- "rule 0's bits": 21 at its map, as the map is read
  unfoldable pub main_bits : Reader (Unit {0})
  main_bits at = require (main_fits at) 21 0 at

module _ (types : ℕ) (ws : Words) where
  -- "a type outside pairs"
  unfoldable pub type_field : Reader ℕ
  type_field = field ws 0 (types - 1)

  -- "with bit 1 also, a type comes before the number"
  unfoldable pub search_fields : Reader PartAt
  search_fields = do
    s ← type_field
    deconstruct_fields ws (some s)

  -- "Bit 2: build (a type, a replacement)"
  unfoldable pub construct_fields : Reader PartAt
  construct_fields = do
    s ← type_field
    p ← pairs ws
    return (construct_at s p)

  -- a part: its map, then the fields of its kind; "No other bits or combinations", 21 at the map
  unfoldable pub part_at : Reader PartAt
  part_at at = and_then (word 20 ws at) (λ m.
      pick (eqb m 1) (deconstruct_fields ws none)
      (pick (eqb m 3) search_fields
      (pick (eqb m 4) construct_fields
      (pick (eqb m 8) (condition_fields ws false)
      (pick (eqb m 24) (condition_fields ws true)
      (λ next. refused 21 at))))))

  -- a part, decoded
  unfoldable pub part : Reader Part
  part = do
    p ← part_at
    return (part_of ws p)

  -- "bit 1, parameters: count 1 to 4, their types"
  unfoldable pub parameters : ℕ → Reader (List ℕ)
  parameters m = only_if (bit 1 m) [] (do
    k ← field ws 1 most_parameters
    many k type_field)

  -- what follows a rule's map and target: reach, parameters
  unfoldable pub head_fields : ℕ → ℕ → Reader Head
  head_fields m t = do
    r ← reach ws m
    ps ← parameters m
    return (record { map = m; target = t; strategy = strategy_of r; parameters = ps })

  -- "A rule is a bit map, its target type, then in this order": the map has bits 0 to 3
  unfoldable pub head : Reader Head
  head = do
    m ← field ws 0 15
    t ← type_field
    head_fields m t

  -- "bit 2, parts: count 1 to 8, the parts"
  unfoldable pub parts : ℕ → Reader (List Part)
  parts m = only_if (bit 2 m) [] (do
    k ← field ws 1 most_parts
    many k part)

  -- a rule: its head, "the pattern, always", the parts, "a replacement"
  unfoldable pub rule : Reader Rule
  rule = do
    h ← head
    p ← pairs ws
    ps ← parts h.map
    o ← replacement ws h.map
    return (record { target = h.target; strategy = h.strategy; parameters = h.parameters; pattern = shapes (stretch ws p); parts = ps; replacement = o })

  -- "Word 0 is the number of rules, 1 to 64"; "read from its first word to its last by one reader"
  unfoldable pub layout : Reader Rules
  layout = do
    n ← field ws 1 most_rules
    main_bits ws
    rules ← many n rule
    end 20 ws
    return rules

-- "book, layout": the rules, or 20, 21, over a grammar of so many types
unfoldable pub read_layout : ℕ → Words → Read Rules
read_layout types ws = layout types ws 0

-- 5: "book too long", at "0 for call refusals"
unfoldable pub rules_fit : Words → Reader (Unit {0})
rules_fit ws = require (leb (length ws) most_rule_words) 5 0

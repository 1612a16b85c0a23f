-- The rules of a book, by the positions at which they stand. Assumes nothing: these are definitions.
use Rattle.std.specs.Prelude.{ℕ, ◌<◌, ◌≡◌, length, get_or}
use Rattle.words.specs.Reader.{Words, value}
use Rattle.grammar.specs.Grammar.{Grammar}
use Rattle.tables.specs.Types.{AllTypesOf}
use Rattle.tables.specs.declared.types.Types.{Types}
use Rattle.rules.specs.Rules.{Rule, Rules}
use Rattle.rules.specs.Layout as Layout
use Rattle.rules.specs.Layout.{bit}
use Rattle.judgement.specs.Typing.{no_rule, is_some}

-- the head that stands at the position is the rule's
pub record Headed (types : ℕ) (ws : Words) (at : ℕ) (r : Rule) : Type 0 where
  pub head : Layout.Head
  pub next : ℕ
  pub read : Layout.head types ws at ≡ value head next
  pub target : r.target ≡ head.target
  pub strategy : r.strategy ≡ head.strategy
  pub parameters : r.parameters ≡ head.parameters
  pub replaces : is_some r.replacement ≡ bit 3 head.map

-- the rules of the book's words, by the positions of their heads
pub record Book (types : ℕ) (ws starts : Words) (rules : Rules) : Type 0 where
  pub count : length rules ≡ get_or ws 0 0
  pub heads : (a : ℕ) → a < length rules → Headed types ws (get_or starts a 0) (get_or rules a no_rule)

-- the words are those of a book of rules that stand at these positions, over the types of a grammar
pub record Given (types : Types) (ws starts : Words) : Type 0 where
  pub grammar : Grammar
  pub types_of : AllTypesOf grammar types
  pub rules : Rules
  pub book : Book types.count ws starts rules

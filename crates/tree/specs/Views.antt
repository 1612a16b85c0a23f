-- What the code hands back, and how it sees the grammar: through its tables. Assumes nothing: these are definitions.
use Rattle.std.specs.Prelude.{ℕ, suc, ◌+◌, ◌-◌, ◌≤◌, ◌≡◌, List, map, length, get_or, leb, eqb}
use Rattle.words.specs.Reader.{Words, value, Reader, ◌>>◌, require}
use Rattle.grammar.specs.Grammar.{Grammar}
use Rattle.grammar.specs.Kinds.{allowed}
use Rattle.tables.specs.Types.{OfRows}
use Rattle.tables.specs.declared.types.Types.{Types}
use Rattle.tree.specs.Limits.{most_nesting}
use Rattle.tree.specs.Tree.{first}
use Rattle.tree.specs.Dues.{first_word, second_word}
use Rattle.tree.specs.Reading.{Due, tree}

-- the nesting of a node that is read with so many levels left
abbrev pub nesting_at : ℕ → ℕ
nesting_at left = suc most_nesting - left

-- trees of these types, all at one nesting
abbrev pub level : ℕ → List ℕ → List Due
level k ts = map (tree k) ts

-- the first pair of a tree of the type d at the nesting k: its value
unfoldable pub read_head : Grammar → ℕ → ℕ → Words → Reader ℕ
read_head g k d s = do
  require (leb 2 (length s)) 31 (length s)
  first_word (eqb (get_or s 0 0) d) 32
  first_word (leb k most_nesting) 33
  second_word (allowed g d (get_or s 1 0)) 32
  λ at. value (get_or s 1 0) (at + 2)

-- r words are the first tree
pub record Ends (types : Types) (ws : List ℕ) (r : ℕ) : Type 0 where
  pub within : r ≤ length ws
  pub end : OfRows types (λ g. r ≡ length (first g ws 1))

-- How a tree is read: its refusals (30 to 33), each with its position. Assumes nothing: these are definitions.
use Rattle.std.specs.Prelude.{ℕ, ◌%◌, List, [], ◌∷◌, length, leb, eqb}
use Rattle.words.specs.Reader.{Words, and, between, Read, Reader, and_then, ◌>>◌, require}
use Rattle.grammar.specs.Grammar.{Grammar}
use Rattle.grammar.specs.Kinds.{allowed, children}
use Rattle.tree.specs.Limits.{most_tree_words, most_nesting}
use Rattle.tree.specs.Tree.{levels}
use Rattle.tree.specs.Dues.{Next, first_word, second_word, leaves, pairs, whole}

-- what is due: a tree, of a nesting and a type
pub data Due : Type 0 where
  tree : ℕ → ℕ → Due

-- trees of these nestings and types
unfoldable pub dues_of : List ℕ → List ℕ → List Due
dues_of [] ts = []
dues_of (k ∷ ks) [] = []
dues_of (k ∷ ks) (t ∷ ts) = tree k t ∷ dues_of ks ts

-- a node (t, v), where a tree of the type d is due at the nesting k. 32: "type, form or value not allowed"; 33: "nesting over 64"; "at one word, the lower
-- number". Then its children are due
unfoldable pub meets_node : Grammar → Due → Unit {0} → ℕ → ℕ → Reader (Next Due (Unit {0}))
meets_node g (tree k d) u t v = do
  first_word (eqb t d) 32
  first_word (leb k most_nesting) 33
  second_word (allowed g d v) 32
  leaves tt (dues_of (levels g d v k) (children g d v))

-- the trees that are due, from the start of the words, which begin at the position; 31: "ends early"
abbrev pub read_trees : Grammar → Words → List Due → Reader (Unit {0})
read_trees g ws ds = pairs (meets_node g) 31 ws ds tt

-- one tree of the type, and nothing else. 30: "no words, odd count, or over 4,096", at "0 .. for 30"; 31: "ends early, or words left over". "Its root has
-- nesting 1"
unfoldable pub read_tree_of : Grammar → ℕ → Words → Read (Unit {0})
read_tree_of g t ws = and_then (require (and (between 1 most_tree_words (length ws)) (eqb (length ws % 2) 0)) 30 0 0) (λ u. whole (meets_node g) 31 ws (tree 1 t ∷ []) tt)

-- the place slip: a tree of "type 0 (the root of every slip)"
abbrev pub read_tree : Grammar → Words → Read (Unit {0})
read_tree g ws = read_tree_of g 0 ws

-- Trees as they lie in work memory: the first word of each node carries, beside its type, the size and the nesting of its tree, so that a tree is bound,
-- stepped over and measured without being walked. Assumes nothing: these are definitions.
use Rattle.std.specs.Prelude.{ℕ, ◌+◌, ◌*◌, ◌/◌, ◌%◌, ◌≤◌, ◌≡◌, [], ◌∷◌, ◌++◌, length, take, drop}
use Rattle.words.specs.Reader.{Words}
use Rattle.grammar.specs.Grammar.{Grammar}
use Rattle.tree.specs.Tree.{Trees, Tree, size, nesting, first_tree}

-- the marked word of a node, of its type, and its tree's size and nesting
unfoldable pub mark : ℕ → ℕ → ℕ → ℕ
mark t n k = t + 64 * n + 262144 * k

-- what a marked word says
abbrev pub type_in : ℕ → ℕ
type_in w = w % 64

-- the size of its tree
abbrev pub size_in : ℕ → ℕ
size_in w = w / 64 % 4096

-- the nesting of its tree
abbrev pub nesting_in : ℕ → ℕ
nesting_in w = w / 262144

-- the mark of the node that the words begin with
unfoldable pub mark_of : Grammar → ℕ → ℕ → Words → ℕ
mark_of g t v ws = mark t (size (first_tree g (t ∷ v ∷ ws))) (nesting g (first_tree g (t ∷ v ∷ ws)))

-- the words with each node marked
unfoldable pub marked : Grammar → Words → Words
marked g [] = []
marked g (t ∷ []) = t ∷ []
marked g (t ∷ v ∷ ws) = mark_of g t v ws ∷ v ∷ marked g ws

-- the words with the marks taken off
unfoldable pub unmarked : Words → Words
unmarked [] = []
unmarked (w ∷ []) = w ∷ []
unmarked (w ∷ v ∷ ws) = type_in w ∷ v ∷ unmarked ws

-- the tree stands at the place
pub record Stands (g : Grammar) (arena : Words) (start : ℕ) (ws : Words) : Type 0 where
  pub type : ℕ
  pub tree : Tree g type ws
  pub inside : start + length ws ≤ length arena
  pub words : take (length ws) (drop start arena) ≡ marked g ws

-- the words of a tree under way, as they lie there: its written nodes have no marks yet, the trees that were copied have theirs
pub data UnderWay (g : Grammar) : Words → Words → Type 0 where
  nothing : UnderWay g [] []
  written : {l ws : Words} (t v : ℕ) → UnderWay g l ws → UnderWay g (t ∷ v ∷ l) (t ∷ v ∷ ws)
  copied : {t : ℕ} {u l ws : Words} → Trees g (t ∷ []) u → UnderWay g l ws → UnderWay g (marked g u ++ l) (u ++ ws)

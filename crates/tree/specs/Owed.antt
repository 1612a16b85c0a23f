-- THE TREES OWED: the end of a node's tree, found by counting. Assumes nothing: these are definitions.
use Rattle.std.specs.Prelude.{ℕ, zero, suc, ◌+◌, ◌*◌, ◌-◌, ◌<◌, ◌≡◌, [], ◌∷◌, length, take, drop}
use Rattle.words.specs.Reader.{Words}
use Rattle.grammar.specs.Grammar.{Grammar}
use Rattle.grammar.specs.Kinds.{children}
use Rattle.tree.specs.Tree.{Trees, size, first_tree, type_of}

-- T-03: "the trees still owed" after k nodes of the words, where n are owed before them: each node is one of them, and owes its children's
unfoldable pub owed : Grammar → Words → ℕ → ℕ → ℕ
owed g ws zero n = n
owed g [] (suc k) n = n
owed g (t ∷ []) (suc k) n = n
owed g (t ∷ v ∷ ws) (suc k) n = owed g ws k (length (children g t v) + (n - 1))

-- the words' first k nodes are one tree, and "the trees owed first come to 0 at the end of" it
pub record OwnTree (g : Grammar) (ws : Words) (k : ℕ) : Type 0 where
  pub tree : Trees g (type_of ws ∷ []) (take (2 * k) ws)
  pub none : owed g ws k 1 ≡ 0
  pub some : (i : ℕ) → i < k → 0 < owed g ws i 1

-- T-03: "from any node of a tree, the trees owed first come to 0 at the end of that node's own tree"
abbrev pub FirstComesToNone : Type 0
FirstComesToNone = (g : Grammar) (t : ℕ) (ws : Words) → Trees g (t ∷ []) ws → (i : ℕ) → i < size ws → OwnTree g (drop (2 * i) ws) (size (first_tree g (drop (2 * i) ws)))

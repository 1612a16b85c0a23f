-- What a tree is (the paper's slip, and each part of one), with no reader in it. Assumes nothing: these are definitions.
use Rattle.std.specs.Prelude.{ℕ, zero, suc, ◌+◌, ◌≤◌, max, ◌≡◌, List, [], ◌∷◌, ◌++◌, map, Bool, true, false, length, get_or, take, drop, eqb, leb}
use Rattle.words.specs.Reader.{Words, pick, and}
use Rattle.grammar.specs.Grammar.{Kind, token, opt, sequence, forms, Grammar}
use Rattle.grammar.specs.Kinds.{kind_of, allowed, children}
use Rattle.tree.specs.Limits.{most_nodes, most_nesting}

-- "A tree is written parent first, two words a node: type, value": the words are trees of these types one after the other. The first node is of the
-- first type and has an allowed value; what is due after it are trees of its children's types, then of the other types
pub data Trees (g : Grammar) : List ℕ → Words → Type 0 where
  none : Trees g [] []
  node : {t v : ℕ} {ts : List ℕ} {ws : Words} → allowed g t v ≡ true → Trees g (children g t v ++ ts) ws → Trees g (t ∷ ts) (t ∷ v ∷ ws)

-- how many nodes: "two words a node"
unfoldable pub size : Words → ℕ
size [] = 0
size (t ∷ []) = 0
size (t ∷ v ∷ ws) = suc (size ws)

-- the nestings of the children of a node of the kind, with nesting k and value v: "a child one more than its parent, except the rest of a repeat, which
-- has its parent's"
unfoldable pub levels_of : Kind → ℕ → ℕ → List ℕ
levels_of (token c) v k = []
levels_of (opt e) v k = pick (eqb v 0) (suc k ∷ []) []
levels_of (sequence style e) v k = pick (eqb v 0) (suc k ∷ k ∷ []) []
levels_of (forms fs) v k = map (λ e. suc k) (get_or fs v [])

-- the same for a node of the grammar
unfoldable pub levels : Grammar → ℕ → ℕ → ℕ → List ℕ
levels g t v k = levels_of (kind_of g t) v k

-- the deepest nesting of a node, where the trees stand at these nestings
unfoldable pub nesting_from : Grammar → Words → List ℕ → ℕ
nesting_from g [] ks = 0
nesting_from g (t ∷ []) ks = 0
nesting_from g (t ∷ v ∷ ws) [] = 0
nesting_from g (t ∷ v ∷ ws) (k ∷ ks) = max k (nesting_from g ws (levels g t v k ++ ks))

-- "Its root has nesting 1"
unfoldable pub nesting : Grammar → Words → ℕ
nesting g ws = nesting_from g ws (1 ∷ [])

-- the nesting of the node at a position, where the trees stand at these nestings
unfoldable pub node_nesting : Grammar → Words → List ℕ → ℕ → ℕ
node_nesting g [] ks q = 0
node_nesting g (t ∷ []) ks q = 0
node_nesting g (t ∷ v ∷ ws) [] q = 0
node_nesting g (t ∷ v ∷ ws) (k ∷ ks) zero = k
node_nesting g (t ∷ v ∷ ws) (k ∷ ks) (suc zero) = 0
node_nesting g (t ∷ v ∷ ws) (k ∷ ks) (suc (suc q)) = node_nesting g ws (levels g t v k ++ ks) q

-- one tree of the type, within the limits: "A tree has 1 to 2,048 nodes" (one it always has, its root); nesting: "The most is 64"
pub record Tree (g : Grammar) (t : ℕ) (ws : Words) : Type 0 where
  pub typed : Trees g (t ∷ []) ws
  pub nodes : size ws ≤ most_nodes
  pub nested : nesting g ws ≤ most_nesting

-- the same as tests
unfoldable pub are_trees : Grammar → Words → List ℕ → Bool
are_trees g [] [] = true
are_trees g [] (t ∷ ts) = false
are_trees g (w ∷ []) ts = false
are_trees g (w ∷ v ∷ ws) [] = false
are_trees g (w ∷ v ∷ ws) (t ∷ ts) = and (eqb w t) (and (allowed g t v) (are_trees g ws (children g t v ++ ts)))

-- .. for one tree within its limits
unfoldable pub is_tree : Grammar → ℕ → Words → Bool
is_tree g t ws = and (are_trees g ws (t ∷ [])) (and (leb (size ws) most_nodes) (leb (nesting g ws) most_nesting))

-- the first n trees of the words, and what follows them: "The tree of any node is one unbroken stretch"
unfoldable pub first : Grammar → Words → ℕ → Words
first g [] n = []
first g (t ∷ []) n = []
first g (t ∷ v ∷ ws) zero = []
first g (t ∷ v ∷ ws) (suc n) = t ∷ v ∷ first g ws (length (children g t v) + n)

-- what follows the first n trees
unfoldable pub after : Grammar → Words → ℕ → Words
after g [] n = []
after g (t ∷ []) n = t ∷ []
after g (t ∷ v ∷ ws) zero = t ∷ v ∷ ws
after g (t ∷ v ∷ ws) (suc n) = after g ws (length (children g t v) + n)

-- the tree of the node that the words begin with
abbrev pub first_tree : Grammar → Words → Words
first_tree g ws = first g ws 1

-- the type of a tree: its root's
unfoldable pub type_of : Words → ℕ
type_of ws = get_or ws 0 0

-- "A match is replaced": the scope with the words in the place of the node's tree
unfoldable pub put : Grammar → Words → ℕ → Words → Words
put g scope place ws = take place scope ++ (ws ++ after g (drop place scope) 1)

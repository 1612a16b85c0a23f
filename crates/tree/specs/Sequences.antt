-- Sequences as lists of their elements, for any sequence type (the paper's repeat, and every kind that is like it); the trees of a type that stand in a
-- tree. Assumes nothing: these are definitions.
use Rattle.std.specs.Prelude.{ℕ, zero, suc, ◌+◌, max, List, [], ◌∷◌, ◌++◌, length, get_or, eqb}
use Rattle.words.specs.Reader.{Words, pick}
use Rattle.grammar.specs.Grammar.{Grammar}
use Rattle.grammar.specs.Kinds.{children}
use Rattle.tree.specs.Tree.{Trees, size, nesting_from, after, first_tree}

-- the type of the elements of a sequence type
unfoldable pub element_of : Grammar → ℕ → ℕ
element_of g t = get_or (children g t 0) 0 0

-- the words of a sequence of type t before its last node: each element behind a node of value 0
unfoldable pub spine : ℕ → List Words → Words
spine t [] = []
spine t (e ∷ es) = t ∷ 0 ∷ (e ++ spine t es)

-- a sequence of type t, by its elements; "or 1 and none"
unfoldable pub sequence_of : ℕ → List Words → Words
sequence_of t es = spine t es ++ t ∷ 1 ∷ []

-- the elements of the sequence that the words are, at most n
unfoldable pub elements_in : ℕ → Grammar → Words → List Words
elements_in zero g ws = []
elements_in (suc n) g [] = []
elements_in (suc n) g (t ∷ []) = []
elements_in (suc n) g (t ∷ zero ∷ ws) = first_tree g ws ∷ elements_in n g (after g ws 1)
elements_in (suc n) g (t ∷ suc v ∷ ws) = []

-- .. all
unfoldable pub elements : Grammar → Words → List Words
elements g ws = elements_in (size ws) g ws

-- each is a tree of the type
abbrev pub EachTree : Grammar → ℕ → List Words → Type 0
EachTree g e [] = Unit {0}
EachTree g e (w ∷ ws) = Trees g (e ∷ []) w × EachTree g e ws

-- how many nodes they have
unfoldable pub sizes : List Words → ℕ
sizes [] = 0
sizes (w ∷ ws) = size w + sizes ws

-- how deep a sequence of these elements nests, where it stands at the nesting k
unfoldable pub deepest : Grammar → ℕ → List Words → ℕ
deepest g k [] = k
deepest g k (w ∷ ws) = max (nesting_from g w (suc k ∷ [])) (deepest g k ws)

-- the trees of the type e in the words, "parent first and left to right, and one inside a tree taken is not taken again": so many trees of one taken are
-- still to be passed
unfoldable pub taken_from : Grammar → ℕ → ℕ → Words → List Words
taken_from g e inside [] = []
taken_from g e inside (t ∷ []) = []
taken_from g e zero (t ∷ v ∷ ws) = pick (eqb t e) (first_tree g (t ∷ v ∷ ws) ∷ []) [] ++ taken_from g e (pick (eqb t e) (length (children g t v)) 0) ws
taken_from g e (suc k) (t ∷ v ∷ ws) = taken_from g e (length (children g t v) + k) ws

-- .. all
abbrev pub taken : Grammar → ℕ → Words → List Words
taken g e ws = taken_from g e 0 ws

-- A second way to say what a tree is: by its parts, with no words in it; and how it is written. proofs/Forest.antt shows that this says the same as
-- Tree.antt, and that no two are written alike. Assumes nothing: these are definitions.
use Rattle.std.specs.Prelude.{ℕ, ◌≡◌, List, [], ◌∷◌, ◌++◌, true}
use Rattle.words.specs.Reader.{Words}
use Rattle.grammar.specs.Grammar.{Grammar}
use Rattle.grammar.specs.Kinds.{allowed, children}

-- trees one after the other: the first one's root, with its type, its value and its children's trees, then the other trees
pub data Forest : Type 0 where
  none : Forest
  node : ℕ → ℕ → Forest → Forest → Forest

-- they are trees of these types: each value is allowed, and there is "one tree for each type .. in order"
abbrev pub OfTypes : Grammar → Forest → List ℕ → Type 0
OfTypes g none [] = Unit {0}
OfTypes g none (t ∷ ts) = ⊥
OfTypes g (node u v kids others) [] = ⊥
OfTypes g (node u v kids others) (t ∷ ts) = (u ≡ t) × (allowed g t v ≡ true) × OfTypes g kids (children g t v) × OfTypes g others ts

-- "A tree is written parent first, two words a node: type, value"
unfoldable pub written : Forest → Words
written none = []
written (node t v kids others) = t ∷ v ∷ (written kids ++ written others)

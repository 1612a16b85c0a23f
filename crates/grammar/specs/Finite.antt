-- 12 as a property: a finite tree of a type exists, "of whatever size and nesting", with no rounds in it. proofs/FiniteTrees.antt shows that the rounds of
-- Grammar.antt find just these types. Assumes nothing: these are definitions.
use Rattle.std.specs.Prelude.{ℕ, ◌≡◌, List, [], ◌∷◌, true}
use Rattle.grammar.specs.Grammar.{Grammar}
use Rattle.grammar.specs.Kinds.{allowed, children}

-- there is a finite tree of each of the types: a node with an allowed value, whose children have finite trees
pub data Finite (g : Grammar) : List ℕ → Type 0 where
  none : Finite g []
  node : {t : ℕ} {ts : List ℕ} (v : ℕ) → allowed g t v ≡ true → Finite g (children g t v) → Finite g ts → Finite g (t ∷ ts)

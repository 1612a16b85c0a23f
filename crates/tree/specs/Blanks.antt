-- T-05, "Blank is not the same as blank": trees that hold an empty field. Assumes nothing: these are definitions.
use Rattle.std.specs.Prelude.{ℕ, ◌+◌, ◌*◌, ◌<◌, ◌≡◌, [], ◌∷◌, Bool, false, get_or, eqb}
use Rattle.words.specs.Reader.{Words, and, or}
use Rattle.grammar.specs.Grammar.{token, Grammar}
use Rattle.grammar.specs.Kinds.{kind_of, is_text}
use Rattle.tree.specs.Tree.{size}

-- "a name or string of value 0"
unfoldable pub is_blank : Grammar → ℕ → ℕ → Bool
is_blank g t v = and (is_text g t) (eqb v 0)

-- "a tree holding a name or string of value 0"
unfoldable pub holds_blank : Grammar → Words → Bool
holds_blank g [] = false
holds_blank g (t ∷ []) = false
holds_blank g (t ∷ v ∷ ws) = or (is_blank g t v) (holds_blank g ws)

-- the same by position: one of its nodes, at any depth, is a token, of another class than a number's, with the value 0
pub record Blank (g : Grammar) (ws : Words) : Type 0 where
  pub node : ℕ
  pub inside : node < size ws
  pub class : ℕ
  pub kind : kind_of g (get_or ws (2 * node) 0) ≡ token class
  pub text : class ≡ 2 → ⊥
  pub empty : get_or ws (2 * node + 1) 0 ≡ 0

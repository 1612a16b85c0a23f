-- Pairs of words, parent first, read against a stack of what is due: each pair meets the top of the stack and puts there what it makes due in turn.
-- Trees, and later patterns and replacements, are read so: they differ in what can be due (D), in what is known by the way (C), and in how a pair meets it.
-- Assumes nothing: these are definitions.
use Rattle.std.specs.Prelude.{ℕ, ◌+◌, List, [], ◌∷◌, ◌++◌, Bool, length, ltb}
use Rattle.words.specs.Reader.{Words, pick, value, refused, Reader, and_then, return, refuse, require}

-- what a pair leaves: what is known after it, and what it makes due
pub record Next (D C : Type 0) : Type 0 where
  pub known : C
  pub dues : List D

-- "In a pair or node the first word is at fault for its kind, type, rule, K or nesting"
abbrev pub first_word : Bool → ℕ → Reader (Unit {0})
first_word ok n = require ok n 0

-- "the second for its variable, value, argument count, K's 0, or a new variable's type or being the 17th"
abbrev pub second_word : Bool → ℕ → Reader (Unit {0})
second_word ok n = require ok n 1

-- the pair is in order
abbrev pub leaves : {D C : Type 0} → C → List D → Reader (Next D C)
leaves c ds at = value (record { known = c; dues = ds }) (at + 2)

-- meets: the pair (t, v), where a due stands on top. short: the refusal where pairs are short or over
module _ {D C : Type 0} (meets : D → C → ℕ → ℕ → Reader (Next D C)) (short : ℕ) where
  -- reads what is due from the start of the words, and no further; "the length, if it ends early"
  unfoldable pub pairs : Words → List D → C → Reader C
  pairs [] [] c = return c
  pairs [] (d ∷ ds) c = refuse short
  pairs (t ∷ []) [] c = return c
  pairs (t ∷ []) (d ∷ ds) c = λ at. refused short (at + 1)
  pairs (t ∷ v ∷ ws) [] c = return c
  pairs (t ∷ v ∷ ws) (d ∷ ds) c = λ at. and_then (meets d c t v at) (λ s. pairs ws (s.dues ++ ds) s.known)

  -- reads what is due from all of the words, which begin at the position; where words are left over, the refusal at the first of them
  unfoldable pub whole : Words → List D → C → Reader C
  whole ws ds c at = and_then (pairs ws ds c at) (λ known next. pick (ltb next (at + length ws)) (refused short next) (value known next))

-- The variables of an open call, as places of work memory where their trees stand, marked. Assumes nothing: these are definitions.
use Rattle.std.specs.Prelude.{ℕ, ◌+◌, ◌≤◌, ◌≡◌, List, [], ◌∷◌, length, get_or, take, set, ltb}
use Rattle.words.specs.Reader.{Words, pick, and}
use Rattle.grammar.specs.Grammar.{Grammar}
use Rattle.marks.specs.Marked.{Stands}

-- the variables of a call: how many are bound, and the places of 16, of which the first n count
pub record Vars : Type 0 where
  pub n : ℕ
  pub starts : Words

-- .. with the places as an array holds them
abbrev pub vars_of : Words → ℕ → Vars
vars_of places bound = record { n = bound; starts = places }

-- each tree stands at its place
abbrev pub EnvAt : Grammar → Words → List ℕ → List Words → Type 0
EnvAt g arena [] [] = Unit {0}
EnvAt g arena [] (w ∷ ws) = ⊥
EnvAt g arena (s ∷ ss) [] = ⊥
EnvAt g arena (s ∷ ss) (ws ∷ env) = Stands g arena s ws × EnvAt g arena ss env

-- the places of the variables that are bound
abbrev pub starts_of : Vars → List ℕ
starts_of v = take v.n v.starts

-- one variable more
abbrev pub bound : Vars → ℕ → Vars
bound v start = record { n = v.n + 1; starts = set v.starts v.n start }

-- there is room for 16
pub record Sound (v : Vars) : Type 0 where
  pub room : length v.starts ≡ 16
  pub few : v.n ≤ 16

-- what was bound stays where it is, and more may be bound
pub record Kept (before after : Vars) : Type 0 where
  pub wider : before.n ≤ after.n
  pub places : take before.n after.starts ≡ starts_of before

-- where the variable's tree stands; past every place if it is not bound
unfoldable pub start_at : Vars → ℕ → ℕ
start_at v x = pick (and (ltb x v.n) (ltb x 16)) (get_or v.starts x 0) 4294967295

-- What the search for a node at which an attempt may match promises. Assumes nothing: these are definitions.
use Rattle.tables.specs.declared.types.Types.{Types}
use Rattle.std.specs.Prelude.{ℕ, zero, suc, ◌+◌, ◌*◌, ◌<◌, ◌≤◌, ◌≡◌, ◌⊎◌, Bool, true, false, length, get_or, eqb, Option, Some, None}
use Rattle.words.specs.Reader.{Words}
use Rattle.meaning.specs.declared.State.{State}
use Rattle.marks.specs.Marked.{type_in}
use Rattle.marks.specs.Post.{span}
use Rattle.rewrite.specs.Vars.{Vars, Sound}
use Rattle.rewrite.specs.Matching.{Match, MatchAnswers}
use Rattle.rewrite.specs.declared.Verdict.TheVariants.{Differs}
use Rattle.rewrite.specs.declared.candidates.Candidate.{Candidate}
use Rattle.rewrite.specs.declared.candidates.First.{First}

-- the pattern differs from the tree that the part begins with, whatever the variables are
pub record Clashes (pairs part : Words) (live : ℕ) : Type 0 where
  pub clash : (types : Types) (arena : Words) (at : ℕ) (vars : Vars) → Sound vars → (m : Match) × (m.verdict ≡ Differs) × MatchAnswers types pairs arena part at vars live m

-- the pattern's first pair has the target's type, so that it is a node wherever there is a node of that type
abbrev pub BeginsWithNode : Words → ℕ → Type 0
BeginsWithNode pairs target = (2 ≤ length pairs) × (get_or pairs 0 0 ≡ target)

-- a value, if it is given, is that of the pattern's first pair, and the pair has the target's type
abbrev pub FirstValue : Words → ℕ → Option ℕ → Type 0
FirstValue pairs target (Some v) = BeginsWithNode pairs target × (get_or pairs 1 0 ≡ v)
FirstValue pairs target None = Unit {0}

-- what a search must know of a pattern
pub record FirstOf (pairs : Words) (target : ℕ) (first : First) : Type 0 where
  pub value_is : FirstValue pairs target first.value

-- what is looked up of a pattern before a search: the value is given wherever the pattern's first pair has the target's type, and there alone; and only then is
-- it worth looking further
pub record FirstFound (pairs : Words) (target : ℕ) (first : First) : Type 0 where
  pub known : FirstOf pairs target first
  pub whole : BeginsWithNode pairs target → first.value ≡ Some (get_or pairs 1 0)
  pub given : first.further ≡ true → (v : ℕ) × (first.value ≡ Some v)

-- the pattern's first pair is a node, and the part begins with that node
abbrev pub Begun : Words → Words → Type 0
Begun pairs part = (2 ≤ length part) × BeginsWithNode pairs (type_in (get_or part 0 0)) × (get_or part 1 0 ≡ get_or pairs 1 0)

-- the state before an attempt
abbrev pub unspent : State → State
unspent left = record { attempts = suc left.attempts }

-- k nodes from `from` on are passed over: each has another type, or an attempt at it fails and is counted
abbrev pub Passed : (ℕ → Type 0) → Words → ℕ → ℕ → ℕ → State → ℕ → State → Type 0
Passed fails w target base from left zero now = now ≡ left
Passed fails w target base from left (suc k) now =
    ((type_in (get_or w (base + 2 * (from + k)) 0) ≡ target → ⊥) × Passed fails w target base from left k now)
    ⊎ ((type_in (get_or w (base + 2 * (from + k)) 0) ≡ target) × fails (base + 2 * (from + k)) × Passed fails w target base from left k (unspent now))

-- the nodes from `from` to the one that is given are passed over; that is of the target's type, unless none is left
pub record Next (fails : ℕ → Type 0) (w : Words) (target base from last : ℕ) (left : State) (r : Candidate) : Type 0 where
  pub passed : ℕ
  pub node_is : r.node ≡ from + passed
  pub inside : 0 < passed → from + passed ≤ last
  pub nodes : Passed fails w target base from left passed r.left
  pub typed : r.node < last → type_in (get_or w (base + 2 * r.node) 0) ≡ target

-- may a pattern whose first pair has this value, if it is given, match a node with the value that is found?
abbrev pub allowed : Option ℕ → ℕ → Bool
allowed (Some due) found = eqb found due
allowed None found = true

-- an attempt fails where another value than is due stands at p
abbrev pub OtherValue : Words → Option ℕ → ℕ → Type 0
OtherValue w value p = allowed value (get_or w (p + 1) 0) ≡ false

-- passed over are nodes with another value than is due; the one that is given has it, or no attempt is left
pub record NextStart (w : Words) (target : ℕ) (value : Option ℕ) (base from last : ℕ) (left : State) (r : Candidate) : Type 0 where
  pub next : Next (OtherValue w value) w target base from last left r
  pub valued : r.node < last → 0 < r.left.attempts → allowed value (get_or w (base + 2 * r.node + 1) 0) ≡ true

-- an attempt fails where the pattern differs from the tree that stands at p
abbrev pub ClashesAt : Words → Words → ℕ → ℕ → ℕ → Type 0
ClashesAt pairs w end live p = Clashes pairs (span w p end) live

-- passed over are nodes at which the pattern must differ
abbrev pub NextCandidate : Words → Words → ℕ → ℕ → ℕ → ℕ → ℕ → ℕ → State → Candidate → Type 0
NextCandidate pairs w target base end from last live left r = Next (ClashesAt pairs w end live) w target base from last left r

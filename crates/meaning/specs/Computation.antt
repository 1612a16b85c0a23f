-- Computations that spend attempts (the paper's trials), and may stop by a number or be stuck; the limits of trees at which they stop. Assumes nothing: these are definitions.
use Rattle.std.specs.Prelude.{ℕ, zero, suc, Bool, true, false, leb}
use Rattle.std.proofs.Math.Option.{Option, none, some}
use Rattle.words.specs.Reader.{Words}
use Rattle.grammar.specs.Grammar.{Grammar}
use Rattle.tree.specs.Limits.{most_nodes, most_nesting}
use Rattle.tree.specs.Tree.{nesting}
use Rattle.meaning.specs.Limits.{most_live}
use Rattle.meaning.specs.declared.State.{State}

-- the state of a run at first: its whole budget is left
abbrev pub initial : ℕ → State
initial budget = record { attempts = budget }

-- "a next step, the end or a stop 40 to 45 follows"
pub data Result (A : Type 0) : Type 0 where
  -- a value, and the state that is left
  ok : A → State → Result A
  -- the stop's number, and the state that is left
  stop : ℕ → State → Result A
  -- a step that is never reached
  stuck : Result A

-- what a computation ends as, from the state that is left
abbrev pub Comp : Type 0 → Type 0
Comp A = State → Result A

-- goes on with what was computed; a stop is the end
unfoldable pub then_of : {A B : Type 0} → Result A → (A → Comp B) → Result B
then_of (ok a left) k = k a left
then_of (stop n left) k = stop n left
then_of stuck k = stuck

-- one computation after the other, by what the first gave
abbrev pub ◌>>=◌ : {A B : Type 0} → Comp A → (A → Comp B) → Comp B
◌>>=◌ m k left = then_of (m left) k

-- one computation after the other
abbrev pub ◌>>◌ : {A B : Type 0} → Comp A → Comp B → Comp B
◌>>◌ m k left = then_of (m left) (λ a. k)

-- computes nothing
abbrev pub return : {A : Type 0} → A → Comp A
return a left = ok a left

-- a step that is never reached
abbrev pub never : {A : Type 0} → Comp A
never left = stuck

-- with so many attempts left. 40: "a trial is due and the budget is spent"
unfoldable pub spend_of : ℕ → Comp (Unit {0})
spend_of zero left = stop 40 left
spend_of (suc n) left = ok tt (record { attempts = n })

-- "One trial costs one unit of the budget as it starts"
unfoldable pub spend : Comp (Unit {0})
spend left = spend_of left.attempts left

-- stops by the number, unless the test passes
unfoldable pub stop_unless : ℕ → Bool → Comp (Unit {0})
stop_unless n true left = ok tt left
stop_unless n false left = stop n left

-- stuck, unless the test passes
unfoldable pub surely : Bool → Comp (Unit {0})
surely true left = ok tt left
surely false left = stuck

-- the same for a strict computation; one that is not strict does not look
unfoldable pub check : Bool → Bool → Comp (Unit {0})
check true b left = surely b left
check false b left = ok tt left

-- what there surely is
unfoldable pub present : {A : Type 0} → Option A → Comp A
present none left = stuck
present (some a) left = ok a left

-- one of two computations, by a test
unfoldable pub choose : {A : Type 0} → Bool → Comp A → Comp A → Comp A
choose true m n left = m left
choose false m n left = n left

-- goes on with what there is, or otherwise
unfoldable pub whether : {A B : Type 0} → Option A → (A → Comp B) → Comp B → Comp B
whether (some a) m n left = m a left
whether none m n left = n left

-- none, unless the test passes
abbrev pub provided : {A : Type 0} → Bool → Comp (Option A) → Comp (Option A)
provided b m = choose b m (return none)

-- THE LIMITS

-- 42: "a tree would pass 2,048 nodes"
unfoldable pub nodes_within : ℕ → Comp (Unit {0})
nodes_within n = stop_unless 42 (leb n most_nodes)

-- 43: "a finished tree's nesting would pass 64"
unfoldable pub nesting_within : Grammar → Words → Comp (Unit {0})
nesting_within g ws = stop_unless 43 (leb (nesting g ws) most_nesting)

-- 44: "held nodes would pass 6,144", here live nodes
unfoldable pub live_within : ℕ → Comp (Unit {0})
live_within n = stop_unless 44 (leb n most_live)

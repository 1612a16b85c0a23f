-- What the functions on the stack of trees promise. Assumes nothing: these are definitions.
use Rattle.std.specs.Prelude.{ℕ, ◌+◌, ◌*◌, ◌<◌, ◌≤◌, ◌≡◌, Bool, [], ◌∷◌, length, get_or, take, drop, set, leb, ltb, Result, Ok, Err}
use Rattle.words.specs.Reader.{Words, pick}
use Rattle.grammar.specs.Grammar.{Grammar}
use Rattle.grammar.specs.Limits.{most_types}
use Rattle.tables.specs.Tables.{Heads}
use Rattle.tables.specs.Types.{TypesOf}
use Rattle.tables.specs.declared.types.Types.{Types}
use Rattle.meaning.specs.Limits.{most_live}
use Rattle.tree.specs.Limits.{most_nodes, most_nesting}
use Rattle.tree.specs.Tree.{Trees, Tree, size, nesting, first_tree, put}
use Rattle.rules.specs.Rules.{Operation, applied, operation, arguments}
use Rattle.meaning.specs.declared.State.{State}
use Rattle.meaning.specs.Computation as Computation
use Rattle.meaning.specs.Computation.{ok, stop, stuck}
use Rattle.meaning.specs.Operations.{compute}
use Rattle.meaning.specs.Meaning.{Env, total, variables}
use Rattle.operations.specs.Operating.{arguments_of}
use Rattle.marks.specs.Marked.{marked, Stands, UnderWay}
use Rattle.rewrite.specs.Vars.{Vars, vars_of, EnvAt, starts_of, Sound}
use Rattle.rewrite.specs.declared.arena.Args.{Args}

-- r is how many nodes the tree at `start` has, if it ends by `top`
pub record NodesAt (w : Words) (start top r : ℕ) : Type 0 where
  pub small : r ≤ most_nodes
  pub inside : 0 < r → start + 2 * r ≤ top
  pub stands : (g : Grammar) (ws : Words) → length g ≤ most_types → Stands g (take top w) start ws → r ≡ size ws

-- n is no more than the most, or it is stopped by the number
abbrev pub Within : ℕ → ℕ → ℕ → Result (Unit {0}) ℕ → Type 0
Within most number n (Ok u) = n ≤ most
Within most number n (Err k) = (most < n) × (k ≡ number)

-- the stop 42 or 44, unless neither limit would be crossed
abbrev pub within_limits : ℕ → ℕ → Result (Unit {0}) ℕ
within_limits n live = pick (leb n most_nodes) (pick (leb live most_live) (Ok tt) (Err 44)) (Err 42)

-- the arguments of an application, as the variables of the call, and how many nodes they have
pub record Arguments : Type 0 where
  pub vars : Vars
  pub total : ℕ

-- .. with the places as they were gathered
abbrev pub arguments_in : Words → Args → Arguments
arguments_in places a = record { vars = vars_of places a.bound; total = a.total }

-- r has the variables that the n pairs from `at` on name, if there are no more than 16, and their nodes; their trees stand below any place below which the
-- variables' do
pub record Gathered (w pairs : Words) (at n : ℕ) (vars : Vars) (r : Arguments) : Type 0 where
  pub sound : Sound r.vars
  pub small : r.total ≤ 65536
  pub stands : (g : Grammar) (top : ℕ) (env args : Env) (left : State) → length g ≤ most_types → EnvAt g (take top w) (starts_of vars) env → n ≤ 16
      → variables env (arguments n (drop at pairs)) left ≡ ok args left → EnvAt g (take top w) (starts_of r.vars) args × (r.total ≡ total args)

-- the tree of n nodes under way at top is marked, and r is the stop 43 if it nests too deep
pub record Closed (types : Types) (w w' : Words) (top n : ℕ) (r : Result (Unit {0}) ℕ) : Type 0 where
  pub long : length w' ≡ length w
  pub closed : (g : Grammar) (u : ℕ) (ws : Words) → TypesOf g types → Trees g (u ∷ []) ws → size ws ≡ n → n ≤ most_nodes → UnderWay g (take (2 * n) (drop top w)) ws
      → (take top w' ≡ take top w) × (take (2 * n) (drop top w') ≡ marked g ws) × Within most_nesting 43 (nesting g ws) r

-- a marked tree of n nodes stands at base
pub record Standing (g : Grammar) (w : Words) (base n t : ℕ) (ws : Words) : Type 0 where
  pub tree : Tree g t ws
  pub nodes : size ws ≡ n
  pub words : take (2 * n) (drop base w) ≡ marked g ws

-- r says whether the scope of n nodes at base would nest too deep with the tree at `from` in the place of its node i
abbrev pub TooDeep : Types → Words → ℕ → ℕ → ℕ → ℕ → Bool → Type 0
TooDeep types w base n i from r = (g : Grammar) (t target m : ℕ) (scope ws : Words) → Heads g types.heads → Standing g w base n t scope → Standing g w from m target ws
    → Tree g target (first_tree g (drop (2 * i) scope)) → r ≡ ltb most_nesting (nesting g (put g scope (2 * i) ws))

-- the stop 42 or 43 of a scope, unless it is within both limits
abbrev pub scope_limits : Grammar → Words → Result (Unit {0}) ℕ
scope_limits g scope = pick (leb (size scope) most_nodes) (pick (leb (nesting g scope) most_nesting) (Ok tt) (Err 43)) (Err 42)

-- after an attempt to put a tree in place: the scope is within its limits and stands as it is then, of so many nodes; or it is stopped by them, and nothing is
-- changed
abbrev pub PlacedAs : Grammar → Words → Words → ℕ → ℕ → Words → Result ℕ ℕ → Type 0
PlacedAs g w w' base t scope (Ok nodes) = (scope_limits g scope ≡ Ok tt) × (take base w' ≡ take base w) × Standing g w' base nodes t scope
PlacedAs g w w' base t scope (Err k) = (scope_limits g scope ≡ Err k) × (w' ≡ w)

-- the tree of m nodes at `from` in the place of node i of the scope of n nodes at base, which has the target's type like it
pub record Replaced (types : Types) (w w' : Words) (base n i from m : ℕ) (r : Result ℕ ℕ) : Type 0 where
  pub long : length w' ≡ length w
  pub most : {nodes : ℕ} → r ≡ Ok nodes → nodes ≤ n + m
  pub few : {nodes : ℕ} → r ≡ Ok nodes → n ≤ most_nodes → nodes ≤ most_nodes
  pub replaced : (g : Grammar) (t target : ℕ) (scope ws : Words) → TypesOf g types → Standing g w base n t scope → Standing g w from m target ws
      → Tree g target (first_tree g (drop (2 * i) scope)) → PlacedAs g w w' base t (put g scope (2 * i) ws) r

-- so many nodes say that a computation gives a value of which P holds with them; a stop that it stops so
abbrev pub Says : {A : Type 0} → (ℕ → A → Type 0) → Result ℕ ℕ → State → Computation.Result A → Type 0
Says {A} P (Ok nodes) left m = (a : A) × P nodes a × (m ≡ ok a left)
Says P (Err k) left m = m ≡ stop k left

-- what an operation made of the number at base: its value is written; or the stop, and nothing is changed
abbrev pub ComputedAs : Words → Words → ℕ → Computation.Result ℕ → State → Result (Unit {0}) ℕ → Type 0
ComputedAs w w' base m left (Ok u) = (v : ℕ) × (m ≡ ok v left) × (w' ≡ set w (base + 1) v)
ComputedAs w w' base m left (Err k) = (m ≡ stop k left) × (w' ≡ w)

-- .. unless the operation is stuck
pub record Computed (w w' : Words) (base op b : ℕ) (r : Result (Unit {0}) ℕ) : Type 0 where
  pub long : length w' ≡ length w
  pub computed : (o : Operation) (left : State) → applied op ≡ operation o → (compute o (get_or w (base + 1) 0) (arguments_of o b) left ≡ stuck → ⊥)
      → ComputedAs w w' base (compute o (get_or w (base + 1) 0) (arguments_of o b) left) left r

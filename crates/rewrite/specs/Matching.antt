-- What the matcher promises: the meaning's match, over trees that stand marked in work memory. Assumes nothing: these are definitions.
use Rattle.std.specs.Prelude.{ℕ, ◌+◌, ◌*◌, ◌<◌, ◌≤◌, ◌≡◌, Bool, true, false, List, ◌∷◌, length, get_or, take, drop, Result, Ok, Err}
use Rattle.std.proofs.Math.Option.{Option, none, some}
use Rattle.words.specs.Reader.{Words}
use Rattle.grammar.specs.Grammar.{Grammar}
use Rattle.tables.specs.Tables.{Heads}
use Rattle.tables.specs.declared.types.Types.{Types}
use Rattle.rules.specs.Limits.{most_variables, mark_new, mark_variable}
use Rattle.rules.specs.Rules.{shapes}
use Rattle.meaning.specs.Limits.{most_live}
use Rattle.meaning.specs.declared.State.{State}
use Rattle.meaning.specs.Computation as Computation
use Rattle.meaning.specs.Computation.{ok, stop, stuck, Comp}
use Rattle.meaning.specs.Meaning.{Env, Bindings, total, same_tree, match, match_first}
use Rattle.tree.specs.Limits.{most_nodes}
use Rattle.tree.specs.Tree.{Trees, size, first_tree}
use Rattle.tree.specs.Rest.{Rest}
use Rattle.marks.specs.Marked.{marked, type_in, size_in, Stands}
use Rattle.rewrite.specs.Vars.{Vars, vars_of, EnvAt, starts_of, Sound, Kept}
use Rattle.rewrite.specs.declared.Verdict.{Verdict}
use Rattle.rewrite.specs.declared.Verdict.TheVariants.{Matches, Differs, Stops}
use Rattle.rewrite.specs.declared.Matched.{Matched}

-- what a new variable of the type set against the node w comes to, with n variables bound: how many words it takes up; that the match differs, if the type is another or
-- it is the 17th; that it stops, if too many nodes would be live
pub data NewTold (w ty n live : ℕ) (r : Result ℕ Verdict) : Type 0 where
  other : (type_in w ≡ ty → ⊥) → r ≡ Err Differs → NewTold w ty n live r
  over : type_in w ≡ ty → most_live < live + size_in w → r ≡ Err (Stops 44) → NewTold w ty n live r
  past : type_in w ≡ ty → live + size_in w ≤ most_live → most_variables ≤ n → r ≡ Err Differs → NewTold w ty n live r
  taken : type_in w ≡ ty → live + size_in w ≤ most_live → n < most_variables → r ≡ Ok (2 * size_in w) → NewTold w ty n live r

-- r says whether a variable whose tree stands at `start` matches the first tree of the part
abbrev pub VariableTold : Types → Words → ℕ → Words → Bool → Type 0
VariableTold types arena start part r = (g : Grammar) (u ws : Words) (t : ℕ) (ts : List ℕ) → Heads g types.heads → Stands g arena start u → part ≡ marked g ws → Trees g (t ∷ ts) ws → size ws ≤ most_nodes
    → r ≡ same_tree g u (first_tree g ws)

-- what a pair (t, v) set against the node at p of the part comes to, if the tree of the variable v stands at `start`: likewise
pub data PairTold (types : Types) (arena part : Words) (t v start p n live : ℕ) (r : Result ℕ Verdict) : Type 0 where
  short : length part < p + 2 → r ≡ Err Differs → PairTold types arena part t v start p n live r
  new : p + 2 ≤ length part → t ≡ mark_new → NewTold (get_or part p 0) v n live r → PairTold types arena part t v start p n live r
  unlike : p + 2 ≤ length part → (t ≡ mark_new → ⊥) → t ≡ mark_variable → VariableTold types arena start (drop p part) false → r ≡ Err Differs → PairTold types arena part t v start p n live r
  like : p + 2 ≤ length part → (t ≡ mark_new → ⊥) → t ≡ mark_variable → VariableTold types arena start (drop p part) true → r ≡ Ok (2 * size_in (get_or part p 0)) → PairTold types arena part t v start p n live r
  type : p + 2 ≤ length part → (t ≡ mark_new → ⊥) → (t ≡ mark_variable → ⊥) → (type_in (get_or part p 0) ≡ t → ⊥) → r ≡ Err Differs → PairTold types arena part t v start p n live r
  value : p + 2 ≤ length part → (t ≡ mark_new → ⊥) → (t ≡ mark_variable → ⊥) → type_in (get_or part p 0) ≡ t → (get_or part (p + 1) 0 ≡ v → ⊥) → r ≡ Err Differs → PairTold types arena part t v start p n live r
  node : p + 2 ≤ length part → (t ≡ mark_new → ⊥) → (t ≡ mark_variable → ⊥) → type_in (get_or part p 0) ≡ t → get_or part (p + 1) 0 ≡ v → r ≡ Ok 2 → PairTold types arena part t v start p n live r

-- what a match found, the variables that are bound after it, and how many nodes are live then
pub record Match : Type 0 where
  pub verdict : Verdict
  pub vars : Vars
  pub live : ℕ

-- .. with the places as the match leaves them
abbrev pub match_in : Words → Matched → Match
match_in places m = record { verdict = m.verdict; vars = vars_of places m.bound; live = m.live }

-- the part, which begins at `at` in the arena, is what is left of a marked tree; the variables' trees stand in the arena; so many nodes are live
pub record Stage (types : Types) (g : Grammar) (arena part : Words) (at : ℕ) (vars : Vars) (live : ℕ) (ws : Words) (ts : List ℕ) (b : Bindings) : Type 0 where
  pub tables : Heads g types.heads
  pub place : part ≡ take (length part) (drop at arena)
  pub inside : at + length part ≤ length arena
  pub marks : part ≡ marked g ws
  pub rest : Rest g ts ws
  pub stands : EnvAt g arena (starts_of vars) b.env
  pub counted : live ≡ b.besides + total b.env

-- variables, with so many nodes live besides
abbrev pub bindings : Env → ℕ → Bindings
bindings env besides = record { env = env; besides = besides }

-- what a verdict says of a computation that gives a match or none
abbrev pub Means : Grammar → Words → ℕ → Verdict → Vars → ℕ → State → Computation.Result (Option Bindings) → Type 0
Means g arena besides Matches vars live left m = (env : Env) × EnvAt g arena (starts_of vars) env × (live ≡ besides + total env) × (m ≡ ok (some (bindings env besides)) left)
Means g arena besides Differs vars live left m = m ≡ ok none left
Means g arena besides (Stops n) vars live left m = m ≡ stop n left

-- the answer is what the computation gives, unless it is stuck
pub record Answers (types : Types) (arena part : Words) (at : ℕ) (vars : Vars) (live : ℕ) (f : Grammar → Words → Bindings → Comp (Option Bindings)) (r : Match) : Type 0 where
  pub sound : Sound r.vars
  pub kept : Kept vars r.vars
  pub fits : r.live ≤ most_live
  pub grows : live ≤ r.live
  pub meant : (g : Grammar) (ws : Words) (ts : List ℕ) (b : Bindings) (left : State) → Stage types g arena part at vars live ws ts b → (f g ws b left ≡ stuck → ⊥)
      → Means g arena b.besides r.verdict r.vars r.live left (f g ws b left)

-- a pattern's pairs set against the first tree
abbrev pub match_of : Bool → Words → Grammar → Words → Bindings → Comp (Option Bindings)
match_of strict pairs g ws b = match strict g (shapes pairs) ws b

-- .. strict or not
abbrev pub MatchAnswers : Types → Words → Words → Words → ℕ → Vars → ℕ → Match → Type 0
MatchAnswers types pairs arena part at vars live r = (strict : Bool) → Answers types arena part at vars live (match_of strict pairs) r

-- the first node of the type that the pattern matches
abbrev pub FirstAnswers : Types → ℕ → Words → Words → Words → ℕ → Vars → ℕ → Match → Type 0
FirstAnswers types ty pairs arena part at vars live r = (strict : Bool) → Answers types arena part at vars live (λ g ws b. match_first strict g ty (shapes pairs) ws b) r

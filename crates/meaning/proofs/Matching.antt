-- Variables and patterns are sound. Assumes nothing.
use Prim.Native.Nat.{ℕ, zero, suc, ◌+◌, ◌≤◌, ◌<◌}
use mathlib.Core.Path.{◌≡◌, refl, sym, ap, ◌∙◌}
use mathlib.Core.List.{List, [], ◌∷◌, ◌++◌, map, append_assoc}
use mathlib.Core.Bool.{true, false}
use mathlib.Core.Option.{Option, some}
use native.Mathlib.Omega.{arith}
use lib.ListN.{length, get_elem?, length-append}
use lib.Dec.{eqb, leb, ltb}
use borrow.Author.Tests.{eqb-true, leb-true, lt-ltb}
use Rattle.words.specs.Reader.{Words, and}
use Rattle.words.proofs.Laws.{and_both}
use Rattle.grammar.specs.Grammar.{Grammar}
use Rattle.grammar.specs.Kinds.{children, is_number}
use Rattle.tree.specs.Limits.{most_nodes, most_nesting}
use Rattle.tree.specs.Tree.{Tree, size, nesting, is_tree, after, first_tree}
use Rattle.tree.proofs.Trees.{tells, tree_type, and_intro, tree_passes}
use Rattle.rules.specs.Limits.{most_variables}
use Rattle.rules.specs.Rules.{Shape}
use Rattle.judgement.specs.Wanted.{Wanted, exactly, wants}
use Rattle.judgement.specs.WellTyped.{Types, Has, Arguments, no_argument, an_argument, Pattern, pattern_end, a_node, a_new, a_same}
use Rattle.meaning.specs.Limits.{most_live}
use Rattle.meaning.specs.declared.State.{State}
use Rattle.meaning.specs.Computation.{nodes_within, nesting_within, live_within}
use Rattle.meaning.specs.Operations.{is_number_token}
use Rattle.meaning.specs.Meaning.{Env, Bindings, live, variable, variables, same_tree, bind, match, match_first, are_trees_of}
use Rattle.tree.specs.Rest.{Rest}
use Rattle.tree.proofs.Rest.{rest_node, onward}
use Rattle.meaning.proofs.Safe.{Safe, returns, and_then, Any, stop_unless_safe, surely_safe, check_safe, present_safe, choose_safe, Maybe, whether_safe, safe_map}
use Rattle.judgement.proofs.Patterns.{pattern_grows}

-- a tree for each type, in order
pub data OfTypes (g : Grammar) : Types → Env → Type 0 where
  of_none : OfTypes g [] []
  of_more : {t : ℕ} {ts : Types} {ws : Words} {env : Env} → Tree g t ws → OfTypes g ts env → OfTypes g (t ∷ ts) (ws ∷ env)

pub of_types_snoc : {g : Grammar} {Γ : Types} {env : Env} {t : ℕ} {ws : Words} → OfTypes g Γ env → Tree g t ws → OfTypes g (Γ ++ t ∷ []) (env ++ ws ∷ [])
of_types_snoc of_none x = of_more x of_none
of_types_snoc (of_more y r) x = of_more y (of_types_snoc r x)

pub of_types_length : {g : Grammar} {Γ : Types} {env : Env} → OfTypes g Γ env → length env ≡ length Γ
of_types_length of_none = refl
of_types_length (of_more x r) = ap suc (of_types_length r)

-- a tree for each that is wanted, in order
pub data OfWanted (g : Grammar) : List Wanted → Env → Type 0 where
  wanted_none : OfWanted g [] []
  wanted_more : {w : Wanted} {more : List Wanted} {t : ℕ} {ws : Words} {env : Env} → wants g w t ≡ true → Tree g t ws → OfWanted g more env → OfWanted g (w ∷ more) (ws ∷ env)

-- .. of these very types
pub of_types_exactly : {g : Grammar} (ts : Types) {env : Env} → OfWanted g (map exactly ts) env → OfTypes g ts env
unfolding wants
of_types_exactly [] wanted_none = of_none
of_types_exactly {g} (t ∷ ts) (wanted_more {t = u} e x r) = of_more (rw (eqb-true u t e) at x) (of_types_exactly ts r)

pub are_trees_of_true : {g : Grammar} {ts : Types} {env : Env} → OfTypes g ts env → are_trees_of g ts env ≡ true
unfolding are_trees_of
are_trees_of_true of_none = refl
are_trees_of_true (of_more x r) = and_intro (tree_passes x) (are_trees_of_true r)

lookup : {g : Grammar} {Γ : Types} {env : Env} → OfTypes g Γ env → (x : ℕ) {t : ℕ} → Has Γ x t → (ws : Words) × (get_elem? env x ≡ some ws) × Tree g t ws
lookup of_none x h = let z : ◌≡◌ {A = ℕ} 0 1 = cc in absurd (omega arith)
lookup {g} (of_more {t = u} {ws = ws} y r) zero {t} h = let e : u ≡ t = cc in (ws, refl, rw e at y)
lookup (of_more y r) (suc x) h = lookup r x h

-- THE LIMITS

pub live_safe : (k : ℕ) (n : State) → Safe Any n (live_within k n) (live_within k n)
unfolding live_within
live_safe k n = safe_map (λ u l _ e. tt) (stop_unless_safe 44 (leb k most_live) n (omega arith) (omega arith))

pub nodes_safe : (k : ℕ) (n : State) → Safe (λ u l. k ≤ most_nodes) n (nodes_within k n) (nodes_within k n)
unfolding nodes_within
nodes_safe k n = safe_map (λ u l _ e. leb-true k most_nodes e) (stop_unless_safe 42 (leb k most_nodes) n (omega arith) (omega arith))

pub nesting_safe : (g : Grammar) (ws : Words) (n : State) → Safe (λ u l. nesting g ws ≤ most_nesting) n (nesting_within g ws n) (nesting_within g ws n)
unfolding nesting_within
nesting_safe g ws n = safe_map (λ u l _ e. leb-true (nesting g ws) most_nesting e) (stop_unless_safe 43 (leb (nesting g ws) most_nesting) n (omega arith) (omega arith))

-- VARIABLES

pub is_number_token_true : {g : Grammar} {t : ℕ} (ws : Words) → is_number g t ≡ true → Tree g t ws → is_number_token g ws ≡ true
unfolding is_number_token
is_number_token_true ws e x = rw (tree_type ws x.typed) (and_intro e (tree_passes x))

module _ {g : Grammar} {Γ : Types} {env : Env} (typed : OfTypes g Γ env) where
  pub variable_safe : (x : ℕ) {t : ℕ} → Has Γ x t → (n : State) → Safe (λ ws l. Tree g t ws) n (variable env x n) (variable env x n)
  unfolding variable
  variable_safe x h n =
      let f = lookup typed x h in
      safe_map (λ w l _ e. rw e f.2) (present_safe n f.1)

  pub variables_safe : {xs : List ℕ} {us : List Wanted} → Arguments g Γ xs us → (n : State) → Safe (λ ws l. OfWanted g us ws) n (variables env xs n) (variables env xs n)
  unfolding variables
  variables_safe no_argument n = returns wanted_none
  variables_safe (an_argument {x} h e r) n =
      and_then (variable_safe x h n) λ w l _ tree.
      and_then (variables_safe r l) λ ws l _ q.
      returns (wanted_more e tree q)

-- what a match leaves: its variables, if it is one
abbrev pub Binds : Grammar → Types → Option Bindings → State → Type 0
Binds g Γ m l = Maybe (λ c. OfTypes g Γ c.env) m

pub bind_safe : {g : Grammar} {Γ : Types} {t : ℕ} {ws : Words} (b : Bindings) → OfTypes g Γ b.env → Tree g t ws → length (Γ ++ t ∷ []) ≤ most_variables → (n : State)
    → Safe (λ c l. OfTypes g (Γ ++ t ∷ []) c.env) n (bind true g t ws b n) (bind false g t ws b n)
unfolding bind
bind_safe {g} {Γ} {t} {ws} b env x few n =
    let k : length b.env < most_variables = omega (arith, of_types_length env, length-append Γ (t ∷ [])) in
    and_then (surely_safe (ltb (length b.env) most_variables) n (lt-ltb (length b.env) most_variables k)) λ u l _ _.
    and_then (check_safe (is_tree g t ws) l (tree_passes x)) λ u l _ _.
    returns (of_types_snoc env x)

-- PATTERNS

pub match_safe : {g : Grammar} {Γ due Γ' : Types} {ps : List Shape} → Pattern g Γ due ps Γ' → length Γ' ≤ most_variables → (ts : Types) (ws : Words) (b : Bindings) → Rest g (due ++ ts) ws → OfTypes g Γ b.env → (n : State)
    → Safe (Binds g Γ') n (match true g ps ws b n) (match false g ps ws b n)
unfolding match
match_safe pattern_end few ts ws b r env n = returns env
match_safe (a_node fine p) few ts [] b r env n = absurd (tells r.typed)
match_safe (a_node fine p) few ts (w ∷ []) b r env n = absurd (tells r.typed)
match_safe {g} (a_node {t = t} {v} fine p) few ts (w ∷ x ∷ ws) b r env n =
    choose_safe (and (eqb w t) (eqb x v))
    (λ l _ e.
    let q : x ≡ v = eqb-true x v (and_both (eqb w t) (eqb x v) e).1 in
    match_safe p few ts ws b (rw append_assoc (rw q at (rest_node r))) env l)
    (λ l _ e. returns tt)
match_safe (a_new p) few ts [] b r env n = absurd (tells r.typed)
match_safe (a_new p) few ts (w ∷ []) b r env n = absurd (tells r.typed)
match_safe {g} (a_new {Γ = Γ} {t = t} p) few ts (w ∷ x ∷ ws) b r env n =
    let on = onward r in
    choose_safe (eqb w t)
    (λ l _ e.
    and_then (live_safe (live b + size (first_tree g (w ∷ x ∷ ws))) l) λ u l _ _.
    and_then (bind_safe b env on.tree (omega (arith, few, pattern_grows p)) l) λ c l _ q.
    match_safe p few ts (after g (w ∷ x ∷ ws) 1) c on.rest q l)
    (λ l _ e. returns tt)
match_safe (a_same h p) few ts [] b r env n = absurd (tells r.typed)
match_safe (a_same h p) few ts (w ∷ []) b r env n = absurd (tells r.typed)
match_safe {g} (a_same {x = y} h p) few ts (w ∷ x ∷ ws) b r env n =
    and_then (variable_safe env y h n) λ u l _ tree.
    choose_safe (same_tree g u (first_tree g (w ∷ x ∷ ws)))
    (λ l _ e. match_safe p few ts (after g (w ∷ x ∷ ws) 1) b (onward r).rest env l)
    (λ l _ e. returns tt)

pub match_first_safe : {g : Grammar} {Γ Γ' : Types} {ty : ℕ} {ps : List Shape} → Pattern g Γ (ty ∷ []) ps Γ' → length Γ' ≤ most_variables → (b : Bindings) → OfTypes g Γ b.env → (ws : Words) (ts : Types) → Rest g ts ws → (n : State)
    → Safe (Binds g Γ') n (match_first true g ty ps ws b n) (match_first false g ty ps ws b n)
unfolding match_first
match_first_safe p few b env [] ts r n = returns tt
match_first_safe p few b env (w ∷ []) ts r n = returns tt
match_first_safe p few b env (w ∷ v ∷ ws) [] r n = absurd (tells r.typed)
match_first_safe {g} {Γ' = Γ'} {ty} p few b env (w ∷ v ∷ ws) (t ∷ ts) r n =
    and_then
    (choose_safe {P = Binds g Γ'} (eqb w ty)
    (λ l _ e.
    let q : t ≡ ty = sym (tells r.typed).0 ∙ eqb-true _ _ e in
    match_safe p few ts (w ∷ v ∷ ws) b (rw q at r) env l)
    (λ l _ e. returns tt))
    λ m l _ x.
    whether_safe m x (λ c l _ y. returns y) (λ l _. match_first_safe p few b env ws (children g t v ++ ts) (rest_node r) l)

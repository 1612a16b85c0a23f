-- The meaning respects every relation on states that `spend` respects: the same computation from two related states ends the same, in related states, unless the
-- first is stuck or stops in a way of which nothing is said. What spends no attempt (a pattern, a replacement that applies no rules) respects every relation. Assumes nothing.
use Prim.Native.Nat.{ℕ, zero, suc, ◌+◌, ◌-◌, ◌*◌, ◌/◌, ◌≤◌}
use mathlib.Core.Path.{◌≡◌, refl}
use mathlib.Core.List.{List, [], ◌∷◌}
use mathlib.Core.Bool.{Bool, true, false, not}
use mathlib.Core.Option.{Option, none, some}
use native.Mathlib.Omega.{arith}
use lib.ListN.{length, drop, get_elem?}
use lib.Dec.{eqb, leb, ltb}
use Rattle.words.specs.Reader.{Words, pick, and, or}
use Rattle.words.proofs.Laws.{or_true}
use Rattle.grammar.specs.Grammar.{Grammar}
use Rattle.grammar.specs.Limits.{greatest_number}
use Rattle.tree.specs.Limits.{most_nodes, most_nesting}
use Rattle.tree.specs.Tree.{size, nesting, are_trees, is_tree, after, first_tree, type_of, put}
use Rattle.rules.specs.Limits.{most_variables}
use Rattle.rules.specs.Rules.{Applied, rule, operation, editing, nothing, Operation, add, subtract, quotient, remainder, round, truncate, equal, greater, Shape, node, new, same, Application, Piece, write, copy, chain, Part, deconstruct, search, construct, condition, Strategy, root_only, first_match, exhaustive, one_pass, searches, Rule, Rules}
use Rattle.meaning.specs.Limits.{most_live, most_calls}
use Rattle.meaning.specs.declared.State.{State}
use Rattle.meaning.specs.Computation.{initial, Result, ok, stop, stuck, Comp, then_of, spend, stop_unless, surely, check, present, choose, whether, nodes_within, nesting_within, live_within}
use Rattle.meaning.specs.Operations.{rounded, truncated, in_range, divisor, with_one, with_none, compute, compare, value_of, values_of, is_number_token, are_number_tokens}
use Rattle.meaning.specs.Edits.{edited, edit_fits, edit}
use Rattle.meaning.specs.OnePass.{is_rule, calls_rule, applies_rules}
use Rattle.meaning.specs.Meaning as M
use Rattle.meaning.specs.Meaning.{Env, Bindings, live, variable, variables, same_tree, bind, match, match_first, fits, start, begin, Found, done, stopped, cannot_go_on, Called, result_as, result_of, opened, Turned, after_round, Calls, apply, apply_chain, fill, finish, succeeds, any_succeeds, part, parts, attempt, seek, replace, turn, call_with, call, call_matches, calls}

-- both give the same value or the same stop, which is then of those that are kept, and leave related states; nothing is said where the first is stuck or its stop
-- is free
pub data Related (R : State → State → Type 0) (Free Kept : ℕ → State → Type 0) {A : Type 0} : Result A → Result A → Type 0 where
  goes : {a : A} {l m : State} → R l m → Related R Free Kept (ok a l) (ok a m)
  stops : {n : ℕ} {l m : State} → Kept n l → R l m → Related R Free Kept (stop n l) (stop n m)
  free : {n : ℕ} {l : State} {y : Result A} → Free n l → Related R Free Kept (stop n l) y
  sticks : {y : Result A} → Related R Free Kept stuck y

-- no stop is free
abbrev pub Never : ℕ → State → Type 0
Never n l = ⊥

-- every stop but 40 is kept
abbrev pub NotForty : ℕ → State → Type 0
NotForty n l = 41 ≤ n

pub keeps_others : (n : ℕ) (l : State) → 41 ≤ n → NotForty n l
keeps_others n l h = h

-- the same of two calls that rewrite
pub data Ends (R : State → State → Type 0) (Free Kept : ℕ → State → Type 0) : Called → Called → Type 0 where
  both : {s : Words} {k : ℕ} {l m : State} → R l m → Ends R Free Kept (M.called s k done l) (M.called s k done m)
  stopped_both : {s : Words} {k n : ℕ} {l m : State} → Kept n l → R l m → Ends R Free Kept (M.called s k (stopped n) l) (M.called s k (stopped n) m)
  stopped_free : {s : Words} {k n : ℕ} {l : State} {c : Called} → Free n l → Ends R Free Kept (M.called s k (stopped n) l) c
  cannot : {s : Words} {k : ℕ} {l : State} {c : Called} → Ends R Free Kept (M.called s k cannot_go_on l) c

-- what is asked of the relation where attempts are spent: in the second state no fewer are left, and spending one respects it
pub record Respects (R : State → State → Type 0) (Free Kept : ℕ → State → Type 0) : Type 0 where
  pub less : (l m : State) → R l m → l.attempts ≤ m.attempts
  pub spends : (l m : State) → R l m → Related R Free Kept (spend l) (spend m)

-- what is asked everywhere: a stop from 41 on is kept
module _ (R : State → State → Type 0) (Free Kept : ℕ → State → Type 0) (keeps : (k : ℕ) (l : State) → 41 ≤ k → Kept k l) where
  abbrev Rel : {A : Type 0} → Result A → Result A → Type 0
  Rel x y = Related R Free Kept x y

  abbrev EndsRel : Called → Called → Type 0
  EndsRel c d = Ends R Free Kept c d

  -- one after the other
  and_then : {A B : Type 0} {x y : Result A} {j k : A → Comp B} → Rel x y → ((a : A) (l m : State) → R l m → Rel (j a l) (k a m)) → Rel (then_of x j) (then_of y k)
  unfolding then_of
  and_then (goes {a} {l} {m} r) f = f a l m r
  and_then (stops k r) f = stops k r
  and_then (free h) f = free h
  and_then sticks f = sticks

  unless : (k : ℕ) (b : Bool) {n m : State} → R n m → 41 ≤ k → Rel (stop_unless k b n) (stop_unless k b m)
  unfolding stop_unless
  unless k true r h = goes r
  unless k false {n} r h = stops (keeps k n h) r

  sure : (b : Bool) {n m : State} → R n m → Rel (surely b n) (surely b m)
  unfolding surely
  sure true r = goes r
  sure false r = sticks

  checks : (strict b : Bool) {n m : State} → R n m → Rel (check strict b n) (check strict b m)
  unfolding check
  checks true b r = sure b r
  checks false b r = goes r

  there : {A : Type 0} (o : Option A) {n m : State} → R n m → Rel (present o n) (present o m)
  unfolding present
  there none r = sticks
  there (some a) r = goes r

  chooses : {A : Type 0} {j j' k k' : Comp A} (b : Bool) {n m : State} → R n m → ((l o : State) → R l o → Rel (j l) (j' o)) → ((l o : State) → R l o → Rel (k l) (k' o)) → Rel (choose b j k n) (choose b j' k' m)
  unfolding choose
  chooses true {n} {m} r f h = f n m r
  chooses false {n} {m} r f h = h n m r

  whichever : {A B : Type 0} {j j' : A → Comp B} {k k' : Comp B} (o : Option A) {n m : State} → R n m → ((a : A) (l p : State) → R l p → Rel (j a l) (j' a p)) → ((l p : State) → R l p → Rel (k l) (k' p)) → Rel (whether o j k n) (whether o j' k' m)
  unfolding whether
  whichever (some a) {n} {m} r f h = f a n m r
  whichever none {n} {m} r f h = h n m r

  -- LIMITS AND VARIABLES

  pub nodes : (k : ℕ) {n m : State} → R n m → Rel (nodes_within k n) (nodes_within k m)
  unfolding nodes_within
  nodes k r = unless 42 (leb k most_nodes) r (omega arith)

  pub nests : (g : Grammar) (ws : Words) {n m : State} → R n m → Rel (nesting_within g ws n) (nesting_within g ws m)
  unfolding nesting_within
  nests g ws r = unless 43 (leb (nesting g ws) most_nesting) r (omega arith)

  lives : (k : ℕ) {n m : State} → R n m → Rel (live_within k n) (live_within k m)
  unfolding live_within
  lives k r = unless 44 (leb k most_live) r (omega arith)

  variable_related : (env : Env) (x : ℕ) {n m : State} → R n m → Rel (variable env x n) (variable env x m)
  unfolding variable
  variable_related env x r = there (get_elem? env x) r

  variables_related : (env : Env) (xs : List ℕ) {n m : State} → R n m → Rel (variables env xs n) (variables env xs m)
  unfolding variables
  variables_related env [] r = goes r
  variables_related env (x ∷ xs) r =
      and_then (variable_related env x r) λ t l m r.
      and_then (variables_related env xs r) λ ts l m r.
      goes r

  -- OPERATIONS

  ranges : (k : ℕ) {n m : State} → R n m → Rel (in_range k n) (in_range k m)
  unfolding in_range
  ranges k r =
      and_then (unless 45 (leb k greatest_number) r (omega arith)) λ u l m r.
      goes r

  guarded : (b : Bool) (k : ℕ) {n m : State} → R n m → Rel (then_of (stop_unless 45 b n) (λ u. in_range k)) (then_of (stop_unless 45 b m) (λ u. in_range k))
  guarded b k r = and_then (unless 45 b r (omega arith)) λ u l m r. ranges k r

  with_one_lem : {A : Type 0} {f : ℕ → Comp A} (bs : List ℕ) {n m : State} → R n m → ((b : ℕ) (l o : State) → R l o → Rel (f b l) (f b o)) → Rel (with_one bs f n) (with_one bs f m)
  unfolding with_one
  with_one_lem [] r h = sticks
  with_one_lem (b ∷ []) {n} {m} r h = h b n m r
  with_one_lem (b ∷ c ∷ bs) r h = sticks

  with_none_lem : {A : Type 0} {f : Comp A} (bs : List ℕ) {n m : State} → R n m → ((l o : State) → R l o → Rel (f l) (f o)) → Rel (with_none bs f n) (with_none bs f m)
  unfolding with_none
  with_none_lem [] {n} {m} r h = h n m r
  with_none_lem (b ∷ bs) r h = sticks

  compute_related : (o : Operation) (a : ℕ) (bs : List ℕ) {n m : State} → R n m → Rel (compute o a bs n) (compute o a bs m)
  unfolding compute divisor
  compute_related add a bs r = with_one_lem bs r (λ b l m r. ranges (a + b) r)
  compute_related subtract a bs r = with_one_lem bs r (λ b l m r. guarded (leb b a) (a - b) r)
  compute_related quotient a bs r = with_one_lem bs r (λ b l m r. guarded (not (eqb b 0)) (a / b * 100) r)
  compute_related remainder a bs r = with_one_lem bs r (λ b l m r. guarded (not (eqb b 0)) (a - b * (a / b)) r)
  compute_related round a bs r = with_none_lem bs r (λ l m r. ranges (rounded a) r)
  compute_related truncate a bs r = with_none_lem bs r (λ l m r. ranges (truncated a) r)
  compute_related equal a bs r = sticks
  compute_related greater a bs r = sticks

  compare_related : (o : Operation) (a : ℕ) (bs : List ℕ) {n m : State} → R n m → Rel (compare o a bs n) (compare o a bs m)
  unfolding compare
  compare_related equal a bs r = with_one_lem bs r (λ b l m r. goes r)
  compare_related greater a bs r = with_one_lem bs r (λ b l m r. goes r)
  compare_related add a bs r = sticks
  compare_related subtract a bs r = sticks
  compare_related quotient a bs r = sticks
  compare_related remainder a bs r = sticks
  compare_related round a bs r = sticks
  compare_related truncate a bs r = sticks

  result_related : {c d : Called} → EndsRel c d → Rel (result_of c) (result_of d)
  unfolding result_of result_as
  result_related (both r) = goes r
  result_related (stopped_both k r) = stops k r
  result_related (stopped_free h) = free h
  result_related cannot = sticks

  opened_related : {x y : Result (Unit {0})} (scope : Words) (rest rest' : State → Called) → Rel x y → ((l m : State) → R l m → EndsRel (rest l) (rest' m)) → EndsRel (opened scope rest x) (opened scope rest' y)
  unfolding opened
  opened_related scope rest rest' (goes {l = l} {m} r) f = f l m r
  opened_related scope rest rest' (stops k r) f = stopped_both k r
  opened_related scope rest rest' (free h) f = stopped_free h
  opened_related scope rest rest' sticks f = cannot

  after_related : {x y : Result (Option Turned)} (scope : Words) (k : ℕ) (s : Strategy) (rest rest' : Words → ℕ → State → Called) → Rel x y
      → ((next : Words) (place : ℕ) (l m : State) → R l m → EndsRel (rest next place l) (rest' next place m))
      → EndsRel (after_round scope k s rest x) (after_round scope k s rest' y)
  unfolding after_round
  after_related scope k s rest rest' (goes {a = none} r) f = both r
  after_related scope k exhaustive rest rest' (goes {a = some t} {l} {m} r) f = f t.scope 0 l m r
  after_related scope k one_pass rest rest' (goes {a = some t} {l} {m} r) f = f t.scope t.behind l m r
  after_related scope k first_match rest rest' (goes {a = some t} r) f = both r
  after_related scope k root_only rest rest' (goes {a = some t} r) f = both r
  after_related scope k s rest rest' (stops i r) f = stopped_both i r
  after_related scope k s rest rest' (free h) f = stopped_free h
  after_related scope k s rest rest' sticks f = cannot

  module _ (strict : Bool) (g : Grammar) where
    bind_related : (t : ℕ) (ws : Words) (b : Bindings) {n m : State} → R n m → Rel (bind strict g t ws b n) (bind strict g t ws b m)
    unfolding bind
    bind_related t ws b r =
        and_then (sure (ltb (length b.env) most_variables) r) λ u l m r.
        and_then (checks strict (is_tree g t ws) r) λ u l m r.
        goes r

    pub match_related : (ps : List Shape) (ws : Words) (b : Bindings) {n m : State} → R n m → Rel (match strict g ps ws b n) (match strict g ps ws b m)
    unfolding match
    match_related [] ws b r = goes r
    match_related (p ∷ ps) [] b r = goes r
    match_related (p ∷ ps) (t ∷ []) b r = goes r
    match_related (node u w ∷ ps) (t ∷ v ∷ ws) b r = chooses (and (eqb t u) (eqb v w)) r (λ l m r. match_related ps ws b r) (λ l m r. goes r)
    match_related (new u ∷ ps) (t ∷ v ∷ ws) b r =
        chooses (eqb t u) r
        (λ l m r.
        and_then (lives (live b + size (first_tree g (t ∷ v ∷ ws))) r) λ a l m r.
        and_then (bind_related u (first_tree g (t ∷ v ∷ ws)) b r) λ c l m r.
        match_related ps (after g (t ∷ v ∷ ws) 1) c r)
        (λ l m r. goes r)
    match_related (same x ∷ ps) (t ∷ v ∷ ws) b r =
        and_then (variable_related b.env x r) λ tree l m r.
        chooses (same_tree g tree (first_tree g (t ∷ v ∷ ws))) r (λ l m r. match_related ps (after g (t ∷ v ∷ ws) 1) b r) (λ l m r. goes r)

    match_first_related : (u : ℕ) (ps : List Shape) (ws : Words) (b : Bindings) {n m : State} → R n m → Rel (match_first strict g u ps ws b n) (match_first strict g u ps ws b m)
    unfolding match_first
    match_first_related u ps [] b r = goes r
    match_first_related u ps (t ∷ []) b r = goes r
    match_first_related u ps (t ∷ v ∷ ws) b r =
        and_then (chooses (eqb t u) r (λ l m r. match_related ps (t ∷ v ∷ ws) b r) (λ l m r. goes r)) λ o l m r.
        whichever o r (λ c l m r. goes r) (λ l m r. match_first_related u ps ws b r)

    pub begin_related : (rl : Rule) (args : Env) (scope : Words) (besides : ℕ) {n m : State} → R n m → Rel (begin strict g rl args scope besides n) (begin strict g rl args scope besides m)
    unfolding begin
    begin_related rl args scope besides r =
        and_then (sure (eqb (length args) (length rl.parameters)) r) λ u l m r.
        and_then (checks strict (fits g rl args scope) r) λ u l m r.
        lives (live (start args scope besides)) r

  -- the calls one level deeper
  pub record Deeper (deeper deeper' : Calls) : Type 0 where
    pub rewrites : (rl : Rule) (args : Env) (scope : Words) (besides : ℕ) {n m : State} → R n m → Rel (deeper.rewrites rl args scope besides n) (deeper'.rewrites rl args scope besides m)
    pub matches : (rl : Rule) (args : Env) (scope : Words) (besides : ℕ) {n m : State} → R n m → Rel (deeper.matches rl args scope besides n) (deeper'.matches rl args scope besides m)

  module _ (strict : Bool) (g : Grammar) (rules : Rules) (deeper deeper' : Calls) where
    -- the deeper calls are related, if a test says that any are made
    abbrev If : Bool → Type 0
    If b = b ≡ true → Deeper deeper deeper'

    if_first : (a b : Bool) → If (or a b) → If a
    if_first a b below e = below (rw e)

    if_second : (a b : Bool) → If (or a b) → If b
    if_second a b below e = below (rw e (or_true a))

    apply_related : (p : Applied) → If (is_rule p) → (args : List Words) (scope : Words) (besides under : ℕ) {n m : State} → R n m → Rel (apply strict g rules deeper p args scope besides under n) (apply strict g rules deeper' p args scope besides under m)
    unfolding apply edit is_rule
    apply_related (rule k) below args scope besides under r =
        and_then (there (get_elem? rules k) r) λ rl l m r.
        (below refl).rewrites rl args scope besides r
    apply_related (operation o) below args scope besides under r =
        and_then (checks strict (and (is_number_token g scope) (are_number_tokens g args)) r) λ u l m r.
        and_then (compute_related o (value_of scope) (values_of args) r) λ k l m r.
        goes r
    apply_related (editing o) below args scope besides under r =
        and_then (checks strict (edit_fits g o scope args) r) λ u l m r.
        and_then (there (edited g o scope args) r) λ w l m r.
        and_then (nodes (under + size w) r) λ u l m r.
        and_then (checks strict (are_trees g w (type_of scope ∷ [])) r) λ u l m r.
        and_then (nests g w r) λ u l m r.
        and_then (lives (besides + size w) r) λ u l m r.
        goes r
    apply_related nothing below args scope besides under r = sticks

    chain_related : (apps : List Application) → If (calls_rule apps) → (env : Env) (scope : Words) (besides under : ℕ) {n m : State} → R n m → Rel (apply_chain strict g rules deeper apps env scope besides under n) (apply_chain strict g rules deeper' apps env scope besides under m)
    unfolding apply_chain calls_rule
    chain_related [] below env scope besides under r = goes r
    chain_related (a ∷ more) below env scope besides under r =
        and_then (variables_related env a.arguments r) λ args l m r.
        and_then (apply_related a.applied (if_first (is_rule a.applied) (calls_rule more) below) args scope besides under r) λ next l m r.
        chain_related more (if_second (is_rule a.applied) (calls_rule more) below) env next besides under r

    fill_related : (ps : List Piece) → If (applies_rules ps) → (env : Env) (besides k : ℕ) {n m : State} → R n m → Rel (fill strict g rules deeper ps env besides k n) (fill strict g rules deeper' ps env besides k m)
    unfolding fill applies_rules
    fill_related [] below env besides k r = goes r
    fill_related (write t v ∷ ps) below env besides k r =
        and_then (nodes (k + 1) r) λ u l m r.
        and_then (lives (besides + k + 1) r) λ u l m r.
        and_then (fill_related ps below env besides (k + 1) r) λ ws l m r.
        goes r
    fill_related (copy x ∷ ps) below env besides k r =
        and_then (variable_related env x r) λ t l m r.
        and_then (nodes (k + size t) r) λ u l m r.
        and_then (lives (besides + k + size t) r) λ u l m r.
        and_then (fill_related ps below env besides (k + size t) r) λ ws l m r.
        goes r
    fill_related (chain x apps ∷ ps) below env besides k r =
        and_then (variable_related env x r) λ t l m r.
        and_then (lives (besides + k + size t) r) λ u l m r.
        and_then (chain_related apps (if_first (calls_rule apps) (applies_rules ps) below) env t (besides + k) k r) λ v l m r.
        and_then (nodes (k + size v) r) λ u l m r.
        and_then (fill_related ps (if_second (calls_rule apps) (applies_rules ps) below) env besides (k + size v) r) λ ws l m r.
        goes r

    pub finish_related : (t : ℕ) (ps : List Piece) → If (applies_rules ps) → (b : Bindings) {n m : State} → R n m → Rel (finish strict g rules deeper t ps b n) (finish strict g rules deeper' t ps b m)
    unfolding finish
    finish_related t ps below b r =
        and_then (fill_related ps below b.env (live b) 0 r) λ ws l m r.
        and_then (checks strict (are_trees g ws (t ∷ [])) r) λ u l m r.
        and_then (nests g ws r) λ u l m r.
        goes r

    replace_related : (target : ℕ) (ps : List Piece) → If (applies_rules ps) → (scope : Words) (f : Found) {n m : State} → R n m → Rel (replace strict g rules deeper target ps scope f n) (replace strict g rules deeper' target ps scope f m)
    unfolding replace
    replace_related target ps below scope f r =
        and_then (finish_related target ps below f.bound r) λ ws l m r.
        and_then (checks strict (and (is_tree g target (first_tree g (drop f.place scope))) (is_tree g target ws)) r) λ u l m r.
        and_then (nodes (size (put g scope f.place ws)) r) λ u l m r.
        and_then (nests g (put g scope f.place ws) r) λ u l m r.
        and_then (checks strict (is_tree g (type_of scope) (put g scope f.place ws)) r) λ u l m r.
        goes r

  -- CALLS, IN WHICH ATTEMPTS ARE SPENT

  module _ (respects : Respects R Free Kept) where
    module _ (strict : Bool) (g : Grammar) (rules : Rules) (deeper deeper' : Calls) (below : Deeper deeper deeper') where
      succeeds_related : (p : Applied) (args : List Words) (scope : Words) (besides : ℕ) {n m : State} → R n m → Rel (succeeds strict g rules deeper p args scope besides n) (succeeds strict g rules deeper' p args scope besides m)
      unfolding succeeds
      succeeds_related (rule k) args scope besides r =
          and_then (there (get_elem? rules k) r) λ rl l m r.
          below.matches rl args scope besides r
      succeeds_related (operation o) args scope besides r =
          and_then (checks strict (and (is_number_token g scope) (are_number_tokens g args)) r) λ u l m r.
          compare_related o (value_of scope) (values_of args) r
      succeeds_related (editing o) args scope besides r = sticks
      succeeds_related nothing args scope besides r = sticks

      any_related : (apps : List Application) (env : Env) (scope : Words) (besides : ℕ) {n m : State} → R n m → Rel (any_succeeds strict g rules deeper apps env scope besides n) (any_succeeds strict g rules deeper' apps env scope besides m)
      unfolding any_succeeds
      any_related [] env scope besides r = goes r
      any_related (a ∷ more) env scope besides r =
          and_then (variables_related env a.arguments r) λ args l m r.
          and_then (succeeds_related a.applied args scope besides r) λ b l m r.
          chooses b r (λ l m r. goes r) (λ l m r. any_related more env scope besides r)

      part_related : (p : Part) (b : Bindings) {n m : State} → R n m → Rel (part strict g rules deeper p b n) (part strict g rules deeper' p b m)
      unfolding part
      part_related (deconstruct x ps) b r =
          and_then (variable_related b.env x r) λ t l m r.
          match_related strict g ps t b r
      part_related (search u x ps) b r =
          and_then (variable_related b.env x r) λ t l m r.
          match_first_related strict g u ps t b r
      part_related (construct u ps) b r =
          and_then (finish_related strict g rules deeper deeper' u ps (λ e. below) b r) λ t l m r.
          and_then (bind_related strict g u t b r) λ c l m r.
          goes r
      part_related (condition negated x apps) b r =
          and_then (variable_related b.env x r) λ t l m r.
          and_then (lives (live b + size t) r) λ u l m r.
          and_then (any_related apps b.env t (live b) r) λ found l m r.
          chooses (pick negated (not found) found) r (λ l m r. goes r) (λ l m r. goes r)

      parts_related : (ps : List Part) (b : Bindings) {n m : State} → R n m → Rel (parts strict g rules deeper ps b n) (parts strict g rules deeper' ps b m)
      unfolding parts
      parts_related [] b r = goes r
      parts_related (p ∷ ps) b r =
          and_then (part_related p b r) λ o l m r.
          whichever o r (λ c l m r. parts_related ps c r) (λ l m r. goes r)

      attempt_related : (rl : Rule) (ws : Words) (b : Bindings) {n m : State} → R n m → Rel (attempt strict g rules deeper rl ws b n) (attempt strict g rules deeper' rl ws b m)
      unfolding attempt
      attempt_related rl ws b r =
          and_then (respects.spends _ _ r) λ u l m r.
          and_then (match_related strict g rl.pattern ws b r) λ o l m r.
          whichever o r (λ c l m r. parts_related rl.parts c r) (λ l m r. goes r)

      pub seek_related : (rl : Rule) (ws : Words) (place : ℕ) (b : Bindings) {n m : State} → R n m → Rel (seek strict g rules deeper rl ws place b n) (seek strict g rules deeper' rl ws place b m)
      unfolding seek
      seek_related rl [] place b r = goes r
      seek_related rl (t ∷ []) place b r = goes r
      seek_related rl (t ∷ v ∷ ws) place b r =
          and_then (chooses (eqb t rl.target) r (λ l m r. attempt_related rl (t ∷ v ∷ ws) b r) (λ l m r. goes r)) λ o l m r.
          whichever o r (λ c l m r. goes r) (λ l m r. chooses (searches rl.strategy) r (λ l m r. seek_related rl ws (place + 2) b r) (λ l m r. goes r))

      turn_related : (rl : Rule) (ps : List Piece) (args : Env) (scope : Words) (place besides : ℕ) {n m : State} → R n m
          → Rel (turn strict g rules deeper rl ps args scope place besides n) (turn strict g rules deeper' rl ps args scope place besides m)
      unfolding turn
      turn_related rl ps args scope place besides r =
          and_then (seek_related rl (drop place scope) place (start args scope besides) r) λ o l m r.
          whichever o r
          (λ f l m r.
          and_then (replace_related strict g rules deeper deeper' rl.target ps (λ e. below) scope f r) λ ws l m r.
          goes r)
          (λ l m r. goes r)

      -- more rounds than are needed change nothing
      rounds_related : (most most' : ℕ) (h : most ≤ most') (rl : Rule) (ps : List Piece) (args : Env) (scope : Words) (place besides k : ℕ) {n m : State} → R n m
          → EndsRel (M.rounds strict g rules deeper most rl ps args scope place besides k n) (M.rounds strict g rules deeper' most' rl ps args scope place besides k m)
      unfolding M.rounds
      rounds_related zero most' h rl ps args scope place besides k r = cannot
      rounds_related (suc most) zero h rl ps args scope place besides k r = absurd (omega arith)
      rounds_related (suc most) (suc most') h rl ps args scope place besides k r =
          after_related scope k rl.strategy _ _ (turn_related rl ps args scope place besides r) (λ next from l m r. rounds_related most most' (omega arith) rl ps args next from besides (suc k) r)

      call_with_related : (o : Option (List Piece)) (rl : Rule) (args : Env) (scope : Words) (besides : ℕ) {n m : State} → R n m
          → EndsRel (call_with strict g rules deeper o rl args scope besides n) (call_with strict g rules deeper' o rl args scope besides m)
      unfolding call_with
      call_with_related none rl args scope besides r = cannot
      call_with_related (some ps) rl args scope besides r =
          opened_related scope _ _ (begin_related strict g rl args scope besides r) (λ l o r. rounds_related (suc l.attempts) (suc o.attempts) (omega (arith, respects.less _ _ r)) rl ps args scope 0 besides 0 r)

      call_related : (rl : Rule) (args : Env) (scope : Words) (besides : ℕ) {n m : State} → R n m → EndsRel (call strict g rules deeper rl args scope besides n) (call strict g rules deeper' rl args scope besides m)
      unfolding call
      call_related rl args scope besides r = call_with_related rl.replacement rl args scope besides r

      call_matches_related : (rl : Rule) (args : Env) (scope : Words) (besides : ℕ) {n m : State} → R n m → Rel (call_matches strict g rules deeper rl args scope besides n) (call_matches strict g rules deeper' rl args scope besides m)
      unfolding call_matches
      call_matches_related rl args scope besides r =
          and_then (begin_related strict g rl args scope besides r) λ u l m r.
          and_then (seek_related rl scope 0 (start args scope besides) r) λ o l m r.
          whichever o r (λ f l m r. goes r) (λ l m r. goes r)

    pub calls_related : (strict : Bool) (g : Grammar) (rules : Rules) (depth : ℕ) → Deeper (calls strict g rules depth) (calls strict g rules depth)
    unfolding calls
    calls_related strict g rules zero = record { rewrites = λ rl args scope besides r. stops (keeps 41 _ (omega arith)) r; matches = λ rl args scope besides r. stops (keeps 41 _ (omega arith)) r }
    calls_related strict g rules (suc depth) =
        let below = calls_related strict g rules depth in
        record {
          rewrites = λ rl args scope besides r. result_related (call_related strict g rules (calls strict g rules depth) (calls strict g rules depth) below rl args scope besides r);
          matches = λ rl args scope besides r. call_matches_related strict g rules (calls strict g rules depth) (calls strict g rules depth) below rl args scope besides r;
        }

    run_from_related : (strict : Bool) (g : Grammar) (rules : Rules) (o : Option Rule) (tree : Words) {n m : State} → R n m → EndsRel (M.run_from strict g rules o tree n) (M.run_from strict g rules o tree m)
    unfolding M.run_from
    run_from_related strict g rules none tree r = cannot
    run_from_related strict g rules (some rl) tree r = call_related strict g rules (calls strict g rules (most_calls - 1)) (calls strict g rules (most_calls - 1)) (calls_related strict g rules (most_calls - 1)) rl [] tree 0 r

    pub run_related : (strict : Bool) (g : Grammar) (rules : Rules) (tree : Words) (n m : ℕ) → R (initial n) (initial m)
        → EndsRel (M.run strict g rules tree n) (M.run strict g rules tree m)
    unfolding M.run
    run_related strict g rules tree n m r = run_from_related strict g rules (get_elem? rules 0) tree r

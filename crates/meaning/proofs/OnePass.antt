-- WHAT A ONE-PASS RULE COSTS: one that has no parts and applies no rules spends an attempt only at nodes of its target type that stood in the tree, and at each
-- at most once. Assumes nothing.
use Prim.Native.Nat.{ℕ, zero, suc, ◌+◌, ◌-◌, ◌≤◌, ◌<◌}
use mathlib.Core.Path.{◌≡◌, refl, sym, ap, ◌∙◌}
use mathlib.Core.List.{List, [], ◌∷◌, ◌++◌}
use mathlib.Core.Bool.{Bool, true, false}
use mathlib.Core.Option.{Option, none, some}
use native.Mathlib.Omega.{arith}
use native.Mathlib.Nat.{le_refl}
use lib.ListN.{length, take, drop, length-drop}
use lib.Seq.{length-take-le, drop-drop, drop_at}
use lib.Dec.{eqb}
use Rattle.words.specs.Reader.{Words, and}
use Rattle.words.proofs.Laws.{and_both}
use Rattle.grammar.specs.Grammar.{Grammar}
use Rattle.grammar.specs.Kinds.{children}
use Rattle.tree.specs.Tree.{Trees, size, is_tree, after, first_tree, type_of, put}
use Rattle.tree.proofs.Trees.{first_append, passes_tree}
use Rattle.rules.specs.Rules.{Piece, Strategy, one_pass, searches, Rule, Rules}
use Rattle.meaning.specs.Limits.{most_calls}
use Rattle.meaning.specs.declared.State.{State}
use Rattle.meaning.specs.Computation.{initial, Result, ok, stop, stuck, Comp, then_of, spend_of, spend, surely, check, choose, whether}
use Rattle.meaning.specs.Meaning as M
use Rattle.meaning.specs.Meaning.{Env, Bindings, start, Found, Ending, done, stopped, cannot_go_on, Called, result_as, result_of, opened, Turned, after_round, Calls, parts, attempt, seek, replace, turn, call_with, call, calls, run_from, run}
use Rattle.meaning.specs.Outcome.{ended_as, ended, outcome_of, outcome}
use Rattle.meaning.specs.Sound.{WellEnded}
use Rattle.meaning.specs.OnePass.{nodes_of, applies_rules, PassesAlone, OnePassBound}
use Rattle.meaning.proofs.Safe.{Maybe}
use Rattle.meaning.proofs.Numbers.{false_not}
use Rattle.meaning.proofs.Related as R
use Rattle.meaning.proofs.Related.{Related, Never, NotForty, keeps_others}
use Rattle.meaning.proofs.FromWords.{read_all, read_sound}

-- WORDS

-- what follows the first trees of the words has no more nodes of a type than the words
nodes_after : (t : ℕ) (g : Grammar) (ws : Words) (k : ℕ) → nodes_of t (after g ws k) ≤ nodes_of t ws
unfolding nodes_of after
nodes_after t g [] k = le_refl 0
nodes_after t g (u ∷ []) k = le_refl 0
nodes_after t g (u ∷ v ∷ ws) zero = le_refl (nodes_of t (u ∷ v ∷ ws))
nodes_after t g (u ∷ v ∷ ws) (suc k) = omega (arith, nodes_after t g ws (length (children g u v) + k))

-- a node further
drop_node : (place t v : ℕ) (scope ws : Words) → drop place scope ≡ t ∷ v ∷ ws → (place ≤ length scope) × (drop (place + 2) scope ≡ ws)
drop_node place t v scope ws e = (omega (arith, length-drop place scope, ap length e), sym (drop-drop 2 place scope) ∙ ap (drop 2) e)

-- behind a tree put in place stands what stood behind the tree in whose place it is
put_behind : {g : Grammar} {t : ℕ} (scope : Words) (place : ℕ) (ws : Words) → place ≤ length scope → Trees g (t ∷ []) ws
    → drop (place + length (first_tree g (drop place (put g scope place ws)))) (put g scope place ws) ≡ after g (drop place scope) 1
unfolding put
put_behind {g} scope place ws h tree =
    let rest = after g (drop place scope) 1 in
    let d : drop place (take place scope ++ (ws ++ rest)) ≡ ws ++ rest = drop_at (take place scope) (ws ++ rest) place (length-take-le place scope h) in
    rw (d, first_append tree rest, ← drop-drop (length ws) place (take place scope ++ (ws ++ rest)), d) (drop_at ws rest (length ws) refl)

-- WHAT A COMPUTATION COSTS, from a state n and with so many nodes still to be tried: what it gives leaves m of them, and each attempt went to one of the others.
-- Stopped by 40, it had fewer attempts than nodes
data Costs {A : Type 0} (P : A → ℕ → Type 0) (most : ℕ) (n : State) : Result A → Type 0 where
  goes : {a : A} {l : State} (m : ℕ) → P a m → n.attempts + m ≤ l.attempts + most → Costs P most n (ok a l)
  stops : {k : ℕ} {l : State} → n.attempts ≤ l.attempts + most → (k ≡ 40 → n.attempts < most) → Costs P most n (stop k l)
  sticks : Costs P most n stuck

-- what was paid before is added
paid : {A : Type 0} {P : A → ℕ → Type 0} {most m : ℕ} {n l : State} {x : Result A} → n.attempts + m ≤ l.attempts + most → Costs P m l x → Costs P most n x
paid h (goes {l = o} k p i) = goes {l = o} k p (omega (arith, h, i))
paid h (stops {k = k} {l = o} i f) = stops {k = k} {l = o} (omega (arith, h, i)) (λ e. omega (arith, h, f e))
paid h sticks = sticks

returns : {A : Type 0} {P : A → ℕ → Type 0} {most : ℕ} {n : State} {a : A} → P a most → Costs P most n (ok a n)
returns {most = most} {n} p = goes most p (le_refl (n.attempts + most))

-- one after the other
and_then : {A B : Type 0} {P : A → ℕ → Type 0} {Q : B → ℕ → Type 0} {most : ℕ} {n : State} {x : Result A} {k : A → Comp B}
    → Costs P most n x → ((a : A) (m : ℕ) (l : State) → P a m → Costs Q m l (k a l)) → Costs Q most n (then_of x k)
unfolding then_of
and_then (goes {a} {l} m p h) f = paid h (f a m l p)
and_then (stops h e) f = stops h e
and_then sticks f = sticks

choose_costs : {A : Type 0} {P : A → ℕ → Type 0} {most : ℕ} {n : State} {j k : Comp A} (b : Bool)
    → ((l : State) → b ≡ true → Costs P most l (j l)) → ((l : State) → b ≡ false → Costs P most l (k l)) → Costs P most n (choose b j k n)
unfolding choose
choose_costs {n = n} true f h = f n refl
choose_costs {n = n} false f h = h n refl

whether_costs : {A B : Type 0} {P : B → ℕ → Type 0} {most : ℕ} {n : State} {j : A → Comp B} {k : Comp B} (o : Option A)
    → ((a : A) (l : State) → o ≡ some a → Costs P most l (j a l)) → ((l : State) → Costs P most l (k l)) → Costs P most n (whether o j k n)
unfolding whether
whether_costs {n = n} (some a) f h = f a n refl
whether_costs {n = n} none f h = h n

-- the strict test passed, if the rest is reached
checked : {A : Type 0} {P : A → ℕ → Type 0} {most : ℕ} {n : State} {k : Comp A} (b : Bool) → ((l : State) → b ≡ true → Costs P most l (k l)) → Costs P most n (then_of (check true b n) (λ u. k))
unfolding check surely then_of
checked {n = n} true f = f n refl
checked false f = sticks

spend_of_costs : (m a : ℕ) (n : State) → n.attempts ≡ a → Costs (λ u k. k ≡ m) (1 + m) n (spend_of a n)
unfolding spend_of
spend_of_costs m zero n e = stops {k = 40} {l = n} (omega arith) (λ q. omega (arith, e))
spend_of_costs m (suc a) n e = goes {l = record { attempts = a }} m refl (omega (arith, e))

-- an attempt takes a node
spend_costs : (m : ℕ) (n : State) → Costs (λ u k. k ≡ m) (1 + m) n (spend n)
unfolding spend
spend_costs m n = spend_of_costs m n.attempts n refl

-- WHAT SPENDS NOTHING

abbrev Stays : State → State → State → Type 0
Stays n l m = (l ≡ n) × (m ≡ n)

-- it leaves the state as it was, stops by no 40, and so costs nothing
free : {A : Type 0} {x y : Result A} {most : ℕ} {n : State} → Related (Stays n) Never NotForty x y → Costs (λ a m. m ≡ most) most n x
free (R.goes e) = rw e.0 (returns refl)
free {n = n} (R.stops {n = k} h e) = rw e.0 (stops {k = k} {l = n} (omega arith) (λ q. absurd (omega (arith, h, q))))
free (R.free h) = absurd h
free R.sticks = sticks

-- .. and the rest has as many nodes to try
freely : {A B : Type 0} {P : B → ℕ → Type 0} {most : ℕ} {n : State} {x y : Result A} {k : A → Comp B}
    → Related (Stays n) Never NotForty x y → ((a : A) (l : State) → Costs P most l (k a l)) → Costs P most n (then_of x k)
freely r f = and_then (free r) λ a m l e. rw e (f a l)

-- THE SEARCH

-- what is found: a node of the scope; still to be tried are those behind its tree
abbrev FoundIn : Grammar → ℕ → Words → Option Found → ℕ → Type 0
FoundIn g target scope o m = Maybe (λ f. (f.place ≤ length scope) × (m ≡ nodes_of target (after g (drop f.place scope) 1))) o

module _ (g : Grammar) (rules : Rules) (deeper : Calls) (r : Rule) (bare : r.parts ≡ []) where
  attempt_costs : (ws : Words) (b : Bindings) (m : ℕ) (n : State) → Costs (λ o k. k ≡ m) (1 + m) n (attempt true g rules deeper r ws b n)
  unfolding attempt parts
  attempt_costs ws b m n =
      and_then (spend_costs m n) λ u k l e.
      rw e
      (freely (R.match_related (Stays l) Never NotForty keeps_others true g r.pattern ws b (refl, refl)) λ o l.
      rw bare (whether_costs o (λ c l _. returns refl) (λ l. returns refl)))

  -- the first match from the words on, which stand in the scope from the place on: only nodes of the target type are tried
  seek_costs : (scope ws : Words) (place : ℕ) → drop place scope ≡ ws → (b : Bindings) (n : State)
      → Costs (FoundIn g r.target scope) (nodes_of r.target ws) n (seek true g rules deeper r ws place b n)
  unfolding seek nodes_of after
  seek_costs scope [] place e b n = returns tt
  seek_costs scope (t ∷ []) place e b n = returns tt
  seek_costs scope (t ∷ v ∷ ws) place e b n =
      let on = drop_node place t v scope ws e in
      let m = nodes_of r.target ws in
      and_then {P = λ o k. k ≡ m} (choose_costs (eqb t r.target) (λ l is. rw is (attempt_costs (t ∷ v ∷ ws) b m l)) (λ l is. rw is (goes {l = l} m refl (omega arith)))) λ o k l q.
      rw q
      (whether_costs o
      (λ c l _. goes {l = l} (nodes_of r.target (after g (t ∷ v ∷ ws) 1)) (on.0, rw e) (omega (arith, nodes_after r.target g ws (length (children g t v) + 0))))
      (λ l. choose_costs (searches r.strategy) (λ l _. seek_costs scope ws (place + 2) on.1 b l) (λ l _. returns tt)))

-- ONE ROUND

-- what a round leaves: still to be tried are the nodes behind the tree put in place
abbrev Leaves : ℕ → Option Turned → ℕ → Type 0
Leaves target o m = Maybe (λ t. m ≡ nodes_of target (drop t.behind t.scope)) o

-- the same of a call, by what it gives the call above
abbrev Ended : ℕ → State → Called → Type 0
Ended most n c = Costs (λ ws m. Unit {0}) most n (result_of c)

-- opening it costs nothing
opened_costs : {most : ℕ} {n : State} {x : Result (Unit {0})} (scope : Words) (rest : State → Called) → Costs (λ u m. m ≡ most) most n x → ((l : State) → Ended most l (rest l)) → Ended most n (opened scope rest x)
unfolding opened result_of result_as
opened_costs scope rest (goes {l = l} m e h) f = paid h (rw e (f l))
opened_costs scope rest (stops h e) f = stops h e
opened_costs scope rest sticks f = sticks

-- what a round leaves to be tried pays for the rest
round_costs : {most : ℕ} {n : State} {x : Result (Option Turned)} (target : ℕ) (scope : Words) (k : ℕ) (s : Strategy) (rest : Words → ℕ → State → Called) → s ≡ one_pass → Costs (Leaves target) most n x
    → ((next : Words) (place : ℕ) (l : State) → Ended (nodes_of target (drop place next)) l (rest next place l)) → Ended most n (after_round scope k s rest x)
unfolding after_round result_of result_as
round_costs target scope k s rest is (goes {a = none} m e h) f = goes m tt h
round_costs target scope k s rest is (goes {a = some t} {l} m e h) f = rw is (paid h (rw e (f t.scope t.behind l)))
round_costs target scope k s rest is (stops h e) f = stops h e
round_costs target scope k s rest is sticks f = sticks

module _ (g : Grammar) (rules : Rules) (deeper : Calls) (ps : List Piece) (alone : applies_rules ps ≡ false) where
  replace_costs : (target : ℕ) (scope : Words) (f : Found) → f.place ≤ length scope → (most : ℕ) (n : State)
      → Costs (λ ws m. (m ≡ most) × (drop (f.place + length (first_tree g (drop f.place ws))) ws ≡ after g (drop f.place scope) 1)) most n (replace true g rules deeper target ps scope f n)
  unfolding replace
  replace_costs target scope f h most n =
      freely (R.finish_related (Stays n) Never NotForty keeps_others true g rules deeper deeper target ps (λ e. false_not (sym alone ∙ e)) f.bound (refl, refl)) λ ws l.
      checked (and (is_tree g target (first_tree g (drop f.place scope))) (is_tree g target ws)) λ l q.
      let tree = passes_tree ws (and_both (is_tree g target (first_tree g (drop f.place scope))) (is_tree g target ws) q).1 in
      freely (R.nodes (Stays l) Never NotForty keeps_others (size (put g scope f.place ws)) (refl, refl)) λ u l.
      freely (R.nests (Stays l) Never NotForty keeps_others g (put g scope f.place ws) (refl, refl)) λ u l.
      checked (is_tree g (type_of scope) (put g scope f.place ws)) λ l _.
      returns (refl, put_behind scope f.place ws h tree.typed)

  module _ (r : Rule) (bare : r.parts ≡ []) (args : Env) (besides : ℕ) where
    turn_costs : (scope : Words) (place : ℕ) (n : State) → Costs (Leaves r.target) (nodes_of r.target (drop place scope)) n (turn true g rules deeper r ps args scope place besides n)
    unfolding turn
    turn_costs scope place n =
        and_then (seek_costs g rules deeper r bare scope (drop place scope) place refl (start args scope besides) n) λ o m l q.
        whether_costs o
        (λ f l e.
        let p : (f.place ≤ length scope) × (m ≡ nodes_of r.target (after g (drop f.place scope) 1)) = rw e at q in
        and_then (replace_costs r.target scope f p.0 m l) λ ws k l z.
        returns (z.0 ∙ p.1 ∙ ap (nodes_of r.target) (sym z.1)))
        (λ l. returns tt)

    rounds_costs : r.strategy ≡ one_pass → (most : ℕ) (scope : Words) (place k : ℕ) (n : State)
        → Ended (nodes_of r.target (drop place scope)) n (M.rounds true g rules deeper most r ps args scope place besides k n)
    unfolding M.rounds result_of result_as
    rounds_costs is zero scope place k n = sticks
    rounds_costs is (suc most) scope place k n =
        round_costs r.target scope k r.strategy (λ next from now. M.rounds true g rules deeper most r ps args next from besides (suc k) now) is (turn_costs scope place n) (λ next from l. rounds_costs is most next from (suc k) l)

-- THE RUN

module _ (g : Grammar) (rules : Rules) (deeper : Calls) (r : Rule) (passes : PassesAlone r) where
  call_costs : (args : Env) (scope : Words) (besides : ℕ) (n : State) → Ended (nodes_of r.target scope) n (call true g rules deeper r args scope besides n)
  unfolding call call_with result_of result_as
  call_costs args scope besides n = go r.replacement refl
    where
      go : (o : Option (List Piece)) → r.replacement ≡ o → Ended (nodes_of r.target scope) n (call_with true g rules deeper o r args scope besides n)
      go none e = sticks
      go (some ps) e =
          opened_costs scope _ (free (R.begin_related (Stays n) Never NotForty keeps_others true g r args scope besides (refl, refl)))
          (λ l. rounds_costs g rules deeper ps (passes.alone ps e) r passes.parts args besides passes.strategy (suc l.attempts) scope 0 0 l)

-- what the costs say of an ending
ending_costs : {P : Words → ℕ → Type 0} (most budget : ℕ) (c : Called) (e : Ending) → WellEnded e → Costs P most (initial budget) (result_as e c)
    → (budget - c.left.attempts ≤ most) × (most ≤ budget → e ≡ stopped 40 → ⊥)
unfolding result_as
ending_costs most budget c done w (goes m p h) = (omega (arith, h), λ i q. let z : ◌≡◌ {A = ℕ} 0 1 = cc in absurd (omega arith))
ending_costs most budget c (stopped k) w (stops h f) = (omega (arith, h), λ i q. let z : k ≡ 40 = cc in omega (arith, i, f z))
ending_costs most budget c cannot_go_on w x = absurd w

pub one_pass_bound : OnePassBound
unfolding run run_from outcome outcome_of ended_as result_of
one_pass_bound result work x d next r read first passes e attempts replacements ws is =
    let s = read_sound result work x d (read_all result work x d next read) in
    let c = run true d.grammar d.rules d.tree x.budget in
    let told : ended_as d.grammar x.budget c ≡ ended e attempts replacements ws = rw s.agree (rw read at is) in
    let same : c.ending ≡ e = cc in
    let few : x.budget - c.left.attempts ≡ attempts = cc in
    let costs : Ended (nodes_of r.target d.tree) (initial x.budget) c =
    rw first (call_costs d.grammar d.rules (calls true d.grammar d.rules (most_calls - 1)) r passes [] d.tree 0 (initial x.budget)) in
    rw (← same, ← few) (ending_costs (nodes_of r.target d.tree) x.budget c c.ending s.ends costs)

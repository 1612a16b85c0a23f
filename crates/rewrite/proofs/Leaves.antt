-- Laws of the stack of trees: how many nodes a tree on it has, what is pushed, the arguments that are gathered, and what an operation writes. Assumes nothing.
use Prim.Native.Nat.{ℕ, zero, suc, ◌+◌, ◌-◌, ◌*◌, ◌<◌, ◌≤◌}
use mathlib.Core.Path.{◌≡◌, refl, sym, ap, ap₂, ◌∙◌}
use mathlib.Core.List.{List, [], ◌∷◌, ◌++◌, append_assoc, append-nil}
use mathlib.Core.Option.{Option, none, some}
use native.Mathlib.Omega.{arith}
use native.Mathlib.Numerals.{add-one}
use lib.ListN.{length, get_or, take, drop, set, get_elem?, length-take, take-append-drop}
use lib.Seq.{sets-eq, drop-drop, get_or-drop, get_or-take}
use Rattle.words.specs.Reader.{Words}
use Rattle.grammar.specs.Grammar.{Grammar}
use Rattle.grammar.specs.Limits.{most_types}
use Rattle.tree.specs.Limits.{most_nodes}
use Rattle.tree.specs.Tree.{size}
use Rattle.tree.proofs.Trees.{trees_even, tree_some}
use Rattle.rules.specs.Rules.{arguments}
use Rattle.meaning.specs.declared.State.{State}
use Rattle.meaning.specs.Computation as Computation
use Rattle.meaning.specs.Computation.{ok, stop, stuck, then_of, present, return}
use Rattle.meaning.specs.Meaning.{Env, total, variable, variables}
use Rattle.std.specs.Prelude.{min}
use Rattle.marks.specs.Marked.{size_in, Stands}
use Rattle.marks.proofs.Same.{stands_size}
use Rattle.rewrite.specs.Vars.{Vars, EnvAt, starts_of, bound, start_at, Sound}
use Rattle.rewrite.specs.Arena.{NodesAt, Gathered}
use Rattle.rewrite.proofs.Matcher.{env_length, env_more, env_get, env_as, stands_as, total_more, starts_length, starts_more, sound_more, start_is}

-- THE NODES OF A TREE

-- a tree that stands below a place: its first word has its size, and it ends by the place
pub stands_below : (g : Grammar) (w : Words) (start top : ℕ) (ws : Words) → length g ≤ most_types → Stands g (take top w) start ws
    → (size_in (get_or w start 0) ≡ size ws) × (0 < size ws) × (start + 2 * size ws ≤ top)
stands_below g w start top ws l s =
    let e = trees_even s.tree.typed in
    let n = tree_some ws s.tree.typed in
    let k : start + 2 * size ws ≤ top = omega (arith, s.inside, length-take top w) in
    (stands_size g (take top w) start ws (get_or w start 0) l s (sym (get_or-take top w start 0 (omega arith))), n, k)

module _ (w : Words) (start top : ℕ) {n : ℕ} (en : n ≡ size_in (get_or w start 0)) where
  -- too many for a tree, or past the top
  pub nodes_none : (n ≤ most_nodes → start + 2 * n ≤ top → ⊥) → NodesAt w start top 0
  nodes_none h = record {
    small = omega arith;
    inside = λ z. absurd (omega arith);
    stands = λ g ws l s. let t = stands_below g w start top ws l s in absurd (rw (en ∙ t.0) at h s.tree.nodes t.2);
  }

  pub nodes_there : n ≤ most_nodes → start + 2 * n ≤ top → NodesAt w start top n
  nodes_there l h = record { small = l; inside = λ z. h; stands = λ g ws k s. en ∙ (stands_below g w start top ws k s).0 }

-- WHAT IS PUSHED

-- nothing
pub pushed_none : (w : Words) (start to n : ℕ) → n ≤ 0 → w ≡ take to w ++ (take (2 * n) (drop start w) ++ drop (to + 2 * n) w)
pushed_none w start to n h =
    let z : n ≡ 0 = omega arith in
    let y : to + 2 * 0 ≡ to = omega arith in
    rw (z, y) (sym (take-append-drop to w))

pub pushed_tree : (w w' : Words) (start to n : ℕ) → w' ≡ take to w ++ take (2 * n) (drop start w) ++ drop (to + 2 * n) w → w' ≡ take to w ++ (take (2 * n) (drop start w) ++ drop (to + 2 * n) w)
pushed_tree w w' start to n e = e ∙ append_assoc (take to w) (take (2 * n) (drop start w)) (drop (to + 2 * n) w)

pub pushed_node : (w : Words) (to t v : ℕ) → to + 2 ≤ length w → set (set w to t) (to + 1) v ≡ take to w ++ (t ∷ v ∷ drop (to + 2) w)
pushed_node w to t v h = rw (add-one to) (sets-eq (t ∷ v ∷ []) w to h ∙ append_assoc (take to w) (t ∷ v ∷ []) (drop (to + 2) w))

-- THE FIRST ARGUMENT

pub value_there : (w pairs : Words) (at : ℕ) (vars : Vars) {x start r : ℕ} → r ≡ get_or w (start + 1) 0 → start ≡ start_at vars x → x ≡ get_or pairs at 0 → r ≡ get_or w (start_at vars (get_or pairs at 0) + 1) 0
value_there w pairs at vars er es ex = er ∙ ap (λ s. get_or w (s + 1) 0) (es ∙ ap (start_at vars) ex)

-- VARIABLES, one after the other

pub variables_more : (env : Env) (x : ℕ) (xs : List ℕ) (left : State) (whole : Env) → variables env (x ∷ xs) left ≡ ok whole left
    → (u : Words) × (rest : Env) × (get_elem? env x ≡ some u) × (variables env xs left ≡ ok rest left) × (whole ≡ u ∷ rest)
unfolding variables variable present then_of
variables_more env x xs left whole e = go (get_elem? env x) refl e
  where
    clash : {A : Type 0} → ◌≡◌ {A = ℕ} 0 1 → A
    clash z = absurd (omega (arith, z))

    first : (u : Words) (m : Computation.Result Env) → then_of m (λ ts. return (u ∷ ts)) ≡ ok whole left → (rest : Env) × (m ≡ ok rest left) × (whole ≡ u ∷ rest)
    first u (ok ts l) f = (ts, cc, cc)
    first u (stop n l) f = clash cc
    first u stuck f = clash cc

    go : (o : Option Words) → get_elem? env x ≡ o → then_of (present o left) (λ u. λ l. then_of (variables env xs l) (λ ts. return (u ∷ ts))) ≡ ok whole left
        → (u : Words) × (rest : Env) × (get_elem? env x ≡ some u) × (variables env xs left ≡ ok rest left) × (whole ≡ u ∷ rest)
    go none q f = clash cc
    go (some u) q f = let t = first u (variables env xs left) f in (u, t.0, q, t.1, t.2)

pub variables_none : (env : Env) (left : State) (whole : Env) → variables env [] left ≡ ok whole left → whole ≡ []
unfolding variables
variables_none env left whole e = cc

-- an element that there is
some_inside : {A : Type 0} (l : List A) (i : ℕ) {a : A} → get_elem? l i ≡ some a → i < length l
some_inside [] i e = let z : ◌≡◌ {A = ℕ} 0 1 = cc in absurd (omega arith)
some_inside (x ∷ l) zero e = omega arith
some_inside (x ∷ l) (suc i) e = let h = some_inside l i e in omega arith

-- the tree of a variable that is read stands at its place
pub variable_stands : (g : Grammar) (arena : Words) (vars : Vars) (env : Env) (x : ℕ) (u : Words) → Sound vars → EnvAt g arena (starts_of vars) env → get_elem? env x ≡ some u → Stands g arena (start_at vars x) u
variable_stands g arena vars env x u s e f =
    let h : x < length (starts_of vars) = omega (arith, some_inside env x f, env_length g arena (starts_of vars) env e) in
    let t = env_get g arena (starts_of vars) env x e h in
    let z : t.0 ≡ u = cc (t.1, f) in
    stands_as (start_is vars x s (omega (arith, starts_length vars s))) (rw z at t.2)

-- THE LOOP THAT GATHERS ARGUMENTS

pub arguments_more : (k : ℕ) (ws : Words) → 0 < k → arguments k ws ≡ get_or ws 1 0 ∷ arguments (k - 1) (drop 2 ws)
unfolding arguments
arguments_more zero ws h = absurd (omega arith)
arguments_more (suc k) ws h = let z : suc k - 1 ≡ k = omega arith in rw z

pub arguments_none : (k : ℕ) (ws : Words) → k ≤ 0 → arguments k ws ≡ []
unfolding arguments
arguments_none zero ws h = refl
arguments_none (suc k) ws h = absurd (omega arith)

-- the trees gathered so far stand, and the others are those of the pairs that are left
record Run (w pairs : Words) (at n : ℕ) (args : Vars) (count i : ℕ) (g : Grammar) (top : ℕ) (env whole : Env) (left : State) : Type 0 where
  done : Env
  rest : Env
  joined : whole ≡ done ++ rest
  stands : EnvAt g (take top w) (starts_of args) done
  counted : count ≡ total done
  due : variables env (arguments (n - i) (drop (at + 2 * i) pairs)) left ≡ ok rest left

pub record Gathering (w pairs : Words) (at n : ℕ) (vars args : Vars) (count i : ℕ) : Type 0 where
  pub sound : Sound args
  pub bound_to : args.n ≡ i
  pub few : i ≤ 16
  pub small : count ≤ 4096 * i
  run : (g : Grammar) (top : ℕ) (env whole : Env) (left : State) → length g ≤ most_types → EnvAt g (take top w) (starts_of vars) env → variables env (arguments n (drop at pairs)) left ≡ ok whole left
      → Run w pairs at n args count i g top env whole left

pub gathering_start : (w pairs : Words) (at n : ℕ) (vars : Vars) (starts : List ℕ) → length starts ≡ 16 → Gathering w pairs at n vars (record { n = 0; starts = starts }) 0 0
unfolding total
gathering_start w pairs at n vars starts l = record {
  sound = record { room = l; few = omega arith };
  bound_to = refl;
  few = omega arith;
  small = omega arith;
  run = λ g top env whole left k e v.
      let y : n - 0 ≡ n = omega arith in
      let z : at + 2 * 0 ≡ at = omega arith in
      record { done = []; rest = whole; joined = refl; stands = tt; counted = refl; due = rw (y, z) v };
}

module _ (w pairs : Words) (at n : ℕ) (vars args : Vars) (count i : ℕ) (go : Gathering w pairs at n vars args count i) where
  -- all are gathered, or n is more than 16
  pub gathering_end : min n 16 ≤ i → Gathered w pairs at n vars (record { vars = args; total = count })
  gathering_end h = record {
    sound = go.sound;
    small = omega (arith, go.small, go.few);
    stands = λ g top env whole left k e m v. ended (omega arith) (go.run g top env whole left k e v);
  }
    where
      ended : {g : Grammar} {top : ℕ} {env whole : Env} {left : State} → n ≤ i → Run w pairs at n args count i g top env whole left → EnvAt g (take top w) (starts_of args) whole × (count ≡ total whole)
      ended {g} {top} {env} {whole} {left} l r =
          let none_due = ap (λ xs. variables env xs left) (sym (arguments_none (n - i) (drop (at + 2 * i) pairs) (omega arith))) ∙ r.due in
          let all : whole ≡ r.done = r.joined ∙ ap (λ x. r.done ++ x) (variables_none env left r.rest none_due) ∙ append-nil r.done in
          rw all (r.stands, r.counted)

  pub gathering_more : Sound vars → i < min n 16 → {x start m : ℕ} {args' : Vars} → x ≡ get_or pairs (at + 2 * i + 1) 0 → start ≡ start_at vars x → args' ≡ bound args start
      → m ≡ size_in (get_or w start 0) → m < 4096 → Gathering w pairs at n vars args' (count + m) (i + 1)
  gathering_more s h {x} {start} {m} {args'} ex es ea em few = rw ea (record {
    sound = sound_more args start go.sound (omega (arith, go.bound_to));
    bound_to = omega (arith, go.bound_to);
    few = omega arith;
    small = omega (arith, go.small);
    run = λ g top env whole left k e v. step g top env whole left k e (go.run g top env whole left k e v);
  })
    where
      -- the pairs that are left, by their first
      pairs_more : arguments (n - i) (drop (at + 2 * i) pairs) ≡ x ∷ arguments (n - (i + 1)) (drop (at + 2 * (i + 1)) pairs)
      pairs_more =
          let a : n - i - 1 ≡ n - (i + 1) = omega arith in
          let b : at + 2 * i + 2 ≡ at + 2 * (i + 1) = omega arith in
          arguments_more (n - i) (drop (at + 2 * i) pairs) (omega arith)
          ∙ ap₂ (λ c cs. c ∷ cs) (get_or-drop (at + 2 * i) pairs 1 0 ∙ sym ex) (ap₂ arguments a (drop-drop 2 (at + 2 * i) pairs ∙ ap (λ p. drop p pairs) b))

      step : (g : Grammar) (top : ℕ) (env whole : Env) (left : State) → length g ≤ most_types → EnvAt g (take top w) (starts_of vars) env → Run w pairs at n args count i g top env whole left
          → Run w pairs at n (bound args start) (count + m) (i + 1) g top env whole left
      step g top env whole left k e r =
          let t = variables_more env x (arguments (n - (i + 1)) (drop (at + 2 * (i + 1)) pairs)) left r.rest (ap (λ xs. variables env xs left) (sym pairs_more) ∙ r.due) in
          let u = t.0 in
          let here : Stands g (take top w) start u = stands_as es (variable_stands g (take top w) vars env x u s e t.2) in
          let nodes : m ≡ size u = em ∙ (stands_below g w start top u k here).0 in
          record {
            done = r.done ++ u ∷ [];
            rest = t.1;
            joined = r.joined ∙ ap (λ z. r.done ++ z) t.4 ∙ sym (append_assoc r.done (u ∷ []) t.1);
            stands = env_as g (take top w) (r.done ++ u ∷ []) (starts_more args start go.sound (omega (arith, go.bound_to))) (env_more g (take top w) (starts_of args) r.done start u r.stands here);
            counted = omega (arith, r.counted, nodes, total_more r.done u);
            due = t.3;
          }

-- The matcher's loop: what was set against so far, and the definition at what is left. Assumes nothing.
use Prim.Native.Nat.{ℕ, zero, suc, ◌+◌, ◌-◌, ◌*◌, ◌/◌, ◌<◌, ◌≤◌}
use mathlib.Core.Path.{◌≡◌, refl, sym, ap, ap₂, ◌∙◌}
use mathlib.Core.List.{List, [], ◌∷◌, ◌++◌}
use mathlib.Core.Bool.{Bool, true, false, not}
use mathlib.Core.Option.{Option, none, some}
use native.Mathlib.Omega.{arith}
use native.Mathlib.Nat.{add-zero}
use native.Mathlib.Numerals.{add-one}
use lib.ListN.{length, get_or, take, drop, set, get_elem?, length-set, length-drop, length-take}
use Rattle.std.specs.Prelude.{Result, Ok, Err}
use lib.Seq.{drop_at, drop-drop, get_or-drop, get_or-take, take-suc-set, take-set-le, take-take}
use borrow.Author.Tests.{lt-ltb, le-ltb}
use mathlib.Core.Logic.{◌⊎◌, inl, inr}
use Rattle.tables.specs.declared.types.Types.{Types}
use Rattle.words.specs.Reader.{Words}
use Rattle.words.proofs.Stretches.{drop_pair}
use Rattle.grammar.specs.Grammar.{Grammar}
use Rattle.grammar.specs.Kinds.{children}
use Rattle.tree.specs.Tree.{Trees, size, is_tree, after, first_tree}
use Rattle.tree.proofs.Trees.{split, first_after, tells, trees_even, first_even, tree_passes, even_none}
use Rattle.rules.specs.Rules.{Shape, node, new, same, shapes}
use Rattle.meaning.specs.declared.State.{State}
use Rattle.meaning.specs.Computation.{stuck, Comp}
use Rattle.meaning.specs.Meaning.{Env, Bindings, total, live, same_tree, match}
use Rattle.tree.specs.Rest.{Rest}
use Rattle.tree.proofs.Rest.{rest_node, onward}
use Rattle.marks.specs.Marked.{type_in, size_in, mark_of, marked, Stands}
use Rattle.marks.specs.Post.{SameTree, HoldsBlank}
use Rattle.marks.proofs.Marks.{mark_type, mark_size, marked_length, marked_append}
use Rattle.marks.proofs.Marking.{type_there}
use Rattle.marks.proofs.Spans.{first_size, drop_take}
use Rattle.marks.proofs.Same.{marked_first}
use Rattle.rewrite.specs.declared.Verdict.{Verdict}
use Rattle.rewrite.specs.declared.Verdict.TheVariants.{Matches, Differs, Stops}
use Rattle.rewrite.specs.Vars.{Vars, vars_of, EnvAt, starts_of, bound, start_at, Sound, Kept}
use Rattle.rewrite.specs.Matching.{Stage, bindings, Means, Match, Answers, MatchAnswers, NewTold, VariableTold, PairTold}
use Rattle.rewrite.specs.Matching.NewTold.{other, over, past, taken}
use Rattle.rewrite.specs.Matching.PairTold.{short, new, unlike, like, type, value, node}
use Rattle.meaning.proofs.SameExactly.{same_other, same_there}
use Rattle.rewrite.proofs.Steps.{pair_new, pair_same, pair_node, no_pair, match_end, match_short, node_type, node_value, node_both, new_type, new_full, new_seventeenth, new_bound, same_unbound}

-- AN ANSWER

ok_is : {a b : ℕ} → ◌≡◌ {A = Result ℕ Verdict} (Ok a) (Ok b) → a ≡ b
ok_is e = cc

err_is : {a b : Verdict} → ◌≡◌ {A = Result ℕ Verdict} (Err a) (Err b) → a ≡ b
err_is e = cc

no_words : {a : Verdict} {b : ℕ} → ◌≡◌ {A = Result ℕ Verdict} (Err a) (Ok b) → ⊥
no_words e = cc

-- THE VARIABLES

pub env_length : (g : Grammar) (arena : Words) (ss : List ℕ) (env : Env) → EnvAt g arena ss env → length env ≡ length ss
env_length g arena [] [] e = refl
env_length g arena [] (w ∷ env) e = absurd e
env_length g arena (s ∷ ss) [] e = absurd e
env_length g arena (s ∷ ss) (w ∷ env) e = ap suc (env_length g arena ss env e.1)

pub env_more : (g : Grammar) (arena : Words) (ss : List ℕ) (env : Env) (s : ℕ) (u : Words) → EnvAt g arena ss env → Stands g arena s u → EnvAt g arena (ss ++ s ∷ []) (env ++ u ∷ [])
env_more g arena [] [] s u e x = (x, tt)
env_more g arena [] (w ∷ env) s u e x = absurd e
env_more g arena (t ∷ ss) [] s u e x = absurd e
env_more g arena (t ∷ ss) (w ∷ env) s u e x = (e.0, env_more g arena ss env s u e.1 x)

pub env_get : (g : Grammar) (arena : Words) (ss : List ℕ) (env : Env) (x : ℕ) → EnvAt g arena ss env → x < length ss → (u : Words) × (get_elem? env x ≡ some u) × Stands g arena (get_or ss x 0) u
env_get g arena [] env x e h = absurd (omega arith)
env_get g arena (s ∷ ss) [] x e h = absurd e
env_get g arena (s ∷ ss) (w ∷ env) zero e h = (w, refl, e.0)
env_get g arena (s ∷ ss) (w ∷ env) (suc x) e h = env_get g arena ss env x e.1 (omega arith)

pub env_past : (env : Env) (x : ℕ) → length env ≤ x → get_elem? env x ≡ none
env_past [] x h = refl
env_past (w ∷ env) zero h = absurd (omega arith)
env_past (w ∷ env) (suc x) h = env_past env x (omega arith)

pub total_more : (env : Env) (u : Words) → total (env ++ u ∷ []) ≡ total env + size u
unfolding total
total_more [] u = omega arith
total_more (w ∷ env) u = let h = total_more env u in omega arith

pub starts_length : (v : Vars) → Sound v → length (starts_of v) ≡ v.n
starts_length v s = omega (arith, length-take v.n v.starts, s.room, s.few)

pub starts_more : (v : Vars) (start : ℕ) → Sound v → v.n < 16 → starts_of (bound v start) ≡ starts_of v ++ start ∷ []
starts_more v start s h = ap (λ n. take n (set v.starts v.n start)) (add-one v.n) ∙ take-suc-set v.starts v.n start (omega (arith, s.room))

pub sound_more : (v : Vars) (start : ℕ) → Sound v → v.n < 16 → Sound (bound v start)
sound_more v start s h = record { room = length-set v.starts v.n start ∙ s.room; few = omega arith }

pub kept_same : (v : Vars) → Kept v v
kept_same v = record { wider = omega arith; places = refl }

pub kept_bound : (v : Vars) (start : ℕ) → Kept v (bound v start)
kept_bound v start = record { wider = omega arith; places = take-set-le v.n v.starts v.n start (omega arith) }

pub kept_more : {u v w : Vars} → Kept u v → Kept v w → Kept u w
kept_more {u} {v} {w} a b = record {
  wider = omega (arith, a.wider, b.wider);
  places = sym (take-take u.n v.n w.starts a.wider) ∙ ap (take u.n) b.places ∙ take-take u.n v.n v.starts a.wider ∙ a.places;
}

-- .. and when what was bound since is let go
pub kept_back : (u v : Vars) → Kept u v → Kept u (vars_of v.starts u.n)
kept_back u v k = record { wider = omega arith; places = k.places }

pub sound_back : (u v : Vars) → Sound u → Sound v → Sound (vars_of v.starts u.n)
sound_back u v a b = record { room = b.room; few = a.few }

pub start_there : (v : Vars) (x : ℕ) → x < v.n → x < 16 → get_or v.starts x 0 ≡ start_at v x
unfolding start_at
start_there v x h k = rw (lt-ltb x v.n h, lt-ltb x 16 k)

pub start_past : (v : Vars) (x : ℕ) → ((x < v.n) × (16 ≤ x)) ⊎ (v.n ≤ x) → 4294967295 ≡ start_at v x
unfolding start_at
start_past v x (inl h) = rw (lt-ltb x v.n (omega arith), le-ltb x 16 (omega arith))
start_past v x (inr h) = rw (le-ltb x v.n (omega arith))

pub start_is : (v : Vars) (x : ℕ) → Sound v → x < v.n → start_at v x ≡ get_or (starts_of v) x 0
unfolding start_at
start_is v x s h = rw (lt-ltb x v.n h, lt-ltb x 16 (omega (arith, s.few))) (sym (get_or-take v.n v.starts x 0 h))

-- what is bound, whatever lies past it
pub starts_kept : (u v : Vars) → v.n ≡ u.n → Kept u v → starts_of v ≡ starts_of u
starts_kept u v e k = ap (λ n. take n v.starts) e ∙ k.places

-- the answer does not depend on what lies past the variables that are bound
pub answers_kept : {types : Types} {arena part : Words} {at live : ℕ} {f : Grammar → Words → Bindings → Comp (Option Bindings)} {r : Match} (u v : Vars) → v.n ≡ u.n → Kept u v → Answers types arena part at v live f r → Answers types arena part at u live f r
answers_kept {types} {arena} {part} {at} {live} {f} u v e k a = record {
  sound = a.sound;
  kept = kept_more k a.kept;
  fits = a.fits;
  grows = a.grows;
  meant = λ g ws ts b left st ns. a.meant g ws ts b left (stage_as st) ns;
}
  where
    stage_as : {g : Grammar} {ws : Words} {ts : List ℕ} {b : Bindings} → Stage types g arena part at u live ws ts b → Stage types g arena part at v live ws ts b
    stage_as {g} {ws} {ts} {b} st = record { tables = st.tables; place = st.place; inside = st.inside; marks = st.marks; rest = st.rest; stands = rw (starts_kept u v e k) st.stands; counted = st.counted }

-- A PAIR

-- a variable whose tree is another does not match
pub variable_other : (types : Types) {arena part : Words} {start : ℕ} (equal : Bool) → equal ≡ false → SameTree arena start part equal → VariableTold types arena start part false
unfolding same_tree
variable_other types equal e s g u ws t ts hs st m tr k = rw (← s g u ws t ts hs.types st m tr k, e)

-- .. one whose tree is the same matches unless that holds a blank
pub variable_same : (types : Types) {arena part : Words} {start : ℕ} (equal : Bool) → equal ≡ true → SameTree arena start part equal → (blank : Bool) → HoldsBlank types part blank → VariableTold types arena start part (not blank)
unfolding same_tree
variable_same types equal e s blank h g u ws t ts hs st m tr k = rw (← s g u ws t ts hs.types st m tr k, e, ← h g ws t ts hs m tr k)

-- THE LOOP

-- what is left, as the definition sees it
record Run (types : Types) (strict : Bool) (g : Grammar) (pairs arena part : Words) (at : ℕ) (env : Vars) (held i p : ℕ) (ws : Words) (b : Bindings) (left : State) : Type 0 where
  inside : p ≤ length part
  rest : Words
  owed : List ℕ
  bound_to : Env
  stage : Stage types g arena (drop p part) (at + p) env held rest owed (bindings bound_to b.besides)
  same_run : match strict g (shapes pairs) ws b left ≡ match strict g (shapes (drop i pairs)) rest (bindings bound_to b.besides) left

pub record Going (types : Types) (pairs arena part : Words) (at : ℕ) (vars : Vars) (held₀ : ℕ) (env : Vars) (held i p : ℕ) : Type 0 where
  pub read : i ≤ length pairs
  pub near : p ≤ 8192 * i
  pub sound : Sound env
  pub kept : Kept vars env
  pub fits : held ≤ 6144
  pub grows : held₀ ≤ held
  run : (strict : Bool) (g : Grammar) (ws : Words) (ts : List ℕ) (b : Bindings) (left : State) → Stage types g arena part at vars held₀ ws ts b → (match strict g (shapes pairs) ws b left ≡ stuck → ⊥)
      → Run types strict g pairs arena part at env held i p ws b left

pub going_start : (types : Types) (pairs arena part : Words) (at : ℕ) (vars : Vars) (held : ℕ) → Sound vars → held ≤ 6144 → Going types pairs arena part at vars held vars held 0 0
going_start types pairs arena part at vars held s l = record {
  read = omega arith;
  near = omega arith;
  sound = s;
  kept = kept_same vars;
  fits = l;
  grows = omega arith;
  run = λ strict g ws ts b left st ns. let z : at + 0 ≡ at = omega arith in record { inside = omega arith; rest = ws; owed = ts; bound_to = b.env; stage = rw z st; same_run = refl };
}

-- the node that is set against
pub record Node (g : Grammar) (x : Words) (rest : Words) (owed : List ℕ) : Type 0 where
  pub t : ℕ
  pub v : ℕ
  pub below : Words
  pub more : List ℕ
  pub is : rest ≡ t ∷ v ∷ below
  pub due : owed ≡ t ∷ more
  pub type_in_lem : type_in (get_or x 0 0) ≡ t
  pub size_in_lem : size_in (get_or x 0 0) ≡ size (first_tree g rest)
  pub value : get_or x 1 0 ≡ v

pub node_of : (g : Grammar) (x rest : Words) (owed : List ℕ) → length g ≤ 64 → Rest g owed rest → x ≡ marked g rest → 2 ≤ length x → Node g x rest owed
unfolding marked mark_of
node_of g x [] ts l r e h = absurd (omega (arith, ap length e))
node_of g x (t ∷ []) ts l r e h = absurd (omega (arith, ap length e))
node_of g x (t ∷ v ∷ ws) [] l r e h = absurd (tells r.typed)
node_of g x (t ∷ v ∷ ws) (c ∷ cs) l r e h =
    let q = tells r.typed in
    let low : t < 64 = rw q.0 (omega (arith, type_there g c v q.1)) in
    let few : size (first_tree g (t ∷ v ∷ ws)) < 4096 = omega (arith, first_size g (t ∷ v ∷ ws) 1, r.nodes) in
    record {
      t = t;
      v = v;
      below = ws;
      more = cs;
      is = refl;
      due = ap (λ y. y ∷ cs) (sym q.0);
      type_in_lem = rw e (mark_type t (size (first_tree g (t ∷ v ∷ ws))) _ low);
      size_in_lem = rw e (mark_size t (size (first_tree g (t ∷ v ∷ ws))) _ low few);
      value = rw e;
    }

-- m words on
pub stage_on : {types : Types} {g : Grammar} {arena x : Words} {a : ℕ} {env : Vars} {held : ℕ} {rest : Words} {owed : List ℕ} {b : Bindings} → Stage types g arena x a env held rest owed b
    → (m : ℕ) → m ≤ length x → (env' : Vars) (held' : ℕ) (rest' : Words) (owed' : List ℕ) (b' : Bindings) → drop m x ≡ marked g rest' → Rest g owed' rest' → EnvAt g arena (starts_of env') b'.env
    → held' ≡ b'.besides + total b'.env → Stage types g arena (drop m x) (a + m) env' held' rest' owed' b'
stage_on {types} {g} {arena} {x} {a} st m h env' held' rest' owed' b' e r ev c =
    let l : length (drop m x) ≡ length x - m = length-drop m x in
    record {
      tables = st.tables;
      place = ap (drop m) st.place ∙ drop_take (length x) m (drop a arena) ∙ ap₂ take (sym l) (drop-drop m a arena);
      inside = omega (arith, st.inside);
      marks = e;
      rest = r;
      stands = ev;
      counted = c;
    }

-- the same by positions in the part
pub moved : {types : Types} {g : Grammar} {arena : Words} {env : Vars} {held : ℕ} {rest : Words} {owed : List ℕ} {b : Bindings} (part : Words) (at p m : ℕ) → Stage types g arena (drop m (drop p part)) (at + p + m) env held rest owed b
    → Stage types g arena (drop (p + m) part) (at + (p + m)) env held rest owed b
moved part at p m st = let z : at + (p + m) ≡ at + p + m = omega arith in rw (← drop-drop m p part, z) st

drop_marked : {g : Grammar} {t : ℕ} {ts : List ℕ} (ws : Words) (m : ℕ) → Trees g (t ∷ ts) ws → m ≡ length (first_tree g ws) → drop m (marked g ws) ≡ marked g (after g ws 1)
drop_marked {g} {t} {ts} ws m r e =
    let s = split ws (t ∷ []) ts r in
    ap (λ l. drop m (marked g l)) (sym (first_after g ws 1)) ∙ ap (drop m) (marked_append s.front (after g ws 1))
    ∙ drop_at (marked g (first_tree g ws)) (marked g (after g ws 1)) m (marked_length g (first_tree g ws) ∙ sym e)

-- what is left, with its first type and its first node known
pub due_as : {g : Grammar} {rest : Words} {owed : List ℕ} (t : ℕ) (more : List ℕ) → owed ≡ t ∷ more → Rest g owed rest → Rest g (t ∷ more) rest
due_as t more e r = rw e at r

pub node_as : {g : Grammar} {ts : List ℕ} {rest : Words} (t v : ℕ) (below : Words) → rest ≡ t ∷ v ∷ below → Rest g ts rest → Rest g ts (t ∷ v ∷ below)
node_as t v below e r = rw e at r

stage_due : {types : Types} {g : Grammar} {arena x : Words} {a : ℕ} {env : Vars} {held : ℕ} {rest : Words} {owed : List ℕ} {b : Bindings} (t : ℕ) (more : List ℕ) → owed ≡ t ∷ more
    → Stage types g arena x a env held rest owed b → Stage types g arena x a env held rest (t ∷ more) b
stage_due t more e st = rw e at st

pub env_as : (g : Grammar) (arena : Words) {ss ss' : List ℕ} (env : Env) → ss ≡ ss' → EnvAt g arena ss' env → EnvAt g arena ss env
env_as g arena env e x = rw e x

pub stands_as : {g : Grammar} {arena : Words} {s s' : ℕ} {u : Words} → s ≡ s' → Stands g arena s' u → Stands g arena s u
stands_as e x = rw e x

pub two_marked : (g : Grammar) (rest : Words) (t v : ℕ) (below : Words) → rest ≡ t ∷ v ∷ below → drop 2 (marked g rest) ≡ marked g below
unfolding marked
two_marked g rest t v below e = rw e

-- the tree that a new variable becomes stands where it is
stands_here : {types : Types} {g : Grammar} {arena x : Words} {a : ℕ} {env : Vars} {held : ℕ} {rest : Words} {t : ℕ} {ts : List ℕ} {b : Bindings} → Stage types g arena x a env held rest (t ∷ ts) b → Stands g arena a (first_tree g rest)
stands_here {types} {g} {arena} {x} {a} {rest = rest} {t} {ts} st =
    let o = onward st.rest in
    let n : length (first_tree g rest) ≤ length x = shorter in
    record {
      type = t;
      tree = o.tree;
      inside = omega (arith, st.inside);
      words = sym (take-take (length (first_tree g rest)) (length x) (drop a arena) n) ∙ ap (take (length (first_tree g rest))) (sym st.place ∙ st.marks) ∙ marked_first rest (length (first_tree g rest)) st.rest.typed refl;
    }
  where
    shorter : length (first_tree g rest) ≤ length x
    shorter = omega (arith, first_even g rest 1, first_size g rest 1, ap length st.marks, marked_length g rest, trees_even st.rest.typed)

module _ (types : Types) (pairs arena part : Words) (at : ℕ) (vars : Vars) (held₀ : ℕ) (env : Vars) (held i p : ℕ) (go : Going types pairs arena part at vars held₀ env held i p) where
  -- a verdict with the variables as they are
  answered : (v : Verdict)
      → ((strict : Bool) (g : Grammar) (ws : Words) (b : Bindings) (left : State) → (match strict g (shapes pairs) ws b left ≡ stuck → ⊥) → Run types strict g pairs arena part at env held i p ws b left
      → Means g arena b.besides v env held left (match strict g (shapes pairs) ws b left))
      → MatchAnswers types pairs arena part at vars held₀ (record { verdict = v; vars = env; live = held })
  answered v f strict = record { sound = go.sound; kept = go.kept; fits = go.fits; grows = go.grows; meant = λ g ws ts b left st ns. f strict g ws b left ns (go.run strict g ws ts b left st ns) }

  pub going_end : length pairs - i < 2 → MatchAnswers types pairs arena part at vars held₀ (record { verdict = Matches; vars = env; live = held })
  going_end h = answered Matches (λ strict g ws b left ns r. (
    r.bound_to,
    r.stage.stands,
    r.stage.counted,
    r.same_run ∙ ap (λ ps. match strict g ps r.rest (bindings r.bound_to b.besides) left) (no_pair (drop i pairs) (simp length-drop (omega arith))) ∙ match_end strict g [] (bindings r.bound_to b.besides) left r.rest,
  ))

  module _ (two : 2 ≤ length pairs - i) where
    the_pair : drop i pairs ≡ get_or pairs i 0 ∷ get_or pairs (i + 1) 0 ∷ drop (i + 2) pairs
    the_pair = drop_pair pairs i (omega (arith, go.read))

    -- the definition at the pair here, as a shape
    at_shape : (s : Shape) → shapes (get_or pairs i 0 ∷ get_or pairs (i + 1) 0 ∷ drop (i + 2) pairs) ≡ s ∷ shapes (drop (i + 2) pairs) → (strict : Bool) (g : Grammar) (x : Words) (b : Bindings) (left : State)
        → match strict g (shapes (drop i pairs)) x b left ≡ match strict g (s ∷ shapes (drop (i + 2) pairs)) x b left
    at_shape s e strict g x b left = ap (λ ps. match strict g ps x b left) (ap shapes the_pair ∙ e)

    some_shape : (s : Shape) × (shapes (get_or pairs i 0 ∷ get_or pairs (i + 1) 0 ∷ drop (i + 2) pairs) ≡ s ∷ shapes (drop (i + 2) pairs))
    unfolding shapes
    some_shape = (_, refl)

    pub going_short : length part < p + 2 → MatchAnswers types pairs arena part at vars held₀ (record { verdict = Differs; vars = env; live = held })
    going_short h = answered Differs (λ strict g ws b left ns r.
        let st = r.stage in
        let none_left : r.rest ≡ [] = even_none r.rest (trees_even st.rest.typed) (omega (arith, ap length st.marks, marked_length g r.rest, length-drop p part, r.inside)) in
        r.same_run ∙ at_shape some_shape.0 some_shape.1 strict g r.rest (bindings r.bound_to b.besides) left
        ∙ ap (λ x. match strict g (some_shape.0 ∷ shapes (drop (i + 2) pairs)) x (bindings r.bound_to b.besides) left) none_left ∙ match_short strict g (shapes (drop (i + 2) pairs)) (bindings r.bound_to b.besides) left some_shape.0)

    module _ (more : p + 2 ≤ length part) (w : ℕ) (ew : w ≡ get_or part p 0) where
      -- the node that stands here
      here : {strict : Bool} {g : Grammar} {ws : Words} {b : Bindings} {left : State} (r : Run types strict g pairs arena part at env held i p ws b left) → Node g (drop p part) r.rest r.owed
      here r = node_of _ (drop p part) r.rest r.owed r.stage.tables.types r.stage.rest r.stage.marks (omega (arith, length-drop p part))

      at_first : get_or (drop p part) 0 0 ≡ w
      at_first = get_or-drop p part 0 0 ∙ ap (λ n. get_or part n 0) (add-zero p) ∙ sym ew

      -- A NODE
      module _ (not_new : get_or pairs i 0 ≡ 64 → ⊥) (not_same : get_or pairs i 0 ≡ 65 → ⊥) where
        is_node_lem : shapes (get_or pairs i 0 ∷ get_or pairs (i + 1) 0 ∷ drop (i + 2) pairs) ≡ node (get_or pairs i 0) (get_or pairs (i + 1) 0) ∷ shapes (drop (i + 2) pairs)
        is_node_lem = pair_node (get_or pairs i 0) (get_or pairs (i + 1) 0) (drop (i + 2) pairs) not_new not_same

        pub going_type : (type_in w ≡ get_or pairs i 0 → ⊥) → MatchAnswers types pairs arena part at vars held₀ (record { verdict = Differs; vars = env; live = held })
        going_type h = answered Differs (λ strict g ws b left ns r.
            let n = here r in
            let c = bindings r.bound_to b.besides in
            r.same_run ∙ at_shape _ is_node_lem strict g r.rest c left ∙ ap (λ x. match strict g (node (get_or pairs i 0) (get_or pairs (i + 1) 0) ∷ shapes (drop (i + 2) pairs)) x c left) n.is
            ∙ node_type strict g (shapes (drop (i + 2) pairs)) c left n.t n.v n.below (get_or pairs i 0) (get_or pairs (i + 1) 0) (λ e. h (ap type_in (sym at_first) ∙ n.type_in_lem ∙ e)))

        pub going_value : (y : ℕ) → y ≡ get_or part (p + 1) 0 → type_in w ≡ get_or pairs i 0 → (y ≡ get_or pairs (i + 1) 0 → ⊥) → MatchAnswers types pairs arena part at vars held₀ (record { verdict = Differs; vars = env; live = held })
        going_value y ey et h = answered Differs (λ strict g ws b left ns r.
            let n = here r in
            let c = bindings r.bound_to b.besides in
            r.same_run ∙ at_shape _ is_node_lem strict g r.rest c left ∙ ap (λ x. match strict g (node (get_or pairs i 0) (get_or pairs (i + 1) 0) ∷ shapes (drop (i + 2) pairs)) x c left) n.is
            ∙ node_value strict g (shapes (drop (i + 2) pairs)) c left n.t n.v n.below (get_or pairs i 0) (get_or pairs (i + 1) 0) (sym n.type_in_lem ∙ ap type_in at_first ∙ et) (λ e. h (ey ∙ sym (get_or-drop p part 1 0) ∙ n.value ∙ e)))

        pub going_node : (y : ℕ) → y ≡ get_or part (p + 1) 0 → type_in w ≡ get_or pairs i 0 → y ≡ get_or pairs (i + 1) 0 → Going types pairs arena part at vars held₀ env held (i + 2) (p + 2)
        going_node y ey et ev = record {
          read = omega (arith, go.read);
          near = omega (arith, go.near);
          sound = go.sound;
          kept = go.kept;
          fits = go.fits;
          grows = go.grows;
          run = λ strict g ws ts b left st ns. stepped strict g ws b left (go.run strict g ws ts b left st ns);
        }
          where
            stepped : (strict : Bool) (g : Grammar) (ws : Words) (b : Bindings) (left : State) → Run types strict g pairs arena part at env held i p ws b left → Run types strict g pairs arena part at env held (i + 2) (p + 2) ws b left
            stepped strict g ws b left r =
                let n = here r in
                let c = bindings r.bound_to b.besides in
                let q : Rest g (children g n.t n.v ++ n.more) n.below = rest_node (node_as n.t n.v n.below n.is (due_as n.t n.more n.due r.stage.rest)) in
                record {
                  inside = omega arith;
                  rest = n.below;
                  owed = children g n.t n.v ++ n.more;
                  bound_to = r.bound_to;
                  stage = moved part at p 2 (stage_on r.stage 2 (omega (arith, length-drop p part)) env held n.below (children g n.t n.v ++ n.more) c (ap (drop 2) r.stage.marks ∙ two_marked g r.rest n.t n.v n.below n.is) q r.stage.stands r.stage.counted);
                  same_run = r.same_run ∙ at_shape _ is_node_lem strict g r.rest c left ∙ ap (λ x. match strict g (node (get_or pairs i 0) (get_or pairs (i + 1) 0) ∷ shapes (drop (i + 2) pairs)) x c left) n.is
                      ∙ node_both strict g (shapes (drop (i + 2) pairs)) c left n.t n.v n.below (get_or pairs i 0) (get_or pairs (i + 1) 0) (sym n.type_in_lem ∙ ap type_in at_first ∙ et) (sym n.value ∙ get_or-drop p part 1 0 ∙ sym ey ∙ ev);
                }

      -- the words of the first tree
      tree_words : {strict : Bool} {g : Grammar} {ws : Words} {b : Bindings} {left : State} (r : Run types strict g pairs arena part at env held i p ws b left) → 2 * size_in w ≡ length (first_tree g r.rest)
      tree_words {g = g} r = let n = here r in sym (first_even g r.rest 1 ∙ ap (λ k. 2 * k) (sym n.size_in_lem ∙ ap size_in at_first))

      tree_inside : {strict : Bool} {g : Grammar} {ws : Words} {b : Bindings} {left : State} (r : Run types strict g pairs arena part at env held i p ws b left) → 2 * size_in w ≤ length (drop p part)
      tree_inside {g = g} r = omega (arith, tree_words r, first_even g r.rest 1, first_size g r.rest 1, ap length r.stage.marks, marked_length g r.rest, trees_even r.stage.rest.typed)

      -- one tree on, with these variables
      tree_on : {strict : Bool} {g : Grammar} {ws : Words} {b : Bindings} {left : State} (r : Run types strict g pairs arena part at env held i p ws b left) (env' : Vars) (held' : ℕ) (now : Env)
          → EnvAt g arena (starts_of env') now → held' ≡ b.besides + total now → Stage types g arena (drop (p + 2 * size_in w) part) (at + (p + 2 * size_in w)) env' held' (after g r.rest 1) (here r).more (bindings now b.besides)
      tree_on {g = g} {b = b} r env' held' now ev c =
          let n = here r in
          let q : Rest g (n.t ∷ n.more) r.rest = due_as n.t n.more n.due r.stage.rest in
          moved part at p (2 * size_in w) (stage_on r.stage (2 * size_in w) (tree_inside r) env' held' (after g r.rest 1) n.more (bindings now b.besides)
          (ap (drop (2 * size_in w)) r.stage.marks ∙ drop_marked r.rest (2 * size_in w) q.typed (tree_words r)) (onward q).rest ev c)

      -- A VARIABLE THAT IS THERE
      module _ (not_new : get_or pairs i 0 ≡ 64 → ⊥) (is : get_or pairs i 0 ≡ 65) where
        is_same : shapes (get_or pairs i 0 ∷ get_or pairs (i + 1) 0 ∷ drop (i + 2) pairs) ≡ same (get_or pairs (i + 1) 0) ∷ shapes (drop (i + 2) pairs)
        is_same = pair_same (get_or pairs i 0) (get_or pairs (i + 1) 0) (drop (i + 2) pairs) not_new is

        -- the definition here, at the node
        at_same : {strict : Bool} {g : Grammar} {ws : Words} {b : Bindings} {left : State} (r : Run types strict g pairs arena part at env held i p ws b left)
            → match strict g (shapes pairs) ws b left ≡ match strict g (same (get_or pairs (i + 1) 0) ∷ shapes (drop (i + 2) pairs)) ((here r).t ∷ (here r).v ∷ (here r).below) (bindings r.bound_to b.besides) left
        at_same {strict} {g} {ws} {b} {left} r =
            r.same_run ∙ at_shape _ is_same strict g r.rest (bindings r.bound_to b.besides) left
            ∙ ap (λ x. match strict g (same (get_or pairs (i + 1) 0) ∷ shapes (drop (i + 2) pairs)) x (bindings r.bound_to b.besides) left) (here r).is

        -- the variable is bound, since the run is not stuck
        variable_bound : {strict : Bool} {g : Grammar} {ws : Words} {b : Bindings} {left : State} (r : Run types strict g pairs arena part at env held i p ws b left) → (match strict g (shapes pairs) ws b left ≡ stuck → ⊥) → get_or pairs (i + 1) 0 < env.n
        variable_bound {strict} {g} {ws} {b} {left} r ns = go_on (env.n - get_or pairs (i + 1) 0) refl
          where
            go_on : (d : ℕ) → env.n - get_or pairs (i + 1) 0 ≡ d → get_or pairs (i + 1) 0 < env.n
            go_on (suc d) e = omega arith
            go_on zero e =
                let l = env_length g arena (starts_of env) r.bound_to r.stage.stands in
                absurd (ns (at_same r ∙ same_unbound strict g (shapes (drop (i + 2) pairs)) (bindings r.bound_to b.besides) left (here r).t (here r).v (here r).below (get_or pairs (i + 1) 0) (env_past r.bound_to (get_or pairs (i + 1) 0) (omega (arith, starts_length env go.sound)))))

        module _ (start : ℕ) (es : start ≡ start_at env (get_or pairs (i + 1) 0)) (eq : Bool) (x : Words) (ex : x ≡ drop p part) (test : VariableTold types arena start x eq) where
          -- the variable's tree, and what the comparison says of it
          compared : {strict : Bool} {g : Grammar} {ws : Words} {b : Bindings} {left : State} (r : Run types strict g pairs arena part at env held i p ws b left) → (match strict g (shapes pairs) ws b left ≡ stuck → ⊥)
              → (u : Words) × (get_elem? r.bound_to (get_or pairs (i + 1) 0) ≡ some u) × (eq ≡ same_tree g u (first_tree g ((here r).t ∷ (here r).v ∷ (here r).below)))
          compared {g = g} r ns =
              let n = here r in
              let h = variable_bound r ns in
              let e = env_get g arena (starts_of env) r.bound_to (get_or pairs (i + 1) 0) r.stage.stands (omega (arith, starts_length env go.sound)) in
              let s : Stands g arena start e.0 = stands_as (es ∙ start_is env (get_or pairs (i + 1) 0) go.sound h) e.2 in
              (e.0, e.1, test g e.0 r.rest n.t n.more r.stage.tables s (ex ∙ r.stage.marks) (due_as n.t n.more n.due r.stage.rest).typed r.stage.rest.nodes ∙ ap (λ y. same_tree g e.0 (first_tree g y)) n.is)

          pub going_other : eq ≡ false → MatchAnswers types pairs arena part at vars held₀ (record { verdict = Differs; vars = env; live = held })
          going_other f = answered Differs (λ strict g ws b left ns r.
              let n = here r in
              let c = compared r ns in
              at_same r ∙ same_other strict g (shapes (drop (i + 2) pairs)) (bindings r.bound_to b.besides) left n.t n.v n.below (get_or pairs (i + 1) 0) c.0 c.1 (sym c.2 ∙ f))

          pub going_same : eq ≡ true → Going types pairs arena part at vars held₀ env held (i + 2) (p + 2 * size_in w)
          going_same f = record {
            read = omega (arith, go.read);
            near = omega (arith, go.near);
            sound = go.sound;
            kept = go.kept;
            fits = go.fits;
            grows = go.grows;
            run = λ strict g ws ts b left st ns. stepped strict g ws b left ns (go.run strict g ws ts b left st ns);
          }
            where
              stepped : (strict : Bool) (g : Grammar) (ws : Words) (b : Bindings) (left : State) → (match strict g (shapes pairs) ws b left ≡ stuck → ⊥) → Run types strict g pairs arena part at env held i p ws b left
                  → Run types strict g pairs arena part at env held (i + 2) (p + 2 * size_in w) ws b left
              stepped strict g ws b left ns r =
                  let n = here r in
                  let c = compared r ns in
                  record {
                    inside = omega (arith, tree_inside r, length-drop p part, r.inside);
                    rest = after g r.rest 1;
                    owed = n.more;
                    bound_to = r.bound_to;
                    stage = tree_on r env held r.bound_to r.stage.stands r.stage.counted;
                    same_run = at_same r ∙ same_there strict g (shapes (drop (i + 2) pairs)) (bindings r.bound_to b.besides) left n.t n.v n.below (get_or pairs (i + 1) 0) c.0 c.1 (sym c.2 ∙ f)
                        ∙ ap (λ y. match strict g (shapes (drop (i + 2) pairs)) (after g y 1) (bindings r.bound_to b.besides) left) (sym n.is);
                  }

      -- A NEW VARIABLE
      module _ (is : get_or pairs i 0 ≡ 64) (start : ℕ) (es : start ≡ at + p) where
        is_new_lem : shapes (get_or pairs i 0 ∷ get_or pairs (i + 1) 0 ∷ drop (i + 2) pairs) ≡ new (get_or pairs (i + 1) 0) ∷ shapes (drop (i + 2) pairs)
        is_new_lem = pair_new (get_or pairs i 0) (get_or pairs (i + 1) 0) (drop (i + 2) pairs) is

        at_new : {strict : Bool} {g : Grammar} {ws : Words} {b : Bindings} {left : State} (r : Run types strict g pairs arena part at env held i p ws b left)
            → match strict g (shapes pairs) ws b left ≡ match strict g (new (get_or pairs (i + 1) 0) ∷ shapes (drop (i + 2) pairs)) ((here r).t ∷ (here r).v ∷ (here r).below) (bindings r.bound_to b.besides) left
        at_new {strict} {g} {ws} {b} {left} r =
            r.same_run ∙ at_shape _ is_new_lem strict g r.rest (bindings r.bound_to b.besides) left
            ∙ ap (λ x. match strict g (new (get_or pairs (i + 1) 0) ∷ shapes (drop (i + 2) pairs)) x (bindings r.bound_to b.besides) left) (here r).is

        type_is : {strict : Bool} {g : Grammar} {ws : Words} {b : Bindings} {left : State} (r : Run types strict g pairs arena part at env held i p ws b left) → type_in w ≡ (here r).t
        type_is r = ap type_in (sym at_first) ∙ (here r).type_in_lem

        live_is : {strict : Bool} {g : Grammar} {ws : Words} {b : Bindings} {left : State} (r : Run types strict g pairs arena part at env held i p ws b left)
            → held + size_in w ≡ live (bindings r.bound_to b.besides) + size (first_tree g ((here r).t ∷ (here r).v ∷ (here r).below))
        live_is {g = g} r = let e : size_in w ≡ size (first_tree g ((here r).t ∷ (here r).v ∷ (here r).below)) = ap size_in (sym at_first) ∙ (here r).size_in_lem ∙ ap (λ x. size (first_tree g x)) (here r).is in omega (arith, r.stage.counted)

        few_bound : {strict : Bool} {g : Grammar} {ws : Words} {b : Bindings} {left : State} (r : Run types strict g pairs arena part at env held i p ws b left) → length r.bound_to ≡ env.n
        few_bound {g = g} r = env_length g arena (starts_of env) r.bound_to r.stage.stands ∙ starts_length env go.sound

        pub new_other : (type_in w ≡ get_or pairs (i + 1) 0 → ⊥) → MatchAnswers types pairs arena part at vars held₀ (record { verdict = Differs; vars = env; live = held })
        new_other h = answered Differs (λ strict g ws b left ns r.
            at_new r ∙ new_type strict g (shapes (drop (i + 2) pairs)) (bindings r.bound_to b.besides) left (here r).t (here r).v (here r).below (get_or pairs (i + 1) 0) (λ e. h (type_is r ∙ e)))

        pub new_over : type_in w ≡ get_or pairs (i + 1) 0 → 6144 < held + size_in w → MatchAnswers types pairs arena part at vars held₀ (record { verdict = Stops 44; vars = env; live = held })
        new_over e h = answered (Stops 44) (λ strict g ws b left ns r.
            at_new r ∙ new_full strict g (shapes (drop (i + 2) pairs)) (bindings r.bound_to b.besides) left (here r).t (here r).v (here r).below (get_or pairs (i + 1) 0) (sym (type_is r) ∙ e) (omega (arith, live_is r)))

        pub new_past : type_in w ≡ get_or pairs (i + 1) 0 → held + size_in w ≤ 6144 → 16 ≤ env.n → MatchAnswers types pairs arena part at vars held₀ (record { verdict = Differs; vars = env; live = held })
        new_past e h k = answered Differs (λ strict g ws b left ns r.
            absurd (ns (at_new r ∙ new_seventeenth strict g (shapes (drop (i + 2) pairs)) (bindings r.bound_to b.besides) left (here r).t (here r).v (here r).below (get_or pairs (i + 1) 0) (sym (type_is r) ∙ e) (omega (arith, live_is r)) (omega (arith, few_bound r)))))

        pub new_taken : type_in w ≡ get_or pairs (i + 1) 0 → held + size_in w ≤ 6144 → env.n < 16 → Going types pairs arena part at vars held₀ (bound env start) (held + size_in w) (i + 2) (p + 2 * size_in w)
        new_taken t h k = record {
          read = omega (arith, go.read);
          near = omega (arith, go.near);
          sound = sound_more env start go.sound k;
          kept = kept_more go.kept (kept_bound env start);
          fits = h;
          grows = omega (arith, go.grows);
          run = λ strict g ws ts b left st ns. stepped strict g ws b left (go.run strict g ws ts b left st ns);
        }
          where
            stepped : (strict : Bool) (g : Grammar) (ws : Words) (b : Bindings) (left : State) → Run types strict g pairs arena part at env held i p ws b left
                → Run types strict g pairs arena part at (bound env start) (held + size_in w) (i + 2) (p + 2 * size_in w) ws b left
            stepped strict g ws b left r =
                let n = here r in
                let u = first_tree g r.rest in
                let c = bindings r.bound_to b.besides in
                let due : Stage types g arena (drop p part) (at + p) env held r.rest (n.t ∷ n.more) c = stage_due n.t n.more n.due r.stage in
                let stands : Stands g arena start u = stands_as es (stands_here due) in
                let ev : EnvAt g arena (starts_of (bound env start)) (r.bound_to ++ u ∷ []) = env_as g arena (r.bound_to ++ u ∷ []) (starts_more env start go.sound k) (env_more g arena (starts_of env) r.bound_to start u r.stage.stands stands) in
                let cnt : held + size_in w ≡ b.besides + total (r.bound_to ++ u ∷ []) = omega (arith, total_more r.bound_to u, r.stage.counted, ap size_in (sym at_first) ∙ n.size_in_lem) in
                let tree : is_tree g (get_or pairs (i + 1) 0) (first_tree g (n.t ∷ n.v ∷ n.below)) ≡ true =
                ap₂ (λ a x. is_tree g a (first_tree g x)) (sym t ∙ type_is r) (sym n.is) ∙ tree_passes (onward due.rest).tree in
                record {
                  inside = omega (arith, tree_inside r, length-drop p part, r.inside);
                  rest = after g r.rest 1;
                  owed = n.more;
                  bound_to = r.bound_to ++ u ∷ [];
                  stage = tree_on r (bound env start) (held + size_in w) (r.bound_to ++ u ∷ []) ev cnt;
                  same_run = at_new r
                      ∙ new_bound strict g (shapes (drop (i + 2) pairs)) c left n.t n.v n.below (get_or pairs (i + 1) 0) (sym (type_is r) ∙ t) (omega (arith, live_is r)) (omega (arith, few_bound r)) tree
                      ∙ ap (λ y. match strict g (shapes (drop (i + 2) pairs)) (after g y 1) (bindings (r.bound_to ++ first_tree g y ∷ []) b.besides) left) (sym n.is);
                }

    -- THE PAIR THAT IS SET AGAINST

    module _ (r : Result ℕ Verdict) (told : PairTold types arena part (get_or pairs i 0) (get_or pairs (i + 1) 0) (start_at env (get_or pairs (i + 1) 0)) p env.n held r) where
      module _ (verdict : Verdict) (failed : r ≡ Err verdict) where
        differ : r ≡ Err Differs → MatchAnswers types pairs arena part at vars held₀ (record { verdict = Differs; vars = env; live = held }) → MatchAnswers types pairs arena part at vars held₀ (record { verdict = verdict; vars = env; live = held })
        differ z a = rw (err_is (sym failed ∙ z)) a

        new_failed : p + 2 ≤ length part → get_or pairs i 0 ≡ 64 → NewTold (get_or part p 0) (get_or pairs (i + 1) 0) env.n held r → MatchAnswers types pairs arena part at vars held₀ (record { verdict = verdict; vars = env; live = held })
        new_failed more e (other h z) = differ z (new_other more (get_or part p 0) refl e (at + p) refl h)
        new_failed more e (over h k z) = rw (err_is (sym failed ∙ z)) (new_over more (get_or part p 0) refl e (at + p) refl h k)
        new_failed more e (past h k m z) = differ z (new_past more (get_or part p 0) refl e (at + p) refl h k m)
        new_failed more e (taken h k m z) = absurd (no_words (sym failed ∙ z))

        pub pair_failed : MatchAnswers types pairs arena part at vars held₀ (record { verdict = verdict; vars = env; live = held })
        pair_failed = go_on told
          where
            go_on : PairTold types arena part (get_or pairs i 0) (get_or pairs (i + 1) 0) (start_at env (get_or pairs (i + 1) 0)) p env.n held r → MatchAnswers types pairs arena part at vars held₀ (record { verdict = verdict; vars = env; live = held })
            go_on (short h z) = differ z (going_short h)
            go_on (new more e n) = new_failed more e n
            go_on (unlike more e f s z) = differ z (going_other more (get_or part p 0) refl e f _ refl false (drop p part) refl s refl)
            go_on (like more e f s z) = absurd (no_words (sym failed ∙ z))
            go_on (type more e f h z) = differ z (going_type more (get_or part p 0) refl e f h)
            go_on (value more e f h k z) = differ z (going_value more (get_or part p 0) refl e f (get_or part (p + 1) 0) refl h k)
            go_on (node more e f h k z) = absurd (no_words (sym failed ∙ z))

      module _ (passed : ℕ) (fits : r ≡ Ok passed) where
        pub pair_bound : get_or pairs i 0 ≡ 64 → Going types pairs arena part at vars held₀ (bound env (at + p)) (held + passed / 2) (i + 2) (p + passed)
        pair_bound is = go_on told
          where
            new_on : p + 2 ≤ length part → NewTold (get_or part p 0) (get_or pairs (i + 1) 0) env.n held r → Going types pairs arena part at vars held₀ (bound env (at + p)) (held + passed / 2) (i + 2) (p + passed)
            new_on more (other h z) = absurd (no_words (sym z ∙ fits))
            new_on more (over h k z) = absurd (no_words (sym z ∙ fits))
            new_on more (past h k m z) = absurd (no_words (sym z ∙ fits))
            new_on more (taken h k m z) =
                let words : passed ≡ 2 * size_in (get_or part p 0) = ok_is (sym fits ∙ z) in
                let half : passed / 2 ≡ size_in (get_or part p 0) = omega arith in
                rw (half, words) (new_taken more (get_or part p 0) refl is (at + p) refl h k m)

            go_on : PairTold types arena part (get_or pairs i 0) (get_or pairs (i + 1) 0) (start_at env (get_or pairs (i + 1) 0)) p env.n held r → Going types pairs arena part at vars held₀ (bound env (at + p)) (held + passed / 2) (i + 2) (p + passed)
            go_on (short h z) = absurd (no_words (sym z ∙ fits))
            go_on (new more e n) = new_on more n
            go_on (unlike more e f s z) = absurd (e is)
            go_on (like more e f s z) = absurd (e is)
            go_on (type more e f h z) = absurd (e is)
            go_on (value more e f h k z) = absurd (e is)
            go_on (node more e f h k z) = absurd (e is)

        pub pair_on : (get_or pairs i 0 ≡ 64 → ⊥) → Going types pairs arena part at vars held₀ env held (i + 2) (p + passed)
        pair_on not_new = go_on told
          where
            go_on : PairTold types arena part (get_or pairs i 0) (get_or pairs (i + 1) 0) (start_at env (get_or pairs (i + 1) 0)) p env.n held r → Going types pairs arena part at vars held₀ env held (i + 2) (p + passed)
            go_on (short h z) = absurd (no_words (sym z ∙ fits))
            go_on (new more e n) = absurd (not_new e)
            go_on (unlike more e f s z) = absurd (no_words (sym z ∙ fits))
            go_on (like more e f s z) = rw (ok_is (sym fits ∙ z)) (going_same more (get_or part p 0) refl e f _ refl true (drop p part) refl s refl)
            go_on (type more e f h z) = absurd (no_words (sym z ∙ fits))
            go_on (value more e f h k z) = absurd (no_words (sym z ∙ fits))
            go_on (node more e f h k z) = rw (ok_is (sym fits ∙ z)) (going_node more (get_or part p 0) refl e f (get_or part (p + 1) 0) refl h k)

-- A replacement that is finished, and one that becomes a variable. Assumes nothing.
use borrow.Author.Tests.{le-leb, lt-leb}
use Rattle.rewrite.specs.Arena.{Within}
use Prim.Native.Nat.{ℕ, ◌+◌, ◌*◌, ◌<◌, ◌≤◌}
use mathlib.Core.Path.{◌≡◌, refl, sym, ◌∙◌, subst, ap}
use mathlib.Core.List.{[], ◌∷◌, ◌++◌}
use mathlib.Core.Bool.{true}
use mathlib.Core.Option.{Option, some}
use native.Mathlib.Omega.{arith}
use lib.ListN.{length, take, drop}
use lib.Dec.{ltb}
use borrow.Author.Tests.{ltb-true}
use Rattle.words.specs.Reader.{Words}
use Rattle.grammar.specs.Grammar.{Grammar}
use Rattle.tree.specs.Limits.{most_nesting}
use Rattle.tree.specs.Tree.{Trees, size, nesting, are_trees, is_tree}
use Rattle.tree.proofs.Trees.{pass_trees, trees_even}
use Rattle.rules.specs.Limits.{most_variables}
use Rattle.rules.specs.Rules as Rules
use Rattle.rules.specs.Rules.{construct, pieces}
use Rattle.meaning.specs.Limits.{most_live}
use Rattle.meaning.specs.declared.State.{State}
use Rattle.std.specs.Prelude.{Result, Ok, Err}
use Rattle.meaning.specs.Computation as Computation
use Rattle.meaning.specs.Computation.{ok, stop, Comp, then_of, ◌>>=◌, ◌>>◌, return, stop_unless, check, nesting_within}
use Rattle.meaning.specs.Meaning.{Bindings, live, bind, fill, finish, part, calls}
use Rattle.marks.specs.Marked.{marked}
use Rattle.rewrite.specs.Vars.{Vars, starts_of, bound, Sound}
use Rattle.rewrite.specs.Matching.{bindings}
use Rattle.rewrite.specs.declared.Verdict.TheVariants.{Matches, Stops}
use Rattle.rewrite.proofs.Matcher.{env_length, env_more, starts_length, starts_more, sound_more, kept_same, kept_bound, total_more}
use Rattle.rewrite.specs.Arena.{Closed, Standing, Says}
use Rattle.rules.specs.Views.{pairs_at}
use Rattle.calls.specs.Engine.{Open, Named, Room, Grown, Held, Given, Setting, Sure, TakenAs, Constructs, Fills, Finishes, part_on}
use Rattle.calls.specs.declared.Built.{Built}
use Rattle.rewrite.proofs.Standing.{standing_stands, standing_below}
use Rattle.calls.proofs.Frames.{env_up, env_kept, grown_same}
use Rattle.calls.proofs.Going.{and_nodes, and_is, then_ok, then_stop, sure_first, sure_as, check_sure, surely_sure, says_ok, says_stop, stop_says}

-- FINISHING

-- the nesting of a finished tree
module _ {B : Type 0} (g : Grammar) (ws : Words) (l : State) (k : Unit {0} → Comp B) where
  nesting_fits : nesting g ws ≤ most_nesting → then_of (nesting_within g ws l) k ≡ k tt l
  unfolding then_of nesting_within stop_unless
  nesting_fits h = rw (le-leb (nesting g ws) most_nesting h)

  nesting_over : most_nesting < nesting g ws → then_of (nesting_within g ws l) k ≡ stop 43 l
  unfolding then_of nesting_within stop_unless
  nesting_over h = rw (lt-leb (nesting g ws) most_nesting h)

module _ (given : Given) (w w' : Words) (at : ℕ) (frame : Open) (deep : ℕ) (left : State) (r : Built) (fills : Fills given w w' at frame deep left r) where
  abbrev filled_by : Grammar → Rules.Rules → Bindings → Computation.Result Words
  filled_by g rules b = fill true g rules (calls true g rules deep) (pieces (pairs_at given.book at)) b.env (live b) 0 left

  abbrev finished_by : ℕ → Grammar → Rules.Rules → Bindings → Computation.Result Words
  finished_by u g rules b = finish true g rules (calls true g rules deep) u (pieces (pairs_at given.book at)) b left

  -- what is left to do with the words
  abbrev closing : ℕ → Grammar → Words → Comp Words
  closing u g ws = do
    check true (are_trees g ws (u ∷ []))
    nesting_within g ws
    return ws

  finish_as : (u : ℕ) (g : Grammar) (rules : Rules.Rules) (b : Bindings) → finished_by u g rules b ≡ then_of (filled_by g rules b) (closing u g)
  unfolding finish
  finish_as u g rules b = refl

  fill_sure : (u : ℕ) (g : Grammar) (rules : Rules.Rules) (b : Bindings) → Sure (finished_by u g rules b) → Sure (filled_by g rules b)
  fill_sure u g rules b s = sure_first (filled_by g rules b) (closing u g) (sure_as (finish_as u g rules b) s)

  pub finishes_stopped : {k : ℕ} → r.nodes ≡ Err k → Finishes given w w' at frame deep left r
  finishes_stopped h u = record {
    few = fills.few;
    fits = fills.fits;
    less = fills.less;
    long = fills.long;
    meant = λ g rules b st hd sure.
        let q = fills.meant g rules b st hd (fill_sure u g rules b sure) in
        (q.0, stop_says _ _ r.left h (finish_as u g rules b ∙ then_stop _ (closing u g) _ r.left (says_stop _ _ r.left h q.1)));
  }

  module _ {n : ℕ} (h : r.nodes ≡ Ok n) (w'' : Words) (s : Result (Unit {0}) ℕ) (closed : Closed given.types w' w'' frame.top n s) where
    ends : (u : ℕ) (g : Grammar) (ws : Words) → Trees g (u ∷ []) ws → size ws ≡ n → take (2 * n) (drop frame.top w'') ≡ marked g ws
        → (s : Result (Unit {0}) ℕ) → Within most_nesting 43 (nesting g ws) s → (m : Computation.Result Words) → m ≡ then_of (nesting_within g ws r.left) (λ z. return ws)
        → Says (λ nodes ws. Standing g w'' frame.top nodes u ws) (and_nodes s n) r.left m
    ends u g ws t e words (Ok v) q m run =
        (ws, record { tree = record { typed = t; nodes = omega (arith, fills.few h); nested = q }; nodes = e; words = words }, run ∙ nesting_fits g ws r.left (λ z. return ws) q)
    ends u g ws t e words (Err k) q m run = run ∙ nesting_over g ws r.left (λ z. return ws) q.0 ∙ ap (λ j. stop j r.left) (sym q.1)

    pub finishes_closed : (r' : Result ℕ ℕ) → r' ≡ and_nodes s n → Finishes given w w'' at frame deep left (record { nodes = r'; left = r.left })
    finishes_closed r' e u = rw e (record {
      few = λ z. omega (arith, and_is s n z, fills.few h);
      fits = λ z. omega (arith, and_is s n z, fills.fits h);
      less = fills.less;
      long = closed.long ∙ fills.long;
      meant = meant;
    })
      where
        meant : (g : Grammar) (rules : Rules.Rules) (b : Bindings) → Setting given g rules → Held g w frame b → Sure (finished_by u g rules b)
            → (take frame.top w'' ≡ take frame.top w) × Says (λ nodes ws. Standing g w'' frame.top nodes u ws) (and_nodes s n) r.left (finished_by u g rules b)
        meant g rules b st hd sure =
            let q = fills.meant g rules b st hd (fill_sure u g rules b sure) in
            let f = says_ok _ _ r.left h q.1 in
            let ws : Words = f.0 in
            let run = finish_as u g rules b ∙ then_ok _ (closing u g) ws r.left f.2 in
            let c = check_sure (are_trees g ws (u ∷ [])) r.left (λ z. ◌>>◌ (nesting_within g ws) (return ws)) (sure_as run sure) in
            let t : Trees g (u ∷ []) ws = pass_trees ws (u ∷ []) c.0 in
            let e : size ws ≡ n = omega (arith, trees_even t, f.1.0) in
            let k = closed.closed g u ws st.types_of t e (fills.few h) f.1.1 in
            (k.0 ∙ q.0, ends u g ws t e k.1 s k.2 (finished_by u g rules b) (run ∙ c.1))

-- A NEW VARIABLE

-- what is open stays so
module _ (frame : Open) (n : ℕ) (few : frame.live + n ≤ most_live) (low : frame.top ≤ 2 * frame.live) where
  more_open : (vars : Vars) → Named frame.vars frame.top vars → Grown frame (record { vars = vars; live = frame.live + n; top = frame.top + 2 * n })
  more_open vars v = record { sound = v.sound; kept = v.kept; few = few; low = omega arith; more = omega arith; higher = omega arith }

-- one more is bound where there is room for it
pub named_bound : (v : Vars) (start : ℕ) → Sound v → v.n < 16 → Named v start (bound v start)
named_bound v start s h = record { sound = sound_more v start s h; kept = kept_bound v start; is = λ k. refl }

pub named_none : (v : Vars) (start : ℕ) → Sound v → 16 ≤ v.n → Named v start v
named_none v start s h = record { sound = s; kept = kept_same v; is = λ k. absurd (omega arith) }

-- the tree on top as a variable
held_more : {g : Grammar} {w w' : Words} {frame : Open} {b : Bindings} {u n : ℕ} {t : Words} → Sound frame.vars → frame.vars.n < 16 → Held g w frame b → take frame.top w' ≡ take frame.top w
    → Standing g w' frame.top n u t
    → Held g w' (record { vars = bound frame.vars frame.top; live = frame.live + n; top = frame.top + 2 * n }) (bindings (b.env ++ t ∷ []) b.besides)
held_more {g} {w} {w'} {frame} {b} {u} {n} {t} s h hd e x =
    let up = env_up g w' frame.top (frame.top + 2 * n) (omega arith) (starts_of frame.vars) b.env (env_kept g w w' frame.top e (starts_of frame.vars) b.env hd.stands) in
    let here = standing_stands (take (frame.top + 2 * n) w') (standing_below w' (frame.top + 2 * n) (omega arith) x) in
    record {
      stands = rw (starts_more frame.vars frame.top s h) (env_more g (take (frame.top + 2 * n) w') (starts_of frame.vars) b.env frame.top t up here);
      counted = omega (arith, hd.counted, x.nodes, total_more b.env t);
    }

module _ (given : Given) (w w' : Words) (at next : ℕ) (frame : Open) (deep : ℕ) (left : State) (room : Room w frame) (f : Built)
    (finishes : Finishes given w w' at frame deep left f) where
  abbrev finished_as : ℕ → Grammar → Rules.Rules → Bindings → Computation.Result Words
  finished_as u g rules b = finish true g rules (calls true g rules deep) u (pieces (pairs_at given.book at)) b left

  abbrev built_by : ℕ → Grammar → Rules.Rules → Bindings → Computation.Result (Option Bindings)
  built_by u g rules b = part_on deep (construct u (pieces (pairs_at given.book at))) g rules b left

  -- what is left to do with the tree
  abbrev binding : ℕ → Grammar → Bindings → Words → Comp (Option Bindings)
  binding u g b t = do
    c ← bind true g u t b
    return (some c)

  part_as_lem : (u : ℕ) (g : Grammar) (rules : Rules.Rules) (b : Bindings) → built_by u g rules b ≡ then_of (finished_as u g rules b) (binding u g b)
  unfolding part
  part_as_lem u g rules b = refl

  finish_sure : (u : ℕ) (g : Grammar) (rules : Rules.Rules) (b : Bindings) → Sure (built_by u g rules b) → Sure (finished_as u g rules b)
  finish_sure u g rules b s = sure_first (finished_as u g rules b) (binding u g b) (sure_as (part_as_lem u g rules b) s)

  -- a tree that is bound: there was room for one more
  bind_sure : (u : ℕ) (g : Grammar) (b : Bindings) (t : Words) (l : State) → Sure (binding u g b t l) → (length b.env < most_variables) × (binding u g b t l ≡ ok (some (bindings (b.env ++ t ∷ []) b.besides)) l)
  unfolding bind
  bind_sure u g b t l s =
      let a = surely_sure (ltb (length b.env) most_variables) l (λ z. ◌>>◌ (check true (is_tree g u t)) (return (bindings (b.env ++ t ∷ []) b.besides))) (sure_first _ _ s) in
      let c = check_sure (is_tree g u t) l (λ z. return (bindings (b.env ++ t ∷ []) b.besides)) (sure_as a.1 (sure_first _ _ s)) in
      (ltb-true (length b.env) most_variables a.0, then_ok _ _ (bindings (b.env ++ t ∷ []) b.besides) l (a.1 ∙ c.1))

  pub constructs_stopped : {k : ℕ} → f.nodes ≡ Err k → Constructs given w w' at next frame deep left (record { verdict = Stops k; frame = frame; left = f.left; next = next })
  constructs_stopped h = record {
    next_is = refl;
    takes = λ u. record {
      grown = grown_same room;
      less = (finishes u).less;
      long = (finishes u).long;
      meant = λ g rules b st hd sure.
          let q = (finishes u).meant g rules b st hd (finish_sure u g rules b sure) in
          (q.0, part_as_lem u g rules b ∙ then_stop _ (binding u g b) _ f.left (says_stop _ _ f.left h q.1));
    };
  }

  module _ {n : ℕ} (h : f.nodes ≡ Ok n) (vars : Vars) (v : Named frame.vars frame.top vars) where
    -- what is open then
    abbrev more : Open
    more = record { vars = vars; live = frame.live + n; top = frame.top + 2 * n }

    matched : (u : ℕ) (g : Grammar) (rules : Rules.Rules) (b : Bindings) → Setting given g rules → Held g w frame b → Sure (built_by u g rules b)
        → (take frame.top w' ≡ take frame.top w) × TakenAs g w' b.besides Matches more f.left (built_by u g rules b)
    matched u g rules b st hd sure =
        let q = (finishes u).meant g rules b st hd (finish_sure u g rules b sure) in
        let k = says_ok _ _ f.left h q.1 in
        let t : Words = k.0 in
        let run = part_as_lem u g rules b ∙ then_ok _ (binding u g b) t f.left k.2 in
        let c = bind_sure u g b t f.left (sure_as run sure) in
        let low : frame.vars.n < 16 = omega (arith, c.0, env_length g (take frame.top w) (starts_of frame.vars) b.env hd.stands, starts_length frame.vars room.sound) in
        (q.0, (b.env ++ t ∷ [], subst (λ x. Held g w' x (bindings (b.env ++ t ∷ []) b.besides)) (sym (ap (λ x. record { vars = x; live = frame.live + n; top = frame.top + 2 * n }) (v.is low))) (held_more room.sound low hd q.0 k.1), run ∙ c.1))

    pub constructs_bound : Constructs given w w' at next frame deep left (record { verdict = Matches; frame = more; left = f.left; next = next })
    constructs_bound = record { next_is = refl; takes = λ u. record { grown = more_open frame n ((finishes u).fits h) room.low vars v; less = (finishes u).less; long = (finishes u).long; meant = matched u } }

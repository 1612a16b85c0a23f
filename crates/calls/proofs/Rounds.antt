-- What `call` ensures, from what `seek` and `replace` ensure: the whole call is the rounds from the scope as it is now. Assumes nothing.
use Prim.Native.Nat.{ℕ, zero, suc, ◌+◌, ◌*◌, ◌<◌, ◌≤◌}
use mathlib.Core.Path.{◌≡◌, refl, sym, ap, ◌∙◌, subst}
use mathlib.Core.List.{List}
use mathlib.Core.Bool.{Bool, true, false, not}
use mathlib.Core.Option.{Option, none, some}
use native.Mathlib.Omega.{arith}
use lib.ListN.{length, get_or, take, drop, length-append, length-drop}
use borrow.Author.Tests.{le-leb, lt-leb}
use Rattle.words.specs.Reader.{Words, value}
use Rattle.grammar.specs.Limits.{most_types}
use Rattle.grammar.specs.Grammar.{Grammar}
use Rattle.tree.specs.Limits.{most_nodes}
use Rattle.tree.specs.Tree.{size, after, first_tree}
use Rattle.tree.proofs.Trees.{trees_even, first_after}
use Rattle.rules.specs.Rules as Rules
use Rattle.rules.specs.Rules.{Piece, Rule, root_only, first_match, exhaustive, one_pass, searches, pieces}
use Rattle.rules.specs.Layout as Layout
use Rattle.meaning.specs.Limits.{most_live}
use Rattle.meaning.specs.declared.State.{State}
use Rattle.std.specs.Prelude.{Ok, Err, Some, None}
use Rattle.meaning.specs.Computation as Computation
use Rattle.meaning.specs.Computation.{ok, stop, then_of, stop_unless, whether, return, live_within}
use Rattle.meaning.specs.Meaning as M
use Rattle.meaning.specs.Meaning.{Env, total, live, Ending, done, stopped, cannot_go_on, called, opened, Turned, after_round, start, begin, fits, calls}
use Rattle.rewrite.specs.Vars.{Vars, EnvAt, starts_of}
use Rattle.rewrite.specs.Matching.{bindings}
use Rattle.rewrite.specs.Arena.{Standing, Says}
use Rattle.rules.specs.Views.{pairs_at, Planned, strategy_as, again_of, onward_of}
use Rattle.calls.specs.Engine.{Open, Seeking, Room, Held, Given, Setting, Sure, SoughtAs, Begins, seek_from, EndedAs, FoundFits, Tree, Seeks, Replaces, Left, Calls}
use Rattle.rules.specs.declared.Plan.{Plan}
use Rattle.calls.specs.Places.{Place, Halted}
use Rattle.calls.specs.declared.Built.{Built}
use Rattle.calls.specs.declared.Called.{Called}
use Rattle.marks.specs.Marked.{size_in}
use Rattle.rewrite.proofs.Standing.{take_less, standing_kept, standing_below}
use Rattle.rewrite.proofs.Placing.{child_there}
use Rattle.calls.proofs.Frames.{env_up, env_kept}
use Rattle.calls.proofs.Going.{then_ok, then_stop, sure_first, sure_as, says_ok, says_stop}
use Rattle.calls.proofs.Applied.{begin_sure}

-- HOW A CALL OPENS

live_within_lem : (n : ℕ) (l : State) → n ≤ most_live → live_within n l ≡ ok tt l
unfolding live_within stop_unless
live_within_lem n l h = rw (le-leb n most_live h)

live_beyond : (n : ℕ) (l : State) → most_live < n → live_within n l ≡ stop 44 l
unfolding live_within stop_unless
live_beyond n l h = rw (lt-leb n most_live h)

opened_sure : (scope : Words) (rest : State → M.Called) (m : Computation.Result (Unit {0})) → ((opened scope rest m).ending ≡ cannot_go_on → ⊥) → Sure m
unfolding opened
opened_sure scope rest m h e = h (rw e)

opened_ok : (scope : Words) (rest : State → M.Called) (m : Computation.Result (Unit {0})) (l : State) → m ≡ ok tt l → opened scope rest m ≡ rest l
unfolding opened
opened_ok scope rest m l e = rw e

opened_stop : (scope : Words) (rest : State → M.Called) (m : Computation.Result (Unit {0})) (n : ℕ) (l : State) → m ≡ stop n l → opened scope rest m ≡ called scope 0 (stopped n) l
unfolding opened
opened_stop scope rest m n l e = rw e

module _ (g : Grammar) (rules : Rules.Rules) (deeper : M.Calls) (r : Rule) (args : Env) (scope : Words) (others : ℕ) (left : State) where
  -- the rounds of a call that has begun
  abbrev Begun : List Piece → M.Called → Type 0
  Begun ps c = (live (start args scope others) ≤ most_live → c ≡ M.rounds true g rules deeper (suc left.attempts) r ps args scope 0 others 0 left)
      × (most_live < live (start args scope others) → c ≡ called scope 0 (stopped 44) left)

  with_begins : (o : Option (List Piece)) → ((M.call_with true g rules deeper o r args scope others left).ending ≡ cannot_go_on → ⊥)
      → (ps : List Piece) × (o ≡ some ps) × Begun ps (M.call_with true g rules deeper o r args scope others left)
  unfolding M.call_with
  with_begins none h = absurd (h refl)
  with_begins (some ps) h =
      let rest : State → M.Called = λ now. M.rounds true g rules deeper (suc now.attempts) r ps args scope 0 others 0 now in
      let m = begin true g r args scope others left in
      let e = (begin_sure g r args scope others left (opened_sure scope rest m h)).1 in
      (ps, refl, (λ f. opened_ok scope rest m left (e ∙ live_within_lem (live (start args scope others)) left f), λ f. opened_stop scope rest m 44 left (e ∙ live_beyond (live (start args scope others)) left f)))

  call_begins : ((M.call true g rules deeper r args scope others left).ending ≡ cannot_go_on → ⊥)
      → (ps : List Piece) × (r.replacement ≡ some ps) × Begun ps (M.call true g rules deeper r args scope others left)
  unfolding M.call
  call_begins h = with_begins r.replacement h

-- ONE ROUND

-- where the rounds go on after a replacement
abbrev place_after : Rules.Strategy → Turned → ℕ
place_after root_only t = 0
place_after first_match t = 0
place_after exhaustive t = 0
place_after one_pass t = t.behind

module _ (scope : Words) (k : ℕ) (rest : Words → ℕ → State → M.Called) (m : Computation.Result (Option Turned)) where
  after_sure : (s : Rules.Strategy) → ((after_round scope k s rest m).ending ≡ cannot_go_on → ⊥) → Sure m
  unfolding after_round
  after_sure root_only h e = h (rw e)
  after_sure first_match h e = h (rw e)
  after_sure exhaustive h e = h (rw e)
  after_sure one_pass h e = h (rw e)

  after_none : (s : Rules.Strategy) (l : State) → m ≡ ok none l → after_round scope k s rest m ≡ called scope k done l
  unfolding after_round
  after_none root_only l e = rw e
  after_none first_match l e = rw e
  after_none exhaustive l e = rw e
  after_none one_pass l e = rw e

  after_stop : (s : Rules.Strategy) (n : ℕ) (l : State) → m ≡ stop n l → after_round scope k s rest m ≡ called scope k (stopped n) l
  unfolding after_round
  after_stop root_only n l e = rw e
  after_stop first_match n l e = rw e
  after_stop exhaustive n l e = rw e
  after_stop one_pass n l e = rw e

  after_done : (s : Rules.Strategy) (t : Turned) (l : State) → again_of (strategy_as s) ≡ false → m ≡ ok (some t) l → after_round scope k s rest m ≡ called t.scope (suc k) done l
  unfolding after_round
  after_done root_only t l a e = rw e
  after_done first_match t l a e = rw e
  after_done exhaustive t l a e = let z : ◌≡◌ {A = ℕ} 0 1 = cc in absurd (omega arith)
  after_done one_pass t l a e = let z : ◌≡◌ {A = ℕ} 0 1 = cc in absurd (omega arith)

  after_again : (s : Rules.Strategy) (t : Turned) (l : State) → again_of (strategy_as s) ≡ true → m ≡ ok (some t) l → after_round scope k s rest m ≡ rest t.scope (place_after s t) l
  unfolding after_round
  after_again root_only t l a e = let z : ◌≡◌ {A = ℕ} 0 1 = cc in absurd (omega arith)
  after_again first_match t l a e = let z : ◌≡◌ {A = ℕ} 0 1 = cc in absurd (omega arith)
  after_again exhaustive t l a e = rw e
  after_again one_pass t l a e = rw e

module _ (g : Grammar) (rules : Rules.Rules) (deeper : M.Calls) (r : Rule) (ps : List Piece) (args : Env) (now : Words) (place others : ℕ) where
  abbrev sought : State → Computation.Result (Option M.Found)
  sought left = M.seek true g rules deeper r (drop place now) place (start args now others) left

  abbrev turned : State → Computation.Result (Option Turned)
  turned left = M.turn true g rules deeper r ps args now place others left

  abbrev turned_to : M.Found → Words → Turned
  turned_to f ws = record { scope = ws; behind = f.place + length (first_tree g (drop f.place ws)) }

  abbrev replaced : M.Found → State → Computation.Result Words
  replaced f left = M.replace true g rules deeper r.target ps now f left

  module _ (left : State) where
    seek_sure : Sure (turned left) → Sure (sought left)
    unfolding M.turn
    seek_sure s = sure_first (sought left) _ s

    turn_none : (l : State) → sought left ≡ ok none l → turned left ≡ ok none l
    unfolding M.turn then_of whether
    turn_none l e = rw e

    turn_stop : (n : ℕ) (l : State) → sought left ≡ stop n l → turned left ≡ stop n l
    unfolding M.turn then_of
    turn_stop n l e = rw e

    turn_found : (f : M.Found) (l : State) → sought left ≡ ok (some f) l → turned left ≡ then_of (replaced f l) (λ ws. return (some (turned_to f ws)))
    unfolding M.turn then_of whether
    turn_found f l e = rw e

  module _ (most k : ℕ) (left : State) where
    abbrev round : M.Called
    round = M.rounds true g rules deeper (suc most) r ps args now place others k left

    turn_sure : (round.ending ≡ cannot_go_on → ⊥) → Sure (turned left)
    unfolding M.rounds
    turn_sure h = after_sure now k _ (turned left) r.strategy h

    round_none : (l : State) → sought left ≡ ok none l → round ≡ called now k done l
    unfolding M.rounds
    round_none l e = after_none now k _ (turned left) r.strategy l (turn_none left l e)

    round_stop : (n : ℕ) (l : State) → sought left ≡ stop n l → round ≡ called now k (stopped n) l
    unfolding M.rounds
    round_stop n l e = after_stop now k _ (turned left) r.strategy n l (turn_stop left n l e)

    module _ (f : M.Found) (l : State) (e : sought left ≡ ok (some f) l) where
      replace_sure : Sure (turned left) → Sure (replaced f l)
      replace_sure s = sure_first (replaced f l) (λ ws. return (some (turned_to f ws))) (sure_as (turn_found left f l e) s)

      round_cut : (n : ℕ) (l₂ : State) → replaced f l ≡ stop n l₂ → round ≡ called now k (stopped n) l₂
      unfolding M.rounds
      round_cut n l₂ q = after_stop now k _ (turned left) r.strategy n l₂ (turn_found left f l e ∙ then_stop (replaced f l) (λ ws. return (some (turned_to f ws))) n l₂ q)

      round_done : (ws : Words) (l₂ : State) → again_of (strategy_as r.strategy) ≡ false → replaced f l ≡ ok ws l₂ → round ≡ called ws (suc k) done l₂
      unfolding M.rounds
      round_done ws l₂ a q = after_done now k _ (turned left) r.strategy (turned_to f ws) l₂ a (turn_found left f l e ∙ then_ok (replaced f l) (λ ws. return (some (turned_to f ws))) ws l₂ q)

      round_again : (ws : Words) (l₂ : State) → again_of (strategy_as r.strategy) ≡ true → replaced f l ≡ ok ws l₂
          → round ≡ M.rounds true g rules deeper most r ps args ws (place_after r.strategy (turned_to f ws)) others (suc k) l₂
      unfolding M.rounds
      round_again ws l₂ a q = after_again now k _ (turned left) r.strategy (turned_to f ws) l₂ a (turn_found left f l e ∙ then_ok (replaced f l) (λ ws. return (some (turned_to f ws))) ws l₂ q)

rounds_at : (g : Grammar) (rules : Rules.Rules) (deeper : M.Calls) (r : Rule) (ps : List Piece) (args : Env) (now : Words) (others : ℕ) (left : State) (most most' place place' k k' : ℕ) → most ≡ most' → place ≡ place' → k ≡ k'
    → M.rounds true g rules deeper most r ps args now place others k left ≡ M.rounds true g rules deeper most' r ps args now place' others k' left
rounds_at g rules deeper r ps args now others left most most' place place' k k' e p q = rw (e, p, q)

-- WHERE THE SEARCH GOES ON, after a tree was put in place of node j of the scope

module _ {g : Grammar} {w : Words} {base n t : ℕ} {ws : Words} (few : length g ≤ most_types) (stands : Standing g w base n t ws) (j : ℕ) (inside : j < n) where
  -- the mark there has the tree's size, and the tree ends inside
  put_there : (size_in (get_or w (base + 2 * j) 0) ≡ size (first_tree g (drop (2 * j) ws))) × (length (first_tree g (drop (2 * j) ws)) ≡ 2 * size (first_tree g (drop (2 * j) ws)))
      × (j + size (first_tree g (drop (2 * j) ws)) ≤ n)
  put_there =
      let small = stands.tree.nodes in
      let x = drop (2 * j) ws in
      let c = (child_there g t j ws (omega (arith, stands.nodes)) stands.tree.typed w base n few stands.nodes (omega (arith, stands.nodes)) stands.words).2 in
      (c.counted, trees_even c.tree, omega (arith, stands.nodes, trees_even c.tree, trees_even stands.tree.typed, ap length (first_after g x 1), length-append (first_tree g x) (after g x 1), length-drop (2 * j) ws))

  onward_place : (s : Rules.Strategy) → 2 * onward_of (strategy_as s) j (size_in (get_or w (base + 2 * j) 0)) ≡ place_after s (record { scope = ws; behind = 2 * j + length (first_tree g (drop (2 * j) ws)) })
  onward_place root_only = refl
  onward_place first_match = refl
  onward_place exhaustive = refl
  onward_place one_pass = let x = put_there in omega (arith, x.0, x.1)

  onward_begins : (r : Rule) (s : Rules.Strategy) → r.strategy ≡ s → Begins r n (onward_of (strategy_as s) j (size_in (get_or w (base + 2 * j) 0)))
  onward_begins r root_only e = record { inside = omega arith; root = λ _. refl }
  onward_begins r first_match e = record { inside = omega arith; root = λ _. refl }
  onward_begins r exhaustive e = record { inside = omega arith; root = λ _. refl }
  onward_begins r one_pass e = let x = put_there in record { inside = omega (arith, x.0, x.2); root = λ h. absurd (searching (ap searches (sym e) ∙ h)) }
    where
      searching : true ≡ false → ⊥
      searching z = let y : ◌≡◌ {A = ℕ} 0 1 = cc in omega arith

-- THE CALL

not_true : (b : Bool) → not b ≡ true → b ≡ false
not_true true e = let z : ◌≡◌ {A = ℕ} 0 1 = cc in absurd (omega arith)
not_true false e = refl

not_false : (b : Bool) → not b ≡ false → b ≡ true
not_false true e = refl
not_false false e = let z : ◌≡◌ {A = ℕ} 0 1 = cc in absurd (omega arith)

pred_of : (n m : ℕ) → m < n → (k : ℕ) × (n ≡ suc k)
pred_of zero m h = absurd (omega arith)
pred_of (suc k) m h = (k, refl)

module _ (given : Given) (w₀ : Words) (at base n : ℕ) (vars : Vars) (besides deep : ℕ) (left : State) where
  -- a call of the meaning that goes on, of which the contract speaks
  pub record Case (g : Grammar) (rules : Rules.Rules) (rule : Rule) (next : ℕ) (args : Env) (scope : Words) (others : ℕ) : Type 0 where
    pub setting : Setting given g rules
    pub read : Layout.rule given.types.count given.book at ≡ value rule next
    pub env : EnvAt g (take base w₀) (starts_of vars) args
    pub counted : besides ≡ others + total args
    pub tree : Tree g w₀ base n scope
    pub goes : (M.call true g rules (calls true g rules deep) rule args scope others left).ending ≡ cannot_go_on → ⊥

  -- the scope now, and the rounds from one of its nodes on
  pub record Round (w : Words) (nodes : ℕ) (fuel : State) (count from : ℕ) (g : Grammar) (rules : Rules.Rules) (rule : Rule) (args : Env) (scope : Words) (others : ℕ) : Type 0 where
    pub type : ℕ
    pub now : Words
    pub stands : Standing g w base nodes type now
    pub ps : List Piece
    pub replaces : rule.replacement ≡ some ps
    pub most : ℕ
    pub enough : fuel.attempts ≤ most
    pub begins : Begins rule nodes from
    pub rest : M.call true g rules (calls true g rules deep) rule args scope others left
        ≡ M.rounds true g rules (calls true g rules deep) (suc most) rule ps args now (2 * from) others count fuel

  -- before a round. Only at the first can too many nodes be live
  pub record Calling (w : Words) (nodes : ℕ) (fuel : State) (count from : ℕ) : Type 0 where
    pub few : nodes ≤ most_nodes
    pub fits : (k : ℕ) → k ≤ besides → k + n ≤ most_live → k + nodes ≤ most_live
    pub less : fuel.attempts ≤ left.attempts
    pub spent : count + fuel.attempts ≤ left.attempts
    pub long : length w ≡ length w₀
    pub first : most_live < besides + nodes → (w ≡ w₀) × (nodes ≡ n) × (fuel ≡ left) × (count ≡ 0)
    pub meant : (g : Grammar) (rules : Rules.Rules) (rule : Rule) (next : ℕ) (args : Env) (scope : Words) (others : ℕ) → Case g rules rule next args scope others
        → (take base w ≡ take base w₀) × (besides + nodes ≤ most_live → Round w nodes fuel count from g rules rule args scope others)

  -- the contract
  abbrev Answers : Words → Called → Type 0
  Answers w r = Calls given w₀ w at base n vars besides deep left r

  -- after a search, by where it ended
  pub record Searched (nodes count : ℕ) (w : Words) (s : Seeking) : Type 0 where
    pub room : 16384 ≤ length w₀ → Room w s.frame
    pub place : (j : ℕ) → s.found ≡ Ok (Some j) → (j < nodes) × (base + 2 * nodes ≤ s.frame.top)
    pub nowhere : s.found ≡ Ok None → Answers w (record { stop = None; nodes = nodes; left = s.left; replacements = count })
    pub stops : {number : ℕ} → s.found ≡ Err number → Answers w (record { stop = Some number; nodes = nodes; left = s.left; replacements = count })

  -- after a replacement of node j
  pub record Placed (plan : Plan) (nodes : ℕ) (fuel : State) (count : ℕ) (repeats : Bool) (j : ℕ) (w : Words) (b : Built) : Type 0 where
    pub long : length w ≡ length w₀
    pub spent : b.left.attempts < fuel.attempts
    pub counted : count + 1 + b.left.attempts ≤ left.attempts
    pub stops : {number : ℕ} → b.nodes ≡ Err number → Answers w (record { stop = Some number; nodes = nodes; left = b.left; replacements = count })
    pub last : {now : ℕ} → b.nodes ≡ Ok now → not repeats ≡ true → Answers w (record { stop = None; nodes = now; left = b.left; replacements = count + 1 })
    pub again : {now : ℕ} → b.nodes ≡ Ok now → not repeats ≡ false → Calling w now b.left (count + 1) (onward_of plan.strategy j (size_in (get_or w (base + 2 * j) 0)))

  -- what a call leaves, as the contract says it
  abbrev Leaves : Words → Called → Type 0
  Leaves w r = (g : Grammar) (rules : Rules.Rules) (rule : Rule) (next : ℕ) (args : Env) (scope : Words) (others : ℕ) → Case g rules rule next args scope others
      → (take base w ≡ take base w₀) × Left given w₀ w g base r (M.call true g rules (calls true g rules deep) rule args scope others left)

  -- .. with what it is answered by
  answers : {s : Halted} {nodes : ℕ} {l : State} {k : ℕ} (w : Words) → nodes ≤ most_nodes
      → ((k : ℕ) → k ≤ besides → k + n ≤ most_live → k + nodes ≤ most_live) → l.attempts ≤ left.attempts → length w ≡ length w₀ → Leaves w (record { stop = s; nodes = nodes; left = l; replacements = k })
      → Answers w (record { stop = s; nodes = nodes; left = l; replacements = k })
  answers w few fits less long leaves = record {
    few = few;
    fits = fits;
    less = less;
    long = long;
    meant = λ g rules rule next args scope others setting read env counted tree goes.
        leaves g rules rule next args scope others (record { setting = setting; read = read; env = env; counted = counted; tree = tree; goes = goes });
  }

  -- a call that has come to its end
  left_is : (w : Words) (g : Grammar) (s : Halted) (nodes k : ℕ) (left : State) (count : ℕ) (now : Words) (e : Ending) (c : M.Called) → c ≡ called now k e left → EndedAs s e → count ≡ k → Tree g w base nodes now
      → Left given w₀ w g base (record { stop = s; nodes = nodes; left = left; replacements = count }) c
  left_is w g s nodes k left count now e c q ends same tree = rw q (ends, refl, same, tree)

  -- what is live as a call begins
  module _ {g : Grammar} {rules : Rules.Rules} {rule : Rule} {next : ℕ} {args : Env} {scope : Words} {others : ℕ} (c : Case g rules rule next args scope others) where
    opens_live : live (start args scope others) ≡ besides + n
    opens_live = omega (arith, c.counted, c.tree.1.nodes)

  -- before the first round
  pub calling_start : n ≤ most_nodes → Calling w₀ n left 0 0
  calling_start few = record {
    few = few;
    fits = λ k a b. b;
    less = omega arith;
    spent = omega arith;
    long = refl;
    first = λ o. (refl, refl, refl, refl);
    meant = λ g rules rule next args scope others c.
        let x = call_begins g rules (calls true g rules deep) rule args scope others left c.goes in (
          refl,
          λ f. record {
            type = c.tree.0;
            now = scope;
            stands = c.tree.1;
            ps = x.0;
            replaces = x.1;
            most = left.attempts;
            enough = omega arith;
            begins = record { inside = omega arith; root = λ _. refl };
            rest = x.2.0 (omega (arith, opens_live c));
          },
        );
  }

  module _ (w : Words) (nodes : ℕ) (fuel : State) (count from : ℕ) (i : Calling w nodes fuel count from) where
    -- too many nodes are live
    pub calls_over : {number : ℕ} → number ≡ 44 → most_live < besides + nodes → Answers w (record { stop = Some number; nodes = nodes; left = fuel; replacements = count })
    calls_over e o =
        let x = i.first o in
        rw (e, x.0, x.1, x.2, x.3) (answers w₀ (omega (arith, i.few, x.1)) (λ k a b. b) (omega arith) refl
        (λ g rules rule next args scope others c.
        let y = call_begins g rules (calls true g rules deep) rule args scope others left c.goes in
        (refl, left_is w₀ g (Some 44) n 0 left 0 scope (stopped 44) _ (y.2.1 (omega (arith, opens_live c, x.1))) refl refl c.tree)))

    abbrev frame : Open
    frame = record { vars = vars; live = besides + nodes; top = base + 2 * nodes }

    module _ (fit : besides + nodes ≤ most_live) (plan : Plan) (planned : (rule : Rule) (next : ℕ) → Layout.rule given.types.count given.book at ≡ value rule next → Planned given.types.count given.book rule plan) (w₁ : Words) (s : Seeking)
        (x : Seeks given w w₁ plan base nodes frame deep fuel from s) where
      fits_as : (v : Place) → s.found ≡ v → FoundFits nodes fuel v s.left
      fits_as v f = subst (λ z. FoundFits nodes fuel z s.left) f x.fits

      module _ {g : Grammar} {rules : Rules.Rules} {rule : Rule} {next : ℕ} {args : Env} {scope : Words} {others : ℕ} (c : Case g rules rule next args scope others) where
        here : Round w nodes fuel count from g rules rule args scope others
        here = (i.meant g rules rule next args scope others c).1 fit

        kept : take base w ≡ take base w₀
        kept = (i.meant g rules rule next args scope others c).0

        held : Held g w frame (start args here.now others)
        held = record {
          stands = env_up g w base (base + 2 * nodes) (omega arith) (starts_of vars) args (env_kept g w₀ w base kept (starts_of vars) args c.env);
          counted = omega (arith, c.counted, here.stands.nodes);
        }

        turn_goes : Sure (M.turn true g rules (calls true g rules deep) rule here.ps args here.now (2 * from) others fuel)
        turn_goes = turn_sure g rules (calls true g rules deep) rule here.ps args here.now (2 * from) others here.most count fuel (λ e. c.goes (ap (λ z. z.ending) here.rest ∙ e))

        found : (take (base + 2 * nodes) w₁ ≡ take (base + 2 * nodes) w)
            × SoughtAs g w₁ (others + size here.now) given.book rule s.found s.frame s.left s.next (seek_from deep g rules rule here.now from (start args here.now others) fuel)
        found =
            x.meant g rules rule (start args here.now others) here.now c.setting (planned rule next c.read) held (here.type, standing_below w (base + 2 * nodes) (omega arith) here.stands) here.begins
            (seek_sure g rules (calls true g rules deep) rule here.ps args here.now (2 * from) others fuel turn_goes)

        found_as : (v : Place) → s.found ≡ v
            → SoughtAs g w₁ (others + size here.now) given.book rule v s.frame s.left s.next (seek_from deep g rules rule here.now from (start args here.now others) fuel)
        found_as v f =
            subst (λ z. SoughtAs g w₁ (others + size here.now) given.book rule z s.frame s.left s.next (seek_from deep g rules rule here.now from (start args here.now others) fuel)) f found.1

        kept₁ : take base w₁ ≡ take base w₀
        kept₁ = take_less base (base + 2 * nodes) w w₁ (omega arith) found.0 ∙ kept

        stands₁ : Standing g w₁ base nodes here.type here.now
        stands₁ = standing_kept w w₁ (base + 2 * nodes) (omega arith) found.0 here.stands

      -- there is no match
      calls_nowhere : s.found ≡ Ok None → Answers w₁ (record { stop = None; nodes = nodes; left = s.left; replacements = count })
      calls_nowhere f =
          answers w₁ i.few i.fits (omega (arith, fits_as (Ok None) f, i.less)) (x.long ∙ i.long)
          (λ g rules rule next args scope others c.
          let d = here c in
          let q = round_none g rules (calls true g rules deep) rule d.ps args d.now (2 * from) others d.most count fuel s.left (found_as c (Ok None) f) in
          (kept₁ c, left_is w₁ g None nodes count s.left count d.now done _ (d.rest ∙ q) refl refl (d.type, stands₁ c)))

      -- the search stops
      calls_stopped : {number : ℕ} → s.found ≡ Err number → Answers w₁ (record { stop = Some number; nodes = nodes; left = s.left; replacements = count })
      calls_stopped {number} f =
          answers w₁ i.few i.fits (omega (arith, fits_as (Err number) f, i.less)) (x.long ∙ i.long)
          (λ g rules rule next args scope others c.
          let d = here c in
          let q = round_stop g rules (calls true g rules deep) rule d.ps args d.now (2 * from) others d.most count fuel number s.left (found_as c (Err number) f) in
          (kept₁ c, left_is w₁ g (Some number) nodes count s.left count d.now (stopped number) _ (d.rest ∙ q) refl refl (d.type, stands₁ c)))

      pub searched : Searched nodes count w₁ s
      searched = record {
        room = λ h. record { sound = x.grown.sound; few = x.grown.few; low = x.grown.low; long = omega (arith, x.long, i.long) };
        place = λ j f. ((fits_as (Ok (Some j)) f).0, x.grown.higher);
        nowhere = calls_nowhere;
        stops = calls_stopped;
      }

      module _ (j : ℕ) (f : s.found ≡ Ok (Some j)) (w₂ : Words) (b : Built) (y : Replaces given w₁ w₂ s.next base nodes j s.frame deep s.left b) where
        -- an attempt is spent
        spends : b.left.attempts < fuel.attempts
        spends = omega (arith, y.less, (fits_as (Ok (Some j)) f).1)

        counts : count + 1 + b.left.attempts ≤ left.attempts
        counts = omega (arith, i.spent, spends)

        -- what is live besides leaves room for the scope as it is then
        fits_then : {now : ℕ} → b.nodes ≡ Ok now → besides + now ≤ most_live
        fits_then z = omega (arith, y.fits z, x.grown.more)

        module _ {g : Grammar} {rules : Rules.Rules} {rule : Rule} {next : ℕ} {args : Env} {scope : Words} {others : ℕ} (c : Case g rules rule next args scope others) where
          abbrev m : M.Found
          m = record { place = 2 * j; bound = bindings (found_as c (Ok (Some j)) f).0 (others + size (here c).now) }

          abbrev made : List Piece → Computation.Result Words
          made ps = M.replace true g rules (calls true g rules deep) rule.target ps (here c).now m s.left

          put_as : (ps : List Piece) → ps ≡ pieces (pairs_at given.book s.next) → Sure (made ps)
              → (take base w₂ ≡ take base w₁) × ((k : ℕ) → b.nodes ≡ Err k → take (base + 2 * nodes) w₂ ≡ take (base + 2 * nodes) w₁)
              × Says (λ made ws. Standing g w₂ base made (here c).type ws × (j < made)) b.nodes b.left (made ps)
          put_as ps e =
              rw e (y.meant g rules (bindings (found_as c (Ok (Some j)) f).0 (others + size (here c).now)) (here c).type rule.target (here c).now c.setting (found_as c (Ok (Some j)) f).1 (stands₁ c))

          put : (take base w₂ ≡ take base w₁) × ((k : ℕ) → b.nodes ≡ Err k → take (base + 2 * nodes) w₂ ≡ take (base + 2 * nodes) w₁)
              × Says (λ made ws. Standing g w₂ base made (here c).type ws × (j < made)) b.nodes b.left (made (here c).ps)
          put =
              let d = here c in
              let q = found_as c (Ok (Some j)) f in
              put_as d.ps (q.3 d.ps d.replaces)
              (replace_sure g rules (calls true g rules deep) rule d.ps args d.now (2 * from) others d.most count fuel m s.left q.2 (turn_goes c))

          strategy_is : strategy_as rule.strategy ≡ plan.strategy
          strategy_is = sym (planned rule next c.read).strategy

        -- the replacement stops
        calls_cut : {number : ℕ} → b.nodes ≡ Err number → Answers w₂ (record { stop = Some number; nodes = nodes; left = b.left; replacements = count })
        calls_cut {number} e =
            answers w₂ i.few i.fits (omega (arith, spends, i.less)) (y.long ∙ x.long ∙ i.long)
            (λ g rules rule next args scope others c.
            let d = here c in
            let p = put c in
            let z = says_stop (λ made ws. Standing g w₂ base made d.type ws × (j < made)) (made c d.ps) b.left e p.2 in
            let q = round_cut g rules (calls true g rules deep) rule d.ps args d.now (2 * from) others d.most count fuel (m c) s.left (found_as c (Ok (Some j)) f).2 number b.left z in (
              p.0 ∙ kept₁ c,
              left_is w₂ g (Some number) nodes count b.left count d.now (stopped number) _ (d.rest ∙ q) refl refl
                  (d.type, standing_kept w₁ w₂ (base + 2 * nodes) (omega arith) (p.1 number e) (stands₁ c)),
            ))

        module _ {after : ℕ} (z : b.nodes ≡ Ok after) where
          -- it is the last by the rule's strategy
          calls_done : again_of plan.strategy ≡ false → Answers w₂ (record { stop = None; nodes = after; left = b.left; replacements = count + 1 })
          calls_done a =
              answers w₂ (y.few z) (λ k h _. omega (arith, fits_then z)) (omega (arith, spends, i.less)) (y.long ∙ x.long ∙ i.long)
              (λ g rules rule next args scope others c.
              let d = here c in
              let p = put c in
              let t = says_ok (λ made ws. Standing g w₂ base made d.type ws × (j < made)) (made c d.ps) b.left z p.2 in
              let q = round_done g rules (calls true g rules deep) rule d.ps args d.now (2 * from) others d.most count fuel (m c) s.left (found_as c (Ok (Some j)) f).2 t.0 b.left (ap again_of (strategy_is c) ∙ a) t.2 in
              (p.0 ∙ kept₁ c, left_is w₂ g None after (suc count) b.left (count + 1) t.0 done _ (d.rest ∙ q) refl (omega arith) (d.type, t.1.0)))

          -- the search goes on
          calling_again : again_of plan.strategy ≡ true → Calling w₂ after b.left (count + 1) (onward_of plan.strategy j (size_in (get_or w₂ (base + 2 * j) 0)))
          calling_again a = record {
            few = y.few z;
            fits = λ k h _. omega (arith, fits_then z);
            less = omega (arith, spends, i.less);
            spent = counts;
            long = y.long ∙ x.long ∙ i.long;
            first = λ o. absurd (omega (arith, fits_then z));
            meant = λ g rules rule next args scope others c.
                let d = here c in
                let p = put c in
                let few = c.setting.types_of.heads_of.types in
                let t = says_ok (λ made ws. Standing g w₂ base made d.type ws × (j < made)) (made c d.ps) b.left z p.2 in
                let q = round_again g rules (calls true g rules deep) rule d.ps args d.now (2 * from) others d.most count fuel (m c) s.left (found_as c (Ok (Some j)) f).2 t.0 b.left (ap again_of (strategy_is c) ∙ a) t.2 in
                let k = pred_of d.most b.left.attempts (omega (arith, spends, d.enough)) in (
                  p.0 ∙ kept₁ c,
                  λ _. record {
                    type = d.type;
                    now = t.0;
                    stands = t.1.0;
                    ps = d.ps;
                    replaces = d.replaces;
                    most = k.0;
                    enough = omega (arith, spends, d.enough, k.1);
                    begins = rw (← strategy_is c) (onward_begins few t.1.0 j t.1.1 rule rule.strategy refl);
                    rest = d.rest ∙ q
                        ∙ rounds_at g rules (calls true g rules deep) rule d.ps args t.0 others b.left d.most (suc k.0) _ _ (suc count) (count + 1) k.1
                        (sym (onward_place few t.1.0 j t.1.1 rule.strategy) ∙ ap (λ x. 2 * onward_of x j (size_in (get_or w₂ (base + 2 * j) 0))) (strategy_is c)) (omega arith);
                  },
                );
          }

        pub placed : (repeats : Bool) → repeats ≡ again_of plan.strategy → Placed plan nodes fuel count repeats j w₂ b
        placed repeats e = record {
          long = y.long ∙ x.long ∙ i.long;
          spent = spends;
          counted = counts;
          stops = calls_cut;
          last = λ z h. calls_done z (sym e ∙ not_true repeats h);
          again = λ z h. calling_again z (sym e ∙ not_false repeats h);
        }

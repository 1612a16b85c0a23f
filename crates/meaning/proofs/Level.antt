-- One level of calls is sound if the calls one level deeper are. Assumes nothing.
use Prim.Native.Nat.{ℕ, zero, suc, ◌+◌, ◌-◌, ◌*◌, ◌/◌, ◌≤◌, ◌<◌}
use mathlib.Core.Path.{◌≡◌, refl, sym, ap, subst, ◌∙◌}
use mathlib.Core.List.{List, [], ◌∷◌, ◌++◌, append_assoc}
use mathlib.Core.Bool.{Bool, true, false, not}
use mathlib.Core.Option.{Option, none, some}
use native.Mathlib.Omega.{arith}
use native.Mathlib.Nat.{le_refl, le_trans}
use lib.ListN.{length, take, drop, get_elem?, length-append}
use lib.Seq.{take_at, drop_at}
use lib.Dec.{eqb, leb}
use borrow.Author.Tests.{eq-eqb, eqb-true, leb-true}
use Rattle.words.specs.Reader.{Words, pick, and, or}
use Rattle.grammar.specs.Limits.{greatest_number}
use Rattle.grammar.specs.Grammar.{Grammar}
use Rattle.grammar.specs.Kinds.{allowed, children, is_number}
use Rattle.tree.specs.Limits.{most_nodes}
use Rattle.tree.specs.Tree as T
use Rattle.tree.specs.Tree.{Trees, Tree, size, are_trees, is_tree, after, first_tree, type_of, put}
use Rattle.tree.proofs.Trees.{tells, trees_append, trees_even, first_append, size_append, and_intro, trees_pass, tree_passes, tree_type}
use Rattle.rules.specs.Limits.{most_variables}
use Rattle.rules.specs.Rules.{Operation, Edit, Applied, rule, operation, editing, Application, Piece, Part, Strategy, root_only, first_match, exhaustive, one_pass, searches, Rule, Rules}
use Rattle.judgement.specs.Wanted.{Wanted, wants, scope_fits, wanted_in}
use Rattle.judgement.specs.WellTyped.{Types, Role, replacing, testing, Operates, adds, subtracts, divides, remains, rounds, truncates, equals, exceeds, Usable, Applies, a_rule, an_operation, an_edit, AllApply, all_none, all_more, Replacement, pieces_end, a_written, a_copy, a_chain, PartFits, deconstructs, searches_for, constructs, tests, PartsFit, no_part, a_part, RuleFits}
use Rattle.judgement.specs.Tested.{is_replacing}
use Rattle.meaning.specs.declared.State.{State}
use Rattle.meaning.specs.Computation.{Result, then_of, stop_unless}
use Rattle.meaning.specs.Operations.{rounded, truncated, in_range, divisor, with_one, with_none, compute, compare, value_of, values_of, is_number_token, are_number_tokens}
use Rattle.meaning.specs.Meaning as M
use Rattle.meaning.specs.Meaning.{Env, Bindings, live, fits, Found, Ending, done, stopped, cannot_go_on, Called, result_as, result_of, opened, Turned, after_round, Calls, apply, apply_chain, fill, finish, succeeds, any_succeeds, part, parts, attempt, seek, replace, begin, start, call_matches, turn, call_with, call, variables}
use Rattle.meaning.specs.Sound.{WellEnded, Sound}
use Rattle.tree.specs.Rest.{Rest}
use Rattle.tree.proofs.Rest.{tree_rest, rest_node, onward}
use Rattle.meaning.proofs.Safe.{Safe, goes, stops, returns, safe_map, and_then, Any, stop_unless_safe, surely_safe, check_safe, present_safe, choose_safe, Maybe, whether_safe, spend_safe}
use Rattle.meaning.proofs.Matching.{OfTypes, of_types_length, OfWanted, wanted_none, wanted_more, of_types_exactly, are_trees_of_true, live_safe, nodes_safe, nesting_safe, variable_safe, variables_safe, is_number_token_true, Binds, bind_safe, match_safe, match_first_safe}
use Rattle.meaning.proofs.Numbers.{false_not, with_value_tree}
use Rattle.meaning.proofs.Edits.{edit_fits_lem, edit_safe}
use Rattle.judgement.proofs.Parts.{parts_grow}

-- NUMBERS

abbrev InRange : ℕ → State → Type 0
InRange r l = r ≤ greatest_number

in_range_safe : (m : ℕ) (n : State) → Safe InRange n (in_range m n) (in_range m n)
unfolding in_range
in_range_safe m n =
    and_then (stop_unless_safe 45 (leb m greatest_number) n (omega arith) (omega arith)) λ u l _ e.
    returns (leb-true m greatest_number e)

guarded_safe : (b : Bool) (m : ℕ) (n : State) → Safe InRange n (then_of (stop_unless 45 b n) (λ u. in_range m)) (then_of (stop_unless 45 b n) (λ u. in_range m))
guarded_safe b m n = and_then (stop_unless_safe 45 b n (omega arith) (omega arith)) λ u l _ e. in_range_safe m l

-- the arguments that an operation wants are number tokens
numbers_true : {g : Grammar} {role : Role} {o : Operation} {us : List Wanted} {args : List Words} → Operates role o us → OfWanted g us args → are_number_tokens g args ≡ true
unfolding are_number_tokens wants
numbers_true adds (wanted_more {ws = b} e x wanted_none) = and_intro (is_number_token_true b e x) refl
numbers_true subtracts (wanted_more {ws = b} e x wanted_none) = and_intro (is_number_token_true b e x) refl
numbers_true divides (wanted_more {ws = b} e x wanted_none) = and_intro (is_number_token_true b e x) refl
numbers_true remains (wanted_more {ws = b} e x wanted_none) = and_intro (is_number_token_true b e x) refl
numbers_true rounds wanted_none = refl
numbers_true truncates wanted_none = refl
numbers_true equals (wanted_more {ws = b} e x wanted_none) = and_intro (is_number_token_true b e x) refl
numbers_true exceeds (wanted_more {ws = b} e x wanted_none) = and_intro (is_number_token_true b e x) refl

compute_safe : {g : Grammar} {o : Operation} {us : List Wanted} {args : List Words} → Operates replacing o us → OfWanted g us args → (a : ℕ) (n : State)
    → Safe InRange n (compute o a (values_of args) n) (compute o a (values_of args) n)
unfolding compute with_one with_none divisor values_of
compute_safe adds (wanted_more {ws = b} e x wanted_none) a n = in_range_safe (a + value_of b) n
compute_safe subtracts (wanted_more {ws = b} e x wanted_none) a n = guarded_safe (leb (value_of b) a) (a - value_of b) n
compute_safe divides (wanted_more {ws = b} e x wanted_none) a n = guarded_safe (not (eqb (value_of b) 0)) (a / value_of b * 100) n
compute_safe remains (wanted_more {ws = b} e x wanted_none) a n = guarded_safe (not (eqb (value_of b) 0)) (a - value_of b * (a / value_of b)) n
compute_safe rounds wanted_none a n = in_range_safe (rounded a) n
compute_safe truncates wanted_none a n = in_range_safe (truncated a) n

compare_safe : {g : Grammar} {o : Operation} {us : List Wanted} {args : List Words} → Operates testing o us → OfWanted g us args → (a : ℕ) (n : State)
    → Safe Any n (compare o a (values_of args) n) (compare o a (values_of args) n)
unfolding compare with_one values_of
compare_safe equals (wanted_more e x wanted_none) a n = returns tt
compare_safe exceeds (wanted_more e x wanted_none) a n = returns tt

-- WHAT A CALL NEEDS

-- arguments that suit what is applied to a tree of type t
data Suits (g : Grammar) (rules : Rules) (role : Role) (t : ℕ) : Applied → List Words → Type 0 where
  suits_rule : {n : ℕ} {r : Rule} {args : List Words} → get_elem? rules n ≡ some r → Usable role r → OfTypes g r.parameters args → (searches r.strategy ≡ false → t ≡ r.target) → Suits g rules role t (rule n) args
  suits_operation : {o : Operation} {us : List Wanted} {args : List Words} → Operates role o us → is_number g t ≡ true → OfWanted g us args → Suits g rules role t (operation o) args
  suits_edit : {o : Edit} {args : List Words} → role ≡ replacing → scope_fits g o t ≡ true → OfWanted g (wanted_in o t) args → Suits g rules role t (editing o) args

suits_safe : {g : Grammar} {rules : Rules} {Γ : Types} {env : Env} {role : Role} {t : ℕ} {xs : List ℕ} {p : Applied} → OfTypes g Γ env → Applies g rules Γ role t xs p → (n : State)
    → Safe (λ args l. Suits g rules role t p args) n (variables env xs n) (variables env xs n)
suits_safe typed (a_rule {r = r} there usable f) n = safe_map (λ args l _ q. suits_rule there usable (of_types_exactly r.parameters q) f.scope) (variables_safe typed f.arguments n)
suits_safe typed (an_operation o number xs) n = safe_map (λ args l _ q. suits_operation o number q) (variables_safe typed xs n)
suits_safe typed (an_edit is scope xs) n = safe_map (λ args l _ q. suits_edit is scope q) (variables_safe typed xs n)

-- a call that fits: arguments of the parameters' types, and a scope of a type t that the rule may be applied to
pub record Fitting (g : Grammar) (rules : Rules) (t : ℕ) (r : Rule) (args : Env) (scope : Words) : Type 0 where
  pub rule : RuleFits g rules r
  pub arguments : OfTypes g r.parameters args
  pub tree : Tree g t scope
  pub reach : searches r.strategy ≡ false → t ≡ r.target

-- WHAT A LEVEL OF CALLS OWES, strict and plain: a rewriting call that fits leaves a tree of its scope's type, and one in a condition answers
pub record SoundCalls (g : Grammar) (rules : Rules) (strict plain : Calls) : Type 0 where
  pub rewriting : {t : ℕ} {r : Rule} {args : Env} {scope : Words} {ps : List Piece} → Fitting g rules t r args scope → r.replacement ≡ some ps → (besides : ℕ) (n : State)
      → Safe (λ ws l. Tree g t ws) n (strict.rewrites r args scope besides n) (plain.rewrites r args scope besides n)
  pub matching : {t : ℕ} {r : Rule} {args : Env} {scope : Words} → Fitting g rules t r args scope → (besides : ℕ) (n : State)
      → Safe Any n (strict.matches r args scope besides n) (plain.matches r args scope besides n)

-- trees of these types, put after the words, make a tree of type t
abbrev Opens : Grammar → ℕ → Words → Types → Type 0
Opens g t before ts = (us : Words) → Trees g ts us → Trees g (t ∷ []) (before ++ us)

-- what stands in a scope of type t from the place on: trees of some types, in whose place others of these types may stand
pub record From (g : Grammar) (t : ℕ) (scope : Words) (place : ℕ) : Type 0 where
  pub before : Words
  pub ws : Words
  pub ts : Types
  pub is : scope ≡ before ++ ws
  pub long : length before ≡ place
  pub rest : Rest g ts ws
  pub opens : Opens g t before ts

from_start : {g : Grammar} {t : ℕ} {scope : Words} → Tree g t scope → From g t scope 0
from_start {t = t} {scope} x = record { before = []; ws = scope; ts = t ∷ []; is = refl; long = refl; rest = tree_rest x; opens = λ us q. q }

-- where a match stands: in its place is a tree of the target type, and any other of that type may take it
pub record Spot (g : Grammar) (t target : ℕ) (Γ : Types) (scope : Words) (f : Found) : Type 0 where
  pub root : type_of scope ≡ t
  pub typed : OfTypes g Γ f.bound.env
  pub here : Tree g target (first_tree g (drop f.place scope))
  pub any : (u : Words) → Trees g (target ∷ []) u → Trees g (t ∷ []) (put g scope f.place u)
  -- what follows such a tree then
  pub behind : (u : Words) → Trees g (target ∷ []) u → From g t (put g scope f.place u) (f.place + length u)
  pub there : (u : Words) → drop f.place (put g scope f.place u) ≡ u ++ after g (drop f.place scope) 1

with_fact : {A R : Type 0} (P : A → Type 0) (o : Option A) → R → Maybe P o → Maybe (λ a. P a × R) o
with_fact P none r p = tt
with_fact P (some a) r p = (p, r)

opens_node : {g : Grammar} {t x : ℕ} {ts : Types} (before : Words) (v : ℕ) → allowed g x v ≡ true → Opens g t before (x ∷ ts) → Opens g t (before ++ x ∷ v ∷ []) (children g x v ++ ts)
opens_node {x = x} before v fine open' us q = rw append_assoc (open' (x ∷ v ∷ us) (T.node fine q))

spot : {g : Grammar} {t target : ℕ} {Γ ts : Types} (before ws : Words) (place : ℕ) (c : Bindings) → Rest g (target ∷ ts) ws → length before ≡ place → Opens g t before (target ∷ ts) → type_of (before ++ ws) ≡ t → OfTypes g Γ c.env
    → Spot g t target Γ (before ++ ws) (record { place = place; bound = c })
unfolding put
spot {g} before ws place c r h open' root typed =
    let d : drop place (before ++ ws) ≡ ws = drop_at before ws place h in
    let k : take place (before ++ ws) ≡ before = take_at before ws place h in
    let on = onward r in
    record {
      root = root;
      typed = typed;
      here = rw d on.tree;
      any = λ u q. rw (d, k) (open' (u ++ after g ws 1) (trees_append q on.rest.typed));
      behind = λ u q. record {
        before = before ++ u;
        ws = after g ws 1;
        ts = _;
        is = rw (d, k, append_assoc);
        long = omega (arith, length-append before u, h);
        rest = on.rest;
        opens = λ us p. rw append_assoc (open' (u ++ us) (trees_append q p));
      };
      there = λ u. rw (d, k) (drop_at before (u ++ after g ws 1) place h);
    }

-- a call that fits passes the strict test
reach_true : (s : Bool) (t target : ℕ) → (s ≡ false → t ≡ target) → or s (eqb t target) ≡ true
reach_true true t target h = refl
reach_true false t target h = eq-eqb t target (h refl)

fits_true : {g : Grammar} {rules : Rules} {t : ℕ} {r : Rule} {args : Env} (scope : Words) → Fitting g rules t r args scope → fits g r args scope ≡ true
unfolding fits
fits_true {g} {t = t} {r} scope f =
    rw (tree_type scope f.tree.typed)
    (and_intro (are_trees_of_true f.arguments) (and_intro (tree_passes f.tree) (reach_true (searches r.strategy) t r.target f.reach)))

-- WHAT A CALL LEAVES

sound_less : {g : Grammar} {t n m : ℕ} {c c' : Called} → n ≤ m → Sound g t n c c' → Sound g t m c c'
sound_less h s = record { agree = s.agree; ends = s.ends; scope = s.scope; attempts = le_trans s.attempts h }

result_as_safe : {g : Grammar} {t : ℕ} {n : State} (c : Called) (e : Ending) → WellEnded e → Tree g t c.scope → c.left.attempts ≤ n.attempts → Safe (λ ws l. Tree g t ws) n (result_as e c) (result_as e c)
unfolding result_as
result_as_safe c done w x h = goes h x
result_as_safe c (stopped k) w x h = stops h w.0 w.1
result_as_safe c cannot_go_on w x h = absurd w

pub result_of_safe : {g : Grammar} {t : ℕ} {n : State} {c c' : Called} → Sound g t n.attempts c c' → Safe (λ ws l. Tree g t ws) n (result_of c) (result_of c')
unfolding result_of
result_of_safe {c = c} s = rw (← s.agree) (result_as_safe c c.ending s.ends s.scope s.attempts)

opened_sound : {g : Grammar} {t : ℕ} {n : State} {scope : Words} {x y : Result (Unit {0})} {rest rest' : State → Called} → Tree g t scope → Safe Any n x y
    → ((l : State) → l.attempts ≤ n.attempts → Sound g t l.attempts (rest l) (rest' l)) → Sound g t n.attempts (opened scope rest x) (opened scope rest' y)
unfolding opened
opened_sound tree (goes {l = l} h p) f = sound_less h (f l h)
opened_sound tree (stops h a b) f = record { agree = refl; ends = (a, b); scope = tree; attempts = h }

-- after a replacement: a tree, and what follows the tree put in place
pub record Went (g : Grammar) (t : ℕ) (x : Turned) : Type 0 where
  pub tree : Tree g t x.scope
  pub from : From g t x.scope x.behind

after_round_sound : {g : Grammar} {t : ℕ} {n : State} {scope : Words} {x y : Result (Option Turned)} {rest rest' : Words → ℕ → State → Called} → Tree g t scope → (k : ℕ) (s : Strategy)
    → Safe (λ m l. Maybe (λ next. Went g t next × (l.attempts < n.attempts)) m) n x y
    → ((next : Words) (place : ℕ) (l : State) → Tree g t next → From g t next place → l.attempts < n.attempts → Sound g t l.attempts (rest next place l) (rest' next place l))
    → Sound g t n.attempts (after_round scope k s rest x) (after_round scope k s rest' y)
unfolding after_round
after_round_sound tree k s (goes {a = none} {l} h p) f = record { agree = refl; ends = tt; scope = tree; attempts = h }
after_round_sound tree k exhaustive (goes {a = some next} {l} h p) f = sound_less h (f next.scope 0 l p.0.tree (from_start p.0.tree) p.1)
after_round_sound tree k one_pass (goes {a = some next} {l} h p) f = sound_less h (f next.scope next.behind l p.0.tree p.0.from p.1)
after_round_sound tree k first_match (goes {a = some next} {l} h p) f = record { agree = refl; ends = tt; scope = p.0.tree; attempts = h }
after_round_sound tree k root_only (goes {a = some next} {l} h p) f = record { agree = refl; ends = tt; scope = p.0.tree; attempts = h }
after_round_sound tree k s (stops h a b) f = record { agree = refl; ends = (a, b); scope = tree; attempts = h }

-- ONE LEVEL

module _ (g : Grammar) (rules : Rules) (each : (n : ℕ) (r : Rule) → get_elem? rules n ≡ some r → RuleFits g rules r)
    (deeper deeper' : Calls) (below : SoundCalls g rules deeper deeper') where
  apply_safe : {t : ℕ} {p : Applied} {args : List Words} {scope : Words} → Suits g rules replacing t p args → Tree g t scope → (besides under : ℕ) (n : State)
      → Safe (λ ws l. Tree g t ws) n (apply true g rules deeper p args scope besides under n) (apply false g rules deeper' p args scope besides under n)
  unfolding apply
  apply_safe (suits_rule {n = k} {r} there usable typed fit) x besides under n =
      and_then (present_safe n there) λ q l _ e.
      rw e (below.rewriting (record { rule = each k r there; arguments = typed; tree = x; reach = fit }) usable.1 besides l)
  apply_safe {t} {args = args} {scope} (suits_operation change number wanted) x besides under n =
      and_then (check_safe (and (is_number_token g scope) (are_number_tokens g args)) n (and_intro (is_number_token_true scope number x) (numbers_true change wanted))) λ u l _ _.
      and_then (compute_safe change wanted (value_of scope) l) λ m l _ h.
      returns (with_value_tree scope m number x h)
  apply_safe {t} {args = args} {scope} (suits_edit {o = o} is fit wanted) x besides under n =
      let f = edit_fits_lem o scope fit wanted x in
      safe_map (λ w l _ y. subst (λ u. Tree g u w) (tree_type scope x.typed) y) (edit_safe g o args scope besides under n f.0 f.1)

  apply_chain_safe : {Γ : Types} {env : Env} {t : ℕ} {apps : List Application} → OfTypes g Γ env → AllApply g rules Γ replacing t apps → (scope : Words) → Tree g t scope → (besides under : ℕ) (n : State)
      → Safe (λ ws l. Tree g t ws) n (apply_chain true g rules deeper apps env scope besides under n) (apply_chain false g rules deeper' apps env scope besides under n)
  unfolding apply_chain
  apply_chain_safe typed all_none scope x besides under n = returns x
  apply_chain_safe typed (all_more a more) scope x besides under n =
      and_then (suits_safe typed a n) λ args l _ suits.
      and_then (apply_safe suits x besides under l) λ next l _ y.
      apply_chain_safe typed more next y besides under l

  fill_safe : {Γ : Types} {env : Env} {due : Types} {ps : List Piece} → OfTypes g Γ env → Replacement g rules Γ due ps → (besides k : ℕ) → k ≤ most_nodes → (n : State)
      → Safe (λ ws l. Trees g due ws × (k + size ws ≤ most_nodes)) n (fill true g rules deeper ps env besides k n) (fill false g rules deeper' ps env besides k n)
  unfolding fill size
  fill_safe typed pieces_end besides k h n = returns (T.none, omega arith)
  fill_safe typed (a_written fine r) besides k h n =
      and_then (nodes_safe (k + 1) n) λ u l _ small.
      and_then (live_safe (besides + k + 1) l) λ u l _ _.
      and_then (fill_safe typed r besides (k + 1) small l) λ ws l _ q.
      returns (T.node fine q.0, omega (arith, q.1))
  fill_safe typed (a_copy {x = x} has r) besides k h n =
      and_then (variable_safe typed x has n) λ w l _ tree.
      and_then (nodes_safe (k + size w) l) λ u l _ small.
      and_then (live_safe (besides + k + size w) l) λ u l _ _.
      and_then (fill_safe typed r besides (k + size w) small l) λ ws l _ q.
      returns (trees_append tree.typed q.0, omega (arith, q.1, size_append w ws (trees_even tree.typed)))
  fill_safe typed (a_chain {x = x} has all r) besides k h n =
      and_then (variable_safe typed x has n) λ w l _ tree.
      and_then (live_safe (besides + k + size w) l) λ u l _ _.
      and_then (apply_chain_safe typed all w tree (besides + k) k l) λ v l _ y.
      and_then (nodes_safe (k + size v) l) λ u l _ small.
      and_then (fill_safe typed r besides (k + size v) small l) λ ws l _ q.
      returns (trees_append y.typed q.0, omega (arith, q.1, size_append v ws (trees_even y.typed)))

  finish_safe : {Γ : Types} {t : ℕ} {ps : List Piece} (b : Bindings) → OfTypes g Γ b.env → Replacement g rules Γ (t ∷ []) ps → (n : State)
      → Safe (λ ws l. Tree g t ws) n (finish true g rules deeper t ps b n) (finish false g rules deeper' t ps b n)
  unfolding finish
  finish_safe {t = t} b typed r n =
      and_then (fill_safe typed r (live b) 0 (omega arith) n) λ ws l _ q.
      and_then (check_safe (are_trees g ws (t ∷ [])) l (trees_pass q.0)) λ u l _ _.
      and_then (nesting_safe g ws l) λ u l _ flat.
      returns (record { typed = q.0; nodes = omega (arith, q.1); nested = flat })

  succeeds_safe : {t : ℕ} {p : Applied} {args : List Words} {scope : Words} → Suits g rules testing t p args → Tree g t scope → (besides : ℕ) (n : State)
      → Safe Any n (succeeds true g rules deeper p args scope besides n) (succeeds false g rules deeper' p args scope besides n)
  unfolding succeeds is_replacing
  succeeds_safe (suits_rule {n = k} {r} there usable typed fit) x besides n =
      and_then (present_safe n there) λ q l _ e.
      rw e (below.matching (record { rule = each k r there; arguments = typed; tree = x; reach = fit }) besides l)
  succeeds_safe {args = args} {scope} (suits_operation compares number wanted) x besides n =
      and_then (check_safe (and (is_number_token g scope) (are_number_tokens g args)) n (and_intro (is_number_token_true scope number x) (numbers_true compares wanted))) λ u l _ _.
      compare_safe compares wanted (value_of scope) l
  succeeds_safe (suits_edit is fit wanted) x besides n = false_not (ap is_replacing is)

  any_succeeds_safe : {Γ : Types} {env : Env} {t : ℕ} {apps : List Application} {scope : Words} → OfTypes g Γ env → AllApply g rules Γ testing t apps → Tree g t scope → (besides : ℕ) (n : State)
      → Safe Any n (any_succeeds true g rules deeper apps env scope besides n) (any_succeeds false g rules deeper' apps env scope besides n)
  unfolding any_succeeds
  any_succeeds_safe typed all_none x besides n = returns tt
  any_succeeds_safe typed (all_more a more) x besides n =
      and_then (suits_safe typed a n) λ args l _ suits.
      and_then (succeeds_safe suits x besides l) λ b l _ _.
      choose_safe b (λ l _ e. returns tt) (λ l _ e. any_succeeds_safe typed more x besides l)

  part_safe : {Γ Γ' : Types} {p : Part} → PartFits g rules Γ p Γ' → length Γ' ≤ most_variables → (b : Bindings) → OfTypes g Γ b.env → (n : State)
      → Safe (Binds g Γ') n (part true g rules deeper p b n) (part false g rules deeper' p b n)
  unfolding part
  part_safe (deconstructs {x = x} has p) few b typed n =
      and_then (variable_safe typed x has n) λ w l _ tree.
      match_safe p.typed few [] w b (tree_rest tree) typed l
  part_safe (searches_for {x = x} {t = t} has p) few b typed n =
      and_then (variable_safe typed x has n) λ w l _ tree.
      match_first_safe p.typed few b typed w (t ∷ []) (tree_rest tree) l
  part_safe (constructs r) few b typed n =
      and_then (finish_safe b typed r.typed n) λ w l _ tree.
      and_then (bind_safe b typed tree few l) λ c l _ q.
      returns q
  part_safe (tests {b = negated} {x} has all) few b typed n =
      and_then (variable_safe typed x has n) λ w l _ tree.
      and_then (live_safe (live b + size w) l) λ u l _ _.
      and_then (any_succeeds_safe typed all tree (live b) l) λ r l _ _.
      choose_safe (pick negated (not r) r) (λ l _ e. returns typed) (λ l _ e. returns tt)

  parts_safe : {Γ Γ' : Types} {ps : List Part} → PartsFit g rules Γ ps Γ' → length Γ' ≤ most_variables → (b : Bindings) → OfTypes g Γ b.env → (n : State)
      → Safe (Binds g Γ') n (parts true g rules deeper ps b n) (parts false g rules deeper' ps b n)
  unfolding parts
  parts_safe no_part few b typed n = returns typed
  parts_safe (a_part p ps) few b typed n =
      and_then (part_safe p (le_trans (parts_grow ps) few) b typed n) λ m l _ q.
      whether_safe m q (λ c l _ typed'. parts_safe ps few c typed' l) (λ l _. returns tt)

  attempt_safe : {r : Rule} {ts : Types} (fit : RuleFits g rules r) (ws : Words) (b : Bindings) → Rest g (r.target ∷ ts) ws → OfTypes g r.parameters b.env → (most : ℕ) (n : State) → n.attempts ≤ most
      → Safe (λ m l. Maybe (λ c. OfTypes g fit.all c.env × (l.attempts < most)) m) n (attempt true g rules deeper r ws b n) (attempt false g rules deeper' r ws b n)
  unfolding attempt
  attempt_safe {ts = ts} fit ws b rest typed most n small =
      and_then (spend_safe n) λ u l₁ _ less.
      and_then (match_safe fit.pattern.typed (le_trans (parts_grow fit.parts) fit.few) ts ws b rest typed l₁) λ m l₂ h₂ q.
      whether_safe m q
      (λ c l₃ h₃ typed'. safe_map (λ o l₄ h₄ p. with_fact {R = l₄.attempts < most} (λ c. OfTypes g fit.all c.env) o (omega arith) p) (parts_safe fit.parts fit.few c typed' l₃))
      (λ l₃ _. returns tt)

  -- the first match from the words on, which stand in the scope after `before`; it has cost an attempt
  seek_safe : {t : ℕ} {r : Rule} {scope : Words} (fit : RuleFits g rules r) (b : Bindings) → OfTypes g r.parameters b.env → (most : ℕ) (ws : Words) (ts : Types) (before : Words) (place : ℕ)
      → Rest g ts ws → type_of scope ≡ t → scope ≡ before ++ ws → length before ≡ place → Opens g t before ts → (n : State) → n.attempts ≤ most
      → Safe (λ m l. Maybe (λ f. Spot g t r.target fit.all scope f × (l.attempts < most)) m) n (seek true g rules deeper r ws place b n) (seek false g rules deeper' r ws place b n)
  unfolding seek
  seek_safe fit b typed most [] ts before place rest root e h open' n small = returns tt
  seek_safe fit b typed most (w ∷ []) ts before place rest root e h open' n small = returns tt
  seek_safe fit b typed most (w ∷ v ∷ ws) [] before place rest root e h open' n small = absurd (tells rest.typed)
  seek_safe {t} {r} {scope} fit b typed most (w ∷ v ∷ ws) (x ∷ ts) before place rest root e h open' n small =
      let q = tells rest.typed in
      let onto : Opens g t (before ++ w ∷ v ∷ []) (children g x v ++ ts) = rw q.0 (opens_node before v q.1 open') in
      let e' : scope ≡ (before ++ w ∷ v ∷ []) ++ ws = rw append_assoc e in
      let h' : length (before ++ w ∷ v ∷ []) ≡ place + 2 = omega (arith, length-append before (w ∷ v ∷ [])) in
      let Good : Option Bindings → State → Type 0 = λ m l. Maybe (λ c. (OfTypes g fit.all c.env × (l.attempts < most)) × (x ≡ r.target)) m in
      and_then
      (choose_safe {P = Good} (eqb w r.target)
      (λ l₁ h₁ is.
      let a : x ≡ r.target = sym q.0 ∙ eqb-true w r.target is in
      safe_map (λ m l _ y. with_fact {R = x ≡ r.target} (λ c. OfTypes g fit.all c.env × (l.attempts < most)) m a y) (attempt_safe fit (w ∷ v ∷ ws) b (rw a at rest) typed most l₁ (omega arith)))
      (λ l₁ h₁ is. returns tt))
      λ m l₂ h₂ y.
      whether_safe m y
      (λ c l₃ h₃ z.
      let a = z.1 in
      returns (rw e (spot before (w ∷ v ∷ ws) place c (rw a at rest) h (rw a at open') (rw e at root) z.0.0), omega (arith, z.0.1)))
      (λ l₃ h₃.
      choose_safe (searches r.strategy)
      (λ l h₄ _. seek_safe fit b typed most ws (children g x v ++ ts) (before ++ w ∷ v ∷ []) (place + 2) (rest_node rest) root e' h' onto l (omega arith))
      (λ l _ _. returns tt))

  replace_safe : {t target : ℕ} {Γ : Types} {scope : Words} {ps : List Piece} (f : Found) → Spot g t target Γ scope f → Replacement g rules Γ (target ∷ []) ps → (n : State)
      → Safe (λ ws l. Went g t (record { scope = ws; behind = f.place + length (first_tree g (drop f.place ws)) })) n (replace true g rules deeper target ps scope f n) (replace false g rules deeper' target ps scope f n)
  unfolding replace
  replace_safe {t} {target} {scope = scope} f s p n =
      and_then (finish_safe f.bound s.typed p n) λ ws l₁ _ tree.
      and_then (check_safe (and (is_tree g target (first_tree g (drop f.place scope))) (is_tree g target ws)) l₁ (and_intro (tree_passes s.here) (tree_passes tree))) λ u l₂ _ _.
      and_then (nodes_safe (size (put g scope f.place ws)) l₂) λ u l₃ _ small.
      and_then (nesting_safe g (put g scope f.place ws) l₃) λ u l₄ _ flat.
      let whole : Tree g t (put g scope f.place ws) = record { typed = s.any ws tree.typed; nodes = small; nested = flat } in
      and_then (check_safe (is_tree g (type_of scope) (put g scope f.place ws)) l₄ (rw s.root (tree_passes whole))) λ u l₅ _ _.
      let z : first_tree g (drop f.place (put g scope f.place ws)) ≡ ws = rw (s.there ws) (first_append tree.typed (after g (drop f.place scope) 1)) in
      returns (record { tree = whole; from = rw z (s.behind ws tree.typed) })

  module _ {t : ℕ} {r : Rule} {args : Env} {scope : Words} (besides : ℕ) (fit : Fitting g rules t r args scope) where
    begin_safe : (n : State) → Safe Any n (begin true g r args scope besides n) (begin false g r args scope besides n)
    unfolding begin
    begin_safe n =
        and_then (surely_safe (eqb (length args) (length r.parameters)) n (eq-eqb (length args) (length r.parameters) (of_types_length fit.arguments))) λ u l _ _.
        and_then (check_safe (fits g r args scope) l (fits_true scope fit)) λ u l _ _.
        live_safe (live (start args scope besides)) l

    -- the first match in the scope from the place on
    search_safe : (place : ℕ) → From g t scope place → (n : State) → Safe (λ m l. Maybe (λ f. Spot g t r.target fit.rule.all scope f × (l.attempts < n.attempts)) m) n
        (seek true g rules deeper r (drop place scope) place (start args scope besides) n) (seek false g rules deeper' r (drop place scope) place (start args scope besides) n)
    search_safe place x n =
        let d : drop place scope ≡ x.ws = ap (drop place) x.is ∙ drop_at x.before x.ws place x.long in
        rw d (seek_safe fit.rule _ fit.arguments n.attempts x.ws x.ts x.before place x.rest (tree_type scope fit.tree.typed) x.is x.long x.opens n (le_refl n.attempts))

    pub call_matches_safe : (n : State) → Safe Any n (call_matches true g rules deeper r args scope besides n) (call_matches false g rules deeper' r args scope besides n)
    unfolding call_matches
    call_matches_safe n =
        and_then (begin_safe n) λ u l₁ _ _.
        and_then (search_safe 0 (from_start fit.tree) l₁) λ m l₂ _ q.
        whether_safe m q (λ c l _ _. returns tt) (λ l _. returns tt)

    turn_safe : {ps : List Piece} → r.replacement ≡ some ps → (place : ℕ) → From g t scope place → (n : State)
        → Safe (λ m l. Maybe (λ next. Went g t next × (l.attempts < n.attempts)) m) n (turn true g rules deeper r ps args scope place besides n) (turn false g rules deeper' r ps args scope place besides n)
    unfolding turn
    turn_safe {ps} replaces place x n =
        and_then (search_safe place x n) λ m l₁ _ q.
        whether_safe m q
        (λ f l₂ h₂ s.
        and_then (replace_safe f s.0 (fit.rule.replacement ps replaces).typed l₂) λ ws l₃ h₃ went.
        returns (went, omega (arith, s.1)))
        (λ l _. returns tt)

  -- a rule with a replacement, and its arguments
  module _ {t : ℕ} {r : Rule} {ps : List Piece} {args : Env} (besides : ℕ) (rule : RuleFits g rules r) (replaces : r.replacement ≡ some ps) (arguments : OfTypes g r.parameters args)
      (reach : searches r.strategy ≡ false → t ≡ r.target) where
    rounds_sound : (most : ℕ) (scope : Words) (place : ℕ) → Tree g t scope → From g t scope place → (k : ℕ) (n : State) → n.attempts < most
        → Sound g t n.attempts (M.rounds true g rules deeper most r ps args scope place besides k n) (M.rounds false g rules deeper' most r ps args scope place besides k n)
    unfolding M.rounds
    rounds_sound zero scope place tree x k n h = absurd (omega arith)
    rounds_sound (suc most) scope place tree x k n h =
        after_round_sound tree k r.strategy
        (turn_safe besides (record { rule = rule; arguments = arguments; tree = tree; reach = reach }) replaces place x n)
        (λ next from l tree' y less. rounds_sound most next from tree' y (suc k) l (omega arith))

  call_with_sound : {t : ℕ} {r : Rule} {args : Env} {scope : Words} (ps : List Piece) (o : Option (List Piece)) → r.replacement ≡ o → o ≡ some ps → Fitting g rules t r args scope → (besides : ℕ) (n : State)
      → Sound g t n.attempts (call_with true g rules deeper o r args scope besides n) (call_with false g rules deeper' o r args scope besides n)
  unfolding call_with
  call_with_sound ps none e q fit besides n = let z : ◌≡◌ {A = ℕ} 0 1 = cc in absurd (omega arith)
  call_with_sound {scope = scope} ps (some qs) e q fit besides n =
      opened_sound fit.tree (begin_safe besides fit n)
      (λ l h. rounds_sound besides fit.rule e fit.arguments fit.reach _ scope 0 fit.tree (from_start fit.tree) 0 l (omega arith))

  pub call_sound : {t : ℕ} {r : Rule} {args : Env} {scope : Words} {ps : List Piece} → Fitting g rules t r args scope → r.replacement ≡ some ps → (besides : ℕ) (n : State)
      → Sound g t n.attempts (call true g rules deeper r args scope besides n) (call false g rules deeper' r args scope besides n)
  unfolding call
  call_sound {r = r} {ps = ps} fit replaces besides n = call_with_sound ps r.replacement refl replaces fit besides n

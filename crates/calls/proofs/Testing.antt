-- What the tests of a condition promise, from what their callees promise. Assumes nothing.
use Prim.Native.Nat.{ℕ, zero, suc, ◌+◌, ◌-◌, ◌*◌, ◌<◌, ◌≤◌, ◌^◌}
use mathlib.Core.Path.{◌≡◌, refl, sym, ap, ◌∙◌, subst}
use mathlib.Core.List.{List}
use mathlib.Core.Bool.{Bool, true, false, not}
use mathlib.Core.Option.{Option, some}
use native.Mathlib.Omega.{arith}
use native.Mathlib.Nat.{le_refl}
use lib.ListN.{length, get_or, take, drop, get_elem?}
use Rattle.words.specs.Reader.{Words, pick, and, value}
use Rattle.grammar.specs.Grammar.{Grammar}
use Rattle.tree.specs.Tree.{size}
use Rattle.rules.specs.Rules as Rules
use Rattle.rules.specs.Rules.{Rule, Operation, Edit, rule, operation, editing, nothing, applied, arguments, applications, Application, unreadable, condition_of}
use Rattle.rules.specs.Layout as Layout
use Rattle.meaning.specs.Limits.{most_live}
use Rattle.meaning.specs.declared.State.{State}
use Rattle.std.specs.Prelude.{Ok, Err, Some, None}
use Rattle.meaning.specs.Computation as Computation
use Rattle.meaning.specs.Computation.{ok, stop, stuck, Comp, then_of, check, present, choose, whether, provided, return, live_within}
use Rattle.meaning.specs.Operations.{compare, value_of, values_of, is_number_token, are_number_tokens}
use Rattle.meaning.specs.Meaning as M
use Rattle.meaning.specs.Meaning.{Env, Bindings, live, start, begin, variables, calls}
use Rattle.operations.specs.Operating.{arguments_of, Compared}
use Rattle.marks.specs.Marked.{Stands}
use Rattle.rewrite.specs.Vars.{start_at, Sound}
use Rattle.rewrite.specs.Matching.{bindings}
use Rattle.rewrite.specs.declared.Verdict.{Verdict}
use Rattle.rewrite.specs.declared.Verdict.TheVariants.{Matches, Differs, Stops}
use Rattle.rewrite.specs.Arena.{Arguments, NodesAt, Gathered, Standing}
use Rattle.rules.specs.Views.{pairs_at, Planned, chain_count}
use Rattle.calls.specs.Engine.{Open, Taking, Seeking, turned_by, found_verdict, Room, Sure, TakenAs, TestedAs, SoughtAs, FoundFits, Tree, Held, Given, Setting, part_on, Conditions, Seeks, CallMatches, succeeds_at, chain_at, Succeeds, AnySucceeds}
use Rattle.rules.specs.declared.Plan.{Plan}
use Rattle.calls.specs.Places.{Place}
use Rattle.calls.specs.declared.Tested.{Tested}
use Rattle.rewrite.proofs.Standing.{standing_stands, standing_whole, stands_standing}
use Rattle.calls.proofs.Frames.{grown_same, held_kept}
use Rattle.rewrite.proofs.Leaves.{variable_stands}
use Rattle.calls.proofs.Going.{sure_first, sure_as, variable_sure, live_fits, live_over, then_then}
use Rattle.rewrite.proofs.Numbers.{value_there}
use Rattle.calls.proofs.Applied.{begin_sure, RuleGiven, rule_given, operation_given, rule_few, compare_arguments, operand_values}
use Rattle.calls.proofs.Chains.{condition_read, next_at, applications_step}
use Rattle.judgement.proofs.Chains.{arguments_length}

-- A CALL IN A CONDITION

found_less : (n : ℕ) (left : State) (f : Place) (now : State) → FoundFits n left f now → now.attempts ≤ left.attempts
found_less n left (Ok (Some i)) now h = omega (arith, h.1)
found_less n left (Ok None) now h = h
found_less n left (Err k) now h = h

-- whether there is a match
abbrev is_match : Option M.Found → Comp Bool
is_match m = whether m (λ f. return true) (return false)

found_tested : (g : Grammar) (w' : Words) (besides : ℕ) (book : Words) (r : Rule) (f : Place) (frame : Open) (left : State) (next : ℕ) (m : Computation.Result (Option M.Found))
    → SoughtAs g w' besides book r f frame left next m → TestedAs (found_verdict f) left (then_of m is_match)
unfolding then_of whether
found_tested g w' besides book r (Ok (Some i)) frame left next m s = rw s.2
found_tested g w' besides book r (Ok None) frame left next m s = rw s
found_tested g w' besides book r (Err n) frame left next m s = rw s

-- the same verdict of the same computation
tested_as : {v v' : Verdict} (left : State) {m m' : Computation.Result Bool} → v ≡ v' → m' ≡ m → TestedAs v left m → TestedAs v' left m'
tested_as left ev e t = rw (← ev, e) t

-- what a call in a condition does: the limit is tested, then its rule sought
matches_steps : (g : Grammar) (rules : Rules.Rules) (deeper : M.Calls) (r : Rule) (args : Env) (scope : Words) (besides : ℕ) (l : State) → Sure (M.call_matches true g rules deeper r args scope besides l)
    → M.call_matches true g rules deeper r args scope besides l
    ≡ then_of (live_within (live (start args scope besides)) l) (λ u m. then_of (M.seek true g rules deeper r scope 0 (start args scope besides) m) is_match)
unfolding M.call_matches
matches_steps g rules deeper r args scope besides l s =
    let k : Unit {0} → Comp Bool = λ u m. then_of (M.seek true g rules deeper r scope 0 (start args scope besides) m) is_match in
    let b = begin_sure g r args scope besides l (sure_first (begin true g r args scope besides l) k s) in
    ap (λ m. then_of m k) b.1

module _ (given : Given) (w : Words) (at base n : ℕ) (frame : Open) (deep : ℕ) (left : State) where
  -- too many nodes would be live
  pub matches_over : most_live < frame.live + n → CallMatches given w w at base n frame deep left (record { verdict = Stops 44; left = left })
  matches_over h = (
    le_refl left.attempts,
    λ r next e. record {
      less = le_refl left.attempts;
      long = refl;
      meant = λ g rules scope b s held tree sure. (
        refl,
        matches_steps g rules (calls true g rules deep) r b.env scope b.besides left sure
            ∙ live_over (live (start b.env scope b.besides)) left _ (omega (arith, h, held.counted, tree.1.nodes)),
      );
    },
  )

  pub matches_found : frame.live + n ≤ most_live → (w' : Words) (plan : Plan) (s : Seeking)
      → ((rule : Rule) (next : ℕ) → Layout.rule given.types.count given.book at ≡ value rule next → Planned given.types.count given.book rule plan)
      → Seeks given w w' plan base n (record { vars = frame.vars; live = frame.live + n; top = frame.top }) deep left 0 s
      → (v : Verdict) → found_verdict s.found ≡ v → CallMatches given w w' at base n frame deep left (record { verdict = v; left = s.left })
  matches_found h w' plan s planned sk v ev = (
    found_less n left s.found s.left sk.fits,
    λ r next e. record {
      less = found_less n left s.found s.left sk.fits;
      long = sk.long;
      meant = λ g rules scope b st held tree sure.
          let b' : Bindings = start b.env scope b.besides in
          let steps = matches_steps g rules (calls true g rules deep) r b.env scope b.besides left sure ∙ live_fits (live b') left _ (omega (arith, h, held.counted, tree.1.nodes)) in
          let q = sk.meant g rules r b' scope st (planned r next e) (record { stands = held.stands; counted = omega (arith, held.counted, tree.1.nodes) }) tree (record { inside = omega arith; root = λ _. refl })
          (sure_first (M.seek true g rules (calls true g rules deep) r scope 0 b' left) is_match (sure_as steps sure)) in
          (q.0, tested_as s.left ev steps (found_tested g w' b'.besides given.book r s.found s.frame s.left s.next _ q.1));
    },
  )

-- ONE APPLICATION OF A CONDITION

abbrev pub test_verdict : Bool → Verdict
test_verdict true = Matches
test_verdict false = Differs

tested_bool : (t : Bool) (left : State) (m : Computation.Result Bool) → m ≡ ok t left → TestedAs (test_verdict t) left m
tested_bool true left m e = e
tested_bool false left m e = e

module _ (g : Grammar) (rules : Rules.Rules) (r : Rule) (args : Env) (scope : Words) (besides : ℕ) (l : State) where
  matches_none : (deep : ℕ) → deep ≡ 0 → (calls true g rules deep).matches r args scope besides l ≡ stop 41 l
  unfolding calls
  matches_none deep e = rw e

  matches_call : (deep : ℕ) → (deep ≡ 0 → ⊥) → (calls true g rules deep).matches r args scope besides l ≡ M.call_matches true g rules (calls true g rules (deep - 1)) r args scope besides l
  unfolding calls
  matches_call zero h = absurd (h refl)
  matches_call (suc d) h = let z : suc d - 1 ≡ d = omega arith in rw z

  matches_begins : (deeper : M.Calls) → Sure (M.call_matches true g rules deeper r args scope besides l) → length args ≡ length r.parameters
  unfolding M.call_matches
  matches_begins deeper s = (begin_sure g r args scope besides l (sure_first (begin true g r args scope besides l) _ s)).0

module _ (g : Grammar) (rules : Rules.Rules) (deeper : M.Calls) (scope : Words) (besides : ℕ) where
  succeeds_rule : (n : ℕ) (args : Env) (l : State) → M.succeeds true g rules deeper (rule n) args scope besides l ≡ then_of (present (get_elem? rules n) l) (λ r. deeper.matches r args scope besides)
  unfolding M.succeeds
  succeeds_rule n args l = refl

  succeeds_nothing : (args : Env) (l : State) → M.succeeds true g rules deeper nothing args scope besides l ≡ stuck
  unfolding M.succeeds
  succeeds_nothing args l = refl

  succeeds_edit : (o : Edit) (args : Env) (l : State) → M.succeeds true g rules deeper (editing o) args scope besides l ≡ stuck
  unfolding M.succeeds
  succeeds_edit o args l = refl

  succeeds_operation : (o : Operation) (args : Env) (l : State)
      → M.succeeds true g rules deeper (operation o) args scope besides l ≡ then_of (check true (and (is_number_token g scope) (are_number_tokens g args)) l) (λ u. compare o (value_of scope) (values_of args))
  unfolding M.succeeds
  succeeds_operation o args l = refl

module _ (given : Given) (w pairs : Words) (at base n : ℕ) (frame : Open) (deep : ℕ) (left : State) where
  abbrev Succeeding : Words → Tested → Type 0
  Succeeding w' r = Succeeds given w w' pairs at base n frame deep left r

  abbrev Run : Grammar → Rules.Rules → Words → Bindings → Computation.Result Bool
  Run g rules scope b = succeeds_at deep pairs at g rules scope b left

  abbrev names : List ℕ
  names = arguments (get_or pairs (at + 1) 0) (drop (at + 2) pairs)

  -- the first word, and the count of arguments
  module _ (a k : ℕ) (ea : a ≡ get_or pairs at 0) (ek : k ≡ get_or pairs (at + 1) 0) where
    module _ (h : a < 1000) where
      ruled : (g : Grammar) (rules : Rules.Rules) (scope : Words) (b : Bindings) → Sure (Run g rules scope b)
          → RuleGiven b.env names (get_or pairs at 0) left (λ p args. M.succeeds true g rules (calls true g rules deep) p args scope (live b)) rules (λ r args. (calls true g rules deep).matches r args scope (live b))
      ruled g rules scope b s =
          rule_given b.env names (get_or pairs at 0) left _ rules _ (omega arith) (λ args. succeeds_rule g rules (calls true g rules deep) scope (live b) (get_or pairs at 0) args left) s

      -- no call may nest deeper
      pub succeeds_deep : deep ≡ 0 → Succeeding w (record { verdict = Stops 41; left = left })
      succeeds_deep d = record {
        less = le_refl left.attempts;
        long = refl;
        meant = λ g rules scope b st held tree s.
            let q = ruled g rules scope b s in
            (refl, q.same ∙ matches_none g rules q.rule q.args scope (live b) left deep d);
      }

      pub succeeds_called : (deep ≡ 0 → ⊥) → (args : Arguments) → Gathered w pairs (at + 2) k frame.vars args → (place : ℕ) → (a < 64 → place ≡ get_or given.starts a 0) → (w' : Words) → length w' ≡ length w → (r : Tested)
          → CallMatches given w w' place base n (record { vars = args.vars; live = frame.live + args.total; top = frame.top }) (deep - 1) left r → Succeeding w' r
      succeeds_called d args ga place es w' long r cm = record {
        less = cm.0;
        long = long;
        meant = λ g rules scope b st held tree s.
            let q = ruled g rules scope b s in
            let p = st.placed (get_or pairs at 0) q.rule q.there in
            let run = q.same ∙ matches_call g rules q.rule q.args scope (live b) left deep d in
            let s' = sure_as run s in
            let f = rule_few given.types.count given.book (get_or given.starts (get_or pairs at 0) 0) q.rule p.1.0 p.1.1 in
            let here = ga.stands g frame.top b.env q.args left st.types_of.heads_of.types held.stands
            (omega (arith, f, matches_begins g rules q.rule q.args scope (live b) left (calls true g rules (deep - 1)) s', q.many, arguments_length (get_or pairs (at + 1) 0) (drop (at + 2) pairs)))
            (subst (λ j. variables b.env (arguments j (drop (at + 2) pairs)) left ≡ ok q.args left) (sym ek) q.read) in
            let there : place ≡ get_or given.starts (get_or pairs at 0) 0 = es (omega (arith, p.0)) ∙ ap (λ j. get_or given.starts j 0) ea in
            let z = (cm.1 q.rule p.1.0 (ap (Layout.rule given.types.count given.book) there ∙ p.1.1)).meant g rules scope (bindings q.args (live b)) st
            (record { stands = here.0; counted = omega (arith, here.1, held.counted) }) tree s' in
            (z.0, tested_as {v = r.verdict} r.left refl run z.1);
      }

    module _ (h : 1000 ≤ a) where
      pub succeeds_holds : Sound frame.vars → (b x : ℕ) → b ≡ get_or w (start_at frame.vars (get_or pairs (at + 3) 0) + 1) 0 → x ≡ get_or w (base + 1) 0 → (t : Bool) → Compared a x b t
          → (v : Verdict) → test_verdict t ≡ v → Succeeding w (record { verdict = v; left = left })
      succeeds_holds sound y x ey ex t cp v ev = record {
        less = le_refl left.attempts;
        long = refl;
        meant = λ g rules scope b st held tree s.
            let q = operation_given b.env names (get_or pairs at 0) left (λ p args. M.succeeds true g rules (calls true g rules deep) p args scope (live b))
            (λ args. and (is_number_token g scope) (are_number_tokens g args)) (λ o args. compare o (value_of scope) (values_of args)) (omega arith)
            (λ args. succeeds_nothing g rules (calls true g rules deep) scope (live b) args left) (λ o args e. succeeds_edit g rules (calls true g rules deep) scope (live b) o args left) (λ o args. succeeds_operation g rules (calls true g rules deep) scope (live b) o args left) s in
            let cs = sure_as q.same s in
            let z : at + 2 + 1 ≡ at + 3 = omega arith in
            let values = operand_values g w pairs (at + 2) (get_or pairs (at + 1) 0) frame.top frame.vars q.o b.env q.args left y sound held.stands q.read (ey ∙ ap (λ j. get_or w (start_at frame.vars (get_or pairs j 0) + 1) 0) (sym z))
            (λ c h. compare_arguments q.o (value_of scope) (values_of q.args) left c h cs) in
            let here : x ≡ value_of scope = ex ∙ value_there w base scope (standing_stands w (standing_whole w frame.top tree.1)) in
            let same : compare q.o (value_of scope) (values_of q.args) left ≡ compare q.o x (arguments_of q.o y) left = rw (here, values) in
            (refl, tested_as left ev (q.same ∙ same) (tested_bool t left _ (cp q.o left (ap applied ea ∙ q.is) (sure_as same cs))));
      }

-- ANY APPLICATION OF A CONDITION

-- is the trying over?
abbrev pub Ended : Verdict → Type 0
Ended Matches = Unit {0}
Ended Differs = ⊥
Ended (Stops n) = Unit {0}

-- the next, unless this one succeeds
abbrev or_else : Comp Bool → Bool → Comp Bool
or_else rest found = choose found (return true) rest

ended : (v : Verdict) → Ended v → (left : State) (m : Computation.Result Bool) (rest : Comp Bool) → TestedAs v left m → TestedAs v left (then_of m (or_else rest))
unfolding then_of choose
ended Matches h left m rest t = rw t
ended Differs h left m rest t = absurd h
ended (Stops n) h left m rest t = rw t

goes_on_lem : (v : Verdict) → v ≡ Differs → (left : State) (m : Computation.Result Bool) (rest : Comp Bool) → TestedAs v left m → then_of m (or_else rest) ≡ rest left
unfolding then_of choose
goes_on_lem Matches e left m rest t = let z : ◌≡◌ {A = ℕ} 0 1 = cc in absurd (omega arith)
goes_on_lem Differs e left m rest t = rw t
goes_on_lem (Stops n) e left m rest t = let z : ◌≡◌ {A = ℕ} 0 1 = cc in absurd (omega arith)

any_step : (g : Grammar) (rules : Rules.Rules) (deep : ℕ) (pairs : Words) (at k : ℕ) (scope : Words) (b : Bindings) (l : State) → 0 < k
    → M.any_succeeds true g rules (calls true g rules deep) (applications k (drop at pairs)) b.env scope (live b) l
    ≡ then_of (succeeds_at deep pairs at g rules scope b l) (or_else (M.any_succeeds true g rules (calls true g rules deep) (applications (k - 1) (drop (next_at pairs at) pairs)) b.env scope (live b)))
unfolding M.any_succeeds
any_step g rules deep pairs at k scope b l h =
    ap (λ apps. M.any_succeeds true g rules (calls true g rules deep) apps b.env scope (live b) l) (applications_step pairs at k h) ∙ then_then (variables b.env _ l) _ _

any_end : (g : Grammar) (rules : Rules.Rules) (deeper : M.Calls) (ws : Words) (k : ℕ) (env : Env) (scope : Words) (besides : ℕ) (l : State) → k ≡ 0
    → M.any_succeeds true g rules deeper (applications k ws) env scope besides l ≡ ok false l
unfolding M.any_succeeds applications
any_end g rules deeper ws k env scope besides l e = rw e

module _ (given : Given) (w₀ pairs : Words) (base n : ℕ) (frame : Open) (deep : ℕ) (left : State) where
  abbrev Whole : Grammar → Rules.Rules → Words → Bindings → Computation.Result Bool
  Whole g rules scope b = M.any_succeeds true g rules (calls true g rules deep) (chain_at pairs 2) b.env scope (live b) left

  -- with k applications left, the next at `at`
  pub record Trying (w : Words) (k at : ℕ) (fuel : State) : Type 0 where
    pub less : fuel.attempts ≤ left.attempts
    pub long : length w ≡ length w₀
    pub near : at + k * 8589934594 ≤ 2 ^ 36
    gone : (g : Grammar) (rules : Rules.Rules) (scope : Words) (b : Bindings) → Setting given g rules → Held g w₀ frame b → Tree g (take frame.top w₀) base n scope
        → Sure (Whole g rules scope b)
        → (take frame.top w ≡ take frame.top w₀)
        × (Whole g rules scope b ≡ M.any_succeeds true g rules (calls true g rules deep) (applications k (drop at pairs)) b.env scope (live b) fuel)

  pub trying_start : (k : ℕ) → k ≡ chain_count pairs 2 → k ≤ 4 → Trying w₀ k 4 left
  trying_start k e h = record {
    less = le_refl left.attempts;
    long = refl;
    near = omega arith;
    gone = λ g rules scope b st held tree s. (refl, ap (λ j. M.any_succeeds true g rules (calls true g rules deep) (applications j (drop 4 pairs)) b.env scope (live b) left) (sym e));
  }

  module _ (w : Words) (k at : ℕ) (fuel : State) (i : Trying w k at fuel) where
    module _ (h : 0 < k) (w' : Words) (r : Tested) (done : Succeeds given w w' pairs at base n frame deep fuel r) where
      -- what the application gave
      one : (g : Grammar) (rules : Rules.Rules) (scope : Words) (b : Bindings) → Setting given g rules → Held g w₀ frame b → Tree g (take frame.top w₀) base n scope
          → Sure (Whole g rules scope b) → (take frame.top w' ≡ take frame.top w₀) × TestedAs r.verdict r.left (succeeds_at deep pairs at g rules scope b fuel)
          × (Whole g rules scope b
          ≡ then_of (succeeds_at deep pairs at g rules scope b fuel) (or_else (M.any_succeeds true g rules (calls true g rules deep) (applications (k - 1) (drop (next_at pairs at) pairs)) b.env scope (live b))))
      one g rules scope b st held tree s =
          let q = i.gone g rules scope b st held tree s in
          let e = q.1 ∙ any_step g rules deep pairs at k scope b fuel h in
          let m = done.meant g rules scope b st (held_kept q.0 held) (subst (λ u. Tree g u base n scope) (sym q.0) tree) (sure_first _ _ (sure_as e s)) in
          (m.0 ∙ q.0, m.1, e)

      pub trying_stop : Ended r.verdict → AnySucceeds given w₀ w' pairs base n frame deep left r
      trying_stop over = record {
        less = omega (arith, done.less, i.less);
        long = done.long ∙ i.long;
        meant = λ g rules scope b st held tree s.
            let q = one g rules scope b st held tree s in
            (q.0, tested_as {v = r.verdict} r.left refl q.2 (ended r.verdict over r.left (succeeds_at deep pairs at g rules scope b fuel) _ q.1));
      }

      pub trying_more : r.verdict ≡ Differs → (x : ℕ) → x ≡ get_or pairs (at + 1) 0 → x < 2 ^ 32 → Trying w' (k - 1) (at + (2 + 2 * x)) r.left
      trying_more d x ex small = record {
        less = omega (arith, done.less, i.less);
        long = done.long ∙ i.long;
        near = omega (arith, i.near);
        gone = λ g rules scope b st held tree s.
            let q = one g rules scope b st held tree s in
            let next : at + 2 + 2 * get_or pairs (at + 1) 0 ≡ at + (2 + 2 * x) = omega (arith, ex) in (
              q.0,
              q.2 ∙ goes_on_lem r.verdict d r.left (succeeds_at deep pairs at g rules scope b fuel) _ q.1
                  ∙ ap (λ j. M.any_succeeds true g rules (calls true g rules deep) (applications (k - 1) (drop j pairs)) b.env scope (live b) r.left) next,
            );
      }

    pub trying_end : k ≡ 0 → AnySucceeds given w₀ w pairs base n frame deep left (record { verdict = Differs; left = fuel })
    trying_end z = record {
      less = i.less;
      long = i.long;
      meant = λ g rules scope b st held tree s.
          let q = i.gone g rules scope b st held tree s in
          (q.0, q.1 ∙ any_end g rules (calls true g rules deep) (drop at pairs) k b.env scope (live b) fuel z);
    }

-- A CONDITION

-- the bindings are kept if the condition holds
abbrev holding : Bool → Bindings → Bool → Comp (Option Bindings)
holding negated b found = provided (pick negated (not found) found) (return (some b))

turned_taken : (negated : Bool) (v : Verdict) (g : Grammar) (w : Words) (frame : Open) (b : Bindings) (left : State) (m : Computation.Result Bool) → Held g w frame b → TestedAs v left m
    → TakenAs g w b.besides (turned_by negated v) frame left (then_of m (holding negated b))
unfolding then_of choose
turned_taken true Matches g w frame b left m h t = rw t
turned_taken false Matches g w frame b left m h t = (b.env, h, rw t)
turned_taken true Differs g w frame b left m h t = (b.env, h, rw t)
turned_taken false Differs g w frame b left m h t = rw t
turned_taken negated (Stops n) g w frame b left m h t = rw t

taken_as : (g : Grammar) (w : Words) (besides : ℕ) (v : Verdict) (frame : Open) (left : State) (m m' : Computation.Result (Option Bindings)) → m' ≡ m → TakenAs g w besides v frame left m → TakenAs g w besides v frame left m'
taken_as g w besides v frame left m m' e t = rw e t

module _ (g : Grammar) (rules : Rules.Rules) (deeper : M.Calls) where
  any_unreadable : (env : Env) (scope : Words) (besides : ℕ) (l : State) → M.any_succeeds true g rules deeper unreadable env scope besides l ≡ stuck
  unfolding M.any_succeeds M.succeeds unreadable variables then_of
  any_unreadable env scope besides l = refl

  -- the variable's tree is there, and the limit is tested
  condition_steps : (negated : Bool) (x : ℕ) (apps : List Application) (b : Bindings) (l : State) → Sure (M.part true g rules deeper (Rules.condition negated x apps) b l)
      → (t : Words) × (get_elem? b.env x ≡ some t)
      × (M.part true g rules deeper (Rules.condition negated x apps) b l
      ≡ then_of (live_within (live b + size t) l) (λ u m. then_of (M.any_succeeds true g rules deeper apps b.env t (live b) m) (holding negated b)))
  unfolding M.part
  condition_steps negated x apps b l s = variable_sure b.env x l _ s

module _ (given : Given) (w : Words) (negated : Bool) (at next : ℕ) (frame : Open) (deep : ℕ) (left : State) (room : Room w frame) where
  abbrev Part : Grammar → Rules.Rules → Bindings → Computation.Result (Option Bindings)
  Part g rules b = part_on deep (Rules.condition negated (get_or (pairs_at given.book at) 1 0) (condition_of (pairs_at given.book at))) g rules b left

  -- the variable's tree has n nodes and stands at the place
  module _ (ps : Words) (x place n : ℕ) (eps : ps ≡ pairs_at given.book at) (ex : x ≡ get_or ps 1 0) (ep : place ≡ start_at frame.vars x) (na : NodesAt w place frame.top n) where
    record Located (g : Grammar) (rules : Rules.Rules) (b : Bindings) : Type 0 where
      tree : Words
      stands : Tree g (take frame.top w) place n tree
      count : live b + size tree ≡ frame.live + n
      same : Part g rules b
          ≡ then_of (live_within (live b + size tree) left) (λ u m. then_of (M.any_succeeds true g rules (calls true g rules deep) (condition_of ps) b.env tree (live b) m) (holding negated b))

    located : (g : Grammar) (rules : Rules.Rules) (b : Bindings) → Setting given g rules → Held g w frame b → Sure (Part g rules b) → Located g rules b
    located g rules b st held s =
        let q = condition_steps g rules (calls true g rules deep) negated (get_or (pairs_at given.book at) 1 0) (condition_of (pairs_at given.book at)) b left s in
        let ey : get_or (pairs_at given.book at) 1 0 ≡ x = sym (ex ∙ ap (λ l. get_or l 1 0) eps) in
        let here : Stands g (take frame.top w) place q.0 =
        subst (λ p. Stands g (take frame.top w) p q.0) (ap (start_at frame.vars) ey ∙ sym ep)
        (variable_stands g (take frame.top w) frame.vars b.env (get_or (pairs_at given.book at) 1 0) q.0 room.sound held.stands q.1) in
        let nodes : n ≡ size q.0 = na.stands g q.0 st.types_of.heads_of.types here in
        record {
          tree = q.0;
          stands = (here.type, subst (λ m. Standing g (take frame.top w) place m here.type q.0) (sym nodes) (stands_standing (take frame.top w) here));
          count = omega (arith, held.counted, nodes);
          same = q.2 ∙ ap (λ (l : Words). then_of (live_within (live b + size q.0) left) (λ u m. then_of (M.any_succeeds true g rules (calls true g rules deep) (condition_of l) b.env q.0 (live b) m) (holding negated b))) (sym eps);
        }

    -- too many nodes would be live
    pub condition_over : most_live < frame.live + n → {number : ℕ} → number ≡ 44 → Conditions given w w negated at next frame deep left (record { verdict = Stops number; frame = frame; left = left; next = next })
    condition_over h e = rw e (record {
      next_is = refl;
      takes = record {
        grown = grown_same room;
        less = le_refl left.attempts;
        long = refl;
        meant = λ g rules b st held s.
            let q = located g rules b st held s in
            (refl, q.same ∙ live_over (live b + size q.tree) left _ (omega (arith, h, q.count)));
      };
    })

    pub condition_tested : frame.live + n ≤ most_live → (w' : Words) (t : Tested) → AnySucceeds given w w' ps place n frame deep left t → (v : Verdict) → v ≡ turned_by negated t.verdict
        → (r : Taking) → r ≡ record { verdict = v; frame = frame; left = t.left; next = next } → Conditions given w w' negated at next frame deep left r
    condition_tested h w' t ts v ev r e = rw (e, ev) (record {
      next_is = refl;
      takes = record {
        grown = grown_same room;
        less = ts.less;
        long = ts.long;
        meant = λ g rules b st held s.
            let q = located g rules b st held s in
            let any : List Application → Computation.Result Bool = λ apps. M.any_succeeds true g rules (calls true g rules deep) apps b.env q.tree (live b) left in
            let e₁ = q.same ∙ live_fits (live b + size q.tree) left _ (omega (arith, h, q.count)) in
            let s₁ : Sure (any (condition_of ps)) = sure_first (any (condition_of ps)) (holding negated b) (sure_as e₁ s) in
            let read = condition_read ps (λ u. s₁ (ap any u ∙ any_unreadable g rules (calls true g rules deep) b.env q.tree (live b) left)) in
            let z = ts.meant g rules q.tree b st held q.stands (sure_as (ap any read) s₁) in (
              z.0,
              taken_as g w' b.besides (turned_by negated t.verdict) frame t.left _ _ (e₁ ∙ ap (λ apps. then_of (any apps) (holding negated b)) read)
                  (turned_taken negated t.verdict g w' frame b t.left (any (chain_at ps 2)) (held_kept z.0 held) z.1),
            );
      };
    })

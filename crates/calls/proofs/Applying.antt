-- What `apply` and `chain` promise, from what their callees promise. Assumes nothing.
use Rattle.sequences.proofs.Sealing.{ok_is, no_ok}
use Prim.Native.Nat.{ℕ, zero, suc, ◌+◌, ◌-◌, ◌*◌, ◌<◌, ◌≤◌, ◌^◌}
use mathlib.Core.Path.{◌≡◌, refl, sym, ap, ◌∙◌, subst}
use mathlib.Core.List.{List}
use mathlib.Core.Bool.{true}
use mathlib.Core.Option.{Option, none, some}
use native.Mathlib.Omega.{arith}
use native.Mathlib.Nat.{le_refl}
use lib.ListN.{length, get_or, take, drop, get_elem?}
use lib.Seq.{take-set-le, get_or-drop}
use Rattle.words.specs.Reader.{Words, and}
use Rattle.words.proofs.Laws.{and_both}
use Rattle.grammar.specs.Grammar.{Grammar}
use Rattle.tree.specs.Limits.{most_nodes}
use Rattle.rules.specs.Rules as Rules
use Rattle.rules.specs.Rules.{Rule, Piece, Operation, Edit, rule, operation, editing, nothing, applied, arguments, applications, pairs_in}
use Rattle.rules.proofs.Numbers.{edit_from}
use Rattle.rules.specs.Layout as Layout
use Rattle.meaning.specs.Limits.{most_live}
use Rattle.meaning.specs.declared.State.{State}
use Rattle.std.specs.Prelude.{Result, Ok, Err, Some, None}
use Rattle.meaning.specs.Computation as Computation
use Rattle.meaning.specs.Computation.{ok, stop, stuck, Comp, then_of, check, present, return}
use Rattle.meaning.specs.Operations.{compute, value_of, values_of, with_value, is_number_token, are_number_tokens}
use Rattle.meaning.specs.Edits.{edit}
use Rattle.meaning.specs.Meaning as M
use Rattle.meaning.specs.Meaning.{Env, variables, done, cannot_go_on, result_as, result_of, opened, begin, calls}
use Rattle.operations.specs.Operating.{arguments_of}
use Rattle.rewrite.specs.Vars.{Vars, EnvAt, starts_of, start_at, Sound}
use Rattle.rewrite.specs.Arena.{Arguments, Standing, Gathered, ComputedAs, Computed, Says}
use Rattle.tables.specs.declared.types.Types.{Types}
use Rattle.calls.specs.Places.{Halted}
use Rattle.sequences.specs.Listed.{Edits}
use Rattle.sequences.proofs.Editing.{edit_few}
use Rattle.rules.specs.Views.{chain_count}
use Rattle.calls.specs.Engine.{Sure, EndedAs, scope_by, scope_of, Tree, Given, Setting, EditsAt, apply_at, chain_at, Applies, Chains, Calls}
use Rattle.calls.specs.declared.Built.{Built}
use Rattle.calls.specs.declared.Called.{Called}
use Rattle.rewrite.proofs.Standing.{standing_stands}
use Rattle.calls.proofs.Frames.{env_kept}
use Rattle.calls.proofs.Going.{and_nodes, and_is, then_ok, then_stop, sure_first, sure_as, says_ok, says_stop, stop_says, says_map, then_then}
use Rattle.meaning.proofs.Numbers.{NumberToken, number_token}
use Rattle.rewrite.proofs.Numbers.{value_there, value_written}
use Rattle.calls.proofs.Applied.{RuleGiven, rule_given, operation_given, edit_given, arguments_stand, rule_few, begin_sure, compute_arguments, compute_range, operand_values}
use Rattle.calls.proofs.Chains.{next_at, applications_step, pairs_step}
use Rattle.judgement.proofs.Chains.{arguments_length}

-- A CALL

-- one that can go on has begun
call_begins : (g : Grammar) (rules : Rules.Rules) (deeper : M.Calls) (r : Rule) (args : Env) (scope : Words) (besides : ℕ) (l : State) → ((M.call true g rules deeper r args scope besides l).ending ≡ cannot_go_on → ⊥)
    → Sure (begin true g r args scope besides l)
unfolding M.call M.call_with opened
call_begins g rules deeper r args scope besides l = with_replacement r.replacement
  where
    with_replacement : (o : Option (List Piece)) → ((M.call_with true g rules deeper o r args scope besides l).ending ≡ cannot_go_on → ⊥) → Sure (begin true g r args scope besides l)
    with_replacement none go e = absurd (go refl)
    with_replacement (some ps) go e = go (rw e)

result_says : (s : Halted) (nodes : ℕ) (left : State) (c : M.Called) (P : ℕ → Words → Type 0) → EndedAs s c.ending → left ≡ c.left → P nodes c.scope → Says P (scope_by s nodes) left (result_of c)
unfolding result_of result_as
result_says None nodes left c P e l p = (c.scope, p, rw (e, l))
result_says (Some k) nodes left c P e l p = rw (e, l)

scope_nodes : (s : Halted) (nodes : ℕ) {m : ℕ} → scope_by s nodes ≡ Ok m → m ≡ nodes
scope_nodes None nodes e = cc
scope_nodes (Some k) nodes e = absurd (no_ok e)

result_sure : (c : M.Called) → Sure (result_of c) → c.ending ≡ cannot_go_on → ⊥
unfolding result_of result_as
result_sure c s e = s (rw e)

module _ (g : Grammar) (rules : Rules.Rules) (r : Rule) (args : Env) (scope : Words) (besides : ℕ) (l : State) where
  rewrites_none : (deep : ℕ) → deep ≡ 0 → (calls true g rules deep).rewrites r args scope besides l ≡ stop 41 l
  unfolding calls
  rewrites_none deep e = rw e

  rewrites_call : (deep : ℕ) → (deep ≡ 0 → ⊥) → (calls true g rules deep).rewrites r args scope besides l ≡ result_of (M.call true g rules (calls true g rules (deep - 1)) r args scope besides l)
  unfolding calls
  rewrites_call zero h = absurd (h refl)
  rewrites_call (suc d) h = let z : suc d - 1 ≡ d = omega arith in rw z

-- ONE APPLICATION

module _ (g : Grammar) (rules : Rules.Rules) (deeper : M.Calls) (scope : Words) (besides under : ℕ) where
  apply_rule : (n : ℕ) (args : Env) (l : State) → M.apply true g rules deeper (rule n) args scope besides under l ≡ then_of (present (get_elem? rules n) l) (λ r. deeper.rewrites r args scope besides)
  unfolding M.apply
  apply_rule n args l = refl

  apply_nothing : (args : Env) (l : State) → M.apply true g rules deeper nothing args scope besides under l ≡ stuck
  unfolding M.apply
  apply_nothing args l = refl

  apply_edit : (o : Edit) (args : Env) (l : State) → M.apply true g rules deeper (editing o) args scope besides under l ≡ edit true g o args scope besides under l
  unfolding M.apply
  apply_edit o args l = refl

  -- what an operation does once its scope and arguments are checked
  abbrev computes : Operation → Env → Comp Words
  computes o args l = then_of (compute o (value_of scope) (values_of args) l) (λ n. return (with_value scope n))

  apply_operation : (o : Operation) (args : Env) (l : State)
      → M.apply true g rules deeper (operation o) args scope besides under l ≡ then_of (check true (and (is_number_token g scope) (are_number_tokens g args)) l) (λ u. computes o args)
  unfolding M.apply
  apply_operation o args l = refl

-- the number is written, or nothing is changed
computed_says : (g : Grammar) (w w' : Words) (base n t : ℕ) (scope : Words) → NumberToken g scope → Standing g w base n t scope → (o : Operation) (a : ℕ) (bs : List ℕ) (left : State) (j : Result (Unit {0}) ℕ)
    → ComputedAs w w' base (compute o a bs left) left j
    → (take base w' ≡ take base w) × Says (Tree g w' base) (and_nodes j n) left (then_of (compute o a bs left) (λ v. return (with_value scope v)))
computed_says g w w' base n t scope k x o a bs left (Ok u) z = (
  ap (take base) z.2 ∙ take-set-le base w (base + 1) z.0 (omega arith),
  (
    with_value scope z.0,
    (t, subst (λ u. Standing g u base n t (with_value scope z.0)) (sym z.2) (value_written g w base n t z.0 scope k (compute_range o a bs left z.0 left z.1) x)),
    then_ok (compute o a bs left) (λ v. return (with_value scope v)) z.0 left z.1,
  ),
)
computed_says g w w' base n t scope k x o a bs left (Err j) z = (ap (take base) z.1, then_stop (compute o a bs left) (λ v. return (with_value scope v)) j left z.0)

module _ (given : Given) (w pairs : Words) (at base n : ℕ) (vars : Vars) (besides under deep : ℕ) (left : State) (few : n ≤ most_nodes) (fits : besides + n ≤ most_live) where
  abbrev Done : Words → Built → Type 0
  Done w' r = Applies given w w' pairs at base n vars besides under deep left r

  abbrev Run : Grammar → Rules.Rules → Env → Words → Computation.Result Words
  Run g rules env scope = apply_at deep pairs at g rules env scope besides under left

  abbrev names : List ℕ
  names = arguments (get_or pairs (at + 1) 0) (drop (at + 2) pairs)

  -- the first word, and the count of arguments
  module _ (a k : ℕ) (ea : a ≡ get_or pairs at 0) (ek : k ≡ get_or pairs (at + 1) 0) where
    module _ (h : a < 1000) where
      ruled : (g : Grammar) (rules : Rules.Rules) (env : Env) (scope : Words) → Sure (Run g rules env scope)
          → RuleGiven env names (get_or pairs at 0) left (λ p args. M.apply true g rules (calls true g rules deep) p args scope besides under) rules (λ r args. (calls true g rules deep).rewrites r args scope besides)
      ruled g rules env scope s =
          rule_given env names (get_or pairs at 0) left _ rules _ (omega arith) (λ args. apply_rule g rules (calls true g rules deep) scope besides under (get_or pairs at 0) args left) s

      -- no call may nest deeper
      pub apply_deep : deep ≡ 0 → {k : ℕ} → k ≡ 41 → Done w (record { nodes = Err k; left = left })
      apply_deep d ek = record {
        few = λ e. absurd (no_ok e);
        fits = λ e. absurd (no_ok e);
        less = le_refl left.attempts;
        long = refl;
        meant = λ g rules env scope st env_at tree s.
            let q = ruled g rules env scope s in
            (refl, q.same ∙ rewrites_none g rules q.rule q.args scope besides left deep d ∙ ap (λ j. stop j left) (sym ek));
      }

      pub apply_called : (deep ≡ 0 → ⊥) → (args : Arguments) → Gathered w pairs (at + 2) k vars args → (start : ℕ) → (a < 64 → start ≡ get_or given.starts a 0) → (w' : Words) (c : Called)
          → Calls given w w' start base n args.vars (besides + args.total) (deep - 1) left c
          → (r : Result ℕ ℕ) → r ≡ scope_of c → Done w' (record { nodes = r; left = c.left })
      apply_called d args ga start es w' c cs r e = rw e (record {
        few = λ z. omega (arith, scope_nodes c.stop c.nodes z, cs.few);
        fits = λ z. omega (arith, scope_nodes c.stop c.nodes z, cs.fits besides (omega arith) fits);
        less = cs.less;
        long = cs.long;
        meant = λ g rules env scope st env_at tree s.
            let q = ruled g rules env scope s in
            let p = st.placed (get_or pairs at 0) q.rule q.there in
            let m : M.Called = M.call true g rules (calls true g rules (deep - 1)) q.rule q.args scope besides left in
            let run : Run g rules env scope ≡ result_of m = q.same ∙ rewrites_call g rules q.rule q.args scope besides left deep d in
            let goes = result_sure m (sure_as run s) in
            let b = begin_sure g q.rule q.args scope besides left (call_begins g rules (calls true g rules (deep - 1)) q.rule q.args scope besides left goes) in
            let f = rule_few given.types.count given.book (get_or given.starts (get_or pairs at 0) 0) q.rule p.1.0 p.1.1 in
            let held = ga.stands g base env q.args left st.types_of.heads_of.types env_at (omega (arith, f, b.0, q.many, arguments_length (get_or pairs (at + 1) 0) (drop (at + 2) pairs)))
            (subst (λ j. variables env (arguments j (drop (at + 2) pairs)) left ≡ ok q.args left) (sym ek) q.read) in
            let place : start ≡ get_or given.starts (get_or pairs at 0) 0 = es (omega (arith, p.0)) ∙ ap (λ j. get_or given.starts j 0) ea in
            let z = cs.meant g rules q.rule p.1.0 q.args scope besides st (ap (Layout.rule given.types.count given.book) place ∙ p.1.1) held.0 (omega (arith, held.1)) tree goes in (
              z.0,
              says_map (Tree g w' base) (Tree g w' base) (result_of m) (Run g rules env scope) c.left (scope_of c) (λ n ws x. x) run
                  (result_says c.stop c.nodes c.left m (Tree g w' base) z.1.0 z.1.1 z.1.3),
            );
      })

    module _ (h : 1000 ≤ a) (low : a < 1010) where
      pub apply_computed : Sound vars → (b : ℕ) → b ≡ get_or w (start_at vars (get_or pairs (at + 3) 0) + 1) 0 → (w' : Words) (j : Result (Unit {0}) ℕ) → Computed w w' base a b j
          → (r : Result ℕ ℕ) → r ≡ and_nodes j n → Done w' (record { nodes = r; left = left })
      apply_computed sound b eb w' j cp r e = rw e (record {
        few = λ z. omega (arith, and_is j n z, few);
        fits = λ z. omega (arith, and_is j n z, fits);
        less = le_refl left.attempts;
        long = cp.long;
        meant = λ g rules env scope st env_at tree s.
            let q = operation_given env names (get_or pairs at 0) left (λ p args. M.apply true g rules (calls true g rules deep) p args scope besides under)
            (λ args. and (is_number_token g scope) (are_number_tokens g args)) (computes g rules (calls true g rules deep) scope besides under) (omega arith)
            (λ args. apply_nothing g rules (calls true g rules deep) scope besides under args left) (λ o args e. absurd (omega (arith, edit_from (get_or pairs at 0) o e))) (λ o args. apply_operation g rules (calls true g rules deep) scope besides under o args left) s in
            let cs = sure_first (compute q.o (value_of scope) (values_of q.args) left) (λ v. return (with_value scope v)) (sure_as q.same s) in
            let y : at + 2 + 1 ≡ at + 3 = omega arith in
            let values = operand_values g w pairs (at + 2) (get_or pairs (at + 1) 0) base vars q.o env q.args left b sound env_at q.read (eb ∙ ap (λ i. get_or w (start_at vars (get_or pairs i 0) + 1) 0) (sym y))
            (λ c h. compute_arguments q.o (value_of scope) (values_of q.args) left c h cs) in
            let here = value_there w base scope (standing_stands w tree.1) in
            let same : compute q.o (value_of scope) (values_of q.args) left ≡ compute q.o (get_or w (base + 1) 0) (arguments_of q.o b) left = rw (here, values) in
            let token = number_token g scope (and_both (is_number_token g scope) (are_number_tokens g q.args) q.checked).0 in
            let z = computed_says g w w' base n tree.0 scope token tree.1 q.o (get_or w (base + 1) 0) (arguments_of q.o b) left j (cp.computed q.o left (ap applied ea ∙ q.is) (sure_as same cs)) in
            (z.0, says_map (Tree g w' base) (Tree g w' base) _ (Run g rules env scope) left (and_nodes j n) (λ n ws x. x) (q.same ∙ ap (λ m. then_of m (λ v. return (with_value scope v))) same) z.1);
      })

    module _ (h : 1010 ≤ a) where
      pub apply_edited : Sound vars → (w' : Words) (p : Result ℕ ℕ) → EditsAt given.types w w' pairs at base n vars under besides p → Done w' (record { nodes = p; left = left })
      apply_edited sound w' p ed = record {
        few = ed.few;
        fits = ed.fits;
        less = le_refl left.attempts;
        long = ed.long;
        meant = λ g rules env scope st env_at tree s.
            let q = edit_given env names (get_or pairs at 0) left (λ p args. M.apply true g rules (calls true g rules deep) p args scope besides under) (omega arith)
            (λ args. apply_nothing g rules (calls true g rules deep) scope besides under args left) s in
            let run = q.same ∙ apply_edit g rules (calls true g rules deep) scope besides under q.o q.args left in
            let sure = sure_as run s in
            let few = edit_few g q.o q.args scope besides under left sure in
            let stand = arguments_stand g (take base w) (drop (at + 2) pairs) (get_or pairs (at + 1) 0) vars env q.args left sound env_at q.read few in
            let y : at + 2 + 1 ≡ at + 3 = omega arith in
            let z : at + 2 + 3 ≡ at + 5 = omega arith in
            let one : get_or (drop (at + 2) pairs) 1 0 ≡ get_or pairs (at + 3) 0 = get_or-drop (at + 2) pairs 1 0 ∙ ap (λ i. get_or pairs i 0) y in
            let two : get_or (drop (at + 2) pairs) 3 0 ≡ get_or pairs (at + 5) 0 = get_or-drop (at + 2) pairs 3 0 ∙ ap (λ i. get_or pairs i 0) z in
            let m = ed.meant g q.o q.args scope tree.0 left st.types_of q.is tree.1 (rw (one, two) at stand) sure in
            (m.0, says_map (λ nodes. Standing g w' base nodes tree.0) (Tree g w' base) _ (Run g rules env scope) left p (λ nodes ws x. (tree.0, x)) run m.1);
      }

-- the operation and its arguments as the pairs name them
pub edits_at : (types : Types) (w w' pairs : Words) (at base n : ℕ) (vars : Vars) (under besides : ℕ) (r : Result ℕ ℕ) (op x y first second : ℕ) → op ≡ get_or pairs at 0 → x ≡ get_or pairs (at + 3) 0 → y ≡ get_or pairs (at + 5) 0
    → first ≡ start_at vars x → second ≡ start_at vars y → Edits types w w' op base n first second under besides r → EditsAt types w w' pairs at base n vars under besides r
edits_at types w w' pairs at base n vars under besides r op x y first second eo ex ey ef es e = rw (← eo, ← ex, ← ey, ← ef, ← es) e

-- A CHAIN

chain_step : (g : Grammar) (rules : Rules.Rules) (deep : ℕ) (pairs : Words) (at k : ℕ) (env : Env) (scope : Words) (besides under : ℕ) (l : State) → 0 < k
    → M.apply_chain true g rules (calls true g rules deep) (applications k (drop at pairs)) env scope besides under l
    ≡ then_of (apply_at deep pairs at g rules env scope besides under l) (λ next. M.apply_chain true g rules (calls true g rules deep) (applications (k - 1) (drop (next_at pairs at) pairs)) env next besides under)
unfolding M.apply_chain
chain_step g rules deep pairs at k env scope besides under l h =
    ap (λ apps. M.apply_chain true g rules (calls true g rules deep) apps env scope besides under l) (applications_step pairs at k h) ∙ then_then (variables env _ l) _ _

chain_end : (g : Grammar) (rules : Rules.Rules) (deeper : M.Calls) (ws : Words) (k : ℕ) (env : Env) (scope : Words) (besides under : ℕ) (l : State) → k ≡ 0
    → M.apply_chain true g rules deeper (applications k ws) env scope besides under l ≡ ok scope l
unfolding M.apply_chain applications
chain_end g rules deeper ws k env scope besides under l e = rw e

module _ (given : Given) (w₀ pairs : Words) (from base n : ℕ) (vars : Vars) (besides under deep : ℕ) (left : State) where
  abbrev Whole : Grammar → Rules.Rules → Env → Words → Computation.Result Words
  Whole g rules env scope = M.apply_chain true g rules (calls true g rules deep) (chain_at pairs from) env scope besides under left

  -- the tree as it is now; what is left of the chain is the rest of the whole
  record Gone (w : Words) (k at : ℕ) (fuel : State) (nodes : ℕ) (g : Grammar) (rules : Rules.Rules) (env : Env) (scope : Words) : Type 0 where
    kept : take base w ≡ take base w₀
    now : Words
    tree : Tree g w base nodes now
    same : Whole g rules env scope ≡ M.apply_chain true g rules (calls true g rules deep) (applications k (drop at pairs)) env now besides under fuel

  -- with k applications left, the next at `at`
  pub record Chaining (w : Words) (k at : ℕ) (fuel : State) (nodes : ℕ) : Type 0 where
    pub few : nodes ≤ most_nodes
    pub fits : besides + nodes ≤ most_live
    pub less : fuel.attempts ≤ left.attempts
    pub long : length w ≡ length w₀
    pub later : from + 2 ≤ at
    pub near : at + k * 8589934594 ≤ 2 ^ 36
    pub ends : at + 2 * pairs_in (applications k (drop at pairs)) ≡ from + 2 + 2 * pairs_in (chain_at pairs from)
    gone : (g : Grammar) (rules : Rules.Rules) (env : Env) (scope : Words) → Setting given g rules → EnvAt g (take base w₀) (starts_of vars) env → Tree g w₀ base n scope
        → Sure (Whole g rules env scope) → Gone w k at fuel nodes g rules env scope

  pub chaining_start : n ≤ most_nodes → besides + n ≤ most_live → from ≤ 1024 → (k : ℕ) → k ≡ chain_count pairs from → k ≤ 4 → Chaining w₀ k (from + 2) left n
  chaining_start few fits short k e h = record {
    few = few;
    fits = fits;
    less = le_refl left.attempts;
    long = refl;
    later = le_refl (from + 2);
    near = omega arith;
    ends = ap (λ j. from + 2 + 2 * pairs_in (applications j (drop (from + 2) pairs))) e;
    gone = λ g rules env scope st env_at tree s. record {
      kept = refl;
      now = scope;
      tree = tree;
      same = ap (λ j. M.apply_chain true g rules (calls true g rules deep) (applications j (drop (from + 2) pairs)) env scope besides under left) (sym e);
    };
  }

  module _ (w : Words) (k at : ℕ) (fuel : State) (nodes : ℕ) (i : Chaining w k at fuel nodes) where
    module _ (h : 0 < k) (w' : Words) (b : Built) (done : Applies given w w' pairs at base nodes vars besides under deep fuel b) where
      -- what the application gave
      one : (g : Grammar) (rules : Rules.Rules) (env : Env) (scope : Words) → Setting given g rules → EnvAt g (take base w₀) (starts_of vars) env → Tree g w₀ base n scope
          → Sure (Whole g rules env scope) → (now : Words) × (take base w' ≡ take base w₀) × Says (Tree g w' base) b.nodes b.left (apply_at deep pairs at g rules env now besides under fuel)
          × (Whole g rules env scope ≡ then_of (apply_at deep pairs at g rules env now besides under fuel) (λ next. M.apply_chain true g rules (calls true g rules deep) (applications (k - 1) (drop (next_at pairs at) pairs)) env next besides under))
      one g rules env scope st env_at tree s =
          let q = i.gone g rules env scope st env_at tree s in
          let e = q.same ∙ chain_step g rules deep pairs at k env q.now besides under fuel h in
          let m = done.meant g rules env q.now st (env_kept g w₀ w base q.kept (starts_of vars) env env_at) q.tree (sure_first _ _ (sure_as e s)) in
          (q.now, m.0 ∙ q.kept, m.1, e)

      pub chaining_stop : {stopped : ℕ} → b.nodes ≡ Err stopped → Chains given w₀ w' pairs from base n vars besides under deep left (record { built = b; next = at })
      chaining_stop ne = record {
        builds = record {
          few = done.few;
          fits = done.fits;
          less = omega (arith, done.less, i.less);
          long = done.long ∙ i.long;
          meant = λ g rules env scope st env_at tree s.
              let q = one g rules env scope st env_at tree s in
              (q.1, stop_says (Tree g w' base) (Whole g rules env scope) b.left ne (q.3 ∙ then_stop _ _ _ b.left (says_stop _ _ b.left ne q.2)));
        };
        later = i.later;
        near = omega (arith, i.near);
        next_is = λ e. absurd (no_ok (sym ne ∙ e));
      }

      pub chaining_more : {now : ℕ} → b.nodes ≡ Ok now → (x : ℕ) → x ≡ get_or pairs (at + 1) 0 → x < 2 ^ 32 → Chaining w' (k - 1) (at + (2 + 2 * x)) b.left now
      chaining_more z x ex small =
          let next : at + (2 + 2 * x) ≡ at + 2 + 2 * get_or pairs (at + 1) 0 = omega (arith, ex) in
          record {
            few = done.few z;
            fits = done.fits z;
            less = omega (arith, done.less, i.less);
            long = done.long ∙ i.long;
            later = omega (arith, i.later);
            near = omega (arith, i.near);
            ends = ap (λ j. j + 2 * pairs_in (applications (k - 1) (drop j pairs))) next ∙ sym (pairs_step pairs at k h) ∙ i.ends;
            gone = λ g rules env scope st env_at tree s.
                let q = one g rules env scope st env_at tree s in
                let v = says_ok _ _ b.left z q.2 in
                record {
                  kept = q.1;
                  now = v.0;
                  tree = v.1;
                  same = q.3 ∙ then_ok _ _ v.0 b.left v.2
                      ∙ ap (λ j. M.apply_chain true g rules (calls true g rules deep) (applications (k - 1) (drop j pairs)) env v.0 besides under b.left) (sym next);
                };
          }

    pub chaining_end : k ≡ 0 → Chains given w₀ w pairs from base n vars besides under deep left (record { built = record { nodes = Ok nodes; left = fuel }; next = at })
    unfolding pairs_in applications
    chaining_end z = record {
      builds = record {
        few = λ e. omega (arith, ok_is e, i.few);
        fits = λ e. omega (arith, ok_is e, i.fits);
        less = i.less;
        long = i.long;
        meant = λ g rules env scope st env_at tree s.
            let q = i.gone g rules env scope st env_at tree s in
            (q.kept, (q.now, q.tree, q.same ∙ chain_end g rules (calls true g rules deep) (drop at pairs) k env q.now besides under fuel z));
      };
      later = i.later;
      near = omega (arith, i.near);
      next_is = λ y. omega (arith, i.ends, ap (λ j. pairs_in (applications j (drop at pairs))) z);
    }

-- What an application has: its arguments, and a rule or an operation. Assumes nothing.
use Prim.Native.Nat.{ℕ, zero, suc, ◌+◌, ◌-◌, ◌*◌, ◌/◌, ◌<◌, ◌≤◌}
use mathlib.Core.Path.{◌≡◌, refl, sym, ap, ◌∙◌, subst}
use mathlib.Core.List.{List, [], ◌∷◌}
use mathlib.Core.Bool.{Bool, true, false, not}
use mathlib.Core.Option.{some}
use native.Mathlib.Omega.{arith}
use lib.ListN.{length, get_or, take, drop, get_elem?}
use lib.Seq.{get_or-drop}
use lib.Dec.{eqb, leb}
use borrow.Author.Tests.{leb-true, eqb-true}
use Rattle.words.specs.Reader.{Words, value}
use Rattle.grammar.specs.Limits.{greatest_number}
use Rattle.grammar.specs.Grammar.{Grammar}
use Rattle.rules.specs.Limits.{most_parameters}
use Rattle.rules.specs.Rules.{Operation, add, subtract, quotient, remainder, round, truncate, equal, greater, Edit, Applied, rule, operation, editing, nothing, applied, arguments, Rule, Rules}
use Rattle.rules.specs.Layout as Layout
use Rattle.rules.proofs.Laid.{head_few, rule_value}
use Rattle.rules.proofs.Numbers.{rule_number, an_operation_lem, an_edit_lem}
use Rattle.meaning.specs.declared.State.{State}
use Rattle.meaning.specs.Computation as Computation
use Rattle.meaning.specs.Computation.{ok, stop, stuck, Comp, then_of, stop_unless, check, present, live_within}
use Rattle.meaning.specs.Operations.{rounded, truncated, in_range, divisor, with_one, with_none, compute, compare, values_of}
use Rattle.meaning.specs.Meaning.{Env, live, start, fits, begin, variables}
use Rattle.operations.specs.Operating.{arguments_of}
use Rattle.marks.specs.Marked.{Stands}
use Rattle.rewrite.specs.Vars.{Vars, EnvAt, starts_of, start_at, Sound}
use Rattle.calls.specs.Engine.{Sure}
use Rattle.rewrite.proofs.Leaves.{variables_more, variables_none, variable_stands, arguments_more, arguments_none}
use Rattle.rewrite.proofs.Standing.{stands_whole}
use Rattle.rewrite.proofs.Numbers.{value_there}
use Rattle.calls.proofs.Going.{then_ok, sure_first, sure_as, check_sure, surely_sure, present_sure, variable_sure}

-- ARGUMENTS

-- as many trees as variables, and no attempt is spent
pub variables_ok : (env : Env) (xs : List ℕ) (l : State) → Sure (variables env xs l) → (args : Env) × (variables env xs l ≡ ok args l) × (length args ≡ length xs)
unfolding variables
variables_ok env [] l s = ([], refl, refl)
variables_ok env (x ∷ xs) l s =
    let k : Words → Comp Env = λ t m. then_of (variables env xs m) (λ ts n. ok (t ∷ ts) n) in
    let a = variable_sure env x l k s in
    let j : Env → Comp Env = λ ts n. ok (a.0 ∷ ts) n in
    let b = variables_ok env xs l (sure_first (variables env xs l) j (sure_as a.2 s)) in
    (a.0 ∷ b.0, a.2 ∙ then_ok (variables env xs l) j b.0 l b.1, ap suc b.2)

-- A RULE HAS FEW PARAMETERS

pub rule_few : (types : ℕ) (ws : Words) (at : ℕ) (r : Rule) (next : ℕ) → Layout.rule types ws at ≡ value r next → length r.parameters ≤ most_parameters
rule_few types ws at r next e =
    let a = rule_value types ws at r next e in
    subst (λ (q : Rule). length q.parameters ≤ most_parameters) a.is (head_few types ws at a.h a.n₀ a.header)

-- A CALL BEGINS

-- what a call that begins has passed: as many arguments as parameters; the limit is left
pub begin_sure : (g : Grammar) (r : Rule) (args : Env) (scope : Words) (besides : ℕ) (l : State) → Sure (begin true g r args scope besides l)
    → (length args ≡ length r.parameters) × (begin true g r args scope besides l ≡ live_within (live (start args scope besides)) l)
unfolding begin
begin_sure g r args scope besides l s =
    let a = surely_sure (eqb (length args) (length r.parameters)) l (λ u m. then_of (check true (fits g r args scope) m) (λ v. live_within (live (start args scope besides)))) s in
    let b = check_sure (fits g r args scope) l (λ v. live_within (live (start args scope besides))) (sure_as a.1 s) in
    (eqb-true (length args) (length r.parameters) a.0, a.1 ∙ b.1)

-- THE ARGUMENTS OF AN OPERATION

one_sure : {A : Type 0} (bs : List ℕ) (f : ℕ → Comp A) (l : State) (b : ℕ) → get_or bs 0 b ≡ b → Sure (with_one bs f l) → bs ≡ b ∷ []
unfolding with_one
one_sure [] f l b h s = absurd (s refl)
one_sure (c ∷ []) f l b h s = rw h
one_sure (c ∷ d ∷ bs) f l b h s = absurd (s refl)

none_sure : {A : Type 0} (bs : List ℕ) (m : Comp A) (l : State) → Sure (with_none bs m l) → bs ≡ []
unfolding with_none
none_sure [] m l s = refl
none_sure (c ∷ bs) m l s = absurd (s refl)

-- an operation that is not stuck has the arguments that it takes; b is the first, if there is one
pub compute_arguments : (o : Operation) (a : ℕ) (bs : List ℕ) (l : State) (b : ℕ) → get_or bs 0 b ≡ b → Sure (compute o a bs l) → bs ≡ arguments_of o b
unfolding compute
compute_arguments add a bs l b h s = one_sure bs _ l b h s
compute_arguments subtract a bs l b h s = one_sure bs _ l b h s
compute_arguments quotient a bs l b h s = one_sure bs _ l b h s
compute_arguments remainder a bs l b h s = one_sure bs _ l b h s
compute_arguments round a bs l b h s = none_sure bs _ l s
compute_arguments truncate a bs l b h s = none_sure bs _ l s
compute_arguments equal a bs l b h s = absurd (s refl)
compute_arguments greater a bs l b h s = absurd (s refl)

pub compare_arguments : (o : Operation) (a : ℕ) (bs : List ℕ) (l : State) (b : ℕ) → get_or bs 0 b ≡ b → Sure (compare o a bs l) → bs ≡ arguments_of o b
unfolding compare
compare_arguments add a bs l b h s = absurd (s refl)
compare_arguments subtract a bs l b h s = absurd (s refl)
compare_arguments quotient a bs l b h s = absurd (s refl)
compare_arguments remainder a bs l b h s = absurd (s refl)
compare_arguments round a bs l b h s = absurd (s refl)
compare_arguments truncate a bs l b h s = absurd (s refl)
compare_arguments equal a bs l b h s = one_sure bs _ l b h s
compare_arguments greater a bs l b h s = one_sure bs _ l b h s

-- ITS RESULT IS IN RANGE

abbrev Small : Computation.Result ℕ → Type 0
Small (ok v l) = v ≤ greatest_number
Small (stop n l) = Unit {0}
Small stuck = Unit {0}

abbrev AllSmall : Comp ℕ → Type 0
AllSmall m = (l : State) → Small (m l)

unless_small : (n : ℕ) (b : Bool) (m : Comp ℕ) → (b ≡ true → AllSmall m) → AllSmall (λ l. then_of (stop_unless n b l) (λ u. m))
unfolding then_of stop_unless
unless_small n true m h l = h refl l
unless_small n false m h l = tt

range_small : (n : ℕ) → AllSmall (in_range n)
unfolding in_range
range_small n = unless_small 45 (leb n greatest_number) (λ l. ok n l) (λ e l. leb-true n greatest_number e)

one_small : (bs : List ℕ) (f : ℕ → Comp ℕ) → ((b : ℕ) → AllSmall (f b)) → AllSmall (with_one bs f)
unfolding with_one
one_small [] f h l = tt
one_small (b ∷ []) f h l = h b l
one_small (b ∷ c ∷ bs) f h l = tt

none_small : (bs : List ℕ) (m : Comp ℕ) → AllSmall m → AllSmall (with_none bs m)
unfolding with_none
none_small [] m h l = h l
none_small (b ∷ bs) m h l = tt

compute_small : (o : Operation) (a : ℕ) (bs : List ℕ) → AllSmall (compute o a bs)
unfolding compute divisor
compute_small add a bs = one_small bs _ (λ b. range_small (a + b))
compute_small subtract a bs = one_small bs _ (λ b. unless_small 45 (leb b a) (in_range (a - b)) (λ e. range_small (a - b)))
compute_small quotient a bs = one_small bs _ (λ b. unless_small 45 (not (eqb b 0)) (in_range (a / b * 100)) (λ e. range_small (a / b * 100)))
compute_small remainder a bs = one_small bs _ (λ b. unless_small 45 (not (eqb b 0)) (in_range (a - b * (a / b))) (λ e. range_small (a - b * (a / b))))
compute_small round a bs = none_small bs _ (range_small (rounded a))
compute_small truncate a bs = none_small bs _ (range_small (truncated a))
compute_small equal a bs = λ l. tt
compute_small greater a bs = λ l. tt

pub compute_range : (o : Operation) (a : ℕ) (bs : List ℕ) (l : State) (v : ℕ) (m : State) → compute o a bs l ≡ ok v m → v ≤ greatest_number
compute_range o a bs l v m e = subst Small e (compute_small o a bs l)

-- THE ARGUMENT OF AN OPERATION

-- the value of the first argument, if there is one, is read where the tree of the variable that it names stands
first_value : (g : Grammar) (w pairs : Words) (at k top : ℕ) (vars : Vars) (env args : Env) (l : State) (b : ℕ) → Sound vars → EnvAt g (take top w) (starts_of vars) env → variables env (arguments k (drop at pairs)) l ≡ ok args l
    → b ≡ get_or w (start_at vars (get_or pairs (at + 1) 0) + 1) 0 → get_or (values_of args) 0 b ≡ b
unfolding values_of
first_value g w pairs at zero top vars env args l b s e read eb =
    let none_given = variables_none env l args (ap (λ xs. variables env xs l) (sym (arguments_none 0 (drop at pairs) (omega arith))) ∙ read) in
    rw none_given
first_value g w pairs at (suc k) top vars env args l b s e read eb =
    let t = variables_more env (get_or (drop at pairs) 1 0) _ l args (ap (λ xs. variables env xs l) (sym (arguments_more (suc k) (drop at pairs) (omega arith))) ∙ read) in
    let here = stands_whole w top (variable_stands g (take top w) vars env (get_or (drop at pairs) 1 0) t.0 s e t.2) in
    rw t.4 (sym (value_there w (start_at vars (get_or (drop at pairs) 1 0)) t.0 here) ∙ ap (λ x. get_or w (start_at vars x + 1) 0) (get_or-drop at pairs 1 0) ∙ sym eb)

-- b, read where that tree stands, is the argument of an operation that is not stuck
pub operand_values : (g : Grammar) (w pairs : Words) (at k top : ℕ) (vars : Vars) (o : Operation) (env args : Env) (l : State) (b : ℕ) → Sound vars → EnvAt g (take top w) (starts_of vars) env
    → variables env (arguments k (drop at pairs)) l ≡ ok args l → b ≡ get_or w (start_at vars (get_or pairs (at + 1) 0) + 1) 0 → ((c : ℕ) → get_or (values_of args) 0 c ≡ c → values_of args ≡ arguments_of o c) → values_of args ≡ arguments_of o b
operand_values g w pairs at k top vars o env args l b s e read eb f = f b (first_value g w pairs at k top vars env args l b s e read eb)

-- THE ARGUMENTS OF AN OPERATION ON SEQUENCES

-- an argument more stands where the variable that it names stands
argument_stands : (g : Grammar) (arena ws : Words) (k : ℕ) (vars : Vars) (env args : Env) (l : State) → Sound vars → EnvAt g arena (starts_of vars) env → variables env (arguments (suc k) ws) l ≡ ok args l
    → (u : Words) × (rest : Env) × Stands g arena (start_at vars (get_or ws 1 0)) u × (variables env (arguments k (drop 2 ws)) l ≡ ok rest l) × (args ≡ u ∷ rest)
unfolding arguments
argument_stands g arena ws k vars env args l s e read =
    let t = variables_more env (get_or ws 1 0) (arguments k (drop 2 ws)) l args read in
    (t.0, t.1, variable_stands g arena vars env (get_or ws 1 0) t.0 s e t.2, t.3, t.4)

-- up to two arguments stand where the variables that they name stand
pub arguments_stand : (g : Grammar) (arena ws : Words) (k : ℕ) (vars : Vars) (env args : Env) (l : State) → Sound vars → EnvAt g arena (starts_of vars) env → variables env (arguments k ws) l ≡ ok args l
    → length args ≤ 2 → EnvAt g arena (take (length args) (start_at vars (get_or ws 1 0) ∷ start_at vars (get_or ws 3 0) ∷ [])) args
unfolding arguments
arguments_stand g arena ws zero vars env args l s e read few = rw (variables_none env l args read) tt
arguments_stand g arena ws (suc zero) vars env args l s e read few =
    let t = argument_stands g arena ws 0 vars env args l s e read in
    rw (t.4, variables_none env l t.1 t.3) (t.2, tt)
arguments_stand g arena ws (suc (suc zero)) vars env args l s e read few =
    let t = argument_stands g arena ws 1 vars env args l s e read in
    let u = argument_stands g arena (drop 2 ws) 0 vars env t.1 l s e t.3 in
    let second : Stands g arena (start_at vars (get_or ws 3 0)) u.0 = subst (λ x. Stands g arena (start_at vars x) u.0) (get_or-drop 2 ws 1 0) u.2 in
    rw (t.4, u.4, variables_none env l u.1 u.3) (t.2, (second, tt))
arguments_stand g arena ws (suc (suc (suc k))) vars env args l s e read few =
    let t = argument_stands g arena ws (suc (suc k)) vars env args l s e read in
    let u = argument_stands g arena (drop 2 ws) (suc k) vars env t.1 l s e t.3 in
    let v = argument_stands g arena (drop 2 (drop 2 ws)) k vars env u.1 l s e u.3 in
    absurd (omega (arith, ap length t.4, ap length u.4, ap length v.4))

-- AN APPLICATION'S STEPS

-- `run` is what is done with what is applied and the arguments; x is the application's first word
module _ {A : Type 0} (env : Env) (xs : List ℕ) (x : ℕ) (l : State) (run : Applied → Env → Comp A) where
  abbrev whole : Computation.Result A
  whole = then_of (variables env xs l) (run (applied x))

  -- the arguments of an application that is not stuck
  record Given : Type 0 where
    args : Env
    read : variables env xs l ≡ ok args l
    many : length args ≡ length xs
    same : whole ≡ run (applied x) args l

  given : Sure whole → Given
  given s =
      let a = variables_ok env xs l (sure_first (variables env xs l) (run (applied x)) s) in
      record { args = a.0; read = a.1; many = a.2; same = then_ok (variables env xs l) (run (applied x)) a.0 l a.1 }

  module _ (rules : Rules) (called : Rule → Env → Comp A) where
    -- .. of a rule, which is there
    pub record RuleGiven : Type 0 where
      pub args : Env
      pub read : variables env xs l ≡ ok args l
      pub many : length args ≡ length xs
      pub rule : Rule
      pub there : get_elem? rules x ≡ some rule
      pub same : whole ≡ called rule args l

    pub rule_given : x < 1000 → ((args : Env) → run (rule x) args l ≡ then_of (present (get_elem? rules x) l) (λ r. called r args)) → Sure whole → RuleGiven
    rule_given h opens s =
        let a = given s in
        let e : whole ≡ then_of (present (get_elem? rules x) l) (λ r. called r a.args) = a.same ∙ ap (λ p. run p a.args l) (rule_number x h) ∙ opens a.args in
        let b = present_sure (get_elem? rules x) l (λ r. called r a.args) (sure_as e s) in
        record { args = a.args; read = a.read; many = a.many; rule = b.0; there = b.1; same = e ∙ b.2 }

  module _ (tokens : Env → Bool) (called : Operation → Env → Comp A) where
    -- .. of an operation, on number tokens
    pub record OperationGiven : Type 0 where
      pub args : Env
      pub read : variables env xs l ≡ ok args l
      pub many : length args ≡ length xs
      pub o : Operation
      pub is : applied x ≡ operation o
      pub checked : tokens args ≡ true
      pub same : whole ≡ called o args l

    pub operation_given : 1000 ≤ x → ((args : Env) → run nothing args l ≡ stuck) → ((o : Edit) (args : Env) → applied x ≡ editing o → run (editing o) args l ≡ stuck)
        → ((o : Operation) (args : Env) → run (operation o) args l ≡ then_of (check true (tokens args) l) (λ u. called o args)) → Sure whole → OperationGiven
    operation_given h never other opens s =
        let a = given s in
        let p = an_operation_lem x h (λ e. s (a.same ∙ ap (λ q. run q a.args l) e ∙ never a.args)) (λ o e. s (a.same ∙ ap (λ q. run q a.args l) e ∙ other o a.args e)) in
        let e : whole ≡ then_of (check true (tokens a.args) l) (λ u. called p.0 a.args) = a.same ∙ ap (λ q. run q a.args l) p.1 ∙ opens p.0 a.args in
        let c = check_sure (tokens a.args) l (λ u. called p.0 a.args) (sure_as e s) in
        record { args = a.args; read = a.read; many = a.many; o = p.0; is = p.1; checked = c.0; same = e ∙ c.1 }

  -- .. of an operation on sequences
  pub record EditGiven : Type 0 where
    pub args : Env
    pub read : variables env xs l ≡ ok args l
    pub o : Edit
    pub is : applied x ≡ editing o
    pub same : whole ≡ run (editing o) args l

  pub edit_given : 1010 ≤ x → ((args : Env) → run nothing args l ≡ stuck) → Sure whole → EditGiven
  edit_given h never s =
      let a = given s in
      let p = an_edit_lem x h (λ e. s (a.same ∙ ap (λ q. run q a.args l) e ∙ never a.args)) in
      record { args = a.args; read = a.read; o = p.0; is = p.1; same = a.same ∙ ap (λ q. run q a.args l) p.1 }

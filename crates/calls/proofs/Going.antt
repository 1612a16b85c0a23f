-- Computations that are not stuck: what each step then has passed, and what is left to do. Assumes nothing.
use Rattle.std.specs.Result.{result_and}
use Prim.Native.Nat.{ℕ, ◌<◌, ◌≤◌}
use mathlib.Core.Path.{◌≡◌, refl, sym, ◌∙◌}
use mathlib.Core.Bool.{Bool, true, false}
use mathlib.Core.Option.{Option, none, some}
use lib.ListN.{get_elem?}
use borrow.Author.Tests.{le-leb, lt-leb}
use Rattle.words.specs.Reader.{Words}
use Rattle.tree.specs.Limits.{most_nodes}
use Rattle.meaning.specs.Limits.{most_live}
use Rattle.meaning.specs.declared.State.{State}
use Rattle.std.specs.Prelude.{Result, Ok, Err}
use Rattle.meaning.specs.Computation as Computation
use Rattle.meaning.specs.Computation.{ok, stop, stuck, Comp, then_of, stop_unless, surely, check, present, nodes_within, live_within}
use Rattle.meaning.specs.Meaning.{Env, variable}
use Rattle.rewrite.specs.Arena.{Says}
use Rattle.calls.specs.Engine.{Sure}

module _ {A B : Type 0} (m : Computation.Result A) (k : A → Comp B) where
  pub then_ok : (a : A) (l : State) → m ≡ ok a l → then_of m k ≡ k a l
  unfolding then_of
  then_ok a l e = rw e

  pub then_stop : (n : ℕ) (l : State) → m ≡ stop n l → then_of m k ≡ stop n l
  unfolding then_of
  then_stop n l e = rw e

  -- what comes first is not stuck
  pub sure_first : Sure (then_of m k) → Sure m
  unfolding then_of
  sure_first s e = s (rw e)

-- one after the other, whichever two are taken together
pub then_nested : {A B C : Type 0} (m : Computation.Result A) (k : A → Comp B) (h : B → Comp C) (j : A → Comp C) → ((a : A) (l : State) → then_of (k a l) h ≡ j a l) → then_of (then_of m k) h ≡ then_of m j
unfolding then_of
then_nested (ok a l) k h j f = f a l
then_nested (stop n l) k h j f = refl
then_nested stuck k h j f = refl

pub then_then : {A B C : Type 0} (m : Computation.Result A) (k : A → Comp B) (h : B → Comp C) → then_of m (λ a l. then_of (k a l) h) ≡ then_of (then_of m k) h
then_then m k h = sym (then_nested m k h (λ a l. then_of (k a l) h) (λ a l. refl))

-- an equal computation is not stuck either
pub sure_as : {A : Type 0} {m n : Computation.Result A} → m ≡ n → Sure m → Sure n
sure_as e s q = s (e ∙ q)

module _ {B : Type 0} (b : Bool) (l : State) (k : Unit {0} → Comp B) where
  pub check_sure : Sure (then_of (check true b l) k) → (b ≡ true) × (then_of (check true b l) k ≡ k tt l)
  unfolding then_of check surely
  check_sure = go b
    where
      go : (b : Bool) → Sure (then_of (check true b l) k) → (b ≡ true) × (then_of (check true b l) k ≡ k tt l)
      go true s = (refl, refl)
      go false s = absurd (s refl)

  pub surely_sure : Sure (then_of (surely b l) k) → (b ≡ true) × (then_of (surely b l) k ≡ k tt l)
  unfolding then_of surely
  surely_sure = go b
    where
      go : (b : Bool) → Sure (then_of (surely b l) k) → (b ≡ true) × (then_of (surely b l) k ≡ k tt l)
      go true s = (refl, refl)
      go false s = absurd (s refl)

-- what there surely is
pub present_sure : {A B : Type 0} (o : Option A) (l : State) (k : A → Comp B) → Sure (then_of (present o l) k) → (a : A) × (o ≡ some a) × (then_of (present o l) k ≡ k a l)
unfolding then_of present
present_sure none l k s = absurd (s refl)
present_sure (some a) l k s = (a, refl, refl)

pub variable_sure : {B : Type 0} (env : Env) (x : ℕ) (l : State) (k : Words → Comp B) → Sure (then_of (variable env x l) k) → (t : Words) × (get_elem? env x ≡ some t) × (then_of (variable env x l) k ≡ k t l)
unfolding variable
variable_sure env x l k s = present_sure (get_elem? env x) l k s

-- THE LIMITS

module _ {B : Type 0} (n : ℕ) (l : State) (k : Unit {0} → Comp B) where
  pub live_fits : n ≤ most_live → then_of (live_within n l) k ≡ k tt l
  unfolding then_of live_within stop_unless
  live_fits h = rw (le-leb n most_live h)

  pub live_over : most_live < n → then_of (live_within n l) k ≡ stop 44 l
  unfolding then_of live_within stop_unless
  live_over h = rw (lt-leb n most_live h)

  pub nodes_fit : n ≤ most_nodes → then_of (nodes_within n l) k ≡ k tt l
  unfolding then_of nodes_within stop_unless
  nodes_fit h = rw (le-leb n most_nodes h)

  pub nodes_over : most_nodes < n → then_of (nodes_within n l) k ≡ stop 42 l
  unfolding then_of nodes_within stop_unless
  nodes_over h = rw (lt-leb n most_nodes h)

-- ANSWERS

module _ {A : Type 0} where
  pub ok_err : {a : A} {k : ℕ} → ◌≡◌ {A = Result A ℕ} (Ok a) (Err k) → ⊥
  ok_err e = cc

  pub err_ok : {a : A} {k : ℕ} → ◌≡◌ {A = Result A ℕ} (Err k) (Ok a) → ⊥
  err_ok e = cc

  pub err_is : {j k : ℕ} → ◌≡◌ {A = Result A ℕ} (Err j) (Err k) → j ≡ k
  err_is e = cc

-- so many nodes, unless there is a stop
abbrev pub and_nodes : Result (Unit {0}) ℕ → ℕ → Result ℕ ℕ
and_nodes s n = result_and s (Ok n)

pub and_is : (j : Result (Unit {0}) ℕ) (n : ℕ) {m : ℕ} → and_nodes j n ≡ Ok m → m ≡ n
and_is (Ok u) n e = cc
and_is (Err k) n e = absurd (err_ok e)

module _ {A : Type 0} (P : ℕ → A → Type 0) (m : Computation.Result A) (left : State) where
  pub says_ok : {r : Result ℕ ℕ} {nodes : ℕ} → r ≡ Ok nodes → Says P r left m → (a : A) × P nodes a × (m ≡ ok a left)
  says_ok e s = rw e at s

  pub says_stop : {r : Result ℕ ℕ} {n : ℕ} → r ≡ Err n → Says P r left m → m ≡ stop n left
  says_stop e s = rw e at s

  pub stop_says : {r : Result ℕ ℕ} {n : ℕ} → r ≡ Err n → m ≡ stop n left → Says P r left m
  stop_says e q = rw e q

-- the same of another computation and another property
pub says_map : {A : Type 0} (P Q : ℕ → A → Type 0) (m m' : Computation.Result A) (left : State) (r : Result ℕ ℕ) → ((n : ℕ) (a : A) → P n a → Q n a) → m' ≡ m → Says P r left m → Says Q r left m'
says_map P Q m m' left (Ok n) f e s = (s.0, f n s.0 s.1, e ∙ s.2)
says_map P Q m m' left (Err n) f e s = e ∙ s

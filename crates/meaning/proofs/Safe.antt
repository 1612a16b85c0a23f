-- Computations that are never stuck: a strict one and a plain one are taken together, and end the same. Assumes nothing.
use Prim.Native.Nat.{ℕ, zero, suc, ◌≤◌, ◌<◌}
use mathlib.Core.Path.{◌≡◌, refl}
use mathlib.Core.Bool.{Bool, true, false}
use mathlib.Core.Option.{Option, none, some}
use native.Mathlib.Omega.{arith}
use native.Mathlib.Nat.{le_refl, le_trans}
use Rattle.meaning.specs.declared.State.{State}
use Rattle.meaning.specs.Computation.{Result, ok, stop, Comp, then_of, spend_of, spend, stop_unless, surely, check, present, choose, whether}

-- Both end with the same value, of which P holds, or with the same stop, 40 to 45; of n attempts no more are left.
pub data Safe {A : Type 0} (P : A → State → Type 0) (n : State) : Result A → Result A → Type 0 where
  goes : {a : A} {l : State} → l.attempts ≤ n.attempts → P a l → Safe P n (ok a l) (ok a l)
  stops : {k : ℕ} {l : State} → l.attempts ≤ n.attempts → 40 ≤ k → k ≤ 45 → Safe P n (stop k l) (stop k l)

pub safe_less : {A : Type 0} {P : A → State → Type 0} {n m : State} {x y : Result A} → n.attempts ≤ m.attempts → Safe P n x y → Safe P m x y
safe_less h (goes l p) = goes (le_trans l h) p
safe_less h (stops l a b) = stops (le_trans l h) a b

pub returns : {A : Type 0} {P : A → State → Type 0} {n : State} {a : A} → P a n → Safe P n (ok a n) (ok a n)
returns {n = n} p = goes (le_refl n.attempts) p

-- one after the other
pub and_then : {A B : Type 0} {P : A → State → Type 0} {Q : B → State → Type 0} {n : State} {x y : Result A} {j k : A → Comp B}
    → Safe P n x y → ((a : A) (l : State) → l.attempts ≤ n.attempts → P a l → Safe Q l (j a l) (k a l)) → Safe Q n (then_of x j) (then_of y k)
unfolding then_of
and_then (goes {a} {l} h p) f = safe_less h (f a l h p)
and_then (stops h a b) f = stops h a b

abbrev pub Any : {A : Type 0} → A → State → Type 0
Any a l = Unit {0}

pub stop_unless_safe : (k : ℕ) (b : Bool) (n : State) → 40 ≤ k → k ≤ 45 → Safe (λ u l. b ≡ true) n (stop_unless k b n) (stop_unless k b n)
unfolding stop_unless
stop_unless_safe k true n p q = returns refl
stop_unless_safe k false n p q = stops (le_refl n.attempts) p q

pub surely_safe : (b : Bool) (n : State) → b ≡ true → Safe Any n (surely b n) (surely b n)
unfolding surely
surely_safe true n e = returns tt
surely_safe false n e = let z : ◌≡◌ {A = ℕ} 0 1 = cc in absurd (omega arith)

pub check_safe : (b : Bool) (n : State) → b ≡ true → Safe Any n (check true b n) (check false b n)
unfolding check surely
check_safe true n e = returns tt
check_safe false n e = let z : ◌≡◌ {A = ℕ} 0 1 = cc in absurd (omega arith)

pub present_safe : {A : Type 0} {o : Option A} {a : A} (n : State) → o ≡ some a → Safe (λ b l. b ≡ a) n (present o n) (present o n)
unfolding present
present_safe n e = rw e (returns refl)

pub choose_safe : {A : Type 0} {P : A → State → Type 0} {n : State} {j j' k k' : Comp A} (b : Bool)
    → ((l : State) → l.attempts ≤ n.attempts → b ≡ true → Safe P l (j l) (j' l)) → ((l : State) → l.attempts ≤ n.attempts → b ≡ false → Safe P l (k l) (k' l)) → Safe P n (choose b j k n) (choose b j' k' n)
unfolding choose
choose_safe {n = n} true p q = p n (le_refl n.attempts) refl
choose_safe {n = n} false p q = q n (le_refl n.attempts) refl

-- a property of what there may be
abbrev pub Maybe : {A : Type 0} → (A → Type 0) → Option A → Type 0
Maybe P none = Unit {0}
Maybe P (some a) = P a

pub whether_safe : {A B : Type 0} {Q : A → Type 0} {P : B → State → Type 0} {n : State} {j j' : A → Comp B} {k k' : Comp B} (o : Option A) → Maybe Q o
    → ((a : A) (l : State) → l.attempts ≤ n.attempts → Q a → Safe P l (j a l) (j' a l)) → ((l : State) → l.attempts ≤ n.attempts → Safe P l (k l) (k' l)) → Safe P n (whether o j k n) (whether o j' k' n)
unfolding whether
whether_safe {n = n} (some a) q f h = f a n (le_refl n.attempts) q
whether_safe {n = n} none q f h = h n (le_refl n.attempts)

pub safe_map : {A : Type 0} {P Q : A → State → Type 0} {n : State} {x y : Result A} → ((a : A) (l : State) → l.attempts ≤ n.attempts → P a l → Q a l) → Safe P n x y → Safe Q n x y
safe_map f (goes {a} {l} h p) = goes h (f a l h p)
safe_map f (stops h a b) = stops h a b

spend_of_safe : (n : State) (a : ℕ) → n.attempts ≡ a → Safe (λ u l. l.attempts < n.attempts) n (spend_of a n) (spend_of a n)
unfolding spend_of
spend_of_safe n zero e = stops {k = 40} (le_refl n.attempts) (omega arith) (omega arith)
spend_of_safe n (suc a) e = let h : a < n.attempts = omega (arith, e) in goes {l = record { attempts = a }} (omega (arith, h)) h

pub spend_safe : (n : State) → Safe (λ u l. l.attempts < n.attempts) n (spend n) (spend n)
unfolding spend
spend_safe n = spend_of_safe n n.attempts refl

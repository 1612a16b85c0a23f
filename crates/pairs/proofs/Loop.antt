-- Laws of the pairs of a pattern, replacement or condition, read in one loop over the stack. Assumes nothing.
use Prim.Native.Nat.{ℕ, ◌+◌, ◌-◌, ◌<◌, ◌≤◌}
use mathlib.Core.Path.{◌≡◌, refl, ap, ◌∙◌}
use mathlib.Core.List.{List, [], ◌∷◌, ◌++◌}
use native.Mathlib.Omega.{arith}
use lib.ListN.{length, get_or, drop, length-drop, length-append}
use lib.Dec.{ltb}
use borrow.Author.Tests.{lt-ltb, le-ltb}
use Rattle.std.specs.Prelude.{Result, Ok, Err, Option, None, Some}
use Rattle.words.specs.Reader.{Words, pick, Read, value, refused, Reader, and_then}
use Rattle.tree.specs.Dues.{Next, pairs, whole}
use Rattle.tree.proofs.Dues.{Steady, steady_next, none_due}
use Rattle.judgement.specs.Typing.{Due, Context}
use Rattle.dues.specs.declared.due.Due as Code
use Rattle.dues.specs.Due.{due_as}
use Rattle.dues.specs.Stack.{Popped}
use Rattle.dues.specs.Views.{Meets, Left}
use Rattle.pairs.specs.Views.{typed_as}
use Rattle.words.proofs.Stretches.{drop_pair}

abbrev Meeting : Type 0
Meeting = Due → Context → ℕ → ℕ → Reader (Next Due Context)

pairs_short : (M : Meeting) (l : Words) (d : Due) (ds : List Due) (Γ : Context) (at : ℕ) → length l < 2 → pairs M 23 l (d ∷ ds) Γ at ≡ refused 23 (at + length l)
unfolding pairs
pairs_short M [] d ds Γ at h = let z : at + 0 ≡ at = omega arith in rw z
pairs_short M (t ∷ []) d ds Γ at h = refl
pairs_short M (t ∷ v ∷ l) d ds Γ at h = absurd (omega arith)

-- what the pairs ps from the i-th word on make of what is due; they begin at `start`
abbrev pub rest : Meeting → Words → ℕ → ℕ → List Due → Context → Read Context
rest M ps start i ds Γ = and_then (pairs M 23 (drop i ps) ds Γ (start + i)) (λ known next. pick (ltb next (start + length ps)) (refused 23 next) (value known next))

pub rest_all : (M : Meeting) (ps : Words) (start : ℕ) (d : Due) (Γ : Context) → whole M 23 ps (d ∷ []) Γ start ≡ rest M ps start 0 (d ∷ []) Γ
unfolding whole
rest_all M ps start d Γ = let z : start + 0 ≡ start = omega arith in rw z

module _ (M : Meeting) (ps : Words) (start i : ℕ) (Γ : Context) where
  nothing_due : rest M ps start i [] Γ ≡ pick (ltb (start + i) (start + length ps)) (refused 23 (start + i)) (value Γ (start + i))
  nothing_due = rw (none_due M 23 (drop i ps) Γ (start + i))

  pub rest_over : i < length ps → Err (23, start + i) ≡ typed_as (rest M ps start i [] Γ)
  rest_over l = rw (nothing_due, lt-ltb (start + i) (start + length ps) (omega arith))

  pub rest_whole : length ps ≤ i → Ok (Γ, start + i) ≡ typed_as (rest M ps start i [] Γ)
  rest_whole l = rw (nothing_due, le-ltb (start + i) (start + length ps) (omega arith))

  module _ (d : Due) (ds : List Due) where
    -- where the pairs from r on leave what those from i on leave
    pub rest_passed : (r : ℕ) → ((ds : List Due) (Γ : Context) (start : ℕ) → pairs M 23 (drop i ps) (d ∷ ds) Γ (start + i) ≡ pairs M 23 (drop r ps) (d ∷ ds) Γ (start + r)) → rest M ps start i (d ∷ ds) Γ ≡ rest M ps start r (d ∷ ds) Γ
    rest_passed r same = rw (same ds Γ start)

    pub rest_short : i ≤ length ps → length ps - i < 2 → Err (23, start + length ps) ≡ typed_as (rest M ps start i (d ∷ ds) Γ)
    rest_short k h =
        let q = pairs_short M (drop i ps) d ds Γ (start + i) (omega (arith, length-drop i ps)) in
        let z : start + i + length (drop i ps) ≡ start + length ps = omega (arith, length-drop i ps) in
        rw (q, z)

    module _ (two : i + 2 ≤ length ps) where
      -- the pair that meets what is due
      abbrev one_pair : Reader (Next Due Context)
      one_pair = M d Γ (get_or ps i 0) (get_or ps (i + 1) 0)

      -- what is read after it
      unfoldable after : Next Due Context → Reader Context
      after s next = and_then (pairs M 23 (drop (i + 2) ps) (s.dues ++ ds) s.known next) (λ known next. pick (ltb next (start + length ps)) (refused 23 next) (value known next))

      rest_step : rest M ps start i (d ∷ ds) Γ ≡ and_then (one_pair (start + i)) after
      unfolding pairs after
      rest_step = rw (drop_pair ps i two) (go (one_pair (start + i)))
        where
          go : (q : Read (Next Due Context))
              → and_then (and_then q (λ s. pairs M 23 (drop (i + 2) ps) (s.dues ++ ds) s.known)) (λ known next. pick (ltb next (start + length ps)) (refused 23 next) (value known next)) ≡ and_then q after
          go (value s next) = refl
          go (refused n p) = refl

      pub rest_fault : {x : ℕ × ℕ} {ds' : List Due} → Meets (Err x) Γ ds ds' (one_pair (start + i)) → Err x ≡ typed_as (rest M ps start i (d ∷ ds) Γ)
      rest_fault m = rw (rest_step, m.says)

      module _ (steady : Steady one_pair) where
        rest_left : (Δ : Context) (ds' : List Due) → Left Δ ds ds' (one_pair (start + i)) → rest M ps start i (d ∷ ds) Γ ≡ rest M ps start (i + 2) ds' Δ
        unfolding after
        rest_left Δ ds' l =
            let z : l.next ≡ start + i + 2 = steady_next one_pair steady (start + i) _ l.next l.read in
            let y : l.next ≡ start + (i + 2) = omega arith in
            rest_step ∙ rw (l.read, y, l.pushed)

        module _ {m : Result (Option ℕ) (ℕ × ℕ)} {ds' : List Due} (met : Meets m Γ ds ds' (one_pair (start + i))) where
          pub rest_next : m ≡ Ok None → rest M ps start i (d ∷ ds) Γ ≡ rest M ps start (i + 2) ds' Γ
          rest_next e = let n : Meets (Ok None) Γ ds ds' (one_pair (start + i)) = rw e at met in rest_left Γ ds' n.says

          pub rest_new : {t : ℕ} → m ≡ Ok (Some t) → rest M ps start i (d ∷ ds) Γ ≡ rest M ps start (i + 2) ds' (Γ ++ t ∷ [])
          rest_new {t} e = let n : Meets (Ok (Some t)) Γ ds ds' (one_pair (start + i)) = rw e at met in rest_left (Γ ++ t ∷ []) ds' n.says.1

-- how high the stack is then, and that there is room for a new variable
pub left_few : {Δ : Context} {ds ds' : List Due} {q : Read (Next Due Context)} → Left Δ ds ds' q → length ds' ≤ length ds + 8
left_few {Δ} {ds} {ds'} l = omega (arith, ap length l.pushed, length-append l.dues ds, l.few)

some_few : {Γ : Context} {ds ds' : List Due} {q : Read (Next Due Context)} (o : Option ℕ) → Meets (Ok o) Γ ds ds' q → length ds' ≤ length ds + 8
some_few None m = left_few m.says
some_few (Some d) m = left_few m.says.1

module _ {Γ : Context} {ds ds' : List Due} {q : Read (Next Due Context)} {m : Result (Option ℕ) (ℕ × ℕ)} (met : Meets m Γ ds ds' q) where
  pub met_few : (o : Option ℕ) → m ≡ Ok o → length ds' ≤ length ds + 8
  met_few o e = let n : Meets (Ok o) Γ ds ds' q = rw e at met in some_few o n

  pub met_room : {d : ℕ} → m ≡ Ok (Some d) → length Γ < 16
  met_room {d} e = let n : Meets (Ok (Some d)) Γ ds ds' q = rw e at met in n.says.0

pub not_some : (o : Option ℕ) → ((d : ℕ) → o ≡ Some d → ⊥) → o ≡ None
not_some None h = refl
not_some (Some d) h = absurd (h d refl)

-- WHAT IS TAKEN OFF THE STACK

pub pop_some : (s : List Due) {r : Option Code.Due} (ds : List Due) {d : Code.Due} → Popped s r ds → r ≡ Some d → s ≡ due_as d ∷ ds
pop_some [] ds p e = cc p.0
pop_some (x ∷ xs) {r} ds {d} p e =
    let f : d ≡ p.0 = cc p.1 in
    rw (f, p.2, p.3)

pub pop_none : (s : List Due) {r : Option Code.Due} (ds : List Due) → Popped s r ds → ((d : Code.Due) → r ≡ Some d → ⊥) → s ≡ []
pop_none [] ds p h = refl
pop_none (x ∷ xs) ds p h = absurd (h p.0 p.1)

-- the whole reading, after a due is taken off and tokens are passed over
pub taken_off : (M : Meeting) (ps : Words) (start i r : ℕ) (Γ : Context) (s ds : List Due) (d : Due) {all : Read Context} → all ≡ rest M ps start i s Γ → s ≡ d ∷ ds
    → ((ds : List Due) (Γ : Context) (start : ℕ) → pairs M 23 (drop i ps) (d ∷ ds) Γ (start + i) ≡ pairs M 23 (drop r ps) (d ∷ ds) Γ (start + r)) → all ≡ rest M ps start r (d ∷ ds) Γ
taken_off M ps start i r Γ s ds d e f same = e ∙ ap (λ l. rest M ps start i l Γ) f ∙ rest_passed M ps start i Γ d ds r same

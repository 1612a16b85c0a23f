-- Laws of reading pairs against what is due, for any dues and any way to meet them that reads one pair, the same at every position. Assumes nothing.
use Prim.Native.Nat.{ℕ, suc, ◌+◌, ◌-◌, ◌≤◌}
use mathlib.Core.Path.{◌≡◌, refl, sym, ap, ◌∙◌}
use mathlib.Core.List.{List, [], ◌∷◌, ◌++◌, append_assoc}
use mathlib.Core.Bool.{Bool, true, false}
use mathlib.Core.Option.{Option, none, some}
use native.Mathlib.Omega.{arith}
use lib.ListN.{length, drop}
use lib.Seq.{drop-nil}
use lib.Dec.{ltb}
use borrow.Author.Tests.{lt-ltb, le-ltb}
use Rattle.words.specs.Reader.{Words, pick, and, Read, value, refused, Reader, and_then, ◌>>◌, require}
use Rattle.tree.specs.Dues.{Next, leaves, pairs, whole}

-- A READING WITHOUT THE REFUSAL'S NUMBER AND POSITION

abbrev pub plain : {A : Type 0} → Read A → Read A
plain (value a n) = value a n
plain (refused n p) = refused 0 0

abbrev pub placed : {A : Type 0} → Option A → ℕ → Read A
placed (some a) n = value a n
placed none n = refused 0 0

abbrev pub done : {A : Type 0} → Read A → Option A
done (value a n) = some a
done (refused n p) = none

abbrev pub bind : {A B : Type 0} → Option A → (A → Option B) → Option B
bind none f = none
bind (some a) f = f a

-- the answer, where the test holds
abbrev pub when : {A : Type 0} → Bool → Option A → Option A
when b o = pick b o none

pub bind_when : {A B : Type 0} (b : Bool) (o : Option A) (f : A → Option B) → bind (when b o) f ≡ when b (bind o f)
bind_when true o f = refl
bind_when false o f = refl

pub when_none : {A : Type 0} (b : Bool) → ◌≡◌ {A = Option A} none (when b none)
when_none true = refl
when_none false = refl

pub when_never : {A : Type 0} (b : Bool) (o : Option A) → none ≡ when (and b false) o
when_never true o = refl
when_never false o = refl

-- one reading after another
pub plain_then : {A B : Type 0} (q : Read A) (o : Option A) (n : ℕ) (f : A → Reader B) (F : A → Option B) (next : ℕ) → plain q ≡ placed o n
    → ((a : A) → o ≡ some a → plain (f a n) ≡ placed (F a) next) → plain (and_then q f) ≡ placed (bind o F) next
plain_then (value a m) (some b) n f F next e h = let y : a ≡ b = cc in let z : m ≡ n = cc in rw (y, z) (h b refl)
plain_then (value a m) none n f F next e h = let z : ◌≡◌ {A = ℕ} 0 1 = cc in absurd (omega arith)
plain_then (refused a m) (some b) n f F next e h = let z : ◌≡◌ {A = ℕ} 0 1 = cc in absurd (omega arith)
plain_then (refused a m) none n f F next e h = refl

-- A READER OF ONE PAIR, which reads the same at every position

abbrev pub Steady : {A : Type 0} → Reader A → Type 0
Steady r = (at : ℕ) → plain (r at) ≡ placed (done (r 0)) (at + 2)

pub leaves_steady : {D C : Type 0} (c : C) (ds : List D) → Steady (leaves c ds)
leaves_steady c ds at = refl

pub require_steady : {A : Type 0} (b : Bool) (n k : ℕ) (r : Reader A) → Steady r → Steady (◌>>◌ (require b n k) r)
require_steady true n k r p at = p at
require_steady false n k r p at = refl

pub pick_steady : {A : Type 0} (b : Bool) (r s : Reader A) → Steady r → Steady s → Steady (pick b r s)
pick_steady true r s p q = p
pick_steady false r s p q = q

pub steady_next : {A : Type 0} (r : Reader A) → Steady r → (at : ℕ) (a : A) (next : ℕ) → r at ≡ value a next → next ≡ at + 2
steady_next r p at a next e = go (done (r 0)) (sym (ap plain e) ∙ p at)
  where
    go : {A : Type 0} {a : A} (o : Option A) → value a next ≡ placed o (at + 2) → next ≡ at + 2
    go none h = let z : ◌≡◌ {A = ℕ} 0 1 = cc in absurd (omega arith)
    go (some b) h = cc

then_same : {A B : Type 0} (q : Read A) (f f' : A → Reader B) → ((a : A) (n : ℕ) → q ≡ value a n → f a n ≡ f' a n) → and_then q f ≡ and_then q f'
then_same (value a n) f f' h = h a n refl
then_same (refused n p) f f' h = refl

two_back : (t v : ℕ) (ws : Words) (at p next : ℕ) → p ≡ at + 2 → p ≤ next → drop (next - p) ws ≡ drop (next - at) (t ∷ v ∷ ws)
two_back t v ws at p next e h = rw more
  where
    more : next - at ≡ suc (suc (next - p))
    more = omega arith

pub none_due : {D C : Type 0} (meets : D → C → ℕ → ℕ → Reader (Next D C)) (short : ℕ) (ws : Words) (c : C) (at : ℕ) → pairs meets short ws [] c at ≡ value c at
unfolding pairs
none_due meets short [] c at = refl
none_due meets short (t ∷ []) c at = refl
none_due meets short (t ∷ v ∷ ws) c at = refl

-- WHAT IS READ WHERE NOTHING IS REFUSED: all the pairs against all that is due, with no positions
module _ {D C : Type 0} (meets : D → C → ℕ → ℕ → Reader (Next D C)) where
  unfoldable pub exact : Words → List D → C → Option C
  exact [] [] c = some c
  exact [] (d ∷ ds) c = none
  exact (t ∷ []) ds c = none
  exact (t ∷ v ∷ ws) [] c = none
  exact (t ∷ v ∷ ws) (d ∷ ds) c = bind (done (meets d c t v 0)) (λ s. exact ws (s.dues ++ ds) s.known)

module _ {D C : Type 0} (meets : D → C → ℕ → ℕ → Reader (Next D C)) (short : ℕ) (steady : (d : D) (c : C) (t v : ℕ) → Steady (meets d c t v)) where
  abbrev read : Words → List D → C → Reader C
  read = pairs meets short

  -- the next position lies no further back, and not past the end
  pub pairs_forward : (ws : Words) (ds : List D) (c : C) (at : ℕ) (c' : C) (next : ℕ) → pairs meets short ws ds c at ≡ value c' next → (at ≤ next) × (next ≤ at + length ws)
  unfolding pairs
  pairs_forward [] [] c at c' next e = let z : at ≡ next = cc in (omega arith, omega arith)
  pairs_forward [] (d ∷ ds) c at c' next e = let z : ◌≡◌ {A = ℕ} 0 1 = cc in absurd (omega arith)
  pairs_forward (t ∷ []) [] c at c' next e = let z : at ≡ next = cc in (omega arith, omega arith)
  pairs_forward (t ∷ []) (d ∷ ds) c at c' next e = let z : ◌≡◌ {A = ℕ} 0 1 = cc in absurd (omega arith)
  pairs_forward (t ∷ v ∷ ws) [] c at c' next e = let z : at ≡ next = cc in (omega arith, omega arith)
  pairs_forward (t ∷ v ∷ ws) (d ∷ ds) c at c' next e = go (meets d c t v at) refl e (pairs_forward ws)
    where
      go : (q : Read (Next D C)) → meets d c t v at ≡ q → and_then q (λ s. read ws (s.dues ++ ds) s.known) ≡ value c' next
          → ((ds : List D) (c : C) (at : ℕ) (c' : C) (next : ℕ) → read ws ds c at ≡ value c' next → (at ≤ next) × (next ≤ at + length ws)) → (at ≤ next) × (next ≤ at + length (t ∷ v ∷ ws))
      go (value s p) h i rest =
          let z = steady_next (meets d c t v) (steady d c t v) at s p h in
          let r = rest (s.dues ++ ds) s.known p c' next i in
          (omega (arith, r.0), omega (arith, r.1))
      go (refused n p) h i rest = let z : ◌≡◌ {A = ℕ} 0 1 = cc in absurd (omega arith)

  -- DUES ARE MET ONE AFTER THE OTHER
  pub pairs_split : (ws : Words) (ds es : List D) (c : C) (at : ℕ) → pairs meets short ws (ds ++ es) c at ≡ and_then (pairs meets short ws ds c at) (λ c' next. pairs meets short (drop (next - at) ws) es c' next)
  unfolding pairs
  pairs_split [] [] es c at = rw (drop-nil {A = ℕ} (at - at))
  pairs_split [] (d ∷ ds) es c at = refl
  pairs_split (t ∷ []) [] es c at = let z : at - at ≡ 0 = omega arith in rw z
  pairs_split (t ∷ []) (d ∷ ds) es c at = refl
  pairs_split (t ∷ v ∷ ws) [] es c at = let z : at - at ≡ 0 = omega arith in rw z
  pairs_split (t ∷ v ∷ ws) (d ∷ ds) es c at = go (meets d c t v at) refl (λ ds c at. pairs_split ws ds es c at)
    where
      go : (q : Read (Next D C)) → meets d c t v at ≡ q → ((ds : List D) (c : C) (at : ℕ) → read ws (ds ++ es) c at ≡ and_then (read ws ds c at) (λ c' next. read (drop (next - at) ws) es c' next))
          → and_then q (λ s. read ws (s.dues ++ (ds ++ es)) s.known) ≡ and_then (and_then q (λ s. read ws (s.dues ++ ds) s.known)) (λ c' next. read (drop (next - at) (t ∷ v ∷ ws)) es c' next)
      go (value s p) h rest =
          ap (λ l. read ws l s.known p) (sym (append_assoc s.dues ds es)) ∙ rest (s.dues ++ ds) s.known p
          ∙ then_same (read ws (s.dues ++ ds) s.known p) (λ c' next. read (drop (next - p) ws) es c' next) (λ c' next. read (drop (next - at) (t ∷ v ∷ ws)) es c' next)
          (λ a n e. ap (λ l. read l es a n) (two_back t v ws at p n (steady_next (meets d c t v) (steady d c t v) at s p h) (pairs_forward ws (s.dues ++ ds) s.known p a n e).0))
      go (refused n p) h rest = refl

  abbrev to : ℕ → C → Reader C
  to last c next = pick (ltb next last) (refused short next) (value c next)

  pairs_exact : (ws : Words) (ds : List D) (c : C) (at : ℕ) → plain (and_then (pairs meets short ws ds c at) (to (at + length ws))) ≡ placed (exact meets ws ds c) (at + length ws)
  unfolding pairs exact
  pairs_exact [] [] c at = let z : at + 0 ≡ at = omega arith in rw (z, le-ltb at at (omega arith))
  pairs_exact [] (d ∷ ds) c at = refl
  pairs_exact (t ∷ []) [] c at = rw (lt-ltb at (at + 1) (omega arith))
  pairs_exact (t ∷ []) (d ∷ ds) c at = refl
  pairs_exact (t ∷ v ∷ ws) [] c at = rw (lt-ltb at (at + suc (suc (length ws))) (omega arith))
  pairs_exact (t ∷ v ∷ ws) (d ∷ ds) c at = go (meets d c t v at) (done (meets d c t v 0)) (steady d c t v at) (pairs_exact ws)
    where
      go : (q : Read (Next D C)) (o : Option (Next D C)) → plain q ≡ placed o (at + 2)
          → ((ds : List D) (c : C) (at : ℕ) → plain (and_then (read ws ds c at) (to (at + length ws))) ≡ placed (exact meets ws ds c) (at + length ws))
          → plain (and_then (and_then q (λ s. read ws (s.dues ++ ds) s.known)) (to (at + suc (suc (length ws))))) ≡ placed (bind o (λ s. exact meets ws (s.dues ++ ds) s.known)) (at + suc (suc (length ws)))
      go (value s p) (some s') e rest =
          let z : s ≡ s' = cc in
          let y : p ≡ at + 2 = cc in
          let x : at + suc (suc (length ws)) ≡ at + 2 + length ws = omega arith in
          rw (z, y, x) (rest (s'.dues ++ ds) s'.known (at + 2))
      go (value s p) none e rest = let z : ◌≡◌ {A = ℕ} 0 1 = cc in absurd (omega arith)
      go (refused n p) (some s') e rest = let z : ◌≡◌ {A = ℕ} 0 1 = cc in absurd (omega arith)
      go (refused n p) none e rest = refl

  pub whole_exact : (ws : Words) (ds : List D) (c : C) (at : ℕ) → plain (whole meets short ws ds c at) ≡ placed (exact meets ws ds c) (at + length ws)
  unfolding whole
  whole_exact ws ds c at = pairs_exact ws ds c at

-- Laws of readers, over plain variables. Assumes nothing.
use Prim.Native.Nat.{ℕ, zero, suc, ◌+◌, ◌-◌, ◌<◌, ◌≤◌}
use mathlib.Core.Path.{◌≡◌, refl, sym, ap, ◌∙◌}
use mathlib.Core.List.{List, [], ◌∷◌}
use mathlib.Core.Bool.{Bool, true, false}
use mathlib.Core.Option.{none, some}
use native.Mathlib.Omega.{arith}
use lib.ListN.{length, get_or, get_elem?}
use Rattle.std.specs.Prelude.{Result, Ok, Err, IsErr, IsErrAnd}
use Rattle.std.proofs.lemmas.Result.{err_from_is_err_and}
use lib.Dec.{ltb, leb}
use borrow.Author.Tests.{lt-ltb, le-ltb, ltb-true, leb-true}
use Rattle.words.specs.Reader.{Words, pick, and, or, between, Read, value, refused, Reader, and_then, ◌>>=◌, return, require, word, word_in, many, accepted}
use Rattle.words.specs.Views.{answer, got, shown}

-- WHAT THE CODE'S ANSWER TELLS OF THE READING

pub read_word : (r : Read ℕ) (g : Result (ℕ × ℕ) (ℕ × ℕ)) → g ≡ got r → {x : ℕ × ℕ} → g ≡ Ok x → r ≡ value x.0 x.1
read_word (value a b) g d e = let p = sym e ∙ d in cc
read_word (refused n p) g d e = let z = sym e ∙ d in cc

pub read_bad : (r : Read ℕ) (g : Result (ℕ × ℕ) (ℕ × ℕ)) → g ≡ got r → {x : ℕ × ℕ} → g ≡ Err x → r ≡ refused x.0 x.1
read_bad (value a b) g d e = let z = sym e ∙ d in cc
read_bad (refused n p) g d e = let p = sym e ∙ d in cc

pub answer_passed : {A : Type 0} (r : Read A) (c : Result ℕ (ℕ × ℕ)) → c ≡ answer r → {p : ℕ} → c ≡ Ok p → (a : A) × (r ≡ value a p)
answer_passed (value a q) c d e = (a, cc)
answer_passed (refused n q) c d e = let z = sym e ∙ d in cc

pub answer_refused : {A : Type 0} (r : Read A) (c : Result ℕ (ℕ × ℕ)) → c ≡ answer r → {x : ℕ × ℕ} → c ≡ Err x → r ≡ refused x.0 x.1
answer_refused (value a q) c d e = let z = sym e ∙ d in cc
answer_refused (refused n q) c d e = cc

-- what a `?` hands on is the error that it met
pub exits : {T E : Type 0} (r : Result T E) {y : E} → IsErr r × IsErrAnd r (λ e. e ≡ y) → r ≡ Err y
exits r h = let p = err_from_is_err_and r h.1 in p.1 ∙ ap Err p.2

pub pair_is : {A B : Type 0} {a c : A} {b d : B} → ◌≡◌ {A = A × B} (a, b) (c, d) → (a ≡ c) × (b ≡ d)
pair_is e = (ap (λ p. p.0) e, ap (λ p. p.1) e)

pub shown_ok : {A B : Type 0} (f : A → B) (r : Read A) {b : B} {next : ℕ} → Ok (b, next) ≡ shown f r → (a : A) × (r ≡ value a next) × (b ≡ f a)
shown_ok f (value a q) {b} {next} d =
    let p = pair_is {a = b} {c = f a} {b = next} {d = q} cc in
    (a, ap (value a) (sym p.1), p.0)
shown_ok f (refused n q) d = cc

pub shown_err : {A B : Type 0} (f : A → B) (r : Read A) {x : ℕ × ℕ} → Err x ≡ shown f r → r ≡ refused x.0 x.1
shown_err f (value a q) d = cc
shown_err f (refused n q) d = cc

-- what is made of the value, then of that
pub shown_map : {A B C : Type 0} (f : B → C) (h : A → B) (q : Read A) → shown f (and_then q (λ a. return (h a))) ≡ shown (λ a. f (h a)) q
shown_map f h (value a next) = refl
shown_map f h (refused n p) = refl

-- .. is the same, if the same is made of each value
pub shown_same : {A B : Type 0} (f h : A → B) → ((a : A) → f a ≡ h a) → (q : Read A) → shown f q ≡ shown h q
shown_same f h e (value a next) = ap (λ b. Ok (b, next)) (e a)
shown_same f h e (refused n p) = refl

-- what is made of the value does not change the answer
pub answer_map : {A B : Type 0} (q : Read A) (f : A → B) → answer q ≡ answer (and_then q (λ a. return (f a)))
answer_map (value a m) f = refl
answer_map (refused n p) f = refl

pub answer_then : {A B : Type 0} (q : Read A) (b : B) → answer q ≡ answer (and_then q (λ a. return b))
answer_then q b = answer_map q (λ a. b)

-- WHAT A READING THAT GAVE A VALUE WENT THROUGH

pub then_value : {A B : Type 0} (q : Read A) (f : A → Reader B) {b : B} {next : ℕ} → and_then q f ≡ value b next → (a : A) × (p : ℕ) × (q ≡ value a p) × (f a p ≡ value b next)
then_value (value a p) f e = (a, p, refl, e)
then_value (refused n p) f e = let z : ◌≡◌ {A = ℕ} 0 1 = cc in absurd (omega arith)

pub require_value : {A : Type 0} (b : Bool) (n k at : ℕ) (f : Unit {0} → Reader A) {a : A} {next : ℕ} → and_then (require b n k at) f ≡ value a next → (b ≡ true) × (f tt at ≡ value a next)
require_value true n k at f e = (refl, e)
require_value false n k at f e = let z : ◌≡◌ {A = ℕ} 0 1 = cc in absurd (omega arith)

pub pick_value : {A : Type 0} (t : Bool) (a b : A) (p n q next : ℕ) → pick t (value a p) (refused n q) ≡ value b next → (t ≡ true) × (a ≡ b) × (p ≡ next)
pick_value true a b p n q next e = (refl, cc, cc)
pick_value false a b p n q next e = let z : ◌≡◌ {A = ℕ} 0 1 = cc in absurd (omega arith)

pub accepted_value : {A : Type 0} (q : Read A) → accepted q ≡ true → (a : A) × (next : ℕ) × (q ≡ value a next)
accepted_value (value a next) e = (a, next, refl)
accepted_value (refused n p) e = let z : ◌≡◌ {A = ℕ} 0 1 = cc in absurd (omega arith)

pub and_both : (a b : Bool) → and a b ≡ true → (a ≡ true) × (b ≡ true)
and_both true b e = (refl, e)
and_both false b e = let z : ◌≡◌ {A = ℕ} 0 1 = cc in absurd (omega arith)

pub and_true : (a : Bool) → a ≡ and a true
and_true true = refl
and_true false = refl

pub and_assoc : (a b c : Bool) → and a (and b c) ≡ and (and a b) c
and_assoc true b c = refl
and_assoc false b c = refl

pub or_false : (a : Bool) → a ≡ or a false
or_false true = refl
or_false false = refl

pub or_true : (a : Bool) → or a true ≡ true
or_true true = refl
or_true false = refl

pub or_assoc : (a b c : Bool) → or a (or b c) ≡ or (or a b) c
or_assoc true b c = refl
or_assoc false b c = refl

pub word_value : (ends : ℕ) (ws : Words) (at : ℕ) {w next : ℕ} → word ends ws at ≡ value w next → (at < length ws) × (w ≡ get_or ws at 0) × (next ≡ at + 1)
unfolding word
word_value ends ws at {w} {next} e =
    let t = pick_value (ltb at (length ws)) (get_or ws at 0) w (at + 1) ends (length ws) next e in
    (ltb-true at (length ws) t.0, sym t.1, sym t.2)

pub in_value : (ends fault : ℕ) (ws : Words) (low high at : ℕ) {w next : ℕ} → word_in ends fault ws low high at ≡ value w next → (w ≡ get_or ws at 0) × (next ≡ at + 1) × (low ≤ w) × (w ≤ high) × (at < length ws)
unfolding word_in
in_value ends fault ws low high at {w} {next} e =
    let u = then_value (word ends ws at) (λ x p. pick (between low high x) (value x p) (refused fault at)) e in
    let t = word_value ends ws at u.2 in
    let v = pick_value (between low high u.0) u.0 w u.1 fault at next u.3 in
    let b = and_both (leb low u.0) (leb u.0 high) v.0 in
    (sym v.1 ∙ t.1, sym v.2 ∙ t.2, rw v.1 at (leb-true low u.0 b.0), rw v.1 at (leb-true u.0 high b.1), t.0)

-- AN ELEMENT OF A LIST, or none

pub there_some : {A : Type 0} (l : List A) (i : ℕ) (d : A) → i < length l → get_elem? l i ≡ some (get_or l i d)
there_some [] i d h = absurd (omega arith)
there_some (x ∷ l) zero d h = refl
there_some (x ∷ l) (suc i) d h = there_some l i d (omega arith)

pub past_none : {A : Type 0} (l : List A) (i : ℕ) → length l ≤ i → get_elem? l i ≡ none
past_none [] i h = refl
past_none (x ∷ l) zero h = absurd (omega arith)
past_none (x ∷ l) (suc i) h = past_none l i (omega arith)

-- ONE WORD

module _ (ends : ℕ) (ws : Words) (at : ℕ) where
  pub word_there : at < length ws → Ok (get_or ws at 0, at + 1) ≡ got (word ends ws at)
  unfolding word
  word_there h = rw (lt-ltb at (length ws) h)

  pub word_ends : length ws ≤ at → Err (ends, length ws) ≡ got (word ends ws at)
  unfolding word
  word_ends h = rw (le-ltb at (length ws) h)

  module _ (fault low high : ℕ) (g : Result (ℕ × ℕ) (ℕ × ℕ)) (e : g ≡ got (word ends ws at)) where
    pub in_bad : {x : ℕ × ℕ} → g ≡ Err x → Err x ≡ got (word_in ends fault ws low high at)
    unfolding word_in
    in_bad b = rw (read_bad (word ends ws at) g e b)

    pub in_out : {x : ℕ × ℕ} → g ≡ Ok x → between low high x.0 ≡ false → Err (fault, at) ≡ got (word_in ends fault ws low high at)
    unfolding word_in
    in_out b h = rw (read_word (word ends ws at) g e b, h)

    pub in_there : {x : ℕ × ℕ} → g ≡ Ok x → between low high x.0 ≡ true → Ok x ≡ got (word_in ends fault ws low high at)
    unfolding word_in
    in_there b h = rw (read_word (word ends ws at) g e b, h)

-- A READER MANY TIMES

module _ {A : Type 0} (r : Reader A) where
  pub many_none : (k at : ℕ) → k ≤ 0 → many k r at ≡ value [] at
  unfolding many
  many_none zero at h = refl
  many_none (suc k) at h = absurd (omega arith)

  pub many_bad : (k at : ℕ) {n p : ℕ} → 0 < k → r at ≡ refused n p → many k r at ≡ refused n p
  unfolding many
  many_bad zero at h e = absurd (omega arith)
  many_bad (suc k) at h e = rw e

  pub many_more : (k at : ℕ) {a : A} {next : ℕ} → 0 < k → r at ≡ value a next → many k r at ≡ and_then (many (k - 1) r next) (λ more. return (a ∷ more))
  unfolding many
  many_more zero at h e = absurd (omega arith)
  many_more (suc k) at h e = rw (e, the_rest)
    where
      the_rest : suc k - 1 ≡ k
      the_rest = omega arith

  -- in a loop that has read i of k: nothing is left, or one more is read
  pub many_done : (k i at : ℕ) → k ≤ i → many (k - i) r at ≡ value [] at
  many_done k i at h = many_none (k - i) at (omega arith)

  pub many_stop : (k i at : ℕ) {n p : ℕ} → i < k → r at ≡ refused n p → many (k - i) r at ≡ refused n p
  many_stop k i at h e = many_bad (k - i) at (omega arith) e

  pub many_next : (k i at : ℕ) {a : A} {next : ℕ} → i < k → r at ≡ value a next → many (k - i) r at ≡ and_then (many (k - (i + 1)) r next) (λ more. return (a ∷ more))
  many_next k i at {a} {next} h e =
      let z : k - i - 1 ≡ k - (i + 1) = omega arith in
      many_more (k - i) at (omega arith) e ∙ rw z

  -- what k readings give: the first, then the others
  pub many_suc : (k at : ℕ) {xs : List A} {next : ℕ} → many (suc k) r at ≡ value xs next → (a : A) × (p : ℕ) × (more : List A) × (r at ≡ value a p) × (many k r p ≡ value more next) × (xs ≡ a ∷ more)
  unfolding many
  many_suc k at {xs} e =
      let u = then_value (r at) (λ a. ◌>>=◌ (many k r) (λ more. return (a ∷ more))) e in
      let v = then_value (many k r u.1) (λ more. return (u.0 ∷ more)) u.3 in
      (u.0, u.1, v.0, u.2, cc (v.2, v.3), cc v.3)

  pub many_length : (k at : ℕ) (xs : List A) (next : ℕ) → many k r at ≡ value xs next → length xs ≡ k
  unfolding many
  many_length zero at xs next e = let z : [] ≡ xs = cc in rw (← z)
  many_length (suc k) at xs next e = let u = many_suc k at e in rw u.5 (ap suc (many_length k u.1 u.2 next u.4))

-- A LOOP THAT HAS READ i OF k, and stands at `at`

module _ {A : Type 0} (r : Reader A) (k i at : ℕ) where
  -- it hands back the position alone
  pub answer_done : k ≤ i → Ok at ≡ answer (many (k - i) r at)
  answer_done h = rw (many_done r k i at h)

  pub answer_stop : i < k → {x : ℕ × ℕ} → r at ≡ refused x.0 x.1 → Err x ≡ answer (many (k - i) r at)
  answer_stop h e = rw (many_stop r k i at h e)

  pub answer_next : i < k → {a : A} {next : ℕ} → r at ≡ value a next → answer (many (k - i) r at) ≡ answer (many (k - (i + 1)) r next)
  answer_next h {a} {next} e = rw (many_next r k i at h e) (sym (answer_map (many (k - (i + 1)) r next) (λ more. a ∷ more)))

  -- it gathers something as it goes, `acc` so far
  module _ {B C D : Type 0} (f : A → B) (all : D → List A → C) (acc : D) where
    pub shown_done : k ≤ i → Ok (all acc [], at) ≡ shown (all acc) (many (k - i) r at)
    shown_done h = rw (many_done r k i at h)

    pub shown_stop : i < k → {x : ℕ × ℕ} → Err x ≡ shown f (r at) → Err x ≡ shown (all acc) (many (k - i) r at)
    shown_stop h e = rw (many_stop r k i at h (shown_err f (r at) e))

    pub shown_next : (with : D → B → D) → ((a : A) (more : List A) → all acc (a ∷ more) ≡ all (with acc (f a)) more) → i < k → {b : B} {next : ℕ} → Ok (b, next) ≡ shown f (r at)
        → (m : D) → m ≡ with acc b → shown (all acc) (many (k - i) r at) ≡ shown (all m) (many (k - (i + 1)) r next)
    shown_next with step h {b} {next} e m d =
        let s = shown_ok f (r at) e in
        rw (many_next r k i at h s.1) (shown_map (all acc) (λ more. s.0 ∷ more) (many (k - (i + 1)) r next)
        ∙ shown_same _ _ (λ more. step s.0 more ∙ ap (λ x. all x more) (ap (with acc) (sym s.2) ∙ sym d)) (many (k - (i + 1)) r next))

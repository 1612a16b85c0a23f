-- Laws of a row of words stored from a place on. Assumes nothing.
use mathlib.Core.Path.{◌≡◌, refl, ap, ◌∙◌}
use mathlib.Core.List.{List, [], ◌∷◌, ◌++◌}
use Prim.Native.Nat.{ℕ, zero, suc, ◌+◌, ◌≤◌, ◌<◌}
use native.Mathlib.Omega.{arith}
use lib.ListN.{length, get_or, set, length-set}
use lib.Seq.{sets, set_comm, get_or-set_same, get_or-set_other}

-- one row after the other
pub sets_append : (l : List ℕ) (i : ℕ) (xs ys : List ℕ) → sets l i (xs ++ ys) ≡ sets (sets l i xs) (i + length xs) ys
sets_append l i [] ys = let z : i + 0 ≡ i = omega arith in rw z
sets_append l i (x ∷ xs) ys = let z : i + suc (length xs) ≡ suc i + length xs = omega arith in rw z (sets_append (set l i x) (suc i) xs ys)

-- a word below the row may be stored before it
pub set_below : (l : List ℕ) (b i y : ℕ) (xs : List ℕ) → b < i → set (sets l i xs) b y ≡ sets (set l b y) i xs
set_below l b i y [] h = refl
set_below l b i y (x ∷ xs) h = set_below (set l i x) b (suc i) y xs (omega arith) ∙ ap (λ k. sets k (suc i) xs) (set_comm l i b x y (λ e. omega arith))

-- what stands below the row, above it and in it
pub get_d_below : (l : List ℕ) (i j : ℕ) (xs : List ℕ) → j < i → get_or (sets l i xs) j 0 ≡ get_or l j 0
get_d_below l i j [] h = refl
get_d_below l i j (x ∷ xs) h = get_d_below (set l i x) (suc i) j xs (omega arith) ∙ get_or-set_other l i j x 0 (λ e. omega arith)

pub get_d_above : (l : List ℕ) (i j : ℕ) (xs : List ℕ) → i + length xs ≤ j → get_or (sets l i xs) j 0 ≡ get_or l j 0
get_d_above l i j [] h = refl
get_d_above l i j (x ∷ xs) h = get_d_above (set l i x) (suc i) j xs (omega arith) ∙ get_or-set_other l i j x 0 (λ e. omega arith)

pub get_d_within : (l : List ℕ) (i j : ℕ) (xs : List ℕ) → i + length xs ≤ length l → j < length xs → get_or (sets l i xs) (i + j) 0 ≡ get_or xs j 0
get_d_within l i j [] h k = absurd (omega arith)
get_d_within l i zero (x ∷ xs) h k =
    let z : i + 0 ≡ i = omega arith in
    rw z (get_d_below (set l i x) (suc i) i xs (omega arith) ∙ get_or-set_same l i x 0 (omega arith))
get_d_within l i (suc j) (x ∷ xs) h k =
    let z : i + suc j ≡ suc i + j = omega arith in
    rw z (get_d_within (set l i x) (suc i) j xs (omega (arith, length-set l i x)) (omega arith))

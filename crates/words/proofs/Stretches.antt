-- Laws of stretches that are copied, cleared and compared word by word. Assumes nothing.
use mathlib.Core.Path.{◌≡◌, refl, sym, ap, ap₂, ◌∙◌}
use mathlib.Core.List.{List, [], ◌∷◌, ◌++◌, map}
use mathlib.Core.Bool.{Bool, true, false, ◌&&◌}
use Prim.Native.Nat.{ℕ, zero, suc, ◌+◌, ◌-◌, ◌≤◌, ◌<◌}
use native.Mathlib.Numerals.{add-one, add-two}
use native.Mathlib.Nat.{zero-add}
use native.Mathlib.Omega.{arith}
use lib.ListN.{length, drop, take, get_or, set, length-append, length-drop, drop_of_length-le, get_or-append}
use lib.Seq.{paste, paste-suc, drop-paste, take-paste, get_or-append-add, get_or-drop, get_or-take, take-length, drop-cons, take_all, length-take-le}
use lib.Dec.{eqb, ltb}
use borrow.Author.Tests.{eq-eqb, ne_eqb, eqb-true, ltb-true, ltb-false}
use Rattle.words.specs.Reader.{pick, and}
use Rattle.words.specs.Views.{equal_words}
use Rattle.words.proofs.Laws.{and_true}
use lib.Pointwise.{pointwise}

-- a part to the end
pub part_rest : (i : ℕ) (ws : List ℕ) → take (length ws - i) (drop i ws) ≡ drop i ws
part_rest i ws = take_all (length ws - i) (drop i ws) (simp length-drop (omega arith))

-- the element at i
pub drop_next : {A : Type 0} (l : List A) (i : ℕ) (d : A) → i < length l → drop i l ≡ get_or l i d ∷ drop (i + 1) l
drop_next l i d h = drop-cons l i d h ∙ ap (λ j. get_or l i d ∷ drop j l) (sym (add-one i))

-- what an element becomes, each becoming something
pub get_d_map : {A B : Type 0} (f : A → B) (l : List A) (i : ℕ) (d : A) (e : B) → i < length l → get_or (map f l) i e ≡ f (get_or l i d)
get_d_map f [] i d e h = absurd (omega arith)
get_d_map f (x ∷ l) zero d e h = refl
get_d_map f (x ∷ l) (suc i) d e h = get_d_map f l i d e (omega arith)

-- the pair at i
pub drop_pair : (ws : List ℕ) (i : ℕ) → i + 2 ≤ length ws → drop i ws ≡ get_or ws i 0 ∷ get_or ws (i + 1) 0 ∷ drop (i + 2) ws
drop_pair ws i h = drop-cons ws i 0 (omega arith) ∙ ap (λ l. get_or ws i 0 ∷ l) (drop-cons ws (suc i) 0 (omega arith) ∙ rw (add-one, add-two))

-- COPIES INSIDE ONE LIST

-- what stands at or past the end of a copy is what stood there
paste_above : (d s : List ℕ) (at n j : ℕ) → at ≤ length d → n ≤ length s → at + n ≤ j → get_or (paste d at s n) j 0 ≡ get_or d j 0
paste_above d s at n j hd hs h =
    let k : ℕ = j - (at + n) in
    let e : j ≡ at + n + k = omega arith in
    rw e (sym (get_or-drop (at + n) (paste d at s n) k 0) ∙ ap (λ (l : List ℕ). get_or l k 0) (drop-paste d at s n hd hs) ∙ get_or-drop (at + n) d k 0)

-- what stands before a copy is what stood there
paste_below : (d s : List ℕ) (at n j : ℕ) → at ≤ length d → n ≤ length s → j < at → get_or (paste d at s n) j 0 ≡ get_or d j 0
paste_below d s at n j hd hs h =
    sym (get_or-take (at + n) (paste d at s n) j 0 (omega arith)) ∙ ap (λ (l : List ℕ). get_or l j 0) (take-paste d at s n hd hs)
    ∙ get_or-append (take at d) (take n s) 0 j (omega (arith, length-take-le at d hd)) ∙ get_or-take at d j 0 h

-- a turn of a copy: the word at from + i is still what it was
copy_turn : (d : List ℕ) (from to i : ℕ) → get_or (paste d to (drop from d) i) (from + i) 0 ≡ get_or d (from + i) 0 → from + i < length d → to + i < length d
    → set (paste d to (drop from d) i) (to + i) (get_or (paste d to (drop from d) i) (from + i) 0) ≡ paste d to (drop from d) (i + 1)
copy_turn d from to i same hf ht =
    let l : length (drop from d) ≡ length d - from = length-drop from d in
    rw (same, ← get_or-drop from d i 0, add-one i) (paste-suc d to (drop from d) i 0 ht (omega arith))

pub down_turn : (d : List ℕ) (from to n i : ℕ) → to ≤ from → from + n ≤ length d → i < n
    → set (paste d to (drop from d) i) (to + i) (get_or (paste d to (drop from d) i) (from + i) 0) ≡ paste d to (drop from d) (i + 1)
down_turn d from to n i h hn hi =
    copy_turn d from to i (paste_above d (drop from d) to i (from + i) (omega arith) (omega (arith, length-drop from d)) (omega arith)) (omega arith) (omega arith)

pub up_turn : (d : List ℕ) (from to n i : ℕ) → from + n ≤ to → to + n ≤ length d → i < n
    → set (paste d to (drop from d) i) (to + i) (get_or (paste d to (drop from d) i) (from + i) 0) ≡ paste d to (drop from d) (i + 1)
up_turn d from to n i h hn hi =
    copy_turn d from to i (paste_below d (drop from d) to i (from + i) (omega arith) (omega (arith, length-drop from d)) (omega arith)) (omega arith) (omega arith)

-- COMPARING

and_false : (a b : Bool) → b ≡ false → and a b ≡ false
and_false true b h = h
and_false false b h = refl

pub equal_lengths : (a b : List ℕ) → (length a ≡ length b → ⊥) → equal_words a b ≡ false
unfolding equal_words
equal_lengths [] [] h = absurd (h refl)
equal_lengths [] (w ∷ ws) h = refl
equal_lengths (t ∷ ts) [] h = refl
equal_lengths (t ∷ ts) (w ∷ ws) h = and_false (eqb t w) (equal_words ts ws) (equal_lengths ts ws (λ e. h (ap suc e)))

module _ (a b : List ℕ) (i : ℕ) (inv : equal_words a b ≡ equal_words (drop i a) (drop i b)) (len : length a ≡ length b) where
  here : i < length a → equal_words a b ≡ and (eqb (get_or a i 0) (get_or b i 0)) (equal_words (drop (i + 1) a) (drop (i + 1) b))
  unfolding equal_words
  here h = inv ∙ rw (drop-cons a i 0 h, drop-cons b i 0 (omega arith), add-one)

  pub equal_differs : i < length a → (get_or a i 0 ≡ get_or b i 0 → ⊥) → false ≡ equal_words a b
  equal_differs h d = sym (here h ∙ rw (ne_eqb (get_or a i 0) (get_or b i 0) d))

  pub equal_more : i < length a → get_or a i 0 ≡ get_or b i 0 → equal_words a b ≡ equal_words (drop (i + 1) a) (drop (i + 1) b)
  equal_more h e = here h ∙ rw (eq-eqb (get_or a i 0) (get_or b i 0) e)

  -- the last word
  pub equal_last : i < length a → length a - i < 2 → eqb (get_or a i 0) (get_or b i 0) ≡ equal_words a b
  unfolding equal_words
  equal_last h few = and_true (eqb (get_or a i 0) (get_or b i 0)) ∙ sym (here h ∙ rw (drop_of_length-le a {i = i + 1} (omega arith), drop_of_length-le b {i = i + 1} (omega arith)))

  pub equal_end : length a ≤ i → true ≡ equal_words a b
  unfolding equal_words
  equal_end h = sym (inv ∙ rw (drop_of_length-le a {i = i} h, drop_of_length-le b {i = i} (omega arith)))

-- two words
module _ (a b : List ℕ) (i : ℕ) (inv : equal_words a b ≡ equal_words (drop i a) (drop i b)) (len : length a ≡ length b) (two : 2 ≤ length a - i) (first : get_or a i 0 ≡ get_or b i 0) where
  one_more : equal_words a b ≡ equal_words (drop (i + 1) a) (drop (i + 1) b)
  one_more = equal_more a b i inv len (omega arith) first

  pub equal_second : (get_or a (i + 1) 0 ≡ get_or b (i + 1) 0 → ⊥) → false ≡ equal_words a b
  equal_second d = equal_differs a b (i + 1) one_more len (omega arith) d

  pub equal_two : get_or a (i + 1) 0 ≡ get_or b (i + 1) 0 → equal_words a b ≡ equal_words (drop (i + 2) a) (drop (i + 2) b)
  equal_two e =
      let z : i + 1 + 1 ≡ i + 2 = omega arith in
      equal_more a b (i + 1) one_more len (omega arith) e ∙ ap (λ j. equal_words (drop j a) (drop j b)) z

-- what the comparison says
pub equal_true : (a b : List ℕ) → equal_words a b ≡ true → a ≡ b
unfolding equal_words
equal_true [] [] e = refl
equal_true [] (w ∷ ws) e = let z : ◌≡◌ {A = ℕ} 0 1 = cc in absurd (omega arith)
equal_true (t ∷ ts) [] e = let z : ◌≡◌ {A = ℕ} 0 1 = cc in absurd (omega arith)
equal_true (t ∷ ts) (w ∷ ws) e = go (eqb t w) refl e (equal_true ts ws)
  where
    go : (b : Bool) → eqb t w ≡ b → and b (equal_words ts ws) ≡ true → (equal_words ts ws ≡ true → ts ≡ ws) → t ∷ ts ≡ w ∷ ws
    go true h f rest = ap₂ (λ x l. x ∷ l) (eqb-true t w h) (rest f)
    go false h f rest = let z : ◌≡◌ {A = ℕ} 0 1 = cc in absurd (omega arith)

pub equal_same : (a : List ℕ) → equal_words a a ≡ true
unfolding equal_words
equal_same [] = refl
equal_same (t ∷ ts) = rw (eq-eqb t t refl) (equal_same ts)

-- a comparison that holds just where another does
pub equal_alike : (a b c d : List ℕ) → (a ≡ b → c ≡ d) → (c ≡ d → a ≡ b) → equal_words a b ≡ equal_words c d
equal_alike a b c d f h = go (equal_words a b) (equal_words c d) refl refl
  where
    go : (x y : Bool) → equal_words a b ≡ x → equal_words c d ≡ y → x ≡ y
    go true true p q = refl
    go false false p q = refl
    go true false p q = let e : equal_words c d ≡ true = rw (f (equal_true a b p)) (equal_same d) in let z : ◌≡◌ {A = ℕ} 0 1 = cc in absurd (omega arith)
    go false true p q = let e : equal_words a b ≡ true = rw (h (equal_true c d q)) (equal_same b) in let z : ◌≡◌ {A = ℕ} 0 1 = cc in absurd (omega arith)

-- WORDS WRITTEN OVER THE FIRST OF OTHERS

pub over_word : (ws r : List ℕ) (i : ℕ) → get_or (ws ++ drop (length ws) r) i 0 ≡ pick (ltb i (length ws)) (get_or ws i 0) (get_or r i 0)
over_word ws r i = go (ltb i (length ws)) refl
  where
    go : (b : Bool) → ltb i (length ws) ≡ b → get_or (ws ++ drop (length ws) r) i 0 ≡ pick b (get_or ws i 0) (get_or r i 0)
    go true e = get_or-append ws (drop (length ws) r) 0 i (ltb-true i (length ws) e)
    go false e =
        let h = ltb-false i (length ws) e in
        let z : i ≡ length ws + (i - length ws) = omega arith in
        rw z (get_or-append-add ws (drop (length ws) r) (i - length ws) 0 ∙ get_or-drop (length ws) r (i - length ws) 0)

pub over_length : (ws r : List ℕ) → length ws ≤ length r → length (ws ++ drop (length ws) r) ≡ length r
over_length ws r h = omega (arith, length-append ws (drop (length ws) r), length-drop (length ws) r)

-- WORDS WRITTEN OVER OTHERS, one after the other: the first j are there
abbrev pub over : List ℕ → List ℕ → ℕ → List ℕ
over ws r j = take j ws ++ drop j r

pub over_store : (ws r₀ r : List ℕ) (j x : ℕ) → r ≡ over ws r₀ j → x ≡ get_or ws j 0 → j < length ws → j < length r₀ → set r j x ≡ over ws r₀ (j + 1)
over_store ws r₀ r j x e ex h l =
    let z : 0 + j ≡ j = zero-add j in
    let y : 0 + suc j ≡ suc j = zero-add (suc j) in
    let p : set (paste r₀ 0 ws j) (0 + j) (get_or ws j 0) ≡ paste r₀ 0 ws (suc j) = paste-suc r₀ 0 ws j 0 (omega arith) h in
    let q : set (over ws r₀ j) j (get_or ws j 0) ≡ over ws r₀ (suc j) = rw (z, y) at p in
    rw (e, ex, add-one j) q

pub over_all : (ws r₀ : List ℕ) (j : ℕ) → j ≡ length ws → over ws r₀ j ≡ ws ++ drop (length ws) r₀
over_all ws r₀ j e = rw (e, take-length ws)

both_and : (a b : Bool) → (a && b) ≡ and a b
both_and true b = refl
both_and false b = refl

-- slices compare as words do
pub pointwise_equal : (a b : List ℕ) → pointwise eqb a b ≡ equal_words a b
unfolding equal_words
pointwise_equal [] [] = refl
pointwise_equal [] (w ∷ ws) = refl
pointwise_equal (t ∷ ts) [] = refl
pointwise_equal (t ∷ ts) (w ∷ ws) = both_and (eqb t w) (pointwise eqb ts ws) ∙ ap (and (eqb t w)) (pointwise_equal ts ws)

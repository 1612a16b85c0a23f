-- Laws of the grammar's readers, over plain variables. Assumes nothing.
use Prim.Native.Nat.{ℕ, zero, suc, ◌+◌, ◌-◌, ◌<◌, ◌≤◌}
use mathlib.Core.Path.{◌≡◌, refl, sym, ap, ◌∙◌}
use mathlib.Core.List.{List, [], ◌∷◌, ◌++◌}
use mathlib.Core.Bool.{Bool, true, false, beq}
use lib.Pointwise.{pointwise}
use native.Mathlib.Omega.{arith}
use native.Mathlib.Numerals.{add-one}
use lib.ListN.{length, get_or, take, drop, set, replicate, length-take, drop_of_length-le}
use lib.Seq.{drop-cons, get_or-take, get_or-drop, sets, sets-eq, take_at}
use borrow.Author.Tests.{lt-ltb, le-ltb}
use Rattle.words.specs.Reader.{Words, pick, and, or, Read, value, refused, and_then, return, many, end}
use Rattle.std.specs.Prelude.{Result, Ok, Err}
use Rattle.words.specs.Views.{answer, got}
use Rattle.words.proofs.Laws.{read_word, read_bad, answer_passed, answer_refused, answer_then, in_value, many_done, many_stop, many_next, many_length, and_true, and_assoc, or_false, or_assoc, shown_ok, shown_err, shown_map, shown_done, shown_next}
use Rattle.grammar.specs.Grammar.{Kind, token, opt, sequence, forms, Grammar, is_literal, types_of, field, element, form, kind, all_known, any_form_known, finishes, round, rounds, finite, finite_records, grammar, read_grammar}
use Rattle.grammar.specs.Views.{element_finishes, seen_element, seen_elements, seen_form, seen_forms, seen_kind, filled, flags_after}

-- THE ELEMENTS

elements_step : (known : List Bool) (acc : Bool) (e : ℕ) (more : List ℕ) → and acc (all_known known (types_of (e ∷ more))) ≡ and (and acc (element_finishes known e)) (all_known known (types_of more))
unfolding types_of all_known
elements_step known acc e more = go (is_literal e)
  where
    go : (b : Bool) → and acc (all_known known (pick b (types_of more) (e ∷ types_of more))) ≡ and (and acc (pick b true (get_or known e false))) (all_known known (types_of more))
    go true = ap (λ a. and a (all_known known (types_of more))) (and_true acc)
    go false = and_assoc acc (get_or known e false) (all_known known (types_of more))

module _ (ws : Words) (known : List Bool) (n k i at : ℕ) (acc : Bool) where
  pub elements_done : k ≤ i → Ok (acc, at) ≡ seen_elements known acc (many (k - i) (element ws n) at)
  unfolding all_known types_of
  elements_done h = ap (λ b. Ok (b, at)) (and_true acc) ∙ shown_done (element ws n) k i at (element_finishes known) (λ a es. and a (all_known known (types_of es))) acc h

  pub elements_more : i < k → {b : Bool} {next : ℕ} → Ok (b, next) ≡ seen_element known (element ws n at) → (m : Bool) → m ≡ and acc b
      → seen_elements known acc (many (k - i) (element ws n) at) ≡ seen_elements known m (many (k - (i + 1)) (element ws n) next)
  elements_more = shown_next (element ws n) k i at (element_finishes known) (λ a es. and a (all_known known (types_of es))) acc and (elements_step known acc)

  pub forms_done : k ≤ i → Ok (acc, at) ≡ seen_forms known acc (many (k - i) (form ws n) at)
  unfolding any_form_known
  forms_done h = ap (λ b. Ok (b, at)) (or_false acc) ∙ shown_done (form ws n) k i at (all_known known) (λ a fs. or a (any_form_known known fs)) acc h

  pub forms_more : i < k → {b : Bool} {next : ℕ} → Ok (b, next) ≡ seen_form known (form ws n at) → (m : Bool) → m ≡ or acc b
      → seen_forms known acc (many (k - i) (form ws n) at) ≡ seen_forms known m (many (k - (i + 1)) (form ws n) next)
  unfolding any_form_known
  forms_more = shown_next (form ws n) k i at (all_known known) (λ a fs. or a (any_form_known known fs)) acc or (λ f fs. or_assoc acc (all_known known f) (any_form_known known fs))

-- A FORM, A RECORD

pub form_view : (known : List Bool) (q : Read (List ℕ)) → seen_elements known true q ≡ seen_form known (and_then q (λ es. return (types_of es)))
form_view known q = sym (shown_map (all_known known) types_of q)

pub forms_view : (known : List Bool) (q : Read (List (List ℕ))) → seen_forms known false q ≡ seen_kind known (and_then q (λ fs. return (forms fs)))
unfolding finishes
forms_view known q = sym (shown_map (finishes known) forms q)

-- A ROUND

round_cons : (known flags : List Bool) (t : ℕ) (k : Kind) (q : Read Grammar) →
    filled known flags t (and_then q (λ more. return (k ∷ more))) ≡ filled known (set flags t (finishes known k)) (t + 1) q
unfolding round
round_cons known flags t k (value g next) = rw add-one
round_cons known flags t k (refused n p) = refl

module _ (ws : Words) (known : List Bool) (n k i at : ℕ) (flags : List Bool) where
  pub round_done : k ≤ i → flags ≡ filled known flags i (many (k - i) (kind ws n) at)
  unfolding round
  round_done h = rw (many_done (kind ws n) k i at h)

  pub round_stop : i < k → {x : ℕ × ℕ} → Err x ≡ seen_kind known (kind ws n at) → known ≡ filled known flags i (many (k - i) (kind ws n) at)
  round_stop h e = rw (many_stop (kind ws n) k i at h (shown_err (finishes known) (kind ws n at) e))

  pub round_more : i < k → {b : Bool} {next : ℕ} → Ok (b, next) ≡ seen_kind known (kind ws n at) → filled known flags i (many (k - i) (kind ws n) at) ≡ filled known (set flags i b) (i + 1) (many (k - (i + 1)) (kind ws n) next)
  round_more h {b} {next} e =
      let u = shown_ok (finishes known) (kind ws n at) e in
      rw (many_next (kind ws n) k i at h u.1) (round_cons known flags i u.0 (many (k - (i + 1)) (kind ws n) next) ∙ ap (λ x. filled known (set flags i x) (i + 1) (many (k - (i + 1)) (kind ws n) next)) (sym u.2))

-- THE ROUNDS

pub flags_next : (i : ℕ) (q : Read Grammar) (known next : List Bool) → known ≡ flags_after i q → next ≡ filled known (replicate 64 false) 0 q → next ≡ flags_after (i + 1) q
unfolding flags_after
flags_next i q known next e f = f ∙ rw (add-one, e)

pub flags_none : (q : Read Grammar) → replicate 64 false ≡ flags_after 0 q
unfolding flags_after
flags_none q = refl

-- a round that finds nothing new is the last that matters
flags_stay : (d i : ℕ) (q : Read Grammar) (known : List Bool) → known ≡ filled known (replicate 64 false) 0 q → known ≡ flags_after i q → known ≡ flags_after (d + i) q
unfolding flags_after
flags_stay zero i q known s e = let z : 0 + i ≡ i = omega arith in rw z e
flags_stay (suc d) i q known s e =
    let z : suc d + i ≡ suc (d + i) = omega arith in
    rw z (s ∙ ap (λ k. filled k (replicate 64 false) 0 q) (flags_stay d i q known s e))

pub flags_settled : (i n : ℕ) (q : Read Grammar) (known next : List Bool) → i ≤ n → known ≡ flags_after i q → next ≡ filled known (replicate 64 false) 0 q → known ≡ next → known ≡ flags_after n q
flags_settled i n q known next h e f s = let z : n - i + i ≡ n = omega arith in flags_stay (n - i) i q known (s ∙ f) e ∙ rw z

-- THE RECORDS OF TYPES WITHOUT A FINITE TREE

module _ (ws : Words) (known : List Bool) (n i at : ℕ) (long : n ≤ length known) where
  pub records_done : n ≤ i → Ok at ≡ answer (finite_records ws n (drop i (take n known)) at)
  unfolding finite_records
  records_done h = rw (drop_of_length-le (take n known) {i = i} (omega (arith, length-take n known)))

  module _ (more : i < n) where
    records_at : drop i (take n known) ≡ get_or known i false ∷ drop (i + 1) (take n known)
    records_at = drop-cons (take n known) i false (omega (arith, length-take n known)) ∙ rw (get_or-take n known i false more, add-one)

    pub records_endless : get_or known i false ≡ false → Err (12, at) ≡ answer (finite_records ws n (drop i (take n known)) at)
    unfolding finite_records
    records_endless e = rw (records_at, e)

    module _ (e : get_or known i false ≡ true) where
      pub records_stop : {x : ℕ × ℕ} → Err x ≡ seen_kind known (kind ws n at) → Err x ≡ answer (finite_records ws n (drop i (take n known)) at)
      unfolding finite_records
      records_stop d = rw (records_at, e, shown_err (finishes known) (kind ws n at) d)

      pub records_next : {b : Bool} {next : ℕ} → Ok (b, next) ≡ seen_kind known (kind ws n at) → answer (finite_records ws n (drop i (take n known)) at) ≡ answer (finite_records ws n (drop (i + 1) (take n known)) next)
      unfolding finite_records
      records_next d = rw (records_at, e, (shown_ok (finishes known) (kind ws n at) d).1)

-- THE WHOLE CHECK

get_d_none : (m t : ℕ) → get_or (replicate m false) t false ≡ false
get_d_none zero t = refl
get_d_none (suc m) zero = refl
get_d_none (suc m) (suc t) = get_d_none m t

get_d_pad : (bs fs : List Bool) → ((t : ℕ) → get_or fs t false ≡ false) → (t : ℕ) → get_or (bs ++ fs) t false ≡ get_or bs t false
get_d_pad [] fs f t = f t
get_d_pad (b ∷ bs) fs f zero = refl
get_d_pad (b ∷ bs) fs f (suc t) = get_d_pad bs fs f t

-- flags at the front of an array of 64
padded : (bs : List Bool) → length bs ≤ 64 → sets (replicate 64 false) 0 bs ≡ bs ++ drop (0 + length bs) (replicate 64 false)
padded bs h = sets-eq bs (replicate 64 false) 0 (omega arith)

padded_same : (bs : List Bool) → length bs ≤ 64 → (t : ℕ) → get_or (sets (replicate 64 false) 0 bs) t false ≡ get_or bs t false
padded_same bs h t = rw (padded bs h) (get_d_pad bs (drop (0 + length bs) (replicate 64 false)) (λ i. get_or-drop (0 + length bs) (replicate 64 false) i false ∙ get_d_none 64 (0 + length bs + i)) t)

padded_take : (bs : List Bool) (n : ℕ) → length bs ≤ 64 → length bs ≡ n → take n (sets (replicate 64 false) 0 bs) ≡ bs
padded_take bs n h e = rw (padded bs h) (take_at bs (drop (0 + length bs) (replicate 64 false)) n e)

module _ (a b : List Bool) (same : (t : ℕ) → get_or a t false ≡ get_or b t false) where
  all_same : (ts : List ℕ) → all_known a ts ≡ all_known b ts
  unfolding all_known
  all_same [] = refl
  all_same (t ∷ ts) = rw (same t, all_same ts)

  any_same : (fs : List (List ℕ)) → any_form_known a fs ≡ any_form_known b fs
  unfolding any_form_known
  any_same [] = refl
  any_same (f ∷ fs) = rw (all_same f, any_same fs)

  finishes_same : (k : Kind) → finishes a k ≡ finishes b k
  unfolding finishes
  finishes_same (token c) = refl
  finishes_same (opt c) = refl
  finishes_same (sequence style c) = refl
  finishes_same (forms fs) = any_same fs

  pub round_same : (g : Grammar) → round a g ≡ round b g
  unfolding round
  round_same [] = refl
  round_same (k ∷ ks) = rw (finishes_same k, round_same ks)

pub round_length : (known : List Bool) (g : Grammar) → length (round known g) ≡ length g
unfolding round
round_length known [] = refl
round_length known (k ∷ ks) = ap suc (round_length known ks)

rounds_length : (i : ℕ) (g : Grammar) → length (rounds i g) ≤ length g
unfolding rounds
rounds_length zero g = omega arith
rounds_length (suc i) g = omega (arith, round_length (rounds i g) g)

pub finite_length : (i : ℕ) (g : Grammar) → 0 < i → length (rounds i g) ≡ length g
unfolding rounds
finite_length zero g h = absurd (omega arith)
finite_length (suc i) g h = round_length (rounds i g) g

flags_rounds : (i : ℕ) (g : Grammar) (next : ℕ) → length g ≤ 64 → flags_after i (value g next) ≡ sets (replicate 64 false) 0 (rounds i g)
unfolding flags_after rounds
flags_rounds zero g next h = refl
flags_rounds (suc i) g next h =
    ap (λ fs. sets (replicate 64 false) 0 fs)
    (ap (λ known. round known g) (flags_rounds i g next h)
    ∙ round_same (sets (replicate 64 false) 0 (rounds i g)) (rounds i g) (padded_same (rounds i g) (omega (arith, rounds_length i g))) g)

pub field_next : (ws : Words) (low high at : ℕ) {w next : ℕ} → field ws low high at ≡ value w next → (next ≡ at + 1) × (low ≤ w) × (w ≤ high)
unfolding field
field_next ws low high at e = let r = in_value 10 11 ws low high at e in (r.1, r.2, r.3)

first_flags : (n q : ℕ) (gr : Grammar) (known : List Bool) → known ≡ flags_after n (value gr q) → 1 ≤ n → n ≤ 64 → length gr ≡ n → take n known ≡ finite gr
unfolding finite
first_flags n q gr known k low high l =
    rw (k, flags_rounds n gr q (omega arith)) (padded_take (rounds n gr) n (omega (arith, rounds_length n gr)) (finite_length n gr low ∙ l) ∙ rw l)

check_flags : (ws : Words) (n start q : ℕ) (gr : Grammar) → field ws 1 64 0 ≡ value n start → many n (kind ws n) start ≡ value gr q → length ws ≤ q →
    (known : List Bool) → known ≡ flags_after n (value gr q) → start ≡ 0 + 1 → 1 ≤ n → n ≤ 64 → length gr ≡ n →
    answer (finite_records ws n (take n known) start) ≡ answer (read_grammar ws)
unfolding read_grammar grammar end
check_flags ws n start q gr e m h known k s low high l =
    rw (first_flags n q gr known k low high l, e, m, le-ltb q (length ws) h, s, l) (answer_then (finite_records ws n (finite gr) 1) gr)

-- what the count of types is, once it is read
pub count_next : (ws : Words) {n start : ℕ} → Ok (n, start) ≡ got (field ws 1 64 0) → (start ≡ 0 + 1) × (1 ≤ n) × (n ≤ 64)
count_next ws e = field_next ws 1 64 0 (read_word (field ws 1 64 0) _ e refl)

pub check_bad : (ws : Words) {x : ℕ × ℕ} → Err x ≡ got (field ws 1 64 0) → Err x ≡ answer (read_grammar ws)
unfolding read_grammar grammar
check_bad ws e = rw (read_bad (field ws 1 64 0) _ e refl)

module _ (ws : Words) {n start : ℕ} (e : Ok (n, start) ≡ got (field ws 1 64 0)) where
  pub check_stop : {x : ℕ × ℕ} → Err x ≡ answer (many n (kind ws n) start) → Err x ≡ answer (read_grammar ws)
  unfolding read_grammar grammar
  check_stop f = rw (read_word (field ws 1 64 0) _ e refl, answer_refused (many n (kind ws n) start) _ f refl)

  module _ {q : ℕ} (f : Ok q ≡ answer (many n (kind ws n) start)) where
    pub check_over : q < length ws → Err (10, q) ≡ answer (read_grammar ws)
    unfolding read_grammar grammar end
    check_over h = rw (read_word (field ws 1 64 0) _ e refl, (answer_passed (many n (kind ws n) start) _ f refl).1, lt-ltb q (length ws) h)

    pub check_finite : length ws ≤ q → (known : List Bool) → known ≡ flags_after n (many n (kind ws n) start) → (r : Result ℕ (ℕ × ℕ)) → r ≡ answer (finite_records ws n (take n known) start) → r ≡ answer (read_grammar ws)
    check_finite h known k r i =
        let u = answer_passed (many n (kind ws n) start) _ f refl in
        let c = count_next ws e in
        i ∙ check_flags ws n start q u.0 (read_word (field ws 1 64 0) _ e refl) u.1 h known (k ∙ ap (flags_after n) u.1) c.0 c.1 c.2 (many_length (kind ws n) n start u.0 q u.1)

-- THE SAME FLAGS

pub flags_same : (a b : List Bool) → pointwise beq a b ≡ true → a ≡ b
flags_same [] [] e = refl
flags_same [] (y ∷ ys) e = cc
flags_same (x ∷ xs) [] e = cc
flags_same (true ∷ xs) (true ∷ ys) e = ap (λ l. true ∷ l) (flags_same xs ys e)
flags_same (true ∷ xs) (false ∷ ys) e = cc
flags_same (false ∷ xs) (true ∷ ys) e = cc
flags_same (false ∷ xs) (false ∷ ys) e = ap (λ l. false ∷ l) (flags_same xs ys e)

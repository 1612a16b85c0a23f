-- A tree put in the place of another: the moves in work memory, and the marks afterwards. Assumes nothing.
use Prim.Native.Nat.{ℕ, zero, suc, ◌+◌, ◌-◌, ◌*◌, ◌<◌, ◌≤◌}
use mathlib.Core.Path.{◌≡◌, refl, sym, ap, ap₂, ◌∙◌}
use mathlib.Core.List.{List, [], ◌∷◌, ◌++◌}
use native.Mathlib.Omega.{arith}
use lib.ListN.{length, get_or, take, drop, length-append, length-drop, take-append-drop}
use lib.Seq.{paste, length-paste, take-paste, drop-paste, take_at, drop_at, take-take, take-add, drop-drop, take-nil, length-take-le}
use Rattle.tables.specs.declared.types.Types.{Types}
use Rattle.words.specs.Reader.{Words}
use Rattle.grammar.specs.Grammar.{Grammar}
use Rattle.tree.specs.Tree.{Trees, size, nesting, after, first_tree, put}
use Rattle.tree.proofs.Trees.{Even, even_of, size_append, trees_even, tree_some, first_after, first_even, after_drop}
use Rattle.marks.specs.Marked.{type_in, size_in, nesting_in, marked, unmarked}
use Rattle.marks.specs.Post.{span, Unfinished, Kept, AboveMarked, Resizable, Resized, Ready, InPlace}
use Rattle.marks.proofs.Marks.{marked_length, marked_append, marked_suffix}
use Rattle.marks.proofs.Marking.{Child, child_of}
use Rattle.marks.proofs.Spans.{drop_take, span_later, word_there, suffix_trees, suffix_some, suffix_size, first_size}
use Rattle.marks.proofs.Same.{unmark, whole_first}
use Rattle.marks.proofs.Swapping.{swap_marks}

-- MARKS OF A PART

unmarked_take : (ws : Words) (h q : ℕ) → q ≡ 2 * h → unmarked (take q ws) ≡ take q (unmarked ws)
unfolding unmarked
unmarked_take ws zero q e = let z : q ≡ 0 = omega arith in rw z
unmarked_take [] (suc h) q e = rw (take-nil {A = ℕ} q)
unmarked_take (w ∷ []) (suc h) zero e = absurd (omega arith)
unmarked_take (w ∷ []) (suc h) (suc q) e = rw (take-nil {A = ℕ} q)
unmarked_take (w ∷ v ∷ ws) (suc h) zero e = absurd (omega arith)
unmarked_take (w ∷ v ∷ ws) (suc h) (suc zero) e = absurd (omega arith)
unmarked_take (w ∷ v ∷ ws) (suc h) (suc (suc q)) e = ap (λ l. type_in w ∷ v ∷ l) (unmarked_take ws h q (omega arith))

-- ONE MOVE

module _ (d : Words) (at : ℕ) (s : Words) (n : ℕ) (low : at ≤ length d) (high : n ≤ length s) where
  paste_front : take at (paste d at s n) ≡ take at d
  paste_front =
      sym (take-take at (at + n) (paste d at s n) (omega arith)) ∙ ap (take at) (take-paste d at s n low high) ∙ take_at (take at d) (take n s) at (length-take-le at d low)

  paste_middle : take n (drop at (paste d at s n)) ≡ take n s
  paste_middle =
      let z : at + n - at ≡ n = omega arith in
      ap (λ k. take k (drop at (paste d at s n))) (sym z) ∙ sym (drop_take (at + n) at (paste d at s n)) ∙ ap (drop at) (take-paste d at s n low high)
      ∙ drop_at (take at d) (take n s) at (length-take-le at d low)

-- a stretch by its two parts
span_join : (w : Words) (base place : ℕ) (l : Words) → base ≤ place → place - base ≤ length l → span w base place ≡ take (place - base) l → take (length l - (place - base)) (drop place w) ≡ drop (place - base) l
    → take (length l) (drop base w) ≡ l
span_join w base place l low inside front back =
    let z : length l ≡ (place - base) + (length l - (place - base)) = omega arith in
    let up : base + (place - base) ≡ place = omega arith in
    ap (λ k. take k (drop base w)) z ∙ take-add (place - base) (length l - (place - base)) (drop base w)
    ∙ ap₂ (λ a b. a ++ b) front (ap (take (length l - (place - base))) (drop-drop (place - base) base w ∙ ap (λ k. drop k w) up) ∙ back)
    ∙ take-append-drop (place - base) l

-- BOTH MOVES

abbrev pub behind : Words → ℕ → ℕ → ℕ → ℕ → Words
behind w after from n rest = paste w (from + n) (drop after w) rest

abbrev pub moved : Words → ℕ → ℕ → ℕ → ℕ → ℕ → Words
moved w place after from n rest = paste (behind w after from n rest) place (drop from (behind w after from n rest)) (n + rest)

module _ (w : Words) (place after end from n rest : ℕ) (e : after + rest ≡ end) (a : place ≤ after) (f : end ≤ from) (room : from + n + rest ≤ length w) where
  behind_long : length (behind w after from n rest) ≡ length w
  behind_long = length-paste w (from + n) (drop after w) rest (omega arith) (omega (arith, length-drop after w))

  moved_long : length (moved w place after from n rest) ≡ length w
  moved_long =
      length-paste (behind w after from n rest) place (drop from (behind w after from n rest)) (n + rest) (omega (arith, behind_long)) (omega (arith, length-drop from (behind w after from n rest), behind_long))
      ∙ behind_long

  moved_front : take place (moved w place after from n rest) ≡ take place w
  moved_front =
      paste_front (behind w after from n rest) place (drop from (behind w after from n rest)) (n + rest) (omega (arith, behind_long)) (omega (arith, length-drop from (behind w after from n rest), behind_long))
      ∙ sym (take-take place (from + n) (behind w after from n rest) (omega arith)) ∙ ap (take place) (paste_front w (from + n) (drop after w) rest (omega arith) (omega (arith, length-drop after w)))
      ∙ take-take place (from + n) w (omega arith)

  moved_middle : take (n + rest) (drop place (moved w place after from n rest)) ≡ span w from (from + n) ++ span w after end
  moved_middle =
      let z : from + n - from ≡ n = omega arith in
      let y : rest ≡ end - after = omega arith in
      let l = behind w after from n rest in
      paste_middle l place (drop from l) (n + rest) (omega (arith, behind_long)) (omega (arith, length-drop from l, behind_long))
      ∙ take-add n rest (drop from l)
      ∙ ap₂ (λ x y. x ++ y)
      (ap (λ k. take k (drop from l)) (sym z) ∙ sym (drop_take (from + n) from l) ∙ ap (drop from) (paste_front w (from + n) (drop after w) rest (omega arith) (omega (arith, length-drop after w))) ∙ drop_take (from + n) from w)
      (ap (take rest) (drop-drop n from l) ∙ paste_middle w (from + n) (drop after w) rest (omega arith) (omega (arith, length-drop after w)) ∙ ap (λ k. take k (drop after w)) y)

-- THE NODE, AND WHAT FOLLOWS IT

module _ (g : Grammar) (w : Words) (base place end from n t : ℕ) (scope ws : Words) (types : length g ≤ 64) (r : Ready g w base place end from n t scope ws) (low : base ≤ place) (two : place < end) (room : end ≤ length w) where
  abbrev rest_words : Words
  rest_words = drop (place - base) scope

  stands_rest : span w place end ≡ marked g rest_words
  stands_rest = sym (span_later w base place end low) ∙ ap (drop (place - base)) r.stands ∙ marked_suffix g scope r.half (place - base) r.even

  there : (c : ℕ) × (cs : List ℕ) × Trees g (c ∷ cs) rest_words
  there = suffix_some scope r.tree r.half (place - base) r.even (omega (arith, r.long))

  old_child : Child g there.0 there.1 rest_words (get_or w place 0)
  old_child =
      let here = word_there w (marked g rest_words) place (end - place) stands_rest (omega arith) in
      let s = first_size g rest_words 1 in
      let u = suffix_size scope r.half (place - base) r.even in
      child_of g there.0 there.1 rest_words (get_or w place 0) types (omega (arith, r.few)) there.2 here

  node_size : size_in (get_or w place 0) ≡ size (first_tree g rest_words)
  node_size = old_child.counted

  rest_long : length rest_words ≡ end - place
  rest_long = omega (arith, length-drop (place - base) scope, r.long)

  after_inside : place + 2 * size_in (get_or w place 0) ≤ end
  after_inside =
      let s = first_size g rest_words 1 in
      let u = suffix_trees scope r.tree r.half (place - base) r.even (omega (arith, r.long)) in
      omega (arith, node_size, rest_long, trees_even u.1)

  what_follows : (p : ℕ) → p ≡ place + 2 * size_in (get_or w place 0) → span w p end ≡ marked g (after g rest_words 1)
  what_follows p e =
      let m : p - place ≡ 2 * size_in (get_or w place 0) = omega arith in
      let l : p - place ≡ length (first_tree g rest_words) = omega (arith, node_size, first_even g rest_words 1) in
      sym (span_later w place p end (omega arith)) ∙ ap (drop (p - place)) stands_rest ∙ marked_suffix g rest_words (size_in (get_or w place 0)) (p - place) m
      ∙ ap (marked g) (ap (λ k. drop k rest_words) l ∙ sym (after_drop g rest_words 1))

  follows_long : (p : ℕ) → p ≡ place + 2 * size_in (get_or w place 0) → length (after g rest_words 1) ≡ end - p
  follows_long p e =
      omega (arith, ap length (after_drop g rest_words 1), length-drop (length (first_tree g rest_words)) rest_words, node_size, first_even g rest_words 1, rest_long)

  scope_parts : take (place - base) scope ++ (first_tree g rest_words ++ after g rest_words 1) ≡ scope
  scope_parts = ap (λ l. take (place - base) scope ++ l) (first_after g rest_words 1) ∙ take-append-drop (place - base) scope

  -- the words before the place stand as they did
  front_stands : (w₂ : Words) → take place w₂ ≡ take place w → span w₂ base place ≡ take (place - base) (marked g scope)
  front_stands w₂ front =
      sym (drop_take place base w₂) ∙ ap (drop base) front ∙ drop_take place base w ∙ sym (take-take (place - base) (end - base) (drop base w) (omega arith)) ∙ ap (take (place - base)) r.stands

  put_front : take (place - base) (put g scope (place - base) ws) ≡ take (place - base) scope
  unfolding put
  put_front = take_at (take (place - base) scope) (ws ++ after g rest_words 1) (place - base) (length-take-le (place - base) scope (omega (arith, r.long)))

  kept : (w₂ : Words) → take place w₂ ≡ take place w → Kept g w₂ base place (put g scope (place - base) ws)
  kept w₂ front = record {
    old = scope;
    type = t;
    tree = r.tree;
    few = r.few;
    long = omega (arith, r.long);
    same = sym put_front;
    stands = front_stands w₂ front;
  }

  -- after the moves all is right but the marks before the place
  unfinished : (p rest : ℕ) (w₂ : Words) → p ≡ place + 2 * size_in (get_or w place 0) → p + rest ≡ end → take place w₂ ≡ take place w → take (n + rest) (drop place w₂) ≡ span w from (from + n) ++ span w p end
      → Unfinished g w₂ base place (place + (n + rest)) (put g scope (place - base) ws)
  unfolding put
  unfinished p rest w₂ e er front middle =
      let q = place - base in
      let x = after g rest_words 1 in
      let lq : length (take q scope) ≡ q = length-take-le q scope (omega (arith, r.long)) in
      let top : place + (n + rest) - place ≡ n + rest = omega arith in
      record {
        long = omega (arith, length-append (take q scope) (ws ++ x), length-append ws x, lq, r.new_long, follows_long p e);
        half = r.half;
        even = r.even;
        front = ap unmarked (front_stands w₂ front) ∙ unmarked_take (marked g scope) r.half q r.even ∙ ap (take q) (unmark types r.tree) ∙ sym put_front;
        back = ap (λ k. take k (drop place w₂)) top ∙ middle ∙ ap₂ (λ a b. a ++ b) r.new_stands (what_follows p e) ∙ sym (marked_append r.new x)
            ∙ ap (marked g) (sym (drop_at (take q scope) (ws ++ x) q lq));
      }

  -- THE NEW TREE

  front_even : Even (take (place - base) scope)
  front_even = even_of (take (place - base) scope) (omega (arith, length-take-le (place - base) scope (omega (arith, r.long)), r.even))

  new_small : size ws ≤ 2048
  unfolding put
  new_small =
      let x = after g rest_words 1 in
      omega (arith, r.small, size_append (take (place - base) scope) (ws ++ x) front_even, size_append ws x (trees_even r.new))

  new_child : Child g r.type [] ws (get_or w from 0)
  new_child =
      let f = whole_first ws r.new in
      child_of g r.type [] ws (get_or w from 0) types (rw f (omega (arith, new_small))) r.new (word_there w (marked g ws) from (from + n - from) r.new_stands (omega (arith, r.new_long, trees_even r.new, tree_some ws r.new)))

  new_nests : nesting_in (get_or w from 0) ≡ nesting g ws
  new_nests = new_child.nested ∙ ap (nesting g) (whole_first ws r.new)

  -- .. nests as deep as the old one
  resizable : (w₂ : Words) → take place w₂ ≡ take place w → nesting_in (get_or w place 0) ≡ nesting_in (get_or w from 0)
      → Resizable g w₂ base place (size_in (get_or w place 0)) (size_in (get_or w from 0)) (take (place - base) scope) (first_tree g rest_words) ws (after g rest_words 1)
  unfolding put
  resizable w₂ front flat = record {
    types = types;
    long = length-take-le (place - base) scope (omega (arith, r.long));
    half = r.half;
    even = r.even;
    root = t;
    tree = rw scope_parts r.tree;
    few = rw scope_parts r.few;
    small = r.small;
    type = there.0;
    old = old_child.tree;
    old_size = sym old_child.counted;
    type' = r.type;
    new = r.new;
    new_size = sym (new_child.counted ∙ ap size (whole_first ws r.new));
    flat = sym old_child.nested ∙ flat ∙ new_nests;
    stands = rw scope_parts (front_stands w₂ front);
  }

  resized_stands : (p rest : ℕ) (w₂ w₃ : Words) → p ≡ place + 2 * size_in (get_or w place 0) → p + rest ≡ end → take place w₂ ≡ take place w → take (n + rest) (drop place w₂) ≡ span w from (from + n) ++ span w p end
      → nesting_in (get_or w place 0) ≡ nesting_in (get_or w from 0) → Resized w₂ w₃ base place (size_in (get_or w place 0)) (size_in (get_or w from 0))
      → span w₃ base (base + length (put g scope (place - base) ws)) ≡ marked g (put g scope (place - base) ws)
  unfolding put
  resized_stands p rest w₂ w₃ e er front middle flat m =
      let q = place - base in
      let l = marked g (put g scope q ws) in
      let u = unfinished p rest w₂ e er front middle in
      let z : base + length (put g scope q ws) - base ≡ length l = omega (arith, marked_length g (put g scope q ws)) in
      let k : length l - q ≡ place + (n + rest) - place = omega (arith, marked_length g (put g scope q ws), u.long) in
      ap (λ j. take j (drop base w₃)) z
      ∙ span_join w₃ base place l low (omega (arith, marked_length g (put g scope q ws), u.long)) (m.marks g (take q scope) (first_tree g rest_words) ws (after g rest_words 1) (resizable w₂ front flat))
      (ap₂ take k m.above ∙ u.back ∙ sym (marked_suffix g (put g scope q ws) r.half q r.even))

  -- .. and is as large: their first words are the same
  module _ (alike : get_or w from 0 ≡ get_or w place 0) where
    same_size : size ws ≡ size (first_tree g rest_words)
    same_size = sym (ap size (whole_first ws r.new)) ∙ sym new_child.counted ∙ ap size_in alike ∙ old_child.counted

    same_nesting : nesting g ws ≡ nesting g (first_tree g rest_words)
    same_nesting = sym new_nests ∙ ap nesting_in alike ∙ old_child.nested

    new_end : place + n ≡ place + 2 * size_in (get_or w place 0)
    new_end = omega (arith, r.new_long, trees_even r.new, same_size, node_size)

    put_marks : marked g (put g scope (place - base) ws) ≡ take (place - base) (marked g scope) ++ (marked g ws ++ marked g (after g rest_words 1))
    unfolding put
    put_marks =
        let q = place - base in
        let a = take q scope in
        let u = first_tree g rest_words in
        let x = after g rest_words 1 in
        swap_marks g there.0 r.type u ws x old_child.tree r.new (sym same_nesting) (sym same_size) a front_even
        ∙ ap₂ (λ l b. l ++ b) (ap₂ (λ k l. take k (marked g l)) (length-take-le q scope (omega (arith, r.long))) scope_parts) (marked_append r.new x)

    put_long : length (put g scope (place - base) ws) ≡ (place - base) + (n + (end - (place + n)))
    unfolding put
    put_long =
        let x = after g rest_words 1 in
        omega (arith, length-append (take (place - base) scope) (ws ++ x), length-append ws x, length-take-le (place - base) scope (omega (arith, r.long)), r.new_long, follows_long (place + n) new_end)

    same_stands : (w₂ : Words) → w₂ ≡ paste w place (drop from w) n → from + n ≤ length w → take place w₂ ≡ take place w
        → span w₂ base (base + length (put g scope (place - base) ws)) ≡ marked g (put g scope (place - base) ws)
    same_stands w₂ e room₂ front =
        let q = place - base in
        let rest = end - (place + n) in
        let up : base + q ≡ place = omega arith in
        let z : base + length (put g scope q ws) - base ≡ q + (n + rest) = omega (arith, put_long) in
        let y : from + n - from ≡ n = omega arith in
        let ld : n ≤ length (drop from w) = omega (arith, length-drop from w) in
        let middle : take n (drop place w₂) ≡ marked g ws = ap (λ l. take n (drop place l)) e ∙ paste_middle w place (drop from w) n (omega arith) ld ∙ ap (λ k. take k (drop from w)) (sym y) ∙ r.new_stands in
        let back : take rest (drop (place + n) w₂) ≡ marked g (after g rest_words 1) = ap (λ l. take rest (drop (place + n) l)) e ∙ ap (take rest) (drop-paste w place (drop from w) n (omega arith) ld) ∙ what_follows (place + n) new_end in
        ap (λ k. take k (drop base w₂)) z ∙ take-add q (n + rest) (drop base w₂)
        ∙ ap₂ (λ a b. a ++ b) (front_stands w₂ front) (ap (take (n + rest)) (drop-drop q base w₂ ∙ ap (λ k. drop k w₂) up) ∙ take-add n rest (drop place w₂) ∙ ap₂ (λ a b. a ++ b) middle (ap (take rest) (drop-drop n place w₂) ∙ back))
        ∙ sym put_marks

-- IN PLACE

module _ (types : Types) (w : Words) (base place end from n : ℕ) (low : base ≤ place) (two : place < end) (high : end ≤ from) (room : from + n + (end - place) ≤ length w) where
  pub put_done : (p rest : ℕ) (w₂ w₃ : Words) → p ≡ place + 2 * size_in (get_or w place 0) → p ≤ end → rest ≡ end - p → w₂ ≡ moved w place p from n rest → AboveMarked types w₂ w₃ base place (place + (n + rest))
      → InPlace types w w₃ base place end from n
  put_done p rest w₂ w₃ e inside er e₂ m = record {
    long = m.long ∙ ap length e₂ ∙ moved_long w place p end from n rest (omega arith) (omega arith) high (omega arith);
    in_place = λ g t scope ws tb r.
        let front : take place w₂ ≡ take place w = ap (take place) e₂ ∙ moved_front w place p end from n rest (omega arith) (omega arith) high (omega arith) in
        let middle : take (n + rest) (drop place w₂) ≡ span w from (from + n) ++ span w p end = ap (λ l. take (n + rest) (drop place l)) e₂ ∙ moved_middle w place p end from n rest (omega arith) (omega arith) high (omega arith) in
        let u = unfinished g w base place end from n t scope ws tb.heads_of.types r low two (omega arith) p rest w₂ e (omega arith) front middle in
        let k = kept g w base place end from n t scope ws tb.heads_of.types r low two (omega arith) w₂ front in
        let is = m.marks g t (put g scope (place - base) ws) tb r.fits r.small u k in
        let lb : length (take base w₂) ≡ base = length-take-le base w₂ (omega (arith, ap length e₂, moved_long w place p end from n rest (omega arith) (omega arith) high (omega arith))) in
        let top : base + length (put g scope (place - base) ws) - base ≡ length (marked g (put g scope (place - base) ws)) = omega (arith, marked_length g (put g scope (place - base) ws)) in (
          ap (take base) is ∙ take_at (take base w₂) (marked g (put g scope (place - base) ws) ++ drop (place + (n + rest)) w₂) base lb ∙ sym (take-take base place w₂ low) ∙ ap (take base) front ∙ take-take base place w low,
          ap (λ l. take (base + length (put g scope (place - base) ws) - base) (drop base l)) is
              ∙ ap (take (base + length (put g scope (place - base) ws) - base)) (drop_at (take base w₂) (marked g (put g scope (place - base) ws) ++ drop (place + (n + rest)) w₂) base lb)
              ∙ take_at (marked g (put g scope (place - base) ws)) (drop (place + (n + rest)) w₂) (base + length (put g scope (place - base) ws) - base) (sym top),
        );
  }

  pub put_resized : (p rest : ℕ) (w₂ w₃ : Words) (was will : ℕ) → p ≡ place + 2 * size_in (get_or w place 0) → p ≤ end → rest ≡ end - p → w₂ ≡ moved w place p from n rest
      → was ≡ size_in (get_or w place 0) → will ≡ size_in (get_or w from 0) → nesting_in (get_or w place 0) ≡ nesting_in (get_or w from 0) → Resized w₂ w₃ base place was will → InPlace types w w₃ base place end from n
  put_resized p rest w₂ w₃ was will e inside er e₂ ew ev flat m =
      let front : take place w₂ ≡ take place w = ap (take place) e₂ ∙ moved_front w place p end from n rest (omega arith) (omega arith) high (omega arith) in
      let middle : take (n + rest) (drop place w₂) ≡ span w from (from + n) ++ span w p end = ap (λ l. take (n + rest) (drop place l)) e₂ ∙ moved_middle w place p end from n rest (omega arith) (omega arith) high (omega arith) in
      record {
        long = m.long ∙ ap length e₂ ∙ moved_long w place p end from n rest (omega arith) (omega arith) high (omega arith);
        in_place = λ g t scope ws tb r. (
          m.below ∙ sym (take-take base place w₂ low) ∙ ap (take base) front ∙ take-take base place w low,
          resized_stands g w base place end from n t scope ws tb.heads_of.types r low two (omega arith) p rest w₂ w₃ e (omega arith) front middle flat (rw (ew, ev) at m),
        );
      }

  -- the first words are the same: what follows the tree stays, and so does each mark before it
  pub put_same : (w₂ : Words) → get_or w from 0 ≡ get_or w place 0 → w₂ ≡ paste w place (drop from w) n → InPlace types w w₂ base place end from n
  put_same w₂ alike e =
      let ld : n ≤ length (drop from w) = omega (arith, length-drop from w) in
      let front : take place w₂ ≡ take place w = ap (take place) e ∙ paste_front w place (drop from w) n (omega arith) ld in
      record {
        long = ap length e ∙ length-paste w place (drop from w) n (omega arith) ld;
        in_place = λ g t scope ws tb r. (
          sym (take-take base place w₂ low) ∙ ap (take base) front ∙ take-take base place w low,
          same_stands g w base place end from n t scope ws tb.heads_of.types r low two (omega arith) alike w₂ e (omega arith) front,
        );
      }

  -- the node's tree ends inside the scope, so there is no other way
  pub put_not : end < place + 2 * size_in (get_or w place 0) → InPlace types w w base place end from n
  put_not over = record { long = refl; in_place = λ g t scope ws tb r. absurd (omega (arith, after_inside g w base place end from n t scope ws tb.heads_of.types r low two (omega arith))) }

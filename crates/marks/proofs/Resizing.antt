-- The loop that changes the sizes in the marks above a place, where a tree is put that nests as deep as the old one. Assumes nothing.
use Prim.Native.Nat.{ℕ, ◌+◌, ◌-◌, ◌*◌, ◌%◌, ◌<◌, ◌≤◌}
use mathlib.Core.Path.{◌≡◌, refl, sym, ap, ap₂, ◌∙◌}
use mathlib.Core.List.{List, [], ◌∷◌, ◌++◌, append_assoc}
use native.Mathlib.Omega.{arith}
use lib.ListN.{length, get_or, take, drop, set, length-set, length-append, length-drop, take-append-drop}
use lib.Seq.{drop-drop, take-take, take-add, take_at, take-append-le, drop-append-le, take-set-le, drop-set-lt, get_or-set_same, get_or-set_other, get_or-take, get_or-drop}
use Rattle.words.specs.Reader.{Words}
use Rattle.words.proofs.Stretches.{drop_pair}
use Rattle.grammar.specs.Grammar.{Grammar}
use Rattle.tree.specs.Tree.{Trees, size, nesting, first_tree}
use Rattle.tree.proofs.Trees.{Even, even_of, tells, tree_some, first_take, first_even}
use Rattle.marks.specs.Marked.{mark, size_in, mark_of, marked}
use Rattle.marks.specs.Post.{span, Resizable, Resized}
use Rattle.marks.proofs.Marks.{marked_length, marked_append, marked_suffix, nesting_size}
use Rattle.marks.proofs.Marking.{type_there, Child, child_of}
use Rattle.marks.proofs.Spans.{drop_take, span_later, suffix_some, suffix_size, first_size}
use Rattle.marks.proofs.Swapping.{swap_nesting, swap_among}

-- the size in a mark
pub resized_mark : (w t n k n' was will r : ℕ) → w ≡ mark t n k → n' + was ≡ n + will → was ≤ 4096 → will ≤ 4096 → t < 64 → n' ≤ 2048 → k ≤ 2048 → r ≡ (w + (4294967296 + 64 * will - 64 * was)) % 4294967296 → r ≡ mark t n' k
unfolding mark
resized_mark w t n k n' was will r e s lw lv lt ln lk er = omega arith

-- k words more of a stretch
span_more : (w w' : Words) (base p k : ℕ) (l : Words) → base ≤ p → take p w' ≡ take p w → span w base p ≡ take (p - base) l → take k (drop p w') ≡ take k (drop (p - base) l) → span w' base (p + k) ≡ take (p + k - base) l
span_more w w' base p k l low same done next =
    let z : p + k - base ≡ (p - base) + k = omega arith in
    let up : base + (p - base) ≡ p = omega arith in
    let front : take (p - base) (drop base w') ≡ take (p - base) l = sym (drop_take p base w') ∙ ap (drop base) same ∙ drop_take p base w ∙ done in
    rw z (take-add (p - base) k (drop base w') ∙ ap₂ (λ a b. a ++ b) front (ap (take k) (drop-drop (p - base) base w' ∙ ap (λ n. drop n w') up) ∙ next) ∙ sym (take-add (p - base) k l))

-- the words to p are marked as those of the tree
record Upto (g : Grammar) (w : Words) (base place p : ℕ) (ws : Words) : Type 0 where
  half : ℕ
  even : p - base ≡ 2 * half
  inside : p ≤ place
  done : span w base p ≡ take (p - base) (marked g ws)

pub record ResizeLoop (w₀ w : Words) (base place was will p : ℕ) : Type 0 where
  pub low : base ≤ p
  pub high : p ≤ place + 1
  pub long : length w ≡ length w₀
  pub below : take base w ≡ take base w₀
  pub above : drop place w ≡ drop place w₀
  pub ahead : drop p w ≡ drop p w₀
  run : (g : Grammar) (a u u' x : Words) → Resizable g w₀ base place was will a u u' x → Upto g w base place p (a ++ (u' ++ x))

pub resize_start : (w : Words) (base place was will : ℕ) → base ≤ place → ResizeLoop w w base place was will base
resize_start w base place was will h = record {
  low = omega arith;
  high = omega arith;
  long = refl;
  below = refl;
  above = refl;
  ahead = refl;
  run = λ g a u u' x z. let e : base - base ≡ 0 = omega arith in record { half = 0; even = omega arith; inside = h; done = rw e };
}

module _ (w₀ w : Words) (base place was will p : ℕ) (i : ResizeLoop w₀ w base place was will p) (more : p < place) (room : place ≤ length w₀) where
  module _ (g : Grammar) (a u u' x : Words) (z : Resizable g w₀ base place was will a u u' x) where
    abbrev o : ℕ
    o = p - base

    upto : Upto g w base place p (a ++ (u' ++ x))
    upto = i.run g a u u' x z

    two : o + 2 ≤ length a
    two = omega (arith, upto.even, z.even, z.long, i.low)

    abbrev t : ℕ
    t = get_or a o 0

    abbrev v : ℕ
    v = get_or a (o + 1) 0

    abbrev y : Words
    y = drop (o + 2) a

    pair : drop o a ≡ t ∷ v ∷ y
    pair = drop_pair a o two

    -- from p on, whatever follows a
    on : (b : Words) → drop o (a ++ b) ≡ t ∷ v ∷ (y ++ b)
    on b = drop-append-le o a b (omega (arith, two)) ∙ ap (λ l. l ++ b) pair

    abbrev old : Words
    old = t ∷ v ∷ (y ++ (u ++ x))

    abbrev new : Words
    new = t ∷ v ∷ (y ++ (u' ++ x))

    marks_on : (b : Words) → drop o (marked g (a ++ b)) ≡ marked g (t ∷ v ∷ (y ++ b))
    marks_on b = marked_suffix g (a ++ b) upto.half o upto.even ∙ ap (marked g) (on b)

    stands_on : span w p place ≡ take (place - p) (marked g old)
    stands_on =
        let m : place - base - o ≡ place - p = omega (arith, i.low) in
        ap (take (place - p)) i.ahead ∙ sym (span_later w₀ base p place i.low) ∙ ap (drop o) z.stands ∙ drop_take (place - base) o (marked g (a ++ (u ++ x))) ∙ ap₂ take m (marks_on (u ++ x))

    here : (c : ℕ) × (cs : List ℕ) × Trees g (c ∷ cs) old
    here =
        let q = suffix_some (a ++ (u ++ x)) z.tree upto.half o upto.even (omega (arith, two, length-append a (u ++ x))) in
        (q.0, q.1, rw (on (u ++ x)) at q.2)

    few : size old ≤ 2048
    few = omega (arith, z.few, suffix_size (a ++ (u ++ x)) upto.half o upto.even, ap size (on (u ++ x)))

    small : size new ≤ 2048
    small = omega (arith, z.small, suffix_size (a ++ (u' ++ x)) upto.half o upto.even, ap size (on (u' ++ x)))

    word : get_or w p 0 ≡ mark_of g t v (y ++ (u ++ x))
    unfolding marked
    word = let e : p + 0 ≡ p = omega arith in ap (λ n. get_or w n 0) (sym e) ∙ sym (get_or-drop p w 0 0) ∙ sym (get_or-take (place - p) (drop p w) 0 0 (omega arith)) ∙ ap (λ l. get_or l 0 0) stands_on ∙ get_or-take (place - p) (marked g old) 0 0 (omega arith)

    value : get_or w (p + 1) 0 ≡ v
    unfolding marked
    value =
        let h : 1 < place - p = omega (arith, upto.even, z.even, i.low) in
        sym (get_or-drop p w 1 0) ∙ sym (get_or-take (place - p) (drop p w) 1 0 h) ∙ ap (λ l. get_or l 1 0) stands_on ∙ get_or-take (place - p) (marked g old) 1 0 h

    child : Child g here.0 here.1 old (get_or w p 0)
    unfolding marked
    child = child_of g here.0 here.1 old (get_or w p 0) z.types (omega (arith, few, first_size g old 1)) here.2 word

    some : 1 ≤ size_in (get_or w p 0)
    some = omega (arith, child.counted, tree_some (first_tree g old) child.tree)

    -- the node's tree ends by the place
    skipped : (n : ℕ) → n ≡ size_in (get_or w p 0) → p + 2 * n ≤ place → Upto g w base place (p + 2 * n) (a ++ (u' ++ x))
    skipped n en ends = record {
      half = upto.half + n;
      even = omega (arith, upto.even, i.low);
      inside = ends;
      done = span_more w w base p (2 * n) (marked g (a ++ (u' ++ x))) i.low refl upto.done
          (sym (take-take (2 * n) (place - p) (drop p w) (omega arith)) ∙ ap (take (2 * n)) stands_on ∙ take-take (2 * n) (place - p) (marked g old) (omega arith) ∙ front (u ++ x)
          ∙ sym (ap (take (2 * n)) (marks_on (u' ++ x)) ∙ front (u' ++ x)));
    }
      where
        f : Words
        f = first_tree g old

        f_long : length f ≡ 2 * n
        f_long = omega (arith, first_even g old 1, child.counted)

        rest_long : 2 * n ≤ length (t ∷ v ∷ y)
        rest_long = omega (arith, ap length pair, length-drop o a, z.long, i.low)

        begins : f ≡ take (2 * n) (t ∷ v ∷ y)
        begins = first_take g old 1 ∙ ap (λ k. take k old) f_long ∙ take-append-le (2 * n) (t ∷ v ∷ y) (u ++ x) rest_long

        parts : (b : Words) → t ∷ v ∷ (y ++ b) ≡ f ++ (drop (2 * n) (t ∷ v ∷ y) ++ b)
        parts b = ap (λ l. l ++ b) (sym (take-append-drop (2 * n) (t ∷ v ∷ y)) ∙ ap (λ l. l ++ drop (2 * n) (t ∷ v ∷ y)) (sym begins)) ∙ append_assoc f (drop (2 * n) (t ∷ v ∷ y)) b

        front : (b : Words) → take (2 * n) (marked g (t ∷ v ∷ (y ++ b))) ≡ marked g f
        front b =
            ap (λ l. take (2 * n) (marked g l)) (parts b) ∙ ap (take (2 * n)) (marked_append child.tree (drop (2 * n) (t ∷ v ∷ y) ++ b))
            ∙ take_at (marked g f) (marked g (drop (2 * n) (t ∷ v ∷ y) ++ b)) (2 * n) (marked_length g f ∙ f_long)

    -- the place is in the node's tree
    entered : (n m : ℕ) → n ≡ size_in (get_or w p 0) → place < p + 2 * n → was ≤ 4096 → will ≤ 4096 → m ≡ (get_or w p 0 + (4294967296 + 64 * will - 64 * was)) % 4294967296 → Upto g (set w p m) base place (p + 2) (a ++ (u' ++ x))
    unfolding marked mark_of nesting
    entered n m en ends lw lv em = record {
      half = upto.half + 1;
      even = omega (arith, upto.even, i.low);
      inside = omega (arith, upto.even, z.even, i.low);
      done = span_more w (set w p m) base p 2 (marked g (a ++ (u' ++ x))) i.low (take-set-le p w p m (omega arith)) upto.done (stored ∙ sym (ap (take 2) (marks_on (u' ++ x))));
    }
      where
        even_y : Even (t ∷ v ∷ y)
        even_y = even_of (t ∷ v ∷ y) (omega (arith, ap length pair, length-drop o a, z.long, z.even, upto.even))

        sizes : size (first_tree g old) + size u' ≡ size (first_tree g new) + size u
        sizes = swap_among g z.type z.type' u u' x z.old z.new z.flat (t ∷ v ∷ y) even_y 1 (omega (arith, first_even g old 1, child.counted, ap length pair, length-drop o a, z.long, i.low))

        nests : nesting g (first_tree g old) ≡ nesting g (first_tree g new)
        nests = swap_nesting g z.type z.type' u u' x z.old z.new z.flat (t ∷ v ∷ y) even_y 1 (1 ∷ []) (omega arith, tt)

        low : t < 64
        low = let k = tells here.2 in rw k.0 (omega (arith, type_there g here.0 v k.1, z.types))

        is : m ≡ mark t (size (first_tree g new)) (nesting g (first_tree g new))
        is =
            resized_mark (get_or w p 0) t (size (first_tree g old)) (nesting g (first_tree g old)) (size (first_tree g new)) was will m word (omega (arith, sizes, z.old_size, z.new_size)) lw lv low
            (omega (arith, small, first_size g new 1)) (omega (arith, few, first_size g old 1, nesting_size g (first_tree g old))) em ∙ ap (mark t (size (first_tree g new))) nests

        stored : take 2 (drop p (set w p m)) ≡ take 2 (marked g new)
        stored =
            ap (take 2) (drop_pair (set w p m) p (omega (arith, length-set w p m, i.long, upto.even, z.even, i.low)))
            ∙ ap₂ (λ b c. b ∷ c ∷ []) (get_or-set_same w p m 0 (omega (arith, i.long)) ∙ is) (get_or-set_other w p (p + 1) m 0 (λ e. omega arith) ∙ value)

  pub resize_none : (n : ℕ) → n ≡ size_in (get_or w p 0) → n ≡ 0 → Resized w₀ w base place was will
  resize_none n en e = record { long = i.long; below = i.below; above = i.above; marks = λ g a u u' x z. absurd (omega (arith, some g a u u' x z)) }

  pub resize_over : (n : ℕ) → n ≡ size_in (get_or w p 0) → p + 2 * n ≤ place → ResizeLoop w₀ w base place was will (p + 2 * n)
  resize_over n en ends = record {
    low = omega (arith, i.low);
    high = omega arith;
    long = i.long;
    below = i.below;
    above = i.above;
    ahead = sym (drop-drop (2 * n) p w) ∙ ap (drop (2 * n)) i.ahead ∙ drop-drop (2 * n) p w₀;
    run = λ g a u u' x z. skipped g a u u' x z n en ends;
  }

  pub resize_into : (n m : ℕ) → n ≡ size_in (get_or w p 0) → place < p + 2 * n → was ≤ 4096 → will ≤ 4096 → m ≡ (get_or w p 0 + (4294967296 + 64 * will - 64 * was)) % 4294967296 → ResizeLoop w₀ (set w p m) base place was will (p + 2)
  resize_into n m en ends lw lv em = record {
    low = omega (arith, i.low);
    high = omega arith;
    long = length-set w p m ∙ i.long;
    below = take-set-le base w p m i.low ∙ i.below;
    above = drop-set-lt place w p m more ∙ i.above;
    ahead = drop-set-lt (p + 2) w p m (omega arith) ∙ sym (drop-drop 2 p w) ∙ ap (drop 2) i.ahead ∙ drop-drop 2 p w₀;
    run = λ g a u u' x z. entered g a u u' x z n m en ends lw lv em;
  }

pub resize_end : (w₀ w : Words) (base place was will p : ℕ) → ResizeLoop w₀ w base place was will p → place ≤ p → Resized w₀ w base place was will
resize_end w₀ w base place was will p i all = record {
  long = i.long;
  below = i.below;
  above = i.above;
  marks = λ g a u u' x z. let r = i.run g a u u' x z in let e : p ≡ place = omega (arith, r.inside) in rw e at r.done;
}

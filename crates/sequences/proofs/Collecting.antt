-- The trees of a type that stand in a tree below, appended one after the other: what is under way, and the definition at what is left. Assumes nothing.
use Rattle.std.specs.Prelude.{Ok, Err}
use Rattle.sequences.proofs.Sealing.{ok_is, no_ok}
use Prim.Native.Nat.{ℕ, ◌+◌, ◌-◌, ◌*◌, ◌≤◌, ◌<◌}
use mathlib.Core.Path.{◌≡◌, refl, sym, ap, ◌∙◌, subst}
use mathlib.Core.List.{List, [], ◌∷◌, ◌++◌, append_assoc, append-nil}
use native.Mathlib.Omega.{arith}
use lib.ListN.{length, get_or, take, drop, length-drop, drop_of_length-le}
use lib.Seq.{drop-drop, take-take, get_or-take, get_or-drop}
use Rattle.words.specs.Reader.{Words}
use Rattle.grammar.specs.Grammar.{Grammar}
use Rattle.grammar.specs.Limits.{most_types}
use Rattle.grammar.specs.Kinds.{children}
use Rattle.tree.specs.Tree.{Trees, size, after, first_tree}
use Rattle.tree.specs.Sequences.{spine, taken, taken_from}
use Rattle.tree.proofs.Trees.{tells, trees_even, tree_some, first_after, after_drop}
use Rattle.tree.proofs.Sequences.{taken_other, taken_this}
use Rattle.marks.specs.Marked.{type_in, size_in, marked, UnderWay}
use Rattle.marks.proofs.Marks.{marked_suffix}
use Rattle.marks.proofs.Marking.{Child, child_of}
use Rattle.marks.proofs.Spans.{drop_take, suffix_size, first_size}
use Rattle.marks.proofs.Same.{marked_first}
use Rattle.sequences.specs.Listed.{before, Below, Collects}
use Rattle.sequences.proofs.Listing.{before_append, before_more, before_none}
use Rattle.sequences.proofs.Growing.{grown_element, pushed_below}
use Rattle.sequences.proofs.Joining.{below_words}

-- so many nodes are under way, of the elements `done`; the trees in vs, from node i on, are to come
pub record CollectLeft (g : Grammar) (w : Words) (e t base nodes i : ℕ) (es : List Words) (u : Words) : Type 0 where
  pub done : List Words
  pub ts : List ℕ
  pub vs : Words
  pub place : drop (2 * i) u ≡ vs
  pub rest : Trees g ts vs
  pub all : es ++ taken g e u ≡ done ++ taken g e vs
  pub nodes_is : nodes ≡ before done
  pub under : UnderWay g (take (2 * nodes) (drop base w)) (spine t done)

pub record Collecting (w₀ w : Words) (e t base k start m most nodes i : ℕ) : Type 0 where
  pub long : length w ≡ length w₀
  pub below : take base w ≡ take base w₀
  pub few : nodes ≤ most
  pub inside : i ≤ m
  pub left : (g : Grammar) (es : List Words) (u : Words) → length g ≤ most_types → Below g w₀ base start m u → k ≡ before es → UnderWay g (take (2 * k) (drop base w₀)) (spine t es)
      → CollectLeft g w e t base nodes i es u

none_taken : (g : Grammar) (e : ℕ) (done : List Words) → done ++ taken g e [] ≡ done
unfolding taken_from
none_taken g e done = append-nil done

one_before : (f : Words) (n : ℕ) → n ≡ size f → before (f ∷ []) ≡ 1 + n
one_before f n h = omega (arith, before_more f [], before_none)

pub collecting_start : (w : Words) (e t base k start m most : ℕ) → k ≤ most → Collecting w w e t base k start m most k 0
collecting_start w e t base k start m most h = record {
  long = refl;
  below = refl;
  few = h;
  inside = omega arith;
  left = λ g es u types b ek way. record { done = es; ts = b.stands.type ∷ []; vs = u; place = refl; rest = b.stands.tree.typed; all = refl; nodes_is = ek; under = way };
}

-- NODE i OF THE TREE

module _ {g : Grammar} (w₀ w : Words) (base start m i : ℕ) (u vs : Words) (b : Below g w₀ base start m u) (same : take base w ≡ take base w₀) (place : drop (2 * i) u ≡ vs) (inside : i < m) where
  tree_long : length u ≡ 2 * m
  tree_long = omega (arith, trees_even b.stands.tree.typed, b.nodes)

  rest_long : length vs ≡ 2 * m - 2 * i
  rest_long = sym (ap length place) ∙ length-drop (2 * i) u ∙ ap (λ k. k - 2 * i) tree_long

  words_at_lem : take (2 * m - 2 * i) (drop (start + 2 * i) w) ≡ marked g vs
  words_at_lem =
      ap (take (2 * m - 2 * i)) (sym (drop-drop (2 * i) start w)) ∙ sym (drop_take (2 * m) (2 * i) (drop start w)) ∙ ap (drop (2 * i)) (below_words w b same) ∙ marked_suffix g u i (2 * i) refl ∙ ap (marked g) place

  word_at : get_or w (start + 2 * i) 0 ≡ get_or (marked g vs) 0 0
  word_at =
      let z : start + 2 * i + 0 ≡ start + 2 * i = omega arith in
      ap (λ k. get_or w k 0) (sym z) ∙ sym (get_or-drop (start + 2 * i) w 0 0) ∙ sym (get_or-take (2 * m - 2 * i) (drop (start + 2 * i) w) 0 0 (omega arith)) ∙ ap (λ l. get_or l 0 0) words_at_lem

  -- what its mark tells
  child_there : (c : ℕ) (ts : List ℕ) → length g ≤ most_types → Trees g (c ∷ ts) vs → Child g c ts vs (get_or w (start + 2 * i) 0)
  child_there c ts few r =
      let c₁ : size vs ≤ size u = subst (λ l. size l ≤ size u) place (suffix_size u i (2 * i) refl) in
      child_of g c ts vs (get_or w (start + 2 * i) 0) few (omega (arith, first_size g vs 1, b.stands.tree.nodes)) r word_at

module _ (w₀ w : Words) (e t base k start m most nodes i : ℕ) (x : Collecting w₀ w e t base k start m most nodes i) where
  -- all nodes are passed
  pub collecting_end : m ≤ i → Collects w₀ w e t base k start m most (Ok nodes)
  collecting_end h = record {
    long = x.long;
    below = x.below;
    few = λ z. omega (arith, ok_is z, x.few);
    collected = λ g es u types b ek way.
        let y = x.left g es u types b ek way in
        let long : length u ≤ 2 * i = omega (arith, trees_even b.stands.tree.typed, b.nodes) in
        let none : y.vs ≡ [] = sym y.place ∙ drop_of_length-le u long in
        let all : es ++ taken g e u ≡ y.done = y.all ∙ ap (λ l. y.done ++ taken g e l) none ∙ none_taken g e y.done in
        (y.nodes_is ∙ ap before (sym all), subst (λ l. UnderWay g (take (2 * nodes) (drop base w)) (spine t l)) (sym all) y.under);
  }

  module _ (v : ℕ) (ev : v ≡ get_or w (start + 2 * i) 0) (inside : i < m) where
    -- a node of another type
    pub collecting_other : (a : ℕ) → a ≡ type_in v → (a ≡ e → ⊥) → Collecting w₀ w e t base k start m most nodes (i + 1)
    collecting_other a ea n = record {
      long = x.long;
      below = x.below;
      few = x.few;
      inside = omega arith;
      left = λ g es u types b ek way. let y = x.left g es u types b ek way in go g es u types b y.done y.ts y.vs y.place y.rest y.all y.nodes_is y.under;
    }
      where
        go : (g : Grammar) (es : List Words) (u : Words) → length g ≤ most_types → Below g w₀ base start m u → (done : List Words) (ts : List ℕ) (vs : Words) → drop (2 * i) u ≡ vs → Trees g ts vs
            → es ++ taken g e u ≡ done ++ taken g e vs → nodes ≡ before done → UnderWay g (take (2 * nodes) (drop base w)) (spine t done) → CollectLeft g w e t base nodes (i + 1) es u
        go g es u types b done ts [] place r all is way = absurd (omega (arith, rest_long w₀ w base start m i u [] b x.below place inside))
        go g es u types b done ts (p ∷ []) place r all is way = absurd (omega (arith, rest_long w₀ w base start m i u (p ∷ []) b x.below place inside))
        go g es u types b done [] (p ∷ q ∷ vs) place r all is way = absurd (tells r)
        go g es u types b done (c ∷ ts) (p ∷ q ∷ vs) place r all is way =
            let root = (child_there w₀ w base start m i u (p ∷ q ∷ vs) b x.below place inside c ts types r).root in
            let other : p ≡ e → ⊥ = λ z. n (ea ∙ ap type_in ev ∙ root ∙ sym (tells r).0 ∙ z) in
            let next : 2 * (i + 1) ≡ 2 * i + 2 = omega arith in
            record {
              done = done;
              ts = children g c q ++ ts;
              vs = vs;
              place = ap (λ l. drop l u) next ∙ sym (drop-drop 2 (2 * i) u) ∙ ap (drop 2) place;
              rest = (tells r).2;
              all = all ∙ ap (λ l. done ++ l) (taken_other g e p q vs other);
              nodes_is = is;
              under = way;
            }

    -- a tree of the type
    module _ (n a : ℕ) (en : n ≡ size_in v) (ea : a ≡ type_in v) (this : a ≡ e) where
      -- .. what it is
      record Here (g : Grammar) (u vs : Words) : Type 0 where
        nodes_here : n ≡ size (first_tree g vs)
        tree : Trees g (e ∷ []) (first_tree g vs)
        some : 0 < n
        more : (us : List ℕ) × Trees g us (after g vs 1)
        fits : i + n ≤ m
        words : take (2 * n) (drop (start + 2 * i) w) ≡ marked g (first_tree g vs)

      here : (g : Grammar) (u : Words) → length g ≤ most_types → Below g w₀ base start m u → (ts : List ℕ) (vs : Words) → drop (2 * i) u ≡ vs → Trees g ts vs → Here g u vs
      here g u types b ts [] place r = absurd (omega (arith, rest_long w₀ w base start m i u [] b x.below place inside))
      here g u types b ts (p ∷ []) place r = absurd (omega (arith, rest_long w₀ w base start m i u (p ∷ []) b x.below place inside))
      here g u types b [] (p ∷ q ∷ xs) place r = absurd (tells r)
      here g u types b (c ∷ ts) (p ∷ q ∷ xs) place r =
          let vs = p ∷ q ∷ xs in
          let long = rest_long w₀ w base start m i u vs b x.below place inside in
          let ch = child_there w₀ w base start m i u vs b x.below place inside c ts types r in
          let is : c ≡ e = sym ch.root ∙ sym (ap type_in ev) ∙ sym ea ∙ this in
          let tree : Trees g (e ∷ []) (first_tree g vs) = subst (λ l. Trees g (l ∷ []) (first_tree g vs)) is ch.tree in
          let size_is : n ≡ size (first_tree g vs) = en ∙ ap size_in ev ∙ ch.counted in
          let low = first_size g vs 1 in
          let half : length vs ≡ 2 * size vs = trees_even r in
          let first_long : 2 * n ≡ length (first_tree g vs) = omega (arith, trees_even tree) in
          let within : 2 * n ≤ 2 * m - 2 * i = omega arith in
          record {
            nodes_here = size_is;
            tree = tree;
            some = omega (arith, tree_some (first_tree g vs) tree);
            more = (ts, ch.more);
            fits = omega arith;
            words = sym (take-take (2 * n) (2 * m - 2 * i) (drop (start + 2 * i) w) within) ∙ ap (take (2 * n)) (words_at_lem w₀ w base start m i u vs b x.below place inside) ∙ marked_first vs (2 * n) r first_long;
          }

      -- what is taken, it first
      all_here : (g : Grammar) (es done : List Words) (u vs : Words) → Here g u vs → es ++ taken g e u ≡ done ++ taken g e vs → es ++ taken g e u ≡ done ++ first_tree g vs ∷ taken g e (after g vs 1)
      all_here g es done u vs h all = all ∙ ap (λ l. done ++ l) (ap (taken g e) (sym (first_after g vs 1)) ∙ taken_this g e h.tree (after g vs 1))

      pub collecting_none : n ≡ 0 → Collects w₀ w e t base k start m most (Ok nodes)
      collecting_none z = record {
        long = x.long;
        below = x.below;
        few = λ z. omega (arith, ok_is z, x.few);
        collected = λ g es u types b ek way. let y = x.left g es u types b ek way in let h = here g u types b y.ts y.vs y.place y.rest in absurd (omega (arith, h.some));
      }

      pub collecting_past : m < i + n → Collects w₀ w e t base k start m most (Ok nodes)
      collecting_past z = record {
        long = x.long;
        below = x.below;
        few = λ z. omega (arith, ok_is z, x.few);
        collected = λ g es u types b ek way. let y = x.left g es u types b ek way in let h = here g u types b y.ts y.vs y.place y.rest in absurd (omega (arith, h.fits));
      }

      pub collecting_over : most < nodes + 1 + n → Collects w₀ w e t base k start m most (Err 42)
      collecting_over z = record {
        long = x.long;
        below = x.below;
        few = λ z. absurd (no_ok z);
        collected = λ g es u types b ek way.
            let y = x.left g es u types b ek way in
            let h = here g u types b y.ts y.vs y.place y.rest in
            let f = first_tree g y.vs in
            let fs = taken g e (after g y.vs 1) in
            let all = ap before (all_here g es y.done u y.vs h y.all) in
            (omega (arith, all, before_append y.done (f ∷ fs), before_more f fs, h.nodes_here, y.nodes_is), refl);
      }

      pub collecting_more : nodes + 1 + n ≤ most → base + 2 * nodes ≤ length w → (w' : Words) → length w' ≡ length w
          → w' ≡ take (base + 2 * nodes) w ++ (t ∷ 0 ∷ (take (2 * n) (drop (start + 2 * i) w) ++ drop (base + 2 * nodes + 2 + 2 * n) w))
          → i + n ≤ m → Collecting w₀ w' e t base k start m most (nodes + 1 + n) (i + n)
      collecting_more few room w' long ew fits =
          let z = take (2 * n) (drop (start + 2 * i) w) in
          let rest = drop (base + 2 * nodes + 2 + 2 * n) w in
          record {
            long = long ∙ x.long;
            below = pushed_below w w' (t ∷ 0 ∷ z) rest base (2 * nodes) room ew ∙ x.below;
            few = few;
            inside = fits;
            left = λ g es u types b ek way.
                let y = x.left g es u types b ek way in
                let h = here g u types b y.ts y.vs y.place y.rest in
                let f = first_tree g y.vs in
                let next : 2 * (i + n) ≡ 2 * i + length f = omega (arith, trees_even h.tree, h.nodes_here) in
                let none : before (f ∷ []) ≡ 1 + n = one_before f n h.nodes_here in
                record {
                  done = y.done ++ f ∷ [];
                  ts = h.more.0;
                  vs = after g y.vs 1;
                  place = ap (λ l. drop l u) next ∙ sym (drop-drop (length f) (2 * i) u) ∙ ap (drop (length f)) y.place ∙ sym (after_drop g y.vs 1);
                  rest = h.more.1;
                  all = all_here g es y.done u y.vs h y.all ∙ sym (append_assoc y.done (f ∷ []) (taken g e (after g y.vs 1)));
                  nodes_is = omega (arith, before_append y.done (f ∷ []), y.nodes_is);
                  under = grown_element w w' rest base nodes t y.done room y.under f z h.tree h.words ew (nodes + 1 + n) (ap (λ l. nodes + 1 + l) h.nodes_here);
                };
          }

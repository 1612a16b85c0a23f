-- A sequence that stands marked in work memory: its words one by one, and its rests, which stand there too. Assumes nothing.
use Prim.Native.Nat.{ℕ, suc, ◌+◌, ◌-◌, ◌*◌, ◌<◌, ◌≤◌}
use mathlib.Core.Path.{◌≡◌, refl, sym, ap, ap₂, ◌∙◌, subst}
use mathlib.Core.Bool.{true}
use mathlib.Core.List.{List, [], ◌∷◌, ◌++◌}
use native.Mathlib.Omega.{arith}
use lib.ListN.{length, get_or, take, drop, length-append}
use lib.Seq.{drop-drop, drop_at, take_at, take-take, get_or-take, get_or-drop}
use Rattle.words.specs.Reader.{Words}
use Rattle.grammar.specs.Grammar.{Grammar}
use Rattle.grammar.specs.Limits.{most_types}
use Rattle.grammar.specs.Kinds.{children, is_sequence}
use Rattle.tables.specs.Types.{OfRows, TypesOf}
use Rattle.tables.specs.declared.types.Types.{Types}
use Rattle.tree.specs.Tree.{Trees, size, first_tree, type_of}
use Rattle.tree.specs.Sequences.{element_of, spine, sequence_of, elements, EachTree, sizes}
use Rattle.tree.proofs.Trees.{trees_append, trees_even, tree_type, first_append}
use Rattle.tree.proofs.Sequences.{sequence_append, sequence_more, sequence_none, spine_length, sequence_size, sizes_append, sequence_trees, elements_typed, elements_made}
use Rattle.marks.specs.Marked.{type_in, size_in, marked, Stands}
use Rattle.marks.proofs.Marks.{marked_length, marked_append, marked_suffix}
use Rattle.marks.proofs.Marking.{child_of}
use Rattle.marks.proofs.Spans.{drop_take, first_size}
use Rattle.rewrite.specs.Arena.{Standing}
use Rattle.rewrite.proofs.Standing.{stands_whole, stands_standing}
use Rattle.sequences.specs.Listed.{Listed, before}

-- ELEMENTS

pub each_front : (g : Grammar) (e : ℕ) (es fs : List Words) → EachTree g e (es ++ fs) → EachTree g e es
each_front g e [] fs x = tt
each_front g e (w ∷ es) fs x = (x.0, each_front g e es fs x.1)

pub each_back : (g : Grammar) (e : ℕ) (es fs : List Words) → EachTree g e (es ++ fs) → EachTree g e fs
each_back g e [] fs x = x
each_back g e (w ∷ es) fs x = each_back g e es fs x.1

pub before_append : (es fs : List Words) → before (es ++ fs) ≡ before es + before fs
before_append es fs = omega (arith, sizes_append es fs, length-append es fs)

pub before_more : (e : Words) (es : List Words) → before (e ∷ es) ≡ 1 + size e + before es
unfolding sizes
before_more e es = omega arith

pub before_none : before [] ≡ 0
unfolding sizes
before_none = omega arith

-- A SEQUENCE THAT STANDS

-- a tree of a sequence type, by its elements
pub standing_listed : {g : Grammar} {w : Words} {base n t : ℕ} (scope : Words) → length g ≤ most_types → is_sequence g t ≡ true → Standing g w base n t scope → Listed g w base n t (elements g scope)
standing_listed {g} {w} {base} {n} {t} scope types is s =
    let same : sequence_of t (elements g scope) ≡ scope = elements_made g t is scope s.tree.typed in
    record {
      types = types;
      is = is;
      each = elements_typed g t is scope s.tree.typed;
      nodes = ap size same ∙ s.nodes;
      few = omega (arith, s.nodes, s.tree.nodes);
      words = s.words ∙ ap (marked g) (sym same);
    }

-- .. that stands below
pub stands_listed : {g : Grammar} {start : ℕ} {u : Words} (w : Words) (base : ℕ) → length g ≤ most_types → is_sequence g (type_of u) ≡ true → Stands g (take base w) start u → Listed g w start (size u) (type_of u) (elements g u)
stands_listed {g} {start} {u} w base types is s =
    let x = stands_whole w base s in
    standing_listed u types is (subst (λ t. Standing g w start (size u) t u) (sym (tree_type u x.tree.typed)) (stands_standing w x))

-- the same words elsewhere
pub listed_as : {g : Grammar} {w w' : Words} {p q n t : ℕ} {es : List Words} → Listed g w p n t es → take (2 * n) (drop q w') ≡ take (2 * n) (drop p w) → Listed g w' q n t es
listed_as x e = record { types = x.types; is = x.is; each = x.each; nodes = x.nodes; few = x.few; words = e ∙ x.words }

module _ {g : Grammar} {w : Words} {p n t : ℕ} where
  -- one node more than those before its last
  pub listed_nodes : {es : List Words} → Listed g w p n t es → n ≡ suc (before es)
  listed_nodes {es} x = sym x.nodes ∙ sequence_size g (element_of g t) t es x.each

  -- a rest stands where it begins
  pub listed_later : (es fs : List Words) → Listed g w p n t (es ++ fs) → Listed g w (p + 2 * before es) (n - before es) t fs
  listed_later es fs x =
      let k = before es in
      let front = each_front g (element_of g t) es fs x.each in
      let back = each_back g (element_of g t) es fs x.each in
      let all = listed_nodes x in
      let some : n - k ≡ suc (before fs) = omega (arith, before_append es fs) in
      let part : 2 * (n - k) ≡ 2 * n - 2 * k = omega arith in
      let there : take (2 * (n - k)) (drop (p + 2 * k) w) ≡ drop (2 * k) (take (2 * n) (drop p w)) =
      ap₂ (λ a b. take a b) part (sym (drop-drop (2 * k) p w)) ∙ sym (drop_take (2 * n) (2 * k) (drop p w)) in
      let suffix : drop (2 * k) (sequence_of t (es ++ fs)) ≡ sequence_of t fs =
      ap (drop (2 * k)) (sequence_append t es fs) ∙ drop_at (spine t es) (sequence_of t fs) (2 * k) (spine_length g (element_of g t) t es front) in
      record {
        types = x.types;
        is = x.is;
        each = back;
        nodes = sequence_size g (element_of g t) t fs back ∙ sym some;
        few = omega (arith, x.few);
        words = there ∙ ap (drop (2 * k)) x.words ∙ marked_suffix g (sequence_of t (es ++ fs)) k (2 * k) refl ∙ ap (marked g) suffix;
      }

  -- a word of it
  listed_word : {es : List Words} → Listed g w p n t es → (i : ℕ) → i < 2 * n → get_or w (p + i) 0 ≡ get_or (marked g (sequence_of t es)) i 0
  listed_word x i h = sym (get_or-drop p w i 0) ∙ sym (get_or-take (2 * n) (drop p w) i 0 h) ∙ ap (λ l. get_or l i 0) x.words

  -- its root has its type
  pub listed_root : {es : List Words} → Listed g w p n t es → type_in (get_or w p 0) ≡ t
  listed_root {es} x =
      let ws = sequence_of t es in
      let z : p + 0 ≡ p = omega arith in
      let word : get_or w p 0 ≡ get_or (marked g ws) 0 0 = ap (λ q. get_or w q 0) (sym z) ∙ listed_word x 0 (omega (arith, listed_nodes x)) in
      let small : size (first_tree g ws) < 4096 = omega (arith, first_size g ws 1, x.nodes, x.few) in
      (child_of g t [] ws (get_or w p 0) x.types small (sequence_trees g t x.is es x.each) word).root

  -- its type and its element's, as they are looked up
  pub listed_types : {es : List Words} (types : Types) (a e : ℕ) → a ≡ type_in (get_or w p 0) → OfRows types (λ g. e ≡ get_or (children g a 0) 0 0) → TypesOf g types → Listed g w p n t es → (a ≡ t) × (e ≡ element_of g t)
  unfolding element_of
  listed_types types a e ea ee tb x = let root = ea ∙ listed_root x in (root, ee g tb.rows_of_lem ∙ ap (λ l. get_or (children g l 0) 0 0) root)

  -- its last node has the value 1
  pub listed_last : Listed g w p n t [] → get_or w (p + 1) 0 ≡ 1
  unfolding marked
  listed_last x =
      let here = listed_word x 1 (omega (arith, listed_nodes x)) in
      let one : get_or (marked g (sequence_of t [])) 1 0 ≡ 1 = ap (λ l. get_or (marked g l) 1 0) (sequence_none t) in
      here ∙ one

  module _ (e : Words) (es : List Words) (x : Listed g w p n t (e ∷ es)) where
    -- a node before an element has the value 0
    pub listed_value : get_or w (p + 1) 0 ≡ 0
    unfolding marked
    listed_value =
        let here = listed_word x 1 (omega (arith, listed_nodes x)) in
        let zero_there : get_or (marked g (sequence_of t (e ∷ es))) 1 0 ≡ 0 = ap (λ l. get_or (marked g l) 1 0) (sequence_more t e es) in
        here ∙ zero_there

    some_nodes : n ≡ 2 + size e + before es
    some_nodes = omega (arith, listed_nodes x, before_more e es)

    -- the element's mark has its size
    pub listed_size : size_in (get_or w (p + 2) 0) ≡ size e
    unfolding marked
    listed_size =
        let s = sequence_of t es in
        let here = listed_word x 2 (omega (arith, some_nodes)) in
        let m : get_or (marked g (sequence_of t (e ∷ es))) 2 0 ≡ get_or (marked g (e ++ s)) 0 0 = ap (λ l. get_or (marked g l) 2 0) (sequence_more t e es) in
        let f = first_append x.each.0 s in
        let both : Trees g (element_of g t ∷ t ∷ []) (e ++ s) = trees_append x.each.0 (sequence_trees g t x.is es x.each.1) in
        let small : size (first_tree g (e ++ s)) < 4096 = rw f (omega (arith, some_nodes, x.few)) in
        (child_of g (element_of g t) (t ∷ []) (e ++ s) (get_or w (p + 2) 0) x.types small both (here ∙ m)).counted ∙ ap size f

    -- the element stands behind its node
    pub listed_element : take (2 * size e) (drop (p + 2) w) ≡ marked g e
    unfolding marked
    listed_element =
        let s = sequence_of t es in
        let m : drop 2 (marked g (sequence_of t (e ∷ es))) ≡ marked g (e ++ s) = ap (λ l. drop 2 (marked g l)) (sequence_more t e es) in
        let there : take (2 * n - 2) (drop (p + 2) w) ≡ marked g e ++ marked g s = ap (take (2 * n - 2)) (sym (drop-drop 2 p w)) ∙ sym (drop_take (2 * n) 2 (drop p w)) ∙ ap (drop 2) x.words ∙ m ∙ marked_append x.each.0 s in
        let long : length (marked g e) ≡ 2 * size e = marked_length g e ∙ trees_even x.each.0 in
        sym (take-take (2 * size e) (2 * n - 2) (drop (p + 2) w) (omega (arith, some_nodes))) ∙ ap (take (2 * size e)) there ∙ take_at (marked g e) (marked g s) (2 * size e) long

    -- what is behind the element
    pub listed_more : Listed g w (p + 2 * (1 + size e)) (n - (1 + size e)) t es
    listed_more =
        let k : before (e ∷ []) ≡ 1 + size e = omega (arith, before_more e [], before_none) in
        rw k at (listed_later (e ∷ []) es x)

    -- there is room for it
    pub listed_room : 1 + size e < n
    listed_room = omega (arith, some_nodes)

-- The way down to a node: the loop that counts how deep it is nested. Assumes nothing.
use Prim.Native.Nat.{ℕ, zero, suc, ◌+◌, ◌-◌, ◌*◌, ◌<◌, ◌≤◌}
use mathlib.Core.Path.{◌≡◌, refl, sym, ap, ◌∙◌}
use mathlib.Core.List.{List, [], ◌∷◌, ◌++◌, append_assoc}
use mathlib.Core.Bool.{Bool, false}
use native.Mathlib.Omega.{arith}
use native.Mathlib.Numerals.{add-one}
use lib.ListN.{length, get_or, drop, length-append, length-drop}
use lib.Seq.{drop-cons, drop-drop}
use lib.Dec.{eqb}
use Rattle.words.specs.Reader.{Words, pick, and}
use Rattle.words.proofs.Stretches.{drop_pair}
use Rattle.grammar.specs.Grammar.{Grammar}
use Rattle.grammar.specs.Kinds.{children, is_sequence}
use Rattle.tables.specs.Tables.{Heads}
use Rattle.tables.specs.Types.{OfHeads}
use Rattle.tables.specs.declared.types.Types.{Types}
use Rattle.tree.specs.Tree.{Trees, none, node, size, levels, node_nesting, first, after, first_tree}
use Rattle.tree.proofs.Trees.{tells, trees_even, tree_some, first_none, first_after, first_even, after_drop, levels_length, more_length}
use Rattle.marks.specs.Marked.{type_in, size_in, mark_of, marked}
use Rattle.marks.specs.Post.{NestingOf}
use Rattle.marks.proofs.Marks.{mark_type, marked_length, marked_drop, first_more}
use Rattle.marks.proofs.Marking.{type_there, level_at, first_one, Child, child_of}
use Rattle.marks.proofs.Spans.{suffix_size, first_size}
use Rattle.marks.proofs.Same.{whole_first}

-- trees that are stepped over
at_after : {g : Grammar} {xs : List ℕ} {u : Words} → Trees g xs u → (b : Words) (ls ks : List ℕ) (j : ℕ) → length ls ≡ length xs → node_nesting g (u ++ b) (ls ++ ks) (length u + j) ≡ node_nesting g b ks j
unfolding node_nesting
at_after none b [] ks j h = let z : 0 + j ≡ j = omega arith in rw z
at_after none b (l ∷ ls) ks j h = absurd (omega arith)
at_after (node fine q) b [] ks j h = absurd (omega arith)
at_after {g} (node {t} {v} {ts} {ws} fine q) b (l ∷ ls) ks j h =
    let z : length (t ∷ v ∷ ws) + j ≡ suc (suc (length ws + j)) = omega arith in
    rw (z, ← append_assoc (levels g t v l) ls ks) (at_after q b (levels g t v l ++ ls) ks j (more_length g t v l ls ts (omega arith)))

-- where the loop is: the trees of a node's children from i on stand at p, and q lies in one of them. `deep` and `types` are the children's nestings and types
record Down (g : Grammar) (ws : Words) (q p above : ℕ) (sequence : Bool) (i : ℕ) : Type 0 where
  half : ℕ
  even : p ≡ 2 * half
  low : p ≤ q
  deep : List ℕ
  types : List ℕ
  rest : List ℕ
  deeper : List ℕ
  same : length deep ≡ length types
  others : length deeper ≡ length rest
  trees : Trees g (drop i types ++ rest) (drop p ws)
  is : node_nesting g ws (1 ∷ []) q ≡ node_nesting g (drop p ws) (drop i deep ++ deeper) (q - p)
  inside : q - p < length (first g (drop p ws) (length (drop i types)))
  level : (j : ℕ) → j < length deep → get_or deep j 0 ≡ above + pick (and sequence (eqb j 1)) 0 1

down_start : (g : Grammar) (t : ℕ) (ws : Words) (q : ℕ) → Trees g (t ∷ []) ws → q < length ws → Down g ws q 0 0 false 0
down_start g t ws q r h = record {
  half = 0;
  even = omega arith;
  low = omega arith;
  deep = 1 ∷ [];
  types = t ∷ [];
  rest = [];
  deeper = [];
  same = refl;
  others = refl;
  trees = r;
  is = let z : q - 0 ≡ q = omega arith in rw z;
  inside = omega (arith, ap length (whole_first ws r));
  level = λ j l. one j l;
}
  where
    one : (j : ℕ) → j < 1 → ◌≡◌ {A = ℕ} (get_or (1 ∷ []) j 0) 1
    one zero l = refl
    one (suc j) l = absurd (omega arith)

module _ (g : Grammar) (ws : Words) (q p above : ℕ) (sequence : Bool) (i : ℕ) (d : Down g ws q p above sequence i) (small : size ws ≤ 2048) (few : length g ≤ 64) where
  abbrev x : Words
  x = drop p ws

  some_child : i < length d.types
  some_child = go (length (drop i d.types)) refl
    where
      go : (n : ℕ) → length (drop i d.types) ≡ n → i < length d.types
      go zero e = let y : first g x (length (drop i d.types)) ≡ [] = rw e (first_none g x) in absurd (omega (arith, d.inside, ap length y))
      go (suc n) e = omega (arith, length-drop i d.types)

  abbrev c : ℕ
  c = get_or d.types i 0

  abbrev m : ℕ
  m = get_or d.deep i 0

  due : drop i d.types ≡ c ∷ drop (i + 1) d.types
  due = drop-cons d.types i 0 some_child ∙ rw add-one

  deep_due : drop i d.deep ≡ m ∷ drop (i + 1) d.deep
  deep_due = drop-cons d.deep i 0 (omega (arith, some_child, d.same)) ∙ rw add-one

  here : Trees g (c ∷ (drop (i + 1) d.types ++ d.rest)) x
  here = rw due at d.trees

  node_level : m ≡ above + pick (and sequence (eqb i 1)) 0 1
  node_level = d.level i (omega (arith, some_child, d.same))

  child : (w : ℕ) → w ≡ get_or (marked g ws) p 0 → Child g c (drop (i + 1) d.types ++ d.rest) x w
  child w e =
      let a = first_size g x 1 in
      let b = suffix_size ws d.half p d.even in
      child_of g c (drop (i + 1) d.types ++ d.rest) x w few (omega arith) here (e ∙ marked_drop g ws d.half p d.even)

  is_here : node_nesting g ws (1 ∷ []) q ≡ node_nesting g x (m ∷ (drop (i + 1) d.deep ++ d.deeper)) (q - p)
  is_here = rw deep_due at d.is

  pair : x ≡ get_or ws p 0 ∷ get_or ws (p + 1) 0 ∷ drop (p + 2) ws
  pair = drop_pair ws p (omega (arith, ap length (sym (first_after g x (length (drop i d.types)))), length-append (first g x (length (drop i d.types))) (after g x (length (drop i d.types))), d.inside, length-drop p ws, trees_even d.trees))

  -- there is a node
  node_there : (w : ℕ) → w ≡ get_or (marked g ws) p 0 → 1 ≤ size_in w
  node_there w e = omega (arith, (child w e).counted, tree_some (first_tree g x) (child w e).tree)

  -- q lies behind the first tree
  skip : (w n : ℕ) → w ≡ get_or (marked g ws) p 0 → n ≡ size_in w → p + 2 * n ≤ q → Down g ws q (p + 2 * n) above sequence (i + 1)
  skip w n ew en over =
      let y = child w ew in
      let len : length (first_tree g x) ≡ 2 * n = omega (arith, first_even g x 1, y.counted) in
      let on : after g x 1 ≡ drop (p + 2 * n) ws = after_drop g x 1 ∙ drop-drop (length (first_tree g x)) p ws ∙ ap (λ k. drop (p + k) ws) len in
      let far : q - p ≡ length (first_tree g x) + (q - (p + 2 * n)) = omega arith in
      let step : node_nesting g (first_tree g x ++ after g x 1) ((m ∷ []) ++ (drop (i + 1) d.deep ++ d.deeper)) (length (first_tree g x) + (q - (p + 2 * n))) ≡ node_nesting g (after g x 1) (drop (i + 1) d.deep ++ d.deeper) (q - (p + 2 * n)) =
      at_after y.tree (after g x 1) (m ∷ []) (drop (i + 1) d.deep ++ d.deeper) (q - (p + 2 * n)) refl in
      let both : first g x (length (drop i d.types)) ≡ first_tree g x ++ first g (after g x 1) (length (drop (i + 1) d.types)) =
      first_more g x 1 (length (drop (i + 1) d.types)) (length (drop i d.types)) (omega (arith, ap length due)) in
      let more : length (first g (after g x 1) (length (drop (i + 1) d.types))) ≡ length (first g (drop (p + 2 * n) ws) (length (drop (i + 1) d.types))) = ap (λ l. length (first g l (length (drop (i + 1) d.types)))) on in
      record {
        half = d.half + n;
        even = omega (arith, d.even);
        low = over;
        deep = d.deep;
        types = d.types;
        rest = d.rest;
        deeper = d.deeper;
        same = d.same;
        others = d.others;
        trees = rw (← on) y.more;
        is = is_here ∙ ap (λ l. node_nesting g l (m ∷ (drop (i + 1) d.deep ++ d.deeper)) (q - p)) (sym (first_after g x 1)) ∙ ap (node_nesting g (first_tree g x ++ after g x 1) (m ∷ (drop (i + 1) d.deep ++ d.deeper))) far ∙ step
            ∙ ap (λ l. node_nesting g l (drop (i + 1) d.deep ++ d.deeper) (q - (p + 2 * n))) on;
        inside = omega (arith, ap length both, length-append (first_tree g x) (first g (after g x 1) (length (drop (i + 1) d.types))), d.inside, more, len);
        level = d.level;
      }

  -- q lies in the first tree, below its root
  enter : (w t : ℕ) (s : Bool) → w ≡ get_or (marked g ws) p 0 → t ≡ type_in w → s ≡ is_sequence g t → p < q → q < p + 2 * size_in w → (half_q : ℕ) → q ≡ 2 * half_q → Down g ws q (p + 2) m s 0
  unfolding node_nesting marked mark_of
  enter w t s ew et es before within hq eq =
      let y = child w ew in
      let t₀ = get_or ws p 0 in
      let v = get_or ws (p + 1) 0 in
      let z = drop (p + 2) ws in
      let r : Trees g (c ∷ (drop (i + 1) d.types ++ d.rest)) (t₀ ∷ v ∷ z) = rw pair at here in
      let k = tells r in
      let low : t₀ < 64 = rw k.0 (omega (arith, type_there g c v k.1)) in
      let is_type : t ≡ t₀ = et ∙ ap type_in (ew ∙ marked_drop g ws d.half p d.even ∙ ap (λ l. get_or (marked g l) 0 0) pair) ∙ mark_type t₀ _ _ low in
      let one : length (first_tree g x) ≡ suc (suc (length (first g z (length (children g t₀ v))))) = ap (λ l. length (first_tree g l)) pair ∙ ap length (first_one g t₀ v z) in
      let far : q - p ≡ suc (suc (q - (p + 2))) = omega (arith, d.even) in
      record {
        half = d.half + 1;
        even = omega (arith, d.even);
        low = omega (arith, d.even);
        deep = levels g t₀ v m;
        types = children g t₀ v;
        rest = drop (i + 1) d.types ++ d.rest;
        deeper = drop (i + 1) d.deep ++ d.deeper;
        same = levels_length g t₀ v m;
        others = omega (arith, length-append (drop (i + 1) d.types) d.rest, length-append (drop (i + 1) d.deep) d.deeper, length-drop (i + 1) d.types, length-drop (i + 1) d.deep, d.same, d.others);
        trees = rw k.0 k.2;
        is = is_here ∙ ap (λ l. node_nesting g l (m ∷ (drop (i + 1) d.deep ++ d.deeper)) (q - p)) pair ∙ ap (node_nesting g (t₀ ∷ v ∷ z) (m ∷ (drop (i + 1) d.deep ++ d.deeper))) far;
        inside = omega (arith, one, first_even g x 1, y.counted, d.even);
        level = λ j l. level_at g t₀ v m j (omega (arith, levels_length g t₀ v m)) ∙ ap (λ b. m + pick (and b (eqb j 1)) 0 1) (sym (es ∙ ap (is_sequence g) is_type));
      }

  -- q is reached
  reached : q ≤ p → m ≡ node_nesting g ws (1 ∷ []) q
  unfolding node_nesting
  reached h =
      let z : q - p ≡ 0 = omega arith in
      sym (is_here ∙ ap (λ l. node_nesting g l (m ∷ (drop (i + 1) d.deep ++ d.deeper)) (q - p)) pair ∙ ap (node_nesting g (get_or ws p 0 ∷ get_or ws (p + 1) 0 ∷ drop (p + 2) ws) (m ∷ (drop (i + 1) d.deep ++ d.deeper))) z)

-- THE LOOP, for every grammar whose heads these are

pub record Descent (types : Types) (part : Words) (q p above : ℕ) (sequence : Bool) (i : ℕ) : Type 0 where
  pub near : p ≤ q + 1
  pub few : i ≤ p
  pub shallow : above ≤ p
  run : (g : Grammar) (t : ℕ) (ws : Words) (half : ℕ) → Heads g types.heads → Trees g (t ∷ []) ws → size ws ≤ 2048 → part ≡ marked g ws → q ≡ 2 * half → Down g ws q p above sequence i

pub descent_start : (types : Types) (part : Words) (q : ℕ) → q < length part → Descent types part q 0 0 false 0
descent_start types part q h = record {
  near = omega arith;
  few = omega arith;
  shallow = omega arith;
  run = λ g t ws half hs r s e eq. down_start g t ws q r (omega (arith, ap length e, marked_length g ws));
}

module _ (types : Types) (part : Words) (q p above : ℕ) (sequence : Bool) (i : ℕ) (d : Descent types part q p above sequence i) where
  pub descent_none : (w n : ℕ) → w ≡ get_or part p 0 → n ≡ size_in w → n ≡ 0 → NestingOf types part q 0
  descent_none w n ew en z g t ws half hs r s e eq =
      absurd (omega (arith, node_there g ws q p above sequence i (d.run g t ws half hs r s e eq) s hs.types w (ew ∙ rw e)))

  pub descent_over : (w n : ℕ) → w ≡ get_or part p 0 → n ≡ size_in w → (n ≡ 0 → ⊥) → p + 2 * n ≤ q → Descent types part q (p + 2 * n) above sequence (i + 1)
  descent_over w n ew en some over = record {
    near = omega arith;
    few = go n some d.few;
    shallow = omega (arith, d.shallow);
    run = λ g t ws half hs r s e eq. skip g ws q p above sequence i (d.run g t ws half hs r s e eq) s hs.types w n (ew ∙ rw e) en over;
  }
    where
      go : (n : ℕ) → (n ≡ 0 → ⊥) → i ≤ p → i + 1 ≤ p + 2 * n
      go zero f h = absurd (f refl)
      go (suc n) f h = omega arith

  pub descent_into : (w n t l : ℕ) (s : Bool) → w ≡ get_or part p 0 → n ≡ size_in w → t ≡ type_in w → OfHeads types (λ g. s ≡ is_sequence g t) → p < q → q < p + 2 * n → l ≡ pick (and sequence (eqb i 1)) 0 1 → l ≤ 1
      → Descent types part q (p + 2) (above + l) s 0
  descent_into w n t l s ew en et es before within el low = record {
    near = omega arith;
    few = omega arith;
    shallow = omega (arith, d.shallow);
    run = λ g u ws half hs r sm e eq.
        let y = d.run g u ws half hs r sm e eq in
        let m = node_level g ws q p above sequence i y sm hs.types in
        rw (el, ← m) (enter g ws q p above sequence i y sm hs.types w t s (ew ∙ rw e) et (es g hs) before (omega arith) half eq);
  }

  pub descent_end : q ≤ p → (l : ℕ) → l ≡ pick (and sequence (eqb i 1)) 0 1 → NestingOf types part q (above + l)
  descent_end h l el g t ws half hs r s e eq =
      let y = d.run g t ws half hs r s e eq in
      rw (el, ← node_level g ws q p above sequence i y s hs.types) (reached g ws q p above sequence i y s hs.types h)

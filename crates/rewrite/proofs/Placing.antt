-- A tree put in the place of a node's: how many nodes the scope has then, and how deep it nests. Assumes nothing.
use Prim.Native.Nat.{ℕ, zero, suc, ◌+◌, ◌-◌, ◌*◌, ◌%◌, ◌<◌, ◌≤◌}
use mathlib.Core.Path.{◌≡◌, refl, sym, ap, ◌∙◌}
use mathlib.Core.List.{List, [], ◌∷◌, ◌++◌}
use mathlib.Core.Bool.{Bool, true, false}
use native.Mathlib.Omega.{arith}
use lib.ListN.{length, get_or, take, drop, take-append-drop}
use lib.Seq.{get_or-drop, get_or-take, length-take-le}
use lib.Dec.{leb, ltb}
use borrow.Author.Tests.{le-leb, lt-leb, leb-true, leb-false, lt-ltb, le-ltb, ltb-true, ltb-false}
use Rattle.std.specs.Prelude.{Result, Ok, Err}
use Rattle.words.specs.Reader.{Words}
use Rattle.grammar.specs.Grammar.{Grammar}
use Rattle.tables.specs.Tables.{Heads}
use Rattle.tables.specs.Types.{TypesOf}
use Rattle.tables.specs.declared.types.Types.{Types}
use Rattle.tree.specs.Tree.{Trees, Tree, size, nesting_from, nesting, node_nesting, after, first_tree, put}
use Rattle.tree.proofs.Trees.{tells, trees_even, first_after}
use Rattle.tree.proofs.Places.{node_at, spliced, subtree_size, splice_trees, splice_size, splice_nesting, node_nested}
use Rattle.marks.specs.Marked.{size_in, nesting_in, marked}
use Rattle.marks.specs.Post.{span, NestingOf, Ready, InPlace}
use Rattle.marks.proofs.Marks.{marked_drop, tree_deeper}
use Rattle.marks.proofs.Marking.{first_one, Child, child_of}
use Rattle.marks.proofs.Spans.{suffix_some, suffix_size, first_size}
use Rattle.rewrite.specs.Arena.{Standing, TooDeep, Replaced}
use Rattle.rewrite.proofs.Closing.{nesting_there}

-- a tree that stands at the nesting k nests no deeper than so much exactly if k and its own nesting are at most one more
leb_deeper : {g : Grammar} {t : ℕ} (ws : Words) → Trees g (t ∷ []) ws → (k most : ℕ) → 1 ≤ k → leb (nesting_from g ws (k ∷ [])) most ≡ leb (k + nesting g ws) (most + 1)
leb_deeper {g} ws r zero most h = absurd (omega arith)
leb_deeper {g} ws r (suc d) most h =
    let z : suc d ≡ 1 + d = omega arith in
    let e : nesting_from g ws (suc d ∷ []) ≡ nesting g ws + d = rw z (tree_deeper ws r d) in
    go (leb (suc d + nesting g ws) (most + 1)) refl e
  where
    go : (b : Bool) → leb (suc d + nesting g ws) (most + 1) ≡ b → nesting_from g ws (suc d ∷ []) ≡ nesting g ws + d → leb (nesting_from g ws (suc d ∷ [])) most ≡ b
    go true f e = le-leb (nesting_from g ws (suc d ∷ [])) most (omega (arith, leb-true (suc d + nesting g ws) (most + 1) f))
    go false f e = lt-leb (nesting_from g ws (suc d ∷ [])) most (omega (arith, leb-false (suc d + nesting g ws) (most + 1) f))

-- what the mark of a scope's node i says
pub child_there : (g : Grammar) (t i : ℕ) (scope : Words) → i < size scope → Trees g (t ∷ []) scope → (w : Words) (base n : ℕ) → length g ≤ 64 → size scope ≡ n → n ≤ 2048 → take (2 * n) (drop base w) ≡ marked g scope
    → (c : ℕ) × (cs : List ℕ) × Child g c cs (drop (2 * i) scope) (get_or w (base + 2 * i) 0)
child_there g t i scope inside tree w base n l s few e =
    let q = suffix_some scope tree i (2 * i) refl (omega (arith, trees_even tree)) in
    (q.0, q.1, child_of g q.0 q.1 (drop (2 * i) scope) (get_or w (base + 2 * i) 0) l (omega (arith, first_size g (drop (2 * i) scope) 1, suffix_size scope i (2 * i) refl)) q.2 here)
  where
    here : get_or w (base + 2 * i) 0 ≡ get_or (marked g (drop (2 * i) scope)) 0 0
    here = sym (get_or-drop base w (2 * i) 0) ∙ sym (get_or-take (2 * n) (drop base w) (2 * i) 0 (omega arith)) ∙ ap (λ k. get_or k (2 * i) 0) e ∙ marked_drop g scope i (2 * i) refl

-- NODE i OF A SCOPE, and a tree of its type in its place
module _ (g : Grammar) (t target i : ℕ) (scope ws : Words) (inside : i < size scope) (tree : Trees g (t ∷ []) scope) (old : Trees g (target ∷ []) (first_tree g (drop (2 * i) scope))) (new : Trees g (target ∷ []) ws) where
  abbrev u : ℕ
  u = get_or scope (2 * i) 0

  abbrev v : ℕ
  v = get_or scope (2 * i + 1) 0

  abbrev b : Words
  b = drop (2 * i + 2) scope

  near : 2 * i < length scope
  near = omega (arith, trees_even tree)

  there : (drop (2 * i) scope ≡ u ∷ v ∷ b) × (scope ≡ take (2 * i) scope ++ (u ∷ v ∷ b)) × (length (take (2 * i) scope) % 2 ≡ 0)
  there = node_at scope tree (2 * i) (omega arith) near

  type_is : u ≡ target
  type_is = (tells (rw (there.0, first_one g u v b) at old)).0

  new_there : Trees g (u ∷ []) ws
  new_there = rw type_is new

  put_is : put g scope (2 * i) ws ≡ spliced g (take (2 * i) scope) (u ∷ v ∷ b) ws
  unfolding put
  put_is = ap (λ r. take (2 * i) scope ++ (ws ++ after g r 1)) there.0

  put_trees : Trees g (t ∷ []) (put g scope (2 * i) ws)
  put_trees = rw put_is (splice_trees g scope (take (2 * i) scope) u v b there.1 there.2 tree ws new_there)

  put_size : size scope + size ws ≡ size (put g scope (2 * i) ws) + size (first_tree g (drop (2 * i) scope))
  put_size = rw (put_is, there.0) (splice_size g scope (take (2 * i) scope) u v b there.1 there.2 ws new_there)

  old_small : size (first_tree g (drop (2 * i) scope)) ≤ size scope
  old_small = rw there.0 (subtree_size g scope (take (2 * i) scope) u v b there.1 there.2)

  put_nesting : (most : ℕ) → nesting g scope ≤ most → leb (nesting g (put g scope (2 * i) ws)) most ≡ leb (node_nesting g scope (1 ∷ []) (2 * i) + nesting g ws) (most + 1)
  put_nesting most h =
      let a = take (2 * i) scope in
      let l : length a ≡ 2 * i = length-take-le (2 * i) scope (omega (arith, near)) in
      let k : 1 ≤ node_nesting g scope (1 ∷ []) (2 * i) = rw l at (node_nested g scope a u v b there.1 there.2 tree) in
      ap (λ x. leb (nesting g x) most) put_is ∙ splice_nesting g scope a u v b there.1 there.2 tree ws new_there most h ∙ ap (λ n. leb (nesting_from g ws (node_nesting g scope (1 ∷ []) n ∷ [])) most) l
      ∙ leb_deeper ws new (node_nesting g scope (1 ∷ []) (2 * i)) most k

-- the node's own tree in its place
put_own : (g : Grammar) (scope : Words) (p : ℕ) → put g scope p (first_tree g (drop p scope)) ≡ scope
unfolding put
put_own g scope p = ap (λ l. take p scope ++ l) (first_after g (drop p scope) 1) ∙ take-append-drop p scope

-- a tree that nests no deeper than the node's
put_flat : (g : Grammar) (t target i : ℕ) (scope ws : Words) → i < size scope → Trees g (t ∷ []) scope → Trees g (target ∷ []) (first_tree g (drop (2 * i) scope)) → Trees g (target ∷ []) ws
    → (most : ℕ) → nesting g scope ≤ most → nesting g ws ≤ nesting g (first_tree g (drop (2 * i) scope)) → nesting g (put g scope (2 * i) ws) ≤ most
put_flat g t target i scope ws inside tree old new most flat less =
    let own = first_tree g (drop (2 * i) scope) in
    let level = node_nesting g scope (1 ∷ []) (2 * i) in
    let was : leb (level + nesting g own) (most + 1) ≡ true =
    sym (put_nesting g t target i scope own inside tree old old most flat) ∙ ap (λ l. leb (nesting g l) most) (put_own g scope (2 * i)) ∙ le-leb (nesting g scope) most flat in
    let fits = leb-true (level + nesting g own) (most + 1) was in
    leb-true (nesting g (put g scope (2 * i) ws)) most (put_nesting g t target i scope ws inside tree old new most flat ∙ le-leb (level + nesting g ws) (most + 1) (omega arith))

-- TOO DEEP

ltb_as : (a b m n : ℕ) → leb a m ≡ leb b n → ltb m a ≡ ltb n b
ltb_as a b m n e = go (leb b n) refl
  where
    go : (t : Bool) → leb b n ≡ t → ltb m a ≡ ltb n b
    go true h = le-ltb m a (leb-true a m (e ∙ h)) ∙ sym (le-ltb n b (leb-true b n h))
    go false h = lt-ltb m a (leb-false a m (e ∙ h)) ∙ sym (lt-ltb n b (leb-false b n h))

module _ (types : Types) (w : Words) (base n i from deepest : ℕ) (inside : i < n) (ed : deepest ≡ nesting_in (get_or w from 0)) where
  -- the new tree nests as deep as its mark says
  new_nests : (g : Grammar) (target m : ℕ) (ws : Words) → Heads g types.heads → Standing g w from m target ws → deepest ≡ nesting g ws
  new_nests g target m ws hs x =
      let few = x.tree.nodes in
      ed ∙ nesting_there w ws from m hs.types x.tree.typed x.nodes (omega (arith, x.nodes)) x.words

  -- no deeper than the old one
  pub deep_not : (before : ℕ) → before ≡ nesting_in (get_or w (base + 2 * i) 0) → deepest ≤ before → TooDeep types w base n i from false
  deep_not before eb less g t target m scope ws hs s x o =
      let few = s.tree.nodes in
      let in_scope : i < size scope = omega (arith, s.nodes) in
      let old = child_there g t i scope in_scope s.tree.typed w base n hs.types s.nodes (omega (arith, s.nodes)) s.words in
      sym (le-ltb 64 (nesting g (put g scope (2 * i) ws)) (put_flat g t target i scope ws in_scope s.tree.typed o.typed x.tree.typed 64 s.tree.nested
      (omega (arith, new_nests g target m ws hs x, eb, old.2.nested))))

  -- by the node's nesting
  pub deep_by : (above : ℕ) → NestingOf types (span w base (base + 2 * n)) (base + 2 * i - base) above → TooDeep types w base n i from (ltb 65 (above + deepest))
  deep_by above nests g t target m scope ws hs s x o =
      let z : base + 2 * n - base ≡ 2 * n = omega arith in
      let y : base + 2 * i - base ≡ 2 * i = omega arith in
      let e : above ≡ node_nesting g scope (1 ∷ []) (2 * i) = rw y at (nests g t scope i hs s.tree.typed s.tree.nodes (rw z s.words) y) in
      sym (ltb_as (nesting g (put g scope (2 * i) ws)) (above + deepest) 64 65 (put_nesting g t target i scope ws (omega (arith, s.nodes)) s.tree.typed o.typed x.tree.typed 64 s.tree.nested
      ∙ rw (e, new_nests g target m ws hs x)))

-- THE ANSWERS

ok_is : {a b : ℕ} → ◌≡◌ {A = Result ℕ ℕ} (Ok a) (Ok b) → a ≡ b
ok_is e = cc

no_ok : {a b : ℕ} → ◌≡◌ {A = Result ℕ ℕ} (Err a) (Ok b) → ⊥
no_ok e = cc

module _ (types : Types) (w : Words) (base n i from m k : ℕ) (inside : i < n) (ek : k ≡ size_in (get_or w (base + 2 * i) 0)) where
  module _ (g : Grammar) (t target : ℕ) (scope ws : Words) (tb : TypesOf g types) (s : Standing g w base n t scope) (x : Standing g w from m target ws) (o : Tree g target (first_tree g (drop (2 * i) scope))) where
    in_scope : i < size scope
    in_scope = omega (arith, s.nodes)

    -- the node's tree, and the nodes afterwards
    old_is : k ≡ size (first_tree g (drop (2 * i) scope))
    old_is =
        let few = s.tree.nodes in
        ek ∙ (child_there g t i scope in_scope s.tree.typed w base n tb.heads_of.types s.nodes (omega (arith, s.nodes)) s.words).2.counted

    old_fits : k ≤ n
    old_fits = omega (arith, old_is, s.nodes, old_small g t target i scope ws in_scope s.tree.typed o.typed x.tree.typed)

    nodes_are : size (put g scope (2 * i) ws) ≡ n - k + m
    nodes_are = omega (arith, old_is, old_fits, s.nodes, x.nodes, put_size g t target i scope ws in_scope s.tree.typed o.typed x.tree.typed)

  pub replaced_none : n < k → Replaced types w w base n i from m (Ok n)
  replaced_none h = record {
    long = refl;
    most = λ e. omega (arith, ok_is e);
    few = λ e l. omega (arith, ok_is e);
    replaced = λ g t target scope ws tb s x o. absurd (omega (arith, old_fits g t target scope ws tb s x o));
  }

  pub replaced_many : 2048 < n - k + m → Replaced types w w base n i from m (Err 42)
  replaced_many h = record {
    long = refl;
    most = λ e. absurd (no_ok e);
    few = λ e. absurd (no_ok e);
    replaced = λ g t target scope ws tb s x o. (rw (nodes_are g t target scope ws tb s x o, lt-leb (n - k + m) 2048 h), refl);
  }

  module _ (few : n - k + m ≤ 2048) (deep : Bool) (is : TooDeep types w base n i from deep) where
    pub replaced_deep : deep ≡ true → Replaced types w w base n i from m (Err 43)
    replaced_deep e = record {
      long = refl;
      most = λ e. absurd (no_ok e);
      few = λ e. absurd (no_ok e);
      replaced = λ g t target scope ws tb s x o.
          let over = ltb-true 64 (nesting g (put g scope (2 * i) ws)) (sym (is g t target m scope ws tb.heads_of s x o) ∙ e) in
          (rw (nodes_are g t target scope ws tb s x o, le-leb (n - k + m) 2048 few, lt-leb (nesting g (put g scope (2 * i) ws)) 64 over), refl);
    }

    pub replaced_done : deep ≡ false → (w' : Words) → InPlace types w w' base (base + 2 * i) (base + 2 * n) from (2 * m) → Replaced types w w' base n i from m (Ok (n - k + m))
    replaced_done e w' p = record {
      long = p.long;
      most = λ e. omega (arith, ok_is e);
      few = λ e l. omega (arith, ok_is e);
      replaced = λ g t target scope ws tb s x o.
          let flat = ltb-false 64 (nesting g (put g scope (2 * i) ws)) (sym (is g t target m scope ws tb.heads_of s x o) ∙ e) in (
            rw (nodes_are g t target scope ws tb s x o, le-leb (n - k + m) 2048 few, le-leb (nesting g (put g scope (2 * i) ws)) 64 flat),
            (placed g t target scope ws tb s x o flat).0,
            (placed g t target scope ws tb s x o flat).1,
          );
    }
      where
        placed : (g : Grammar) (t target : ℕ) (scope ws : Words) → TypesOf g types → Standing g w base n t scope → Standing g w from m target ws → Tree g target (first_tree g (drop (2 * i) scope))
            → nesting g (put g scope (2 * i) ws) ≤ 64 → (take base w' ≡ take base w) × Standing g w' base (n - k + m) t (put g scope (2 * i) ws)
        placed g t target scope ws tb s x o flat =
            let z : base + 2 * n - base ≡ 2 * n = omega arith in
            let y : base + 2 * i - base ≡ 2 * i = omega arith in
            let l : from + 2 * m - from ≡ 2 * m = omega arith in
            let trees = put_trees g t target i scope ws (in_scope g t target scope ws tb s x o) s.tree.typed o.typed x.tree.typed in
            let nodes = nodes_are g t target scope ws tb s x o in
            let ready : Ready g w base (base + 2 * i) (base + 2 * n) from (2 * m) t scope ws = record {
              tree = s.tree.typed;
              few = s.tree.nodes;
              long = omega (arith, trees_even s.tree.typed, s.nodes);
              stands = rw z s.words;
              half = i;
              even = y;
              type = target;
              new = x.tree.typed;
              new_long = omega (arith, trees_even x.tree.typed, x.nodes);
              new_stands = rw l x.words;
              fits = rw y trees;
              small = rw y (omega arith);
            } in
            let done = p.in_place g t scope ws tb ready in
            let there : span w' base (base + length (put g scope (2 * i) ws)) ≡ marked g (put g scope (2 * i) ws) = rw y at done.1 in
            let e : base + length (put g scope (2 * i) ws) - base ≡ 2 * (n - k + m) = omega (arith, trees_even trees) in
            (done.0, record { tree = record { typed = trees; nodes = omega arith; nested = flat }; nodes = nodes; words = ap (λ j. take j (drop base w')) (sym e) ∙ there })

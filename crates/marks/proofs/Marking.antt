-- The loop over a node's children that makes its mark. Assumes nothing.
use Prim.Native.Nat.{ℕ, zero, suc, ◌+◌, ◌-◌, ◌*◌, ◌%◌, ◌^◌, ◌<◌, ◌≤◌, max}
use mathlib.Core.Path.{◌≡◌, refl, sym, ap, ap₂, ◌∙◌}
use mathlib.Core.List.{List, [], ◌∷◌, ◌++◌, map, append-nil}
use mathlib.Core.Bool.{Bool, true, false}
use native.Mathlib.Omega.{arith}
use native.Mathlib.Numerals.{add-one}
use lib.ListN.{length, get_or, drop, length-drop}
use lib.Seq.{drop-cons, drop-drop}
use lib.Dec.{eqb, ltb}
use borrow.Author.Tests.{ltb-true}
use Rattle.words.specs.Reader.{Words, pick, and}
use Rattle.grammar.specs.Grammar.{Kind, token, opt, sequence, forms, Grammar}
use Rattle.grammar.specs.Kinds.{kind_of, allows, allowed, children_of, children, is_sequence_kind, is_sequence}
use Rattle.tables.specs.Types.{OfHeads, TypesOf, Counted}
use Rattle.tables.specs.declared.types.Types.{Types}
use Rattle.tables.proofs.Lookups.{no_kind}
use Rattle.tree.specs.Tree.{Trees, size, levels_of, levels, nesting_from, nesting, first, after, first_tree}
use Rattle.tree.proofs.Trees.{tells, split, first_none, first_even, after_drop, levels_length, nesting_append, size_append}
use Rattle.marks.specs.Marked.{mark, type_in, size_in, nesting_in, mark_of, marked}
use Rattle.marks.specs.Post.{MarkMade}
use Rattle.marks.proofs.Marks.{mark_type, mark_size, mark_nesting, marked_drop, first_more, tree_deeper, nesting_size}

-- a node's type is there
pub type_there : (g : Grammar) (t v : ℕ) → allowed g t v ≡ true → t < length g
unfolding allowed allows
type_there g t v a = go (length g - t) refl
  where
    go : (d : ℕ) → length g - t ≡ d → t < length g
    go zero e = let z : ltb v 0 ≡ true = rw (no_kind g t (omega arith)) at a in absurd (omega (arith, ltb-true v 0 z))
    go (suc d) e = omega arith

-- HOW MUCH DEEPER EACH CHILD NESTS

forms_level : (es : List ℕ) (k i : ℕ) → i < length es → get_or (map (λ e. suc k) es) i 0 ≡ suc k
forms_level [] k i h = absurd (omega arith)
forms_level (e ∷ es) k zero h = refl
forms_level (e ∷ es) k (suc i) h = forms_level es k i (omega arith)

kind_level : (kd : Kind) (t v k i : ℕ) → i < length (children_of kd t v) → get_or (levels_of kd v k) i 0 ≡ k + pick (and (is_sequence_kind kd) (eqb i 1)) 0 1
unfolding levels_of children_of is_sequence_kind
kind_level (token c) t v k i h = absurd (omega arith)
kind_level (opt e) t v k i h = go (eqb v 0) i h
  where
    go : (b : Bool) (i : ℕ) → i < length (pick b (e ∷ []) []) → get_or (pick b (suc k ∷ []) []) i 0 ≡ k + 1
    go true zero h = omega arith
    go true (suc i) h = absurd (omega arith)
    go false i h = absurd (omega arith)
kind_level (sequence style e) t v k i h = go (eqb v 0) i h
  where
    go : (b : Bool) (i : ℕ) → i < length (pick b (e ∷ t ∷ []) []) → get_or (pick b (suc k ∷ k ∷ []) []) i 0 ≡ k + pick (eqb i 1) 0 1
    go true zero h = let z : ◌≡◌ {A = ℕ} (pick (eqb 0 1) 0 1) 1 = refl in omega arith
    go true (suc zero) h = let z : ◌≡◌ {A = ℕ} (pick (eqb 1 1) 0 1) 0 = refl in omega arith
    go true (suc (suc i)) h = absurd (omega arith)
    go false i h = absurd (omega arith)
kind_level (forms fs) t v k i h = let z = forms_level (get_or fs v []) k i h in omega arith

pub level_at : (g : Grammar) (t v k i : ℕ) → i < length (children g t v) → get_or (levels g t v k) i 0 ≡ k + pick (and (is_sequence g t) (eqb i 1)) 0 1
unfolding levels children is_sequence
level_at g t v k i h = kind_level (kind_of g t) t v k i h

-- THE LOOP

-- what is done, and the definition at what is left: the trees of the children from i on stand at `at`
record Run (g : Grammar) (t v : ℕ) (ws : Words) (ts : List ℕ) (n k at i : ℕ) : Type 0 where
  trees : Trees g (drop i (children g t v) ++ ts) (drop at ws)
  sizes : n + size (first g (drop at ws) (length (drop i (children g t v)))) ≡ size (first_tree g (t ∷ v ∷ ws))
  nests : max k (nesting_from g (first g (drop at ws) (length (drop i (children g t v)))) (drop i (levels g t v 1))) ≡ nesting g (first_tree g (t ∷ v ∷ ws))
  half : ℕ
  even : at ≡ 2 * half

pub first_one : (g : Grammar) (t v : ℕ) (ws : Words) → first_tree g (t ∷ v ∷ ws) ≡ t ∷ v ∷ first g ws (length (children g t v))
unfolding first
first_one g t v ws = let z : length (children g t v) + 0 ≡ length (children g t v) = omega arith in rw z

run_start : (g : Grammar) (t v : ℕ) (ws : Words) (ts : List ℕ) → Trees g (children g t v ++ ts) ws → Run g t v ws ts 1 1 0 0
unfolding size nesting nesting_from
run_start g t v ws ts r = record {
  trees = r;
  sizes = rw (first_one g t v ws) (omega arith);
  nests = rw (first_one g t v ws, append-nil);
  half = 0;
  even = refl;
}

-- the first tree of some trees: its size, its nesting, and what follows it
pub record Child (g : Grammar) (c : ℕ) (rest : List ℕ) (x : Words) (w : ℕ) : Type 0 where
  pub root : type_in w ≡ c
  pub counted : size_in w ≡ size (first_tree g x)
  pub nested : nesting_in w ≡ nesting g (first_tree g x)
  pub tree : Trees g (c ∷ []) (first_tree g x)
  pub more : Trees g rest (after g x 1)

pub child_of : (g : Grammar) (c : ℕ) (rest : List ℕ) (x : Words) (w : ℕ) → length g ≤ 64 → size (first_tree g x) < 4096 → Trees g (c ∷ rest) x → w ≡ get_or (marked g x) 0 0 → Child g c rest x w
unfolding marked mark_of
child_of g c rest [] w l s r e = absurd (tells r)
child_of g c rest (a ∷ []) w l s r e = absurd (tells r)
child_of g c rest (a ∷ b ∷ x) w l s r e =
    let q = tells r in
    let y = split (a ∷ b ∷ x) (c ∷ []) rest r in
    let low : a < 64 = rw q.0 (omega (arith, type_there g c b q.1)) in
    record {
      root = rw e (mark_type a (size (first_tree g (a ∷ b ∷ x))) (nesting g (first_tree g (a ∷ b ∷ x))) low) ∙ q.0;
      counted = rw e (mark_size a (size (first_tree g (a ∷ b ∷ x))) (nesting g (first_tree g (a ∷ b ∷ x))) low s);
      nested = rw e (mark_nesting a (size (first_tree g (a ∷ b ∷ x))) (nesting g (first_tree g (a ∷ b ∷ x))) low s);
      tree = y.front;
      more = y.back;
    }

run_step : (g : Grammar) (t v : ℕ) (ws : Words) (ts : List ℕ) (n k at i w d : ℕ) → Run g t v ws ts n k at i → i < length (children g t v) → length g ≤ 64 → size (first_tree g (t ∷ v ∷ ws)) ≤ 2048
    → w ≡ get_or (marked g ws) at 0 → d ≡ pick (and (is_sequence g t) (eqb i 1)) 0 1 → Run g t v ws ts (n + size_in w) (max k (nesting_in w + d)) (at + 2 * size_in w) (i + 1)
run_step g t v ws ts n k at i w d r h l s ew ed =
    stepped (child_of g c (cs ++ ts) x w l (omega (arith, shorter)) trees_here (ew ∙ here))
  where
    x : Words
    x = drop at ws

    c : ℕ
    c = get_or (children g t v) i 0

    cs : List ℕ
    cs = drop (i + 1) (children g t v)

    due : drop i (children g t v) ≡ c ∷ cs
    due = drop-cons (children g t v) i 0 h ∙ rw add-one

    k' : ℕ
    k' = get_or (levels g t v 1) i 0

    ls : List ℕ
    ls = drop (i + 1) (levels g t v 1)

    levels_due : drop i (levels g t v 1) ≡ k' ∷ ls
    levels_due = drop-cons (levels g t v 1) i 0 (omega (arith, levels_length g t v 1)) ∙ rw add-one

    trees_here : Trees g (c ∷ (cs ++ ts)) x
    trees_here = rw due at r.trees

    here : get_or (marked g ws) at 0 ≡ get_or (marked g x) 0 0
    here = marked_drop g ws r.half at r.even

    both : first g x (length (drop i (children g t v))) ≡ first_tree g x ++ first g (after g x 1) (length cs)
    both = rw due (first_more g x 1 (length cs) (suc (length cs)) (omega arith))

    size_both : size (first g x (length (drop i (children g t v)))) ≡ size (first_tree g x) + size (first g (after g x 1) (length cs))
    size_both = rw both (size_append (first_tree g x) (first g (after g x 1) (length cs)) (first_even g x 1))

    shorter : size (first_tree g x) ≤ 2048
    shorter = omega (arith, size_both, r.sizes)

    stepped : Child g c (cs ++ ts) x w → Run g t v ws ts (n + size_in w) (max k (nesting_in w + d)) (at + 2 * size_in w) (i + 1)
    stepped q =
        let len : length (first_tree g x) ≡ 2 * size_in w = first_even g x 1 ∙ ap (λ m. 2 * m) (sym q.counted) in
        let on : after g x 1 ≡ drop (at + 2 * size_in w) ws = after_drop g x 1 ∙ drop-drop (length (first_tree g x)) at ws ∙ ap (λ m. drop (at + m) ws) len in
        let lev : k' ≡ 1 + d = level_at g t v 1 i h ∙ ap (λ m. 1 + m) (sym ed) in
        let deep : nesting_from g (first_tree g x) (k' ∷ []) ≡ nesting_in w + d = ap (λ m. nesting_from g (first_tree g x) (m ∷ [])) lev ∙ tree_deeper (first_tree g x) q.tree d ∙ ap (λ m. m + d) (sym q.nested) in
        let nest : nesting_from g (first g x (length (drop i (children g t v)))) (drop i (levels g t v 1)) ≡ max (nesting_from g (first_tree g x) (k' ∷ [])) (nesting_from g (first g (after g x 1) (length cs)) ls) =
        ap₂ (nesting_from g) both levels_due ∙ nesting_append q.tree (first g (after g x 1) (length cs)) (k' ∷ []) ls refl in
        let m₁ : size (first g (after g x 1) (length cs)) ≡ size (first g (drop (at + 2 * size_in w) ws) (length cs)) = ap (λ l. size (first g l (length cs))) on in
        let m₂ : nesting_from g (first g (after g x 1) (length cs)) ls ≡ nesting_from g (first g (drop (at + 2 * size_in w) ws) (length cs)) ls = ap (λ l. nesting_from g (first g l (length cs)) ls) on in
        record {
          trees = rw (← on) q.more;
          sizes = omega (arith, size_both, r.sizes, q.counted, m₁);
          nests = omega (arith, nest, deep, r.nests, m₂);
          half = r.half + size_in w;
          even = omega (arith, r.even);
        }

-- with no child left
end_size : (g : Grammar) (t v : ℕ) (ws : Words) (n at c : ℕ) → c ≡ 0 → n + size (first g (drop at ws) c) ≡ size (first_tree g (t ∷ v ∷ ws)) → n ≡ size (first_tree g (t ∷ v ∷ ws))
unfolding size
end_size g t v ws n at c z e = let y : n + size [] ≡ size (first_tree g (t ∷ v ∷ ws)) = rw (z, first_none g (drop at ws)) at e in omega arith

end_nest : (g : Grammar) (t v : ℕ) (ws : Words) (k at c : ℕ) (ls : List ℕ) → c ≡ 0 → max k (nesting_from g (first g (drop at ws) c) ls) ≡ nesting g (first_tree g (t ∷ v ∷ ws)) → k ≡ nesting g (first_tree g (t ∷ v ∷ ws))
unfolding nesting_from
end_nest g t v ws k at c ls z e = let y : max k (nesting_from g [] ls) ≡ nesting g (first_tree g (t ∷ v ∷ ws)) = rw (z, first_none g (drop at ws)) at e in omega arith

made : (g : Grammar) (t v : ℕ) (ws : Words) (n k r : ℕ) → n ≡ size (first_tree g (t ∷ v ∷ ws)) → k ≡ nesting g (first_tree g (t ∷ v ∷ ws)) → r ≡ mark t n k → r ≡ mark_of g t v ws
unfolding mark_of
made g t v ws n k r en ek e = e ∙ rw (en, ek)

small_mark : (t n k : ℕ) → t < 64 → n ≤ 2048 → k ≤ 2048 → mark t n k < 2 ^ 32
unfolding mark
small_mark t n k h l j = omega arith

-- the loop, for every grammar whose tables these are
pub record Marking (types : Types) (t v : ℕ) (below : Words) (n k at i : ℕ) : Type 0 where
  pub small : n ≤ 1 + 4096 * i
  pub low : k ≤ 16384
  pub near : at ≤ 8192 * i
  run : (g : Grammar) (ws : Words) (ts : List ℕ) → TypesOf g types → below ≡ marked g ws → Trees g (children g t v ++ ts) ws → size (first_tree g (t ∷ v ∷ ws)) ≤ 2048 → Run g t v ws ts n k at i

pub marking_start : (types : Types) (t v : ℕ) (below : Words) → Marking types t v below 1 1 0 0
marking_start types t v below = record { small = omega arith; low = omega arith; near = omega arith; run = λ g ws ts tb e r s. run_start g t v ws ts r }

module _ (types : Types) (t v : ℕ) (below : Words) (n k at i : ℕ) (m : Marking types t v below n k at i) (count : ℕ) (seq : Bool) (counted : Counted types t v count) (is : OfHeads types (λ g. seq ≡ is_sequence g t)) where
  pub marking_more : i < count → (w n' k' d top : ℕ) → w ≡ get_or below at 0 → (n' ≡ size_in w) × (n' < 4096) → (k' ≡ nesting_in w) × (k' < 16384) → d ≡ pick (and seq (eqb i 1)) 0 1 → d ≤ 1 → top ≡ max k (k' + d)
      → Marking types t v below (n + n') top (at + 2 * n') (i + 1)
  marking_more h w n' k' d top ew en ek ed ld et = record {
    small = omega (arith, m.small, en.1);
    low = omega (arith, m.low, ek.1);
    near = omega (arith, m.near, en.1);
    run = λ g ws ts tb e r s.
        let z = run_step g t v ws ts n k at i w d (m.run g ws ts tb e r s) (omega (arith, counted.count g tb.rows_of_lem)) tb.heads_of.types s (ew ∙ rw e) (ed ∙ rw (is g tb.heads_of)) in
        rw (en.0, et, ek.0) z;
  }

  pub marking_end : count ≤ i → (r : ℕ) → (mark t n k < 2 ^ 32 → r ≡ mark t n k) → MarkMade types t v below r
  marking_end h r f g ws ts tb e trees a s =
      let z = m.run g ws ts tb e trees s in
      let over : length (drop i (children g t v)) ≡ 0 = omega (arith, length-drop i (children g t v), counted.count g tb.rows_of_lem) in
      made g t v ws n k r (end_size g t v ws n at (length (drop i (children g t v))) over z.sizes) (end_nest g t v ws k at (length (drop i (children g t v))) (drop i (levels g t v 1)) over z.nests)
      (f (small_mark t n k (omega (arith, type_there g t v a, tb.heads_of.types)) (omega (arith, end_size g t v ws n at (length (drop i (children g t v))) over z.sizes))
      (omega (arith, end_nest g t v ws k at (length (drop i (children g t v))) (drop i (levels g t v 1)) over z.nests, nesting_size g (first_tree g (t ∷ v ∷ ws))))))

-- THE SMALL FUNCTIONS

pub packed : (t n k w : ℕ) → w ≡ (t + 64 * n + 262144 * k) % 4294967296 → mark t n k < 2 ^ 32 → w ≡ mark t n k
unfolding mark
packed t n k w f h = omega arith

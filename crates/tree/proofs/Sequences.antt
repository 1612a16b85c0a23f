-- A sequence and its elements say the same, for any sequence type: typing, the way there and back, joins in words, sizes and nestings; the trees taken from a
-- tree. Assumes nothing.
use Prim.Native.Nat.{ℕ, zero, suc, ◌+◌, ◌*◌, ◌≤◌, ◌<◌, max}
use mathlib.Core.Path.{◌≡◌, refl, sym, ap, ap₂, ◌∙◌, subst}
use mathlib.Core.List.{List, [], ◌∷◌, ◌++◌, append_assoc, append-nil}
use mathlib.Core.Bool.{Bool, true, false}
use native.Mathlib.Omega.{arith}
use lib.ListN.{length, get_or, take, drop, length-append, take-append-drop}
use lib.Dec.{eqb}
use borrow.Author.Tests.{eq-eqb, eqb-true, ne_eqb, leb-true}
use Rattle.words.specs.Reader.{Words, pick}
use Rattle.grammar.specs.Grammar.{Kind, token, opt, sequence, forms, Grammar}
use Rattle.grammar.specs.Kinds.{kind_of, allows, allowed, children_of, children, is_sequence_kind, is_sequence}
use Rattle.tree.specs.Tree as T
use Rattle.tree.specs.Tree.{Trees, size, levels_of, levels, nesting_from, nesting, after, first_tree}
use Rattle.tree.specs.Sequences.{element_of, spine, sequence_of, elements_in, elements, EachTree, sizes, deepest, taken_from}
use Rattle.tree.proofs.Trees.{tells, none_left, child_trees, trees_append, trees_even, split, first_after, first_append, after_append, size_append, nesting_append, tree_some}

-- WHAT A SEQUENCE KIND SAYS OF A NODE

record SequenceKind (kd : Kind) (t : ℕ) : Type 0 where
  some : children_of kd t 0 ≡ get_or (children_of kd t 0) 0 0 ∷ t ∷ []
  none : (v : ℕ) → (v ≡ 0 → ⊥) → children_of kd t v ≡ []
  allows_some : allows kd 0 ≡ true
  allows_none : allows kd 1 ≡ true
  low : (v : ℕ) → allows kd v ≡ true → v ≤ 1
  some_levels : (k : ℕ) → levels_of kd 0 k ≡ suc k ∷ k ∷ []

a_sequence_lem : (kd : Kind) (t : ℕ) → is_sequence_kind kd ≡ true → SequenceKind kd t
unfolding is_sequence_kind children_of allows levels_of
a_sequence_lem (token c) t h = let z : ◌≡◌ {A = ℕ} 0 1 = cc in absurd (omega arith)
a_sequence_lem (opt e) t h = let z : ◌≡◌ {A = ℕ} 0 1 = cc in absurd (omega arith)
a_sequence_lem (sequence style e) t h = record {
  some = refl;
  none = λ v n. rw (ne_eqb v 0 n);
  allows_some = refl;
  allows_none = refl;
  low = λ v a. leb-true v 1 a;
  some_levels = λ k. refl;
}
a_sequence_lem (forms fs) t h = let z : ◌≡◌ {A = ℕ} 0 1 = cc in absurd (omega arith)

-- LISTS OF TREES

module _ (g : Grammar) (e : ℕ) where
  pub each_append : (xs ys : List Words) → EachTree g e xs → EachTree g e ys → EachTree g e (xs ++ ys)
  each_append [] ys p q = q
  each_append (x ∷ xs) ys p q = (p.0, each_append xs ys p.1 q)

  pub each_take : (n : ℕ) (xs : List Words) → EachTree g e xs → EachTree g e (take n xs)
  each_take zero xs p = tt
  each_take (suc n) [] p = tt
  each_take (suc n) (x ∷ xs) p = (p.0, each_take n xs p.1)

  pub each_drop : (n : ℕ) (xs : List Words) → EachTree g e xs → EachTree g e (drop n xs)
  each_drop zero xs p = p
  each_drop (suc n) [] p = tt
  each_drop (suc n) (x ∷ xs) p = each_drop n xs p.1

-- JOINS IN WORDS

-- the place of a sequence's end is its last node: to join is to put the other sequence in its place
pub spine_append : (t : ℕ) (es fs : List Words) → spine t (es ++ fs) ≡ spine t es ++ spine t fs
unfolding spine
spine_append t [] fs = refl
spine_append t (e ∷ es) fs = ap (λ l. t ∷ 0 ∷ l) (ap (λ l. e ++ l) (spine_append t es fs) ∙ sym (append_assoc e (spine t es) (spine t fs)))

pub sequence_append : (t : ℕ) (es fs : List Words) → sequence_of t (es ++ fs) ≡ spine t es ++ sequence_of t fs
unfolding sequence_of
sequence_append t es fs = ap (λ l. l ++ t ∷ 1 ∷ []) (spine_append t es fs) ∙ append_assoc (spine t es) (spine t fs) (t ∷ 1 ∷ [])

-- an element and the rest
pub sequence_more : (t : ℕ) (e : Words) (es : List Words) → sequence_of t (e ∷ es) ≡ t ∷ 0 ∷ (e ++ sequence_of t es)
unfolding sequence_of spine
sequence_more t e es = ap (λ l. t ∷ 0 ∷ l) (append_assoc e (spine t es) (t ∷ 1 ∷ []))

pub sequence_none : (t : ℕ) → sequence_of t [] ≡ t ∷ 1 ∷ []
unfolding sequence_of spine
sequence_none t = refl

-- SIZES

module _ (g : Grammar) (e t : ℕ) where
  -- two words a node: the elements' nodes, and one for each element
  pub spine_length : (es : List Words) → EachTree g e es → length (spine t es) ≡ 2 * (sizes es + length es)
  unfolding spine sizes
  spine_length [] p = omega arith
  spine_length (w ∷ es) p = omega (arith, spine_length es p.1, length-append w (spine t es), trees_even p.0)

  spine_size : (es : List Words) (x : Words) → EachTree g e es → size (spine t es ++ x) ≡ sizes es + length es + size x
  unfolding spine sizes size
  spine_size [] x p = omega arith
  spine_size (w ∷ es) x p =
      let a : size ((w ++ spine t es) ++ x) ≡ size w + size (spine t es ++ x) = rw append_assoc (size_append w (spine t es ++ x) (trees_even p.0)) in
      omega (arith, spine_size es x p.1)

  -- n elements make a sequence of their nodes and n + 1 of its own type
  pub sequence_size : (es : List Words) → EachTree g e es → size (sequence_of t es) ≡ suc (sizes es + length es)
  unfolding sequence_of size
  sequence_size es p = omega (arith, spine_size es (t ∷ 1 ∷ []) p)

pub sizes_append : (es fs : List Words) → sizes (es ++ fs) ≡ sizes es + sizes fs
unfolding sizes
sizes_append [] fs = omega arith
sizes_append (e ∷ es) fs = omega (arith, sizes_append es fs)

-- NESTINGS

pub deepest_least : (g : Grammar) (k : ℕ) (es : List Words) → k ≤ deepest g k es
unfolding deepest
deepest_least g k [] = omega arith
deepest_least g k (e ∷ es) = omega (arith, deepest_least g k es)

pub deepest_append : (g : Grammar) (k : ℕ) (es fs : List Words) → deepest g k (es ++ fs) ≡ max (deepest g k es) (deepest g k fs)
unfolding deepest
deepest_append g k [] fs = omega (arith, deepest_least g k fs)
deepest_append g k (e ∷ es) fs = omega (arith, deepest_append g k es fs)

deepest_drop : (g : Grammar) (k n : ℕ) (es : List Words) → deepest g k (drop n es) ≤ deepest g k es
deepest_drop g k n es = omega (arith, deepest_append g k (take n es) (drop n es), ap (deepest g k) (take-append-drop n es))

module _ (g : Grammar) (t : ℕ) (is : is_sequence g t ≡ true) where
  kind_of_lem : SequenceKind (kind_of g t) t
  unfolding is_sequence
  kind_of_lem = a_sequence_lem (kind_of g t) t is

  pub some_children : children g t 0 ≡ element_of g t ∷ t ∷ []
  unfolding children element_of
  some_children = kind_of_lem.some

  pub no_children : (v : ℕ) → (v ≡ 0 → ⊥) → children g t v ≡ []
  unfolding children
  no_children v n = kind_of_lem.none v n

  -- the value of a node of the type
  pub low_value : (v : ℕ) → allowed g t v ≡ true → v ≤ 1
  unfolding allowed
  low_value v h = kind_of_lem.low v h

  -- TYPING

  -- elements make a sequence
  pub sequence_trees : (es : List Words) → EachTree g (element_of g t) es → Trees g (t ∷ []) (sequence_of t es)
  unfolding allowed
  sequence_trees [] x = rw (sequence_none t) (T.node {ts = []} {ws = []} kind_of_lem.allows_none (rw (no_children 1 (λ e. omega arith)) T.none))
  sequence_trees (e ∷ es) x =
      rw (sequence_more t e es) (T.node {ts = []} {ws = e ++ sequence_of t es} kind_of_lem.allows_some (rw some_children (trees_append x.0 (sequence_trees es x.1))))

  -- .. and a sequence is made of its elements
  record Made (n : ℕ) (ws : Words) : Type 0 where
    each : EachTree g (element_of g t) (elements_in n g ws)
    same : sequence_of t (elements_in n g ws) ≡ ws

  made : (n : ℕ) (ws : Words) → size ws ≤ n → Trees g (t ∷ []) ws → Made n ws
  unfolding elements_in size
  made zero [] h r = absurd (tells r)
  made zero (w ∷ []) h r = absurd (tells r)
  made zero (w ∷ v ∷ ws) h r = absurd (omega arith)
  made (suc n) [] h r = absurd (tells r)
  made (suc n) (w ∷ []) h r = absurd (tells r)
  made (suc n) (w ∷ zero ∷ ws) h r =
      let c : Trees g (element_of g t ∷ t ∷ []) ws = subst (λ cs. Trees g cs ws) some_children (child_trees r) in
      let s = split ws (element_of g t ∷ []) (t ∷ []) c in
      let small : size (after g ws 1) ≤ n = omega (arith, size_append (first_tree g ws) (after g ws 1) (trees_even s.front), ap size (first_after g ws 1)) in
      let m = made n (after g ws 1) small s.back in
      record {
        each = (s.front, m.each);
        same = sequence_more t (first_tree g ws) (elements_in n g (after g ws 1)) ∙ ap₂ (λ a b. a ∷ 0 ∷ b) (sym (tells r).0) (ap (λ l. first_tree g ws ++ l) m.same ∙ first_after g ws 1);
      }
  made (suc n) (w ∷ suc v ∷ ws) h r =
      let one : v ≡ 0 = omega (arith, low_value (suc v) (tells r).1) in
      let x : ws ≡ [] = none_left ws (subst (λ cs. Trees g cs ws) (no_children (suc v) (λ e. omega arith)) (child_trees r)) in
      record { each = tt; same = sequence_none t ∙ rw (x, one, (tells r).0) }

  pub elements_typed : (ws : Words) → Trees g (t ∷ []) ws → EachTree g (element_of g t) (elements g ws)
  unfolding elements
  elements_typed ws r = (made (size ws) ws (omega arith) r).each

  pub elements_made : (ws : Words) → Trees g (t ∷ []) ws → sequence_of t (elements g ws) ≡ ws
  unfolding elements
  elements_made ws r = (made (size ws) ws (omega arith) r).same

  -- the elements of what elements make
  back : (n : ℕ) (es : List Words) → length es < n → EachTree g (element_of g t) es → elements_in n g (sequence_of t es) ≡ es
  unfolding elements_in
  back zero es h x = absurd (omega arith)
  back (suc n) [] h x = rw (sequence_none t)
  back (suc n) (e ∷ es) h x =
      rw (sequence_more t e es) (ap₂ (λ a b. a ∷ b) (first_append x.0 (sequence_of t es)) (ap (elements_in n g) (after_append x.0 (sequence_of t es)) ∙ back n es (omega arith) x.1))

  pub elements_back : (es : List Words) → EachTree g (element_of g t) es → elements g (sequence_of t es) ≡ es
  unfolding elements
  elements_back es x = back (size (sequence_of t es)) es (omega (arith, sequence_size g (element_of g t) t es x)) x

  -- NESTING: an element is one deeper than its sequence, the rest is not

  some_levels : (k : ℕ) → levels g t 0 k ≡ suc k ∷ k ∷ []
  unfolding levels
  some_levels k = kind_of_lem.some_levels k

  pub sequence_nesting : (k : ℕ) (es : List Words) → EachTree g (element_of g t) es → nesting_from g (sequence_of t es) (k ∷ []) ≡ deepest g k es
  unfolding nesting_from deepest
  sequence_nesting k [] x =
      let a : nesting_from g (t ∷ 1 ∷ []) (k ∷ []) ≡ k = omega arith in
      ap (λ ws. nesting_from g ws (k ∷ [])) (sequence_none t) ∙ a
  sequence_nesting k (e ∷ es) x =
      let s = sequence_of t es in
      let n : nesting_from g (e ++ s) (suc k ∷ k ∷ []) ≡ max (nesting_from g e (suc k ∷ [])) (nesting_from g s (k ∷ [])) = nesting_append x.0 s (suc k ∷ []) (k ∷ []) refl in
      let m : nesting_from g (e ++ s) (levels g t 0 k ++ []) ≡ nesting_from g (e ++ s) (suc k ∷ k ∷ []) = ap (λ ls. nesting_from g (e ++ s) (ls ++ [])) (some_levels k) in
      let a : nesting_from g (t ∷ 0 ∷ (e ++ s)) (k ∷ []) ≡ deepest g k (e ∷ es) = omega (arith, m, n, sequence_nesting k es x.1, deepest_least g k es) in
      ap (λ ws. nesting_from g ws (k ∷ [])) (sequence_more t e es) ∙ a

  -- a rest nests no deeper
  pub rest_nesting : (n : ℕ) (es : List Words) → EachTree g (element_of g t) es → nesting g (sequence_of t (drop n es)) ≤ nesting g (sequence_of t es)
  unfolding nesting
  rest_nesting n es x = omega (arith, sequence_nesting 1 es x, sequence_nesting 1 (drop n es) (each_drop g (element_of g t) n es x), deepest_drop g 1 n es)

-- TREES TAKEN

module _ (g : Grammar) (e : ℕ) where
  -- trees that are to be passed are passed
  pub taken_passed : {xs : List ℕ} {u : Words} → Trees g xs u → (k : ℕ) (ws : Words) → taken_from g e (length xs + k) (u ++ ws) ≡ taken_from g e k ws
  unfolding taken_from
  taken_passed T.none k ws =
      let l : 0 + k ≡ k = omega arith in
      ap (λ n. taken_from g e n ws) l
  taken_passed (T.node {t} {v} {ts} {ws = us} fine r) k ws =
      let a : length (t ∷ ts) + k ≡ suc (length ts + k) = omega arith in
      let l : length (children g t v) + (length ts + k) ≡ length (children g t v ++ ts) + k = omega (arith, length-append (children g t v) ts) in
      ap (λ n. taken_from g e n (t ∷ v ∷ (us ++ ws))) a ∙ ap (λ n. taken_from g e n (us ++ ws)) l ∙ taken_passed r k ws

  -- a node of another type is entered
  pub taken_other : (t v : ℕ) (ws : Words) → (t ≡ e → ⊥) → taken_from g e 0 (t ∷ v ∷ ws) ≡ taken_from g e 0 ws
  unfolding taken_from
  taken_other t v ws n = rw (ne_eqb t e n)

  -- a tree of the type is taken, and what follows it is looked at next
  pub taken_this : {u : Words} → Trees g (e ∷ []) u → (ws : Words) → taken_from g e 0 (u ++ ws) ≡ u ∷ taken_from g e 0 ws
  unfolding taken_from
  taken_this (T.node {v = v} {ws = us} fine r) ws =
      let p = taken_passed r 0 ws in
      let l : length (children g e v ++ []) + 0 ≡ length (children g e v) = omega (arith, length-append (children g e v) []) in
      let f = first_append (T.node {ts = []} {ws = us} fine r) ws in
      rw (eq-eqb e e refl) (ap₂ (λ a b. a ∷ b) f (ap (λ n. taken_from g e n (us ++ ws)) (sym l) ∙ p))

  -- .. itself alone, where there is no more
  pub taken_whole : {u : Words} → Trees g (e ∷ []) u → taken_from g e 0 u ≡ u ∷ []
  unfolding taken_from
  taken_whole {u} r = ap (taken_from g e 0) (sym (append-nil u)) ∙ taken_this r []

  taken_within : (n : ℕ) (ts : List ℕ) (ws : Words) → size ws ≤ n → Trees g ts ws → EachTree g e (taken_from g e 0 ws)
  unfolding taken_from size
  taken_within zero ts [] h r = tt
  taken_within zero ts (t ∷ []) h r = tt
  taken_within zero ts (t ∷ v ∷ ws) h r = absurd (omega arith)
  taken_within (suc n) [] [] h r = tt
  taken_within (suc n) [] (t ∷ []) h r = tt
  taken_within (suc n) [] (t ∷ v ∷ ws) h r = absurd (tells r)
  taken_within (suc n) (c ∷ ts) [] h r = tt
  taken_within (suc n) (c ∷ ts) (t ∷ []) h r = tt
  taken_within (suc n) (c ∷ ts) (t ∷ v ∷ ws) h r = go (λ us xs small q. taken_within n us xs small q) (eqb t e) refl
    where
      go : ((us : List ℕ) (xs : Words) → size xs ≤ n → Trees g us xs → EachTree g e (taken_from g e 0 xs)) → (b : Bool) → eqb t e ≡ b → EachTree g e (taken_from g e 0 (t ∷ v ∷ ws))
      go next true b =
          let s = split (t ∷ v ∷ ws) (c ∷ []) ts r in
          let same : c ≡ e = sym (tells r).0 ∙ eqb-true t e b in
          let u : Trees g (e ∷ []) (first_tree g (t ∷ v ∷ ws)) = subst (λ x. Trees g (x ∷ []) (first_tree g (t ∷ v ∷ ws))) same s.front in
          let x = size_append (first_tree g (t ∷ v ∷ ws)) (after g (t ∷ v ∷ ws) 1) (trees_even u) in
          let y : size (first_tree g (t ∷ v ∷ ws) ++ after g (t ∷ v ∷ ws) 1) ≡ suc (size ws) = ap size (first_after g (t ∷ v ∷ ws) 1) in
          let small : size (after g (t ∷ v ∷ ws) 1) ≤ n = omega (arith, tree_some (first_tree g (t ∷ v ∷ ws)) u) in
          subst (EachTree g e) (sym (taken_this u (after g (t ∷ v ∷ ws) 1)) ∙ ap (taken_from g e 0) (first_after g (t ∷ v ∷ ws) 1)) (u, next ts (after g (t ∷ v ∷ ws) 1) small s.back)
      go next false b = subst (EachTree g e) (sym (taken_other t v ws (λ q. let z : ◌≡◌ {A = ℕ} 0 1 = ap (λ x. pick x 0 1) (sym (eq-eqb t e q) ∙ b) in absurd (omega arith)))) (next (children g c v ++ ts) ws (omega arith) (tells r).2)

  -- what is taken are trees of the type
  pub taken_typed : (ts : List ℕ) (ws : Words) → Trees g ts ws → EachTree g e (taken_from g e 0 ws)
  taken_typed ts ws r = taken_within (size ws) ts ws (omega arith) r

-- the trees of its element's type in a sequence are its elements, unless it is of itself
taken_listed : (g : Grammar) (t : ℕ) → (t ≡ element_of g t → ⊥) → (es : List Words) → EachTree g (element_of g t) es → taken_from g (element_of g t) 0 (sequence_of t es) ≡ es
unfolding taken_from
taken_listed g t other [] x = ap (taken_from g (element_of g t) 0) (sequence_none t) ∙ taken_other g (element_of g t) t 1 [] other
taken_listed g t other (u ∷ es) x =
    ap (taken_from g (element_of g t) 0) (sequence_more t u es) ∙ taken_other g (element_of g t) t 0 (u ++ sequence_of t es) other ∙ taken_this g (element_of g t) x.0 (sequence_of t es)
    ∙ ap (λ l. u ∷ l) (taken_listed g t other es x.1)

pub taken_elements : (g : Grammar) (t : ℕ) → is_sequence g t ≡ true → (t ≡ element_of g t → ⊥) → (ws : Words) → Trees g (t ∷ []) ws → taken_from g (element_of g t) 0 ws ≡ elements g ws
taken_elements g t is other ws r = ap (taken_from g (element_of g t) 0) (sym (elements_made g t is ws r)) ∙ taken_listed g t other (elements g ws) (elements_typed g t is ws r)

-- The search for a blank in a marked tree, pair by pair. Assumes nothing.
use Prim.Native.Nat.{ℕ, zero, suc, ◌+◌, ◌-◌, ◌*◌, ◌<◌, ◌≤◌}
use mathlib.Core.Path.{◌≡◌, refl, sym, ap, ap₂, subst, ◌∙◌}
use mathlib.Core.List.{List, [], ◌∷◌}
use mathlib.Core.Bool.{Bool, true, false}
use native.Mathlib.Omega.{arith}
use native.Mathlib.Numerals.{add-one}
use lib.ListN.{length, get_or, take, drop, length-take}
use lib.Seq.{get_or-take, get_or-drop}
use Rattle.words.specs.Reader.{Words, or}
use Rattle.words.proofs.Laws.{or_true}
use Rattle.grammar.specs.Grammar.{Grammar}
use Rattle.tables.specs.Tables.{Heads}
use Rattle.tables.specs.Types.{OfHeads}
use Rattle.tables.specs.declared.types.Types.{Types}
use Rattle.tree.specs.Tree.{Trees, size, first_tree}
use Rattle.tree.specs.Blanks.{is_blank, holds_blank}
use Rattle.tree.proofs.Trees.{split, trees_even, first_even}
use Rattle.marks.specs.Marked.{type_in, size_in, marked, unmarked}
use Rattle.marks.specs.Post.{HoldsBlank}
use Rattle.marks.proofs.Marks.{unmarked_type, unmarked_value, marked_length}
use Rattle.marks.proofs.Spans.{first_size}
use Rattle.marks.proofs.Same.{unmark, marked_first, part_size}
use denote.Param.Members.{Mut, Called}
use denote.Ref.{Bor}
use Rattle.std.specs.Bool.{IsTrue, MatchBool}
use Rattle.std.specs.List.{slice_get}
use Rattle.std.specs.Option.{IsSomeAnd, IfSome}
use Rattle.std.specs.declared.option.Option.{Option}
use Rattle.std.specs.declared.option.Option.TheVariants.{Some, None}
use Rattle.std.specs.Slice.Iter.{chunks_exact_rest, chunks_exact_size, chunks_exact_steps}
use Rattle.std.specs.Iterator.Runs.{YieldsRun, EveryRun, SomeRun, IsChunksExactRun, Run, CallKeepsClosure, AnyItemGives, AllItemsGive}
use Rattle.std.specs.declared.slice.ChunksExact.{ChunksExact}

-- the first tree of n nodes, as its marked words show it
record Shown (g : Grammar) (part tree : Words) (n : ℕ) : Type 0 where
  long : length tree ≡ 2 * n
  inside : 2 * n ≤ length part
  type : (half i : ℕ) → i ≡ 2 * half → i < 2 * n → get_or tree i 0 ≡ type_in (get_or part i 0)
  value : (half i : ℕ) → i ≡ 2 * half → i < 2 * n → get_or tree (i + 1) 0 ≡ get_or part (i + 1) 0

shown : {g : Grammar} {t : ℕ} {ts : List ℕ} (part ws : Words) (w n : ℕ) → length g ≤ 64 → part ≡ marked g ws → Trees g (t ∷ ts) ws → size ws ≤ 2048 → w ≡ get_or part 0 0 → n ≡ size_in w → Shown g part (first_tree g ws) n
shown {g} {t} {ts} part ws w n l e r k ew en =
    let size_is : n ≡ size (first_tree g ws) = en ∙ part_size part ws w l k r e ew in
    let long : length (first_tree g ws) ≡ 2 * n = omega (arith, first_even g ws 1) in
    let tree : take (2 * n) part ≡ marked g (first_tree g ws) = ap (take (2 * n)) e ∙ marked_first ws (2 * n) r (sym long) in
    let bare : unmarked (take (2 * n) part) ≡ first_tree g ws = ap unmarked tree ∙ unmark l (split ws (t ∷ []) ts r).front in
    let all : length (take (2 * n) part) ≡ 2 * n = ap length tree ∙ marked_length g (first_tree g ws) ∙ long in
    record {
      long = long;
      inside = omega (arith, first_size g ws 1, ap length e, marked_length g ws, trees_even r);
      type = λ half i h m. ap (λ x. get_or x i 0) (sym bare) ∙ unmarked_type (take (2 * n) part) half i h (omega arith) ∙ ap type_in (get_or-take (2 * n) part i 0 m);
      value = λ half i h m.
          ap₂ (λ x j. get_or x j 0) (sym bare) (add-one i) ∙ unmarked_value (take (2 * n) part) half i h (omega arith) ∙ get_or-take (2 * n) part (suc i) 0 (omega arith) ∙ ap (λ j. get_or part j 0) (sym (add-one i));
    }

-- a tree with a blank, and one of n nodes of which none is a blank
blank_there : (g : Grammar) (tree : Words) (k i : ℕ) → i ≡ 2 * k → i + 2 ≤ length tree → is_blank g (get_or tree i 0) (get_or tree (suc i) 0) ≡ true → holds_blank g tree ≡ true
unfolding holds_blank
blank_there g [] k i e l b = absurd (omega arith)
blank_there g (t ∷ []) k i e l b = absurd (omega arith)
blank_there g (t ∷ v ∷ ws) k zero e l b = ap (λ x. or x (holds_blank g ws)) b
blank_there g (t ∷ v ∷ ws) k (suc zero) e l b = absurd (omega arith)
blank_there g (t ∷ v ∷ ws) k (suc (suc i)) e l b = ap (or (is_blank g t v)) (blank_there g ws (k - 1) i (omega arith) (omega arith) b) ∙ or_true (is_blank g t v)

blank_nowhere : (g : Grammar) (tree : Words) (n : ℕ) → length tree ≡ 2 * n → ((k i : ℕ) → i ≡ 2 * k → k < n → is_blank g (get_or tree i 0) (get_or tree (suc i) 0) ≡ false) → holds_blank g tree ≡ false
unfolding holds_blank
blank_nowhere g [] n e none = refl
blank_nowhere g (t ∷ []) n e none = refl
blank_nowhere g (t ∷ v ∷ ws) zero e none = absurd (omega arith)
blank_nowhere g (t ∷ v ∷ ws) (suc n) e none = ap (λ x. or x (holds_blank g ws)) (none 0 0 refl (omega arith)) ∙ blank_nowhere g ws n (omega arith) (λ k i m h. none (suc k) (suc (suc i)) (omega arith) (omega arith))

-- what an option holds, of which two things are known
held : {A : Type 0} {P Q : A → Type 0} (o : Option A) → IsSomeAnd o P → IfSome o Q → (x : A) × P x × Q x
held None p q = absurd p
held (Some x) p q = (x, p, q)

-- a run has an item at each place below its length
item_in : {A : Type 0} (P : A → Type 0) (xs : List A) (k : ℕ) → k < length xs → IfSome (slice_get xs k) P → IsSomeAnd (slice_get xs k) P
item_in P [] k h q = absurd (omega arith)
item_in P (x ∷ xs) zero h q = q
item_in P (x ∷ xs) (suc k) h q = item_in P xs k (omega arith) q

item : {S A : Type 0} {steps : S → Option A → S → Type 0} (P : A → Type 0) (p : Run steps) (k : ℕ) → k < p.len → IfSome (p.at k) P → IsSomeAnd (p.at k) P
unfolding YieldsRun
item P p k h q = subst (λ o. IsSomeAnd o P) (sym (p.gave.1 k)) (item_in P p.items k (omega (arith, p.long)) (subst (λ o. IfSome o P) (p.gave.1 k) q))

-- a pair of the first 2 n words
pair_words : (part x : Words) (n k i : ℕ) → i ≡ 2 * k → k < n → x ≡ take 2 (drop (k * 2) (take (2 * n) part)) → (get_or x 0 0 ≡ get_or part i 0) × (get_or x 1 0 ≡ get_or part (i + 1) 0)
pair_words part x n k i e h is = (word 0 i (omega arith) (omega arith), word 1 (i + 1) (omega arith) (omega arith))
  where
    word : (j m : ℕ) → j < 2 → m ≡ k * 2 + j → get_or x j 0 ≡ get_or part m 0
    word j m l em = ap (λ y. get_or y j 0) is ∙ get_or-take 2 (drop (k * 2) (take (2 * n) part)) j 0 l ∙ get_or-drop (k * 2) (take (2 * n) part) j 0 ∙ get_or-take (2 * n) part (k * 2 + j) 0 (omega arith) ∙ ap (λ y. get_or part y 0) (sym em)

module _ (types : Types) (part : Words) (w n : ℕ) (ew : w ≡ get_or part 0 0) (en : n ≡ size_in w) where
  pub blank_short : length part < 2 * n → HoldsBlank types part false
  blank_short h g ws t ts hs e r k = absurd (omega (arith, (shown part ws w n hs.types e r k ew en).inside))

  module _ (g : Grammar) (ws : Words) (t : ℕ) (ts : List ℕ) (hs : Heads g types.heads) (e : part ≡ marked g ws) (r : Trees g (t ∷ ts) ws) (few : size ws ≤ 2048) where
    -- what is told of its pair is so of the node
    node_is : (x : Words) (b : Bool) (k i : ℕ) → i ≡ 2 * k → k < n → x ≡ take 2 (drop (k * 2) (take (2 * n) part)) → is_blank g (type_in (get_or x 0 0)) (get_or x 1 0) ≡ b
        → is_blank g (get_or (first_tree g ws) i 0) (get_or (first_tree g ws) (suc i) 0) ≡ b
    node_is x b k i ei h is told =
        let s = shown part ws w n hs.types e r few ew en in
        let words = pair_words part x n k i ei h is in
        ap₂ (is_blank g) (s.type k i ei (omega arith) ∙ ap type_in (sym words.0)) (ap (λ j. get_or (first_tree g ws) j 0) (sym (add-one i)) ∙ s.value k i ei (omega arith) ∙ sym words.1) ∙ told

  -- the pairs of the tree, each of which is asked until one is a blank
  module _ (room : 2 * n ≤ length part) {F : Type 0} {ask : Mut F (Bor Words × Unit {0}) Bool} {f : F} {s : ChunksExact ℕ} (rest : chunks_exact_rest s ≡ take (2 * n) part) (two : chunks_exact_size s ≡ 2)
      (runs : EveryRun (chunks_exact_steps {A = ℕ}) (λ p. 0 < chunks_exact_size p.from → IsChunksExactRun p (chunks_exact_size p.from) (chunks_exact_rest p.from)))
      (keeps : CallKeepsClosure ask f)
      (yes : (x : Bor Words) → Called ask f (x, tt) true f → OfHeads types (λ g. is_blank g (type_in (get_or x.now 0 0)) (get_or x.now 1 0) ≡ true))
      (no : (x : Bor Words) → Called ask f (x, tt) false f → OfHeads types (λ g. is_blank g (type_in (get_or x.now 0 0)) (get_or x.now 1 0) ≡ false)) where
    -- a run asks pairs of the tree
    cut : (p : Run (chunks_exact_steps {A = ℕ})) → p.from ≡ s → IsChunksExactRun p 2 (take (2 * n) part)
    cut p from =
        let a : chunks_exact_size p.from ≡ 2 = ap chunks_exact_size from ∙ two in
        let b : chunks_exact_rest p.from ≡ take (2 * n) part = ap chunks_exact_rest from ∙ rest in
        rw (a, b) at (runs p p.seen (omega arith))

    pub blanks_asked : (r : Bool) → SomeRun (chunks_exact_steps {A = ℕ}) s (λ p. MatchBool r (AnyItemGives p ask f true) (IsTrue p.whole × AllItemsGive p ask f false)) → HoldsBlank types part r
    blanks_asked true run g ws t ts hs e r k =
        let s = shown part ws w n hs.types e r k ew en in
        let pairs = cut run.0 run.1 in
        let found = run.2 keeps in
        let x = held (run.0.at found.0) found.2 (pairs.2 found.0) in
        let here : found.0 < n = omega (arith, x.2, length-take (2 * n) part) in
        sym (blank_there g (first_tree g ws) found.0 (2 * found.0) refl (omega (arith, s.long)) (node_is g ws t ts hs e r k x.0.now true found.0 (2 * found.0) refl here x.2.2.0 (yes x.0 x.1 g hs)))
    blanks_asked false run g ws t ts hs e r k =
        let s = shown part ws w n hs.types e r k ew en in
        let pairs = cut run.0 run.1 in
        let all : run.0.len ≡ n = omega (arith, pairs.1 run.2.0, length-take (2 * n) part) in
        sym (blank_nowhere g (first_tree g ws) n s.long (λ j i ei h.
        let x = held (run.0.at j) (item _ run.0 j (omega arith) (run.2.1 keeps j)) (pairs.2 j) in
        node_is g ws t ts hs e r k x.0.now false j i ei h x.2.2.0 (no x.0 x.1 g hs)))

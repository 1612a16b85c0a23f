-- A sequence under way: words pushed behind those that stand, an element more, and the end. Assumes nothing.
use Prim.Native.Nat.{ℕ, zero, suc, ◌+◌, ◌*◌, ◌≤◌, ◌<◌}
use mathlib.Core.Path.{◌≡◌, refl, sym, ap, ap₂, ◌∙◌}
use mathlib.Core.List.{List, [], ◌∷◌, ◌++◌, append_assoc, append-nil}
use native.Mathlib.Omega.{arith}
use lib.ListN.{length, take, drop, length-append, length-drop}
use lib.Seq.{take-add, take_at, drop_at, drop-drop, length-take-le}
use Rattle.words.specs.Reader.{Words}
use Rattle.grammar.specs.Grammar.{Grammar}
use Rattle.tree.specs.Tree.{Trees, size}
use Rattle.tree.specs.Sequences.{spine, sequence_of}
use Rattle.tree.proofs.Trees.{trees_even}
use Rattle.tree.proofs.Sequences.{spine_append, sequence_append}
use Rattle.marks.specs.Marked.{marked, UnderWay, nothing, written}
use Rattle.marks.proofs.Marks.{marked_length}
use Rattle.marks.proofs.Laying.{under_tree, under_append}
use Rattle.rewrite.proofs.Standing.{stretch_kept}

-- WORDS PUSHED behind the k words that stand at base

module _ (w w' x y : Words) (base k : ℕ) (room : base + k ≤ length w) (e : w' ≡ take (base + k) w ++ (x ++ y)) where
  split_there : w' ≡ take base w ++ ((take k (drop base w) ++ x) ++ y)
  split_there =
      let a = take base w in
      let b = take k (drop base w) in
      e ∙ ap (λ l. l ++ (x ++ y)) (take-add base k w) ∙ append_assoc a b (x ++ y) ∙ ap (λ l. a ++ l) (sym (append_assoc b x y))

  base_long : length (take base w) ≡ base
  base_long = length-take-le base w (omega arith)

  pub pushed_below : take base w' ≡ take base w
  pushed_below = ap (take base) split_there ∙ take_at (take base w) ((take k (drop base w) ++ x) ++ y) base base_long

  pub pushed_on : (m : ℕ) → m ≡ k + length x → take m (drop base w') ≡ take k (drop base w) ++ x
  pushed_on m em =
      let b = take k (drop base w) in
      let long : length b ≡ k = length-take-le k (drop base w) (omega (arith, length-drop base w)) in
      let all : length (b ++ x) ≡ m = omega (arith, length-append b x) in
      ap (λ l. take m (drop base l)) split_there ∙ ap (take m) (drop_at (take base w) ((b ++ x) ++ y) base base_long) ∙ take_at (b ++ x) y m all

-- a node, and a tree behind it
pub extended : (w w₁ w₂ : Words) (to t start m : ℕ) → (0 < m → start + 2 * m ≤ to) → to + 2 + 2 * m ≤ length w → w₁ ≡ take to w ++ (t ∷ 0 ∷ drop (to + 2) w)
    → w₂ ≡ take (to + 2) w₁ ++ (take (2 * m) (drop start w₁) ++ drop (to + 2 + 2 * m) w₁) → w₂ ≡ take to w ++ (t ∷ 0 ∷ (take (2 * m) (drop start w) ++ drop (to + 2 + 2 * m) w))
extended w w₁ w₂ to t start m below room e₁ e₂ =
    let a = take to w in
    let long : length a ≡ to = length-take-le to w (omega arith) in
    let front : length (a ++ t ∷ 0 ∷ []) ≡ to + 2 = omega (arith, length-append a (t ∷ 0 ∷ [])) in
    let whole : w₁ ≡ (a ++ t ∷ 0 ∷ []) ++ drop (to + 2) w = e₁ ∙ sym (append_assoc a (t ∷ 0 ∷ []) (drop (to + 2) w)) in
    let head : take (to + 2) w₁ ≡ a ++ t ∷ 0 ∷ [] = ap (take (to + 2)) whole ∙ take_at (a ++ t ∷ 0 ∷ []) (drop (to + 2) w) (to + 2) front in
    let back : drop (to + 2) w₁ ≡ drop (to + 2) w = ap (drop (to + 2)) whole ∙ drop_at (a ++ t ∷ 0 ∷ []) (drop (to + 2) w) (to + 2) front in
    let rest : drop (to + 2 + 2 * m) w₁ ≡ drop (to + 2 + 2 * m) w = sym (drop-drop (2 * m) (to + 2) w₁) ∙ ap (drop (2 * m)) back ∙ drop-drop (2 * m) (to + 2) w in
    let same : take to w₁ ≡ take to w = ap (take to) e₁ ∙ take_at a (t ∷ 0 ∷ drop (to + 2) w) to long in
    let tree : take (2 * m) (drop start w₁) ≡ take (2 * m) (drop start w) = moved m below same in
    e₂ ∙ ap₂ (λ x y. x ++ y) head (ap₂ (λ x y. x ++ y) tree rest) ∙ append_assoc a (t ∷ 0 ∷ []) (take (2 * m) (drop start w) ++ drop (to + 2 + 2 * m) w)
  where
    moved : (k : ℕ) → (0 < k → start + 2 * k ≤ to) → take to w₁ ≡ take to w → take (2 * k) (drop start w₁) ≡ take (2 * k) (drop start w)
    moved zero h s = refl
    moved (suc k) h s = stretch_kept w w₁ to start (2 * suc k) (h (omega arith)) s

-- THE SEQUENCE UNDER WAY

-- an element more
pub spine_more : (t : ℕ) (es : List Words) (u : Words) → spine t (es ++ u ∷ []) ≡ spine t es ++ t ∷ 0 ∷ u
unfolding spine
spine_more t es u = spine_append t es (u ∷ []) ∙ ap (λ l. spine t es ++ t ∷ 0 ∷ l) (append-nil u)

module _ {g : Grammar} (w w' y : Words) (base k t : ℕ) (es : List Words) (room : base + 2 * k ≤ length w) (under : UnderWay g (take (2 * k) (drop base w)) (spine t es)) where
  -- .. whose marked words are pushed behind a node
  pub grown_element : {e : ℕ} (u x : Words) → Trees g (e ∷ []) u → x ≡ marked g u → w' ≡ take (base + 2 * k) w ++ (t ∷ 0 ∷ (x ++ y)) → (m : ℕ) → m ≡ k + 1 + size u
      → UnderWay g (take (2 * m) (drop base w')) (spine t (es ++ u ∷ []))
  grown_element u x r ex e m em =
      let long : 2 * m ≡ 2 * k + length (t ∷ 0 ∷ x) = omega (arith, ap length ex, marked_length g u, trees_even r) in
      let here = pushed_on w w' (t ∷ 0 ∷ x) y base (2 * k) room e (2 * m) long in
      rw (here, spine_more t es u) (under_append under (written t 0 (under_tree r ex)))

  -- the last node is pushed
  pub grown_last : w' ≡ take (base + 2 * k) w ++ (t ∷ 1 ∷ y) → UnderWay g (take (2 * suc k) (drop base w')) (sequence_of t es)
  unfolding sequence_of
  grown_last e =
      let long : 2 * suc k ≡ 2 * k + length (t ∷ 1 ∷ []) = omega arith in
      let here = pushed_on w w' (t ∷ 1 ∷ []) y base (2 * k) room e (2 * suc k) long in
      rw here (under_append under (written t 1 nothing))

  -- a whole sequence is pushed
  pub grown_sequence : (fs : List Words) (x : Words) → Trees g (t ∷ []) (sequence_of t fs) → x ≡ marked g (sequence_of t fs) → w' ≡ take (base + 2 * k) w ++ (x ++ y) → (m : ℕ) → m ≡ k + size (sequence_of t fs)
      → UnderWay g (take (2 * m) (drop base w')) (sequence_of t (es ++ fs))
  grown_sequence fs x r ex e m em =
      let long : 2 * m ≡ 2 * k + length x = omega (arith, ap length ex, marked_length g (sequence_of t fs), trees_even r) in
      let here = pushed_on w w' x y base (2 * k) room e (2 * m) long in
      rw (here, sequence_append t es fs) (under_append under (under_tree r ex))

-- The loops that copy nodes: with their counts taken off, and with their counts put on. Assumes nothing.
use Prim.Native.Nat.{ℕ, zero, suc, ◌+◌, ◌*◌, ◌/◌, ◌<◌, ◌≤◌}
use mathlib.Core.Path.{◌≡◌, refl, ap, ◌∙◌}
use mathlib.Core.List.{List, [], ◌∷◌, ◌++◌}
use native.Mathlib.Omega.{arith}
use lib.ListN.{length, get_or, drop, set}
use Rattle.words.specs.Reader.{Words}
use Rattle.words.proofs.Stretches.{over, over_store, over_all}
use Rattle.grammar.specs.Grammar.{Grammar}
use Rattle.tree.specs.Tree.{Trees, none, node, size}
use Rattle.tree.specs.Slip.{uncounted, counted}
use Rattle.tree.proofs.Trees.{trees_even}
use Rattle.tree.proofs.Slip.{uncounted_length, counted_length}
use Rattle.marks.specs.Marked.{type_in, size_in, marked}
use Rattle.marks.proofs.Marks.{marked_length}
use Rattle.slips.specs.Slips.{SlipWritten}
use Rattle.slips.proofs.Counts.{mark_says}

-- THE COUNTS TAKEN OFF

plain_type : (slip : Words) (i : ℕ) → i < length slip / 3 → get_or slip (3 * i) 0 ≡ get_or (uncounted slip) (2 * i) 0
unfolding uncounted
plain_type [] i h = absurd (omega arith)
plain_type (t ∷ []) i h = absurd (omega arith)
plain_type (t ∷ v ∷ []) i h = absurd (omega arith)
plain_type (t ∷ v ∷ c ∷ ws) zero h = refl
plain_type (t ∷ v ∷ c ∷ ws) (suc i) h =
    let a : 3 * suc i ≡ suc (suc (suc (3 * i))) = omega arith in
    let b : 2 * suc i ≡ suc (suc (2 * i)) = omega arith in
    rw (a, b) (plain_type ws i (omega arith))

plain_value : (slip : Words) (i : ℕ) → i < length slip / 3 → get_or slip (3 * i + 1) 0 ≡ get_or (uncounted slip) (2 * i + 1) 0
unfolding uncounted
plain_value [] i h = absurd (omega arith)
plain_value (t ∷ []) i h = absurd (omega arith)
plain_value (t ∷ v ∷ []) i h = absurd (omega arith)
plain_value (t ∷ v ∷ c ∷ ws) zero h = refl
plain_value (t ∷ v ∷ c ∷ ws) (suc i) h =
    let a : 3 * suc i + 1 ≡ suc (suc (suc (3 * i + 1))) = omega arith in
    let b : 2 * suc i + 1 ≡ suc (suc (2 * i + 1)) = omega arith in
    rw (a, b) (plain_value ws i (omega arith))

-- in a loop that has copied i nodes of the tree
module _ (slip b₀ b : Words) (i : ℕ) (l : b ≡ over (uncounted slip) b₀ (2 * i)) (room : 2 * (length slip / 3) ≤ length b₀) where
  pub uncount_more : i < length slip / 3 → set (set b (2 * i) (get_or slip (3 * i) 0)) (2 * i + 1) (get_or slip (3 * i + 1) 0) ≡ over (uncounted slip) b₀ (2 * (i + 1))
  uncount_more h =
      let n = uncounted_length slip in
      let one = over_store (uncounted slip) b₀ b (2 * i) (get_or slip (3 * i) 0) l (plain_type slip i h) (omega arith) (omega arith) in
      let two = over_store (uncounted slip) b₀ (set b (2 * i) (get_or slip (3 * i) 0)) (2 * i + 1) (get_or slip (3 * i + 1) 0) one (plain_value slip i h) (omega arith) (omega arith) in
      let z : 2 * i + 1 + 1 ≡ 2 * (i + 1) = omega arith in
      two ∙ ap (over (uncounted slip) b₀) z

  pub uncount_end : i ≤ length slip / 3 → length slip / 3 ≤ i → b ≡ uncounted slip ++ drop (2 * (length slip / 3)) b₀
  uncount_end low high =
      let n = uncounted_length slip in
      let z : 2 * i ≡ length (uncounted slip) = omega arith in
      l ∙ over_all (uncounted slip) b₀ (2 * i) z ∙ rw n

-- THE COUNTS PUT ON

-- the slip that marked words say: each node's type and value, and its tree's size
unfoldable pub slip_of : Words → Words
slip_of [] = []
slip_of (w ∷ []) = []
slip_of (w ∷ v ∷ ws) = type_in w ∷ v ∷ size_in w ∷ slip_of ws

slip_length : (part : Words) → length (slip_of part) ≡ 3 * (length part / 2)
unfolding slip_of
slip_length [] = refl
slip_length (w ∷ []) = refl
slip_length (w ∷ v ∷ ws) = let e = slip_length ws in omega arith

slip_marks : {g : Grammar} {ts : List ℕ} {ws : Words} → length g ≤ 64 → size ws ≤ 2048 → Trees g ts ws → slip_of (marked g ws) ≡ counted g ws
unfolding slip_of marked counted size
slip_marks few s none = refl
slip_marks {g} few s (node {t} {v} {ts} {ws} fine r) =
    let says = mark_says g (t ∷ ts) t v ws few s (node fine r) in
    rw (says.type, says.count, slip_marks few (omega arith) r)

-- what stands i nodes on
record SlipNode (part : Words) (i : ℕ) : Type 0 where
  type : type_in (get_or part (2 * i) 0) ≡ get_or (slip_of part) (3 * i) 0
  value : get_or part (2 * i + 1) 0 ≡ get_or (slip_of part) (3 * i + 1) 0
  count : size_in (get_or part (2 * i) 0) ≡ get_or (slip_of part) (3 * i + 2) 0

slip_node : (part : Words) (i : ℕ) → i < length part / 2 → SlipNode part i
unfolding slip_of
slip_node [] i h = absurd (omega arith)
slip_node (w ∷ []) i h = absurd (omega arith)
slip_node (w ∷ v ∷ ws) zero h = record { type = refl; value = refl; count = refl }
slip_node (w ∷ v ∷ ws) (suc i) h =
    let n = slip_node ws i (omega arith) in
    let a : 2 * suc i ≡ suc (suc (2 * i)) = omega arith in
    let a₁ : 2 * suc i + 1 ≡ suc (suc (2 * i + 1)) = omega arith in
    let b : 3 * suc i ≡ suc (suc (suc (3 * i))) = omega arith in
    let b₁ : 3 * suc i + 1 ≡ suc (suc (suc (3 * i + 1))) = omega arith in
    let b₂ : 3 * suc i + 2 ≡ suc (suc (suc (3 * i + 2))) = omega arith in
    record { type = rw (a, b) n.type; value = rw (a₁, b₁) n.value; count = rw (a, b₂) n.count }

-- in a loop that has written i nodes of the slip
module _ (part r₀ r : Words) (i : ℕ) (l : r ≡ over (slip_of part) r₀ (3 * i)) (room : 3 * (length part / 2) ≤ length r₀) where
  pub write_more : i < length part / 2 → (t c : ℕ) → t ≡ type_in (get_or part (2 * i) 0) → c ≡ size_in (get_or part (2 * i) 0)
      → set (set (set r (3 * i) t) (3 * i + 1) (get_or part (2 * i + 1) 0)) (3 * i + 2) c ≡ over (slip_of part) r₀ (3 * (i + 1))
  write_more h t c et ec =
      let n = slip_length part in
      let says = slip_node part i h in
      let v = get_or part (2 * i + 1) 0 in
      let z : 3 * i + 1 + 1 ≡ 3 * i + 2 = omega arith in
      let y : 3 * i + 2 + 1 ≡ 3 * (i + 1) = omega arith in
      let one = over_store (slip_of part) r₀ r (3 * i) t l (et ∙ says.type) (omega arith) (omega arith) in
      let two = over_store (slip_of part) r₀ (set r (3 * i) t) (3 * i + 1) v one says.value (omega arith) (omega arith) ∙ ap (over (slip_of part) r₀) z in
      let three = over_store (slip_of part) r₀ (set (set r (3 * i) t) (3 * i + 1) v) (3 * i + 2) c two (ec ∙ says.count) (omega arith) (omega arith) in
      three ∙ ap (over (slip_of part) r₀) y

  pub write_end : length r ≡ length r₀ → i ≤ length part / 2 → length part / 2 ≤ i → SlipWritten part r₀ r
  write_end long low high = record { long = long; words = words }
    where
      words : (g : Grammar) (ts : List ℕ) (ws : Words) → length g ≤ 64 → Trees g ts ws → size ws ≤ 2048 → part ≡ marked g ws → r ≡ counted g ws ++ drop (length (counted g ws)) r₀
      words g ts ws few q s e =
          let n : length part ≡ 2 * size ws = ap length e ∙ marked_length g ws ∙ trees_even q in
          let z : 3 * i ≡ length (counted g ws) = omega (arith, counted_length g ws) in
          let same : slip_of part ≡ counted g ws = ap slip_of e ∙ slip_marks few s q in
          l ∙ ap (λ k. over k r₀ (3 * i)) same ∙ over_all (counted g ws) r₀ (3 * i) z

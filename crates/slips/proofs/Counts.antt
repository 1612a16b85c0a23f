-- What the marks of a tree say of its counts. Assumes nothing.
use Prim.Native.Nat.{ℕ, suc, ◌+◌, ◌*◌, ◌/◌, ◌<◌, ◌≤◌}
use mathlib.Core.Path.{◌≡◌, refl, sym, ap, ◌∙◌}
use mathlib.Core.List.{List, [], ◌∷◌, ◌++◌}
use native.Mathlib.Omega.{arith}
use lib.ListN.{length, get_or, drop, length-append}
use lib.Seq.{drop-cons}
use lib.Dec.{eqb}
use borrow.Author.Tests.{eq-eqb, ne_eqb}
use Rattle.words.specs.Reader.{Words, pick, value, refused}
use Rattle.std.specs.Prelude.{Ok, Err}
use Rattle.words.specs.Views.{answer}
use Rattle.words.proofs.Stretches.{drop_pair}
use Rattle.grammar.specs.Grammar.{Grammar}
use Rattle.grammar.specs.Kinds.{children}
use Rattle.tree.specs.Tree.{Trees, size, nesting, first_tree}
use Rattle.tree.specs.Slip.{uncounted, right_counts}
use Rattle.marks.specs.Marked.{type_in, size_in, mark_of, marked}
use Rattle.marks.proofs.Marks.{mark_type, mark_size}
use Rattle.marks.proofs.Marking.{type_there}
use Rattle.marks.proofs.Spans.{node_of, first_size}
use Rattle.slips.specs.Slips.{counts_as}

-- what the mark of a node says
pub record MarkSays (g : Grammar) (t v : ℕ) (ws : Words) : Type 0 where
  pub type : type_in (mark_of g t v ws) ≡ t
  pub count : size_in (mark_of g t v ws) ≡ size (first_tree g (t ∷ v ∷ ws))

pub mark_says : (g : Grammar) (us : List ℕ) (t v : ℕ) (ws : Words) → length g ≤ 64 → size (t ∷ v ∷ ws) ≤ 2048 → Trees g us (t ∷ v ∷ ws) → MarkSays g t v ws
unfolding mark_of
mark_says g us t v ws few s r =
    let there = type_there g t v (node_of us t v ws r).fine in
    let small = first_size g (t ∷ v ∷ ws) 1 in
    let k = nesting g (first_tree g (t ∷ v ∷ ws)) in
    record { type = mark_type t (size (first_tree g (t ∷ v ∷ ws))) k (omega arith); count = mark_size t (size (first_tree g (t ∷ v ∷ ws))) k (omega arith) (omega arith) }

-- THE COUNTS OF A SLIP ARE RIGHT exactly where its tree's marks say so
pub counts_marks : (g : Grammar) (us : List ℕ) (slip : Words) (at : ℕ) → length g ≤ 64 → size (uncounted slip) ≤ 2048 → Trees g us (uncounted slip) → counts_as slip (marked g (uncounted slip)) at ≡ right_counts g slip at
unfolding counts_as right_counts uncounted marked size
counts_marks g us [] at few s r = refl
counts_marks g us (t ∷ []) at few s r = refl
counts_marks g us (t ∷ v ∷ []) at few s r = refl
counts_marks g us (t ∷ v ∷ c ∷ ws) at few s r =
    let says = mark_says g us t v (uncounted ws) few s r in
    let n = node_of us t v (uncounted ws) r in
    rw (says.count, counts_marks g (children g t v ++ n.rest) ws (at + 3) few (omega arith) n.below)

-- THE LOOP THAT HOLDS THEM AGAINST THE MARKS

-- the first i counts are right: what is left of the reading is that of the words that are left
pub record CountsLeft (slip part ws marks : Words) (i : ℕ) : Type 0 where
  pub left : answer (counts_as slip part 0) ≡ answer (counts_as ws marks (3 * i))
  pub nodes : i + length ws / 3 ≡ length slip / 3
  pub pairs : 2 * (length ws / 3) ≤ length marks

few_left : (slip part : Words) (at : ℕ) → length slip < 3 → counts_as slip part at ≡ value tt at
unfolding counts_as
few_left [] part at h = refl
few_left (t ∷ []) part at h = refl
few_left (t ∷ v ∷ []) part at h = refl
few_left (t ∷ v ∷ c ∷ ws) part at h = absurd (omega arith)

one_count : (node pair ws marks : Words) (at : ℕ) → length node ≡ 3 → length pair ≡ 2
    → counts_as (node ++ ws) (pair ++ marks) at ≡ pick (eqb (get_or node 2 0) (size_in (get_or pair 0 0))) (counts_as ws marks (at + 3)) (refused 34 (at + 2))
unfolding counts_as
one_count (t ∷ v ∷ c ∷ []) (w ∷ u ∷ []) ws marks at h k = refl
one_count [] pair ws marks at h k = absurd (omega arith)
one_count (t ∷ []) pair ws marks at h k = absurd (omega arith)
one_count (t ∷ v ∷ []) pair ws marks at h k = absurd (omega arith)
one_count (t ∷ v ∷ c ∷ d ∷ node) pair ws marks at h k = absurd (omega arith)
one_count (t ∷ v ∷ c ∷ []) [] ws marks at h k = absurd (omega arith)
one_count (t ∷ v ∷ c ∷ []) (w ∷ []) ws marks at h k = absurd (omega arith)
one_count (t ∷ v ∷ c ∷ []) (w ∷ u ∷ x ∷ pair) ws marks at h k = absurd (omega arith)

module _ {slip part ws marks : Words} {i : ℕ} (l : CountsLeft slip part ws marks i) where
  module _ (node rest pair others : Words) (ew : ws ≡ node ++ rest) (three : length node ≡ 3) (em : marks ≡ pair ++ others) (two : length pair ≡ 2) where
    count_here : answer (counts_as slip part 0) ≡ answer (pick (eqb (get_or node 2 0) (size_in (get_or pair 0 0))) (counts_as rest others (3 * i + 3)) (refused 34 (3 * i + 2)))
    count_here = l.left ∙ rw (ew, em) (ap answer (one_count node pair rest others (3 * i) three two))

    pub count_wrong : {n : ℕ} → n ≡ size_in (get_or pair 0 0) → (get_or node 2 0 ≡ n → ⊥) → Err (34, 3 * i + 2) ≡ answer (counts_as slip part 0)
    count_wrong {n} en h = sym (count_here ∙ rw (sym en, ne_eqb (get_or node 2 0) n h))

    pub count_more : {n : ℕ} → n ≡ size_in (get_or pair 0 0) → get_or node 2 0 ≡ n → CountsLeft slip part rest others (i + 1)
    count_more {n} en h =
        let z : 3 * i + 3 ≡ 3 * (i + 1) = omega arith in
        let a = ap length ew ∙ length-append node rest in
        let b = ap length em ∙ length-append pair others in
        record { left = count_here ∙ rw (sym en, eq-eqb (get_or node 2 0) n h, z); nodes = omega (arith, l.nodes); pairs = omega (arith, l.pairs) }

  pub count_end : length ws < 3 → Ok (3 * (length slip / 3)) ≡ answer (counts_as slip part 0)
  count_end h =
      let same : length slip / 3 ≡ i = omega (arith, l.nodes) in
      rw same (sym (l.left ∙ rw (few_left ws marks (3 * i) h)))

-- THREE WORDS OF A SLIP

pub drop_three : (ws : Words) (i : ℕ) → 3 * i + 3 ≤ length ws → drop (3 * i) ws ≡ get_or ws (3 * i) 0 ∷ get_or ws (3 * i + 1) 0 ∷ get_or ws (3 * i + 2) 0 ∷ drop (3 * (i + 1)) ws
drop_three ws i h =
    let z : suc (3 * i + 2) ≡ 3 * (i + 1) = omega arith in
    drop_pair ws (3 * i) (omega arith) ∙ ap (λ l. get_or ws (3 * i) 0 ∷ get_or ws (3 * i + 1) 0 ∷ l) (drop-cons ws (3 * i + 2) 0 (omega arith) ∙ ap (λ k. get_or ws (3 * i + 2) 0 ∷ drop k ws) z)

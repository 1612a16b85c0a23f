-- A sequence is cut: its first elements moved away, its last left out; and that this is what select says. Assumes nothing.
use Rattle.tables.specs.declared.types.Types.{Types}
use Rattle.sequences.proofs.Sealing.{ok_is, no_ok}
use Rattle.std.specs.Prelude.{Result, Ok, Err}
use Prim.Native.Nat.{ℕ, zero, suc, ◌+◌, ◌-◌, ◌*◌, ◌≤◌, ◌<◌, min, max}
use mathlib.Core.Path.{◌≡◌, sym, ap, ◌∙◌, subst}
use mathlib.Core.List.{List, [], ◌∷◌, ◌++◌, append_assoc}
use native.Mathlib.Omega.{arith}
use lib.ListN.{length, get_or, take, drop, length-drop, take-append-drop}
use lib.Seq.{take_at, drop_at, take-nil, length-take-le}
use Rattle.words.specs.Reader.{Words}
use Rattle.grammar.specs.Grammar.{Grammar}
use Rattle.tree.specs.Limits.{most_nodes, most_nesting}
use Rattle.tree.specs.Tree.{size, nesting}
use Rattle.tree.specs.Sequences.{element_of, sequence_of, EachTree}
use Rattle.tree.proofs.Sequences.{each_take, sequence_size, sequence_trees, rest_nesting}
use Rattle.meaning.specs.Limits.{most_live}
use Rattle.meaning.specs.Edits.{selected}
use Rattle.marks.specs.Marked.{type_in}
use Rattle.rewrite.specs.Arena.{Standing}
use Rattle.sequences.specs.Listed.{Listed, before, Walks, Loosened, Made, Finishes, FrontCut, Selects}
use Rattle.sequences.specs.declared.Walked.{Walked}
use Rattle.sequences.proofs.Listing.{before_more, before_none, listed_as, listed_nodes, listed_later, listed_root}
use Rattle.sequences.proofs.Sealing.{limits_none}
use Rattle.sequences.proofs.Joining.{made_from, made_many}

-- THE FRONT

pub front_cut : (w w' : Words) (base n k : ℕ) (r : Walked) → base + 2 * n ≤ length w → Walks w base n k r → length w' ≡ length w
    → w' ≡ take base w ++ take (2 * (n - r.node)) (drop (base + 2 * r.node) w) ++ drop (base + 2 * (n - r.node)) w → FrontCut w w' base n k (n - r.node)
front_cut w w' base n k r room x long e =
    let i = r.node in
    let m = n - i in
    let a = take base w in
    let b = take (2 * m) (drop (base + 2 * i) w) in
    let c = drop (base + 2 * m) w in
    let la : length a ≡ base = length-take-le base w (omega arith) in
    let lb : length b ≡ 2 * m = length-take-le (2 * m) (drop (base + 2 * i) w) (omega (arith, length-drop (base + 2 * i) w, x.high)) in
    let whole : w' ≡ a ++ (b ++ c) = e ∙ append_assoc a b c in
    let there : take (2 * m) (drop base w') ≡ b = ap (λ l. take (2 * m) (drop base l)) whole ∙ ap (take (2 * m)) (drop_at a (b ++ c) base la) ∙ take_at b c (2 * m) lb in
    record {
      long = long;
      fewer = omega arith;
      below = ap (take base) whole ∙ take_at a (b ++ c) base la;
      front_cut = λ g t es l.
          let q = (x.walked g t es l).0 in
          let parts : Listed g w base n t (take k es ++ drop k es) = subst (Listed g w base n t) (sym (take-append-drop k es)) l in
          let later : Listed g w (base + 2 * before (take k es)) (n - before (take k es)) t (drop k es) = listed_later (take k es) (drop k es) parts in
          let here : Listed g w (base + 2 * i) (n - i) t (drop k es) = subst (λ j. Listed g w (base + 2 * j) (n - j) t (drop k es)) (sym q) later in
          listed_as here there;
    }

-- WHAT SELECT SAYS

take_cap : (n : ℕ) (es : List Words) → take (min n (length es)) es ≡ take n es
take_cap zero es = ap (λ k. take k es) (let z : min 0 (length es) ≡ 0 = omega arith in z)
take_cap (suc n) [] = take-nil (min (suc n) 0)
take_cap (suc n) (e ∷ es) =
    let z : min (suc n) (suc (length es)) ≡ suc (min n (length es)) = omega arith in
    ap (λ k. take k (e ∷ es)) z ∙ ap (λ l. e ∷ l) (take_cap n es)

select_most : (b c l k : ℕ) → k ≡ l - c → suc (min b l) - suc c ≡ min (b - c) k
select_most b c l k e = omega arith

select_first : (c : ℕ) → max (suc c) 1 ≡ suc c
select_first c = omega arith

-- the first are dropped, then as many taken as are left up to the last
pub selected_is : (a b : ℕ) (es : List Words) → selected a b es ≡ take (b - (a - 1)) (drop (a - 1) es)
unfolding selected
selected_is zero b es =
    let n = select_most b 0 (length es) (length es) (omega arith) in
    ap (λ i. take i es) n ∙ take_cap (b - 0) es
selected_is (suc c) b es =
    let s : suc c - 1 ≡ c = omega arith in
    let n = select_most b c (length es) (length (drop c es)) (length-drop c es) in
    ap (λ i. take (suc (min b (length es)) - i) (drop (i - 1) es)) (select_first c)
    ∙ ap (λ i. take (suc (min b (length es)) - suc c) (drop i es)) s ∙ ap (λ i. take i (drop c es)) n ∙ take_cap (b - c) (drop c es)
    ∙ ap (λ i. take (b - i) (drop i es)) (sym s)

-- as many nodes, so all elements
take_all : (k : ℕ) (es : List Words) → before (take k es) ≡ before es → take k es ≡ es
take_all k [] h = take-nil k
take_all zero (e ∷ es) h = absurd (omega (arith, before_more e es, before_none))
take_all (suc k) (e ∷ es) h = ap (λ l. e ∷ l) (take_all k es (omega (arith, before_more e es, before_more e (take k es))))

-- SELECTED

module _ (types : Types) (w w₁ : Words) (base n a b under besides skip m t most : ℕ) (held : besides + n ≤ most_live) (et : t ≡ type_in (get_or w base 0)) (es : skip ≡ a - 1) (f : FrontCut w w₁ base n skip m) (em : most ≡ b - skip)
    (r : Walked) (x : Walks w₁ base m most r) where
  -- the elements that are left
  abbrev kept : List Words → List Words
  kept es = take most (drop skip es)

  kept_is : (es : List Words) → selected a b es ≡ kept es
  kept_is fs = selected_is a b fs ∙ ap (λ k. take (b - k) (drop k fs)) (sym es) ∙ ap (λ k. take k (drop skip fs)) (sym em)

  kept_each : {g : Grammar} {k : ℕ} (es : List Words) → Listed g w base n k es → EachTree g (element_of g k) (kept es)
  kept_each {g} {k} es l = each_take g (element_of g k) most (drop skip es) (f.front_cut g k es l).each

  kept_before : {g : Grammar} {k : ℕ} (es : List Words) → Listed g w base n k es → r.node ≡ before (kept es)
  kept_before {g} {k} es l = (x.walked g k (drop skip es) (f.front_cut g k es l)).0

  kept_size : {g : Grammar} {k : ℕ} (es : List Words) → Listed g w base n k es → size (sequence_of k (selected a b es)) ≡ suc r.node
  kept_size {g} {k} es l = ap (λ fs. size (sequence_of k fs)) (kept_is es) ∙ sequence_size g (element_of g k) k (kept es) (kept_each es l) ∙ ap suc (sym (kept_before es l))

  pub selected_many : {number : ℕ} → (most_nodes < under + (r.node + 1)) × (number ≡ 42) → Selects types w w₁ base n a b under besides (Err number)
  selected_many h = record {
    long = f.long;
    few = λ z. absurd (no_ok z);
    fits = λ z. absurd (no_ok z);
    meant = λ g k es tb deep l. made_many h.1 f.below (omega (arith, h.0, kept_size es l));
  }

  -- nothing is cut off at the end: what is left stands there
  pub selected_whole : under + (r.node + 1) ≤ most_nodes → r.node + 1 ≡ m → Selects types w w₁ base n a b under besides (Ok (r.node + 1))
  selected_whole h whole = record {
    long = f.long;
    few = λ z. omega (arith, ok_is z);
    fits = λ z. omega (arith, ok_is z, f.fewer);
    meant = λ g k es tb deep l.
        let fs = drop skip es in
        let cut = f.front_cut g k es l in
        let all : kept es ≡ fs = take_all most fs (omega (arith, kept_before es l, listed_nodes cut)) in
        let flat : nesting g (sequence_of k fs) ≤ most_nesting = omega (arith, rest_nesting g k l.is skip es l.each) in
        let within = limits_none g under besides (sequence_of k fs) (omega (arith, cut.nodes)) flat (omega (arith, cut.nodes, f.fewer)) in
        let there : Standing g w₁ base m k (sequence_of k fs) = record { tree = record { typed = sequence_trees g k l.is fs cut.each; nodes = omega (arith, cut.nodes); nested = flat }; nodes = cut.nodes; words = cut.words } in
        let made : Made g w w₁ base under besides k (sequence_of k fs) (Ok (r.node + 1)) = record { below = f.below; made = (within, rw whole there) } in
        subst (λ gs. Made g w w₁ base under besides k (sequence_of k gs) (Ok (r.node + 1))) (sym (kept_is es ∙ all)) made;
  }

  pub selected_there : under + (r.node + 1) ≤ most_nodes → (w₂ w₃ : Words) (p : Result ℕ ℕ) → Loosened w₁ w₂ base r.node → Finishes types w₂ w₃ t base r.node besides p → Selects types w w₃ base n a b under besides p
  selected_there h w₂ w₃ p l s = record {
    long = s.long ∙ l.long ∙ f.long;
    few = s.few;
    fits = s.fits;
    meant = λ g k es tb deep y.
        let root : t ≡ k = et ∙ listed_root y in
        let fs = drop skip es in
        let cut = f.front_cut g k es y in
        let way = l.loosened g m k (take most fs) (drop most fs) (rw (take-append-drop most fs) cut) (kept_before es y) in
        let z : Made g w₂ w₃ base under besides t (sequence_of t (kept es)) p =
        s.meant g under (kept es) tb (rw root y.is) (rw root (kept_each es y)) (kept_before es y) (omega arith) (rw root way) in
        let made : Made g w₂ w₃ base under besides k (sequence_of k (selected a b es)) p = rw kept_is (rw root at z) in
        made_from (l.below ∙ f.below) made;
  }

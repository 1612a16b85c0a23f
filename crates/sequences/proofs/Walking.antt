-- The walk along a sequence: where the rest begins, as what was passed and the definition at what is left. Assumes nothing.
use Prim.Native.Nat.{ℕ, suc, ◌+◌, ◌-◌, ◌*◌, ◌≤◌, ◌<◌, min}
use mathlib.Core.Path.{◌≡◌, sym, ap, ◌∙◌}
use mathlib.Core.List.{List, [], ◌∷◌}
use native.Mathlib.Omega.{arith}
use lib.ListN.{length, get_or, take}
use lib.Seq.{take-nil}
use Rattle.words.specs.Reader.{Words}
use Rattle.grammar.specs.Grammar.{Grammar}
use Rattle.tree.specs.Tree.{size}
use Rattle.marks.specs.Marked.{size_in}
use Rattle.sequences.specs.Listed.{Listed, before, Walks}
use Rattle.sequences.specs.declared.Walked.{Walked}
use Rattle.sequences.proofs.Listing.{before_more, before_none, listed_last, listed_value, listed_size, listed_more, listed_room}

-- the rest with the elements fs begins at the node; what is to be passed yet
pub record Left (g : Grammar) (w : Words) (base n most node passed t : ℕ) (es : List Words) : Type 0 where
  pub fs : List Words
  pub rest : Listed g w (base + 2 * node) (n - node) t fs
  pub node_is : node + before (take (most - passed) fs) ≡ before (take most es)
  pub passed_is : passed + min (most - passed) (length fs) ≡ min most (length es)

pub record Walking (w : Words) (base n most node passed : ℕ) : Type 0 where
  pub high : node ≤ n
  pub few : passed ≤ node
  pub short : passed ≤ most
  pub left : (g : Grammar) (t : ℕ) (es : List Words) → Listed g w base n t es → Left g w base n most node passed t es

pub walking_start : (w : Words) (base n most : ℕ) → Walking w base n most 0 0
walking_start w base n most = record {
  high = omega arith;
  few = omega arith;
  short = omega arith;
  left = λ g t es x.
      let z : base + 2 * 0 ≡ base = omega arith in
      let m : most - 0 ≡ most = omega arith in
      let k : n - 0 ≡ n = omega arith in
      let a : before (take (most - 0) es) ≡ before (take most es) = ap (λ i. before (take i es)) m in
      record { fs = es; rest = rw (z, k) x; node_is = omega arith; passed_is = omega arith };
}

-- the elements to be passed, if there are none
take_before : (k : ℕ) → before (take k []) ≡ 0
take_before k = ap before (take-nil k) ∙ before_none

module _ (w : Words) (base n most node passed : ℕ) (x : Walking w base n most node passed) where
  abbrev p : ℕ
  p = base + 2 * node

  abbrev here : Walked
  here = record { node = node; passed = passed }

  -- no more are to be passed
  pub walking_done : most ≤ passed → Walks w base n most here
  walking_done h = record {
    high = x.high;
    few = x.few;
    walked = λ g t es l.
        let y = x.left g t es l in
        let z : most - passed ≡ 0 = omega (arith, x.short) in
        let a : before (take (most - passed) y.fs) ≡ 0 = ap (λ i. before (take i y.fs)) z ∙ before_none in
        (omega (arith, y.node_is), omega (arith, y.passed_is));
  }

  -- the last node
  pub walking_last : (v : ℕ) → v ≡ get_or w (p + 1) 0 → (v ≡ 0 → ⊥) → Walks w base n most here
  walking_last v e h = record {
    high = x.high;
    few = x.few;
    walked = λ g t es l. let y = x.left g t es l in go g t es y.fs y.rest y.node_is y.passed_is;
  }
    where
      go : (g : Grammar) (t : ℕ) (es fs : List Words) → Listed g w p (n - node) t fs → node + before (take (most - passed) fs) ≡ before (take most es) → passed + min (most - passed) (length fs) ≡ min most (length es)
          → (node ≡ before (take most es)) × (passed ≡ min most (length es))
      go g t es [] r a b = (omega (arith, take_before (most - passed)), omega arith)
      go g t es (f ∷ fs) r a b = absurd (h (e ∙ listed_value f fs r))

  module _ (m next : ℕ) (em : m ≡ size_in (get_or w (p + 2) 0)) (en : next ≡ node + 1 + m) (v : ℕ) (ev : v ≡ get_or w (p + 1) 0) (zero_there : v ≡ 0) (to_pass : passed < most) where
    -- an element that does not end there is none
    pub walking_past : n < next → Walks w base n most here
    walking_past h = record {
      high = x.high;
      few = x.few;
      walked = λ g t es l. let y = x.left g t es l in go g t es y.fs y.rest;
    }
      where
        go : (g : Grammar) (t : ℕ) (es fs : List Words) → Listed g w p (n - node) t fs → (node ≡ before (take most es)) × (passed ≡ min most (length es))
        go g t es [] r = let z : ◌≡◌ {A = ℕ} 0 1 = sym zero_there ∙ ev ∙ listed_last r in absurd (omega arith)
        go g t es (f ∷ fs) r = absurd (omega (arith, listed_room f fs r, listed_size f fs r))

    -- an element is passed
    pub walking_more : next ≤ n → Walking w base n most next (passed + 1)
    walking_more h = record {
      high = h;
      few = omega (arith, x.few);
      short = omega arith;
      left = λ g t es l. let y = x.left g t es l in go g t es y.fs y.rest y.node_is y.passed_is;
    }
      where
        go : (g : Grammar) (t : ℕ) (es fs : List Words) → Listed g w p (n - node) t fs → node + before (take (most - passed) fs) ≡ before (take most es) → passed + min (most - passed) (length fs) ≡ min most (length es)
            → Left g w base n most next (passed + 1) t es
        go g t es [] r a b = let z : ◌≡◌ {A = ℕ} 0 1 = sym zero_there ∙ ev ∙ listed_last r in absurd (omega arith)
        go g t es (f ∷ fs) r a b =
            let s : m ≡ size f = em ∙ listed_size f fs r in
            let q : most - passed ≡ suc (most - (passed + 1)) = omega arith in
            let c : before (take (most - passed) (f ∷ fs)) ≡ 1 + size f + before (take (most - (passed + 1)) fs) = ap (λ i. before (take i (f ∷ fs))) q ∙ before_more f (take (most - (passed + 1)) fs) in
            let place : p + 2 * (1 + size f) ≡ base + 2 * next = omega arith in
            let many : n - node - (1 + size f) ≡ n - next = omega arith in
            record { fs = fs; rest = rw (place, many) at (listed_more f fs r); node_is = omega arith; passed_is = omega arith }

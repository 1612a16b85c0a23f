-- The marks of a sequence's own nodes taken off, one after the other: what is under way then, and the rest, which stands. Assumes nothing.
use Prim.Native.Nat.{ℕ, suc, ◌+◌, ◌-◌, ◌*◌, ◌≤◌, ◌<◌}
use mathlib.Core.Path.{◌≡◌, refl, sym, ap, ap₂, ◌∙◌}
use mathlib.Core.List.{List, [], ◌∷◌, ◌++◌, append_assoc, append-nil}
use native.Mathlib.Omega.{arith}
use lib.ListN.{length, get_or, take, drop, set, length-set, take-append-drop}
use lib.Seq.{take-set-le, drop-set-lt, set_split, drop-drop}
use Rattle.words.specs.Reader.{Words}
use Rattle.words.proofs.Stretches.{drop_pair}
use Rattle.grammar.specs.Grammar.{Grammar}
use Rattle.tree.specs.Tree.{size}
use Rattle.tree.specs.Sequences.{spine}
use Rattle.marks.specs.Marked.{type_in, size_in, UnderWay, nothing}
use Rattle.sequences.specs.Listed.{Listed, before, Loosened}
use Rattle.sequences.proofs.Listing.{before_append, before_more, before_none, listed_as, listed_nodes, listed_root, listed_value, listed_size, listed_element, listed_more}
use Rattle.sequences.proofs.Growing.{grown_element}

-- a sequence behind a word that changes
listed_set : {g : Grammar} {w : Words} {p n t : ℕ} {es : List Words} → Listed g w p n t es → (q x : ℕ) → q < p → Listed g (set w q x) p n t es
listed_set {w = w} {p} {n} l q x h = listed_as l (ap (take (2 * n)) (drop-set-lt p w q x h))

-- a node of value 0, written anew without its mark
written_anew : (w : Words) (q t m : ℕ) → q + 2 ≤ length w → get_or w (q + 1) 0 ≡ 0 → set w q t ≡ take q w ++ (t ∷ 0 ∷ (take m (drop (q + 2) w) ++ drop (q + 2 + m) w))
written_anew w q t m h z =
    let one : suc q ≡ q + 1 = omega arith in
    let a : drop (suc q) w ≡ get_or w (q + 1) 0 ∷ drop (q + 2) w = ap (λ k. drop k w) one ∙ sym (drop-drop 1 q w) ∙ ap (drop 1) (drop_pair w q h) in
    let b : drop (q + 2) w ≡ take m (drop (q + 2) w) ++ drop (q + 2 + m) w = sym (take-append-drop m (drop (q + 2) w)) ∙ ap (λ l. take m (drop (q + 2) w) ++ l) (drop-drop m (q + 2) w) in
    set_split w q t (omega arith) ∙ ap (λ l. take q w ++ t ∷ l) (a ∙ ap₂ (λ v l. v ∷ l) z b)

-- i nodes are under way, of the elements `done`; those of `more` are to come
pub record LoosenLeft (g : Grammar) (w : Words) (base n i t : ℕ) (es fs : List Words) : Type 0 where
  pub done : List Words
  pub more : List Words
  pub all : es ≡ done ++ more
  pub node_is : i ≡ before done
  pub rest : Listed g w (base + 2 * i) (n - i) t (more ++ fs)
  pub under : UnderWay g (take (2 * i) (drop base w)) (spine t done)

pub record Loosening (w₀ w : Words) (base k i : ℕ) : Type 0 where
  pub long : length w ≡ length w₀
  pub below : take base w ≡ take base w₀
  pub near : i < 8192
  pub left : (g : Grammar) (n t : ℕ) (es fs : List Words) → Listed g w₀ base n t (es ++ fs) → k ≡ before es → LoosenLeft g w base n i t es fs

pub loosening_start : (w : Words) (base k : ℕ) → Loosening w w base k 0
unfolding spine
loosening_start w base k = record {
  long = refl;
  below = refl;
  near = omega arith;
  left = λ g n t es fs x e.
      let z : base + 2 * 0 ≡ base = omega arith in
      let m : n - 0 ≡ n = omega arith in
      record { done = []; more = es; all = refl; node_is = sym before_none; rest = rw (z, m) x; under = nothing };
}

module _ (w₀ w : Words) (base k i : ℕ) (x : Loosening w₀ w base k i) where
  -- all nodes are under way
  pub loosening_end : k ≤ i → Loosened w₀ w base k
  loosening_end h = record {
    long = x.long;
    below = x.below;
    loosened = λ g n t es fs l e. let y = x.left g n t es fs l e in go g n t es fs e y.done y.more y.all y.node_is y.under;
  }
    where
      go : (g : Grammar) (n t : ℕ) (es fs : List Words) → k ≡ before es → (done more : List Words) → es ≡ done ++ more → i ≡ before done → UnderWay g (take (2 * i) (drop base w)) (spine t done)
          → UnderWay g (take (2 * k) (drop base w)) (spine t es)
      go g n t es fs e done [] a b u =
          let s : es ≡ done = a ∙ append-nil done in
          let d : k ≡ i = e ∙ ap before s ∙ sym b in
          rw (d, s) u
      go g n t es fs e done (f ∷ more) a b u = absurd (omega (arith, ap before a, before_append done (f ∷ more), before_more f more))

  module _ (m v : ℕ) (em : m ≡ size_in (get_or w (base + 2 * i + 2) 0)) (low : m < 4096) (ev : v ≡ type_in (get_or w (base + 2 * i) 0)) (room : base + 2 * k + 2 ≤ length w₀) where
    -- one more is
    pub loosening_more : k ≤ 2048 → i < k → Loosening w₀ (set w (base + 2 * i) v) base k (i + 1 + m)
    loosening_more few h = record {
      long = length-set w (base + 2 * i) v ∙ x.long;
      below = take-set-le base w (base + 2 * i) v (omega arith) ∙ x.below;
      near = omega arith;
      left = λ g n t es fs l e. let y = x.left g n t es fs l e in go g n t es fs e y.done y.more y.all y.node_is y.rest y.under;
    }
      where
        go : (g : Grammar) (n t : ℕ) (es fs : List Words) → k ≡ before es → (done more : List Words) → es ≡ done ++ more → i ≡ before done → Listed g w (base + 2 * i) (n - i) t (more ++ fs)
            → UnderWay g (take (2 * i) (drop base w)) (spine t done) → LoosenLeft g (set w (base + 2 * i) v) base n (i + 1 + m) t es fs
        go g n t es fs e done [] a b r u = absurd (omega (arith, ap before a, before_append done [], before_none))
        go g n t es fs e done (f ∷ more) a b r u =
            let s : m ≡ size f = em ∙ listed_size f (more ++ fs) r in
            let tv : v ≡ t = ev ∙ listed_root r in
            let q = base + 2 * i in
            let anew = written_anew w q v (2 * size f) (omega (arith, x.long)) (listed_value f (more ++ fs) r) in
            let place : q + 2 * (1 + size f) ≡ base + 2 * (i + 1 + m) = omega arith in
            let many : n - i - (1 + size f) ≡ n - (i + 1 + m) = omega arith in
            record {
              done = done ++ f ∷ [];
              more = more;
              all = a ∙ sym (append_assoc done (f ∷ []) more);
              node_is = omega (arith, before_append done (f ∷ []), before_more f [], before_none);
              rest = listed_set (rw (place, many) at (listed_more f (more ++ fs) r)) q v (omega arith);
              under = grown_element w (set w q v) (drop (q + 2 + 2 * size f) w) base i t done (omega (arith, x.long)) u f (take (2 * size f) (drop (q + 2) w)) r.each.0 (listed_element f (more ++ fs) r)
                  (anew ∙ ap (λ a. take q w ++ a ∷ 0 ∷ (take (2 * size f) (drop (q + 2) w) ++ drop (q + 2 + 2 * size f) w)) tv) (i + 1 + m) (omega arith);
            }

-- ALL BUT THE LAST NODE are under way
module _ {g : Grammar} {w w' : Words} {base n t : ℕ} {es : List Words} (l : Loosened w w' base (n - 1)) (x : Listed g w base n t es) where
  pub last_is : n - 1 ≡ before es
  last_is = omega (arith, listed_nodes x)

  pub loosened_all : UnderWay g (take (2 * (n - 1)) (drop base w')) (spine t es)
  loosened_all = l.loosened g n t es [] (rw append-nil x) last_is

-- Laws of a stretch of pairs: where it lies, and that its pairs are typed. Assumes nothing.
use Prim.Native.Nat.{ℕ, suc, ◌+◌, ◌*◌, ◌≤◌, ◌-◌}
use mathlib.Core.Path.{◌≡◌, refl, sym, ap, ◌∙◌}
use mathlib.Core.List.{[], ◌∷◌}
use mathlib.Core.Bool.{true}
use native.Mathlib.Omega.{arith}
use lib.ListN.{length, get_or, drop, length-take, length-drop, take}
use lib.Dec.{leb}
use borrow.Author.Tests.{leb-true}
use Rattle.words.specs.Reader.{Words, pick, value, refused, accepted}
use Rattle.words.proofs.Laws.{then_value, pick_value, in_value, accepted_value}
use Rattle.grammar.specs.Grammar.{Grammar}
use Rattle.tree.specs.Dues.{whole}
use Rattle.rules.specs.Limits.{most_pairs}
use Rattle.rules.specs.Rules.{Rules}
use Rattle.rules.specs.Layout.{stretch, field, pairs}
use Rattle.judgement.specs.Typing.{Place, Due, Context, meets, typed}
use Rattle.std.specs.Prelude.{Result}
use Rattle.pairs.specs.Views.{typed_as}

-- A STRETCH OF PAIRS

-- where pairs are read: their count stands at the position, and they lie within the words
pub record Stretch (ws : Words) (at n : ℕ) : Type 0 where
  pub after : n ≡ at + 1 + 2 * get_or ws at 0
  pub within : n ≤ length ws
  pub few : get_or ws at 0 ≤ 128
  pub read : pairs ws at ≡ value at n

pub stretch_accepted : {ws : Words} {at n : ℕ} → Stretch ws at n → accepted (pairs ws at) ≡ true
stretch_accepted s = rw s.read

pub pairs_shape : (ws : Words) (at p n : ℕ) → pairs ws at ≡ value p n → (p ≡ at) × Stretch ws at n
unfolding pairs field
pairs_shape ws at p n e =
    let u = then_value (field ws 1 most_pairs at) (λ k next. pick (leb (next + 2 * k) (length ws)) (value at (next + 2 * k)) (refused 20 (length ws))) e in
    let w = in_value 20 21 ws 1 most_pairs at u.2 in
    let v = pick_value (leb (u.1 + 2 * u.0) (length ws)) at p (u.1 + 2 * u.0) 20 (length ws) n u.3 in
    let l = leb-true (u.1 + 2 * u.0) (length ws) v.0 in
    let k : get_or ws at 0 ≡ u.0 = sym w.0 in
    (sym v.1, record { after = rw (k, ← w.1) (sym v.2); within = rw v.2 at l; few = rw k w.3; read = e ∙ ap (λ x. value x n) (sym v.1) })

pub stretch_inside : (ws : Words) (at : ℕ) → accepted (pairs ws at) ≡ true → Stretch ws at (at + 1 + 2 * get_or ws at 0)
stretch_inside ws at a =
    let u = accepted_value (pairs ws at) a in
    let s = (pairs_shape ws at u.0 u.1 u.2).1 in
    record { after = refl; within = rw s.after at s.within; few = s.few; read = s.read ∙ ap (value at) s.after }

pub stretch_length : (ws : Words) (at n : ℕ) → Stretch ws at n → length (stretch ws at) ≡ 2 * get_or ws at 0
unfolding stretch
stretch_length ws at n s = length-take (2 * get_or ws at 0) (drop (at + 1) ws) ∙ omega (arith, length-drop (at + 1) ws, s.after, s.within)

pub stretch_few : {ws : Words} {at n w : ℕ} → Stretch ws at n → w ≡ get_or ws at 0 → length (take (at + 1 + 2 * w - (at + 1)) (drop (at + 1) ws)) ≤ 256
stretch_few {ws} {at} {n} {w} s e = omega (arith, s.few, length-take (at + 1 + 2 * w - (at + 1)) (drop (at + 1) ws))

pub stretch_typed : (g : Grammar) (rules : Rules) (ws : Words) (here : Place) (d : Due) (Γ : Context) (at w : ℕ) {r : Result (Context × ℕ) (ℕ × ℕ)} → w ≡ get_or ws at 0
    → r ≡ typed_as (whole (meets g rules here) 23 (take (at + 1 + 2 * w - (at + 1)) (drop (at + 1) ws)) (d ∷ []) Γ (at + 1)) → r ≡ typed_as (typed g rules ws here d Γ at)
unfolding typed stretch
stretch_typed g rules ws here d Γ at w e t =
    let y : suc at ≡ at + 1 = omega arith in
    let z : at + 1 + 2 * w - (at + 1) ≡ 2 * get_or ws at 0 = omega arith in
    rw y (rw z at t)

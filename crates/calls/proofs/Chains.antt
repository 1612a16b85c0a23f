-- Chains of applications, as their pairs are read one after the other. Assumes nothing.
use Prim.Native.Nat.{ℕ, zero, suc, ◌+◌, ◌-◌, ◌*◌, ◌<◌, ◌≤◌}
use mathlib.Core.Path.{◌≡◌, refl, ap}
use mathlib.Core.List.{[], ◌∷◌}
use mathlib.Core.Bool.{Bool, true, false}
use native.Mathlib.Omega.{arith}
use native.Mathlib.Nat.{add-zero}
use lib.ListN.{length, get_or, drop}
use lib.Seq.{drop-drop, get_or-drop}
use lib.Dec.{leb, eqb}
use borrow.Author.Tests.{leb-true}
use Rattle.words.specs.Reader.{Words, and, between}
use Rattle.words.proofs.Laws.{and_both}
use Rattle.rules.specs.Limits.{mark_chain}
use Rattle.rules.specs.Rules.{Application, applied, arguments, applications, pairs_in, applications_written, chain_written, unreadable, chain_of, condition_of}
use Rattle.calls.specs.Engine.{chain_at}
use Rattle.rules.proofs.Plans.{count_is}
use Rattle.judgement.proofs.Chains.{arguments_length}

chain_few : (ws : Words) → chain_written ws ≡ true → get_or ws 0 0 ≤ 4
unfolding chain_written
chain_few [] e = omega arith
chain_few (k ∷ []) e = let z : ◌≡◌ {A = ℕ} 0 1 = cc in absurd (omega arith)
chain_few (k ∷ z ∷ ws) e = leb-true k 4 (and_both (leb 1 k) (leb k 4) (and_both (between 1 4 k) (and (eqb z 0) (applications_written k ws)) e).0).1

-- the chain of a condition that can be read, its count after the pair before it
chain_read : (t v : ℕ) (ws : Words) → (chain_of ws ≡ unreadable → ⊥) → chain_of ws ≡ chain_at (t ∷ v ∷ ws) 2
unfolding chain_of
chain_read t v ws = go (chain_written ws) (chain_few ws)
  where
    go : (b : Bool) → (b ≡ true → get_or ws 0 0 ≤ 4) → (elim b [ true ↦ applications (get_or ws 0 0) (drop 2 ws) | false ↦ unreadable ] ≡ unreadable → ⊥)
        → elim b [ true ↦ applications (get_or ws 0 0) (drop 2 ws) | false ↦ unreadable ] ≡ chain_at (t ∷ v ∷ ws) 2
    go true h n = ap (λ k. applications k (drop 2 ws)) (count_is (t ∷ v ∷ ws) 2 (get_or ws 0 0) refl (h refl))
    go false h n = absurd (n refl)

pub condition_read : (ws : Words) → (condition_of ws ≡ unreadable → ⊥) → condition_of ws ≡ chain_at ws 2
unfolding condition_of
condition_read [] n = absurd (n refl)
condition_read (t ∷ []) n = absurd (n refl)
condition_read (t ∷ v ∷ ws) n = go (and (eqb t mark_chain) (leb (length ws) (2 + 2 * pairs_in (chain_of ws)))) n
  where
    go : (b : Bool) → (elim b [ true ↦ chain_of ws | false ↦ unreadable ] ≡ unreadable → ⊥) → elim b [ true ↦ chain_of ws | false ↦ unreadable ] ≡ chain_at (t ∷ v ∷ ws) 2
    go true n = chain_read t v ws n
    go false n = absurd (n refl)

-- ONE APPLICATION AND THE OTHERS

abbrev pub application_at : Words → ℕ → Application
application_at pairs at = record { applied = applied (get_or pairs at 0); arguments = arguments (get_or pairs (at + 1) 0) (drop (at + 2) pairs) }

-- where the next stands
abbrev pub next_at : Words → ℕ → ℕ
next_at pairs at = at + 2 + 2 * get_or pairs (at + 1) 0

pub applications_step : (pairs : Words) (at k : ℕ) → 0 < k → applications k (drop at pairs) ≡ application_at pairs at ∷ applications (k - 1) (drop (next_at pairs at) pairs)
unfolding applications
applications_step pairs at zero h = absurd (omega arith)
applications_step pairs at (suc k) h =
    let z : suc k - 1 ≡ k = omega arith in
    let n : at + (2 + 2 * get_or pairs (at + 1) 0) ≡ next_at pairs at = omega arith in
    rw (z, get_or-drop at pairs 0 0, get_or-drop at pairs 1 0, drop-drop 2 at pairs, drop-drop (2 + 2 * get_or pairs (at + 1) 0) at pairs, add-zero at, n)

pub pairs_step : (pairs : Words) (at k : ℕ) → 0 < k → at + 2 * pairs_in (applications k (drop at pairs)) ≡ next_at pairs at + 2 * pairs_in (applications (k - 1) (drop (next_at pairs at) pairs))
unfolding pairs_in
pairs_step pairs at k h =
    let e = ap pairs_in (applications_step pairs at k h) in
    omega (arith, e, arguments_length (get_or pairs (at + 1) 0) (drop (at + 2) pairs))

-- No computation of the meaning stops by 0, so that 0 can say that none did: the instance of Related.antt with equal states, where every stop is kept and has a
-- number. Assumes nothing.
use Prim.Native.Nat.{ℕ, zero, suc, ◌≤◌, ◌<◌}
use mathlib.Core.Path.{◌≡◌, refl}
use mathlib.Core.Bool.{Bool}
use native.Mathlib.Omega.{arith}
use native.Mathlib.Nat.{le_refl}
use Rattle.words.specs.Reader.{Words}
use Rattle.grammar.specs.Grammar.{Grammar}
use Rattle.rules.specs.Rules.{Rule, Rules}
use Rattle.meaning.specs.declared.State.{State}
use Rattle.meaning.specs.Computation.{Result, stop, spend_of, spend}
use Rattle.meaning.specs.Meaning.{Bindings, seek, calls}
use Rattle.meaning.proofs.Related.{Related, goes, stops, free, sticks, Never, Respects, seek_related, calls_related}

abbrev Same : State → State → Type 0
Same l m = l ≡ m

abbrev Positive : ℕ → State → Type 0
Positive n l = 0 < n

-- a stop has a number
abbrev pub Numbered : {A : Type 0} → Result A → Type 0
Numbered x = Related Same Never Positive x x

pub stop_number : {A : Type 0} {x y : Result A} {n : ℕ} {l : State} → Related Same Never Positive x y → x ≡ stop n l → 0 < n
stop_number (goes r) e = let z : ◌≡◌ {A = ℕ} 0 1 = cc in absurd (omega arith)
stop_number {n = n} (stops {n = k} h r) e = let z : k ≡ n = cc in omega (arith, z, h)
stop_number (free h) e = absurd h
stop_number sticks e = let z : ◌≡◌ {A = ℕ} 0 1 = cc in absurd (omega arith)

-- SPENDING AN ATTEMPT

spends_of : (a : ℕ) (l : State) → Numbered (spend_of a l)
unfolding spend_of
spends_of zero l = stops {n = 40} {l = l} (omega arith) refl
spends_of (suc a) l = goes refl

spends : (l : State) → Numbered (spend l)
unfolding spend
spends l = spends_of l.attempts l

keeps_positive : (k : ℕ) (l : State) → 41 ≤ k → Positive k l
keeps_positive k l h = omega (arith, h)

respects_same : Respects Same Never Positive
respects_same = record {
  less = λ l m e. rw e (le_refl m.attempts);
  spends = λ l m e. rw e (spends m);
}

-- a search at any depth
pub sought_numbered : (strict : Bool) (g : Grammar) (rules : Rules) (depth : ℕ) (r : Rule) (ws : Words) (place : ℕ) (b : Bindings) (n : State)
    → Numbered (seek strict g rules (calls strict g rules depth) r ws place b n)
sought_numbered strict g rules depth r ws place b n =
    let below = calls_related Same Never Positive keeps_positive respects_same strict g rules depth in
    seek_related Same Never Positive keeps_positive respects_same strict g rules (calls strict g rules depth) (calls strict g rules depth) below r ws place b refl

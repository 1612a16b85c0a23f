-- THE SOUNDNESS THEOREM, by induction on how deep calls may nest. Assumes nothing.
use Prim.Native.Nat.{ℕ, zero, suc, ◌-◌}
use mathlib.Core.Path.{◌≡◌}
use mathlib.Core.List.{[]}
use mathlib.Core.Bool.{true, false}
use native.Mathlib.Omega.{arith}
use native.Mathlib.Nat.{le_refl}
use Rattle.grammar.specs.Grammar.{Grammar}
use Rattle.rules.specs.Rules.{Rules}
use Rattle.judgement.specs.WellTyped.{Types, WellTyped}
use Rattle.meaning.specs.Limits.{most_calls}
use Rattle.meaning.specs.Computation.{initial}
use Rattle.meaning.specs.Meaning.{Ending, cannot_go_on, calls, run_from, run}
use Rattle.meaning.specs.Sound.{WellEnded, Soundness}
use Rattle.meaning.proofs.Safe.{stops}
use Rattle.meaning.proofs.Matching.{OfTypes, of_none}
use Rattle.meaning.proofs.Level.{SoundCalls, result_of_safe, call_matches_safe, call_sound}

module _ (g : Grammar) (rules : Rules) (typed : WellTyped g rules) where
  pub calls_sound : (depth : ℕ) → SoundCalls g rules (calls true g rules depth) (calls false g rules depth)
  unfolding calls
  calls_sound zero = record {
    rewriting = λ fit replaces besides n. stops {k = 41} (le_refl n.attempts) (omega arith) (omega arith);
    matching = λ fit besides n. stops {k = 41} (le_refl n.attempts) (omega arith) (omega arith);
  }
  calls_sound (suc depth) =
      let below = calls_sound depth in
      record {
        rewriting = λ fit replaces besides n. result_of_safe (call_sound g rules typed.each _ _ below fit replaces besides n);
        matching = λ fit besides n. call_matches_safe g rules typed.each _ _ below besides fit n;
      }

no_arguments : {g : Grammar} {ts : Types} → ts ≡ [] → OfTypes g ts []
no_arguments e = rw e of_none

pub soundness : Soundness
unfolding run run_from
soundness g rules typed tree is budget =
    rw typed.there
    (call_sound g rules typed.each _ _ (calls_sound g rules typed (most_calls - 1))
    (record { rule = typed.each 0 typed.first typed.there; arguments = no_arguments typed.main.bare; tree = is; reach = typed.main.scope })
    typed.main.replaces.1 0 (initial budget))

-- what ended well is not stuck
pub never_stuck : (e : Ending) → WellEnded e → e ≡ cannot_go_on → ⊥
never_stuck e well z = rw z at well

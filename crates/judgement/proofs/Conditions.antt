-- A condition's pairs are accepted exactly if they are one chain that fits. Assumes nothing.
use Prim.Native.Nat.{ℕ, suc, ◌+◌, ◌*◌, ◌≤◌}
use mathlib.Core.Path.{◌≡◌, refl, sym, ap, ◌∙◌}
use mathlib.Core.List.{List, [], ◌∷◌, ◌++◌}
use mathlib.Core.Bool.{Bool, true, false, cond}
use mathlib.Core.Option.{Option, none, some}
use native.Mathlib.Omega.{arith}
use lib.ListN.{length, get_or, get_elem?, drop, length-drop}
use lib.Dec.{ltb, leb, eqb}
use borrow.Author.Tests.{ltb-true, ltb-false, leb-true, leb-false, le-leb, lt-leb}
use Rattle.words.specs.Reader.{Words, and, and_then, ◌>>◌}
use Rattle.words.proofs.Laws.{there_some, past_none}
use Rattle.grammar.specs.Grammar.{Grammar}
use Rattle.tree.specs.Dues.{Next, first_word, second_word, leaves, whole}
use Rattle.tree.proofs.Dues.{plain, placed, done, bind, when, bind_when, when_none, exact}
use Rattle.rules.specs.Limits.{most_rules, mark_chain}
use Rattle.rules.specs.Rules.{Rules, Application, condition, pairs_in, chain_of, condition_of, unreadable}
use Rattle.judgement.specs.Typing.{in_condition, Due, a_chain, application_count, Context, meets}
use Rattle.judgement.specs.WellTyped.{Types, testing}
use Rattle.judgement.specs.Tested.{on_some, all_apply_of, part_of}
use Rattle.judgement.proofs.Accept.{meet, read, whole_read, leaving}
use Rattle.judgement.proofs.Chains.{chain_exact, unreadable_fails}

-- a variable's type, if it is there
pub read_variable : {A : Type 0} (Γ : Types) (x : ℕ) (f : ℕ → Option A) → on_some (get_elem? Γ x) f ≡ when (ltb x (length Γ)) (f (get_or Γ x 0))
unfolding on_some
read_variable {A} Γ x f = go (ltb x (length Γ)) refl
  where
    go : (b : Bool) → ltb x (length Γ) ≡ b → on_some (get_elem? Γ x) f ≡ when b (f (get_or Γ x 0))
    go true e = rw (there_some Γ x 0 (ltb-true x (length Γ) e))
    go false e = rw (past_none Γ x (ltb-false x (length Γ) e))

module _ (g : Grammar) (rules : Rules) (few : length rules ≤ most_rules) where
  abbrev run : Words → List Due → Context → Option Context
  run ws ds Γ = read g rules in_condition ws ds Γ

  -- the variables, if the applications fit a scope of type t
  abbrev fitting : Context → List Application → ℕ → Option Types
  fitting Γ apps t = cond (all_apply_of g rules Γ testing t apps) (some Γ) none

  -- the condition's first pair
  first_meet : (Γ : Context) (t v : ℕ) → meet g rules in_condition a_chain Γ t v ≡ when (eqb t mark_chain) (when (ltb v (length Γ)) (leaving Γ (application_count (get_or Γ v 0) ∷ [])))
  unfolding meet meets
  first_meet Γ t v = go (eqb t mark_chain) (ltb v (length Γ)) (application_count (get_or Γ v 0) ∷ [])
    where
      go : (a b : Bool) (ds : List Due) → done (and_then (first_word a 23 0) (λ u. ◌>>◌ (second_word b 22) (leaves Γ ds))) ≡ when a (when b (leaving Γ ds))
      go true true ds = refl
      go true false ds = refl
      go false b ds = refl

  -- no pairs behind the chain
  no_more : (ws : Words) (Γ : Context) → run ws [] Γ ≡ when (leb (length ws) 0) (some Γ)
  unfolding exact
  no_more [] Γ = refl
  no_more (t ∷ []) Γ = refl
  no_more (t ∷ v ∷ ws) Γ = rw (lt-leb (suc (suc (length ws))) 0 (omega arith))

  dropped : (n : ℕ) (ws : Words) → leb (length (drop n ws)) 0 ≡ leb (length ws) n
  dropped n ws = go (leb (length ws) n) refl
    where
      go : (b : Bool) → leb (length ws) n ≡ b → leb (length (drop n ws)) 0 ≡ b
      go true e = let z = leb-true (length ws) n e in le-leb (length (drop n ws)) 0 (omega (arith, length-drop n ws))
      go false e = let z = leb-false (length ws) n e in lt-leb (length (drop n ws)) 0 (omega (arith, length-drop n ws))

  bad : (Γ : Types) (x : ℕ) → none ≡ on_some (get_elem? Γ x) (fitting Γ unreadable)
  bad Γ x = rw (read_variable Γ x (fitting Γ unreadable), unreadable_fails g rules in_condition testing tt few Γ (get_or Γ x 0)) (when_none (ltb x (length Γ)))

  condition_exact : (negated : Bool) (ws : Words) (Γ : Context) → run ws (a_chain ∷ []) Γ ≡ part_of g rules Γ (condition negated (get_or ws 1 0) (condition_of ws))
  unfolding exact meet part_of condition_of
  condition_exact negated [] Γ = bad Γ 0
  condition_exact negated (t ∷ []) Γ = bad Γ 0
  condition_exact negated (t ∷ v ∷ ws) Γ = rw (first_meet Γ t v) (go (eqb t mark_chain) (leb (length ws) n) refl)
    where
      n : ℕ
      n = 2 + 2 * pairs_in (chain_of ws)

      -- the scope's type, and whether all of them apply to it
      s : ℕ
      s = get_or Γ v 0

      all : Bool
      all = all_apply_of g rules Γ testing s (chain_of ws)

      rest : Next Due Context → Option Context
      rest x = run ws (x.dues ++ []) x.known

      chosen : Bool → List Application
      chosen b = elim b as (λ x. List Application) [ true ↦ chain_of ws | false ↦ unreadable ]

      behind : (c : Bool) → leb (length ws) n ≡ c → run ws (application_count s ∷ []) Γ ≡ when all (when c (some Γ))
      behind c e = chain_exact g rules in_condition testing tt few s ws [] Γ ∙ ap (when all) (no_more (drop n ws) Γ ∙ ap (λ b. when b (some Γ)) (dropped n ws ∙ e))

      same : (a : Bool) → when a (some Γ) ≡ cond a (some Γ) none
      same true = refl
      same false = refl

      go : (a c : Bool) → leb (length ws) n ≡ c → bind (when a (when (ltb v (length Γ)) (leaving Γ (application_count s ∷ [])))) rest ≡ on_some (get_elem? Γ v) (fitting Γ (chosen (and a c)))
      go true true e =
          rw (read_variable Γ v (fitting Γ (chain_of ws)))
          (bind_when (ltb v (length Γ)) (leaving Γ (application_count s ∷ [])) rest ∙ ap (when (ltb v (length Γ))) (behind true e ∙ same all))
      go true false e =
          bind_when (ltb v (length Γ)) (leaving Γ (application_count s ∷ [])) rest ∙ ap (when (ltb v (length Γ))) (behind false e ∙ sym (when_none all))
          ∙ sym (when_none (ltb v (length Γ))) ∙ bad Γ v
      go false c e = bad Γ v

  -- the pairs of a condition
  pub condition_whole : (negated : Bool) (ws : Words) (Γ : Context) (at : ℕ)
      → plain (whole (meets g rules in_condition) 23 ws (a_chain ∷ []) Γ at) ≡ placed (part_of g rules Γ (condition negated (get_or ws 1 0) (condition_of ws))) (at + length ws)
  condition_whole negated ws Γ at = whole_read g rules in_condition ws a_chain Γ at ∙ ap (λ o. placed o (at + length ws)) (condition_exact negated ws Γ)

-- A chain's pairs are accepted exactly if each of its applications fits. Assumes nothing.
use Prim.Native.Nat.{ℕ, zero, suc, ◌+◌, ◌*◌, ◌≤◌}
use mathlib.Core.Path.{◌≡◌, refl, sym, ap, ◌∙◌}
use mathlib.Core.List.{List, [], ◌∷◌, ◌++◌, map}
use mathlib.Core.Bool.{Bool, true, false, ◌&&◌, and-false}
use mathlib.Core.Option.{Option, none}
use native.Mathlib.Omega.{arith}
use lib.ListN.{length, get_or, get_elem?, drop, replicate}
use lib.Seq.{drop-drop}
use lib.Dec.{ltb, eqb}
use borrow.Author.Tests.{ltb-true, ltb-false, eqb-true, eqb-false}
use Rattle.words.specs.Reader.{Words, and, between, and_then, ◌>>◌}
use Rattle.words.proofs.Laws.{there_some, past_none}
use Rattle.grammar.specs.Grammar.{Grammar}
use Rattle.tree.specs.Dues.{Next, first_word, second_word, leaves}
use Rattle.tree.proofs.Dues.{done, bind, when, bind_when, when_never, exact}
use Rattle.rules.specs.Limits.{most_rules, most_applications, mark_variable}
use Rattle.rules.specs.Rules.{Application, Rules, applied, arguments, applications, pairs_in, arguments_written, applications_written, chain_written, unreadable, chain_of}
use Rattle.judgement.specs.Wanted.{Wanted, wants}
use Rattle.judgement.specs.Typing.{Place, Due, application_count, application, argument, Context, usable, wanted_by, meets}
use Rattle.judgement.specs.WellTyped.{Types, Role}
use Rattle.judgement.specs.Tested.{some_is, arguments_of, applies_of, all_apply_of}
use Rattle.judgement.proofs.Accept.{meet, read, leaving}
use Rattle.judgement.proofs.Applications.{Plays, applies_same}

both_and : (a b c d : Bool) (o : Option Context) → when (and a b) (when (and c d) o) ≡ when (and (and a c) (b && d)) o
both_and true true c d o = refl
both_and true false true d o = refl
both_and true false false d o = refl
both_and false b c d o = refl

-- ARGUMENTS

is_there : (f : ℕ → Bool) (Γ : Types) (v : ℕ) → some_is (get_elem? Γ v) f ≡ and (ltb v (length Γ)) (f (get_or Γ v 0))
unfolding some_is
is_there f Γ v = go (ltb v (length Γ)) refl
  where
    go : (b : Bool) → ltb v (length Γ) ≡ b → some_is (get_elem? Γ v) f ≡ and b (f (get_or Γ v 0))
    go true e = rw (there_some Γ v 0 (ltb-true v (length Γ) e))
    go false e = rw (past_none Γ v (ltb-false v (length Γ) e))

pub arguments_length : (k : ℕ) (ws : Words) → length (arguments k ws) ≡ k
unfolding arguments
arguments_length zero ws = refl
arguments_length (suc k) ws = ap suc (arguments_length k (drop 2 ws))

arguments_of_length : (g : Grammar) (Γ : Types) (xs : List ℕ) (us : List Wanted) → (length xs ≡ length us → ⊥) → arguments_of g Γ xs us ≡ false
unfolding arguments_of
arguments_of_length g Γ [] [] h = absurd (h refl)
arguments_of_length g Γ [] (u ∷ us) h = refl
arguments_of_length g Γ (x ∷ xs) [] h = refl
arguments_of_length g Γ (x ∷ xs) (u ∷ us) h = rw (arguments_of_length g Γ xs us (λ e. h (ap suc e))) (and-false (some_is (get_elem? Γ x) (wants g u)))

module _ (g : Grammar) (rules : Rules) (here : Place) where
  abbrev run : Words → List Due → Context → Option Context
  run ws ds Γ = read g rules here ws ds Γ

  -- the other pairs against what the first leaves and what was due behind it
  abbrev others : Words → List Due → Next Due Context → Option Context
  others ws ds s = run ws (s.dues ++ ds) s.known

  argument_meet : (u : Wanted) (Γ : Context) (t v : ℕ) → meet g rules here (argument u) Γ t v ≡ when (and (eqb t mark_variable) (some_is (get_elem? Γ v) (wants g u))) (leaving Γ [])
  unfolding meet meets
  argument_meet u Γ t v = rw (is_there (wants g u) Γ v) (go (eqb t mark_variable) (ltb v (length Γ)) (wants g u (get_or Γ v 0)))
    where
      go : (c a b : Bool) → done (and_then (first_word c 23 0) (λ u. ◌>>◌ (second_word a 22) (◌>>◌ (second_word b 23) (leaves Γ [])))) ≡ when (and c (and a b)) (leaving Γ [])
      go true true true = refl
      go true true false = refl
      go true false b = refl
      go false a b = refl

  application_meet : (s : ℕ) (Γ : Context) (t v : ℕ)
      → meet g rules here (application s) Γ t v ≡ when (usable g rules here s t) (when (eqb v (length (wanted_by rules s t))) (leaving Γ (map argument (wanted_by rules s t))))
  unfolding meet meets
  application_meet s Γ t v = go (usable g rules here s t) (eqb v (length (wanted_by rules s t))) (map argument (wanted_by rules s t))
    where
      go : (a b : Bool) (ds : List Due) → done (and_then (first_word a 22 0) (λ u. ◌>>◌ (second_word b 22) (leaves Γ ds))) ≡ when a (when b (leaving Γ ds))
      go true true ds = refl
      go true false ds = refl
      go false b ds = refl

  count_meet : (s : ℕ) (Γ : Context) (t v : ℕ) → meet g rules here (application_count s) Γ t v ≡ when (and (between 1 most_applications t) (eqb v 0)) (leaving Γ (replicate t (application s)))
  unfolding meet meets
  count_meet s Γ t v = go (between 1 most_applications t) (eqb v 0)
    where
      go : (a b : Bool) → done (and_then (first_word a 23 0) (λ u. ◌>>◌ (second_word b 23) (leaves Γ (replicate t (application s))))) ≡ when (and a b) (leaving Γ (replicate t (application s)))
      go true true = refl
      go true false = refl
      go false b = refl

  arguments_exact : (us : List Wanted) (ws : Words) (ds : List Due) (Γ : Context)
      → run ws (map argument us ++ ds) Γ ≡ when (and (arguments_written (length us) ws) (arguments_of g Γ (arguments (length us) ws) us)) (run (drop (2 * length us) ws) ds Γ)
  unfolding exact meet arguments_written arguments_of arguments
  arguments_exact [] ws ds Γ = refl
  arguments_exact (u ∷ us) [] ds Γ = refl
  arguments_exact (u ∷ us) (w ∷ []) ds Γ = refl
  arguments_exact (u ∷ us) (w ∷ v ∷ ws) ds Γ =
      let z : 2 * suc (length us) ≡ suc (suc (2 * length us)) = omega arith in
      rw (argument_meet u Γ w v, z) (bind_when (and (eqb w mark_variable) (some_is (get_elem? Γ v) (wants g u))) (leaving Γ []) (others ws (map argument us ++ ds))
      ∙ ap (when (and (eqb w mark_variable) (some_is (get_elem? Γ v) (wants g u)))) (arguments_exact us ws ds Γ)
      ∙ both_and (eqb w mark_variable) (some_is (get_elem? Γ v) (wants g u)) (arguments_written (length us) ws) (arguments_of g Γ (arguments (length us) ws) us) (run (drop (2 * length us) ws) ds Γ))

-- APPLICATIONS

module _ (g : Grammar) (rules : Rules) (here : Place) (role : Role) (plays : Plays here role) (few : length rules ≤ most_rules) where
  application_exact : (s a n : ℕ) (ws : Words) (ds : List Due) (Γ : Context)
      → run g rules here (a ∷ n ∷ ws) (application s ∷ ds) Γ
      ≡ when (and (arguments_written n ws) (applies_of g rules Γ role s (arguments n ws) (applied a))) (run g rules here (drop (2 * n) ws) ds Γ)
  unfolding exact meet
  application_exact s a n ws ds Γ =
      rw (application_meet g rules here s Γ a n, applies_same g rules here role Γ s (arguments n ws) plays few a) (go (usable g rules here s a) (eqb n (length us)) refl)
    where
      us : List Wanted
      us = wanted_by rules s a

      go : (u b : Bool) → eqb n (length us) ≡ b → bind (when u (when b (leaving Γ (map argument us)))) (others g rules here ws ds)
          ≡ when (and (arguments_written n ws) (and u (arguments_of g Γ (arguments n ws) us))) (run g rules here (drop (2 * n) ws) ds Γ)
      go true true e = rw (eqb-true n (length us) e) (arguments_exact g rules here us ws ds Γ)
      go true false e =
          let other : length (arguments n ws) ≡ length us → ⊥ = λ q. eqb-false n (length us) e (sym (arguments_length n ws) ∙ q) in
          rw (arguments_of_length g Γ (arguments n ws) us other) (when_never (arguments_written n ws) (run g rules here (drop (2 * n) ws) ds Γ))
      go false b e = when_never (arguments_written n ws) (run g rules here (drop (2 * n) ws) ds Γ)

  none_run : (s : ℕ) (ds : List Due) (Γ : Context) → run g rules here [] (application s ∷ ds) Γ ≡ none
  unfolding exact
  none_run s ds Γ = refl

  one_run : (s a : ℕ) (ds : List Due) (Γ : Context) → run g rules here (a ∷ []) (application s ∷ ds) Γ ≡ none
  unfolding exact
  one_run s a ds Γ = refl

  applications_exact : (k s : ℕ) (ws : Words) (ds : List Due) (Γ : Context)
      → run g rules here ws (replicate k (application s) ++ ds) Γ
      ≡ when (and (applications_written k ws) (all_apply_of g rules Γ role s (applications k ws))) (run g rules here (drop (2 * pairs_in (applications k ws)) ws) ds Γ)
  unfolding applications_written all_apply_of applications pairs_in
  applications_exact zero s ws ds Γ = refl
  applications_exact (suc k) s [] ds Γ = none_run s (replicate k (application s) ++ ds) Γ
  applications_exact (suc k) s (a ∷ []) ds Γ = one_run s a (replicate k (application s) ++ ds) Γ
  applications_exact (suc k) s (a ∷ n ∷ ws) ds Γ =
      let z : 2 + 2 * n ≡ suc (suc (2 * n)) = omega arith in
      let y : (p : ℕ) → 2 * (1 + n + p) ≡ suc (suc (2 * n + 2 * p)) = λ p. omega arith in
      rw (z, arguments_length n ws, y (pairs_in (applications k (drop (2 * n) ws))))
      (application_exact s a n ws (replicate k (application s) ++ ds) Γ
      ∙ ap (when (and (arguments_written n ws) (applies_of g rules Γ role s (arguments n ws) (applied a)))) (applications_exact k s (drop (2 * n) ws) ds Γ)
      ∙ rw (← drop-drop (2 * pairs_in (applications k (drop (2 * n) ws))) (2 * n) ws)
      (both_and (arguments_written n ws) (applies_of g rules Γ role s (arguments n ws) (applied a)) (applications_written k (drop (2 * n) ws)) (all_apply_of g rules Γ role s (applications k (drop (2 * n) ws)))
      (run g rules here (drop (2 * pairs_in (applications k (drop (2 * n) ws))) (drop (2 * n) ws)) ds Γ)))

  pub unreadable_fails : (Γ : Types) (s : ℕ) → all_apply_of g rules Γ role s unreadable ≡ false
  unfolding unreadable all_apply_of applies_of
  unreadable_fails Γ s = refl

  -- a chain after its first pair
  pub chain_exact : (s : ℕ) (ws : Words) (ds : List Due) (Γ : Context)
      → run g rules here ws (application_count s ∷ ds) Γ ≡ when (all_apply_of g rules Γ role s (chain_of ws)) (run g rules here (drop (2 + 2 * pairs_in (chain_of ws)) ws) ds Γ)
  unfolding exact meet chain_of chain_written
  chain_exact s [] ds Γ = rw (unreadable_fails Γ s)
  chain_exact s (k ∷ []) ds Γ = rw (unreadable_fails Γ s)
  chain_exact s (k ∷ z ∷ ws) ds Γ = rw (count_meet g rules here s Γ k z) (go (between 1 most_applications k) (eqb z 0) (applications_written k ws) refl)
    where
      apps : Bool → List Application
      apps b = elim b as (λ x. List Application) [ true ↦ applications k ws | false ↦ unreadable ]

      two : (p : ℕ) → 2 + 2 * p ≡ suc (suc (2 * p))
      two p = omega arith

      go : (a b c : Bool) → applications_written k ws ≡ c → bind (when (and a b) (leaving Γ (replicate k (application s)))) (others g rules here ws ds)
          ≡ when (all_apply_of g rules Γ role s (apps (and a (and b c)))) (run g rules here (drop (2 + 2 * pairs_in (apps (and a (and b c)))) (k ∷ z ∷ ws)) ds Γ)
      go true true true e = applications_exact k s ws ds Γ ∙ rw (e, two (pairs_in (applications k ws)))
      go true true false e = applications_exact k s ws ds Γ ∙ rw (e, unreadable_fails Γ s)
      go true false c e = rw (unreadable_fails Γ s)
      go false b c e = rw (unreadable_fails Γ s)

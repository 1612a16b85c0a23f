-- A LARGER BUDGET changes nothing that was finished: the instance of Related.antt where the second state has so many attempts more. Assumes nothing.
use Prim.Native.Nat.{ℕ, zero, suc, ◌+◌, ◌-◌, ◌≤◌}
use mathlib.Core.Path.{◌≡◌, refl, sym, ap, ◌∙◌}
use mathlib.Core.Bool.{Bool, true, false}
use native.Mathlib.Omega.{arith}
use lib.Dec.{leb}
use borrow.Author.Tests.{leb-true, le-leb}
use Rattle.words.specs.Reader as R
use Rattle.words.specs.Reader.{Words, between, Read, value}
use Rattle.words.proofs.Laws.{and_both}
use Rattle.grammar.specs.Grammar.{Grammar}
use Rattle.rules.specs.Rules.{Rules}
use Rattle.meaning.specs.Limits.{most_budget, least_result, least_work}
use Rattle.meaning.specs.declared.State.{State}
use Rattle.meaning.specs.Computation.{spend_of, spend}
use Rattle.meaning.specs.Meaning.{stopped, cannot_go_on, Called, run}
use Rattle.meaning.specs.Outcome.{Inputs, ended, Decoded, call_fits, decode, ended_as, outcome_of, outcome}
use Rattle.meaning.specs.Budget.{with_budget, Larger, LargerBudgets, FortySpendsAll}
use Rattle.meaning.proofs.Sound.{never_stuck}
use Rattle.meaning.proofs.FromWords.{read_all, read_sound}
use Rattle.meaning.proofs.Related.{Related, NotForty, keeps_others, goes, free, Ends, both, stopped_both, stopped_free, cannot, Respects, run_related}

-- THE RELATION

-- d attempts more
abbrev Raised : ℕ → State → State → Type 0
Raised d l m = m.attempts ≡ l.attempts + d

-- a stop by 40: all attempts are spent; of what follows it under the larger budget nothing is said
abbrev Spent : ℕ → State → Type 0
Spent n l = (n ≡ 40) × (l.attempts ≡ 0)

spends_of : (d : ℕ) (l m : State) (a b : ℕ) → l.attempts ≡ a → m.attempts ≡ b → Raised d l m → Related (Raised d) Spent NotForty (spend_of a l) (spend_of b m)
unfolding spend_of
spends_of d l m zero b e f r = free (refl, e)
spends_of d l m (suc a) zero e f r = absurd (omega (arith, e, f, r))
spends_of d l m (suc a) (suc b) e f r = let h : b ≡ a + d = omega (arith, e, f, r) in goes h

spends : (d : ℕ) (l m : State) → Raised d l m → Related (Raised d) Spent NotForty (spend l) (spend m)
unfolding spend
spends d l m r = spends_of d l m l.attempts m.attempts refl refl r

respects_raised : (d : ℕ) → Respects (Raised d) Spent NotForty
respects_raised d = record { less = λ l m r. omega (arith, r); spends = spends d }

-- the same run with d attempts more
run_raised : (g : Grammar) (rules : Rules) (tree : Words) (n m d : ℕ) → m ≡ n + d → Ends (Raised d) Spent NotForty (run false g rules tree n) (run false g rules tree m)
run_raised g rules tree n m d e = run_related (Raised d) Spent NotForty keeps_others (respects_raised d) false g rules tree n m e

-- WHAT IT SAYS OF THE END

-- any ending but 40 is the same, with as many attempts made
finished : (g : Grammar) (n m d : ℕ) → m ≡ n + d → {c c' : Called} → Ends (Raised d) Spent NotForty c c' → (c.ending ≡ cannot_go_on → ⊥) → (c.ending ≡ stopped 40 → ⊥) → ended_as g m c' ≡ ended_as g n c
unfolding ended_as
finished g n m d more (both {l = l} {m = l'} r) sure other = let h : m - l'.attempts ≡ n - l.attempts = omega (arith, r, more) in rw h
finished g n m d more (stopped_both {l = l} {m = l'} keep r) sure other = let h : m - l'.attempts ≡ n - l.attempts = omega (arith, r, more) in rw h
finished g n m d more (stopped_free h) sure other = absurd (other (ap stopped h.0))
finished g n m d more cannot sure other = absurd (sure refl)

-- 40 leaves no attempt
none_left : (d : ℕ) {c c' : Called} → Ends (Raised d) Spent NotForty c c' → c.ending ≡ stopped 40 → c.left.attempts ≡ 0
none_left d (both r) e = let z : ◌≡◌ {A = ℕ} 0 1 = cc in absurd (omega arith)
none_left d (stopped_both {n = n} keep r) e = let z : n ≡ 40 = cc in absurd (omega (arith, keep, z))
none_left d (stopped_free h) e = h.1
none_left d cannot e = let z : ◌≡◌ {A = ℕ} 0 1 = cc in absurd (omega arith)

-- FROM WORDS

module _ (result work : ℕ) (x : Inputs) (budget : ℕ) (more : x.budget ≤ budget) (most : budget ≤ most_budget) where
  allowed : between 1 most_budget x.budget ≡ true → between 1 most_budget budget ≡ true
  allowed e =
      let h = leb-true 1 x.budget (and_both (leb 1 x.budget) (leb x.budget most_budget) e).0 in
      rw (le-leb 1 budget (omega (arith, h, more)), le-leb budget most_budget most)

  -- but for 3 the checks find the same
  read_alike : (room space fits : Bool) → leb least_result result ≡ room → leb least_work work ≡ space → between 1 most_budget x.budget ≡ fits
      → (decode result work x ≡ R.refused 3 0 → ⊥) → decode result work (with_budget budget x) ≡ decode result work x
  unfolding decode call_fits
  read_alike false space fits e f h other = rw e
  read_alike true false fits e f h other = rw (e, f)
  read_alike true true true e f h other = rw (allowed h, h)
  read_alike true true false e f h other = absurd (other (rw (e, f, h)))

  alike : (q : Read Decoded) → decode result work x ≡ q → (q ≡ R.refused 3 0 → ⊥) → decode result work (with_budget budget x) ≡ q
  alike q e other = read_alike (leb least_result result) (leb least_work work) (between 1 most_budget x.budget) refl refl refl (λ z. other (sym e ∙ z)) ∙ e

  -- what nothing refuses is never stuck, so its end is told
  ends_alike : (d : Decoded) (next : ℕ) → decode result work x ≡ value d next → ((run false d.grammar d.rules d.tree x.budget).ending ≡ stopped 40 → ⊥)
      → outcome_of (with_budget budget x) (value d next) ≡ outcome_of x (value d next)
  unfolding outcome_of
  ends_alike d next e other =
      let s = read_sound result work x d (read_all result work x d next e) in
      let h : budget ≡ x.budget + (budget - x.budget) = omega (arith, more) in
      finished d.grammar x.budget budget (budget - x.budget) h (run_raised d.grammar d.rules d.tree x.budget budget (budget - x.budget) h)
      (λ z. never_stuck _ s.ends (ap (λ c. c.ending) s.agree ∙ z)) other

  larger : (q : Read Decoded) → decode result work x ≡ q → Larger (outcome_of x q) (outcome result work (with_budget budget x))
  unfolding outcome outcome_of ended_as
  larger (R.refused n p) e = record {
    endings = λ i a k ws q other. let z : ◌≡◌ {A = ℕ} 0 1 = cc in absurd (omega arith);
    refusals = λ m r q other. rw (alike (R.refused n p) e (λ i. let z : m ≡ 3 = cc in absurd (other z)));
    passes = λ i a k ws q. let z : ◌≡◌ {A = ℕ} 0 1 = cc in absurd (omega arith);
  }
  larger (value d next) e =
      let read = alike (value d next) e (λ i. let z : ◌≡◌ {A = ℕ} 0 1 = cc in absurd (omega arith)) in
      record {
        endings = λ i a k ws q other.
            let same : (run false d.grammar d.rules d.tree x.budget).ending ≡ i = cc in
            rw read (ends_alike d next e (λ z. other (sym same ∙ z)));
        refusals = λ m r q other. let z : ◌≡◌ {A = ℕ} 0 1 = cc in absurd (omega arith);
        passes = λ i a k ws q n p f.
            let g = rw read at f in
            let z : ◌≡◌ {A = ℕ} 0 1 = cc in absurd (omega arith);
      }

-- A LARGER BUDGET CHANGES NOTHING THAT WAS FINISHED
pub larger_budgets : LargerBudgets
unfolding outcome
larger_budgets result work x budget more most = larger result work x budget more most (decode result work x) refl

-- A RUN ENDING IN 40 HAS SPENT ITS BUDGET
pub forty_spends_all : FortySpendsAll
unfolding outcome outcome_of ended_as
forty_spends_all result work x attempts replacements ws is = go (decode result work x) is
  where
    go : (q : Read Decoded) → outcome_of x q ≡ ended (stopped 40) attempts replacements ws → attempts ≡ x.budget
    go (R.refused n p) e = let z : ◌≡◌ {A = ℕ} 0 1 = cc in absurd (omega arith)
    go (value d next) e =
        let c = run false d.grammar d.rules d.tree x.budget in
        let forty : c.ending ≡ stopped 40 = cc in
        let made : x.budget - c.left.attempts ≡ attempts = cc in
        let h : x.budget ≡ x.budget + 0 = omega arith in
        omega (arith, made, none_left 0 (run_raised d.grammar d.rules d.tree x.budget x.budget 0 h) forty)

-- Laws of the parts of an input, over plain variables. Assumes nothing.
use Prim.Native.Nat.{ℕ, ◌<◌, ◌≤◌}
use mathlib.Core.Path.{◌≡◌, refl, sym, ◌∙◌}
use mathlib.Core.List.{[], ◌∷◌}
use mathlib.Core.Bool.{true, false}
use mathlib.Core.Option.{Option, none, some}
use native.Mathlib.Omega.{arith}
use lib.ListN.{length}
use borrow.Author.Tests.{le-leb, lt-leb}
use Rattle.std.specs.Prelude.{Option as Answer, Some, None, MatchOption, ◌==◌}
use Rattle.std.specs.List.{IsSplitAt}
use denote.Ref.{Bor}
use Rattle.words.specs.Reader.{Words}
use Rattle.meaning.specs.Outcome.{Inputs}
use Rattle.decimal.specs.Input.{counted, whole, input, most_grammar, most_rules, most_slip, Counted}

-- ONE PART

pub part_empty : (most : ℕ) (ns : Words) → length ns ≡ 0 → {r : Answer (Bor Words × Bor Words)} → r ≡ None → Counted most ns r
unfolding counted
part_empty most [] e r f = rw r refl
part_empty most (n ∷ ns) e r f = absurd (omega arith)

module _ (most n : ℕ) (ns rest : Words) (first : ns ≡ n ∷ rest) where
  pub part_over : most < n → Counted most ns None
  unfolding counted
  part_over h f = rw (first, lt-leb n most h)

  pub part_found : n ≤ most → (r : Answer (Bor Words × Bor Words)) → MatchOption r (length rest < n) (λ p. IsSplitAt rest n p.0.now p.1.now) → Counted most ns r
  unfolding counted
  part_found h None e f = rw (first, le-leb n most h, lt-leb n (length rest) e)
  part_found h (Some p) e f = rw (first, le-leb n most h, le-leb n (length rest) e.0, e.1, e.2) refl

-- THE PARTS

whole_over : (x : Inputs) (ns : Words) → (length ns == 0) ≡ false → whole x ns ≡ none
unfolding whole
whole_over x [] h = absurd (grind (arith, h))
whole_over x (n ∷ ns) h = refl

whole_end : (x : Inputs) (ns : Words) → (length ns == 0) ≡ true → whole x ns ≡ some x
unfolding whole
whole_end x [] h = refl
whole_end x (n ∷ ns) h = absurd (grind (arith, h))

-- no number is no input
pub no_budget : (ns : Words) → length ns ≡ 0 → none ≡ input ns
unfolding input
no_budget [] h = refl
no_budget (n ∷ ns) h = absurd (omega arith)

-- a part that is there, with what follows it; and one that is not
abbrev Found : ℕ → Words → Words → Words → Type 0
Found most ns part more = (f : Words → Words → Option Inputs) → counted most ns f ≡ f part more

abbrev Missing : ℕ → Words → Type 0
Missing most ns = (f : Words → Words → Option Inputs) → counted most ns f ≡ none

module _ {ns rest : Words} {budget : ℕ} (first : ns ≡ budget ∷ rest) where
  -- what is made of each part
  abbrev with_slip : Words → Words → Words → Words → Option Inputs
  with_slip grammar rules slip = whole (record { budget = budget; grammar = grammar; rules = rules; slip = slip })

  abbrev with_rules : Words → Words → Words → Option Inputs
  with_rules grammar rules more = counted most_slip more (with_slip grammar rules)

  abbrev with_grammar : Words → Words → Option Inputs
  with_grammar grammar more = counted most_rules more (with_rules grammar)

  from_grammar : input ns ≡ counted most_grammar rest with_grammar
  unfolding input
  from_grammar = rw first refl

  pub no_grammar : Missing most_grammar rest → none ≡ input ns
  no_grammar m = sym (from_grammar ∙ m with_grammar)

  module _ {g after : Words} (a : Found most_grammar rest g after) where
    from_rules : input ns ≡ counted most_rules after (with_rules g)
    from_rules = from_grammar ∙ a with_grammar

    pub no_rules : Missing most_rules after → none ≡ input ns
    no_rules m = sym (from_rules ∙ m (with_rules g))

    module _ {r last : Words} (b : Found most_rules after r last) where
      from_slip : input ns ≡ counted most_slip last (with_slip g r)
      from_slip = from_rules ∙ b (with_rules g)

      pub no_slip : Missing most_slip last → none ≡ input ns
      no_slip m = sym (from_slip ∙ m (with_slip g r))

      module _ {t over : Words} (d : Found most_slip last t over) where
        from_end : input ns ≡ with_slip g r t over
        from_end = from_slip ∙ d (with_slip g r)

        pub left_over : (length over == 0) ≡ false → none ≡ input ns
        left_over h = sym (from_end ∙ whole_over _ over h)

        pub all_parts : (length over == 0) ≡ true → some (record { budget = budget; grammar = g; rules = r; slip = t }) ≡ input ns
        all_parts h = sym (from_end ∙ whole_end _ over h)

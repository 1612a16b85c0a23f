-- Laws of the reader of the whole book, over plain variables. Assumes nothing.
use Prim.Native.Nat.{ℕ, ◌+◌, ◌-◌, ◌<◌, ◌≤◌}
use mathlib.Core.Path.{◌≡◌, refl, sym, ap, ◌∙◌}
use mathlib.Core.List.{◌∷◌}
use mathlib.Core.Bool.{true, false}
use native.Mathlib.Nat.{add-zero}
use Rattle.std.specs.Prelude.{Result, Ok, Err}
use Rattle.words.specs.Reader.{Words, Read, value, refused, and_then, ◌>>=◌, return, many, end}
use Rattle.words.specs.Views.{answer}
use Rattle.words.proofs.Laws.{answer_then, many_done, many_stop, many_next}
use Rattle.rules.specs.Limits.{most_rules}
use Rattle.rules.specs.Rules.{Rule, Rules}
use Rattle.rules.specs.Layout.{field, main_fits, main_bits, rule, layout, read_layout}
use Rattle.book.specs.Whole.{Steps}

-- A STEP OF THE READER

module _ {A B : Type 0} (f : A → B) (q : Read A) (r : Result B (ℕ × ℕ)) (old new : ℕ) where
  pub step_ok : Steps f q r old new → {b : B} → r ≡ Ok b → (a : A) × (q ≡ value a new) × (b ≡ f a)
  step_ok = go q
    where
      go : (q : Read A) → Steps f q r old new → {b : B} → r ≡ Ok b → (a : A) × (q ≡ value a new) × (b ≡ f a)
      go (value a next) s {b} e = (a, ap (value a) (sym s.1), cc)
      go (refused n p) s e = let z = sym s.0 ∙ e in cc

  pub step_err : Steps f q r old new → {x : ℕ × ℕ} → r ≡ Err x → q ≡ refused x.0 x.1
  step_err = go q
    where
      go : (q : Read A) → Steps f q r old new → {x : ℕ × ℕ} → r ≡ Err x → q ≡ refused x.0 x.1
      go (value a next) s e = let z = sym s.0 ∙ e in cc
      go (refused n p) s e = let z = sym s.0 ∙ e in cc

-- THE WHOLE BOOK

module _ (types : ℕ) (ws : Words) where
  -- what is found of so many rules from a position on, and of the book's end
  abbrev pub rest : ℕ → ℕ → Result ℕ (ℕ × ℕ)
  rest left at = answer (◌>>=◌ (many left (rule types ws)) (λ rules. end 20 ws) at)

  module _ (k i at : ℕ) where
    pub rest_done : k ≤ i → answer (end 20 ws at) ≡ rest (k - i) at
    rest_done h = rw (many_done (rule types ws) k i at h)

    pub rest_stop : i < k → {x : ℕ × ℕ} → rule types ws at ≡ refused x.0 x.1 → Err x ≡ rest (k - i) at
    rest_stop h e = rw (many_stop (rule types ws) k i at h e)

    pub rest_next : i < k → {a : Rule} {next : ℕ} → rule types ws at ≡ value a next → rest (k - i) at ≡ rest (k - (i + 1)) next
    rest_next h {a} {next} e = rw (many_next (rule types ws) k i at h e) (go (many (k - (i + 1)) (rule types ws) next))
      where
        go : (q : Read Rules) → answer (and_then (and_then q (λ more. return (a ∷ more))) (λ rules. end 20 ws)) ≡ answer (and_then q (λ rules. end 20 ws))
        go (value rs p) = refl
        go (refused n p) = refl

  pub layout_refused : {x : ℕ × ℕ} → field ws 1 most_rules 0 ≡ refused x.0 x.1 → Err x ≡ answer (read_layout types ws)
  unfolding read_layout layout
  layout_refused e = rw e

  module _ {n at : ℕ} (e : field ws 1 most_rules 0 ≡ value n at) where
    pub layout_main : main_fits ws at ≡ false → Err (21, at) ≡ answer (read_layout types ws)
    unfolding read_layout layout main_bits
    layout_main h = rw (e, h, add-zero)

    pub layout_rest : main_fits ws at ≡ true → answer (read_layout types ws) ≡ rest n at
    unfolding read_layout layout main_bits
    layout_rest h = rw (e, h) (go (many n (rule types ws) at))
      where
        go : (q : Read Rules) → answer (and_then q (λ rules. ◌>>=◌ (end 20 ws) (λ u. return rules))) ≡ answer (and_then q (λ rules. end 20 ws))
        go (value rs p) = sym (answer_then (end 20 ws p) rs)
        go (refused m p) = refl

-- The check of a rule accepts exactly the rules that fit. Assumes nothing.
use Prim.Native.Nat.{ℕ, ◌≤◌, ◌<◌}
use mathlib.Core.Path.{◌≡◌, refl, sym, ap, ◌∙◌}
use mathlib.Core.List.{List, []}
use mathlib.Core.Bool.{Bool, true, false, ◌&&◌}
use mathlib.Core.Option.{Option, none, some}
use native.Mathlib.Omega.{arith}
use lib.ListN.{length}
use lib.Dec.{leb}
use borrow.Author.Tests.{leb-false, le-leb}
use Rattle.words.specs.Reader.{Words, Read, value, refused, Reader, and_then, ◌>>=◌, return, many}
use Rattle.words.proofs.Laws.{then_value}
use Rattle.grammar.specs.Limits.{most_types}
use Rattle.grammar.specs.Grammar.{Grammar}
use Rattle.tables.proofs.Bounded.{Low, Bounded}
use Rattle.tree.specs.Reading.{tree}
use Rattle.tree.proofs.Dues.{plain, placed, bind, plain_then, when}
use Rattle.rules.specs.Limits.{most_rules, most_parts, most_variables}
use Rattle.rules.specs.Rules.{Rules, Rule, Part, Piece, shapes, pieces}
use Rattle.rules.specs.Layout.{Head, bit, only_if, stretch, field, pairs, replacement, part, head, parts, rule}
use Rattle.rules.proofs.Laid.{Stretch, pairs_value, HeadTold, head_value, rule_value, made}
use Rattle.judgement.specs.Typing.{in_pattern, in_replacement, a_tree, Context, typed, parts_typed, rule_typed}
use Rattle.judgement.specs.WellTyped.{Types}
use Rattle.judgement.specs.Tested.{some_is, one_pattern, one_replacement, parts_of, replacement_of, rule_of}
use Rattle.judgement.proofs.Tested.{no_some, one_pattern_of}
use Rattle.judgement.proofs.Patterns.{limited, limited_some}
use Rattle.judgement.proofs.Parts.{pattern_low, parts_over, typed_pattern, typed_replacement, parts_typed_lem}

-- what the bits of a rule's map announce
abbrev parts_reader : ℕ → Words → Reader (List Part)
parts_reader types ws = ◌>>=◌ (field ws 1 most_parts) (λ k. many k (part types ws))

abbrev pub replacement_reader : Words → Reader (Option (List Piece))
replacement_reader ws = ◌>>=◌ (pairs ws) (λ q. return (some (pieces (stretch ws q))))

module _ (g : Grammar) (rules : Rules) (ws : Words) (bounded : Bounded g) (few : length rules ≤ most_rules) where
  -- the typing of the parts, and of the replacement
  abbrev parts_check : ℕ → Context → Reader Context
  parts_check m Γ = only_if (bit 2 m) Γ (◌>>=◌ (field ws 1 most_parts) (λ k. parts_typed g rules ws k Γ))

  abbrev replacement_check : ℕ → ℕ → Context → Reader (Unit {0})
  replacement_check m t Γ = ◌>>=◌ (only_if (bit 3 m) Γ (typed g rules ws in_replacement (a_tree (tree 1 t)) Γ)) (λ Δ. return (tt {0}))

  parts_checked : (m n₁ n₂ : ℕ) (ps : List Part) (Γ : Context) → parts (length g) ws m n₁ ≡ value ps n₂ → Low Γ → length Γ ≤ most_variables
      → plain (parts_check m Γ n₁) ≡ placed (limited (parts_of g rules Γ ps)) n₂
  unfolding parts parts_of
  parts_checked m n₁ n₂ ps Γ e l n = go (bit 2 m) e
    where
      counted : (q : Read ℕ) → and_then q (λ k. many k (part (length g) ws)) ≡ value ps n₂ → plain (and_then q (λ k. parts_typed g rules ws k Γ)) ≡ placed (limited (parts_of g rules Γ ps)) n₂
      counted (value k at) e = parts_typed_lem g rules ws bounded few k at n₂ ps e Γ l n
      counted (refused k at) e = let z : ◌≡◌ {A = ℕ} 0 1 = cc in absurd (omega arith)

      go : (b : Bool) → only_if b [] (parts_reader (length g) ws) n₁ ≡ value ps n₂
          → plain (only_if b Γ (◌>>=◌ (field ws 1 most_parts) (λ k. parts_typed g rules ws k Γ)) n₁) ≡ placed (limited (parts_of g rules Γ ps)) n₂
      go true e = counted (field ws 1 most_parts n₁) e
      go false e =
          let y : [] ≡ ps = cc in
          let z : n₁ ≡ n₂ = cc in
          rw (← y, ← z, le-leb (length Γ) most_variables n)

  replacement_checked : (m n₂ next t : ℕ) (o : Option (List Piece)) (Γ : Context) → replacement ws m n₂ ≡ value o next → t < most_types
      → plain (replacement_check m t Γ n₂) ≡ placed (when (replacement_of g rules Γ t o) (some (tt {0}))) next
  unfolding replacement replacement_of
  replacement_checked m n₂ next t o Γ e lt = go (bit 3 m) e
    where
      returned : (b : Bool) → bind (when b (some Γ)) (λ Δ. some (tt {0})) ≡ when b (some (tt {0}))
      returned true = refl
      returned false = refl

      there : (q n : ℕ) → q ≡ n₂ → some (pieces (stretch ws q)) ≡ o → n ≡ next → Stretch ws n₂ n
          → plain (and_then (typed g rules ws in_replacement (a_tree (tree 1 t)) Γ n₂) (λ Δ. return (tt {0}))) ≡ placed (when (replacement_of g rules Γ t o) (some (tt {0}))) next
      there q n a y z st =
          rw (← y, a, ← z)
          (plain_then (typed g rules ws in_replacement (a_tree (tree 1 t)) Γ n₂) (when fits (some Γ)) n (λ Δ. return (tt {0})) (λ Δ. some (tt {0})) n (typed_replacement g rules ws bounded few n₂ n st Γ t lt) (λ Δ q. refl)
          ∙ ap (λ o. placed o n) (returned fits))
        where
          fits : Bool
          fits = one_replacement g rules Γ (pieces (stretch ws n₂)) t

      go : (b : Bool) → only_if b none (replacement_reader ws) n₂ ≡ value o next
          → plain (and_then (only_if b Γ (typed g rules ws in_replacement (a_tree (tree 1 t)) Γ) n₂) (λ Δ. return (tt {0}))) ≡ placed (when (replacement_of g rules Γ t o) (some (tt {0}))) next
      go true e =
          let x = then_value (pairs ws n₂) (λ q. return (some (pieces (stretch ws q)))) e in
          let p = pairs_value ws n₂ x.2 in
          there x.0 x.1 p.0 (cc x.3) (cc x.3) p.1
      go false e =
          let y : none ≡ o = cc in
          let z : n₂ ≡ next = cc in
          rw (← y, ← z)

  -- after the pattern: the check's answer, and the test's
  module _ (t : ℕ) (ps : List Part) (o : Option (List Piece)) where
    abbrev tail : Types → Option (Unit {0})
    tail Γ = bind (limited (parts_of g rules Γ ps)) (λ Δ. when (replacement_of g rules Δ t o) (some (tt {0})))

    abbrev last : Types → Bool
    last Δ = leb (length Δ) most_variables && replacement_of g rules Δ t o

    abbrev fits : Types → Bool
    fits Γ = some_is (parts_of g rules Γ ps) last

    tail_fits : (Γ : Types) → tail Γ ≡ when (fits Γ) (some (tt {0}))
    unfolding some_is
    tail_fits Γ = go (parts_of g rules Γ ps)
      where
        again : (Δ : Types) (a : Bool) → bind (when a (some Δ)) (λ Δ. when (replacement_of g rules Δ t o) (some (tt {0}))) ≡ when (a && replacement_of g rules Δ t o) (some (tt {0}))
        again Δ true = refl
        again Δ false = refl

        go : (q : Option Types) → bind (limited q) (λ Δ. when (replacement_of g rules Δ t o) (some (tt {0}))) ≡ when (some_is q last) (some (tt {0}))
        go none = refl
        go (some Δ) = again Δ (leb (length Δ) most_variables)

    over_fails : (Γ : Types) → most_variables < length Γ → fits Γ ≡ false
    unfolding some_is
    over_fails Γ h = go (parts_of g rules Γ ps) (parts_over g rules ps Γ h)
      where
        now : (Δ : Types) (b : Bool) → when b (some Δ) ≡ none → (b && replacement_of g rules Δ t o) ≡ false
        now Δ true e = no_some (sym e)
        now Δ false e = refl

        go : (q : Option Types) → limited q ≡ none → some_is q last ≡ false
        go none e = refl
        go (some Δ) e = now Δ (leb (length Δ) most_variables) e

    whole_fits : (q : Option Types) → bind (limited q) tail ≡ when (some_is q fits) (some (tt {0}))
    unfolding some_is
    whole_fits none = refl
    whole_fits (some Γ) = go (leb (length Γ) most_variables) refl
      where
        go : (b : Bool) → leb (length Γ) most_variables ≡ b → bind (when b (some Γ)) tail ≡ when (fits Γ) (some (tt {0}))
        go true e = tail_fits Γ
        go false e = rw (over_fails Γ (leb-false (length Γ) most_variables e))

  made_typed : (at n₀ n₁ n₂ next : ℕ) (h : Head) (ps : List Part) (o : Option (List Piece)) → HeadTold ws at h → head (length g) ws at ≡ value h n₀ → Stretch ws n₀ n₁
      → parts (length g) ws h.map n₁ ≡ value ps n₂ → replacement ws h.map n₂ ≡ value o next
      → plain (rule_typed g rules ws at) ≡ placed (when (rule_of g rules (made ws h n₀ ps o)) (some (tt {0}))) next
  unfolding rule_typed rule_of
  made_typed at n₀ n₁ n₂ next h ps o t e st pe oe =
      rw e (plain_then (typed g rules ws in_pattern (a_tree (tree 1 h.target)) h.parameters n₀) (limited matched) n₁ (λ Γ. ◌>>=◌ (parts_check h.map Γ) (replacement_check h.map h.target))
      (tail h.target ps o) next (typed_pattern g rules ws bounded few n₀ n₁ st h.parameters h.target t.target t.few) others
      ∙ ap (λ q. placed q next) (whole_fits h.target ps o matched))
    where
      matched : Option Types
      matched = one_pattern g h.parameters (shapes (stretch ws n₀)) h.target

      others : (Γ : Types) → limited matched ≡ some Γ → plain (and_then (parts_check h.map Γ n₁) (replacement_check h.map h.target)) ≡ placed (tail h.target ps o Γ) next
      others Γ q =
          let x = limited_some matched Γ q in
          let y = one_pattern_of g h.parameters Γ (shapes (stretch ws n₀)) h.target x.0 in
          plain_then (parts_check h.map Γ n₁) (limited (parts_of g rules Γ ps)) n₂ (replacement_check h.map h.target) (λ Δ. when (replacement_of g rules Δ h.target o) (some (tt {0}))) next
          (parts_checked h.map n₁ n₂ ps Γ pe (pattern_low bounded y.typed t.low (t.target, tt)) x.1) (λ Δ r. replacement_checked h.map n₂ next h.target o Δ oe t.target)

  pub rule_typed_lem : (at : ℕ) (r : Rule) (next : ℕ) → rule (length g) ws at ≡ value r next → plain (rule_typed g rules ws at) ≡ placed (when (rule_of g rules r) (some (tt {0}))) next
  rule_typed_lem at r next e =
      let x = rule_value (length g) ws at r next e in
      let h = head_value (length g) ws bounded.few at x.h x.n₀ x.header in
      made_typed at x.n₀ x.n₁ x.n₂ next x.h x.ps x.o h x.header x.pattern x.parts_read x.replacement_read ∙ ap (λ s. placed (when (rule_of g rules s) (some (tt {0}))) next) x.is

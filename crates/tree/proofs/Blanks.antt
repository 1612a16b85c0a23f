-- A tree holds a blank exactly if one of its nodes is one. Assumes nothing.
use Prim.Native.Nat.{ℕ, zero, suc, ◌+◌, ◌*◌, ◌<◌}
use mathlib.Core.Path.{◌≡◌, refl}
use mathlib.Core.List.{[], ◌∷◌}
use mathlib.Core.Bool.{Bool, true, false, not}
use native.Mathlib.Omega.{arith}
use lib.ListN.{get_or}
use lib.Dec.{eqb}
use borrow.Author.Tests.{eq-eqb, ne_eqb, eqb-true}
use Rattle.words.specs.Reader.{Words, or}
use Rattle.words.proofs.Laws.{and_both, or_true}
use Rattle.grammar.specs.Grammar.{Kind, token, opt, sequence, forms, Grammar}
use Rattle.grammar.specs.Kinds.{kind_of, is_text_kind, is_text}
use Rattle.tree.specs.Tree.{size}
use Rattle.tree.specs.Blanks.{is_blank, holds_blank, Blank}

-- NAMES AND STRINGS

record Text (k : Kind) : Type 0 where
  class : ℕ
  kind : k ≡ token class
  text : class ≡ 2 → ⊥

text_kind : (k : Kind) → is_text_kind k ≡ true → Text k
unfolding is_text_kind
text_kind (token c) h = record { class = c; kind = refl; text = λ e. let z : not (eqb c 2) ≡ false = rw (eq-eqb c 2 e) in let q : ◌≡◌ {A = ℕ} 0 1 = cc in absurd (omega arith) }
text_kind (opt e) h = let z : ◌≡◌ {A = ℕ} 0 1 = cc in absurd (omega arith)
text_kind (sequence style e) h = let z : ◌≡◌ {A = ℕ} 0 1 = cc in absurd (omega arith)
text_kind (forms fs) h = let z : ◌≡◌ {A = ℕ} 0 1 = cc in absurd (omega arith)

is_text_lem : (g : Grammar) (t c : ℕ) → kind_of g t ≡ token c → (c ≡ 2 → ⊥) → is_text g t ≡ true
unfolding is_text is_text_kind
is_text_lem g t c e h = rw (e, ne_eqb c 2 h)

-- BLANKS

-- the words of the node after a pair
later_type : (t v : ℕ) (ws : Words) (i : ℕ) → get_or (t ∷ v ∷ ws) (2 * suc i) 0 ≡ get_or ws (2 * i) 0
later_type t v ws i = let two : 2 * suc i ≡ suc (suc (2 * i)) = omega arith in rw two

later_value : (t v : ℕ) (ws : Words) (i : ℕ) → get_or (t ∷ v ∷ ws) (2 * suc i + 1) 0 ≡ get_or ws (2 * i + 1) 0
later_value t v ws i = let two : 2 * suc i + 1 ≡ suc (suc (2 * i + 1)) = omega arith in rw two

later : {g : Grammar} {t v : ℕ} {ws : Words} → Blank g ws → Blank g (t ∷ v ∷ ws)
unfolding size
later {g} {t} {v} {ws} b = record {
  node = suc b.node;
  inside = omega (arith, b.inside);
  class = b.class;
  kind = rw (later_type t v ws b.node) b.kind;
  text = b.text;
  empty = rw (later_value t v ws b.node) b.empty;
}

pub blank_there : (g : Grammar) (ws : Words) → holds_blank g ws ≡ true → Blank g ws
unfolding holds_blank is_blank is_text size
blank_there g [] e = let z : ◌≡◌ {A = ℕ} 0 1 = cc in absurd (omega arith)
blank_there g (t ∷ []) e = let z : ◌≡◌ {A = ℕ} 0 1 = cc in absurd (omega arith)
blank_there g (t ∷ v ∷ ws) e = go (is_blank g t v) refl e (blank_there g ws)
  where
    go : (b : Bool) → is_blank g t v ≡ b → or b (holds_blank g ws) ≡ true → (holds_blank g ws ≡ true → Blank g ws) → Blank g (t ∷ v ∷ ws)
    go true h f below =
        let both = and_both (is_text g t) (eqb v 0) h in
        let s = text_kind (kind_of g t) both.0 in
        record { node = 0; inside = omega arith; class = s.class; kind = s.kind; text = s.text; empty = eqb-true v 0 both.1 }
    go false h f below = later (below f)

held : (g : Grammar) (ws : Words) (i : ℕ) → i < size ws → is_text g (get_or ws (2 * i) 0) ≡ true → get_or ws (2 * i + 1) 0 ≡ 0 → holds_blank g ws ≡ true
unfolding holds_blank is_blank size
held g [] i h t e = absurd (omega arith)
held g (w ∷ []) i h t e = absurd (omega arith)
held g (w ∷ v ∷ ws) zero h t e = rw (eq-eqb v 0 e, t)
held g (w ∷ v ∷ ws) (suc i) h t e = rw (held g ws i (omega arith) (rw (later_type w v ws i) at t) (rw (later_value w v ws i) at e)) (or_true (is_blank g w v))

pub blank_held : (g : Grammar) (ws : Words) → Blank g ws → holds_blank g ws ≡ true
blank_held g ws b = held g ws b.node b.inside (is_text_lem g (get_or ws (2 * b.node) 0) b.class b.kind b.text) b.empty

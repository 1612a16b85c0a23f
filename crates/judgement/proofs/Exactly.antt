-- THE CHECK OF A RULE BOOK ACCEPTS EXACTLY THE WELL-TYPED RULES: its typing over the words against the test, and against the declaration, of the decoded
-- rules. Assumes nothing.
use Prim.Native.Nat.{ℕ, zero, suc, ◌≤◌, ◌<◌}
use mathlib.Core.Path.{◌≡◌, refl, sym, ap, ◌∙◌}
use mathlib.Core.List.{List, [], ◌∷◌}
use mathlib.Core.Bool.{Bool, true, false, ◌&&◌, not, and-false}
use mathlib.Core.Option.{Option, none, some}
use native.Mathlib.Omega.{arith}
use lib.ListN.{length, get_or, get_elem?}
use borrow.Author.Tests.{lt-leb, not-true}
use Rattle.words.specs.Reader.{Words, and, Read, value, refused, and_then, ◌>>=◌, ◌>>◌, return, require, many, end, accepted}
use Rattle.words.proofs.Laws.{then_value, accepted_value, and_both, in_value, require_value, many_suc, many_length}
use Rattle.grammar.specs.Limits.{most_types}
use Rattle.grammar.specs.Grammar.{Grammar, read_grammar}
use Rattle.tables.proofs.Bounded.{Bounded, read_bounded}
use Rattle.tree.proofs.Dues.{plain, placed, when}
use Rattle.rules.specs.Limits.{most_rules}
use Rattle.rules.specs.Rules.{Rules, Rule, Piece, pieces}
use Rattle.rules.specs.Layout.{bit, only_if, stretch, field, pairs, replacement, main_fits, main_bits, rule, layout, read_layout}
use Rattle.rules.proofs.Laid.{no_true, head_value, rule_value, made}
use Rattle.judgement.specs.Typing.{fits_scope, no_rule, rule_typed, main_target, rules_typed, read_rules}
use Rattle.judgement.specs.WellTyped.{WellTyped}
use Rattle.judgement.specs.Tested.{some_is, usable_of, is_nil, main_of, rule_of, rules_of, well_typed}
use Rattle.judgement.specs.Exactly.{Passes, LaidOut, Exactly}
use Rattle.judgement.proofs.Tested.{tested, well_tested}
use Rattle.judgement.proofs.Applications.{scope_same}
use Rattle.judgement.proofs.RuleTyped.{replacement_reader, rule_typed_lem}

-- RULES, ONE AFTER ANOTHER

module _ (g : Grammar) (rules : Rules) (ws : Words) (bounded : Bounded g) (few : length rules ≤ most_rules) where
  rules_step : (k n : ℕ) (q : Read (Unit {0})) (x y : Bool) → plain q ≡ placed (when x (some (tt {0}))) n → accepted (many k (rule_typed g rules ws) n) ≡ y
      → accepted (and_then q (λ u n. and_then (many k (rule_typed g rules ws) n) (λ more. return (u ∷ more)))) ≡ (x && y)
  rules_step k n (value u m) true y e h = let z : m ≡ n = cc in rw z (go (many k (rule_typed g rules ws) n) h)
    where
      go : (r : Read (List (Unit {0}))) → accepted r ≡ y → accepted (and_then r (λ more. return (u ∷ more))) ≡ y
      go (value us m) h = h
      go (refused us m) h = h
  rules_step k n (value u m) false y e h = let z : ◌≡◌ {A = ℕ} 0 1 = cc in absurd (omega arith)
  rules_step k n (refused u m) true y e h = let z : ◌≡◌ {A = ℕ} 0 1 = cc in absurd (omega arith)
  rules_step k n (refused u m) false y e h = refl

  many_typed : (k at : ℕ) (rs : Rules) (next : ℕ) → many k (rule (length g) ws) at ≡ value rs next → accepted (many k (rule_typed g rules ws) at) ≡ rules_of g rules rs
  unfolding many rules_of
  many_typed zero at rs next e = let z : [] ≡ rs = cc in rw (← z)
  many_typed (suc k) at rs next e =
      let u = many_suc (rule (length g) ws) k at e in
      rules_step k u.1 (rule_typed g rules ws at) (rule_of g rules u.0) (rules_of g rules u.2) (rule_typed_lem g rules ws bounded few at u.0 u.1 u.3) (many_typed k u.1 u.2 next u.4)
      ∙ ap (rules_of g rules) (sym u.5)

-- THE LAYOUT OF THE WHOLE

record RulesRead (types : ℕ) (ws : Words) (rules : Rules) : Type 0 where
  few : length rules ≤ most_rules
  one : 1 ≤ length rules
  last : ℕ
  each : many (length rules) (rule types ws) 1 ≡ value rules last
  bits : main_fits ws 1 ≡ true

layout_value : (types : ℕ) (ws : Words) (rules : Rules) (next : ℕ) → read_layout types ws ≡ value rules next → RulesRead types ws rules
unfolding read_layout layout main_bits field
layout_value types ws rules next e =
    let a = then_value (field ws 1 most_rules 0) (λ n. ◌>>◌ (main_bits ws) (◌>>=◌ (many n (rule types ws)) (λ rs. ◌>>◌ (end 20 ws) (return rs)))) e in
    let f = in_value 20 21 ws 1 most_rules 0 a.2 in
    let b = require_value (main_fits ws a.1) 21 0 a.1 (λ u. ◌>>=◌ (many a.0 (rule types ws)) (λ rs. ◌>>◌ (end 20 ws) (return rs))) a.3 in
    let c = then_value (many a.0 (rule types ws) a.1) (λ rs. ◌>>◌ (end 20 ws) (return rs)) b.1 in
    let d = then_value (end 20 ws c.1) (λ u. return c.0) c.3 in
    read a.0 a.1 c.0 c.1 f.1 f.2 f.3 b.0 c.2 (cc d.3)
  where
    read : (n p : ℕ) (rs : Rules) (q : ℕ) → p ≡ 1 → 1 ≤ n → n ≤ most_rules → main_fits ws p ≡ true → many n (rule types ws) p ≡ value rs q → rs ≡ rules → RulesRead types ws rules
    read n p rs q y low high t e z =
        let m : length rules ≡ n = many_length (rule types ws) n p rules q (e ∙ ap (λ l. value l q) z) in
        record { few = omega arith; one = omega arith; last = q; each = rw m (ap (many n (rule types ws)) (sym y) ∙ e ∙ ap (λ l. value l q) z); bits = rw y at t }

-- THE MAIN RULE: its bits say that it has a replacement and no parameters

some_replacement : (ws : Words) (m n next : ℕ) (o : Option (List Piece)) → bit 3 m ≡ true → replacement ws m n ≡ value o next → some_is o (λ ps. true) ≡ true
unfolding replacement some_is
some_replacement ws m n next o = go (bit 3 m)
  where
    present : (ps : List Piece) → some ps ≡ o → some_is o (λ ps. true) ≡ true
    present ps y = rw (← y)

    go : (b : Bool) → b ≡ true → only_if b none (replacement_reader ws) n ≡ value o next → some_is o (λ ps. true) ≡ true
    go true e h =
        let x = then_value (pairs ws n) (λ q. return (some (pieces (stretch ws q)))) h in
        present (pieces (stretch ws x.0)) (cc x.3)
    go false e h = no_true e

nil_is : (ps : List ℕ) → ps ≡ [] → is_nil ps ≡ true
unfolding is_nil
nil_is ps e = rw e

main_bits_lem : (ws : Words) (at m : ℕ) → at < length ws → m ≡ get_or ws at 0 → main_fits ws at ≡ true → (bit 3 m ≡ true) × (bit 1 m ≡ false)
unfolding main_fits
main_bits_lem ws at m h e t =
    let u : and (bit 3 (get_or ws at 0)) (not (bit 1 (get_or ws at 0))) ≡ true = rw (lt-leb (length ws) at h) at t in
    let v = and_both (bit 3 (get_or ws at 0)) (not (bit 1 (get_or ws at 0))) u in
    (rw e v.0, rw e (not-true (bit 1 (get_or ws at 0)) v.1))

main_now : (s : Rule) → some_is s.replacement (λ ps. true) ≡ true → is_nil s.parameters ≡ true → main_of s ≡ fits_scope s 0
unfolding main_of usable_of
main_now s p q = rw (p, q, scope_same s 0)

main_same : (types : ℕ) (ws : Words) → types ≤ most_types → (r : Rule) (next : ℕ) → rule types ws 1 ≡ value r next → main_fits ws 1 ≡ true → main_of r ≡ fits_scope r 0
main_same types ws few r next e t =
    let x = rule_value types ws 1 r next e in
    let h = head_value types ws few 1 x.h x.n₀ x.header in
    let b = main_bits_lem ws 1 x.h.map h.there h.map t in
    rw x.is at (main_now (made ws x.h x.n₀ x.ps x.o) (some_replacement ws x.h.map x.n₂ next x.o b.0 x.replacement_read) (nil_is x.h.parameters (h.bare b.1)))

-- THE TYPING

module _ (g : Grammar) (ws : Words) (bounded : Bounded g) where
  main_first : (rules : Rules) → RulesRead (length g) ws rules → some_is (get_elem? rules 0) main_of ≡ fits_scope (get_or rules 0 no_rule) 0
  unfolding some_is
  main_first [] r = absurd (omega (arith, r.one))
  main_first (s ∷ rs) r =
      let u = many_suc (rule (length g) ws) (length rs) 1 r.each in
      let y : u.0 ≡ s = cc u.5 in
      main_same (length g) ws bounded.few s u.1 (u.3 ∙ ap (λ l. value l u.1) y) r.bits

  read_typed : (rules : Rules) → RulesRead (length g) ws rules → accepted (rules_typed g rules ws) ≡ well_typed g rules
  unfolding rules_typed main_target well_typed
  read_typed rules r =
      rw (main_first rules r) (go (fits_scope (get_or rules 0 no_rule) 0) (many (length rules) (rule_typed g rules ws) 1) (many_typed g rules ws bounded r.few (length rules) 1 rules r.last r.each))
    where
      go : (c : Bool) (q : Read (List (Unit {0}))) → accepted q ≡ rules_of g rules rules → accepted (and_then (require c 23 1 1) (λ u next. and_then q (λ us. return (tt {0})))) ≡ (rules_of g rules rules && c)
      go true (value us n) e = rw (← e)
      go true (refused us n) e = rw (← e)
      go false q e = sym (and-false (rules_of g rules rules))

-- a grammar that is accepted, and rules that are laid out: the typing accepts exactly if the test of the decoded rules holds
pub typing_exact : (gs ws : Words) (g : Grammar) (rules : Rules) (m n : ℕ) → read_grammar gs ≡ value g m → read_layout (length g) ws ≡ value rules n → accepted (rules_typed g rules ws) ≡ well_typed g rules
typing_exact gs ws g rules m n e f = read_typed g ws (read_bounded gs g m e) rules (layout_value (length g) ws rules n f)

-- THE THEOREM

module _ (gs ws : Words) (g : Grammar) (m : ℕ) (e : read_grammar gs ≡ value g m) where
  passes_sound : (rules : Rules) → Passes g ws rules → LaidOut g ws rules × WellTyped g rules
  unfolding read_rules
  passes_sound rules p =
      let a = then_value (read_layout (length g) ws) (λ rs next. and_then (rules_typed g rs ws) (λ u. return rs)) p.1 in
      let b = then_value (rules_typed g a.0 ws) (λ u. return a.0) a.3 in
      read a.0 a.1 b.1 a.2 b.2 (cc b.3)
    where
      read : (rs : Rules) (n next : ℕ) {u : Unit {0}} → read_layout (length g) ws ≡ value rs n → rules_typed g rs ws ≡ value u next → rs ≡ rules → LaidOut g ws rules × WellTyped g rules
      read rs n next f h y = let both : LaidOut g ws rs × WellTyped g rs = ((n, f), tested g rs (sym (typing_exact gs ws g rs m n e f) ∙ ap accepted h)) in rw y at both

  passes_complete : (rules : Rules) → LaidOut g ws rules → WellTyped g rules → Passes g ws rules
  unfolding read_rules
  passes_complete rules l w =
      let a = accepted_value (rules_typed g rules ws) (typing_exact gs ws g rules m l.0 e l.1 ∙ well_tested w) in
      read l.0 a.1 l.1 a.2
    where
      read : (n next : ℕ) {u : Unit {0}} → read_layout (length g) ws ≡ value rules n → rules_typed g rules ws ≡ value u next → Passes g ws rules
      read n next f h = (next, rw (f, h))

  pub passes_exactly : (rules : Rules) → Exactly g ws rules
  passes_exactly rules = record { sound = passes_sound rules; complete = passes_complete rules }

-- Laws of a whole book: where its rules stand, that all of them are typed, and the single check. Assumes nothing.
use Prim.Native.Nat.{ℕ, zero, suc, ◌+◌, ◌-◌, ◌<◌, ◌≤◌}
use mathlib.Core.Path.{◌≡◌, refl, sym, ap, ◌∙◌}
use mathlib.Core.List.{List, [], ◌∷◌, ◌++◌}
use mathlib.Core.Bool.{Bool, true, false}
use mathlib.Core.Option.{Option, none, some}
use native.Mathlib.Omega.{arith}
use native.Mathlib.Nat.{add-zero}
use native.Mathlib.Numerals.{add-one}
use lib.ListN.{length, get_or, set, replicate, get_elem?}
use lib.Seq.{sets}
use lib.Dec.{ltb}
use borrow.Author.Tests.{le-leb, lt-leb}
use Rattle.std.specs.Prelude.{Result, Ok, Err}
use Rattle.words.specs.Reader.{Words, pick, Read, value, refused, Reader, and_then, return, many, end, accepted, ◌>>=◌, ◌>>◌}
use Rattle.words.specs.Views.{answer}
use Rattle.words.proofs.Laws.{answer_passed, answer_refused, then_value, require_value, in_value, many_suc, many_length, accepted_value}
use Rattle.words.proofs.Sets.{get_d_within}
use Rattle.grammar.specs.Limits.{most_grammar_words}
use Rattle.grammar.specs.Grammar.{Grammar, read_grammar, grammar_fits}
use Rattle.tables.specs.Tables.{read_of}
use Rattle.tables.specs.Types.{AreAllTypes}
use Rattle.tables.specs.declared.types.Types.{Types}
use Rattle.std.proofs.Math.Logic.{∥∥₁_map}
use Rattle.std.specs.Result.{result_unwrap_or}
use Rattle.rules.specs.Limits.{most_rules, most_rule_words}
use Rattle.rules.specs.Rules.{Rule, Rules, Piece, pieces}
use Rattle.rules.specs.Layout.{bit, only_if, stretch, field, pairs, replacement, main_fits, main_bits, rule, layout, read_layout, rules_fit}
use Rattle.judgement.specs.Typing.{is_some, fits_scope, no_rule, rule_typed, main_target, rules_typed, read_rules, check_rules}
use Rattle.dues.specs.Views.{words_at}
use Rattle.pairs.specs.Book.{Headed, Book, Given}
use Rattle.typing.specs.Views.{positions}
use Rattle.typing.proofs.Places.{rule_shape, rule_next}

-- PARAMETERS

words_more : (ws : Words) (first i : ℕ) → words_at ws first (suc i) ≡ words_at ws first i ++ get_or ws (first + i) 0 ∷ []
unfolding words_at
words_more ws first zero = rw (add-zero first)
words_more ws first (suc i) = let z : first + suc i ≡ first + 1 + i = omega arith in rw z (ap (λ l. get_or ws first 0 ∷ l) (words_more ws (first + 1) i))

pub parameters_none : (ws : Words) (first : ℕ) → [] ≡ words_at ws first 0
unfolding words_at
parameters_none ws first = refl

pub parameters_more : (ws : Words) (first i : ℕ) {w : ℕ} {Γ Δ : Words} → w ≡ get_or ws (first + i) 0 → Γ ≡ words_at ws first i → Δ ≡ Γ ++ w ∷ [] → Δ ≡ words_at ws first (i + 1)
parameters_more ws first i e k d = d ∙ rw (add-one i, k, e) (sym (words_more ws first i))

pub parameters_length : (ws : Words) (first i : ℕ) → length (words_at ws first i) ≡ i
unfolding words_at
parameters_length ws first zero = refl
parameters_length ws first (suc i) = ap suc (parameters_length ws (first + 1) i)

-- WHERE THE RULES STAND

module _ {A : Type 0} (r : Reader A) (k i at : ℕ) (h : i < k) (a : accepted (many (k - i) r at) ≡ true) where
  -- where the readings left pass, the first and the others pass
  many_first : (x : A) × (p : ℕ) × (r at ≡ value x p) × (accepted (many (k - (i + 1)) r p) ≡ true)
  many_first =
      let u = accepted_value (many (k - i) r at) a in
      let z : k - i ≡ suc (k - (i + 1)) = omega arith in
      let e : many (suc (k - (i + 1))) r at ≡ value u.0 u.1 = ap (λ n. many n r at) (sym z) ∙ u.2 in
      let v = many_suc r (k - (i + 1)) at e in
      (v.0, v.1, v.3, rw v.4)

module _ (types : ℕ) (ws : Words) where
  positions_length : (n at : ℕ) → length (positions types ws n at) ≡ n
  unfolding positions
  positions_length zero at = refl
  positions_length (suc n) at = ap suc (positions_length n _)

  positions_more : (k i at : ℕ) {r : Rule} {next : ℕ} → i < k → rule types ws at ≡ value r next → positions types ws (k - i) at ≡ at ∷ positions types ws (k - (i + 1)) next
  unfolding positions
  positions_more k i at h e = let z : k - i ≡ suc (k - (i + 1)) = omega arith in rw (z, e)

  positions_none : (k i at : ℕ) → k ≤ i → positions types ws (k - i) at ≡ []
  unfolding positions
  positions_none k i at h = let z : k - i ≡ 0 = omega arith in rw z

  module _ (starts all : Words) (k i at : ℕ) (s : sets starts i (positions types ws (k - i) at) ≡ all) where
    pub starts_more : i < k → accepted (many (k - i) (rule types ws) at) ≡ true → {c : Result ℕ (ℕ × ℕ)} → c ≡ answer (rule types ws at)
        → (accepted (many (k - (i + 1)) (rule types ws) (result_unwrap_or c at)) ≡ true) × (sets (set starts i at) (i + 1) (positions types ws (k - (i + 1)) (result_unwrap_or c at)) ≡ all)
    starts_more h a {c} d =
        let u = many_first (rule types ws) k i at h a in
        let z : result_unwrap_or c at ≡ u.1 = rw (d, u.2) in
        let m : sets starts i (at ∷ positions types ws (k - (i + 1)) u.1) ≡ all = rw (positions_more k i at h u.2) at s in
        (rw z u.3, rw z (ap (λ j. sets (set starts i at) j (positions types ws (k - (i + 1)) u.1)) (add-one i) ∙ m))

    pub starts_end : k ≤ i → starts ≡ all
    starts_end h = rw (positions_none k i at h) at s

  replacement_some : (m at n : ℕ) (o : Option (List Piece)) → replacement ws m at ≡ value o n → is_some o ≡ bit 3 m
  unfolding replacement is_some
  replacement_some m at n o = go (bit 3 m)
    where
      go : (b : Bool) → only_if b none (◌>>=◌ (pairs ws) (λ q. return (some (pieces (stretch ws q))))) at ≡ value o n → is_some o ≡ b
      go true e =
          let u = then_value (pairs ws at) (λ q. return (some (pieces (stretch ws q)))) e in
          let z : some (pieces (stretch ws u.0)) ≡ o = cc u.3 in ap is_some (sym z)
      go false e = let z : none ≡ o = cc in ap is_some (sym z)

  rule_headed : (at : ℕ) (r : Rule) (n : ℕ) → rule types ws at ≡ value r n → Headed types ws at r
  rule_headed at r n e =
      let u = rule_shape types ws at r n e in
      let a = u.0 in
      record { head = a.head; next = a.pattern; read = a.head_read_lem; target = u.1; strategy = u.2; parameters = u.3; replaces = ap is_some u.4 ∙ replacement_some a.head.map a.next n a.replaced a.replacement_read }

  rules_headed : (n at : ℕ) (rules : Rules) (next : ℕ) → many n (rule types ws) at ≡ value rules next → (a : ℕ) → a < n → Headed types ws (get_or (positions types ws n at) a 0) (get_or rules a no_rule)
  unfolding positions
  rules_headed zero at rules next e a h = absurd (omega arith)
  rules_headed (suc n) at rules next e zero h =
      let u = many_suc (rule types ws) n at e in
      rw u.5 (rule_headed at u.0 u.1 u.3)
  rules_headed (suc n) at rules next e (suc a) h =
      let u = many_suc (rule types ws) n at e in
      rw (u.5, u.3) (rules_headed n u.1 u.2 next u.4 a (omega arith))

  start_is : (n a : ℕ) → n ≤ 64 → a < n → get_or (sets (replicate 64 0) 0 (positions types ws n 1)) a 0 ≡ get_or (positions types ws n 1) a 0
  start_is n a l h =
      let z : 0 + a ≡ a = omega arith in
      rw z at (get_d_within (replicate 64 0) 0 a (positions types ws n 1) (omega (arith, positions_length n 1)) (omega (arith, positions_length n 1)))

  pub book_of : (starts : Words) (n : ℕ) (rules : Rules) (next : ℕ) → many n (rule types ws) 1 ≡ value rules next → n ≡ get_or ws 0 0 → n ≤ 64 → starts ≡ sets (replicate 64 0) 0 (positions types ws n 1) → Book types ws starts rules
  book_of starts n rules next e en l s =
      let m = many_length (rule types ws) n 1 rules next e in
      record { count = m ∙ en; heads = λ a h. rw (s, start_is n a l (omega arith)) (rules_headed n 1 rules next e a (omega arith)) }

  -- each rule that was read stands at its position
  rules_placed : (n at : ℕ) (rules : Rules) (next : ℕ) → many n (rule types ws) at ≡ value rules next → (a : ℕ) (r : Rule) → get_elem? rules a ≡ some r
      → (a < n) × ((m : ℕ) × (rule types ws (get_or (positions types ws n at) a 0) ≡ value r m))
  unfolding positions many
  rules_placed zero at rules next e a r h =
      let y : [] ≡ rules = cc in
      let x : none ≡ some r = rw (← y) at h in
      let z : ◌≡◌ {A = ℕ} 0 1 = cc x in absurd (omega arith)
  rules_placed (suc n) at rules next e zero r h =
      let u = many_suc (rule types ws) n at e in
      let x : some u.0 ≡ some r = rw u.5 at h in
      let y : u.0 ≡ r = cc x in
      (omega arith, (u.1, u.3 ∙ ap (λ k. value k u.1) y))
  rules_placed (suc n) at rules next e (suc a) r h =
      let u = many_suc (rule types ws) n at e in
      let x : get_elem? u.2 a ≡ some r = rw u.5 at h in
      let p = rules_placed n u.1 u.2 next u.4 a r x in
      (omega (arith, p.0), rw u.3 p.1)

-- ALL THE RULES

module _ (types : ℕ) (ws : Words) (k i at : ℕ) (h : i < k) (a : accepted (many (k - i) (rule types ws) at) ≡ true) where
  pub rule_accepted : accepted (rule types ws at) ≡ true
  rule_accepted = let u = many_first (rule types ws) k i at h a in rw u.2

  pub rules_more : (g : Grammar) (rules : Rules) → length g ≡ types → {c : Result ℕ (ℕ × ℕ)} → c ≡ answer (rule_typed g rules ws at) → {next : ℕ} → c ≡ Ok next → accepted (many (k - (i + 1)) (rule types ws) next) ≡ true
  rules_more g rules l {c} d {next} e =
      let u = many_first (rule types ws) k i at h a in
      let v = answer_passed (rule_typed g rules ws at) c d e in
      let s = (rule_shape types ws at u.0 u.1 u.2).0 in
      let z : next ≡ u.1 = rule_next g rules types ws l at u.1 s next v.1 in
      ap (λ p. accepted (many (k - (i + 1)) (rule types ws) p)) z ∙ u.3

-- what an accepted layout went through
pub record LayoutOf (types : ℕ) (ws : Words) : Type 0 where
  pub rules : Rules
  pub last : ℕ
  pub whole : read_layout types ws ≡ value rules last
  pub each : many (get_or ws 0 0) (rule types ws) 1 ≡ value rules last
  pub few : get_or ws 0 0 ≤ 64
  pub some : 1 ≤ get_or ws 0 0

-- a reading of nothing but the end
end_value : (ws : Words) (at : ℕ) {u : Unit {0}} {next : ℕ} → end 20 ws at ≡ value u next → next ≡ at
unfolding end
end_value ws at {u} {next} = go (ltb at (length ws))
  where
    go : (b : Bool) → pick b (refused 20 at) (value tt at) ≡ value u next → next ≡ at
    go true e = let z : ◌≡◌ {A = ℕ} 0 1 = cc in absurd (omega arith)
    go false e = let z : at ≡ next = cc in sym z

layout_shape : (types : ℕ) (ws : Words) (rules : Rules) (last : ℕ) → read_layout types ws ≡ value rules last → (n : ℕ) × (n ≡ get_or ws 0 0) × (1 ≤ n) × (n ≤ 64) × (many n (rule types ws) 1 ≡ value rules last)
unfolding read_layout layout main_bits field
layout_shape types ws rules last e =
    let u = then_value (field ws 1 most_rules 0) (λ n. ◌>>◌ (main_bits ws) (◌>>=◌ (many n (rule types ws)) (λ rs. ◌>>◌ (end 20 ws) (return rs)))) e in
    let w = in_value 20 21 ws 1 most_rules 0 u.2 in
    let v = require_value (main_fits ws u.1) 21 0 u.1 (λ t. ◌>>=◌ (many u.0 (rule types ws)) (λ rs. ◌>>◌ (end 20 ws) (return rs))) u.3 in
    let x = then_value (many u.0 (rule types ws) u.1) (λ rs. ◌>>◌ (end 20 ws) (return rs)) v.1 in
    let y = then_value (end 20 ws x.1) (λ t. return x.0) x.3 in
    (u.0, w.0, w.2, w.3, found u.0 u.1 x.0 x.1 y.1 w.1 x.2 (end_value ws x.1 y.2) y.3)
  where
    found : (n p : ℕ) (rs : Rules) (q m : ℕ) → p ≡ 0 + 1 → many n (rule types ws) p ≡ value rs q → m ≡ q → value rs m ≡ value rules last → many n (rule types ws) 1 ≡ value rules last
    found n p rs q m i j k l =
        let z : p ≡ 1 = omega arith in
        ap (many n (rule types ws)) (sym z) ∙ j ∙ ap (value rs) (sym k) ∙ l

pub layout_of : (types : ℕ) (ws : Words) → accepted (read_layout types ws) ≡ true → LayoutOf types ws
layout_of types ws a = let u = accepted_value (read_layout types ws) a in go u.0 u.1 u.2 (layout_shape types ws u.0 u.1 u.2)
  where
    go : (rules : Rules) (last : ℕ) → read_layout types ws ≡ value rules last → (n : ℕ) × (n ≡ get_or ws 0 0) × (1 ≤ n) × (n ≤ 64) × (many n (rule types ws) 1 ≡ value rules last) → LayoutOf types ws
    go rules last e u = record { rules = rules; last = last; whole = e; each = ap (λ n. many n (rule types ws) 1) (sym u.1) ∙ u.4; few = omega (arith, u.1, u.3); some = omega (arith, u.1, u.2) }

module _ (types : ℕ) (ws : Words) (a : accepted (read_layout types ws) ≡ true) where
  pub layout_starts : {n : ℕ} → n ≡ get_or ws 0 0 → (n ≤ 64) × (accepted (many n (rule types ws) 1) ≡ true)
  layout_starts en = let l = layout_of types ws a in (omega (arith, l.few, en), rw (en, l.each))

  module _ {n : ℕ} (en : n ≡ get_or ws 0 0) {starts : Words} (s : starts ≡ sets (replicate 64 0) 0 (positions types ws n 1)) where
    pub layout_book : Book types ws starts (layout_of types ws a).rules
    layout_book =
        let l = layout_of types ws a in
        book_of types ws starts n l.rules l.last (ap (λ k. many k (rule types ws) 1) en ∙ l.each) en (omega (arith, l.few, en)) s

    module _ (g : Grammar) (k : length g ≡ types) {ok : Bool} (m : (r : Rule) → Headed types ws (get_or starts 0 0) r → ok ≡ fits_scope r 0) where
      main_is : ok ≡ fits_scope (get_or (layout_of types ws a).rules 0 no_rule) 0
      main_is = let l = layout_of types ws a in m (get_or l.rules 0 no_rule) (layout_book.heads 0 (omega (arith, layout_book.count, l.some)))

      rules_are : read_layout (length g) ws ≡ value (layout_of types ws a).rules (layout_of types ws a).last
      rules_are = ap (λ t. read_layout t ws) k ∙ (layout_of types ws a).whole

      pub main_refused : ok ≡ false → Err (23, 2) ≡ answer (read_rules g ws)
      unfolding read_rules rules_typed main_target
      main_refused h = rw (rules_are, ← main_is, h)

      pub rules_done : ok ≡ true → {c : Result ℕ (ℕ × ℕ)} → c ≡ answer (many (get_or ws 0 0) (rule_typed g (layout_of types ws a).rules ws) 1) → c ≡ answer (read_rules g ws)
      unfolding read_rules rules_typed main_target
      rules_done h {c} d =
          let l = layout_of types ws a in
          d ∙ rw (rules_are, ← main_is, h, layout_book.count) (go (many (get_or ws 0 0) (rule_typed g l.rules ws) 1))
        where
          go : (q : Read (List (Unit {0}))) → answer q ≡ answer (and_then (and_then q (λ us. return (tt {0}))) (λ u. return (layout_of types ws a).rules))
          go (value us next) = refl
          go (refused i p) = refl

-- what is known of the rule book whose layout passes, with the types of some grammar
pub layout_given : {types : Types} → ∥ AreAllTypes types ∥₁ → {ws : Words} → accepted (read_layout types.count ws) ≡ true → {n : ℕ} → n ≡ get_or ws 0 0 → {starts : Words} → starts ≡ sets (replicate 64 0) 0 (positions types.count ws n 1) → ∥ Given types ws starts ∥₁
layout_given {types} known {ws} a en s = ∥∥₁_map known (λ t.
    record { grammar = t.0; types_of = t.1; rules = (layout_of types.count ws a).rules; book = layout_book types.count ws a en s })

-- THE RULES THAT WERE READ stand where the table says

module _ (g : Grammar) (types : ℕ) (ws : Words) (rules : Rules) (last : ℕ) (k : length g ≡ types) (e : read_rules g ws ≡ value rules last) where
  read_layout_lem : (n : ℕ) × (read_layout types ws ≡ value rules n)
  unfolding read_rules
  read_layout_lem =
      let a = then_value (read_layout (length g) ws) (λ rs next. and_then (rules_typed g rs ws) (λ u. return rs)) e in
      let b = then_value (rules_typed g a.0 ws) (λ u. return a.0) a.3 in
      let y : a.0 ≡ rules = cc b.3 in
      (a.1, ap (λ t. read_layout t ws) (sym k) ∙ a.2 ∙ ap (λ rs. value rs a.1) y)

  pub read_laid : accepted (read_layout types ws) ≡ true
  read_laid = rw read_layout_lem.1

  pub read_placed : {starts : Words} {n : ℕ} → n ≡ get_or ws 0 0 → starts ≡ sets (replicate 64 0) 0 (positions types ws n 1)
      → (a : ℕ) (r : Rule) → get_elem? rules a ≡ some r → (a < most_rules) × ((next : ℕ) × (rule types ws (get_or starts a 0) ≡ value r next))
  read_placed {starts} {n} en s a r h =
      let l = layout_shape types ws rules read_layout_lem.0 read_layout_lem.1 in
      let z : n ≡ l.0 = en ∙ sym l.1 in
      let p = rules_placed types ws n 1 rules read_layout_lem.0 (rw z l.4) a r h in
      (omega (arith, p.0, l.3), rw (s, start_is types ws n a (omega (arith, l.3)) p.0) p.1)

-- THE PLACES BOOK, LAYOUT AND BOOK, TYPING

module _ (types : ℕ) (ws : Words) {c : Result ℕ (ℕ × ℕ)} (is : c ≡ answer (read_layout types ws)) where
  pub layout_accepted : {p : ℕ} → c ≡ Ok p → accepted (read_layout types ws) ≡ true
  layout_accepted e = rw (answer_passed (read_layout types ws) c is e).1

  pub layout_refused : (g : Grammar) → length g ≡ types → {x : ℕ × ℕ} → c ≡ Err x → Err x ≡ answer (read_rules g ws)
  unfolding read_rules
  layout_refused g k e = rw (k, answer_refused (read_layout types ws) c is e)

-- THE SINGLE CHECK

module _ (gs ws : Words) where
  pub check_long : most_grammar_words < length gs → Err (4, 0) ≡ answer (check_rules gs ws)
  unfolding check_rules grammar_fits
  check_long h = rw (lt-leb (length gs) most_grammar_words h)

  module _ (h : length gs ≤ most_grammar_words) where
    pub check_long_rules : most_rule_words < length ws → Err (5, 0) ≡ answer (check_rules gs ws)
    unfolding check_rules grammar_fits rules_fit
    check_long_rules i = rw (le-leb (length gs) most_grammar_words h, lt-leb (length ws) most_rule_words i)

    module _ (i : length ws ≤ most_rule_words) {c : Result ℕ (ℕ × ℕ)} (is : c ≡ answer (read_grammar gs)) where
      pub check_refused : {x : ℕ × ℕ} → c ≡ Err x → Err x ≡ answer (check_rules gs ws)
      unfolding check_rules grammar_fits rules_fit
      check_refused e = rw (le-leb (length gs) most_grammar_words h, le-leb (length ws) most_rule_words i, answer_refused (read_grammar gs) c is e)

      module _ {p : ℕ} (e : c ≡ Ok p) where
        pub check_accepted : accepted (read_grammar gs) ≡ true
        check_accepted = rw (answer_passed (read_grammar gs) c is e).1

        pub check_read : {r : Result ℕ (ℕ × ℕ)} → r ≡ answer (read_rules (read_of (read_grammar gs)) ws) → r ≡ answer (check_rules gs ws)
        unfolding check_rules grammar_fits rules_fit
        check_read d = let u = answer_passed (read_grammar gs) c is e in d ∙ rw (le-leb (length gs) most_grammar_words h, le-leb (length ws) most_rule_words i, u.1)

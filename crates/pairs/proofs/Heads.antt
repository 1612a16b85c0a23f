-- Laws of the rules that are applied: their heads, by the positions at which they stand. Assumes nothing.
use Prim.Native.Nat.{ℕ, zero, suc, ◌+◌, ◌-◌, ◌<◌, ◌≤◌}
use mathlib.Core.Path.{◌≡◌, refl, sym, ap, ◌∙◌}
use mathlib.Core.List.{List, [], ◌++◌, map}
use mathlib.Core.Bool.{Bool, true, false}
use native.Mathlib.Omega.{arith}
use native.Mathlib.Nat.{add-zero}
use lib.ListN.{length, get_or, length-map}
use lib.Dec.{eqb}
use borrow.Author.Tests.{lt-ltb, le-ltb, ne_eqb, eq-eqb}
use Rattle.std.specs.Prelude.{Result, Ok, Err, Option, None}
use Rattle.words.specs.Reader.{Words, or, Read, value, refused, ◌>>=◌, return, many}
use Rattle.words.proofs.Laws.{then_value, in_value, many_suc, many_length}
use Rattle.grammar.specs.Grammar.{Grammar}
use Rattle.rules.specs.Limits.{most_parameters}
use Rattle.rules.specs.Rules.{Rule, Rules, root_only, first_match, exhaustive, one_pass, searches}
use Rattle.rules.specs.Rules as Rules
use Rattle.rules.specs.Layout.{Head, bit, only_if, strategy_of, field, reach, type_field, parameters, head_fields, head}
use Rattle.rules.specs.Views.{head_read, strategy_as}
use Rattle.rules.specs.declared.Head.{Head as HeadFound}
use Rattle.judgement.specs.Wanted.{Wanted, exactly}
use Rattle.judgement.specs.Typing.{Place, in_pattern, in_replacement, in_condition, Due, application, argument, Context, meets, applies_rule, applies_operation, fits_scope, operates_on, usable, wanted_by_operation, wanted_by, no_rule}
use Rattle.dues.specs.Views.{Meets, words_at, parameters_due, searches_as, applies_map, arguments_counted}
use Rattle.dues.proofs.Row.{parameters_length}
use Rattle.pairs.specs.Book.{Headed, Book}
use Rattle.pairs.specs.Views.{rule_usable}

-- A RULE'S PARAMETERS ARE THE WORDS BEFORE ITS PATTERN

types_are : (types : ℕ) (ws : Words) (k at : ℕ) (ts : List ℕ) (next : ℕ) → many k (type_field types ws) at ≡ value ts next → at ≤ length ws → (ts ≡ words_at ws at k) × (next ≡ at + k) × (next ≤ length ws)
unfolding many words_at type_field field
types_are types ws zero at ts next e l = let z : [] ≡ ts = cc in let y : at ≡ next = cc in (sym z, omega arith, omega arith)
types_are types ws (suc k) at ts next e l =
    let u = many_suc (type_field types ws) k at e in
    let w = in_value 20 21 ws 0 (types - 1) at u.3 in
    let i = types_are types ws k u.1 u.2 next u.4 (omega arith) in
    (cc (u.5, w.0, w.1, i.0), omega (arith, i.1, w.1), i.2)

pub record Parameters (ws : Words) (ts : List ℕ) (next : ℕ) : Type 0 where
  pub few : length ts ≤ 4
  pub before : length ts ≤ next
  pub within : next ≤ length ws
  pub words : ts ≡ words_at ws (next - length ts) (length ts)

parameters_are : (types : ℕ) (ws : Words) (m at : ℕ) (ts : List ℕ) (next : ℕ) → parameters types ws m at ≡ value ts next → at ≤ length ws → Parameters ws ts next
unfolding parameters field words_at
parameters_are types ws m at ts next = go (bit 1 m)
  where
    counted : (k p : ℕ) → k ≤ 4 → p ≤ length ws → many k (type_field types ws) p ≡ value ts next → Parameters ws ts next
    counted k p h l e =
        let t = types_are types ws k p ts next e l in
        let n = many_length (type_field types ws) k p ts next e in
        let z : next - length ts ≡ p = omega arith in
        record { few = omega arith; before = omega arith; within = t.2; words = rw (z, n) t.0 }

    go : (b : Bool) → only_if b [] (◌>>=◌ (field ws 1 most_parameters) (λ k. many k (type_field types ws))) at ≡ value ts next → at ≤ length ws → Parameters ws ts next
    go true e l =
        let u = then_value (field ws 1 most_parameters at) (λ k. many k (type_field types ws)) e in
        let w = count_is u.0 u.1 u.2 in
        counted u.0 u.1 w.0 w.1 u.3
      where
        count_is : (k p : ℕ) → field ws 1 most_parameters at ≡ value k p → (k ≤ 4) × (p ≤ length ws)
        count_is k p f = let w = in_value 20 21 ws 1 most_parameters at f in (w.3, omega arith)
    go false e l = let z : [] ≡ ts = cc in let y : at ≡ next = cc in rw (← z) (record { few = omega arith; before = omega arith; within = omega arith; words = nothing_read (next - 0) })
      where
        nothing_read : (p : ℕ) → [] ≡ words_at ws p 0
        nothing_read p = refl

reach_within : (ws : Words) (m at r next : ℕ) → reach ws m at ≡ value r next → at ≤ length ws → next ≤ length ws
unfolding reach field
reach_within ws m at r next = go (bit 0 m)
  where
    go : (b : Bool) → only_if b 0 (field ws 1 3) at ≡ value r next → at ≤ length ws → next ≤ length ws
    go true e l = let w = in_value 20 21 ws 1 3 at e in omega arith
    go false e l = let y : at ≡ next = cc in omega arith

parameters_as : {ws : Words} {h h' : Head} {p next : ℕ} → Parameters ws h.parameters p → h ≡ h' → p ≡ next → Parameters ws h'.parameters next
parameters_as q e f = rw (e, f) at q

pub head_parameters : (types : ℕ) (ws : Words) (at : ℕ) (h : Head) (next : ℕ) → head types ws at ≡ value h next → Parameters ws h.parameters next
unfolding head head_fields type_field field
head_parameters types ws at h next e =
    let u = then_value (field ws 0 15 at) (λ m. ◌>>=◌ (type_field types ws) (λ t. head_fields types ws m t)) e in
    let v = then_value (type_field types ws u.1) (λ t. head_fields types ws u.0 t) u.3 in
    let a = in_value 20 21 ws 0 (types - 1) u.1 v.2 in
    let make : ℕ → List ℕ → Head = λ r ps. record { map = u.0; target = v.0; strategy = strategy_of r; parameters = ps } in
    let w = then_value (reach ws u.0 v.1) (λ r. ◌>>=◌ (parameters types ws u.0) (λ ps. return (make r ps))) v.3 in
    let x = then_value (parameters types ws u.0 w.1) (λ ps. return (make w.0 ps)) w.3 in
    let l = reach_within ws u.0 v.1 w.0 w.1 w.2 (omega arith) in
    let p = parameters_are types ws u.0 w.1 x.0 x.1 x.2 l in
    let y : make w.0 x.0 ≡ h = cc x.3 in
    let z : x.1 ≡ next = cc x.3 in
    parameters_as {h = make w.0 x.0} {p = x.1} p y z

-- WHAT A RULE'S HEAD, AS THE CODE READS IT, TELLS

found : (q : Read Head) {f : HeadFound} → Ok f ≡ head_read q
    → (h : Head) × (next : ℕ) × (q ≡ value h next) × (f ≡ record { map = h.map; target = h.target; strategy = strategy_as h.strategy; count = length h.parameters; parameters = next - length h.parameters; pattern = next })
found (value h next) e = (h, next, refl, cc)
found (refused n p) e = cc

not_found : (q : Read Head) {x : ℕ × ℕ} → Err x ≡ head_read q → {h : Head} {next : ℕ} → q ≡ value h next → ⊥
not_found (value h next) e d = cc
not_found (refused n p) e d = cc

module _ (types : ℕ) (ws : Words) (at : ℕ) where
  pub unheaded : {x : ℕ × ℕ} → Err x ≡ head_read (head types ws at) → (rule : Rule) → Headed types ws at rule → {A : Type 0} → A
  unheaded e rule H = absurd (not_found (head types ws at) e H.read)

  module _ {f : HeadFound} (e : Ok f ≡ head_read (head types ws at)) where
    pub head_few : (f.count ≤ 4) × (f.parameters ≤ length ws)
    head_few = let u = found (head types ws at) e in let p = head_parameters types ws at u.0 u.1 u.2 in rw u.3 (p.few, omega (arith, p.within))

    module _ (rule : Rule) (H : Headed types ws at rule) where
      headed_is : f ≡ record { map = H.head.map; target = H.head.target; strategy = strategy_as H.head.strategy; count = length H.head.parameters; parameters = H.next - length H.head.parameters; pattern = H.next }
      headed_is =
          let u = found (head types ws at) e in
          let j : value u.0 u.1 ≡ value H.head H.next = sym u.2 ∙ H.read in
          let y : u.0 ≡ H.head = cc j in
          let z : u.1 ≡ H.next = cc j in
          u.3 ∙ rw (y, z)

      -- the parameters' types are words
      wanted_is : map exactly rule.parameters ≡ map exactly (words_at ws f.parameters f.count)
      wanted_is = ap (map exactly) (H.parameters ∙ (head_parameters types ws at H.head H.next H.read).words ∙ rw headed_is)

      applies_is : (here : Place) → applies_rule here rule ≡ applies_map here f.map
      unfolding applies_rule
      applies_is in_pattern = refl
      applies_is in_replacement = H.replaces ∙ rw headed_is
      applies_is in_condition = refl

      searches_is : (s : Rules.Strategy) → searches_as (strategy_as s) ≡ searches s
      searches_is root_only = refl
      searches_is first_match = refl
      searches_is exhaustive = refl
      searches_is one_pass = refl

      pub fits_is : (s : ℕ) → or (searches_as f.strategy) (eqb f.target s) ≡ fits_scope rule s
      unfolding fits_scope
      fits_is s = rw (headed_is, H.strategy, H.target, searches_is H.head.strategy)

      module _ (here : Place) (s : ℕ) {a : Bool} (ea : a ≡ applies_map here f.map) where
        pub usable_not : a ≡ false → false ≡ rule_usable here rule s
        usable_not h = rw (applies_is here, ← ea, h)

        pub usable_fits : a ≡ true → {q : Bool} → q ≡ or (searches_as f.strategy) (eqb f.target s) → q ≡ rule_usable here rule s
        usable_fits h k = k ∙ fits_is s ∙ rw (applies_is here, ← ea, h)

      module _ (v at' : ℕ) (Γ : Context) where
        pub counted_other : (v ≡ f.count → ⊥) → (ds : List Due) → Meets (Err (22, at' + 1)) Γ ds ds (arguments_counted (map exactly rule.parameters) Γ v at')
        unfolding arguments_counted
        counted_other h ds = rw (wanted_is, ne_eqb v (length (map exactly (words_at ws f.parameters f.count))) (λ z. h (z ∙ parameters_length ws f.parameters f.count))) (record { says = refl })

        pub counted_met : v ≡ f.count → (ds ds' : List Due) → ds' ≡ parameters_due ws f.parameters f.count ++ ds → Meets (Ok None) Γ ds ds' (arguments_counted (map exactly rule.parameters) Γ v at')
        unfolding arguments_counted
        counted_met h ds ds' p =
            let n = parameters_length ws f.parameters f.count in
            let us : List Wanted = map exactly (words_at ws f.parameters f.count) in
            rw (wanted_is, eq-eqb v (length (map exactly (words_at ws f.parameters f.count))) (h ∙ sym n))
            (record { says = record { dues = map argument us; next = at' + 2; read = refl; pushed = p; few = omega (arith, length-map us argument, n, head_few.0) } })

pub headed_at : {types : ℕ} {ws : Words} {at at' : ℕ} {rule : Rule} → at' ≡ at → Headed types ws at rule → Headed types ws at' rule
headed_at e h = rw e h

-- WHAT MAY BE APPLIED

module _ (g : Grammar) (rules : Rules) (here : Place) (s a : ℕ) (ws starts : Words) (types : ℕ) (book : Book types ws starts rules) {n : ℕ} (en : n ≡ get_or ws 0 0) where
  pub rule_head : a < n → Headed types ws (get_or starts a 0) (get_or rules a no_rule)
  rule_head h = book.heads a (omega (arith, book.count))

  pub usable_rule : {r : Bool} → a < n → r ≡ rule_usable here (get_or rules a no_rule) s → r ≡ usable g rules here s a
  unfolding usable
  usable_rule h k = k ∙ rw (lt-ltb a (length rules) (omega (arith, book.count)))

  module _ (h : n ≤ a) {b : Bool} (eb : b ≡ applies_operation here a) where
    pub usable_other : b ≡ false → false ≡ usable g rules here s a
    unfolding usable
    usable_other i = rw (le-ltb a (length rules) (omega (arith, book.count)), ← eb, i)

    pub usable_operation : b ≡ true → {r : Bool} → r ≡ operates_on g a s → r ≡ usable g rules here s a
    unfolding usable
    usable_operation i k = k ∙ rw (le-ltb a (length rules) (omega (arith, book.count)), ← eb, i)

  module _ (v at : ℕ) {ds ds' : List Due} {Γ : Context} {m : Result (Option ℕ) (ℕ × ℕ)} (ok : true ≡ usable g rules here s a) where
    pub application_rule : a < n → Meets m Γ ds ds' (arguments_counted (map exactly (get_or rules a no_rule).parameters) Γ v at) → Meets m Γ ds ds' (meets g rules here (application s) Γ a v at)
    unfolding meets wanted_by arguments_counted
    application_rule l k = rw (← ok, lt-ltb a (length rules) (omega (arith, book.count))) k

    pub application_operation : n ≤ a → Meets m Γ ds ds' (arguments_counted (wanted_by_operation s a) Γ v at) → Meets m Γ ds ds' (meets g rules here (application s) Γ a v at)
    unfolding meets wanted_by arguments_counted
    application_operation l k = rw (← ok, le-ltb a (length rules) (omega (arith, book.count))) k

pub application_unusable : (g : Grammar) (rules : Rules) (here : Place) (s t v at : ℕ) (ds : List Due) (Γ : Context) → false ≡ usable g rules here s t → Meets (Err (22, at)) Γ ds ds (meets g rules here (application s) Γ t v at)
unfolding meets
application_unusable g rules here s t v at ds Γ e = rw (← e, add-zero at) (record { says = refl })

-- THE TEST OF Tested.antt ACCEPTS EXACTLY THE WELL-TYPED RULES. Assumes nothing.
use Prim.Native.Nat.{ℕ, zero, suc}
use mathlib.Core.Path.{◌≡◌, refl, sym, ap}
use mathlib.Core.List.{List, [], ◌∷◌, ◌++◌, map}
use mathlib.Core.Bool.{Bool, true, false, cond, ◌&&◌, ◌||◌}
use mathlib.Core.Option.{Option, none, some, some-injective}
use native.Mathlib.Omega.{arith}
use lib.ListN.{length, get_elem?}
use lib.Dec.{eqb, leb}
use borrow.Author.Tests.{eqb-true, eq-eqb, leb-true, le-leb}
use Rattle.words.proofs.Laws.{and_both}
use Rattle.grammar.specs.Grammar.{Grammar}
use Rattle.grammar.specs.Kinds.{allowed, children, is_number}
use Rattle.tree.specs.Limits.{most_nesting}
use Rattle.tree.proofs.Trees.{and_intro}
use Rattle.rules.specs.Limits.{most_variables}
use Rattle.rules.specs.Rules.{Operation, add, subtract, quotient, remainder, round, truncate, equal, greater, Applied, rule, operation, editing, nothing, Shape, node, new, same, Application, Piece, write, copy, chain, Part, deconstruct, search, construct, condition, searches, Rule, Rules}
use Rattle.rules.proofs.Laid.{no_true}
use Rattle.judgement.specs.Wanted.{Wanted, exactly, wants, scope_fits, wanted_in}
use Rattle.judgement.specs.WellTyped.{Types, Has, Pattern, pattern_end, a_node, a_new, a_same, pattern_nesting, PatternOf, Role, replacing, testing, Operates, adds, subtracts, divides, remains, rounds, truncates, equals, exceeds, Usable, Arguments, no_argument, an_argument, Fits, Applies, a_rule, an_operation, an_edit, AllApply, all_none, all_more, Replacement, pieces_end, a_written, a_copy, a_chain, piece_nesting, ReplacementOf, PartFits, deconstructs, searches_for, constructs, tests, PartsFit, no_part, a_part, RuleFits, Main, WellTyped}
use Rattle.judgement.specs.Tested.{on_some, some_is, has_type, arguments_of, pattern_of, operates_of, is_replacing, usable_of, fits_of, applies_of, all_apply_of, pieces_of, one_pattern, one_replacement, part_of, parts_of, replacement_of, rule_of, rules_of, is_nil, main_of, well_typed}

pub no_some : {A B : Type 0} {b : B} → none ≡ some b → A
no_some {B = B} {b} e = let z : ◌≡◌ {A = ℕ} 0 1 = cc in absurd (omega arith)

cond_some : {A : Type 0} {a : A} (b : Bool) (x : Option A) → cond b x none ≡ some a → (b ≡ true) × (x ≡ some a)
cond_some true x e = (refl, e)
cond_some false x e = no_some e

on_some_some : {A B : Type 0} {b : B} (o : Option A) (f : A → Option B) → on_some o f ≡ some b → (a : A) × (o ≡ some a) × (f a ≡ some b)
unfolding on_some
on_some_some none f e = no_some e
on_some_some (some a) f e = (a, refl, e)

some_is_true : {A : Type 0} (o : Option A) (f : A → Bool) → some_is o f ≡ true → (a : A) × (o ≡ some a) × (f a ≡ true)
unfolding some_is
some_is_true none f e = no_true e
some_is_true (some a) f e = (a, refl, e)

has_type_has : (Γ : Types) (x t : ℕ) → has_type Γ x t ≡ true → Has Γ x t
unfolding has_type
has_type_has [] x t e = no_true e
has_type_has (u ∷ Γ) zero t e = ap some (eqb-true u t e)
has_type_has (u ∷ Γ) (suc x) t e = has_type_has Γ x t e

arguments_of_lem : (g : Grammar) (Γ : Types) (xs : List ℕ) (ws : List Wanted) → arguments_of g Γ xs ws ≡ true → Arguments g Γ xs ws
unfolding arguments_of
arguments_of_lem g Γ [] [] e = no_argument
arguments_of_lem g Γ [] (w ∷ ws) e = no_true e
arguments_of_lem g Γ (x ∷ xs) [] e = no_true e
arguments_of_lem g Γ (x ∷ xs) (w ∷ ws) e =
    let p = and_both (some_is (get_elem? Γ x) (wants g w)) (arguments_of g Γ xs ws) e in
    let q = some_is_true (get_elem? Γ x) (wants g w) p.0 in
    an_argument q.1 q.2 (arguments_of_lem g Γ xs ws p.1)

pub pattern_of_lem : {g : Grammar} {Γ' : Types} (ps : List Shape) (Γ due : Types) → pattern_of g Γ ps due ≡ some Γ' → Pattern g Γ due ps Γ'
unfolding pattern_of
pattern_of_lem {g} {Γ'} [] Γ [] e = let z : Γ ≡ Γ' = cc in rw z pattern_end
pattern_of_lem [] Γ (d ∷ due) e = no_some e
pattern_of_lem (p ∷ ps) Γ [] e = no_some e
pattern_of_lem {g} (node t v ∷ ps) Γ (d ∷ due) e =
    let p = cond_some (eqb t d && allowed g t v) (pattern_of g Γ ps (children g t v ++ due)) e in
    let q = and_both (eqb t d) (allowed g t v) p.0 in
    rw (← eqb-true t d q.0) (a_node q.1 (pattern_of_lem ps Γ (children g t v ++ due) p.1))
pattern_of_lem {g} (new t ∷ ps) Γ (d ∷ due) e =
    let p = cond_some (eqb t d) (pattern_of g (Γ ++ t ∷ []) ps due) e in
    rw (← eqb-true t d p.0) (a_new (pattern_of_lem ps (Γ ++ t ∷ []) due p.1))
pattern_of_lem {g} (same x ∷ ps) Γ (d ∷ due) e =
    let p = cond_some (has_type Γ x d) (pattern_of g Γ ps due) e in
    a_same (has_type_has Γ x d p.0) (pattern_of_lem ps Γ due p.1)

pub one_pattern_of : (g : Grammar) (Γ Γ' : Types) (ps : List Shape) (t : ℕ) → one_pattern g Γ ps t ≡ some Γ' → PatternOf g Γ t ps Γ'
unfolding one_pattern
one_pattern_of g Γ Γ' ps t e =
    let p = cond_some (leb (pattern_nesting g ps (1 ∷ [])) most_nesting) (pattern_of g Γ ps (t ∷ [])) e in
    record { typed = pattern_of_lem ps Γ (t ∷ []) p.1; nested = leb-true _ _ p.0 }

operates_of_lem : (role : Role) (o : Operation) (ws : List Wanted) → operates_of role o ≡ some ws → Operates role o ws
unfolding operates_of
operates_of_lem replacing add ws e = rw (← some-injective _ ws e) adds
operates_of_lem replacing subtract ws e = rw (← some-injective _ ws e) subtracts
operates_of_lem replacing quotient ws e = rw (← some-injective _ ws e) divides
operates_of_lem replacing remainder ws e = rw (← some-injective _ ws e) remains
operates_of_lem replacing round ws e = rw (← some-injective _ ws e) rounds
operates_of_lem replacing truncate ws e = rw (← some-injective _ ws e) truncates
operates_of_lem replacing equal ws e = no_some e
operates_of_lem replacing greater ws e = no_some e
operates_of_lem testing add ws e = no_some e
operates_of_lem testing subtract ws e = no_some e
operates_of_lem testing quotient ws e = no_some e
operates_of_lem testing remainder ws e = no_some e
operates_of_lem testing round ws e = no_some e
operates_of_lem testing truncate ws e = no_some e
operates_of_lem testing equal ws e = rw (← some-injective _ ws e) equals
operates_of_lem testing greater ws e = rw (← some-injective _ ws e) exceeds

usable_of_lem : (role : Role) (r : Rule) → usable_of role r ≡ true → Usable role r
unfolding usable_of
usable_of_lem replacing r e = let p = some_is_true r.replacement (λ ps. true) e in (p.0, p.1)
usable_of_lem testing r e = tt

scope_of : (b : Bool) (t target : ℕ) → b || eqb t target ≡ true → b ≡ false → t ≡ target
scope_of true t target e z = no_true (sym z)
scope_of false t target e z = eqb-true t target e

fits_of_lem : (g : Grammar) (Γ : Types) (t : ℕ) (xs : List ℕ) (r : Rule) → fits_of g Γ t xs r ≡ true → Fits g Γ t xs r
unfolding fits_of
fits_of_lem g Γ t xs r e =
    let p = and_both (arguments_of g Γ xs (map exactly r.parameters)) (searches r.strategy || eqb t r.target) e in
    record { arguments = arguments_of_lem g Γ xs (map exactly r.parameters) p.0; scope = scope_of (searches r.strategy) t r.target p.1 }

nil_of : (ts : Types) → is_nil ts ≡ true → ts ≡ []
unfolding is_nil
nil_of [] e = refl
nil_of (t ∷ ts) e = no_true e

main_of_lem : (r : Rule) → main_of r ≡ true → Main r
unfolding main_of
main_of_lem r e =
    let p = and_both (usable_of replacing r) (is_nil r.parameters && (searches r.strategy || eqb 0 r.target)) e in
    let q = and_both (is_nil r.parameters) (searches r.strategy || eqb 0 r.target) p.1 in
    record { replaces = usable_of_lem replacing r p.0; bare = nil_of r.parameters q.0; scope = scope_of (searches r.strategy) 0 r.target q.1 }

replacing_of : (role : Role) → is_replacing role ≡ true → role ≡ replacing
unfolding is_replacing
replacing_of replacing e = refl
replacing_of testing e = no_true e

replacing_test : {role : Role} → role ≡ replacing → is_replacing role ≡ true
unfolding is_replacing
replacing_test e = rw e

module _ (g : Grammar) (rules : Rules) (Γ : Types) (role : Role) (t : ℕ) where
  applies_of_lem : (xs : List ℕ) (p : Applied) → applies_of g rules Γ role t xs p ≡ true → Applies g rules Γ role t xs p
  unfolding applies_of
  applies_of_lem xs (rule n) e =
      let p = some_is_true (get_elem? rules n) (λ r. usable_of role r && fits_of g Γ t xs r) e in
      let q = and_both (usable_of role p.0) (fits_of g Γ t xs p.0) p.2 in
      a_rule p.1 (usable_of_lem role p.0 q.0) (fits_of_lem g Γ t xs p.0 q.1)
  applies_of_lem xs (operation o) e =
      let p = and_both (is_number g t) (some_is (operates_of role o) (arguments_of g Γ xs)) e in
      let q = some_is_true (operates_of role o) (arguments_of g Γ xs) p.1 in
      an_operation (operates_of_lem role o q.0 q.1) p.0 (arguments_of_lem g Γ xs q.0 q.2)
  applies_of_lem xs (editing o) e =
      let p = and_both (is_replacing role) (scope_fits g o t && arguments_of g Γ xs (wanted_in o t)) e in
      let q = and_both (scope_fits g o t) (arguments_of g Γ xs (wanted_in o t)) p.1 in
      an_edit (replacing_of role p.0) q.0 (arguments_of_lem g Γ xs (wanted_in o t) q.1)
  applies_of_lem xs nothing e = no_true e

  all_apply_of_lem : (apps : List Application) → all_apply_of g rules Γ role t apps ≡ true → AllApply g rules Γ role t apps
  unfolding all_apply_of
  all_apply_of_lem [] e = all_none
  all_apply_of_lem (a ∷ more) e =
      let p = and_both (applies_of g rules Γ role t a.arguments a.applied) (all_apply_of g rules Γ role t more) e in
      all_more (applies_of_lem a.arguments a.applied p.0) (all_apply_of_lem more p.1)

module _ (g : Grammar) (rules : Rules) where
  pieces_of_lem : (Γ : Types) (ps : List Piece) (due : Types) → pieces_of g rules Γ ps due ≡ true → Replacement g rules Γ due ps
  unfolding pieces_of
  pieces_of_lem Γ [] [] e = pieces_end
  pieces_of_lem Γ [] (d ∷ due) e = no_true e
  pieces_of_lem Γ (p ∷ ps) [] e = no_true e
  pieces_of_lem Γ (write t v ∷ ps) (d ∷ due) e =
      let p = and_both (eqb t d) (allowed g t v && pieces_of g rules Γ ps (children g t v ++ due)) e in
      let q = and_both (allowed g t v) (pieces_of g rules Γ ps (children g t v ++ due)) p.1 in
      rw (← eqb-true t d p.0) (a_written q.0 (pieces_of_lem Γ ps (children g t v ++ due) q.1))
  pieces_of_lem Γ (copy x ∷ ps) (d ∷ due) e =
      let p = and_both (has_type Γ x d) (pieces_of g rules Γ ps due) e in
      a_copy (has_type_has Γ x d p.0) (pieces_of_lem Γ ps due p.1)
  pieces_of_lem Γ (chain x apps ∷ ps) (d ∷ due) e =
      let p = and_both (has_type Γ x d) (all_apply_of g rules Γ replacing d apps && pieces_of g rules Γ ps due) e in
      let q = and_both (all_apply_of g rules Γ replacing d apps) (pieces_of g rules Γ ps due) p.1 in
      a_chain (has_type_has Γ x d p.0) (all_apply_of_lem g rules Γ replacing d apps q.0) (pieces_of_lem Γ ps due q.1)

  one_replacement_of : (Γ : Types) (ps : List Piece) (t : ℕ) → one_replacement g rules Γ ps t ≡ true → ReplacementOf g rules Γ t ps
  unfolding one_replacement
  one_replacement_of Γ ps t e =
      let p = and_both (leb (piece_nesting g ps (1 ∷ [])) most_nesting) (pieces_of g rules Γ ps (t ∷ [])) e in
      record { typed = pieces_of_lem Γ ps (t ∷ []) p.1; nested = leb-true _ _ p.0 }

  pub part_of_lem : (Γ Γ' : Types) (p : Part) → part_of g rules Γ p ≡ some Γ' → PartFits g rules Γ p Γ'
  unfolding part_of
  part_of_lem Γ Γ' (deconstruct x ps) e =
      let p = on_some_some (get_elem? Γ x) (λ t. one_pattern g Γ ps t) e in
      deconstructs p.1 (one_pattern_of g Γ Γ' ps p.0 p.2)
  part_of_lem Γ Γ' (search ty x ps) e =
      let p = on_some_some (get_elem? Γ x) (λ t. one_pattern g Γ ps ty) e in
      searches_for p.1 (one_pattern_of g Γ Γ' ps ty p.2)
  part_of_lem Γ Γ' (construct ty ps) e =
      let p = cond_some (one_replacement g rules Γ ps ty) (some (Γ ++ ty ∷ [])) e in
      let q = p.1 in
      let z : Γ ++ ty ∷ [] ≡ Γ' = cc in
      rw (← z) (constructs (one_replacement_of Γ ps ty p.0))
  part_of_lem Γ Γ' (condition b x apps) e =
      let p = on_some_some (get_elem? Γ x) (λ t. cond (all_apply_of g rules Γ testing t apps) (some Γ) none) e in
      let q = cond_some (all_apply_of g rules Γ testing p.0 apps) (some Γ) p.2 in
      let r = q.1 in
      let z : Γ ≡ Γ' = cc in
      rw (← z) (tests p.1 (all_apply_of_lem g rules Γ testing p.0 apps q.0))

  pub parts_of_lem : (ps : List Part) (Γ Γ' : Types) → parts_of g rules Γ ps ≡ some Γ' → PartsFit g rules Γ ps Γ'
  unfolding parts_of
  parts_of_lem [] Γ Γ' e = let z : Γ ≡ Γ' = cc in rw z no_part
  parts_of_lem (p ∷ ps) Γ Γ' e =
      let q = on_some_some (part_of g rules Γ p) (λ Δ. parts_of g rules Δ ps) e in
      a_part (part_of_lem Γ q.0 p q.1) (parts_of_lem ps q.0 Γ' q.2)

  replacement_of_lem : (Γ : Types) (target : ℕ) (o : Option (List Piece)) → replacement_of g rules Γ target o ≡ true → (ps : List Piece) → o ≡ some ps → ReplacementOf g rules Γ target ps
  unfolding replacement_of
  replacement_of_lem Γ target none e ps q = no_some q
  replacement_of_lem Γ target (some rs) e ps q = let z : rs ≡ ps = cc in rw z at (one_replacement_of Γ rs target e)

  rule_of_lem : (r : Rule) → rule_of g rules r ≡ true → RuleFits g rules r
  unfolding rule_of
  rule_of_lem r e =
      let last : Types → Bool = λ all. leb (length all) most_variables && replacement_of g rules all r.target r.replacement in
      let p = some_is_true (one_pattern g r.parameters r.pattern r.target) (λ matched. some_is (parts_of g rules matched r.parts) last) e in
      let q = some_is_true (parts_of g rules p.0 r.parts) last p.2 in
      let s = and_both (leb (length q.0) most_variables) (replacement_of g rules q.0 r.target r.replacement) q.2 in
      record {
        matched = p.0;
        all = q.0;
        pattern = one_pattern_of g r.parameters p.0 r.pattern r.target p.1;
        parts = parts_of_lem r.parts p.0 q.0 q.1;
        few = leb-true _ _ s.0;
        replacement = replacement_of_lem q.0 r.target r.replacement s.1;
      }

  rules_of_lem : (rs : Rules) → rules_of g rules rs ≡ true → (n : ℕ) (r : Rule) → get_elem? rs n ≡ some r → RuleFits g rules r
  unfolding rules_of
  rules_of_lem [] e n r h = no_some h
  rules_of_lem (s ∷ rs) e zero r h =
      let z : s ≡ r = cc in
      rw z at (rule_of_lem s (and_both (rule_of g rules s) (rules_of g rules rs) e).0)
  rules_of_lem (s ∷ rs) e (suc n) r h = rules_of_lem rs (and_both (rule_of g rules s) (rules_of g rules rs) e).1 n r h

  pub tested : well_typed g rules ≡ true → WellTyped g rules
  unfolding well_typed
  tested e =
      let p = and_both (rules_of g rules rules) (some_is (get_elem? rules 0) main_of) e in
      let q = some_is_true (get_elem? rules 0) main_of p.1 in
      record { each = rules_of_lem rules p.0; first = q.0; there = q.1; main = main_of_lem q.0 q.2 }

-- AND ALL OF THEM

has_test : (Γ : Types) (x t : ℕ) → Has Γ x t → has_type Γ x t ≡ true
unfolding has_type
has_test [] x t h = no_some h
has_test (u ∷ Γ) zero t h = eq-eqb u t (cc)
has_test (u ∷ Γ) (suc x) t h = has_test Γ x t h

some_is_of : {A : Type 0} {o : Option A} {a : A} (f : A → Bool) → o ≡ some a → f a ≡ true → some_is o f ≡ true
unfolding some_is
some_is_of f e h = rw e h

on_some_of : {A B : Type 0} {o : Option A} {a : A} {r : Option B} (f : A → Option B) → o ≡ some a → f a ≡ r → on_some o f ≡ r
unfolding on_some
on_some_of f e h = rw e h

cond_of : {A : Type 0} {b : Bool} {x z : Option A} → b ≡ true → x ≡ z → cond b x none ≡ z
cond_of e h = rw e h

arguments_test : {g : Grammar} {Γ : Types} {xs : List ℕ} {ws : List Wanted} → Arguments g Γ xs ws → arguments_of g Γ xs ws ≡ true
unfolding arguments_of
arguments_test no_argument = refl
arguments_test {g} (an_argument {w = w} h e r) = and_intro (some_is_of (wants g w) h e) (arguments_test r)

pattern_test : {g : Grammar} {Γ due Γ' : Types} {ps : List Shape} → Pattern g Γ due ps Γ' → pattern_of g Γ ps due ≡ some Γ'
unfolding pattern_of
pattern_test pattern_end = refl
pattern_test (a_node {t = t} fine p) = cond_of (and_intro (eq-eqb t t refl) fine) (pattern_test p)
pattern_test (a_new {t = t} p) = cond_of (eq-eqb t t refl) (pattern_test p)
pattern_test (a_same {Γ} {x = x} {t} h p) = cond_of (has_test Γ x t h) (pattern_test p)

one_pattern_test : {g : Grammar} {Γ Γ' : Types} {t : ℕ} {ps : List Shape} → PatternOf g Γ t ps Γ' → one_pattern g Γ ps t ≡ some Γ'
unfolding one_pattern
one_pattern_test p = cond_of (le-leb _ _ p.nested) (pattern_test p.typed)

operates_test : {role : Role} {o : Operation} {ws : List Wanted} → Operates role o ws → operates_of role o ≡ some ws
unfolding operates_of
operates_test adds = refl
operates_test subtracts = refl
operates_test divides = refl
operates_test remains = refl
operates_test rounds = refl
operates_test truncates = refl
operates_test equals = refl
operates_test exceeds = refl

usable_test : (role : Role) (r : Rule) → Usable role r → usable_of role r ≡ true
unfolding usable_of
usable_test replacing r u = some_is_of (λ ps. true) u.1 refl
usable_test testing r u = refl

scope_test : (b : Bool) (t target : ℕ) → (b ≡ false → t ≡ target) → b || eqb t target ≡ true
scope_test true t target h = refl
scope_test false t target h = eq-eqb t target (h refl)

fits_test : {g : Grammar} {Γ : Types} {t : ℕ} {xs : List ℕ} {r : Rule} → Fits g Γ t xs r → fits_of g Γ t xs r ≡ true
unfolding fits_of
fits_test {t = t} {r = r} f = and_intro (arguments_test f.arguments) (scope_test (searches r.strategy) t r.target f.scope)

module _ {g : Grammar} {rules : Rules} {Γ : Types} {role : Role} {t : ℕ} where
  applies_test : {xs : List ℕ} {p : Applied} → Applies g rules Γ role t xs p → applies_of g rules Γ role t xs p ≡ true
  unfolding applies_of
  applies_test {xs} (a_rule {r = s} there usable f) = some_is_of (λ r. usable_of role r && fits_of g Γ t xs r) there (and_intro (usable_test role s usable) (fits_test f))
  applies_test {xs} (an_operation operates number args) = and_intro number (some_is_of (arguments_of g Γ xs) (operates_test operates) (arguments_test args))
  applies_test (an_edit is scope args) = and_intro (replacing_test is) (and_intro scope (arguments_test args))

  all_apply_test : {apps : List Application} → AllApply g rules Γ role t apps → all_apply_of g rules Γ role t apps ≡ true
  unfolding all_apply_of
  all_apply_test all_none = refl
  all_apply_test (all_more a more) = and_intro (applies_test a) (all_apply_test more)

module _ {g : Grammar} {rules : Rules} where
  pieces_test : {Γ due : Types} {ps : List Piece} → Replacement g rules Γ due ps → pieces_of g rules Γ ps due ≡ true
  unfolding pieces_of
  pieces_test pieces_end = refl
  pieces_test (a_written {t = t} fine r) = and_intro (eq-eqb t t refl) (and_intro fine (pieces_test r))
  pieces_test {Γ} (a_copy {x = x} {t} h r) = and_intro (has_test Γ x t h) (pieces_test r)
  pieces_test {Γ} (a_chain {x = x} {t} h all r) = and_intro (has_test Γ x t h) (and_intro (all_apply_test all) (pieces_test r))

  one_replacement_test : {Γ : Types} {t : ℕ} {ps : List Piece} → ReplacementOf g rules Γ t ps → one_replacement g rules Γ ps t ≡ true
  unfolding one_replacement
  one_replacement_test r = and_intro (le-leb _ _ r.nested) (pieces_test r.typed)

  part_test : {Γ Γ' : Types} {p : Part} → PartFits g rules Γ p Γ' → part_of g rules Γ p ≡ some Γ'
  unfolding part_of
  part_test (deconstructs {Γ} {ps = ps} h p) = on_some_of (λ t. one_pattern g Γ ps t) h (one_pattern_test p)
  part_test (searches_for {Γ} {ty = ty} {ps = ps} h p) = on_some_of (λ t. one_pattern g Γ ps ty) h (one_pattern_test p)
  part_test (constructs r) = cond_of (one_replacement_test r) refl
  part_test (tests {Γ} {apps = apps} h all) = on_some_of (λ t. cond (all_apply_of g rules Γ testing t apps) (some Γ) none) h (cond_of (all_apply_test all) refl)

  parts_test : {Γ Γ' : Types} {ps : List Part} → PartsFit g rules Γ ps Γ' → parts_of g rules Γ ps ≡ some Γ'
  unfolding parts_of
  parts_test no_part = refl
  parts_test (a_part {ps = ps} p more) = on_some_of (λ Δ. parts_of g rules Δ ps) (part_test p) (parts_test more)

  replacement_test : (Γ : Types) (target : ℕ) (o : Option (List Piece)) → ((ps : List Piece) → o ≡ some ps → ReplacementOf g rules Γ target ps) → replacement_of g rules Γ target o ≡ true
  unfolding replacement_of
  replacement_test Γ target none f = refl
  replacement_test Γ target (some ps) f = one_replacement_test (f ps refl)

  rule_test : {r : Rule} → RuleFits g rules r → rule_of g rules r ≡ true
  unfolding rule_of
  rule_test {r} f =
      let last : Types → Bool = λ all. leb (length all) most_variables && replacement_of g rules all r.target r.replacement in
      some_is_of (λ matched. some_is (parts_of g rules matched r.parts) last) (one_pattern_test f.pattern)
      (some_is_of last (parts_test f.parts) (and_intro (le-leb _ _ f.few) (replacement_test f.all r.target r.replacement f.replacement)))

  rules_test : (rs : Rules) → ((n : ℕ) (r : Rule) → get_elem? rs n ≡ some r → RuleFits g rules r) → rules_of g rules rs ≡ true
  unfolding rules_of
  rules_test [] f = refl
  rules_test (r ∷ rs) f = and_intro (rule_test (f 0 r refl)) (rules_test rs (λ n s h. f (suc n) s h))

nil_test : {ts : Types} → ts ≡ [] → is_nil ts ≡ true
unfolding is_nil
nil_test e = rw e

main_test : {r : Rule} → Main r → main_of r ≡ true
unfolding main_of
main_test {r} m = and_intro (usable_test replacing r m.replaces) (and_intro (nil_test m.bare) (scope_test (searches r.strategy) 0 r.target m.scope))

pub well_tested : {g : Grammar} {rules : Rules} → WellTyped g rules → well_typed g rules ≡ true
unfolding well_typed
well_tested {g} {rules} w = and_intro (rules_test rules w.each) (some_is_of main_of w.there (main_test w.main))

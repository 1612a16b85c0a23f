-- What may be applied: the check asks an application's first word, the test what the word decodes to. Assumes nothing.
use Prim.Native.Nat.{ℕ, zero, suc, ◌+◌, ◌-◌, ◌≤◌, ◌<◌}
use mathlib.Core.Path.{◌≡◌, refl, sym, ap, ◌∙◌}
use mathlib.Core.List.{List, [], ◌∷◌, map}
use mathlib.Core.Bool.{Bool, true, false, ◌&&◌, ◌||◌}
use mathlib.Core.Option.{Option, none, some}
use native.Mathlib.Omega.{arith}
use lib.ListN.{length, get_or, get_elem?}
use lib.Dec.{ltb, eqb}
use borrow.Author.Tests.{ltb-true, ltb-false, le-leb, lt-leb, eqb-true, eqb-false, eq-eqb, ne_eqb}
use Rattle.words.specs.Reader.{pick, and}
use Rattle.words.proofs.Laws.{there_some, past_none}
use Rattle.grammar.specs.Grammar.{Grammar}
use Rattle.grammar.specs.Kinds.{is_number}
use Rattle.rules.specs.Limits.{most_rules}
use Rattle.rules.specs.Rules.{Applied, rule, operation, editing, nothing, searches, Rule, Rules, operations, applied}
use Rattle.rules.proofs.Numbers.{rule_number}
use Rattle.judgement.specs.Wanted.{Wanted, exactly, scope_fits, wanted_in}
use Rattle.judgement.specs.Typing.{is_some as present, Place, in_pattern, in_replacement, in_condition, applies_rule, applies_operation, fits_scope, no_rule, operates_on, usable, wanted_by_edit, wanted_by_operation, wanted_by}
use Rattle.judgement.specs.WellTyped.{Types, Role, replacing, testing}
use Rattle.judgement.specs.Tested.{some_is, arguments_of, operates_of, is_replacing, usable_of, fits_of, applies_of}

-- the role that applications have at a place
abbrev pub Plays : Place → Role → Type 0
Plays in_pattern role = ⊥
Plays in_replacement replacing = Unit {0}
Plays in_replacement testing = ⊥
Plays in_condition replacing = ⊥
Plays in_condition testing = Unit {0}

-- RULES

usable_same : (here : Place) (role : Role) → Plays here role → (r : Rule) → applies_rule here r ≡ usable_of role r
unfolding applies_rule usable_of present some_is
usable_same in_pattern role p r = absurd p
usable_same in_replacement replacing p r = go r.replacement
  where
    go : {A : Type 0} (o : Option A) → present o ≡ some_is o (λ x. true)
    go none = refl
    go (some x) = refl
usable_same in_replacement testing p r = absurd p
usable_same in_condition replacing p r = absurd p
usable_same in_condition testing p r = refl

eqb_sym : (a b : ℕ) → eqb a b ≡ eqb b a
eqb_sym a b = go (eqb b a) refl
  where
    go : (c : Bool) → eqb b a ≡ c → eqb a b ≡ c
    go true e = eq-eqb a b (sym (eqb-true b a e))
    go false e = ne_eqb a b (λ q. eqb-false b a e (sym q))

pub scope_same : (r : Rule) (s : ℕ) → fits_scope r s ≡ (searches r.strategy || eqb s r.target)
unfolding fits_scope
scope_same r s = rw (eqb_sym r.target s)

-- OPERATIONS

far : (here : Place) (a : ℕ) → 1015 < a → applies_operation here a ≡ false
unfolding applies_operation
far in_pattern a h = refl
far in_replacement a h = rw (le-leb 1000 a (omega arith), lt-leb a 1005 (omega arith), le-leb 1010 a (omega arith), lt-leb a 1015 (omega arith))
far in_condition a h = rw (le-leb 1008 a (omega arith), lt-leb a 1009 (omega arith))

near : (here : Place) (a : ℕ) → a < 1000 → applies_operation here a ≡ false
unfolding applies_operation
near in_pattern a h = refl
near in_replacement a h = rw (lt-leb 1000 a (omega arith), lt-leb 1010 a (omega arith))
near in_condition a h = rw (lt-leb 1008 a (omega arith))

module _ (g : Grammar) (here : Place) (role : Role) (s : ℕ) where
  -- the arguments that the operation of the number a wants, if the check lets it stand here
  abbrev operates_at : ℕ → Option (List Wanted)
  operates_at a = pick (applies_operation here a) (some (wanted_by_operation s a)) none

  -- what the check and the test say of the operation of the number k: its scope and its arguments, if it may stand here
  abbrev Same : ℕ → Bool → Option (List Wanted) → Type 0
  Same k scope wanted = (operates_on g k s ≡ scope) × (wanted ≡ operates_at k)

  -- they say the same of each of these, the first of which has the number k; behind them there is no operation
  abbrev Agree : List Applied → ℕ → Type 0
  Agree [] k = 1015 < k
  Agree (rule m ∷ more) k = ⊥
  Agree (operation o ∷ more) k = Same k (is_number g s) (operates_of role o) × Agree more (k + 1)
  Agree (editing o ∷ more) k = Same k (scope_fits g o s) (pick (is_replacing role) (some (wanted_in o s)) none) × Agree more (k + 1)
  Agree (nothing ∷ more) k = Same k (operates_on g k s) none × Agree more (k + 1)

operations_agree : (g : Grammar) (here : Place) (role : Role) (s : ℕ) → Plays here role → Agree g here role s operations 1000
unfolding applies_operation operates_on wanted_by_edit wanted_by_operation operates_of is_replacing scope_fits wanted_in operations
operations_agree g in_replacement replacing s p = ((refl, refl), ((refl, refl), ((refl, refl), ((refl, refl), ((refl, refl), ((refl, refl), ((refl, refl), ((refl, refl), ((refl, refl), ((refl, refl), ((refl, refl), ((refl, refl), ((refl, refl), ((refl, refl), ((refl, refl), ((refl, refl), omega arith))))))))))))))))
operations_agree g in_condition testing s p = ((refl, refl), ((refl, refl), ((refl, refl), ((refl, refl), ((refl, refl), ((refl, refl), ((refl, refl), ((refl, refl), ((refl, refl), ((refl, refl), ((refl, refl), ((refl, refl), ((refl, refl), ((refl, refl), ((refl, refl), ((refl, refl), omega arith))))))))))))))))
operations_agree g in_pattern role s p = absurd p
operations_agree g in_replacement testing s p = absurd p
operations_agree g in_condition replacing s p = absurd p

-- a rule that is not there
absent : (g : Grammar) (rules : Rules) (Γ : Types) (role : Role) (s : ℕ) (xs : List ℕ) (a : ℕ) → get_elem? rules a ≡ none → applies_of g rules Γ role s xs (rule a) ≡ false
unfolding applies_of some_is
absent g rules Γ role s xs a q = rw q

module _ (g : Grammar) (rules : Rules) (here : Place) (role : Role) (Γ : Types) (s : ℕ) (xs : List ℕ) where
  abbrev operation_fits : ℕ → Bool
  operation_fits a = and (and (applies_operation here a) (operates_on g a s)) (arguments_of g Γ xs (wanted_by_operation s a))

  -- the test of what the check lets stand here
  tested_at : (k : ℕ) (scope : Bool) (wanted : Option (List Wanted)) → Same g here role s k scope wanted → scope && some_is wanted (arguments_of g Γ xs) ≡ operation_fits k
  unfolding some_is
  tested_at k scope wanted h = rw (sym h.0, h.1) (go (applies_operation here k) (operates_on g k s))
    where
      go : (b n : Bool) → n && some_is (pick b (some (wanted_by_operation s k)) none) (arguments_of g Γ xs) ≡ and (and b n) (arguments_of g Γ xs (wanted_by_operation s k))
      go true true = refl
      go true false = refl
      go false true = refl
      go false false = refl

  nowhere : (n : Bool) → false ≡ (n && some_is none (arguments_of g Γ xs))
  unfolding some_is
  nowhere true = refl
  nowhere false = refl

  -- an operation on sequences
  in_place : (r n : Bool) (ws : List Wanted) → r && (n && arguments_of g Γ xs ws) ≡ n && some_is (pick r (some ws) none) (arguments_of g Γ xs)
  unfolding some_is
  in_place true true ws = refl
  in_place true false ws = refl
  in_place false true ws = refl
  in_place false false ws = refl

  agree_at : (l : List Applied) (k i : ℕ) → Agree g here role s l k → applies_of g rules Γ role s xs (get_or l i nothing) ≡ operation_fits (k + i)
  unfolding applies_of
  agree_at [] k i h = rw (far here (k + i) (omega arith))
  agree_at (rule m ∷ more) k i h = absurd h
  agree_at (operation o ∷ more) k zero h = let z : k + 0 ≡ k = omega arith in rw z (tested_at k (is_number g s) (operates_of role o) h.0)
  agree_at (operation o ∷ more) k (suc i) h = let z : k + suc i ≡ k + 1 + i = omega arith in rw z (agree_at more (k + 1) i h.1)
  agree_at (editing o ∷ more) k zero h =
      let z : k + 0 ≡ k = omega arith in
      rw z (in_place (is_replacing role) (scope_fits g o s) (wanted_in o s) ∙ tested_at k (scope_fits g o s) (pick (is_replacing role) (some (wanted_in o s)) none) h.0)
  agree_at (editing o ∷ more) k (suc i) h = let z : k + suc i ≡ k + 1 + i = omega arith in rw z (agree_at more (k + 1) i h.1)
  agree_at (nothing ∷ more) k zero h = let z : k + 0 ≡ k = omega arith in rw z (nowhere (operates_on g k s) ∙ tested_at k (operates_on g k s) none h.0)
  agree_at (nothing ∷ more) k (suc i) h = let z : k + suc i ≡ k + 1 + i = omega arith in rw z (agree_at more (k + 1) i h.1)

  module _ (plays : Plays here role) (few : length rules ≤ most_rules) (a : ℕ) where
    -- the number of a rule that is there
    applies_rule_lem : a < length rules
        → applies_of g rules Γ role s xs (applied a)
        ≡ and (and (applies_rule here (get_or rules a no_rule)) (fits_scope (get_or rules a no_rule) s)) (arguments_of g Γ xs (map exactly (get_or rules a no_rule).parameters))
    unfolding applies_of some_is fits_of
    applies_rule_lem h =
        rw (rule_number a (omega arith), there_some rules a no_rule h, usable_same here role plays r, scope_same r s)
        (go (usable_of role r) (arguments_of g Γ xs (map exactly r.parameters)) (searches r.strategy || eqb s r.target))
      where
        r : Rule
        r = get_or rules a no_rule

        go : (u c f : Bool) → u && (c && f) ≡ and (and u f) c
        go true true true = refl
        go true true false = refl
        go true false true = refl
        go true false false = refl
        go false c f = refl

    -- any other number
    applies_other : length rules ≤ a → applies_of g rules Γ role s xs (applied a) ≡ operation_fits a
    unfolding applied
    applies_other h = go (ltb a 1000) refl
      where
        go : (b : Bool) → ltb a 1000 ≡ b → applies_of g rules Γ role s xs (elim b [ true ↦ rule a | false ↦ get_or operations (a - 1000) nothing ]) ≡ operation_fits a
        go true e = rw (near here a (ltb-true a 1000 e)) (absent g rules Γ role s xs a (past_none rules a h))
        go false e =
            let z = ltb-false a 1000 e in
            let y : 1000 + (a - 1000) ≡ a = omega arith in
            agree_at operations 1000 (a - 1000) (operations_agree g here role s plays) ∙ ap operation_fits y

    pub applies_same : applies_of g rules Γ role s xs (applied a) ≡ and (usable g rules here s a) (arguments_of g Γ xs (wanted_by rules s a))
    unfolding usable wanted_by
    applies_same = go (ltb a (length rules)) refl
      where
        go : (b : Bool) → ltb a (length rules) ≡ b → applies_of g rules Γ role s xs (applied a)
            ≡ and (pick b (and (applies_rule here (get_or rules a no_rule)) (fits_scope (get_or rules a no_rule) s)) (and (applies_operation here a) (operates_on g a s)))
            (arguments_of g Γ xs (pick b (map exactly (get_or rules a no_rule).parameters) (wanted_by_operation s a)))
        go true e = applies_rule_lem (ltb-true a (length rules) e)
        go false e = applies_other (ltb-false a (length rules) e)

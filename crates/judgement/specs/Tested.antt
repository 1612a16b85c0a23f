-- The typing of decoded rules as a test: WellTyped.antt, computed. Assumes nothing: these are definitions.
use Rattle.std.specs.Prelude.{ℕ, zero, suc, List, [], ◌∷◌, ◌++◌, map, Bool, true, false, cond, ◌&&◌, ◌||◌, length, eqb, leb}
use Rattle.std.proofs.Math.Option.{Option, none, some}
use Rattle.std.proofs.Math.ListN.{get_elem?}
use Rattle.grammar.specs.Grammar.{Grammar}
use Rattle.grammar.specs.Kinds.{allowed, children, is_number}
use Rattle.tree.specs.Limits.{most_nesting}
use Rattle.rules.specs.Limits.{most_variables}
use Rattle.rules.specs.Rules.{Operation, add, subtract, quotient, remainder, round, truncate, equal, greater, Applied, rule, operation, editing, nothing, Shape, node, new, same, Application, Piece, write, copy, chain, Part, deconstruct, search, construct, condition, searches, Rule, Rules}
use Rattle.judgement.specs.Wanted.{Wanted, exactly, a_number, wants, scope_fits, wanted_in}
use Rattle.judgement.specs.WellTyped.{Types, Role, replacing, testing, pattern_nesting, piece_nesting}

-- goes on with what there is
unfoldable pub on_some : {A B : Type 0} → Option A → (A → Option B) → Option B
on_some none f = none
on_some (some a) f = f a

-- is there one, and does it pass?
unfoldable pub some_is : {A : Type 0} → Option A → (A → Bool) → Bool
some_is none f = false
some_is (some a) f = f a

-- is the variable there, and of the type?
unfoldable pub has_type : Types → ℕ → ℕ → Bool
has_type [] x t = false
has_type (u ∷ Γ) zero t = eqb u t
has_type (u ∷ Γ) (suc x) t = has_type Γ x t

-- are the variables there, and what is wanted, one for one?
unfoldable pub arguments_of : Grammar → Types → List ℕ → List Wanted → Bool
arguments_of g Γ [] [] = true
arguments_of g Γ [] (w ∷ ws) = false
arguments_of g Γ (x ∷ xs) [] = false
arguments_of g Γ (x ∷ xs) (w ∷ ws) = some_is (get_elem? Γ x) (wants g w) && arguments_of g Γ xs ws

-- the variables after the pattern, if it stands for trees of the types due
unfoldable pub pattern_of : Grammar → Types → List Shape → Types → Option Types
pattern_of g Γ [] [] = some Γ
pattern_of g Γ [] (d ∷ due) = none
pattern_of g Γ (p ∷ ps) [] = none
pattern_of g Γ (node t v ∷ ps) (d ∷ due) = cond (eqb t d && allowed g t v) (pattern_of g Γ ps (children g t v ++ due)) none
pattern_of g Γ (new t ∷ ps) (d ∷ due) = cond (eqb t d) (pattern_of g (Γ ++ t ∷ []) ps due) none
pattern_of g Γ (same x ∷ ps) (d ∷ due) = cond (has_type Γ x d) (pattern_of g Γ ps due) none

-- the arguments that the operation wants, if it may stand here
unfoldable pub operates_of : Role → Operation → Option (List Wanted)
operates_of replacing add = some (a_number ∷ [])
operates_of replacing subtract = some (a_number ∷ [])
operates_of replacing quotient = some (a_number ∷ [])
operates_of replacing remainder = some (a_number ∷ [])
operates_of replacing round = some []
operates_of replacing truncate = some []
operates_of replacing equal = none
operates_of replacing greater = none
operates_of testing add = none
operates_of testing subtract = none
operates_of testing quotient = none
operates_of testing remainder = none
operates_of testing round = none
operates_of testing truncate = none
operates_of testing equal = some (a_number ∷ [])
operates_of testing greater = some (a_number ∷ [])

-- is it a replacement?
unfoldable pub is_replacing : Role → Bool
is_replacing replacing = true
is_replacing testing = false

-- may the rule stand here? A replacement wants one that replaces
unfoldable pub usable_of : Role → Rule → Bool
usable_of replacing r = some_is r.replacement (λ ps. true)
usable_of testing r = true

-- do the arguments and the scope fit the rule?
unfoldable pub fits_of : Grammar → Types → ℕ → List ℕ → Rule → Bool
fits_of g Γ t xs r = arguments_of g Γ xs (map exactly r.parameters) && (searches r.strategy || eqb t r.target)

module _ (g : Grammar) (rules : Rules) (Γ : Types) (role : Role) (t : ℕ) where
  -- does the application fit?
  unfoldable pub applies_of : List ℕ → Applied → Bool
  applies_of xs (rule n) = some_is (get_elem? rules n) (λ r. usable_of role r && fits_of g Γ t xs r)
  applies_of xs (operation o) = is_number g t && some_is (operates_of role o) (arguments_of g Γ xs)
  applies_of xs (editing o) = is_replacing role && (scope_fits g o t && arguments_of g Γ xs (wanted_in o t))
  applies_of xs nothing = false

  -- do all?
  unfoldable pub all_apply_of : List Application → Bool
  all_apply_of [] = true
  all_apply_of (a ∷ more) = applies_of a.arguments a.applied && all_apply_of more

-- do the pieces stand for trees of the types due?
unfoldable pub pieces_of : Grammar → Rules → Types → List Piece → Types → Bool
pieces_of g rules Γ [] [] = true
pieces_of g rules Γ [] (d ∷ due) = false
pieces_of g rules Γ (p ∷ ps) [] = false
pieces_of g rules Γ (write t v ∷ ps) (d ∷ due) = eqb t d && (allowed g t v && pieces_of g rules Γ ps (children g t v ++ due))
pieces_of g rules Γ (copy x ∷ ps) (d ∷ due) = has_type Γ x d && pieces_of g rules Γ ps due
pieces_of g rules Γ (chain x apps ∷ ps) (d ∷ due) = has_type Γ x d && (all_apply_of g rules Γ replacing d apps && pieces_of g rules Γ ps due)

-- the variables after the pattern, if it is one tree of type t
unfoldable pub one_pattern : Grammar → Types → List Shape → ℕ → Option Types
one_pattern g Γ ps t = cond (leb (pattern_nesting g ps (1 ∷ [])) most_nesting) (pattern_of g Γ ps (t ∷ [])) none

-- are the pieces one tree of type t?
unfoldable pub one_replacement : Grammar → Rules → Types → List Piece → ℕ → Bool
one_replacement g rules Γ ps t = leb (piece_nesting g ps (1 ∷ [])) most_nesting && pieces_of g rules Γ ps (t ∷ [])

-- the variables after the part, if it fits
unfoldable pub part_of : Grammar → Rules → Types → Part → Option Types
part_of g rules Γ (deconstruct x ps) = on_some (get_elem? Γ x) (λ t. one_pattern g Γ ps t)
part_of g rules Γ (search ty x ps) = on_some (get_elem? Γ x) (λ t. one_pattern g Γ ps ty)
part_of g rules Γ (construct ty ps) = cond (one_replacement g rules Γ ps ty) (some (Γ ++ ty ∷ [])) none
part_of g rules Γ (condition b x apps) = on_some (get_elem? Γ x) (λ t. cond (all_apply_of g rules Γ testing t apps) (some Γ) none)

-- the variables after the parts, if each fits
unfoldable pub parts_of : Grammar → Rules → Types → List Part → Option Types
parts_of g rules Γ [] = some Γ
parts_of g rules Γ (p ∷ ps) = on_some (part_of g rules Γ p) (λ Γ'. parts_of g rules Γ' ps)

-- is the replacement, if there is one, a tree of the target?
unfoldable pub replacement_of : Grammar → Rules → Types → ℕ → Option (List Piece) → Bool
replacement_of g rules Γ target none = true
replacement_of g rules Γ target (some ps) = one_replacement g rules Γ ps target

-- does the rule fit?
unfoldable pub rule_of : Grammar → Rules → Rule → Bool
rule_of g rules r =
    some_is (one_pattern g r.parameters r.pattern r.target) λ matched.
    some_is (parts_of g rules matched r.parts) λ all.
    leb (length all) most_variables && replacement_of g rules all r.target r.replacement

-- do all rules fit?
unfoldable pub rules_of : Grammar → Rules → Rules → Bool
rules_of g rules [] = true
rules_of g rules (r ∷ rs) = rule_of g rules r && rules_of g rules rs

-- has the list nothing?
unfoldable pub is_nil : List ℕ → Bool
is_nil [] = true
is_nil (x ∷ xs) = false

-- does the main rule fit?
unfoldable pub main_of : Rule → Bool
main_of r = usable_of replacing r && (is_nil r.parameters && (searches r.strategy || eqb 0 r.target))

-- is the book well typed?
unfoldable pub well_typed : Grammar → Rules → Bool
well_typed g rules = rules_of g rules rules && some_is (get_elem? rules 0) main_of

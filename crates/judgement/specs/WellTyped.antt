-- When rules are well typed against a grammar: the paper's Typing on decoded rules, with no positions and no refusals. Γ has the types of a rule's variables,
-- by number. proofs/ shows that the check accepts exactly these. Assumes nothing: these are definitions.
use Rattle.std.specs.Prelude.{ℕ, ◌≤◌, max, ◌≡◌, List, [], ◌∷◌, ◌++◌, map, Bool, true, false, length}
use Rattle.std.proofs.Math.Option.{some}
use Rattle.std.proofs.Math.ListN.{get_elem?}
use Rattle.grammar.specs.Grammar.{Grammar}
use Rattle.grammar.specs.Kinds.{allowed, children, is_number}
use Rattle.tree.specs.Limits.{most_nesting}
use Rattle.tree.specs.Tree.{levels}
use Rattle.rules.specs.Limits.{most_variables}
use Rattle.rules.specs.Rules.{Operation, add, subtract, quotient, remainder, round, truncate, equal, greater, Applied, rule, operation, editing, Edit, Shape, node, new, same, Application, Piece, write, copy, chain, Part, deconstruct, search, construct, condition, searches, Rule, Rules}
use Rattle.judgement.specs.Wanted.{Wanted, exactly, a_number, wants, scope_fits, wanted_in}

-- the types of variables, or of trees that are due
abbrev pub Types : Type 0
Types = List ℕ

-- variable x is there and has type t
abbrev pub Has : Types → ℕ → ℕ → Type 0
Has Γ x t = get_elem? Γ x ≡ some t

-- PATTERNS: "A pattern .. must be a tree of the type due at its place, a variable .. standing for a tree of its variable's type". The pairs stand for trees
-- of the types due, and add their new variables to Γ
pub data Pattern (g : Grammar) : Types → Types → List Shape → Types → Type 0 where
  pattern_end : {Γ : Types} → Pattern g Γ [] [] Γ
  a_node : {Γ due Γ' : Types} {t v : ℕ} {ps : List Shape} → allowed g t v ≡ true → Pattern g Γ (children g t v ++ due) ps Γ' → Pattern g Γ (t ∷ due) (node t v ∷ ps) Γ'
  a_new : {Γ due Γ' : Types} {t : ℕ} {ps : List Shape} → Pattern g (Γ ++ t ∷ []) due ps Γ' → Pattern g Γ (t ∷ due) (new t ∷ ps) Γ'
  a_same : {Γ due Γ' : Types} {x t : ℕ} {ps : List Shape} → Has Γ x t → Pattern g Γ due ps Γ' → Pattern g Γ (t ∷ due) (same x ∷ ps) Γ'

-- the deepest nesting over the pairs, where the trees that are due have these nestings
unfoldable pub pattern_nesting : Grammar → List Shape → List ℕ → ℕ
pattern_nesting g [] ks = 0
pattern_nesting g (p ∷ ps) [] = 0
pattern_nesting g (node t v ∷ ps) (k ∷ ks) = max k (pattern_nesting g ps (levels g t v k ++ ks))
pattern_nesting g (new t ∷ ps) (k ∷ ks) = max k (pattern_nesting g ps ks)
pattern_nesting g (same x ∷ ps) (k ∷ ks) = max k (pattern_nesting g ps ks)

-- the pattern is one tree of type t
pub record PatternOf (g : Grammar) (Γ : Types) (t : ℕ) (ps : List Shape) (Γ' : Types) : Type 0 where
  pub typed : Pattern g Γ (t ∷ []) ps Γ'
  pub nested : pattern_nesting g ps (1 ∷ []) ≤ most_nesting

-- APPLICATIONS stand in a replacement, or in a condition
pub data Role : Type 0 where
  replacing testing : Role

-- the operations that may stand there, with the arguments that they want: "Replacements apply .. operations 1,000 to 1,005; tests .. 1,008 and 1,009";
-- "Operations have number tokens as scope and argument"; round and truncate: "these two without argument"
pub data Operates : Role → Operation → List Wanted → Type 0 where
  adds : Operates replacing add (a_number ∷ [])
  subtracts : Operates replacing subtract (a_number ∷ [])
  divides : Operates replacing quotient (a_number ∷ [])
  remains : Operates replacing remainder (a_number ∷ [])
  rounds : Operates replacing round []
  truncates : Operates replacing truncate []
  equals : Operates testing equal (a_number ∷ [])
  exceeds : Operates testing greater (a_number ∷ [])

-- the rules that may: "Replacements apply rules with bit 3 ..; tests apply any rule"
abbrev pub Usable : Role → Rule → Type 0
Usable replacing r = (ps : List Piece) × (r.replacement ≡ some ps)
Usable testing r = Unit {0}

-- the variables xs are what is wanted, one for each
pub data Arguments (g : Grammar) (Γ : Types) : List ℕ → List Wanted → Type 0 where
  no_argument : Arguments g Γ [] []
  an_argument : {x t : ℕ} {xs : List ℕ} {w : Wanted} {ws : List Wanted} → Has Γ x t → wants g w t ≡ true → Arguments g Γ xs ws → Arguments g Γ (x ∷ xs) (w ∷ ws)

-- the rule takes these arguments, "Arguments fit parameters in number and type", and may be applied to a tree of type t: "A rule without reach applies only
-- to its target type"
pub record Fits (g : Grammar) (Γ : Types) (t : ℕ) (xs : List ℕ) (r : Rule) : Type 0 where
  pub arguments : Arguments g Γ xs (map exactly r.parameters)
  pub scope : searches r.strategy ≡ false → t ≡ r.target

-- on a tree of type t
module _ (g : Grammar) (rules : Rules) (Γ : Types) (role : Role) (t : ℕ) where
  pub data Applies (xs : List ℕ) : Applied → Type 0 where
    a_rule : {n : ℕ} {r : Rule} → get_elem? rules n ≡ some r → Usable role r → Fits g Γ t xs r → Applies xs (rule n)
    an_operation : {o : Operation} {ws : List Wanted} → Operates role o ws → is_number g t ≡ true → Arguments g Γ xs ws → Applies xs (operation o)
    -- "Only replacements apply these operations, not tests"
    an_edit : {o : Edit} → role ≡ replacing → scope_fits g o t ≡ true → Arguments g Γ xs (wanted_in o t) → Applies xs (editing o)

  pub data AllApply : List Application → Type 0 where
    all_none : AllApply []
    all_more : {a : Application} {more : List Application} → Applies a.arguments a.applied → AllApply more → AllApply (a ∷ more)

-- REPLACEMENTS: "A .. replacement must be a tree of the type due at its place, a variable or group standing for a tree of its variable's type"
pub data Replacement (g : Grammar) (rules : Rules) (Γ : Types) : Types → List Piece → Type 0 where
  pieces_end : Replacement g rules Γ [] []
  a_written : {due : Types} {t v : ℕ} {ps : List Piece} → allowed g t v ≡ true → Replacement g rules Γ (children g t v ++ due) ps → Replacement g rules Γ (t ∷ due) (write t v ∷ ps)
  a_copy : {due : Types} {x t : ℕ} {ps : List Piece} → Has Γ x t → Replacement g rules Γ due ps → Replacement g rules Γ (t ∷ due) (copy x ∷ ps)
  a_chain : {due : Types} {x t : ℕ} {apps : List Application} {ps : List Piece} → Has Γ x t → AllApply g rules Γ replacing t apps → Replacement g rules Γ due ps → Replacement g rules Γ (t ∷ due) (chain x apps ∷ ps)

-- how deep the pieces nest, each level given
unfoldable pub piece_nesting : Grammar → List Piece → List ℕ → ℕ
piece_nesting g [] ks = 0
piece_nesting g (p ∷ ps) [] = 0
piece_nesting g (write t v ∷ ps) (k ∷ ks) = max k (piece_nesting g ps (levels g t v k ++ ks))
piece_nesting g (copy x ∷ ps) (k ∷ ks) = max k (piece_nesting g ps ks)
piece_nesting g (chain x apps ∷ ps) (k ∷ ks) = max k (piece_nesting g ps ks)

-- the replacement is one tree of type t
pub record ReplacementOf (g : Grammar) (rules : Rules) (Γ : Types) (t : ℕ) (ps : List Piece) : Type 0 where
  pub typed : Replacement g rules Γ (t ∷ []) ps
  pub nested : piece_nesting g ps (1 ∷ []) ≤ most_nesting

-- PARTS: due are "the built type, or in a part the variable's or the searched type; a test's group may start from any variable"
pub data PartFits (g : Grammar) (rules : Rules) : Types → Part → Types → Type 0 where
  deconstructs : {Γ Γ' : Types} {x t : ℕ} {ps : List Shape} → Has Γ x t → PatternOf g Γ t ps Γ' → PartFits g rules Γ (deconstruct x ps) Γ'
  searches_for : {Γ Γ' : Types} {ty x t : ℕ} {ps : List Shape} → Has Γ x t → PatternOf g Γ ty ps Γ' → PartFits g rules Γ (search ty x ps) Γ'
  constructs : {Γ : Types} {ty : ℕ} {ps : List Piece} → ReplacementOf g rules Γ ty ps → PartFits g rules Γ (construct ty ps) (Γ ++ ty ∷ [])
  tests : {Γ : Types} {b : Bool} {x t : ℕ} {apps : List Application} → Has Γ x t → AllApply g rules Γ testing t apps → PartFits g rules Γ (condition b x apps) Γ

-- the parts fit one after the other
pub data PartsFit (g : Grammar) (rules : Rules) : Types → List Part → Types → Type 0 where
  no_part : {Γ : Types} → PartsFit g rules Γ [] Γ
  a_part : {Γ Γ' Γ'' : Types} {p : Part} {ps : List Part} → PartFits g rules Γ p Γ' → PartsFit g rules Γ' ps Γ'' → PartsFit g rules Γ (p ∷ ps) Γ''

-- RULES: "Variables are numbered from 0 as they arise: parameters, pattern, parts; at most 16 a rule"; the replacement sees them all
pub record RuleFits (g : Grammar) (rules : Rules) (r : Rule) : Type 0 where
  pub matched : Types
  pub all : Types
  pub pattern : PatternOf g r.parameters r.target r.pattern matched
  pub parts : PartsFit g rules matched r.parts all
  pub few : length all ≤ most_variables
  pub replacement : (ps : List Piece) → r.replacement ≡ some ps → ReplacementOf g rules all r.target ps

-- the main rule: "it has bit 3 and not bit 1, and its scope is the slip"
pub record Main (r : Rule) : Type 0 where
  pub replaces : Usable replacing r
  pub bare : r.parameters ≡ []
  pub scope : searches r.strategy ≡ false → 0 ≡ r.target

-- every rule fits, and the first is a main rule
pub record WellTyped (g : Grammar) (rules : Rules) : Type 0 where
  pub each : (n : ℕ) (r : Rule) → get_elem? rules n ≡ some r → RuleFits g rules r
  pub first : Rule
  pub there : get_elem? rules 0 ≡ some first
  pub main : Main first

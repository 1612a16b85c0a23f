-- The typing of a rule book (22 to 24): each rule's pattern, parts and replacement are trees of the types due. Pairs are read against a stack of what is
-- due, as trees are. Assumes nothing: these are definitions.
use Rattle.std.specs.Prelude.{ℕ, zero, suc, List, [], ◌∷◌, ◌++◌, map, Bool, true, false, length, get_or, replicate, ltb, leb, eqb}
use Rattle.std.proofs.Math.Option.{Option, none, some}
use Rattle.words.specs.Reader.{Words, pick, and, or, between, Read, value, refused, Reader, and_then, ◌>>=◌, ◌>>◌, return, require, many}
use Rattle.grammar.specs.Grammar.{Grammar, read_grammar, grammar_fits}
use Rattle.grammar.specs.Kinds.{allowed, children, is_number, is_sequence}
use Rattle.tree.specs.Limits.{most_nesting}
use Rattle.tree.specs.Tree.{levels}
use Rattle.tree.specs.Dues.{Next, first_word, second_word, leaves, whole}
use Rattle.tree.specs.Reading as Tree
use Rattle.tree.specs.Reading.{tree, dues_of}
use Rattle.rules.specs.Limits.{most_parts, most_variables, most_applications, mark_new, mark_variable, mark_chain}
use Rattle.rules.specs.Rules.{Rule, Rules, root_only, searches}
use Rattle.rules.specs.Layout.{PartAt, deconstruct_at, construct_at, condition_at, bit, only_if, stretch, field, part_at, head, read_layout, rules_fit}
use Rattle.judgement.specs.Wanted.{Wanted, exactly, a_number, to_join, a_sequence, anything, wants}

-- where pairs stand
pub data Place : Type 0 where
  in_pattern in_replacement in_condition : Place

-- what is due at a pair
pub data Due : Type 0 where
  -- a tree: its nesting and its type
  a_tree : Tree.Due → Due
  -- a condition's chain: its first pair
  a_chain : Due
  -- a chain's second pair, (K, 0); the type of its scope
  application_count : ℕ → Due
  -- an application to a scope of the type
  application : ℕ → Due
  -- an argument that is what is wanted
  argument : Wanted → Due

-- the types of the variables that are there, by number
abbrev pub Context : Type 0
Context = List ℕ

-- WHAT MAY STAND THERE

-- the first words that may stand where a tree of type d is due: a node's type, 64 "in a pattern, a new variable", 65 "variable", 66 "in a replacement a group"
unfoldable pub may_stand : Place → ℕ → ℕ → Bool
may_stand in_pattern d t = or (eqb t d) (or (eqb t mark_new) (eqb t mark_variable))
may_stand in_replacement d t = or (eqb t d) (or (eqb t mark_variable) (eqb t mark_chain))
may_stand in_condition d t = false

-- is there one?
unfoldable pub is_some : {A : Type 0} → Option A → Bool
is_some none = false
is_some (some a) = true

-- "Replacements apply rules with bit 3 or operations 1,000 to 1,005; tests apply any rule, or 1,008 and 1,009"
unfoldable pub applies_rule : Place → Rule → Bool
applies_rule in_condition r = true
applies_rule in_replacement r = is_some r.replacement
applies_rule in_pattern r = false

-- may the operation of this number stand here? 1,010 to 1,015: "Only replacements apply these operations, not tests"
unfoldable pub applies_operation : Place → ℕ → Bool
applies_operation in_condition o = between 1008 1009 o
applies_operation in_replacement o = or (between 1000 1005 o) (between 1010 1015 o)
applies_operation in_pattern o = false

-- "A rule without reach applies only to its target type"
unfoldable pub fits_scope : Rule → ℕ → Bool
fits_scope r s = or (searches r.strategy) (eqb r.target s)

-- what stands for a rule that is not there
abbrev pub no_rule : Rule
no_rule = record { target = 0; strategy = root_only; parameters = []; pattern = []; parts = []; replacement = none }

-- may the scope of the operation of this number have the type s? "Operations have number tokens as scope and argument"; 1,014 length: "number as scope"; the
-- others on sequences a sequence
unfoldable pub operates_on : Grammar → ℕ → ℕ → Bool
operates_on g a s = pick (or (ltb a 1010) (eqb a 1014)) (is_number g s) (is_sequence g s)

-- may the rule or operation a be applied here, to a scope of type s?
unfoldable pub usable : Grammar → Rules → Place → ℕ → ℕ → Bool
usable g rules here s a = pick (ltb a (length rules))
    (and (applies_rule here (get_or rules a no_rule)) (fits_scope (get_or rules a no_rule) s))
    (and (applies_operation here a) (operates_on g a s))

-- the arguments of 1,010 join, 1,011 select, 1,012 head and 1,013 tail, 1,014 length, 1,015 extract on a scope of type s
unfoldable pub wanted_by_edit : ℕ → ℕ → List Wanted
wanted_by_edit s a = pick (eqb a 1010) (to_join s ∷ []) (pick (eqb a 1011) (a_number ∷ a_number ∷ []) (pick (ltb a 1014) (a_number ∷ []) (pick (eqb a 1014) (a_sequence ∷ []) (anything ∷ []))))

-- "Operations have number tokens as scope and argument"; 1,004 and 1,005: "these two without argument"
unfoldable pub wanted_by_operation : ℕ → ℕ → List Wanted
wanted_by_operation s a = pick (ltb a 1010) (pick (between 1004 1005 a) [] (a_number ∷ [])) (wanted_by_edit s a)

-- the arguments that the rule or operation a wants on a scope of type s: "Arguments fit parameters in number and type"
unfoldable pub wanted_by : Rules → ℕ → ℕ → List Wanted
wanted_by rules s a = pick (ltb a (length rules)) (map exactly (get_or rules a no_rule).parameters) (wanted_by_operation s a)

-- ONE PAIR, (t, v), AT ITS POSITION

-- 22: "variable not there yet"
abbrev pub there : Context → ℕ → Reader (Unit {0})
there Γ v = second_word (ltb v (length Γ)) 22

-- .. and 23: a "variable's type that cannot stand there"
abbrev pub of_type : Context → ℕ → ℕ → Reader (Unit {0})
of_type Γ v d = do
  there Γ v
  second_word (eqb (get_or Γ v 0) d) 23

-- "(64, type) in a pattern, a new variable": 23 "a new variable's type", 24 "being the 17th"
unfoldable pub new_variable : ℕ → Context → ℕ → Reader (Next Due Context)
new_variable d Γ v = do
  second_word (eqb v d) 23
  second_word (ltb (length Γ) most_variables) 24
  leaves (Γ ++ d ∷ []) []

-- "(65, variable)"
unfoldable pub variable : ℕ → Context → ℕ → Reader (Next Due Context)
variable d Γ v = do
  of_type Γ v d
  leaves Γ []

-- "a group: (66, variable)"
unfoldable pub chain : ℕ → Context → ℕ → Reader (Next Due Context)
chain d Γ v = do
  of_type Γ v d
  leaves Γ (application_count d ∷ [])

-- "a node as in a slip": 23 "a pair, value, type .. that cannot stand there"
unfoldable pub node : Grammar → ℕ → ℕ → Context → ℕ → Reader (Next Due Context)
node g n d Γ v = do
  second_word (allowed g d v) 23
  leaves Γ (map a_tree (dues_of (levels g d v n) (children g d v)))

module _ (g : Grammar) (rules : Rules) (here : Place) where
  -- the pair (t, v) where something is due; 24: "nesting over 64"
  unfoldable pub meets : Due → Context → ℕ → ℕ → Reader (Next Due Context)
  meets (a_tree (tree n d)) Γ t v = do
    first_word (may_stand here d t) 23
    first_word (leb n most_nesting) 24
    pick (eqb t d) (node g n d Γ v) (pick (eqb t mark_new) (new_variable d Γ v) (pick (eqb t mark_variable) (variable d Γ v) (chain d Γ v)))
  -- "a test's group may start from any variable"
  meets a_chain Γ t v = do
    first_word (eqb t mark_chain) 23
    there Γ v
    leaves Γ (application_count (get_or Γ v 0) ∷ [])
  -- "(K, 0) with K 1 to 4"
  meets (application_count s) Γ t v = do
    first_word (between 1 most_applications t) 23
    second_word (eqb v 0) 23
    leaves Γ (replicate t (application s))
  -- 22: "rule or operation not there or not usable here or on its scope, argument count"
  meets (application s) Γ t v = do
    first_word (usable g rules here s t) 22
    second_word (eqb v (length (wanted_by rules s t))) 22
    leaves Γ (map argument (wanted_by rules s t))
  -- "a pair (65, variable) for each argument"
  meets (argument w) Γ t v = do
    first_word (eqb t mark_variable) 23
    there Γ v
    second_word (wants g w (get_or Γ v 0)) 23
    leaves Γ []

-- THE RULES

module _ (g : Grammar) (rules : Rules) (ws : Words) where
  -- the pairs whose count stands at the position; 23: "pairs short or over"
  unfoldable pub typed : Place → Due → Context → Reader Context
  typed here d Γ at = whole (meets g rules here) 23 (stretch ws at) (d ∷ []) Γ (suc at)

  -- the number of a variable; 22: "variable not there yet"
  unfoldable pub variable_there : Context → Reader ℕ
  variable_there Γ at = pick (ltb (get_or ws at 0) (length Γ)) (value (get_or ws at 0) (suc at)) (refused 22 at)

  -- "Due are the target type, the built type, or in a part the variable's or the searched type; a test's group may start from any variable".
  -- 24: "17th variable", "for a 17th built variable the part's map". The part's map stands at the position
  unfoldable pub part_typed : PartAt → Context → Reader Context
  part_typed (deconstruct_at none x p) Γ at = and_then (variable_there Γ x) (λ v next. typed in_pattern (a_tree (tree 1 (get_or Γ v 0))) Γ p)
  part_typed (deconstruct_at (some s) x p) Γ at = and_then (variable_there Γ x) (λ v next. typed in_pattern (a_tree (tree 1 s)) Γ p)
  part_typed (construct_at s p) Γ at = and_then (require (ltb (length Γ) most_variables) 24 0 at) (λ u next. and_then (typed in_replacement (a_tree (tree 1 s)) Γ p) (λ Δ. return (Γ ++ s ∷ [])))
  part_typed (condition_at negated p) Γ at = typed in_condition a_chain Γ p

  -- k parts, one after the other: each sees the variables of those before it
  unfoldable pub parts_typed : ℕ → Context → Reader Context
  parts_typed zero Γ at = value Γ at
  parts_typed (suc k) Γ at = and_then (part_at (length g) ws at) (λ p next. and_then (part_typed p Γ at) (parts_typed k))

  -- "Variables are numbered from 0 as they arise: parameters, pattern, parts"
  unfoldable pub rule_typed : Reader (Unit {0})
  rule_typed = do
    h ← head (length g) ws
    Γ ← typed in_pattern (a_tree (tree 1 h.target)) h.parameters
    Δ ← only_if (bit 2 h.map) Γ (do
      k ← field ws 1 most_parts
      parts_typed k Γ)
    Θ ← only_if (bit 3 h.map) Δ (typed in_replacement (a_tree (tree 1 h.target)) Δ)
    return tt

  -- 23 at "the rule's target word, where rule 0 lacks reach and has not type 0"
  unfoldable pub main_target : Reader (Unit {0})
  main_target = require (fits_scope (get_or rules 0 no_rule) 0) 23 1

  -- "book, typing": every rule, the first first
  unfoldable pub rules_typed : Read (Unit {0})
  rules_typed = and_then (main_target 1) (λ u next. and_then (many (length rules) rule_typed 1) (λ us. return tt))

-- the places book, layout and book, typing: "Book layout is read whole before typing"
unfoldable pub read_rules : Grammar → Words → Read Rules
read_rules g ws = and_then (read_layout (length g) ws) (λ rules next. and_then (rules_typed g rules ws) (λ u. return rules))

-- THE SINGLE CHECK OF A RULE BOOK: 4, 5, 10 to 12, 20 to 24
unfoldable pub check_rules : Words → Words → Read Rules
check_rules gs ws = and_then (grammar_fits gs 0) (λ u next. and_then (rules_fit ws 0) (λ u next. and_then (read_grammar gs) (λ g next. read_rules g ws)))

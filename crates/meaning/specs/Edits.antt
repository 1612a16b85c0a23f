-- The six operations on sequences (T-04), over lists of elements: what they make, and the step that puts it in the scope's place. Assumes nothing: these are
-- definitions.
use Rattle.std.specs.Prelude.{ℕ, suc, ◌+◌, ◌-◌, ◌*◌, ◌/◌, min, max, List, [], ◌∷◌, ◌++◌, Bool, true, length, take, drop, eqb}
use Rattle.std.proofs.Math.Option.{Option, none, some}
use Rattle.words.specs.Reader.{Words, pick, and, or}
use Rattle.grammar.specs.Grammar.{Grammar}
use Rattle.grammar.specs.Kinds.{is_sequence}
use Rattle.tree.specs.Tree.{size, are_trees, is_tree, type_of}
use Rattle.tree.specs.Sequences.{element_of, sequence_of, elements, taken}
use Rattle.rules.specs.Rules.{Edit, join, select, head, tail, count, extract}
use Rattle.meaning.specs.Operations.{value_of, with_value, is_number_token}
use Rattle.meaning.specs.Computation.{Comp, ◌>>=◌, ◌>>◌, return, check, present, nodes_within, nesting_within, live_within}

-- "Positions are whole numbers; a fraction is truncated first"
unfoldable pub position : Words → ℕ
position n = value_of n / 100

-- "select from N1 to N2 counted from 1": "N1 under 1 becomes 1 and N2 past the end becomes the end; N2 under N1 gives the empty repeat"
unfoldable pub selected : ℕ → ℕ → List Words → List Words
selected a b es = take (suc (min b (length es)) - max a 1) (drop (max a 1 - 1) es)

-- what a join adds to a sequence of type t: "the argument is a repeat of the same type or else one element; where both are one type it is read as the repeat"
unfoldable pub joined : Grammar → ℕ → Words → List Words
joined g t u = pick (eqb (type_of u) t) (elements g u) (u ∷ [])

-- what is made with one argument, if there is just one
unfoldable pub with_one : List Words → (Words → Words) → Option Words
with_one [] f = none
with_one (u ∷ []) f = some (f u)
with_one (u ∷ v ∷ us) f = none

-- .. with two
unfoldable pub with_two : List Words → (Words → Words → Words) → Option Words
with_two [] f = none
with_two (u ∷ []) f = none
with_two (u ∷ v ∷ []) f = some (f u v)
with_two (u ∷ v ∷ x ∷ us) f = none

-- WHAT THE OPERATION MAKES of the scope with these arguments; the scope's type stays
unfoldable pub edited : Grammar → Edit → Words → List Words → Option Words
edited g join scope us = with_one us (λ u. sequence_of (type_of scope) (elements g scope ++ joined g (type_of scope) u))
edited g select scope us = with_two us (λ a b. sequence_of (type_of scope) (selected (position a) (position b) (elements g scope)))
-- "Head N selects 1 to N"
edited g head scope us = with_one us (λ b. sequence_of (type_of scope) (selected 1 (position b) (elements g scope)))
-- "tail N selects N to the end"
edited g tail scope us = with_one us (λ a. sequence_of (type_of scope) (selected (position a) (length (elements g scope)) (elements g scope)))
-- "two elements give 2.00, that is 200"
edited g count scope us = with_one us (λ u. with_value scope (100 * length (elements g u)))
-- "the scope is a repeat to which the trees of its element's type in the argument (of any type, its root included) are appended"
edited g extract scope us = with_one us (λ u. sequence_of (type_of scope) (elements g scope ++ taken g (element_of g (type_of scope)) u))

-- how many arguments it has
unfoldable pub takes : Edit → ℕ
takes join = 1
takes select = 2
takes head = 1
takes tail = 1
takes count = 1
takes extract = 1

-- a sequence, of whatever type
unfoldable pub is_sequence_tree : Grammar → Words → Bool
is_sequence_tree g ws = and (is_sequence g (type_of ws)) (is_tree g (type_of ws) ws)

-- do all pass?
unfoldable pub each : (Words → Bool) → List Words → Bool
each p [] = true
each p (w ∷ ws) = and (p w) (each p ws)

-- scope and arguments are as the operation wants them
unfoldable pub edit_fits : Grammar → Edit → Words → List Words → Bool
edit_fits g join scope us = and (is_sequence_tree g scope) (each (λ u. or (is_tree g (type_of scope) u) (is_tree g (element_of g (type_of scope)) u)) us)
edit_fits g select scope us = and (is_sequence_tree g scope) (each (is_number_token g) us)
edit_fits g head scope us = and (is_sequence_tree g scope) (each (is_number_token g) us)
edit_fits g tail scope us = and (is_sequence_tree g scope) (each (is_number_token g) us)
-- "number as scope, any repeat as argument"
edit_fits g count scope us = and (is_number_token g scope) (each (is_sequence_tree g) us)
edit_fits g extract scope us = and (is_sequence_tree g scope) (each (λ u. is_tree g (type_of u) u) us)

-- THE STEP: "a result takes its scope's place in one step, where all three are checked, 42 over all that its replacement has so far, 43 over the result alone".
-- `besides` are the nodes live besides the scope, `under` those of the tree under way so far
unfoldable pub edit : Bool → Grammar → Edit → List Words → Words → ℕ → ℕ → Comp Words
edit strict g o args scope besides under = do
  check strict (edit_fits g o scope args)
  u ← present (edited g o scope args)
  nodes_within (under + size u)
  -- "Every tree so made is within the typing that slips are held to"
  check strict (are_trees g u (type_of scope ∷ []))
  nesting_within g u
  live_within (besides + size u)
  return u

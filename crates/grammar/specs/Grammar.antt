-- The grammar's words: how they are read (10, 11), the grammar that they stand for, types without a finite tree (12), and the single check.
-- Assumes nothing: these are definitions.
use Rattle.std.specs.Prelude.{ℕ, zero, suc, ◌-◌, List, [], ◌∷◌, Bool, true, false, length, get_or, ltb, leb, eqb}
use Rattle.words.specs.Reader.{Words, pick, and, or, between, Read, value, refused, Reader, and_then, ◌>>=◌, ◌>>◌, return, refuse, require, word, word_in, many, end}
use Rattle.grammar.specs.Limits.{most_grammar_words, most_types, most_forms, most_elements, first_literal, last_literal}

-- the two kinds of sequence: the paper's repeat, and its list, "a repeat in all but its bit, nesting included, its commas having no nodes"
pub data Style : Type 0 where
  repeat list : Style

-- the map of its record: "bit 2, repeat"; "the list, bit 4"
abbrev pub map_in : Style → ℕ
map_in repeat = 4
map_in list = 16

-- what the trees of a type look like
pub data Kind : Type 0 where
  -- a token's class: 1 name, 2 number, 3 string
  token : ℕ → Kind
  opt : ℕ → Kind
  -- a sequence of trees of its element's type
  sequence : Style → ℕ → Kind
  -- for each form the types of its elements, literals left out
  forms : List (List ℕ) → Kind

-- the kinds of the types, type 0 first
abbrev pub Grammar : Type 0
Grammar = List Kind

-- "65,536 to 131,071 for a literal"
abbrev pub is_literal : ℕ → Bool
is_literal e = between first_literal last_literal e

-- the elements that are types: "Literals have no node"
unfoldable pub types_of : List ℕ → List ℕ
types_of [] = []
types_of (e ∷ es) = pick (is_literal e) (types_of es) (e ∷ types_of es)

module _ (ws : Words) where
  -- a count, a class or a type. 10: "ends early, or words left over"; 11: "count, map, class, type or element not allowed"
  unfoldable pub field : ℕ → ℕ → Reader ℕ
  field low high = word_in 10 11 ws low high

  -- "An element is a type number, or 65,536 to 131,071 for a literal"; 11 for any other. The grammar has n types
  unfoldable pub element : ℕ → Reader ℕ
  element n at = and_then (word 10 ws at) (λ e next. pick (or (ltb e n) (is_literal e)) (value e next) (refused 11 at))

  -- "a count of elements, 0 to 8, and the elements"
  unfoldable pub form : ℕ → Reader (List ℕ)
  form n = do
    k ← field 0 most_elements
    es ← many k (element n)
    return (types_of es)

  -- "A record is a bit map and then only the field whose bit stands. Exactly one bit stands"; 11 for any other map
  unfoldable pub kind : ℕ → Reader Kind
  kind n at = and_then (word 10 ws at) (λ m.
      pick (eqb m 1) (do
        c ← field 1 3
        return (token c))
      (pick (eqb m 2) (do
        e ← field 0 (n - 1)
        return (opt e))
      (pick (eqb m 4) (do
        e ← field 0 (n - 1)
        return (sequence repeat e))
      (pick (eqb m 8) (do
        k ← field 1 most_forms
        fs ← many k (form n)
        return (forms fs))
      (pick (eqb m 16) (do
        e ← field 0 (n - 1)
        return (sequence list e))
      (λ next. refused 11 at))))))

  -- "Word 0 is the number of types, 1 to 64; the types' records follow"
  unfoldable pub grammar : Reader Grammar
  grammar = do
    n ← field 1 most_types
    kinds ← many n (kind n)
    end 10 ws
    return kinds

-- TYPES OF WHICH A FINITE TREE EXISTS, found in rounds: a round takes a type in when its trees can be finished with the types known before it.

-- are all these types known?
unfoldable pub all_known : List Bool → List ℕ → Bool
all_known known [] = true
all_known known (t ∷ ts) = and (get_or known t false) (all_known known ts)

-- has one of the forms only types that are known?
unfoldable pub any_form_known : List Bool → List (List ℕ) → Bool
any_form_known known [] = false
any_form_known known (f ∷ fs) = or (all_known known f) (any_form_known known fs)

-- an opt or a sequence may be empty; a form wants a finite tree of each of its types
unfoldable pub finishes : List Bool → Kind → Bool
finishes known (token c) = true
finishes known (opt e) = true
finishes known (sequence style e) = true
finishes known (forms fs) = any_form_known known fs

-- one round over all types
unfoldable pub round : List Bool → Grammar → List Bool
round known [] = []
round known (k ∷ ks) = finishes known k ∷ round known ks

-- n rounds, from none known
unfoldable pub rounds : ℕ → Grammar → List Bool
rounds zero g = []
rounds (suc n) g = round (rounds n g) g

-- as many rounds as types reach all that can be reached
unfoldable pub finite : Grammar → List Bool
finite g = rounds (length g) g

-- 12: "a type of which no finite tree exists", at "the record's map, for 12 (lowest type)"
unfoldable pub finite_records : Words → ℕ → List Bool → Reader (Unit {0})
finite_records ws n [] = return tt
finite_records ws n (false ∷ fs) = refuse 12
finite_records ws n (true ∷ fs) = do
  k ← kind ws n
  finite_records ws n fs

-- the place grammar: the grammar, or 10, 11, 12; "12 only where 10 and 11 find nothing"
unfoldable pub read_grammar : Words → Read Grammar
read_grammar ws = and_then (grammar ws 0) (λ g next. and_then (finite_records ws (length g) (finite g) 1) (λ u. return g))

-- 4: "grammar .. too long", at "0 for call refusals"
unfoldable pub grammar_fits : Words → Reader (Unit {0})
grammar_fits ws = require (leb (length ws) most_grammar_words) 4 0

-- THE SINGLE CHECK OF A GRAMMAR: 4, then 10 to 12
unfoldable pub check_grammar : Words → Read Grammar
check_grammar ws = and_then (grammar_fits ws 0) (λ u next. read_grammar ws)

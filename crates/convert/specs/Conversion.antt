-- The conversion of a slip of grammar A into one of grammar B: what its tree becomes, the outcome with its refusals in their order, and what holds of it.
-- Assumes nothing: these are definitions.
use Rattle.std.specs.Prelude.{ℕ, ◌≤◌, ◌≡◌, List, [], ◌∷◌, ◌++◌, Bool, length, drop, leb, eqb, Result, Ok, Err}
use Rattle.words.specs.Reader.{Words, pick, Read, value, refused, require}
use Rattle.grammar.specs.Grammar.{Kind, Grammar, read_grammar, grammar_fits, check_grammar}
use Rattle.grammar.specs.Kinds.{kind_of}
use Rattle.tree.specs.Limits.{most_slip_words}
use Rattle.tree.specs.Tree.{Tree, size, nesting}
use Rattle.tree.specs.Slip.{counted, read_edition, in_edition, check_slip}
use Rattle.convert.specs.declared.refusal.AtFault.{AtFault}
use Rattle.convert.specs.declared.refusal.AtFault.TheVariants.{Neither, Old, New}
use Rattle.convert.specs.declared.refusal.ConversionRefusal.{ConversionRefusal}
use Rattle.convert.specs.Refusals.{blamed}
use Rattle.convert.specs.Table.{Entry, type_to, form_to, bit_of, read_table, Fits, written}

-- WHAT A TREE BECOMES

-- the value of a node of the kind, which is the type t's: a form's number as the table says, "all other values kept"
unfoldable pub value_to : Kind → List Entry → ℕ → ℕ → ℕ
value_to k es t v = pick (eqb (bit_of k) 8) (form_to es t v) v

-- "node for node, types and forms as the table says"
unfoldable pub converted : Grammar → List Entry → Words → Words
converted a es [] = []
converted a es (t ∷ []) = []
converted a es (t ∷ v ∷ ws) = type_to es t ∷ value_to (kind_of a t) es t v ∷ converted a es ws

-- THE OUTCOME

-- a refusal, with the grammar at fault (A is the old one, B the new one), its number and its position; or the words that are written
pub data Conversion : Type 0 where
  refused_by : AtFault → ℕ → ℕ → Conversion
  converted_to : Words → Conversion

-- goes on with what was read; a refusal is the end
unfoldable pub or_refused : {A : Type 0} → AtFault → Read A → (A → Conversion) → Conversion
or_refused which (value x next) f = f x
or_refused which (refused n p) f = refused_by which n p

-- between two grammars: 60, 61, then the slip's; "writes three words a node"
unfoldable pub conversion_between : Bool → Grammar → Grammar → Words → Words → Conversion
conversion_between edition a b ts ss =
    or_refused Neither (read_table a b ts) (λ es.
    or_refused Neither (read_edition edition a ss) (λ ws. converted_to (counted b (converted a es ws))))

-- with a result of n words: "the result is refused by 1 under 6,144 words"; then "the call refusals and then the grammars' (in each A, then B, the answer saying which)"
unfoldable pub conversion : Bool → ℕ → Words → Words → Words → Words → Conversion
conversion edition n olds news ts ss =
    or_refused Neither (require (leb most_slip_words n) 1 0 0) (λ u.
    or_refused Old (grammar_fits olds 0) (λ u.
    or_refused New (grammar_fits news 0) (λ u.
    or_refused Old (read_grammar olds) (λ a.
    or_refused New (read_grammar news) (λ b. conversion_between edition a b ts ss)))))

-- the result afterwards: "untouched by any refusal", and "changing nothing past" the words written
unfoldable pub result_after : Conversion → Words → Words
result_after (refused_by which n p) r = r
result_after (converted_to ws) r = ws ++ drop (length ws) r

-- what the code answers: how many words were written, or the refusal with the grammar at fault
unfoldable pub converted_as : Conversion → Result ℕ ConversionRefusal
converted_as (refused_by which n p) = Err (blamed which (n, p))
converted_as (converted_to ws) = Ok (length ws)

-- THE CONTRACT: the answer, and the result afterwards
pub record Converts (o : Conversion) (r r' : Words) (x : Result ℕ ConversionRefusal) : Type 0 where
  pub answered : x ≡ converted_as o
  pub result : r' ≡ result_after o r

-- WHAT HOLDS OF IT. proofs/Whole.antt has the theorem `converts_exactly`

-- nothing is refused: both grammars pass, the table fits them, and the slip is this tree of A in its edition
pub record Convertible (edition : Bool) (olds news ts ss : Words) (a b : Grammar) (es : List Entry) (tree : Words) : Type 0 where
  pub old : (next : ℕ) × (check_grammar olds ≡ value a next)
  pub new : (next : ℕ) × (check_grammar news ≡ value b next)
  pub table : ts ≡ written es
  pub fits : Fits a b es
  pub slip : ss ≡ in_edition edition a tree
  pub one_tree : Tree a 0 tree

-- what the tree becomes "is then a slip of B", of the same size and nesting, and passes B's check
pub record BecomesSlip (news : Words) (a b : Grammar) (es : List Entry) (tree ws : Words) : Type 0 where
  pub words : ws ≡ counted b (converted a es tree)
  pub one_tree : Tree b 0 (converted a es tree)
  pub nodes : size (converted a es tree) ≡ size tree
  pub nested : nesting b (converted a es tree) ≡ nesting a tree
  pub passes : check_slip news ws ≡ value (converted a es tree) (length ws)

-- what these words were converted from
pub record ConvertedFrom (edition : Bool) (n : ℕ) (olds news ts ss ws : Words) : Type 0 where
  pub room : most_slip_words ≤ n
  pub a : Grammar
  pub b : Grammar
  pub es : List Entry
  pub tree : Words
  pub convertible : Convertible edition olds news ts ss a b es tree
  pub becomes : BecomesSlip news a b es tree ws

-- "Each slip of A that nothing refuses is converted node for node .. and is then a slip of B", and nothing else is converted
pub record ConvertsExactly (edition : Bool) (n : ℕ) (olds news ts ss ws : Words) : Type 0 where
  pub sound : conversion edition n olds news ts ss ≡ converted_to ws → ConvertedFrom edition n olds news ts ss ws
  pub complete : (a b : Grammar) (es : List Entry) (tree : Words) → most_slip_words ≤ n → Convertible edition olds news ts ss a b es tree → ws ≡ counted b (converted a es tree) → conversion edition n olds news ts ss ≡ converted_to ws

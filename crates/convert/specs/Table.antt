-- The table by which slips of grammar A become slips of grammar B: how it is read (60, 61), and which tables are right. Assumes nothing: these are definitions.
use Rattle.std.specs.Prelude.{ℕ, ◌+◌, ◌<◌, ◌≡◌, List, [], ◌∷◌, ◌++◌, map, Bool, length, get_or, ltb, eqb}
use Rattle.words.specs.Reader.{Words, pick, and, Read, value, refused, Reader, and_then, ◌>>=◌, ◌>>◌, return, require, word, many, end}
use Rattle.words.specs.Views.{equal_words}
use Rattle.grammar.specs.Grammar.{map_in, Kind, token, opt, sequence, forms, Grammar}
use Rattle.grammar.specs.Kinds.{kind_of, forms_of}

-- what the table says of one type of A: "its type in B, and after it, for a type with forms, the number in B of each form"
pub record Entry : Type 0 where
  pub type : ℕ
  pub numbers : List ℕ

-- HOW IT IS READ. 60: "the table is too short, too long or names something not in B", at "its lowest word", or "at the table's length if it is short"

-- a number below n: one of n types or forms
unfoldable pub named : Words → ℕ → Reader ℕ
named ws n at = and_then (word 60 ws at) (λ w next. pick (ltb w n) (value w next) (refused 60 at))

module _ (ws : Words) (b : Grammar) where
  -- what is said of a type of this kind, a number for each of its forms; a type of B without forms has none to name
  unfoldable pub entry : Kind → Reader Entry
  entry k = do
    t ← named ws (length b)
    ns ← many (length (forms_of k)) (named ws (length (forms_of (kind_of b t))))
    return (record { type = t; numbers = ns })

  -- "for each type of A, in order"
  unfoldable pub entries : Grammar → Reader (List Entry)
  entries [] = return []
  entries (k ∷ ks) = do
    e ← entry k
    es ← entries ks
    return (e ∷ es)

  -- and nothing else
  unfoldable pub whole_table : Grammar → Reader (List Entry)
  whole_table a = do
    es ← entries a
    end 60 ws
    return es

-- what the table says of type t
unfoldable pub entry_of : List Entry → ℕ → Entry
entry_of es t = get_or es t (record { type = 0; numbers = [] })

-- its type in B
unfoldable pub type_to : List Entry → ℕ → ℕ
type_to es t = (entry_of es t).type

-- the number in B of its form
unfoldable pub form_to : List Entry → ℕ → ℕ → ℕ
form_to es t v = get_or (entry_of es t).numbers v 0

-- WHETHER IT FITS. 61: "a mapped type differs in kind or class, a mapped element or form differs in its mapped types, or type 0 does not map to type 0"

-- the "kind", by the bit that stands in the map of its record: a repeat and a list differ
unfoldable pub bit_of : Kind → ℕ
bit_of (token c) = 1
bit_of (opt e) = 2
bit_of (sequence style e) = map_in style
bit_of (forms fs) = 8

-- the "class" of a token, 0 for any other kind
unfoldable pub class_of : Kind → ℕ
class_of (token c) = c
class_of (opt e) = 0
class_of (sequence style e) = 0
class_of (forms fs) = 0

-- the "element" of an opt or a sequence, no other kind having one
unfoldable pub element_of : Kind → List ℕ
element_of (token c) = []
element_of (opt e) = e ∷ []
element_of (sequence style e) = e ∷ []
element_of (forms fs) = []

-- has the kind in B the same bit and class, and the mapped element?
unfoldable pub alike : List Entry → Kind → Kind → Bool
alike es k l = and (eqb (bit_of k) (bit_of l)) (and (eqb (class_of k) (class_of l)) (equal_words (map (type_to es) (element_of k)) (element_of l)))

-- goes past the word if what it names fits; otherwise 61 at it
unfoldable pub fitting : Bool → Reader (Unit {0})
fitting ok at = pick ok (value tt (at + 1)) (refused 61 at)

-- has each form of B that is named the mapped types of its form? 61 at "that .. of the form that differs"
unfoldable pub forms_fit : List Entry → List (List ℕ) → List (List ℕ) → List ℕ → Reader (Unit {0})
forms_fit es gs [] ns = return tt
forms_fit es gs (f ∷ fs) [] = return tt
forms_fit es gs (f ∷ fs) (n ∷ ns) = do
  fitting (equal_words (map (type_to es) f) (get_or gs n []))
  forms_fit es gs fs ns

-- a type, 61 at "that of the type", then its forms
unfoldable pub type_fits : Grammar → List Entry → Kind → Entry → Reader (Unit {0})
type_fits b es k e = do
  fitting (alike es k (kind_of b e.type))
  forms_fit es (forms_of (kind_of b e.type)) (forms_of k) e.numbers

-- type after type
unfoldable pub types_fit : Grammar → List Entry → Grammar → List Entry → Reader (Unit {0})
types_fit b es [] fs = return tt
types_fit b es (k ∷ ks) [] = return tt
types_fit b es (k ∷ ks) (f ∷ fs) = do
  type_fits b es k f
  types_fit b es ks fs

-- THE TABLE: "60 is sought over the whole table before 61, each at its lowest word"; the word of type 0 is the first
unfoldable pub read_table : Grammar → Grammar → Words → Read (List Entry)
read_table a b ws =
    and_then (whole_table ws b a 0) (λ es next.
    and_then (require (eqb (type_to es 0) 0) 61 0 0) (λ u next.
    and_then (types_fit b es a es 0) (λ u. return es)))

-- WHICH TABLES ARE RIGHT, with no reader in it

-- neither "differs in kind or class", nor in its element's mapped type
pub record Alike (es : List Entry) (k l : Kind) : Type 0 where
  pub kind : bit_of k ≡ bit_of l
  pub class : class_of k ≡ class_of l
  pub element : map (type_to es) (element_of k) ≡ element_of l

-- each form of a type has a number among the forms of B's type, and that form has its mapped types
pub data FormsFit (es : List Entry) (gs : List (List ℕ)) : List (List ℕ) → List ℕ → Type 0 where
  no_form : FormsFit es gs [] []
  form : {f : List ℕ} {fs : List (List ℕ)} {n : ℕ} {ns : List ℕ} → n < length gs → map (type_to es) f ≡ get_or gs n [] → FormsFit es gs fs ns → FormsFit es gs (f ∷ fs) (n ∷ ns)

-- what the table says of a type of the kind is right
pub record TypeFits (b : Grammar) (es : List Entry) (k : Kind) (e : Entry) : Type 0 where
  pub there : e.type < length b
  pub kinds : Alike es k (kind_of b e.type)
  pub forms_fit_lem : FormsFit es (forms_of (kind_of b e.type)) (forms_of k) e.numbers

-- .. of each type
pub data TypesFit (b : Grammar) (es : List Entry) : Grammar → List Entry → Type 0 where
  no_type : TypesFit b es [] []
  type : {k : Kind} {ks : Grammar} {f : Entry} {fs : List Entry} → TypeFits b es k f → TypesFit b es ks fs → TypesFit b es (k ∷ ks) (f ∷ fs)

-- what the table says is right, and type 0 maps to type 0
pub record Fits (a b : Grammar) (es : List Entry) : Type 0 where
  pub root : type_to es 0 ≡ 0
  pub types : TypesFit b es a es

-- the words of a table
unfoldable pub written : List Entry → Words
written [] = []
written (e ∷ es) = e.type ∷ (e.numbers ++ written es)

-- WHAT PASSES IS EXACTLY A TABLE THAT FITS. proofs/Exactly.antt has the theorem `table_exactly`
pub record TableExactly (a b : Grammar) (ws : Words) (es : List Entry) : Type 0 where
  pub sound : (next : ℕ) → read_table a b ws ≡ value es next → (ws ≡ written es) × Fits a b es
  pub complete : ws ≡ written es → Fits a b es → read_table a b ws ≡ value es (length ws)

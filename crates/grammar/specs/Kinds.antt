-- What a type's kind says of a node: the values it may have, and the types of its children. Assumes nothing: these are definitions.
use Rattle.std.specs.Prelude.{ℕ, List, [], ◌∷◌, Bool, true, false, not, length, get_or, ltb, leb, eqb}
use Rattle.words.specs.Reader.{pick}
use Rattle.grammar.specs.Limits.{greatest_name, greatest_number}
use Rattle.grammar.specs.Grammar.{Kind, token, opt, sequence, forms, Grammar}

-- the kind of a type; a type that is not there has no form, so no tree
unfoldable pub kind_of : Grammar → ℕ → Kind
kind_of g t = get_or g t (forms [])

-- "A token's value is 0 to 65,535 for a name or string (0 is the empty token)"; T-02: "A number's value now runs to 4,000,000,000 hundredths"
-- "An opt has value 0 and one tree of its element, or 1 and none." A sequence likewise. "Other types have a form's number"
unfoldable pub allows : Kind → ℕ → Bool
allows (token c) v = leb v (pick (eqb c 2) greatest_number greatest_name)
allows (opt e) v = leb v 1
allows (sequence style e) v = leb v 1
allows (forms fs) v = ltb v (length fs)

-- may a node of the type have the value?
unfoldable pub allowed : Grammar → ℕ → ℕ → Bool
allowed g t v = allows (kind_of g t) v

-- the types of the children of a node of the kind, which is the type t's, with the value v: "one tree of its element", "a tree of its element and a tree
-- of its own type (the rest)", "one tree for each type in that form, in order"
unfoldable pub children_of : Kind → ℕ → ℕ → List ℕ
children_of (token c) t v = []
children_of (opt e) t v = pick (eqb v 0) (e ∷ []) []
children_of (sequence style e) t v = pick (eqb v 0) (e ∷ t ∷ []) []
children_of (forms fs) t v = get_or fs v []

-- the same for a type of the grammar
unfoldable pub children : Grammar → ℕ → ℕ → List ℕ
children g t v = children_of (kind_of g t) t v

-- the types of each form of a kind; only a kind with forms has any
unfoldable pub forms_of : Kind → List (List ℕ)
forms_of (token c) = []
forms_of (opt e) = []
forms_of (sequence style e) = []
forms_of (forms fs) = fs

-- is the kind a sequence, whose second child is "the rest"?
unfoldable pub is_sequence_kind : Kind → Bool
is_sequence_kind (token c) = false
is_sequence_kind (opt e) = false
is_sequence_kind (sequence style e) = true
is_sequence_kind (forms fs) = false

-- is the type a sequence?
unfoldable pub is_sequence : Grammar → ℕ → Bool
is_sequence g t = is_sequence_kind (kind_of g t)

-- is the kind a number token?
unfoldable pub is_number_kind : Kind → Bool
is_number_kind (token c) = eqb c 2
is_number_kind (opt e) = false
is_number_kind (sequence style e) = false
is_number_kind (forms fs) = false

-- is the type a number token?
unfoldable pub is_number : Grammar → ℕ → Bool
is_number g t = is_number_kind (kind_of g t)

-- is the kind a name or a string, the tokens that are no numbers?
unfoldable pub is_text_kind : Kind → Bool
is_text_kind (token c) = not (eqb c 2)
is_text_kind (opt e) = false
is_text_kind (sequence style e) = false
is_text_kind (forms fs) = false

-- is the type a name or a string?
unfoldable pub is_text : Grammar → ℕ → Bool
is_text g t = is_text_kind (kind_of g t)

-- What may be an argument: a test on the type of a variable; what an operation on sequences wants. Assumes nothing: these are definitions.
use Rattle.std.specs.Prelude.{ℕ, Bool, true, List, [], ◌∷◌, eqb}
use Rattle.words.specs.Reader.{or}
use Rattle.grammar.specs.Grammar.{Grammar}
use Rattle.grammar.specs.Kinds.{is_number, is_sequence}
use Rattle.tree.specs.Sequences.{element_of}
use Rattle.rules.specs.Rules.{Edit, join, select, head, tail, count, extract}

-- what is wanted as an argument
pub data Wanted : Type 0 where
  -- a tree of this very type: "Arguments fit parameters in number and type"
  exactly : ℕ → Wanted
  -- a number token: "Types of number tokens may differ"
  a_number : Wanted
  -- what is joined to a sequence of this type: "a repeat of the same type or else one element"
  to_join : ℕ → Wanted
  -- length: "any repeat as argument"
  a_sequence : Wanted
  -- extract: "of any type"
  anything : Wanted

-- may a tree of type t be what is wanted?
unfoldable pub wants : Grammar → Wanted → ℕ → Bool
wants g (exactly d) t = eqb t d
wants g a_number t = is_number g t
wants g (to_join s) t = or (eqb t s) (eqb t (element_of g s))
wants g a_sequence t = is_sequence g t
wants g anything t = true

-- may the scope of an operation on sequences have the type? A sequence; for length "number as scope"
unfoldable pub scope_fits : Grammar → Edit → ℕ → Bool
scope_fits g join t = is_sequence g t
scope_fits g select t = is_sequence g t
scope_fits g head t = is_sequence g t
scope_fits g tail t = is_sequence g t
scope_fits g count t = is_number g t
scope_fits g extract t = is_sequence g t

-- the arguments that it wants on a scope of type t
unfoldable pub wanted_in : Edit → ℕ → List Wanted
wanted_in join t = to_join t ∷ []
wanted_in select t = a_number ∷ a_number ∷ []
wanted_in head t = a_number ∷ []
wanted_in tail t = a_number ∷ []
wanted_in count t = a_sequence ∷ []
wanted_in extract t = anything ∷ []

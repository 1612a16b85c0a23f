-- What the code hands back of a reading. Assumes nothing: these are definitions.
use Rattle.std.specs.Prelude.{ℕ, zero, suc, List, Bool, true, false, get_or, replicate, Result}
use Rattle.words.specs.Views.{shown}
use Rattle.std.proofs.lemmas.List.Edits.{sets}
use Rattle.words.specs.Reader.{pick, and, or, Read, value, refused}
use Rattle.grammar.specs.Grammar.{Kind, Grammar, all_known, any_form_known, finishes, round, types_of, is_literal}

-- can an element be finished with the types known? A literal always can
abbrev pub element_finishes : List Bool → ℕ → Bool
element_finishes known e = pick (is_literal e) true (get_or known e false)

-- can what was read be finished with the types known, and the next position
abbrev pub seen_element : List Bool → Read ℕ → Result (Bool × ℕ) (ℕ × ℕ)
seen_element known = shown (element_finishes known)

-- elements that were read, after others; `acc` is what was found before
abbrev pub seen_elements : List Bool → Bool → Read (List ℕ) → Result (Bool × ℕ) (ℕ × ℕ)
seen_elements known acc = shown (λ es. and acc (all_known known (types_of es)))

-- a form that was read
abbrev pub seen_form : List Bool → Read (List ℕ) → Result (Bool × ℕ) (ℕ × ℕ)
seen_form known = shown (all_known known)

-- forms that were read, after others
abbrev pub seen_forms : List Bool → Bool → Read (List (List ℕ)) → Result (Bool × ℕ) (ℕ × ℕ)
seen_forms known acc = shown (λ fs. or acc (any_form_known known fs))

-- a kind that was read
abbrev pub seen_kind : List Bool → Read Kind → Result (Bool × ℕ) (ℕ × ℕ)
seen_kind known = shown (finishes known)

-- a round's flags, from type t on put into an array
abbrev pub filled : List Bool → List Bool → ℕ → Read Grammar → List Bool
filled known flags t (value g next) = sets flags t (round known g)
filled known flags t (refused n p) = known

-- the flags after i rounds, in an array of 64
unfoldable pub flags_after : ℕ → Read Grammar → List Bool
flags_after zero q = replicate 64 false
flags_after (suc i) q = filled (flags_after i q) (replicate 64 false) 0 q

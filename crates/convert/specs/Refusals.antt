-- A conversion's refusals as they are told. Assumes nothing: these are definitions.
use Rattle.std.specs.Prelude.{ℕ, Result, Ok, Err}
use Rattle.words.specs.Reader.{Read, value, refused}
use Rattle.convert.specs.declared.refusal.AtFault.{AtFault}
use Rattle.convert.specs.declared.refusal.AtFault.TheVariants.{Neither, Old, New}
use Rattle.convert.specs.declared.refusal.ConversionRefusal.{ConversionRefusal}

-- "the answer saying which": 1 for A, 2 for B, 0 for neither
abbrev pub grammar_number : AtFault → ℕ
grammar_number Neither = 0
grammar_number Old = 1
grammar_number New = 2

-- a refusal of this number and position, with the grammar at fault
abbrev pub blamed : AtFault → ℕ × ℕ → ConversionRefusal
blamed which refusal = record { grammar = which; refusal = refusal }

-- a reading of a grammar: nothing refused, or the refusal
abbrev pub passed : {A : Type 0} → AtFault → Read A → Result (Unit {0}) ConversionRefusal
passed which (value x next) = Ok tt
passed which (refused n p) = Err (blamed which (n, p))

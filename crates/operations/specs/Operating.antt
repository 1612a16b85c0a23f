-- What the operations in code promise. Assumes nothing: these are definitions.
use Rattle.std.specs.Prelude.{ℕ, ◌≡◌, Bool, List, [], ◌∷◌, leb, Option, Some, None, Result, Ok, Err}
use Rattle.words.specs.Reader.{pick}
use Rattle.grammar.specs.Limits.{greatest_number}
use Rattle.rules.specs.Rules.{Operation, add, subtract, quotient, remainder, round, truncate, equal, greater, applied, operation}
use Rattle.meaning.specs.declared.State.{State}
use Rattle.meaning.specs.Computation as Computation
use Rattle.meaning.specs.Computation.{ok, stop, stuck}
use Rattle.meaning.specs.Operations.{compute, compare}

-- a number that is in range; 45 where it is not, or where there is none
abbrev pub in_range_as : Option ℕ → Result ℕ ℕ
in_range_as (Some n) = pick (leb n greatest_number) (Ok n) (Err 45)
in_range_as None = Err 45

-- the arguments that the operation takes
abbrev pub arguments_of : Operation → ℕ → List ℕ
arguments_of round b = []
arguments_of truncate b = []
arguments_of add b = b ∷ []
arguments_of subtract b = b ∷ []
arguments_of quotient b = b ∷ []
arguments_of remainder b = b ∷ []
arguments_of equal b = b ∷ []
arguments_of greater b = b ∷ []

-- what a number, or a stop, says of a computation
abbrev pub MeansNumber : Result ℕ ℕ → State → Computation.Result ℕ → Type 0
MeansNumber (Ok n) left m = m ≡ ok n left
MeansNumber (Err k) left m = m ≡ stop k left

-- the answer is what the operation computes, unless it is stuck
abbrev pub Operated : ℕ → ℕ → ℕ → Result ℕ ℕ → Type 0
Operated op a b r = (o : Operation) (left : State) → applied op ≡ operation o → (compute o a (arguments_of o b) left ≡ stuck → ⊥) → MeansNumber r left (compute o a (arguments_of o b) left)

-- the same for an operation that compares
abbrev pub Compared : ℕ → ℕ → ℕ → Bool → Type 0
Compared op a b r = (o : Operation) (left : State) → applied op ≡ operation o → (compare o a (arguments_of o b) left ≡ stuck → ⊥) → compare o a (arguments_of o b) left ≡ ok r left

-- The eight operations on numbers, in hundredths; numbers as trees. Assumes nothing: these are definitions.
use Rattle.std.specs.Prelude.{ℕ, ◌+◌, ◌-◌, ◌*◌, ◌/◌, List, [], ◌∷◌, Bool, true, not, get_or, eqb, leb, ltb}
use Rattle.words.specs.Reader.{Words, and}
use Rattle.grammar.specs.Grammar.{Grammar}
use Rattle.grammar.specs.Kinds.{is_number}
use Rattle.grammar.specs.Limits.{greatest_number}
use Rattle.tree.specs.Tree.{is_tree, type_of}
use Rattle.rules.specs.Rules.{Operation, add, subtract, quotient, remainder, round, truncate, equal, greater}
use Rattle.meaning.specs.Computation.{Comp, ◌>>◌, return, never, stop_unless}
use Rattle.meaning.specs.Rounding.{half_even}

-- "Operation 1,004 rounds an exact half to the even whole number", so in hundredths times 100
unfoldable pub rounded : ℕ → ℕ
rounded a = half_even a 100 * 100

-- "1,005 truncate"
unfoldable pub truncated : ℕ → ℕ
truncated a = a / 100 * 100

-- 45: "an operation's result .. over" the most a number may be
unfoldable pub in_range : ℕ → Comp ℕ
in_range n = do
  stop_unless 45 (leb n greatest_number)
  return n

-- 45: "divisor 0"
unfoldable pub divisor : ℕ → Comp (Unit {0})
divisor b = stop_unless 45 (not (eqb b 0))

-- with its one argument, or with none: "Arguments fit .. in number"
unfoldable pub with_one : {A : Type 0} → List ℕ → (ℕ → Comp A) → Comp A
with_one [] f = never
with_one (b ∷ []) f = f b
with_one (b ∷ c ∷ bs) f = never

-- .. with none
unfoldable pub with_none : {A : Type 0} → List ℕ → Comp A → Comp A
with_none [] m = m
with_none (b ∷ bs) m = never

-- "Replacements apply .. operations 1,000 to 1,005": what becomes of the scope a
unfoldable pub compute : Operation → ℕ → List ℕ → Comp ℕ
compute add a bs = with_one bs (λ b. in_range (a + b))
-- 45: "an operation's result under 0"
compute subtract a bs = with_one bs (λ b. do
  stop_unless 45 (leb b a)
  in_range (a - b))
-- "1,002 quotient (whole, rounded down)", so in hundredths times 100
compute quotient a bs = with_one bs (λ b. do
  divisor b
  in_range (a / b * 100))
-- "1,003 remainder (scope less argument times quotient: 250 and 120 give 10)"
compute remainder a bs = with_one bs (λ b. do
  divisor b
  in_range (a - b * (a / b)))
compute round a bs = with_none bs (in_range (rounded a))
compute truncate a bs = with_none bs (in_range (truncated a))
compute equal a bs = never
compute greater a bs = never

-- "tests apply .. 1,008 and 1,009": "1,008 equal, 1,009 scope greater"
unfoldable pub compare : Operation → ℕ → List ℕ → Comp Bool
compare equal a bs = with_one bs (λ b. return (eqb a b))
compare greater a bs = with_one bs (λ b. return (ltb b a))
compare add a bs = never
compare subtract a bs = never
compare quotient a bs = never
compare remainder a bs = never
compare round a bs = never
compare truncate a bs = never

-- NUMBERS AS TREES

-- the value of a token
unfoldable pub value_of : Words → ℕ
value_of ws = get_or ws 1 0

-- the values of several
unfoldable pub values_of : List Words → List ℕ
values_of [] = []
values_of (t ∷ ts) = value_of t ∷ values_of ts

-- "Types of number tokens may differ; the scope's stays"
unfoldable pub with_value : Words → ℕ → Words
with_value ws n = type_of ws ∷ n ∷ []

-- "Operations have number tokens as scope and argument"
unfoldable pub is_number_token : Grammar → Words → Bool
is_number_token g ws = and (is_number g (type_of ws)) (is_tree g (type_of ws) ws)

-- are all number tokens?
unfoldable pub are_number_tokens : Grammar → List Words → Bool
are_number_tokens g [] = true
are_number_tokens g (t ∷ ts) = and (is_number_token g t) (are_number_tokens g ts)

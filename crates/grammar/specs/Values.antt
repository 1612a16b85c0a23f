-- How many values a node may have, as the tables of types hold it. Assumes nothing: these are definitions.
use Rattle.std.specs.Prelude.{ℕ, ◌+◌, length, eqb}
use Rattle.words.specs.Reader.{pick}
use Rattle.grammar.specs.Limits.{greatest_name, greatest_number}
use Rattle.grammar.specs.Grammar.{Kind, token, opt, sequence, forms}

-- how many values a node of the kind may have: they are those below this number
unfoldable pub values_of : Kind → ℕ
values_of (token c) = pick (eqb c 2) (greatest_number + 1) (greatest_name + 1)
values_of (opt e) = 2
values_of (sequence style e) = 2
values_of (forms fs) = length fs

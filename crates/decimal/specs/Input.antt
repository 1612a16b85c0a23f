-- THE PARTS OF AN INPUT, from its numbers: "budget, then length and words of grammar, book and slip". Assumes nothing: these are definitions.
use Rattle.std.specs.Prelude.{ℕ, ◌≡◌, [], ◌∷◌, length, take, drop, leb}
use Rattle.std.proofs.Math.Option.{Option, none, some}
use Rattle.std.specs.Prelude.{Option as Answer, Some, None}
use denote.Ref.{Bor}
use Rattle.words.specs.Reader.{Words, pick, and}
use Rattle.meaning.specs.Outcome.{Inputs}
use Rattle.decimal.specs.Numbers.{Bytes, Numbers, numbers}
use Rattle.decimal.specs.declared.numbers.Place.{Place}
use Rattle.decimal.specs.declared.numbers.Place.TheVariants.{Unread, Between, Within}
use Rattle.decimal.specs.declared.input.Parts.{Parts}

-- "a length more than one past its limit" is other input: the most words of a grammar, a rule book and a slip, and one more
abbrev pub most_grammar : ℕ
most_grammar = 4097

-- .. of a rule book
abbrev pub most_rules : ℕ
most_rules = 16385

-- .. of a slip
abbrev pub most_slip : ℕ
most_slip = 6145

-- a length, at most so much, and that many words; and what is made of them and of the numbers after them
unfoldable pub counted : ℕ → Words → (Words → Words → Option Inputs) → Option Inputs
counted most [] f = none
counted most (n ∷ ns) f = pick (and (leb n most) (leb n (length ns))) (f (take n ns) (drop n ns)) none

-- nothing is left over
unfoldable pub whole : Inputs → Words → Option Inputs
whole x [] = some x
whole x (n ∷ ns) = none

-- THE PARTS OF AN INPUT; none is `unread`
unfoldable pub input : Words → Option Inputs
input [] = none
input (budget ∷ ns) =
    counted most_grammar ns (λ grammar ns.
    counted most_rules ns (λ rules ns.
    counted most_slip ns (λ slip ns.
    whole (record { budget = budget; grammar = grammar; rules = rules; slip = slip }) ns)))

-- of the numbers of a text; other bytes, or a number that is no word, are "other input"
unfoldable pub input_at : Place → Words → Option Inputs
input_at Unread ns = none
input_at Between ns = input ns
input_at (Within v) ns = none

-- the input that a reading found
abbrev pub input_of : Numbers → Option Inputs
input_of s = input_at s.place s.found

-- a budget, three lengths, and the most words of each part: no input has more numbers
abbrev pub most_numbers : ℕ
most_numbers = 26631

-- THE INPUT THAT A TEXT IS
unfoldable pub input_from : Bytes → Option Inputs
input_from text = input_of (numbers most_numbers text)

-- WHAT THE CODE PROMISES

-- the input that parts are
abbrev pub inputs_of : Parts → Inputs
inputs_of p = record { budget = p.budget; grammar = p.grammar.now; rules = p.rules.now; slip = p.slip.now }

-- and that an answer says
abbrev pub said : Answer Parts → Option Inputs
said None = none
said (Some p) = some (inputs_of p)

-- what is made of a part and of the numbers after it, if they were found
abbrev pub made : Answer (Bor Words × Bor Words) → (Words → Words → Option Inputs) → Option Inputs
made None f = none
made (Some p) f = f p.0.now p.1.now

-- a part, as it is counted
abbrev pub Counted : ℕ → Words → Answer (Bor Words × Bor Words) → Type 0
Counted most ns r = (f : Words → Words → Option Inputs) → counted most ns f ≡ made r f

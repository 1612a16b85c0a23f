-- Books with what the layout finds in them, by the readings of document 01's words: one table, one proof. Assumes nothing.
use Rattle.std.specs.Prelude.{ℕ, ◌≡◌, refl, List, [], ◌∷◌, true, false, Result, Ok, Err}
use Rattle.std.proofs.Math.Option.{none, some}
use Rattle.words.specs.Reader.{Words, value, word, word_in, many, end}
use Rattle.words.specs.Views.{answer}
use Rattle.rules.specs.Rules.{node, new, same, add, greater, operation, nothing, write, copy, chain, deconstruct, search, construct, condition, root_only, first_match, exhaustive, one_pass, Rules, operations, applied, shapes, arguments, applications, pairs_in, arguments_written, applications_written, chain_written, unreadable, chain_of, condition_of, pieces_after, pieces}
use Rattle.rules.specs.Layout.{strategy_of, stretch, field, pairs, variable_at, deconstruct_fields, condition_fields, part_of, reach, replacement, main_fits, main_bits, type_field, search_fields, construct_fields, part_at, part, parameters, head_fields, head, parts, rule as read_rule, layout, read_layout}

-- the number of types, a book's words, and the layout's answer
data Case : Type 0 where
  case : ℕ → Words → Result ℕ (ℕ × ℕ) → Case

table : List Case
table =
    -- "Book 1 9 2 2 1 2 200 1 2 4200"
    case 3 (1 ∷ 9 ∷ 2 ∷ 2 ∷ 1 ∷ 2 ∷ 200 ∷ 1 ∷ 2 ∷ 4200 ∷ []) (Ok 10)
    -- a word left over; the last word missing; a rule missing; no words
    ∷ case 3 (1 ∷ 9 ∷ 2 ∷ 2 ∷ 1 ∷ 2 ∷ 200 ∷ 1 ∷ 2 ∷ 4200 ∷ 7 ∷ []) (Err (20, 10))
    ∷ case 3 (1 ∷ 9 ∷ 2 ∷ 2 ∷ 1 ∷ 2 ∷ 200 ∷ 1 ∷ 2 ∷ []) (Err (20, 9))
    ∷ case 3 (2 ∷ 9 ∷ 2 ∷ 2 ∷ 1 ∷ 2 ∷ 200 ∷ 1 ∷ 2 ∷ 4200 ∷ []) (Err (20, 10))
    ∷ case 3 [] (Err (20, 0))
    -- a rule's map has bits 0 to 3; a rule with none of them tries its scope's root and is a condition
    ∷ case 3 (2 ∷ 8 ∷ 0 ∷ 1 ∷ 64 ∷ 0 ∷ 1 ∷ 65 ∷ 0 ∷ 0 ∷ 0 ∷ 1 ∷ 64 ∷ 0 ∷ []) (Ok 14)
    ∷ case 3 (2 ∷ 8 ∷ 0 ∷ 1 ∷ 64 ∷ 0 ∷ 1 ∷ 65 ∷ 0 ∷ 16 ∷ 0 ∷ 1 ∷ 64 ∷ 0 ∷ []) (Err (21, 9))
    ∷ case 3 (2 ∷ 8 ∷ 0 ∷ 1 ∷ 64 ∷ 0 ∷ 1 ∷ 65 ∷ 0 ∷ 17 ∷ 0 ∷ 1 ∷ 1 ∷ 64 ∷ 0 ∷ []) (Err (21, 9))
    -- rule 0 has bit 3 and not bit 1: 21 at its map as it is read, before the target and before an end
    ∷ case 3 (1 ∷ 1 ∷ 2 ∷ 2 ∷ 1 ∷ 2 ∷ 200 ∷ []) (Err (21, 1))
    ∷ case 3 (1 ∷ 10 ∷ 9 ∷ []) (Err (21, 1))
    ∷ case 3 (1 ∷ 24 ∷ 9 ∷ []) (Err (21, 1))
    ∷ case 3 (1 ∷ 1 ∷ []) (Err (21, 1))
    ∷ case 3 (1 ∷ 8 ∷ []) (Err (20, 2))
    ∷ case 3 (1 ∷ []) (Err (20, 1))
    -- part maps 1, 3, 4, 8, 24, and no others
    ∷ case 3 (1 ∷ 12 ∷ 0 ∷ 1 ∷ 64 ∷ 0 ∷ 1 ∷ 1 ∷ 0 ∷ 1 ∷ 64 ∷ 0 ∷ 1 ∷ 65 ∷ 0 ∷ []) (Ok 15)
    ∷ case 3 (1 ∷ 12 ∷ 0 ∷ 1 ∷ 64 ∷ 0 ∷ 1 ∷ 3 ∷ 2 ∷ 0 ∷ 1 ∷ 64 ∷ 2 ∷ 1 ∷ 65 ∷ 0 ∷ []) (Ok 16)
    ∷ case 3 (1 ∷ 12 ∷ 0 ∷ 1 ∷ 64 ∷ 0 ∷ 1 ∷ 4 ∷ 2 ∷ 1 ∷ 2 ∷ 500 ∷ 1 ∷ 65 ∷ 0 ∷ []) (Ok 15)
    ∷ case 3 (1 ∷ 12 ∷ 0 ∷ 1 ∷ 64 ∷ 0 ∷ 1 ∷ 8 ∷ 3 ∷ 66 ∷ 0 ∷ 1 ∷ 0 ∷ 0 ∷ 0 ∷ 1 ∷ 65 ∷ 0 ∷ []) (Ok 18)
    ∷ case 3 (1 ∷ 12 ∷ 0 ∷ 1 ∷ 64 ∷ 0 ∷ 1 ∷ 24 ∷ 3 ∷ 66 ∷ 0 ∷ 1 ∷ 0 ∷ 0 ∷ 0 ∷ 1 ∷ 65 ∷ 0 ∷ []) (Ok 18)
    ∷ case 3 (1 ∷ 12 ∷ 0 ∷ 1 ∷ 64 ∷ 0 ∷ 1 ∷ 0 ∷ 0 ∷ 1 ∷ 64 ∷ 0 ∷ 1 ∷ 65 ∷ 0 ∷ []) (Err (21, 7))
    ∷ case 3 (1 ∷ 12 ∷ 0 ∷ 1 ∷ 64 ∷ 0 ∷ 1 ∷ 2 ∷ 2 ∷ 0 ∷ 1 ∷ 64 ∷ 2 ∷ 1 ∷ 65 ∷ 0 ∷ []) (Err (21, 7))
    ∷ case 3 (1 ∷ 12 ∷ 0 ∷ 1 ∷ 64 ∷ 0 ∷ 1 ∷ 5 ∷ 0 ∷ 1 ∷ 64 ∷ 0 ∷ 1 ∷ 65 ∷ 0 ∷ []) (Err (21, 7))
    ∷ case 3 (1 ∷ 12 ∷ 0 ∷ 1 ∷ 64 ∷ 0 ∷ 1 ∷ 9 ∷ 0 ∷ 1 ∷ 64 ∷ 0 ∷ 1 ∷ 65 ∷ 0 ∷ []) (Err (21, 7))
    ∷ case 3 (1 ∷ 12 ∷ 0 ∷ 1 ∷ 64 ∷ 0 ∷ 1 ∷ 16 ∷ 3 ∷ 66 ∷ 0 ∷ 1 ∷ 0 ∷ 0 ∷ 0 ∷ 1 ∷ 65 ∷ 0 ∷ []) (Err (21, 7))
    ∷ case 3 (1 ∷ 12 ∷ 0 ∷ 1 ∷ 64 ∷ 0 ∷ 1 ∷ 12 ∷ 2 ∷ 1 ∷ 2 ∷ 500 ∷ 1 ∷ 65 ∷ 0 ∷ []) (Err (21, 7))
    -- a type outside pairs: target, parameter, searched, built
    ∷ case 3 (1 ∷ 8 ∷ 3 ∷ 1 ∷ 64 ∷ 0 ∷ 1 ∷ 65 ∷ 0 ∷ []) (Err (21, 2))
    ∷ case 64 (1 ∷ 8 ∷ 63 ∷ 1 ∷ 64 ∷ 0 ∷ 1 ∷ 65 ∷ 0 ∷ []) (Ok 9)
    ∷ case 3 (2 ∷ 8 ∷ 0 ∷ 1 ∷ 64 ∷ 0 ∷ 1 ∷ 65 ∷ 0 ∷ 2 ∷ 0 ∷ 1 ∷ 3 ∷ 1 ∷ 64 ∷ 0 ∷ []) (Err (21, 12))
    ∷ case 3 (1 ∷ 12 ∷ 0 ∷ 1 ∷ 64 ∷ 0 ∷ 1 ∷ 3 ∷ 3 ∷ 0 ∷ 1 ∷ 64 ∷ 2 ∷ 1 ∷ 65 ∷ 0 ∷ []) (Err (21, 8))
    ∷ case 3 (1 ∷ 12 ∷ 0 ∷ 1 ∷ 64 ∷ 0 ∷ 1 ∷ 4 ∷ 3 ∷ 1 ∷ 2 ∷ 500 ∷ 1 ∷ 65 ∷ 0 ∷ []) (Err (21, 8))
    -- the number of a variable to take apart is any word here
    ∷ case 3 (1 ∷ 12 ∷ 0 ∷ 1 ∷ 64 ∷ 0 ∷ 1 ∷ 1 ∷ 4294967295 ∷ 1 ∷ 64 ∷ 0 ∷ 1 ∷ 65 ∷ 0 ∷ []) (Ok 15)
    -- rules 1 to 64, parameters 1 to 4, parts 1 to 8, pairs 1 to 128, a condition's too; K is in the pairs
    ∷ case 3 (0 ∷ 9 ∷ 2 ∷ 2 ∷ 1 ∷ 2 ∷ 200 ∷ 1 ∷ 2 ∷ 4200 ∷ []) (Err (21, 0))
    ∷ case 3 (65 ∷ 9 ∷ 2 ∷ 2 ∷ 1 ∷ 2 ∷ 200 ∷ 1 ∷ 2 ∷ 4200 ∷ []) (Err (21, 0))
    ∷ case 3 (64 ∷ 9 ∷ 2 ∷ 2 ∷ 1 ∷ 2 ∷ 200 ∷ 1 ∷ 2 ∷ 4200 ∷ []) (Err (20, 10))
    ∷ case 3 (2 ∷ 8 ∷ 0 ∷ 1 ∷ 64 ∷ 0 ∷ 1 ∷ 65 ∷ 0 ∷ 2 ∷ 0 ∷ 0 ∷ 1 ∷ 64 ∷ 0 ∷ []) (Err (21, 11))
    ∷ case 3 (2 ∷ 8 ∷ 0 ∷ 1 ∷ 64 ∷ 0 ∷ 1 ∷ 65 ∷ 0 ∷ 2 ∷ 0 ∷ 4 ∷ 0 ∷ 1 ∷ 2 ∷ 0 ∷ 1 ∷ 64 ∷ 0 ∷ []) (Ok 19)
    ∷ case 3 (2 ∷ 8 ∷ 0 ∷ 1 ∷ 64 ∷ 0 ∷ 1 ∷ 65 ∷ 0 ∷ 2 ∷ 0 ∷ 5 ∷ 0 ∷ 1 ∷ 2 ∷ 0 ∷ 1 ∷ 1 ∷ 64 ∷ 0 ∷ []) (Err (21, 11))
    ∷ case 3 (1 ∷ 12 ∷ 0 ∷ 1 ∷ 64 ∷ 0 ∷ 0 ∷ 1 ∷ 65 ∷ 0 ∷ []) (Err (21, 6))
    ∷ case 3 (1 ∷ 12 ∷ 0 ∷ 1 ∷ 64 ∷ 0 ∷ 9 ∷ 1 ∷ 0 ∷ 1 ∷ 64 ∷ 0 ∷ 1 ∷ 0 ∷ 1 ∷ 64 ∷ 0 ∷ 1 ∷ 0 ∷ 1 ∷ 64 ∷ 0 ∷ 1 ∷ 0 ∷ 1 ∷ 64 ∷ 0 ∷ 1 ∷ 0 ∷ 1 ∷ 64 ∷ 0 ∷ 1 ∷ 0 ∷ 1 ∷ 64 ∷ 0 ∷ 1 ∷ 0 ∷ 1 ∷ 64 ∷ 0 ∷ 1 ∷ 0 ∷ 1 ∷ 64 ∷ 0 ∷ 1 ∷ 0 ∷ 1 ∷ 64 ∷ 0 ∷ 1 ∷ 65 ∷ 0 ∷ []) (Err (21, 6))
    ∷ case 3 (1 ∷ 12 ∷ 0 ∷ 1 ∷ 64 ∷ 0 ∷ 8 ∷ 1 ∷ 0 ∷ 1 ∷ 64 ∷ 0 ∷ 1 ∷ 0 ∷ 1 ∷ 64 ∷ 0 ∷ 1 ∷ 0 ∷ 1 ∷ 64 ∷ 0 ∷ 1 ∷ 0 ∷ 1 ∷ 64 ∷ 0 ∷ 1 ∷ 0 ∷ 1 ∷ 64 ∷ 0 ∷ 1 ∷ 0 ∷ 1 ∷ 64 ∷ 0 ∷ 1 ∷ 0 ∷ 1 ∷ 64 ∷ 0 ∷ 1 ∷ 0 ∷ 1 ∷ 64 ∷ 0 ∷ 1 ∷ 65 ∷ 0 ∷ []) (Ok 50)
    ∷ case 3 (1 ∷ 9 ∷ 2 ∷ 2 ∷ 0 ∷ 1 ∷ 2 ∷ 4200 ∷ []) (Err (21, 4))
    ∷ case 3 (1 ∷ 9 ∷ 2 ∷ 2 ∷ 129 ∷ 2 ∷ 200 ∷ 1 ∷ 2 ∷ 4200 ∷ []) (Err (21, 4))
    ∷ case 3 (1 ∷ 9 ∷ 2 ∷ 2 ∷ 128 ∷ 2 ∷ 200 ∷ 1 ∷ 2 ∷ 4200 ∷ []) (Err (20, 10))
    ∷ case 3 (1 ∷ 12 ∷ 0 ∷ 1 ∷ 64 ∷ 0 ∷ 1 ∷ 8 ∷ 0 ∷ 1 ∷ 65 ∷ 0 ∷ []) (Err (21, 8))
    ∷ case 3 (1 ∷ 12 ∷ 0 ∷ 1 ∷ 64 ∷ 0 ∷ 1 ∷ 8 ∷ 3 ∷ 66 ∷ 0 ∷ 5 ∷ 0 ∷ 0 ∷ 0 ∷ 1 ∷ 65 ∷ 0 ∷ []) (Ok 18)
    -- pairs are passed over, a fault in them left to typing; where they run out, 20 at the length
    ∷ case 3 (1 ∷ 9 ∷ 2 ∷ 2 ∷ 1 ∷ 99 ∷ 99 ∷ 1 ∷ 2 ∷ 4200 ∷ []) (Ok 10)
    ∷ case 3 (1 ∷ 9 ∷ 2 ∷ 2 ∷ 1 ∷ 99 ∷ 99 ∷ 0 ∷ []) (Err (21, 7))
    ∷ case 3 (1 ∷ 9 ∷ 2 ∷ 2 ∷ 1 ∷ 2 ∷ []) (Err (20, 6))
    ∷ case 3 (1 ∷ 9 ∷ 2 ∷ 2 ∷ 1 ∷ []) (Err (20, 5))
    -- reach is 1, 2 or 3
    ∷ case 3 (1 ∷ 9 ∷ 2 ∷ 0 ∷ 1 ∷ 2 ∷ 200 ∷ 1 ∷ 2 ∷ 4200 ∷ []) (Err (21, 3))
    ∷ case 3 (1 ∷ 9 ∷ 2 ∷ 1 ∷ 1 ∷ 2 ∷ 200 ∷ 1 ∷ 2 ∷ 4200 ∷ []) (Ok 10)
    ∷ case 3 (1 ∷ 9 ∷ 2 ∷ 3 ∷ 1 ∷ 2 ∷ 200 ∷ 1 ∷ 2 ∷ 4200 ∷ []) (Ok 10)
    ∷ case 3 (1 ∷ 9 ∷ 2 ∷ 4 ∷ 1 ∷ 2 ∷ 200 ∷ 1 ∷ 2 ∷ 4200 ∷ []) (Err (21, 3))
    ∷ []

given : List Case → List (Result ℕ (ℕ × ℕ))
given [] = []
given (case types ws c ∷ cs) = c ∷ given cs

found : List Case → List (Result ℕ (ℕ × ℕ))
found [] = []
found (case types ws c ∷ cs) = answer (read_layout types ws) ∷ found cs

-- WHAT A BOOK DECODES TO

-- the main rule: a number that is greater than 1.00 is looked for and 1.00 added; then a condition with a parameter, tried on its scope's root alone; then a
-- replacement whose chain has K 0, and a condition with a pair behind its chain; then a one-pass rule
decoded : Rules
decoded =
    record {
      target = 2;
      strategy = first_match;
      parameters = [];
      pattern = new 2 ∷ [];
      parts = construct 2 (write 2 100 ∷ []) ∷ condition false 0 (record { applied = operation greater; arguments = 1 ∷ [] } ∷ []) ∷ [];
      replacement = some (chain 0 (record { applied = operation add; arguments = 1 ∷ [] } ∷ []) ∷ []);
    }
    ∷ record {
      target = 0;
      strategy = root_only;
      parameters = 2 ∷ [];
      pattern = node 0 0 ∷ same 0 ∷ [];
      parts = deconstruct 0 (node 2 200 ∷ []) ∷ search 2 0 (new 2 ∷ []) ∷ [];
      replacement = none;
    }
    ∷ record {
      target = 1;
      strategy = exhaustive;
      parameters = [];
      pattern = new 1 ∷ [];
      parts = condition true 0 (record { applied = nothing; arguments = [] } ∷ []) ∷ [];
      replacement = some (chain 0 (record { applied = nothing; arguments = [] } ∷ []) ∷ []);
    }
    ∷ record { target = 2; strategy = one_pass; parameters = []; pattern = new 2 ∷ []; parts = []; replacement = some (copy 0 ∷ []) }
    ∷ []

book : Words
book = 4 ∷ 13 ∷ 2 ∷ 1 ∷ 1 ∷ 64 ∷ 2 ∷ 2 ∷ 4 ∷ 2 ∷ 1 ∷ 2 ∷ 100 ∷ 8 ∷ 4 ∷ 66 ∷ 0 ∷ 1 ∷ 0 ∷ 1009 ∷ 1 ∷ 65 ∷ 1 ∷ 4 ∷ 66 ∷ 0 ∷ 1 ∷ 0 ∷ 1000 ∷ 1 ∷ 65 ∷ 1 ∷ 6 ∷ 0 ∷ 1 ∷ 2 ∷ 2 ∷ 0 ∷ 0 ∷ 65 ∷ 0 ∷ 2 ∷ 1 ∷ 0 ∷ 1 ∷ 2 ∷ 200 ∷ 3 ∷ 2 ∷ 0 ∷ 1 ∷ 64 ∷ 2 ∷ 13 ∷ 1 ∷ 2 ∷ 1 ∷ 64 ∷ 1 ∷ 1 ∷ 24 ∷ 4 ∷ 66 ∷ 0 ∷ 1 ∷ 0 ∷ 1 ∷ 0 ∷ 65 ∷ 0 ∷ 2 ∷ 66 ∷ 0 ∷ 0 ∷ 0 ∷ 9 ∷ 2 ∷ 3 ∷ 1 ∷ 64 ∷ 2 ∷ 1 ∷ 65 ∷ 0 ∷ []

right : (found table ≡ given table) × (read_layout 3 book ≡ value decoded 84)
unfolding word word_in many end operations applied shapes arguments applications pairs_in arguments_written applications_written chain_written unreadable chain_of condition_of pieces_after pieces strategy_of stretch field pairs variable_at deconstruct_fields condition_fields part_of reach replacement main_fits main_bits type_field search_fields construct_fields part_at part parameters head_fields head parts read_rule layout read_layout table given found decoded book
right = (refl, refl)

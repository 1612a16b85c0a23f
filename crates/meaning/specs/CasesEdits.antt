-- The operations on sequences, run: each by itself, the bounds of select, a sequence of itself, what extract takes and passes, and 42 to 44 in their order.
-- Assumes nothing.
use Rattle.std.specs.Prelude.{◌≡◌, refl, List, [], ◌∷◌, ◌++◌, map, true, ℕ}
use Rattle.words.specs.Reader.{Words}
use Rattle.grammar.specs.Grammar.{Grammar, repeat, list, token, sequence, forms}
use Rattle.grammar.specs.Kinds.{kind_of, allows, allowed, children_of, children, is_sequence_kind, is_sequence, is_number_kind, is_number}
use Rattle.tree.specs.Tree.{size, levels_of, levels, nesting_from, nesting, are_trees, is_tree, first, after, type_of}
use Rattle.tree.specs.Sequences.{element_of, spine, sequence_of, elements_in, elements, taken_from}
use Rattle.rules.specs.Rules.{Edit, join, select, head, tail, count, extract}
use Rattle.meaning.specs.declared.State.{State}
use Rattle.meaning.specs.Operations.{value_of, with_value, is_number_token}
use Rattle.meaning.specs.Computation.{initial, Result, ok, stop, stuck, then_of, stop_unless, surely, check, present, nodes_within, nesting_within, live_within}
use Rattle.meaning.specs.Edits.{position, selected, joined, with_one, with_two, edited, is_sequence_tree, each, edit_fits, edit}

-- 0 a form of 1; 1 a sequence of 2; 2 a number; 3 a sequence of itself; 4 a form of 1 and 2; 5 a list of 1
g : Grammar
g = forms ((1 ∷ []) ∷ []) ∷ sequence repeat 2 ∷ token 2 ∷ sequence repeat 3 ∷ forms ((1 ∷ 2 ∷ []) ∷ []) ∷ sequence list 1 ∷ []

-- the numbers 1 to 3
three : Words
three = 1 ∷ 0 ∷ 2 ∷ 100 ∷ 1 ∷ 0 ∷ 2 ∷ 200 ∷ 1 ∷ 0 ∷ 2 ∷ 300 ∷ 1 ∷ 1 ∷ []

empty : Words
empty = 1 ∷ 1 ∷ []

number : ℕ → Words
number n = 2 ∷ n ∷ []

-- the state, which no step changes
left : State
left = initial 7

run : Edit × Words × List Words → Result Words
run p = edit true g p.0 p.2 p.1 0 0 left

inputs : List (Edit × Words × List Words)
inputs =
    -- join: a sequence, an element, the empty sequence, to the empty one
    (join, three, empty ∷ [])
    ∷ (join, empty, three ∷ [])
    ∷ (join, empty, number 5 ∷ [])
    ∷ (join, 1 ∷ 0 ∷ 2 ∷ 4 ∷ 1 ∷ 1 ∷ [], (1 ∷ 0 ∷ 2 ∷ 5 ∷ 1 ∷ 1 ∷ []) ∷ [])
    -- a sequence of itself is "read as the repeat"
    ∷ (join, 3 ∷ 1 ∷ [], (3 ∷ 0 ∷ 3 ∷ 1 ∷ 3 ∷ 1 ∷ []) ∷ [])
    -- an element that is a sequence of another type
    ∷ (join, 5 ∷ 1 ∷ [], empty ∷ [])
    -- select: 1.99 to 2.99; 0 to 1; 2 to 9; 3 to 2; 4 to 9
    ∷ (select, three, number 199 ∷ number 299 ∷ [])
    ∷ (select, three, number 0 ∷ number 100 ∷ [])
    ∷ (select, three, number 200 ∷ number 900 ∷ [])
    ∷ (select, three, number 300 ∷ number 200 ∷ [])
    ∷ (select, three, number 400 ∷ number 900 ∷ [])
    -- head 0.99, 2, 9; tail 0, 1.99, 3, 4
    ∷ (head, three, number 99 ∷ [])
    ∷ (head, three, number 200 ∷ [])
    ∷ (head, three, number 900 ∷ [])
    ∷ (tail, three, number 0 ∷ [])
    ∷ (tail, three, number 199 ∷ [])
    ∷ (tail, three, number 300 ∷ [])
    ∷ (tail, three, number 400 ∷ [])
    -- length: the scope's value is lost
    ∷ (count, number 5, three ∷ [])
    ∷ (count, number 5, empty ∷ [])
    -- extract: from a form, from an element itself, from what has none
    ∷ (extract, 1 ∷ 0 ∷ 2 ∷ 4 ∷ 1 ∷ 1 ∷ [], (4 ∷ 0 ∷ 1 ∷ 0 ∷ 2 ∷ 5 ∷ 1 ∷ 1 ∷ 2 ∷ 6 ∷ []) ∷ [])
    ∷ (extract, empty, number 5 ∷ [])
    ∷ (extract, empty, (3 ∷ 1 ∷ []) ∷ [])
    -- a tree taken is not entered: neither the rests of a sequence nor what it holds; a sequence of itself is one tree of its element's type
    ∷ (extract, 5 ∷ 1 ∷ [], three ∷ [])
    ∷ (extract, 3 ∷ 1 ∷ [], (3 ∷ 0 ∷ 3 ∷ 1 ∷ 3 ∷ 1 ∷ []) ∷ [])
    -- what does not fit
    ∷ (join, three, (3 ∷ 1 ∷ []) ∷ [])
    ∷ (head, number 5, number 5 ∷ [])
    ∷ (select, three, number 5 ∷ [])
    ∷ []

outputs : List (Result Words)
outputs =
    ok three left
    ∷ ok three left
    ∷ ok (1 ∷ 0 ∷ 2 ∷ 5 ∷ 1 ∷ 1 ∷ []) left
    ∷ ok (1 ∷ 0 ∷ 2 ∷ 4 ∷ 1 ∷ 0 ∷ 2 ∷ 5 ∷ 1 ∷ 1 ∷ []) left
    ∷ ok (3 ∷ 0 ∷ 3 ∷ 1 ∷ 3 ∷ 1 ∷ []) left
    ∷ ok (5 ∷ 0 ∷ 1 ∷ 1 ∷ 5 ∷ 1 ∷ []) left
    ∷ ok (1 ∷ 0 ∷ 2 ∷ 100 ∷ 1 ∷ 0 ∷ 2 ∷ 200 ∷ 1 ∷ 1 ∷ []) left
    ∷ ok (1 ∷ 0 ∷ 2 ∷ 100 ∷ 1 ∷ 1 ∷ []) left
    ∷ ok (1 ∷ 0 ∷ 2 ∷ 200 ∷ 1 ∷ 0 ∷ 2 ∷ 300 ∷ 1 ∷ 1 ∷ []) left
    ∷ ok empty left
    ∷ ok empty left
    ∷ ok empty left
    ∷ ok (1 ∷ 0 ∷ 2 ∷ 100 ∷ 1 ∷ 0 ∷ 2 ∷ 200 ∷ 1 ∷ 1 ∷ []) left
    ∷ ok three left
    ∷ ok three left
    ∷ ok three left
    ∷ ok (1 ∷ 0 ∷ 2 ∷ 300 ∷ 1 ∷ 1 ∷ []) left
    ∷ ok empty left
    ∷ ok (number 300) left
    ∷ ok (number 0) left
    ∷ ok (1 ∷ 0 ∷ 2 ∷ 4 ∷ 1 ∷ 0 ∷ 2 ∷ 5 ∷ 1 ∷ 0 ∷ 2 ∷ 6 ∷ 1 ∷ 1 ∷ []) left
    ∷ ok (1 ∷ 0 ∷ 2 ∷ 5 ∷ 1 ∷ 1 ∷ []) left
    ∷ ok empty left
    ∷ ok (5 ∷ 0 ∷ (three ++ 5 ∷ 1 ∷ [])) left
    ∷ ok (3 ∷ 0 ∷ 3 ∷ 0 ∷ 3 ∷ 1 ∷ 3 ∷ 1 ∷ 3 ∷ 1 ∷ []) left
    ∷ stuck
    ∷ stuck
    ∷ stuck
    ∷ []

right : map run inputs ≡ outputs
unfolding kind_of allows allowed children_of children is_sequence_kind is_sequence is_number_kind is_number size levels_of levels nesting_from nesting are_trees is_tree first after type_of element_of spine sequence_of elements_in elements taken_from value_of with_value is_number_token then_of stop_unless surely check present nodes_within nesting_within live_within position selected joined with_one with_two edited is_sequence_tree each edit_fits edit g three empty number left run inputs outputs
right = refl

-- head 0, one node, with so many nodes live besides and under way: 44, and 42 before it; "42 over all that its replacement has so far"
run_beside : ℕ × ℕ → Result Words
run_beside p = edit true g head (number 0 ∷ []) three p.0 p.1 left

right_beside : map run_beside ((6143, 2047) ∷ (6144, 2047) ∷ (6143, 2048) ∷ (6144, 2048) ∷ []) ≡ ok empty left ∷ stop 44 left ∷ stop 42 left ∷ stop 42 left ∷ []
unfolding kind_of allows allowed children_of children is_sequence_kind is_sequence is_number_kind is_number size levels_of levels nesting_from nesting are_trees is_tree first after type_of element_of spine sequence_of elements_in elements taken_from value_of with_value is_number_token then_of stop_unless surely check present nodes_within nesting_within live_within position selected joined with_one with_two edited is_sequence_tree each edit_fits edit g three empty number left run_beside
right_beside = refl

-- The conversion, run: a slip of each edition under a renumbered grammar, each refusal's number and position, and which of two comes first. Assumes nothing.
use Rattle.std.specs.Prelude.{◌≡◌, refl, List, [], ◌∷◌, ◌++◌, map, Bool, true, false, ℕ, zero, suc, replicate}
use Rattle.words.specs.Reader.{Words, word, word_in, many, end}
use Rattle.words.specs.Views.{equal_words}
use Rattle.grammar.specs.Grammar.{types_of, field, element, form, kind, grammar, all_known, any_form_known, finishes, round, rounds, finite, finite_records, read_grammar, grammar_fits}
use Rattle.grammar.specs.Kinds.{kind_of, allows, allowed, children_of, children, forms_of}
use Rattle.tree.specs.Tree.{size, levels_of, levels, first}
use Rattle.tree.specs.Dues.{pairs, whole}
use Rattle.tree.specs.Reading.{dues_of, meets_node, read_tree_of}
use Rattle.tree.specs.Slip.{uncounted, counted, place_in, in_slip, right_counts, read_slip, read_edition}
use Rattle.convert.specs.Table.{named, entry, entries, whole_table, entry_of, type_to, form_to, bit_of, class_of, element_of, alike, fitting, forms_fit, type_fits, types_fit, read_table}
use Rattle.convert.specs.declared.refusal.AtFault.TheVariants.{Neither, Old, New}
use Rattle.convert.specs.Conversion.{value_to, converted, Conversion, refused_by, converted_to, or_refused, conversion_between, conversion}

-- A: a root of two forms, a repeat of numbers or a name; the repeat; numbers; names
old : Words
old = 4 ∷ 8 ∷ 2 ∷ 1 ∷ 1 ∷ 1 ∷ 3 ∷ 4 ∷ 2 ∷ 1 ∷ 2 ∷ 1 ∷ 1 ∷ []

-- B: the forms in the other order, a literal before one of them, the types behind the root renumbered, and a string more
new : Words
new = 5 ∷ 8 ∷ 2 ∷ 2 ∷ 65536 ∷ 1 ∷ 1 ∷ 3 ∷ 1 ∷ 1 ∷ 1 ∷ 2 ∷ 4 ∷ 2 ∷ 1 ∷ 3 ∷ []

-- root to root, its forms to 1 and 0; repeat to 3, number to 2, name to 1
right : Words
right = 0 ∷ 1 ∷ 0 ∷ 3 ∷ 2 ∷ 1 ∷ []

-- a slip of A: the repeat with one number
slip : Words
slip = 0 ∷ 0 ∷ 1 ∷ 0 ∷ 2 ∷ 500 ∷ 1 ∷ 1 ∷ []

-- .. with its counts
slip_counted : Words
slip_counted = 0 ∷ 0 ∷ 4 ∷ 1 ∷ 0 ∷ 3 ∷ 2 ∷ 500 ∷ 1 ∷ 1 ∷ 1 ∷ 1 ∷ []

-- what it becomes
posted : Words
posted = 0 ∷ 1 ∷ 4 ∷ 3 ∷ 0 ∷ 3 ∷ 2 ∷ 500 ∷ 1 ∷ 3 ∷ 1 ∷ 1 ∷ []

-- a program of a repeat of numbers, and the same with a list
repeated : Words
repeated = 3 ∷ 8 ∷ 1 ∷ 1 ∷ 1 ∷ 4 ∷ 2 ∷ 1 ∷ 2 ∷ []

listed : Words
listed = 3 ∷ 8 ∷ 1 ∷ 1 ∷ 1 ∷ 16 ∷ 2 ∷ 1 ∷ 2 ∷ []

-- an opt of itself, and a slip of it with n more nodes, each nested deeper
own : Words
own = 1 ∷ 2 ∷ 0 ∷ []

chain : ℕ → Words
chain zero = 0 ∷ 1 ∷ []
chain (suc n) = 0 ∷ 0 ∷ chain n

-- an edition, a result's length, both grammars, a table and a slip
run : Bool × ℕ × Words × Words × Words × Words → Conversion
run p = conversion p.0 p.1 p.2 p.3 p.4 p.5

inputs : List (Bool × ℕ × Words × Words × Words × Words)
inputs =
    -- both editions
    (false, 6144, old, new, right, slip)
    ∷ (true, 6144, old, new, right, slip_counted)
    -- a name, by the other form
    ∷ (false, 6144, old, new, right, 0 ∷ 1 ∷ 3 ∷ 9 ∷ [])
    -- 1 before all others
    ∷ (true, 6143, [], [], [], [])
    -- the grammars: A's, then B's, before the table
    ∷ (true, 6144, [], [], [], [])
    ∷ (true, 6144, 1 ∷ 5 ∷ [], [], [], [])
    ∷ (true, 6144, old, 1 ∷ 5 ∷ [], [], [])
    -- 60: short at the length, long at the first word left over
    ∷ (true, 6144, old, new, [], [])
    ∷ (true, 6144, old, new, 0 ∷ 1 ∷ [], [])
    ∷ (true, 6144, old, new, right ++ (0 ∷ []), [])
    -- .. a type that B has not; a form that its type has not; a form of a type without forms
    ∷ (true, 6144, old, new, 0 ∷ 1 ∷ 0 ∷ 5 ∷ 2 ∷ 1 ∷ [], [])
    ∷ (true, 6144, old, new, 0 ∷ 1 ∷ 2 ∷ 3 ∷ 2 ∷ 1 ∷ [], [])
    ∷ (true, 6144, old, new, 1 ∷ 0 ∷ 0 ∷ 3 ∷ 2 ∷ 1 ∷ [], [])
    -- 60 before 61, though it stands behind
    ∷ (true, 6144, old, new, 0 ∷ 0 ∷ 0 ∷ 3 ∷ 2 ∷ [], [])
    ∷ (true, 6144, old, new, 0 ∷ 0 ∷ 0 ∷ 3 ∷ 2 ∷ 1 ∷ 0 ∷ [], [])
    -- 61: a form with other types, the first and the second
    ∷ (true, 6144, old, new, 0 ∷ 0 ∷ 0 ∷ 3 ∷ 2 ∷ 1 ∷ [], [])
    ∷ (true, 6144, old, new, 0 ∷ 1 ∷ 1 ∷ 3 ∷ 2 ∷ 1 ∷ [], [])
    -- .. at the form and at the repeat whose types map to others, before these
    ∷ (true, 6144, old, new, 0 ∷ 1 ∷ 0 ∷ 3 ∷ 2 ∷ 4 ∷ [], [])
    ∷ (true, 6144, old, new, 0 ∷ 1 ∷ 0 ∷ 3 ∷ 1 ∷ 1 ∷ [], [])
    -- .. another class, another kind
    ∷ (true, 6144, 2 ∷ 8 ∷ 1 ∷ 0 ∷ 1 ∷ 1 ∷ [], 2 ∷ 8 ∷ 1 ∷ 0 ∷ 1 ∷ 3 ∷ [], 0 ∷ 0 ∷ 1 ∷ [], [])
    ∷ (true, 6144, 2 ∷ 8 ∷ 1 ∷ 0 ∷ 2 ∷ 0 ∷ [], 2 ∷ 8 ∷ 1 ∷ 0 ∷ 4 ∷ 0 ∷ [], 0 ∷ 0 ∷ 1 ∷ [], [])
    -- .. type 0 to another than type 0, which else would fit
    ∷ (true, 6144, 1 ∷ 8 ∷ 1 ∷ 0 ∷ [], 2 ∷ 8 ∷ 1 ∷ 0 ∷ 8 ∷ 1 ∷ 0 ∷ [], 1 ∷ 0 ∷ [], [])
    -- the slip's, last: 30 and 34, and no 34 in the two-word edition
    ∷ (true, 6144, old, new, right, slip)
    ∷ (true, 6144, old, new, right, 0 ∷ 1 ∷ 3 ∷ 3 ∷ 9 ∷ 1 ∷ [])
    ∷ (false, 6144, old, new, right, 0 ∷ 1 ∷ 3 ∷ [])
    -- a list to a list; two types to one; two forms to one, whose literal is dropped
    ∷ (false, 6144, listed, listed, 0 ∷ 0 ∷ 1 ∷ 2 ∷ [], 0 ∷ 0 ∷ 1 ∷ 0 ∷ 2 ∷ 200 ∷ 1 ∷ 1 ∷ [])
    ∷ (true, 6144, 3 ∷ 8 ∷ 1 ∷ 2 ∷ 1 ∷ 2 ∷ 1 ∷ 2 ∷ 1 ∷ 2 ∷ [], 2 ∷ 8 ∷ 1 ∷ 2 ∷ 1 ∷ 1 ∷ 1 ∷ 2 ∷ [], 0 ∷ 0 ∷ 1 ∷ 1 ∷ [], 0 ∷ 0 ∷ 3 ∷ 1 ∷ 100 ∷ 1 ∷ 2 ∷ 200 ∷ 1 ∷ [])
    ∷ (false, 6144, 2 ∷ 8 ∷ 2 ∷ 1 ∷ 1 ∷ 2 ∷ 65536 ∷ 1 ∷ 1 ∷ 2 ∷ [], 2 ∷ 8 ∷ 1 ∷ 1 ∷ 1 ∷ 1 ∷ 2 ∷ [], 0 ∷ 0 ∷ 0 ∷ 1 ∷ [], 0 ∷ 1 ∷ 1 ∷ 5 ∷ [])
    -- 4, of A before B's, and before A's words
    ∷ (true, 6144, replicate 4097 5, replicate 4097 5, [], [])
    ∷ (true, 6144, 1 ∷ 5 ∷ [], replicate 4097 5, [], [])
    -- 12 of A before 10 of B; 12 of B before 60
    ∷ (true, 6144, 1 ∷ 8 ∷ 1 ∷ 1 ∷ 0 ∷ [], [], [], [])
    ∷ (true, 6144, old, 1 ∷ 8 ∷ 1 ∷ 1 ∷ 0 ∷ [], [], [])
    -- 60: a wrong word of a short table comes first; so does a form of a type that would be 61
    ∷ (true, 6144, old, new, 0 ∷ 5 ∷ [], [])
    ∷ (true, 6144, old, new, 0 ∷ 1 ∷ 0 ∷ 0 ∷ 5 ∷ [], [])
    -- 61: a repeat to a list, a list to a repeat
    ∷ (true, 6144, repeated, listed, 0 ∷ 0 ∷ 1 ∷ 2 ∷ [], [])
    ∷ (true, 6144, listed, repeated, 0 ∷ 0 ∷ 1 ∷ 2 ∷ [], [])
    -- .. a type without forms to one that has some, though no slip of A holds it
    ∷ (true, 6144, 2 ∷ 8 ∷ 1 ∷ 0 ∷ 1 ∷ 2 ∷ [], 1 ∷ 8 ∷ 1 ∷ 0 ∷ [], 0 ∷ 0 ∷ 0 ∷ [], [])
    -- .. a form with its types in another order, and one with a type more
    ∷ (true, 6144, 3 ∷ 8 ∷ 1 ∷ 2 ∷ 1 ∷ 2 ∷ 1 ∷ 1 ∷ 1 ∷ 2 ∷ [], 3 ∷ 8 ∷ 1 ∷ 2 ∷ 2 ∷ 1 ∷ 1 ∷ 1 ∷ 1 ∷ 2 ∷ [], 0 ∷ 0 ∷ 1 ∷ 2 ∷ [], [])
    ∷ (true, 6144, 2 ∷ 8 ∷ 1 ∷ 1 ∷ 1 ∷ 1 ∷ 1 ∷ [], 2 ∷ 8 ∷ 1 ∷ 2 ∷ 1 ∷ 1 ∷ 1 ∷ 1 ∷ [], 0 ∷ 0 ∷ 1 ∷ [], [])
    -- the slip's refusals at their own words: ends early, left over, another type, another form, nested too deep
    ∷ (false, 6144, old, new, right, 0 ∷ 0 ∷ [])
    ∷ (true, 6144, old, new, right, 0 ∷ 0 ∷ 1 ∷ [])
    ∷ (false, 6144, old, new, right, 0 ∷ 1 ∷ 3 ∷ 9 ∷ 0 ∷ 0 ∷ [])
    ∷ (true, 6144, old, new, right, 0 ∷ 1 ∷ 2 ∷ 3 ∷ 9 ∷ 1 ∷ 0 ∷ 0 ∷ 1 ∷ [])
    ∷ (false, 6144, old, new, right, 0 ∷ 1 ∷ 2 ∷ 9 ∷ [])
    ∷ (true, 6144, old, new, right, 0 ∷ 1 ∷ 2 ∷ 2 ∷ 9 ∷ 1 ∷ [])
    ∷ (false, 6144, old, new, right, 0 ∷ 2 ∷ 3 ∷ 9 ∷ [])
    ∷ (false, 6144, own, own, 0 ∷ [], chain 64)
    ∷ []

outputs : List Conversion
outputs =
    converted_to posted
    ∷ converted_to posted
    ∷ converted_to (0 ∷ 0 ∷ 2 ∷ 1 ∷ 9 ∷ 1 ∷ [])
    ∷ refused_by Neither 1 0
    ∷ refused_by Old 10 0
    ∷ refused_by Old 11 1
    ∷ refused_by New 11 1
    ∷ refused_by Neither 60 0
    ∷ refused_by Neither 60 2
    ∷ refused_by Neither 60 6
    ∷ refused_by Neither 60 3
    ∷ refused_by Neither 60 2
    ∷ refused_by Neither 60 1
    ∷ refused_by Neither 60 5
    ∷ refused_by Neither 60 6
    ∷ refused_by Neither 61 1
    ∷ refused_by Neither 61 2
    ∷ refused_by Neither 61 2
    ∷ refused_by Neither 61 3
    ∷ refused_by Neither 61 2
    ∷ refused_by Neither 61 2
    ∷ refused_by Neither 61 0
    ∷ refused_by Neither 30 0
    ∷ refused_by Neither 34 2
    ∷ refused_by Neither 30 0
    ∷ converted_to (0 ∷ 0 ∷ 4 ∷ 1 ∷ 0 ∷ 3 ∷ 2 ∷ 200 ∷ 1 ∷ 1 ∷ 1 ∷ 1 ∷ [])
    ∷ converted_to (0 ∷ 0 ∷ 3 ∷ 1 ∷ 100 ∷ 1 ∷ 1 ∷ 200 ∷ 1 ∷ [])
    ∷ converted_to (0 ∷ 0 ∷ 2 ∷ 1 ∷ 5 ∷ 1 ∷ [])
    ∷ refused_by Old 4 0
    ∷ refused_by New 4 0
    ∷ refused_by Old 12 1
    ∷ refused_by New 12 1
    ∷ refused_by Neither 60 1
    ∷ refused_by Neither 60 4
    ∷ refused_by Neither 61 2
    ∷ refused_by Neither 61 2
    ∷ refused_by Neither 61 2
    ∷ refused_by Neither 61 1
    ∷ refused_by Neither 61 1
    ∷ refused_by Neither 31 2
    ∷ refused_by Neither 31 3
    ∷ refused_by Neither 31 4
    ∷ refused_by Neither 31 6
    ∷ refused_by Neither 32 2
    ∷ refused_by Neither 32 3
    ∷ refused_by Neither 32 1
    ∷ refused_by Neither 33 128
    ∷ []

as_the_papers_say : map run inputs ≡ outputs
unfolding word word_in many end equal_words types_of field element form kind grammar all_known any_form_known finishes round rounds finite finite_records read_grammar grammar_fits kind_of allows allowed children_of children forms_of size levels_of levels first pairs whole dues_of meets_node read_tree_of uncounted counted place_in in_slip right_counts read_slip read_edition named entry entries whole_table entry_of type_to form_to bit_of class_of element_of alike fitting forms_fit type_fits types_fit read_table value_to converted or_refused conversion_between conversion old new right slip slip_counted posted repeated listed own chain run inputs outputs
as_the_papers_say = refl

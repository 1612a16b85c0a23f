-- Books whose chains are written as the paper says, and books whose chains are not: the typing over the words, and the test of the decoded rules, give the
-- same answer. A decoder that read K, the arguments' first words, the second word of (K, 0) and the pairs behind a condition's chain as they come would
-- make well-typed rules of each that is refused here. One table, one proof. Assumes nothing.
use Rattle.std.specs.Prelude.{◌≡◌, refl, List, [], ◌∷◌, Bool, true, false}
use Rattle.words.specs.Reader.{Words, Read, value, refused, accepted}
use Rattle.grammar.specs.Grammar.{Grammar, repeat, token, sequence, forms}
use Rattle.rules.specs.Rules.{Rules}
use Rattle.rules.specs.Layout.{read_layout}
use Rattle.judgement.specs.Typing.{rules_typed}
use Rattle.judgement.specs.Tested.{well_typed}
use Rattle.words.specs.Reader as Reader
use Rattle.grammar.specs.Kinds as Kinds
use Rattle.tree.specs.Tree as Tree
use Rattle.tree.specs.Sequences as Sequences
use Rattle.tree.specs.Dues as Dues
use Rattle.tree.specs.Reading as Reading
use Rattle.rules.specs.Rules as Rules
use Rattle.rules.specs.Layout as Layout
use Rattle.judgement.specs.Wanted as Wanted
use Rattle.judgement.specs.Typing as Typing
use Rattle.judgement.specs.WellTyped as WellTyped
use Rattle.judgement.specs.Tested as Tested

-- program of repeat number
numbers : Grammar
numbers = forms ((1 ∷ []) ∷ []) ∷ sequence repeat 2 ∷ token 2 ∷ []

-- what the typing says of the words, and the test of the rules that they stand for
data Answers : Type 0 where
  both : Bool → Bool → Answers
  -- the layout is not right
  unlaid : Answers

abbrev answers_of : Words → Read Rules → Answers
answers_of ws (value rules next) = both (accepted (rules_typed numbers rules ws)) (well_typed numbers rules)
answers_of ws (refused n p) = unlaid

data Case : Type 0 where
  case : Words → Answers → Case

table : List Case
table =
    -- a number, rounded
    case (1 ∷ 9 ∷ 2 ∷ 2 ∷ 1 ∷ 64 ∷ 2 ∷ 3 ∷ 66 ∷ 0 ∷ 1 ∷ 0 ∷ 1004 ∷ 0 ∷ []) (both true true)
    -- a chain of no application
    ∷ case (1 ∷ 9 ∷ 2 ∷ 2 ∷ 1 ∷ 64 ∷ 2 ∷ 2 ∷ 66 ∷ 0 ∷ 0 ∷ 0 ∷ []) (both false false)
    -- (K, 0) with 7 for 0
    ∷ case (1 ∷ 9 ∷ 2 ∷ 2 ∷ 1 ∷ 64 ∷ 2 ∷ 3 ∷ 66 ∷ 0 ∷ 1 ∷ 7 ∷ 1004 ∷ 0 ∷ []) (both false false)
    -- add: its argument; written with 64 for 65; missing
    ∷ case (1 ∷ 9 ∷ 2 ∷ 2 ∷ 1 ∷ 64 ∷ 2 ∷ 4 ∷ 66 ∷ 0 ∷ 1 ∷ 0 ∷ 1000 ∷ 1 ∷ 65 ∷ 0 ∷ []) (both true true)
    ∷ case (1 ∷ 9 ∷ 2 ∷ 2 ∷ 1 ∷ 64 ∷ 2 ∷ 4 ∷ 66 ∷ 0 ∷ 1 ∷ 0 ∷ 1000 ∷ 1 ∷ 64 ∷ 0 ∷ []) (both false false)
    ∷ case (1 ∷ 9 ∷ 2 ∷ 2 ∷ 1 ∷ 64 ∷ 2 ∷ 3 ∷ 66 ∷ 0 ∷ 1 ∷ 0 ∷ 1000 ∷ 1 ∷ []) (both false false)
    -- four applications; five
    ∷ case (1 ∷ 9 ∷ 2 ∷ 2 ∷ 1 ∷ 64 ∷ 2 ∷ 6 ∷ 66 ∷ 0 ∷ 4 ∷ 0 ∷ 1004 ∷ 0 ∷ 1005 ∷ 0 ∷ 1004 ∷ 0 ∷ 1005 ∷ 0 ∷ []) (both true true)
    ∷ case (1 ∷ 9 ∷ 2 ∷ 2 ∷ 1 ∷ 64 ∷ 2 ∷ 7 ∷ 66 ∷ 0 ∷ 5 ∷ 0 ∷ 1004 ∷ 0 ∷ 1005 ∷ 0 ∷ 1004 ∷ 0 ∷ 1005 ∷ 0 ∷ 1004 ∷ 0 ∷ []) (both false false)
    -- a condition, equal to itself; with a pair more; with 65 for 66
    ∷ case (1 ∷ 13 ∷ 2 ∷ 2 ∷ 1 ∷ 64 ∷ 2 ∷ 1 ∷ 8 ∷ 4 ∷ 66 ∷ 0 ∷ 1 ∷ 0 ∷ 1008 ∷ 1 ∷ 65 ∷ 0 ∷ 1 ∷ 65 ∷ 0 ∷ []) (both true true)
    ∷ case (1 ∷ 13 ∷ 2 ∷ 2 ∷ 1 ∷ 64 ∷ 2 ∷ 1 ∷ 8 ∷ 5 ∷ 66 ∷ 0 ∷ 1 ∷ 0 ∷ 1008 ∷ 1 ∷ 65 ∷ 0 ∷ 65 ∷ 0 ∷ 1 ∷ 65 ∷ 0 ∷ []) (both false false)
    ∷ case (1 ∷ 13 ∷ 2 ∷ 2 ∷ 1 ∷ 64 ∷ 2 ∷ 1 ∷ 8 ∷ 4 ∷ 65 ∷ 0 ∷ 1 ∷ 0 ∷ 1008 ∷ 1 ∷ 65 ∷ 0 ∷ 1 ∷ 65 ∷ 0 ∷ []) (both false false)
    ∷ []

given : List Case → List Answers
given [] = []
given (case ws a ∷ cs) = a ∷ given cs

found : List Case → List Answers
found [] = []
found (case ws a ∷ cs) = answers_of ws (read_layout 3 ws) ∷ found cs

right : found table ≡ given table
unfolding Reader.word Reader.word_in Reader.many Reader.end Kinds.kind_of Kinds.allows Kinds.allowed Kinds.children_of Kinds.children Kinds.is_sequence_kind Kinds.is_sequence Kinds.is_number_kind Kinds.is_number Tree.levels_of Tree.levels Sequences.element_of Dues.pairs Dues.whole Reading.dues_of Rules.operations Rules.applied Rules.shapes Rules.arguments Rules.applications Rules.pairs_in Rules.arguments_written Rules.applications_written Rules.chain_written Rules.unreadable Rules.chain_of Rules.condition_of Rules.pieces_after Rules.pieces Layout.strategy_of Layout.stretch Layout.field Layout.pairs Layout.variable_at Layout.deconstruct_fields Layout.condition_fields Layout.part_of Layout.reach Layout.replacement Layout.main_fits Layout.main_bits Layout.type_field Layout.search_fields Layout.construct_fields Layout.part_at Layout.part Layout.parameters Layout.head_fields Layout.head Layout.parts Layout.rule Layout.layout Layout.read_layout Wanted.wants Wanted.scope_fits Wanted.wanted_in Typing.may_stand Typing.is_some Typing.applies_rule Typing.applies_operation Typing.fits_scope Typing.operates_on Typing.usable Typing.wanted_by_edit Typing.wanted_by_operation Typing.wanted_by Typing.new_variable Typing.variable Typing.chain Typing.node Typing.meets Typing.typed Typing.variable_there Typing.part_typed Typing.parts_typed Typing.rule_typed Typing.main_target Typing.rules_typed WellTyped.pattern_nesting WellTyped.piece_nesting Tested.on_some Tested.some_is Tested.has_type Tested.arguments_of Tested.pattern_of Tested.operates_of Tested.is_replacing Tested.usable_of Tested.fits_of Tested.applies_of Tested.all_apply_of Tested.pieces_of Tested.one_pattern Tested.one_replacement Tested.part_of Tested.parts_of Tested.replacement_of Tested.rule_of Tested.rules_of Tested.is_nil Tested.main_of Tested.well_typed numbers table given found
right = refl

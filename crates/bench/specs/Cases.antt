-- The paper's example, as T-07 writes it, and four variants, from the bytes of standard input to the bytes of standard output: one table, one proof. Assumes nothing.
use Rattle.std.specs.Prelude.{◌≡◌, refl, List, [], ◌∷◌, map}
use Rattle.words.specs.Reader as Reader
use Rattle.words.specs.Views as Views
use Rattle.grammar.specs.Grammar as Grammar
use Rattle.grammar.specs.Kinds as Kinds
use Rattle.tree.specs.Tree as Tree
use Rattle.tree.specs.Blanks as Blanks
use Rattle.tree.specs.Sequences as Sequences
use Rattle.tree.specs.Dues as Dues
use Rattle.tree.specs.Reading as Reading
use Rattle.tree.specs.Slip as Slip
use Rattle.rules.specs.Rules as Rules
use Rattle.rules.specs.Layout as Layout
use Rattle.judgement.specs.Wanted as Wanted
use Rattle.judgement.specs.Typing as Typing
use Rattle.meaning.specs.Computation as Computation
use Rattle.meaning.specs.Rounding as Rounding
use Rattle.meaning.specs.Operations as Operations
use Rattle.meaning.specs.Edits as Edits
use Rattle.meaning.specs.Meaning as Meaning
use Rattle.meaning.specs.Outcome as Outcome
use Rattle.decimal.specs.Numbers as Numbers
use Rattle.decimal.specs.Numbers.{Bytes}
use Rattle.decimal.specs.Input as Input
use Rattle.decimal.specs.Printed as Printed
use Rattle.bench.specs.Bench.{answer_to, bench}

texts : List Bytes
texts =
    -- "3 9 3 8 1 1 1 4 2 1 2 10 1 9 2 2 1 2 200 1 2 4200 18 0 0 6 1 0 5 2 200 1 1 0 3 2 500 1 1 1 1"
    (51 ∷ 32 ∷ 57 ∷ 32 ∷ 51 ∷ 32 ∷ 56 ∷ 32 ∷ 49 ∷ 32 ∷ 49 ∷ 32 ∷ 49 ∷ 32 ∷ 52 ∷ 32 ∷ 50 ∷ 32 ∷ 49 ∷ 32 ∷ 50 ∷ 32 ∷ 49 ∷ 48 ∷ 32 ∷ 49 ∷ 32 ∷ 57 ∷ 32 ∷ 50 ∷ 32 ∷ 50 ∷ 32 ∷ 49 ∷ 32 ∷ 50 ∷ 32 ∷ 50 ∷ 48 ∷ 48 ∷ 32 ∷ 49 ∷ 32 ∷ 50 ∷ 32 ∷ 52 ∷ 50 ∷ 48 ∷ 48 ∷ 32 ∷ 49 ∷ 56 ∷ 32 ∷ 48 ∷ 32 ∷ 48 ∷ 32 ∷ 54 ∷ 32 ∷ 49 ∷ 32 ∷ 48 ∷ 32 ∷ 53 ∷ 32 ∷ 50 ∷ 32 ∷ 50 ∷ 48 ∷ 48 ∷ 32 ∷ 49 ∷ 32 ∷ 49 ∷ 32 ∷ 48 ∷ 32 ∷ 51 ∷ 32 ∷ 50 ∷ 32 ∷ 53 ∷ 48 ∷ 48 ∷ 32 ∷ 49 ∷ 32 ∷ 49 ∷ 32 ∷ 49 ∷ 32 ∷ 49 ∷ [])
    -- "2 9 3 8 1 1 1 4 2 1 2 10 1 9 2 2 1 2 200 1 2 4200 18 0 0 6 1 0 5 2 200 1 1 0 3 2 500 1 1 1 1"
    ∷ (50 ∷ 32 ∷ 57 ∷ 32 ∷ 51 ∷ 32 ∷ 56 ∷ 32 ∷ 49 ∷ 32 ∷ 49 ∷ 32 ∷ 49 ∷ 32 ∷ 52 ∷ 32 ∷ 50 ∷ 32 ∷ 49 ∷ 32 ∷ 50 ∷ 32 ∷ 49 ∷ 48 ∷ 32 ∷ 49 ∷ 32 ∷ 57 ∷ 32 ∷ 50 ∷ 32 ∷ 50 ∷ 32 ∷ 49 ∷ 32 ∷ 50 ∷ 32 ∷ 50 ∷ 48 ∷ 48 ∷ 32 ∷ 49 ∷ 32 ∷ 50 ∷ 32 ∷ 52 ∷ 50 ∷ 48 ∷ 48 ∷ 32 ∷ 49 ∷ 56 ∷ 32 ∷ 48 ∷ 32 ∷ 48 ∷ 32 ∷ 54 ∷ 32 ∷ 49 ∷ 32 ∷ 48 ∷ 32 ∷ 53 ∷ 32 ∷ 50 ∷ 32 ∷ 50 ∷ 48 ∷ 48 ∷ 32 ∷ 49 ∷ 32 ∷ 49 ∷ 32 ∷ 48 ∷ 32 ∷ 51 ∷ 32 ∷ 50 ∷ 32 ∷ 53 ∷ 48 ∷ 48 ∷ 32 ∷ 49 ∷ 32 ∷ 49 ∷ 32 ∷ 49 ∷ 32 ∷ 49 ∷ [])
    -- "3 9 3 8 1 1 1 4 2 1 2 10 1 9 2 2 1 2 200 1 1 1 18 0 0 6 1 0 5 2 200 1 1 0 3 2 500 1 1 1 1"
    ∷ (51 ∷ 32 ∷ 57 ∷ 32 ∷ 51 ∷ 32 ∷ 56 ∷ 32 ∷ 49 ∷ 32 ∷ 49 ∷ 32 ∷ 49 ∷ 32 ∷ 52 ∷ 32 ∷ 50 ∷ 32 ∷ 49 ∷ 32 ∷ 50 ∷ 32 ∷ 49 ∷ 48 ∷ 32 ∷ 49 ∷ 32 ∷ 57 ∷ 32 ∷ 50 ∷ 32 ∷ 50 ∷ 32 ∷ 49 ∷ 32 ∷ 50 ∷ 32 ∷ 50 ∷ 48 ∷ 48 ∷ 32 ∷ 49 ∷ 32 ∷ 49 ∷ 32 ∷ 49 ∷ 32 ∷ 49 ∷ 56 ∷ 32 ∷ 48 ∷ 32 ∷ 48 ∷ 32 ∷ 54 ∷ 32 ∷ 49 ∷ 32 ∷ 48 ∷ 32 ∷ 53 ∷ 32 ∷ 50 ∷ 32 ∷ 50 ∷ 48 ∷ 48 ∷ 32 ∷ 49 ∷ 32 ∷ 49 ∷ 32 ∷ 48 ∷ 32 ∷ 51 ∷ 32 ∷ 50 ∷ 32 ∷ 53 ∷ 48 ∷ 48 ∷ 32 ∷ 49 ∷ 32 ∷ 49 ∷ 32 ∷ 49 ∷ 32 ∷ 49 ∷ [])
    -- "3 9 3 8 1 1 1 4 2 1 2 10 1 9 2 2 1 2 200 1 2 4200 18 0 0 6 1 0 5 2 200 1 1 0 3 2 500 1 1 1 1 1"
    ∷ (51 ∷ 32 ∷ 57 ∷ 32 ∷ 51 ∷ 32 ∷ 56 ∷ 32 ∷ 49 ∷ 32 ∷ 49 ∷ 32 ∷ 49 ∷ 32 ∷ 52 ∷ 32 ∷ 50 ∷ 32 ∷ 49 ∷ 32 ∷ 50 ∷ 32 ∷ 49 ∷ 48 ∷ 32 ∷ 49 ∷ 32 ∷ 57 ∷ 32 ∷ 50 ∷ 32 ∷ 50 ∷ 32 ∷ 49 ∷ 32 ∷ 50 ∷ 32 ∷ 50 ∷ 48 ∷ 48 ∷ 32 ∷ 49 ∷ 32 ∷ 50 ∷ 32 ∷ 52 ∷ 50 ∷ 48 ∷ 48 ∷ 32 ∷ 49 ∷ 56 ∷ 32 ∷ 48 ∷ 32 ∷ 48 ∷ 32 ∷ 54 ∷ 32 ∷ 49 ∷ 32 ∷ 48 ∷ 32 ∷ 53 ∷ 32 ∷ 50 ∷ 32 ∷ 50 ∷ 48 ∷ 48 ∷ 32 ∷ 49 ∷ 32 ∷ 49 ∷ 32 ∷ 48 ∷ 32 ∷ 51 ∷ 32 ∷ 50 ∷ 32 ∷ 53 ∷ 48 ∷ 48 ∷ 32 ∷ 49 ∷ 32 ∷ 49 ∷ 32 ∷ 49 ∷ 32 ∷ 49 ∷ 32 ∷ 49 ∷ [])
    -- "3 9 3 8 1 1 1 4 2 1 2 10 1 9 2 2 1 2 200 1 2 4200 18 0 0 5 1 0 5 2 200 1 1 0 3 2 500 1 1 1 1"
    ∷ (51 ∷ 32 ∷ 57 ∷ 32 ∷ 51 ∷ 32 ∷ 56 ∷ 32 ∷ 49 ∷ 32 ∷ 49 ∷ 32 ∷ 49 ∷ 32 ∷ 52 ∷ 32 ∷ 50 ∷ 32 ∷ 49 ∷ 32 ∷ 50 ∷ 32 ∷ 49 ∷ 48 ∷ 32 ∷ 49 ∷ 32 ∷ 57 ∷ 32 ∷ 50 ∷ 32 ∷ 50 ∷ 32 ∷ 49 ∷ 32 ∷ 50 ∷ 32 ∷ 50 ∷ 48 ∷ 48 ∷ 32 ∷ 49 ∷ 32 ∷ 50 ∷ 32 ∷ 52 ∷ 50 ∷ 48 ∷ 48 ∷ 32 ∷ 49 ∷ 56 ∷ 32 ∷ 48 ∷ 32 ∷ 48 ∷ 32 ∷ 53 ∷ 32 ∷ 49 ∷ 32 ∷ 48 ∷ 32 ∷ 53 ∷ 32 ∷ 50 ∷ 32 ∷ 50 ∷ 48 ∷ 48 ∷ 32 ∷ 49 ∷ 32 ∷ 49 ∷ 32 ∷ 48 ∷ 32 ∷ 51 ∷ 32 ∷ 50 ∷ 32 ∷ 53 ∷ 48 ∷ 48 ∷ 32 ∷ 49 ∷ 32 ∷ 49 ∷ 32 ∷ 49 ∷ 32 ∷ 49 ∷ [])
    ∷ []

answers : List Bytes
answers =
    -- "done 3 1 18\n0 0 6 1 0 5 2 4200 1 1 0 3 2 500 1 1 1 1\n"
    (100 ∷ 111 ∷ 110 ∷ 101 ∷ 32 ∷ 51 ∷ 32 ∷ 49 ∷ 32 ∷ 49 ∷ 56 ∷ 10 ∷ 48 ∷ 32 ∷ 48 ∷ 32 ∷ 54 ∷ 32 ∷ 49 ∷ 32 ∷ 48 ∷ 32 ∷ 53 ∷ 32 ∷ 50 ∷ 32 ∷ 52 ∷ 50 ∷ 48 ∷ 48 ∷ 32 ∷ 49 ∷ 32 ∷ 49 ∷ 32 ∷ 48 ∷ 32 ∷ 51 ∷ 32 ∷ 50 ∷ 32 ∷ 53 ∷ 48 ∷ 48 ∷ 32 ∷ 49 ∷ 32 ∷ 49 ∷ 32 ∷ 49 ∷ 32 ∷ 49 ∷ 10 ∷ [])
    -- "stopped 40 2 1 18\n0 0 6 1 0 5 2 4200 1 1 0 3 2 500 1 1 1 1\n"
    ∷ (115 ∷ 116 ∷ 111 ∷ 112 ∷ 112 ∷ 101 ∷ 100 ∷ 32 ∷ 52 ∷ 48 ∷ 32 ∷ 50 ∷ 32 ∷ 49 ∷ 32 ∷ 49 ∷ 56 ∷ 10 ∷ 48 ∷ 32 ∷ 48 ∷ 32 ∷ 54 ∷ 32 ∷ 49 ∷ 32 ∷ 48 ∷ 32 ∷ 53 ∷ 32 ∷ 50 ∷ 32 ∷ 52 ∷ 50 ∷ 48 ∷ 48 ∷ 32 ∷ 49 ∷ 32 ∷ 49 ∷ 32 ∷ 48 ∷ 32 ∷ 51 ∷ 32 ∷ 50 ∷ 32 ∷ 53 ∷ 48 ∷ 48 ∷ 32 ∷ 49 ∷ 32 ∷ 49 ∷ 32 ∷ 49 ∷ 32 ∷ 49 ∷ 10 ∷ [])
    -- "refused 23 8\n"
    ∷ (114 ∷ 101 ∷ 102 ∷ 117 ∷ 115 ∷ 101 ∷ 100 ∷ 32 ∷ 50 ∷ 51 ∷ 32 ∷ 56 ∷ 10 ∷ [])
    -- "unread\n"
    ∷ (117 ∷ 110 ∷ 114 ∷ 101 ∷ 97 ∷ 100 ∷ 10 ∷ [])
    -- "refused 34 2\n"
    ∷ (114 ∷ 101 ∷ 102 ∷ 117 ∷ 115 ∷ 101 ∷ 100 ∷ 32 ∷ 51 ∷ 52 ∷ 32 ∷ 50 ∷ 10 ∷ [])
    ∷ []

right : map bench texts ≡ answers
unfolding Reader.word Reader.word_in Reader.many Reader.end Views.equal_words Grammar.types_of Grammar.field Grammar.element Grammar.form Grammar.kind Grammar.grammar Grammar.all_known Grammar.any_form_known Grammar.finishes Grammar.round Grammar.rounds Grammar.finite Grammar.finite_records Grammar.read_grammar Grammar.grammar_fits Kinds.kind_of Kinds.allows Kinds.allowed Kinds.children_of Kinds.children Kinds.is_sequence_kind Kinds.is_sequence Kinds.is_number_kind Kinds.is_number Kinds.is_text_kind Kinds.is_text Tree.size Tree.levels_of Tree.levels Tree.nesting_from Tree.nesting Tree.are_trees Tree.is_tree Tree.first Tree.after Tree.type_of Tree.put Blanks.is_blank Blanks.holds_blank Sequences.element_of Sequences.spine Sequences.sequence_of Sequences.elements_in Sequences.elements Sequences.taken_from Dues.pairs Dues.whole Reading.dues_of Reading.meets_node Reading.read_tree_of Slip.uncounted Slip.counted Slip.place_in Slip.in_slip Slip.right_counts Slip.read_slip Rules.operations Rules.applied Rules.shapes Rules.arguments Rules.applications Rules.pairs_in Rules.arguments_written Rules.applications_written Rules.chain_written Rules.unreadable Rules.chain_of Rules.condition_of Rules.pieces_after Rules.pieces Layout.strategy_of Layout.stretch Layout.field Layout.pairs Layout.variable_at Layout.deconstruct_fields Layout.condition_fields Layout.part_of Layout.reach Layout.replacement Layout.main_fits Layout.main_bits Layout.type_field Layout.search_fields Layout.construct_fields Layout.part_at Layout.part Layout.parameters Layout.head_fields Layout.head Layout.parts Layout.rule Layout.layout Layout.read_layout Layout.rules_fit Wanted.wants Typing.may_stand Typing.is_some Typing.applies_rule Typing.applies_operation Typing.fits_scope Typing.operates_on Typing.usable Typing.wanted_by_edit Typing.wanted_by_operation Typing.wanted_by Typing.new_variable Typing.variable Typing.chain Typing.node Typing.meets Typing.typed Typing.variable_there Typing.part_typed Typing.parts_typed Typing.rule_typed Typing.main_target Typing.rules_typed Typing.read_rules Computation.then_of Computation.spend_of Computation.spend Computation.stop_unless Computation.surely Computation.check Computation.present Computation.choose Computation.whether Computation.nodes_within Computation.nesting_within Computation.live_within Rounding.half_even Operations.rounded Operations.truncated Operations.in_range Operations.divisor Operations.with_one Operations.with_none Operations.compute Operations.compare Operations.value_of Operations.values_of Operations.with_value Operations.is_number_token Operations.are_number_tokens Edits.position Edits.selected Edits.joined Edits.with_one Edits.with_two Edits.edited Edits.is_sequence_tree Edits.each Edits.edit_fits Edits.edit Meaning.total Meaning.variable Meaning.variables Meaning.same_tree Meaning.bind Meaning.match Meaning.match_first Meaning.are_trees_of Meaning.fits Meaning.begin Meaning.result_as Meaning.result_of Meaning.opened Meaning.after_round Meaning.apply Meaning.apply_chain Meaning.fill Meaning.finish Meaning.succeeds Meaning.any_succeeds Meaning.part Meaning.parts Meaning.attempt Meaning.seek Meaning.replace Meaning.turn Meaning.rounds Meaning.call_with Meaning.call Meaning.call_matches Meaning.calls Meaning.run_from Meaning.run Outcome.call_fits Outcome.decode Outcome.ended_as Outcome.outcome_of Outcome.outcome Numbers.grown Numbers.outside Numbers.added Numbers.byte_at Numbers.bytes Numbers.last_at Numbers.numbers Input.counted Input.whole Input.input Input.input_at Input.input_from Printed.digits Printed.all_spaced Printed.line Printed.counts Printed.printed answer_to bench texts answers
right = refl

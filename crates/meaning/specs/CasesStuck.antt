-- Rules that are not well typed, each stuck at a test of the strict run: one table, one proof. Where a plain run looks too it is stuck as well; otherwise it goes
-- on. So none of the tests of `begin`, `apply`, `succeeds` and `finish` is idle. Those of `bind` and `replace` cannot fail alone: what is bound or replaced is a
-- part of a scope or an argument, which `begin` has tested, or of what was finished, and what takes its place was finished. Assumes nothing.
use Rattle.std.specs.Prelude.{ℕ, ◌≡◌, refl, List, [], ◌∷◌, true, false, replicate}
use Rattle.std.proofs.Math.Option.{Option, none, some}
use Rattle.words.specs.Reader.{Words}
use Rattle.grammar.specs.Grammar.{Grammar, repeat, token, sequence, forms}
use Rattle.rules.specs.Rules.{add, round, equal, rule, operation, nothing, new, same, Application, Piece, write, copy, chain, Part, deconstruct, construct, condition, root_only, first_match, Rule, Rules}
use Rattle.meaning.specs.Meaning.{Ending, done, stopped, cannot_go_on, run}
use Rattle.words.specs.Views as Views
use Rattle.grammar.specs.Kinds as Kinds
use Rattle.tree.specs.Tree as Tree
use Rattle.tree.specs.Blanks as Blanks
use Rattle.tree.specs.Sequences as Sequences
use Rattle.meaning.specs.Computation as Computation
use Rattle.meaning.specs.Rounding as Rounding
use Rattle.meaning.specs.Operations as Operations
use Rattle.meaning.specs.Edits as Edits
use Rattle.meaning.specs.Meaning as Meaning

-- program of repeat number; a tree with one number
numbers : Grammar
numbers = forms ((1 ∷ []) ∷ []) ∷ sequence repeat 2 ∷ token 2 ∷ []

tree : Words
tree = 0 ∷ 0 ∷ 1 ∷ 0 ∷ 2 ∷ 200 ∷ 1 ∷ 1 ∷ []

-- a main rule on the first number, which is its variable 0
main : List Part → List Piece → Rule
main ps to = record { target = 2; strategy = first_match; parameters = []; pattern = new 2 ∷ []; parts = ps; replacement = some to }

-- a root-only rule on numbers or on sequences, with parameters
other : ℕ → List ℕ → Option (List Piece) → Rule
other t params to = record { target = t; strategy = root_only; parameters = params; pattern = new t ∷ []; parts = []; replacement = to }

-- the variable 0, with one application
apply : Application → List Piece
apply a = chain 0 (a ∷ []) ∷ []

-- rules, and how the strict and the plain run end
data Case : Type 0 where
  case : Rules → Ending → Ending → Case

table : List Case
table =
    -- all in order
    case (main [] (apply (record { applied = rule 1; arguments = 0 ∷ [] })) ∷ other 2 (2 ∷ []) (some (copy 1 ∷ [])) ∷ []) done done
    -- a variable that is not bound: in a replacement, in a pattern, taken apart, as an argument
    ∷ case (main [] (copy 1 ∷ []) ∷ []) cannot_go_on cannot_go_on
    ∷ case (main (deconstruct 0 (same 1 ∷ []) ∷ []) (copy 0 ∷ []) ∷ []) cannot_go_on cannot_go_on
    ∷ case (main (deconstruct 1 (new 2 ∷ []) ∷ []) (copy 0 ∷ []) ∷ []) cannot_go_on cannot_go_on
    ∷ case (main [] (apply (record { applied = operation add; arguments = 1 ∷ [] })) ∷ []) cannot_go_on cannot_go_on
    -- a 17th variable
    ∷ case (main (replicate 15 (construct 2 (write 2 5 ∷ []))) (copy 15 ∷ []) ∷ []) done done
    ∷ case (main (replicate 16 (construct 2 (write 2 5 ∷ []))) (copy 15 ∷ []) ∷ []) cannot_go_on cannot_go_on
    -- a rule that is not there, one without a replacement in a replacement, and neither rule nor operation
    ∷ case (main [] (apply (record { applied = rule 1; arguments = [] })) ∷ []) cannot_go_on cannot_go_on
    ∷ case (main [] (apply (record { applied = rule 1; arguments = [] })) ∷ other 2 [] none ∷ []) cannot_go_on cannot_go_on
    ∷ case (main [] (apply (record { applied = nothing; arguments = [] })) ∷ []) cannot_go_on cannot_go_on
    ∷ case (main (condition false 0 (record { applied = nothing; arguments = [] } ∷ []) ∷ []) (copy 0 ∷ []) ∷ []) cannot_go_on cannot_go_on
    -- arguments: too many, and of another type
    ∷ case (main [] (apply (record { applied = rule 1; arguments = 0 ∷ [] })) ∷ other 2 [] (some (copy 0 ∷ [])) ∷ []) cannot_go_on cannot_go_on
    ∷ case (main [] (apply (record { applied = rule 1; arguments = 0 ∷ [] })) ∷ other 2 (1 ∷ []) (some (copy 1 ∷ [])) ∷ []) cannot_go_on done
    -- a root-only rule on another type than its target
    ∷ case (main [] (apply (record { applied = rule 1; arguments = [] })) ∷ other 1 [] (some (copy 0 ∷ [])) ∷ []) cannot_go_on done
    ∷ case (main (condition true 0 (record { applied = rule 1; arguments = [] } ∷ []) ∷ []) (copy 0 ∷ []) ∷ other 1 [] none ∷ []) cannot_go_on done
    -- an operation: not usable here, with too few arguments, on a scope that is no number, with an argument that is none
    ∷ case (main [] (apply (record { applied = operation equal; arguments = 0 ∷ [] })) ∷ []) cannot_go_on cannot_go_on
    ∷ case (main (condition false 0 (record { applied = operation round; arguments = [] } ∷ []) ∷ []) (copy 0 ∷ []) ∷ []) cannot_go_on cannot_go_on
    ∷ case (main [] (apply (record { applied = operation add; arguments = [] })) ∷ []) cannot_go_on cannot_go_on
    ∷ case (main (construct 1 (write 1 1 ∷ []) ∷ construct 1 (chain 1 (record { applied = operation round; arguments = [] } ∷ []) ∷ []) ∷ []) (copy 0 ∷ []) ∷ []) cannot_go_on done
    ∷ case (main (construct 1 (write 1 1 ∷ []) ∷ []) (apply (record { applied = operation add; arguments = 1 ∷ [] })) ∷ []) cannot_go_on done
    -- .. the last two in a condition
    ∷ case (main (construct 1 (write 1 1 ∷ []) ∷ condition true 1 (record { applied = operation equal; arguments = 0 ∷ [] } ∷ []) ∷ []) (copy 0 ∷ []) ∷ []) cannot_go_on done
    ∷ case (main (construct 1 (write 1 1 ∷ []) ∷ condition true 0 (record { applied = operation equal; arguments = 1 ∷ [] } ∷ []) ∷ []) (copy 0 ∷ []) ∷ []) cannot_go_on done
    -- a variable of another type than its tree's
    ∷ case (main (construct 1 (write 2 5 ∷ []) ∷ []) (copy 0 ∷ []) ∷ []) cannot_go_on done
    -- a replacement of another type than the target, and one that is no tree
    ∷ case (main [] (write 1 1 ∷ []) ∷ []) cannot_go_on done
    ∷ case (main [] (write 2 5 ∷ write 2 5 ∷ []) ∷ []) cannot_go_on done
    -- .. and nests too deep: what is finished is tested before its nesting
    ∷ case (main [] (replicate 65 (write 0 0)) ∷ []) cannot_go_on (stopped 43)
    ∷ []

given : List Case → List Ending
given [] = []
given (case r s p ∷ more) = s ∷ p ∷ given more

found : List Case → List Ending
found [] = []
found (case r s p ∷ more) = (run true numbers r tree 9).ending ∷ (run false numbers r tree 9).ending ∷ found more

right : found table ≡ given table
unfolding Views.equal_words Kinds.kind_of Kinds.allows Kinds.allowed Kinds.children_of Kinds.children Kinds.is_sequence_kind Kinds.is_sequence Kinds.is_number_kind Kinds.is_number Kinds.is_text_kind Kinds.is_text Tree.size Tree.levels_of Tree.levels Tree.nesting_from Tree.nesting Tree.are_trees Tree.is_tree Tree.first Tree.after Tree.type_of Tree.put Blanks.is_blank Blanks.holds_blank Sequences.element_of Sequences.spine Sequences.sequence_of Sequences.elements_in Sequences.elements Sequences.taken_from Computation.then_of Computation.spend_of Computation.spend Computation.stop_unless Computation.surely Computation.check Computation.present Computation.choose Computation.whether Computation.nodes_within Computation.nesting_within Computation.live_within Rounding.half_even Operations.rounded Operations.truncated Operations.in_range Operations.divisor Operations.with_one Operations.with_none Operations.compute Operations.compare Operations.value_of Operations.values_of Operations.with_value Operations.is_number_token Operations.are_number_tokens Edits.position Edits.selected Edits.joined Edits.with_one Edits.with_two Edits.edited Edits.is_sequence_tree Edits.each Edits.edit_fits Edits.edit Meaning.total Meaning.variable Meaning.variables Meaning.same_tree Meaning.bind Meaning.match Meaning.match_first Meaning.are_trees_of Meaning.fits Meaning.begin Meaning.result_as Meaning.result_of Meaning.opened Meaning.after_round Meaning.apply Meaning.apply_chain Meaning.fill Meaning.finish Meaning.succeeds Meaning.any_succeeds Meaning.part Meaning.parts Meaning.attempt Meaning.seek Meaning.replace Meaning.turn Meaning.rounds Meaning.call_with Meaning.call Meaning.call_matches Meaning.calls Meaning.run_from Meaning.run numbers tree main other apply table given found
right = refl

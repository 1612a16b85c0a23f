-- What is due, as the typing has it. Assumes nothing: these are definitions.
use Rattle.tree.specs.Reading.{tree}
use Rattle.judgement.specs.Wanted as W
use Rattle.judgement.specs.Wanted.{exactly, a_number, to_join, a_sequence, anything}
use Rattle.judgement.specs.Typing as Typing
use Rattle.judgement.specs.Typing.{a_tree, a_chain, application_count, application, argument}
use Rattle.dues.specs.declared.due.Wanted.{Wanted}
use Rattle.dues.specs.declared.due.Wanted.TheVariants.{Exactly, Number, Joined, Sequence, Anything}
use Rattle.dues.specs.declared.due.Due.{Due}
use Rattle.dues.specs.declared.due.Due.TheVariants.{Tree, Chain, Count, Application, Argument}

-- what is wanted as an argument
abbrev pub wanted_as : Wanted → W.Wanted
wanted_as (Exactly t) = exactly t
wanted_as Number = a_number
wanted_as (Joined s) = to_join s
wanted_as Sequence = a_sequence
wanted_as Anything = anything

-- what is due
abbrev pub due_as : Due → Typing.Due
due_as (Tree nesting t) = a_tree (tree nesting t)
due_as Chain = a_chain
due_as (Count s) = application_count s
due_as (Application s) = application s
due_as (Argument u) = argument (wanted_as u)

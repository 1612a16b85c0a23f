use mathlib.Core.Path.{◌∙◌, sym}
use Rattle.tables.proofs.Shown.{accepted_decoded, decoded_length}
use Rattle.tables.proofs.types.Types.fill.Goals as goal

pub fill-requires : goal.fill-requires
fill-requires c = (c.requires.0, c.requires.1.0, c.requires.1.1)

pub returns : goal.returns
returns c = record { types_of = record { heads_of = c.fill.ensures.heads_of; rows_of_lem = c.fill.ensures.rows_of_lem }; count_of = decoded_length c.args.ws.now _ (accepted_decoded c.args.ws.now c.requires.0) ∙ sym c.word-self.ensures }

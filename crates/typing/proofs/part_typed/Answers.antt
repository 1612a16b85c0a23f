use Rattle.typing.proofs.Whole.{part_accepted, part_condition}
use Rattle.typing.proofs.part_typed.Goals as goal

pub deconstruct_typed-requires : goal.deconstruct_typed-requires
deconstruct_typed-requires c = rw c.in-Deconstruct.is at (part_accepted c.args.book.now.types.now.types.count c.args.book.now.words.now c.args.at c.in_ok-found.ensures)

pub construct_typed-requires : goal.construct_typed-requires
construct_typed-requires c = rw c.in-Construct.is at (part_accepted c.args.book.now.types.now.types.count c.args.book.now.words.now c.args.at c.in_ok-found.ensures)

pub stretch_typed-requires : goal.stretch_typed-requires
stretch_typed-requires c = rw c.in-Condition.is at (part_accepted c.args.book.now.types.now.types.count c.args.book.now.words.now c.args.at c.in_ok-found.ensures)

pub returns-in-Condition : goal.returns-in-Condition
returns-in-Condition c = λ g h rules b. part_condition c.args.book.now.types.now.types.count c.args.book.now.words.now c.args.at c.in_ok-found.ensures g rules c.args.variables.now c.in-Condition.is (c.stretch_typed.ensures g h rules b)

use Rattle.tamarind.proofs.Executing.{answered_done, answered_stopped}
use Rattle.tamarind.proofs.answer_of.Goals as goal

pub returns-in-None : goal.returns-in-None
returns-in-None c = answered_done c.args.c c.args.budget c.args.filled c.in-None.is

pub returns-in-Some : goal.returns-in-Some
returns-in-Some c = answered_stopped c.args.c c.args.budget c.args.filled c.in-Some.is c.stop.ensures

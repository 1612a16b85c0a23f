-- So many forms have been passed. Assumes nothing.
use Rattle.convert.proofs.TokenClasses.{FormsWalk}
use Rattle.convert.proofs.tokens.forms_end.Given as goal

abbrev pub invariant-loop : goal.invariant-loop
invariant-loop l = FormsWalk l.ws l.k l.start l.counter l.at

-- The classes of the first t types are there. Assumes nothing.
use Rattle.convert.proofs.TokenClasses.{ClassLoop}
use Rattle.convert.proofs.tokens.classes.Given as goal

abbrev pub invariant-loop-t : goal.invariant-loop-t
invariant-loop-t l = ClassLoop l.ws l.classes l.t l.at

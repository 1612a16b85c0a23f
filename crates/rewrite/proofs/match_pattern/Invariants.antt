-- `rewrite::match_pattern` meets its contract. Assumes nothing.
use Rattle.rewrite.specs.Vars.{vars_of}
use Rattle.rewrite.proofs.Matcher.{Going}
use Prim.Native.Nat.{◌*◌}
use Rattle.rewrite.proofs.match_pattern.Given as goal

abbrev pub invariant-loop-i : goal.invariant-loop-i
invariant-loop-i l = Going l.types l.pairs l.arena l.part l.at (vars_of l.initial.places l.bound) l.held (vars_of l.places l.n) l.live (2 * l.i) l.p

-- `rewrite::arena::gather` meets its contract. Assumes nothing.
use Rattle.rewrite.specs.Vars.{vars_of}
use Rattle.rewrite.proofs.Leaves.{Gathering}
use Prim.Native.Nat.{◌-◌}
use Rattle.rewrite.proofs.arena.gather.Given as goal

abbrev pub invariant-loop-i : goal.invariant-loop-i
invariant-loop-i l = Gathering l.w l.pairs l.at l.n (vars_of l.places l.bound) (vars_of l.given l.i) l.total l.i

abbrev pub decreases-loop-i : goal.decreases-loop-i
decreases-loop-i l = l.count - l.i

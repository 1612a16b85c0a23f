-- `rewrite::match_first` meets its contract. Assumes nothing.
use Rattle.rewrite.specs.Vars.{vars_of, Sound, Kept}
use Rattle.rewrite.proofs.Finding.{Finding}
use Prim.Native.Nat.{◌*◌}
use Rattle.rewrite.proofs.match_first.Given as goal

abbrev pub invariant-loop-i : goal.invariant-loop-i
invariant-loop-i l = Finding l.types l.ty l.pairs l.arena l.part l.at (vars_of l.initial.places l.bound) l.live (2 * l.i) × Sound (vars_of l.places l.bound) × Kept (vars_of l.initial.places l.bound) (vars_of l.places l.bound)

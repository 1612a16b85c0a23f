-- `end_of_tree` meets its contract. The loop keeps that what it has passed and the trees still owed are the first tree. Assumes nothing.
use Rattle.tree.proofs.Ends.{Owed}
use lib.ListN.{length}
use Prim.Native.Nat.{◌-◌}
use Rattle.tree.proofs.end_of_tree.Given as goal

abbrev pub invariant-loop-owed : goal.invariant-loop-owed
invariant-loop-owed l = Owed l.types l.ws l.owed l.at

abbrev pub decreases-loop-owed : goal.decreases-loop-owed
decreases-loop-owed l = length l.ws - l.at

-- The counts of the nodes passed are right. Assumes nothing.
use mathlib.Core.Path.{◌≡◌}
use Rattle.slips.proofs.Counts.{CountsLeft}
use Rattle.slips.proofs.check_counts.Given as goal

abbrev pub invariant-loop-i : goal.invariant-loop-i
invariant-loop-i l = record {
  goes : (goal.iterator-loop-i).can_next l.i-iterator × (goal.iterator-loop-i).is_finite l.i-iterator;
  three : l.i-iterator.iter.a.size ≡ 3;
  two : l.i-iterator.iter.b.size ≡ 2;
  counts : CountsLeft l.slip l.part l.i-iterator.iter.a.rest.now l.i-iterator.iter.b.rest.now l.i-iterator.count;
}

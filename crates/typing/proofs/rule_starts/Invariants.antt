-- `typing::rule_starts`: the table with the positions of the rules left stored from i on is the whole table, and the layout of those left passes. Assumes nothing.
use Prim.Native.Nat.{◌-◌}
use lib.ListN.{replicate}
use lib.Seq.{sets}
use mathlib.Core.Bool.{true}
use mathlib.Core.Path.{◌≡◌}
use Rattle.words.specs.Reader.{many, accepted}
use Rattle.rules.specs.Layout.{rule}
use Rattle.typing.specs.Views.{positions}
use Rattle.typing.proofs.rule_starts.Given as goal

abbrev pub invariant-loop-i : goal.invariant-loop-i
invariant-loop-i l = record {
  there : accepted (many (l.n - l.i) (rule l.types l.ws) l.at) ≡ true;
  stored : sets l.starts l.i (positions l.types l.ws (l.n - l.i) l.at) ≡ sets (replicate 64 0) 0 (positions l.types l.ws l.n 1);
}

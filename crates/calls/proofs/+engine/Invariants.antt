-- The cycle of calls: the measures, the depth of calls left spread by the members' order, and what each loop keeps. Assumes nothing.
use Rattle.std.specs.Prelude.{None}
use Rattle.calls.specs.Engine.{given_of, open_of}
use Rattle.calls.proofs.Testing.{Trying}
use Rattle.rewrite.specs.Vars.{vars_of}
use Prim.Native.Nat.{◌+◌, ◌*◌, ◌-◌}
use Rattle.calls.proofs.Frames.{Still}
use mathlib.Core.Path.{◌≡◌}
use Rattle.calls.proofs.Rounds.{Calling}
use Rattle.calls.proofs.Applying.{Chaining}
use lib.ListN.{length}
use Rattle.calls.proofs.Filling.{Filling}
use Rattle.calls.proofs.Searching.{Searching, Parting}
use Rattle.calls.proofs.+engine.Given as goal

abbrev pub decreases-any_succeeds : goal.decreases-any_succeeds
decreases-any_succeeds l = l.deep * 16 + 8

abbrev pub decreases-apply : goal.decreases-apply
decreases-apply l = l.deep * 16 + 4

abbrev pub decreases-call : goal.decreases-call
decreases-call l = l.deep * 16 + 12

abbrev pub decreases-chain : goal.decreases-chain
decreases-chain l = l.deep * 16 + 5

abbrev pub decreases-condition : goal.decreases-condition
decreases-condition l = l.deep * 16 + 9

abbrev pub decreases-construct : goal.decreases-construct
decreases-construct l = l.deep * 16 + 9

abbrev pub decreases-fill : goal.decreases-fill
decreases-fill l = l.deep * 16 + 7

abbrev pub decreases-fill_chain : goal.decreases-fill_chain
decreases-fill_chain l = l.deep * 16 + 6

abbrev pub decreases-finish : goal.decreases-finish
decreases-finish l = l.deep * 16 + 8

abbrev pub decreases-matches : goal.decreases-matches
decreases-matches l = l.deep * 16 + 12

abbrev pub decreases-replace : goal.decreases-replace
decreases-replace l = l.deep * 16 + 9

abbrev pub decreases-seek : goal.decreases-seek
decreases-seek l = l.deep * 16 + 11

abbrev pub decreases-step : goal.decreases-step
decreases-step l = l.deep * 16 + 10

abbrev pub decreases-succeeds : goal.decreases-succeeds
decreases-succeeds l = l.deep * 16 + 7

abbrev pub invariant-any_succeeds-loop : goal.invariant-any_succeeds-loop
invariant-any_succeeds-loop l = Trying (given_of l.program) l.initial.w l.pairs l.start l.n (open_of l.places l.frame) l.deep l.initial.fuel l.w (l.k - l.counter) l.at l.fuel

abbrev pub invariant-call-loop-plan : goal.invariant-call-loop-plan
invariant-call-loop-plan l =
    Calling (given_of l.program) l.initial.w l.at l.base l.n (vars_of l.initial.places l.bound) l.besides l.deep l.initial.c.left l.w l.c.nodes l.c.left l.c.replacements l.from × Still l.initial.places l.places l.bound × (l.c.stop ≡ None)

abbrev pub decreases-call-loop-plan : goal.decreases-call-loop-plan
decreases-call-loop-plan l = l.c.left.attempts

abbrev pub invariant-chain-loop : goal.invariant-chain-loop
invariant-chain-loop l = Chaining (given_of l.program) l.initial.w l.pairs l.from l.base l.n (vars_of l.places l.bound) l.besides l.under l.deep l.initial.fuel l.w (l.k - l.counter) l.at l.fuel l.nodes

abbrev pub invariant-fill-loop-i : goal.invariant-fill-loop-i
invariant-fill-loop-i l = Filling (given_of l.program) l.initial.w l.pairs (open_of l.places l.frame) l.deep l.initial.fuel l.w l.fuel l.n l.i

abbrev pub decreases-fill-loop-i : goal.decreases-fill-loop-i
decreases-fill-loop-i l = length l.pairs - l.i

abbrev pub invariant-seek-loop : goal.invariant-seek-loop
invariant-seek-loop l =
    (l.i ≡ l.initial.i) × Parting (given_of l.program) l.deep l.initial.w l.initial.fuel (open_of l.initial.places l.initial.now) l.initial.at l.plan.count l.w l.fuel (open_of l.places l.now) l.at (l.plan.count - l.counter)

abbrev pub invariant-seek-nodes : goal.invariant-seek-nodes
invariant-seek-nodes l =
    Still l.initial.places l.places l.frame.bound × Searching (given_of l.program) l.initial.w l.plan l.base l.n (open_of l.initial.places l.frame) l.deep l.initial.fuel l.from l.w l.fuel l.i

abbrev pub decreases-seek-nodes : goal.decreases-seek-nodes
decreases-seek-nodes l =
    l.n - l.i

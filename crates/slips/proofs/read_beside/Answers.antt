-- `slips::read_beside` meets its contract. Assumes nothing.
use lib.ListN.{length}
use mathlib.Core.Path.{◌≡◌}
use native.Mathlib.Omega.{arith}
use Rattle.std.proofs.lemmas.Grind.{common_steps}
use Rattle.slips.proofs.Reading.{slip_empty, slip_long, slip_uneven, slip_within, slip_refused, slip_passed}
use Rattle.slips.proofs.read_beside.Goals as goal
use Rattle.slips.proofs.read_beside.Goals.{then-is_empty-via-then-is_empty, then-is_empty-via-else-is_empty+then-slip-gt-MOST_SLIP_WORDS, then-is_empty-via-else-is_empty+else-slip-gt-MOST_SLIP_WORDS+then-slip-ne0}

pub returns-then-is_empty : goal.returns-then-is_empty
returns-then-is_empty c = rw c.new.ensures (elim c.then-is_empty.branch [
  | then-is_empty-via-then-is_empty w ↦ (let none : length c.args.slip.now ≡ 0 = grind (arith, common_steps) in slip_empty c.args.types.now c.args.slip.now c.args.buffer.now none)
  | then-is_empty-via-else-is_empty+then-slip-gt-MOST_SLIP_WORDS w ↦ slip_long c.args.types.now c.args.slip.now c.args.buffer.now w.if-slip-gt-MOST_SLIP_WORDS.true
  | then-is_empty-via-else-is_empty+else-slip-gt-MOST_SLIP_WORDS+then-slip-ne0 w ↦
      (let some : length c.args.slip.now ≡ 0 → ⊥ = grind (arith, common_steps) in slip_uneven c.args.types.now c.args.slip.now c.args.buffer.now some w.if-slip-gt-MOST_SLIP_WORDS.false w.if-slip-ne0.true)
])

pub place_in-requires : goal.place_in-requires
place_in-requires c =
    let some : length c.args.slip.now ≡ 0 → ⊥ = grind (arith, common_steps) in
    rw c.position.ensures (slip_within c.args.types.now c.args.slip.now c.args.buffer.now some c.if-slip-gt-MOST_SLIP_WORDS.false c.if-slip-ne0.false c.uncount.new.buffer c.uncount.ensures _ c.read_tree.ensures c.in-Err.is)

pub returns-in-Err : goal.returns-in-Err
returns-in-Err c =
    let some : length c.args.slip.now ≡ 0 → ⊥ = grind (arith, common_steps) in
    rw c.at.ensures (slip_refused c.args.types.now c.args.slip.now c.args.buffer.now some c.if-slip-gt-MOST_SLIP_WORDS.false c.if-slip-ne0.false c.uncount.new.buffer c.uncount.ensures _ c.read_tree.ensures c.in-Err.is _ (rw c.position.ensures at c.place_in.ensures))

pub returns-in-Ok : goal.returns-in-Ok
returns-in-Ok c =
    let some : length c.args.slip.now ≡ 0 → ⊥ = grind (arith, common_steps) in
    slip_passed c.args.types.now c.args.slip.now c.args.buffer.now some c.if-slip-gt-MOST_SLIP_WORDS.false c.if-slip-ne0.false c.uncount.new.buffer c.uncount.ensures _ c.read_tree.ensures c.in-Ok.is c.mark_tree.new.w c.mark_tree.ensures _ c.check_counts.ensures

use Rattle.tables.proofs.Lookups.{no_type}
use lib.ListN.{length}
use native.Mathlib.Omega.{arith}
use mathlib.Core.Path.{◌≡◌, ◌∙◌, sym, ap}
use Prim.Native.Nat.{◌+◌, ◌*◌}
use Rattle.tables.specs.Tables.{row_at}
use Rattle.tables.proofs.types.Types.child_count.Goals as goal
use Rattle.tables.proofs.types.Types.child_count.Goals.{else-t-lt-MOST_TYPES-via-then-t-lt-MOST_TYPES+else-v-lt-MOST_FORMS, else-t-lt-MOST_TYPES-via-else-t-lt-MOST_TYPES}

pub returns-else-t-lt-MOST_TYPES : goal.returns-else-t-lt-MOST_TYPES
returns-else-t-lt-MOST_TYPES c = record {
  small = omega arith;
  count = λ g ts. elim c.else-t-lt-MOST_TYPES.branch [
    | else-t-lt-MOST_TYPES-via-then-t-lt-MOST_TYPES+else-v-lt-MOST_FORMS w ↦ ap length (sym (ts.values c.args.t c.args.v w.if-v-lt-MOST_FORMS.false))
    | else-t-lt-MOST_TYPES-via-else-t-lt-MOST_TYPES w ↦ ap length (sym (no_type g c.args.self.now.rows ts c.args.t c.args.v w.if-t-lt-MOST_TYPES.false))
  ];
}

pub returns-then-v-lt-MOST_FORMS : goal.returns-then-v-lt-MOST_FORMS
returns-then-v-lt-MOST_FORMS c = record {
  small = c.entry.ensures.1;
  count = λ g ts. let i : row_at c.args.t c.args.v + 0 ≡ (c.args.t * 16 + c.args.v) * 9 = omega arith in
      c.entry.ensures.0 ∙ rw (← i) (ts.row c.args.t c.args.v 0 c.if-t-lt-MOST_TYPES.true c.if-v-lt-MOST_FORMS.true (omega arith));
}

use Rattle.tables.proofs.Lookups.{no_type, child_out}
use lib.ListN.{get_or}
use native.Mathlib.Omega.{arith}
use mathlib.Core.Path.{sym, ap}
use Rattle.tables.proofs.types.Types.child.Goals as goal
use Rattle.tables.proofs.types.Types.child.Goals.{else-t-lt-MOST_TYPES-via-then-t-lt-MOST_TYPES+then-v-lt-MOST_FORMS+else-i, else-t-lt-MOST_TYPES-via-then-t-lt-MOST_TYPES+else-v-lt-MOST_FORMS, else-t-lt-MOST_TYPES-via-else-t-lt-MOST_TYPES}

pub returns-else-t-lt-MOST_TYPES : goal.returns-else-t-lt-MOST_TYPES
returns-else-t-lt-MOST_TYPES c = λ g ts. elim c.else-t-lt-MOST_TYPES.branch [
  | else-t-lt-MOST_TYPES-via-then-t-lt-MOST_TYPES+then-v-lt-MOST_FORMS+else-i w ↦ child_out g c.args.self.now.rows ts c.args.t c.args.v c.args.i (omega (arith, w.if-i.false))
  | else-t-lt-MOST_TYPES-via-then-t-lt-MOST_TYPES+else-v-lt-MOST_FORMS w ↦ ap (λ l. get_or l c.args.i 0) (sym (ts.values c.args.t c.args.v w.if-v-lt-MOST_FORMS.false))
  | else-t-lt-MOST_TYPES-via-else-t-lt-MOST_TYPES w ↦ ap (λ l. get_or l c.args.i 0) (sym (no_type g c.args.self.now.rows ts c.args.t c.args.v w.if-t-lt-MOST_TYPES.false))
]

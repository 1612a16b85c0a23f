-- `marks::pack` meets its contract. Assumes nothing.
use Rattle.marks.proofs.Marking.{packed}
use mathlib.Core.Path.{refl}
use Rattle.marks.proofs.pack.Goals as goal

pub returns : goal.returns
returns c = packed c.args.t c.args.n c.args.k _ refl

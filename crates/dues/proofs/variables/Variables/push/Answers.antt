use Prim.Native.Nat.{◌+◌, ◌-◌, ◌<◌}
use lib.ListN.{length, drop, replicate, length-set}
use lib.Seq.{drop-drop, length-take-le}
use mathlib.Core.Path.{◌≡◌, sym, ap, ◌∙◌}
use native.Mathlib.Omega.{arith}
use Rattle.std.proofs.lemmas.List.{drop-set-lt, drop-replicate}
use Rattle.dues.proofs.variables.Variables.push.Goals as goal

-- what is behind the one more is as clear as before
pub invariant_of-self : goal.invariant_of-self
invariant_of-self c =
    let n = c.self.inside.count in
    let l = c.self.inside.types in
    let f = c.self.invariant in
    let there : length l ≡ 16 = f.long in
    let low : n < 16 = omega (arith, c.requires, ap length c.self.view_is, length-take-le n l (omega (arith, f.few, f.long))) in
    let left : 16 - n - 1 ≡ 16 - (n + 1) = omega arith in
    record {
      few = omega arith;
      long = length-set l n c.args.d ∙ f.long;
      clear = drop-set-lt (n + 1) l n c.args.d (omega arith) ∙ sym (drop-drop 1 n l) ∙ ap (drop 1) f.clear ∙ drop-replicate 1 (16 - n) 0 ∙ ap (λ k. replicate k 0) left;
    }

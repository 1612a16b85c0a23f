use Prim.Native.Nat.{◌+◌, ◌*◌}
use mathlib.Core.Path.{◌≡◌}
use Rattle.rewrite.proofs.Matcher.{going_start, going_end, pair_failed, pair_bound, pair_on}
use native.Mathlib.Omega.{arith}
use Rattle.rewrite.proofs.match_pattern.Goals as goal
use Rattle.rewrite.proofs.match_pattern.Goals.{then-t-eq-MARK_NEW, else-t-eq-MARK_NEW}

pub loop-i-init : goal.loop-i-init
loop-i-init c = going_start _ _ _ _ _ _ _ c.requires.2 c.requires.3

pub returns-in-Err : goal.returns-in-Err
returns-in-Err c = pair_failed _ _ _ _ _ _ _ _ _ _ _ c.loop-i.invariant (omega (arith, c.loop-i-test.true)) _ c.pair_words.ensures _ c.in-Err.is

pub loop-i-preserved : goal.loop-i-preserved
loop-i-preserved c = let e : 2 * (c.loop-i.i + 1) ≡ 2 * c.loop-i.i + 2 = omega arith in elim c.if-t-eq-MARK_NEW.branch [
  | then-t-eq-MARK_NEW w ↦ rw (w.places-is, w.n-is, w.live-is, e) (pair_bound _ _ _ _ _ _ _ _ _ _ _ c.loop-i.invariant (omega (arith, c.loop-i-test.true)) _ c.pair_words.ensures _ c.in-Ok.is w.if-t-eq-MARK_NEW.true)
  | else-t-eq-MARK_NEW w ↦ rw (w.places-is, w.n-is, w.live-is, e) (pair_on _ _ _ _ _ _ _ _ _ _ _ c.loop-i.invariant (omega (arith, c.loop-i-test.true)) _ c.pair_words.ensures _ c.in-Ok.is w.if-t-eq-MARK_NEW.false)
]

pub returns : goal.returns
returns c = going_end _ _ _ _ _ _ _ _ _ _ _ c.loop-i.invariant (omega (arith, c.loop-i-test.false))

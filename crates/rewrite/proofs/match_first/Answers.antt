use mathlib.Core.Bool.{false}
use Rattle.rewrite.specs.Vars.{vars_of}
use Rattle.rewrite.specs.Matching.{match_in}
use Rattle.rewrite.proofs.Matcher.{answers_kept, kept_same, kept_more, kept_back, sound_back}
use Rattle.rewrite.proofs.Finding.{finding_start, finding_none, finding_other, finding_matches, finding_stops, finding_differs}
use Rattle.words.proofs.Stretches.{part_rest}
use native.Mathlib.Omega.{arith}
use mathlib.Core.Path.{◌≡◌, refl, sym, ◌∙◌}
use Prim.Native.Nat.{◌+◌, ◌*◌}
use mathlib.Core.Logic.{⊎_elim}
use Rattle.rewrite.proofs.match_first.Goals as goal
use Rattle.rewrite.proofs.match_first.Goals.{then-type_in-ty+in-Differs, else-type_in-ty}

pub loop-i-init : goal.loop-i-init
loop-i-init c = (finding_start _ _ _ _ _ _ _ _ c.requires.2 c.requires.3, c.requires.2, kept_same _)

pub returns-in-Matches : goal.returns-in-Matches
returns-in-Matches c = ⊎_elim
    (λ e. finding_matches _ _ _ _ _ _ _ _ _ c.loop-i.invariant.0 (omega (arith, c.loop-i-test.true)) _ refl (sym c.type_in.ensures ∙ c.if-type_in-ty.true) _ _ (part_rest (2 * c.loop-i.i) c.args.part.now) (λ strict. answers_kept _ _ refl c.loop-i.invariant.2 (c.match_pattern-m.ensures strict)) e)
    (λ e. finding_stops _ _ _ _ _ _ _ _ _ c.loop-i.invariant.0 (omega (arith, c.loop-i-test.true)) _ refl (sym c.type_in.ensures ∙ c.if-type_in-ty.true) _ _ (part_rest (2 * c.loop-i.i) c.args.part.now) (λ strict. answers_kept _ _ refl c.loop-i.invariant.2 (c.match_pattern-m.ensures strict)) e.1)
    c.in-Matches.is

pub loop-i-preserved : goal.loop-i-preserved
loop-i-preserved c = let e : 2 * (c.loop-i.i + 1) ≡ 2 * c.loop-i.i + 2 = omega arith in elim c.if-type_in-ty.branch [
  | then-type_in-ty+in-Differs w ↦ (
    rw e (finding_differs _ _ _ _ _ _ _ _ _ c.loop-i.invariant.0 (omega (arith, c.loop-i-test.true)) _ refl (sym c.type_in.ensures ∙ w.if-type_in-ty.true) _ _ (part_rest (2 * c.loop-i.i) c.args.part.now) (λ strict. answers_kept _ _ refl c.loop-i.invariant.2 (w.match_pattern-m.ensures strict)) w.in-Differs.is),
    rw w.places-is (sound_back _ (match_in w.match_pattern-m.new.places w.match_pattern-m.result).vars c.loop-i.invariant.1 (w.match_pattern-m.ensures false).sound),
    rw w.places-is (kept_more c.loop-i.invariant.2 (kept_back _ (match_in w.match_pattern-m.new.places w.match_pattern-m.result).vars (w.match_pattern-m.ensures false).kept)),
  )
  | else-type_in-ty w ↦ (rw e (finding_other _ _ _ _ _ _ _ _ _ c.loop-i.invariant.0 (omega (arith, c.loop-i-test.true)) _ refl (λ q. w.if-type_in-ty.false (c.type_in.ensures ∙ q))), rw w.places-is c.loop-i.invariant.1, rw w.places-is c.loop-i.invariant.2)
]

pub returns : goal.returns
returns c = finding_none _ _ _ _ _ _ _ _ _ c.loop-i.invariant.0 (omega (arith, c.loop-i-test.false)) (vars_of c.loop-i.places c.args.bound) c.loop-i.invariant.1 c.loop-i.invariant.2 _ refl

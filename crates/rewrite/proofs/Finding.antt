-- The search for the first node that a pattern matches. Assumes nothing.
use Prim.Native.Nat.{ℕ, ◌+◌, ◌-◌, ◌<◌, ◌≤◌}
use mathlib.Core.Path.{◌≡◌, refl, sym, ap, ◌∙◌}
use mathlib.Core.List.{List, [], ◌∷◌, ◌++◌}
use mathlib.Core.Bool.{Bool}
use mathlib.Core.Option.{Option, none, some}
use native.Mathlib.Omega.{arith}
use native.Mathlib.Nat.{add-zero}
use lib.ListN.{length, get_or, drop, length-drop}
use lib.Seq.{get_or-drop}
use borrow.Author.Tests.{eq-eqb, ne_eqb}
use Rattle.tables.specs.declared.types.Types.{Types}
use Rattle.words.specs.Reader.{Words}
use Rattle.grammar.specs.Grammar.{Grammar}
use Rattle.grammar.specs.Kinds.{children}
use Rattle.tree.proofs.Trees.{trees_even, even_none}
use Rattle.rules.specs.Rules.{Shape, shapes}
use Rattle.meaning.specs.declared.State.{State}
use Rattle.meaning.specs.Computation.{Result, ok, stop, stuck, Comp, then_of, choose, whether}
use Rattle.meaning.specs.Meaning.{Bindings, match, match_first}
use Rattle.tree.proofs.Rest.{rest_node}
use Rattle.marks.specs.Marked.{type_in}
use Rattle.marks.proofs.Marks.{marked_length}
use Rattle.rewrite.specs.declared.Verdict.{Verdict}
use Rattle.rewrite.specs.declared.Verdict.TheVariants.{Matches, Differs, Stops}
use Rattle.rewrite.specs.Vars.{Vars, Sound, Kept}
use Rattle.rewrite.specs.Matching.{Stage, bindings, Means, Match, MatchAnswers, FirstAnswers}
use Rattle.rewrite.proofs.Matcher.{Node, node_of, stage_on, moved, two_marked, due_as, node_as}

-- THE DEFINITION, one law a way

or_else : Result (Option Bindings) → Comp (Option Bindings) → Result (Option Bindings)
or_else r k = then_of r (λ m. whether m (λ c left. ok (some c) left) k)

module _ (strict : Bool) (g : Grammar) (ty : ℕ) (ps : List Shape) (b : Bindings) (left : State) where
  none_left : match_first strict g ty ps [] b left ≡ ok none left
  unfolding match_first
  none_left = refl

  module _ (t v : ℕ) (ws : Words) where
    other_type : (t ≡ ty → ⊥) → match_first strict g ty ps (t ∷ v ∷ ws) b left ≡ match_first strict g ty ps ws b left
    unfolding match_first choose then_of whether
    other_type h = rw (ne_eqb t ty h)

    this_type : t ≡ ty → match_first strict g ty ps (t ∷ v ∷ ws) b left ≡ or_else (match strict g ps (t ∷ v ∷ ws) b left) (match_first strict g ty ps ws b)
    unfolding match_first choose or_else
    this_type h = rw (eq-eqb t ty h)

or_stuck : (k : Comp (Option Bindings)) → or_else stuck k ≡ stuck
unfolding or_else then_of
or_stuck k = refl

or_none : (left : State) (k : Comp (Option Bindings)) → or_else (ok none left) k ≡ k left
unfolding or_else then_of whether
or_none left k = refl

or_some : (b : Bindings) (left : State) (k : Comp (Option Bindings)) → or_else (ok (some b) left) k ≡ ok (some b) left
unfolding or_else then_of whether
or_some b left k = refl

or_stop : (n : ℕ) (left : State) (k : Comp (Option Bindings)) → or_else (stop n left) k ≡ stop n left
unfolding or_else then_of
or_stop n left k = refl

-- THE LOOP

record Run (types : Types) (strict : Bool) (g : Grammar) (ty : ℕ) (pairs arena part : Words) (at : ℕ) (vars : Vars) (live p : ℕ) (ws : Words) (b : Bindings) (left : State) : Type 0 where
  inside : p ≤ length part
  rest : Words
  owed : List ℕ
  stage : Stage types g arena (drop p part) (at + p) vars live rest owed b
  same_run : match_first strict g ty (shapes pairs) ws b left ≡ match_first strict g ty (shapes pairs) rest b left

pub record Finding (types : Types) (ty : ℕ) (pairs arena part : Words) (at : ℕ) (vars : Vars) (live p : ℕ) : Type 0 where
  pub near : p ≤ length part
  pub sound : Sound vars
  pub fits : live ≤ 6144
  run : (strict : Bool) (g : Grammar) (ws : Words) (ts : List ℕ) (b : Bindings) (left : State) → Stage types g arena part at vars live ws ts b
      → (match_first strict g ty (shapes pairs) ws b left ≡ stuck → ⊥) → Run types strict g ty pairs arena part at vars live p ws b left

pub finding_start : (types : Types) (ty : ℕ) (pairs arena part : Words) (at : ℕ) (vars : Vars) (live : ℕ) → Sound vars → live ≤ 6144 → Finding types ty pairs arena part at vars live 0
finding_start types ty pairs arena part at vars live s l = record {
  near = omega arith;
  sound = s;
  fits = l;
  run = λ strict g ws ts b left st ns. let z : at + 0 ≡ at = omega arith in record { inside = omega arith; rest = ws; owed = ts; stage = rw z st; same_run = refl };
}

module _ (types : Types) (ty : ℕ) (pairs arena part : Words) (at : ℕ) (vars : Vars) (live p : ℕ) (go : Finding types ty pairs arena part at vars live p) where
  pub finding_none : length part - p < 2 → (now : Vars) → Sound now → Kept vars now → (r : Match) → r ≡ record { verdict = Differs; vars = now; live = live } → FirstAnswers types ty pairs arena part at vars live r
  finding_none h now sn kn r er strict = rw er (record {
    sound = sn;
    kept = kn;
    fits = go.fits;
    grows = omega arith;
    meant = λ g ws ts b left st ns.
        let q = go.run strict g ws ts b left st ns in
        let e : q.rest ≡ [] = even_none q.rest (trees_even q.stage.rest.typed) (omega (arith, ap length q.stage.marks, marked_length g q.rest, length-drop p part, q.inside)) in
        q.same_run ∙ ap (λ x. match_first strict g ty (shapes pairs) x b left) e ∙ none_left strict g ty (shapes pairs) b left;
  })

  module _ (two : 2 ≤ length part - p) (w : ℕ) (ew : w ≡ get_or part p 0) where
    here : {strict : Bool} {g : Grammar} {ws : Words} {b : Bindings} {left : State} (r : Run types strict g ty pairs arena part at vars live p ws b left) → Node g (drop p part) r.rest r.owed
    here r = node_of _ (drop p part) r.rest r.owed r.stage.tables.types r.stage.rest r.stage.marks (omega (arith, length-drop p part))

    type_is : {strict : Bool} {g : Grammar} {ws : Words} {b : Bindings} {left : State} (r : Run types strict g ty pairs arena part at vars live p ws b left) → type_in w ≡ (here r).t
    type_is r = ap type_in (ew ∙ ap (λ n. get_or part n 0) (sym (add-zero p)) ∙ sym (get_or-drop p part 0 0)) ∙ (here r).type_in_lem

    -- one node on
    on : {strict : Bool} {g : Grammar} {ws : Words} {b : Bindings} {left : State} (r : Run types strict g ty pairs arena part at vars live p ws b left)
        → match_first strict g ty (shapes pairs) ((here r).t ∷ (here r).v ∷ (here r).below) b left ≡ match_first strict g ty (shapes pairs) (here r).below b left
        → Run types strict g ty pairs arena part at vars live (p + 2) ws b left
    on {strict} {g} {ws} {b} {left} r e =
        let n = here r in
        record {
          inside = omega arith;
          rest = n.below;
          owed = children g n.t n.v ++ n.more;
          stage = moved part at p 2 (stage_on r.stage 2 (omega (arith, length-drop p part)) vars live n.below (children g n.t n.v ++ n.more) b
              (ap (drop 2) r.stage.marks ∙ two_marked g r.rest n.t n.v n.below n.is) (rest_node (node_as n.t n.v n.below n.is (due_as n.t n.more n.due r.stage.rest))) r.stage.stands r.stage.counted);
          same_run = r.same_run ∙ ap (λ x. match_first strict g ty (shapes pairs) x b left) n.is ∙ e;
        }

    pub finding_other : (type_in w ≡ ty → ⊥) → Finding types ty pairs arena part at vars live (p + 2)
    finding_other h = record {
      near = omega arith;
      sound = go.sound;
      fits = go.fits;
      run = λ strict g ws ts b left st ns. let r = go.run strict g ws ts b left st ns in on r (other_type strict g ty (shapes pairs) b left (here r).t (here r).v (here r).below (λ e. h (type_is r ∙ e)));
    }

    module _ (is : type_in w ≡ ty) (m : Match) (x : Words) (ex : x ≡ drop p part) (matched : MatchAnswers types pairs arena x (at + p) vars live m) where
      -- the definition here: this node's match, or else the others'
      at_this : {strict : Bool} {g : Grammar} {ws : Words} {b : Bindings} {left : State} (r : Run types strict g ty pairs arena part at vars live p ws b left)
          → match_first strict g ty (shapes pairs) ws b left ≡ or_else (match strict g (shapes pairs) r.rest b left) (match_first strict g ty (shapes pairs) (here r).below b)
      at_this {strict} {g} {ws} {b} {left} r =
          let n = here r in
          r.same_run ∙ ap (λ y. match_first strict g ty (shapes pairs) y b left) n.is ∙ this_type strict g ty (shapes pairs) b left n.t n.v n.below (sym (type_is r) ∙ is)
          ∙ ap (λ y. or_else (match strict g (shapes pairs) y b left) (match_first strict g ty (shapes pairs) n.below b)) (sym n.is)

      this_match : {strict : Bool} {g : Grammar} {ws : Words} {b : Bindings} {left : State} (r : Run types strict g ty pairs arena part at vars live p ws b left) → (match_first strict g ty (shapes pairs) ws b left ≡ stuck → ⊥)
          → Means g arena b.besides m.verdict m.vars m.live left (match strict g (shapes pairs) r.rest b left)
      this_match {strict} {g} {ws} {b} {left} r ns =
          (matched strict).meant g r.rest r.owed b left (rw ex r.stage)
          (λ e. ns (at_this r ∙ ap (λ y. or_else y (match_first strict g ty (shapes pairs) (here r).below b)) e ∙ or_stuck (match_first strict g ty (shapes pairs) (here r).below b)))

      -- a verdict that ends the search
      found : (v : Verdict) → m.verdict ≡ v
          → ((strict : Bool) (g : Grammar) (ws : Words) (b : Bindings) (left : State) (r : Run types strict g ty pairs arena part at vars live p ws b left) → Means g arena b.besides v m.vars m.live left (match strict g (shapes pairs) r.rest b left)
          → Means g arena b.besides v m.vars m.live left (match_first strict g ty (shapes pairs) ws b left)) → FirstAnswers types ty pairs arena part at vars live m
      found v e f strict = record {
        sound = (matched strict).sound;
        kept = (matched strict).kept;
        fits = (matched strict).fits;
        grows = (matched strict).grows;
        meant = λ g ws ts b left st ns.
            let r = go.run strict g ws ts b left st ns in
            rw e (f strict g ws b left r (rw e at (this_match r ns)));
      }

      pub finding_matches : m.verdict ≡ Matches → FirstAnswers types ty pairs arena part at vars live m
      finding_matches e = found Matches e (λ strict g ws b left r q.
          (q.0, q.1, q.2, at_this r ∙ ap (λ y. or_else y (match_first strict g ty (shapes pairs) (here r).below b)) q.3 ∙ or_some (bindings q.0 b.besides) left (match_first strict g ty (shapes pairs) (here r).below b)))

      pub finding_stops : {n : ℕ} → m.verdict ≡ Stops n → FirstAnswers types ty pairs arena part at vars live m
      finding_stops {n} e = found (Stops n) e (λ strict g ws b left r q.
          at_this r ∙ ap (λ y. or_else y (match_first strict g ty (shapes pairs) (here r).below b)) q ∙ or_stop n left (match_first strict g ty (shapes pairs) (here r).below b))

      pub finding_differs : m.verdict ≡ Differs → Finding types ty pairs arena part at vars live (p + 2)
      finding_differs e = record {
        near = omega arith;
        sound = go.sound;
        fits = go.fits;
        run = λ strict g ws ts b left st ns. stepped strict g ws b left ns (go.run strict g ws ts b left st ns);
      }
        where
          stepped : (strict : Bool) (g : Grammar) (ws : Words) (b : Bindings) (left : State) → (match_first strict g ty (shapes pairs) ws b left ≡ stuck → ⊥) → Run types strict g ty pairs arena part at vars live p ws b left
              → Run types strict g ty pairs arena part at vars live (p + 2) ws b left
          stepped strict g ws b left ns r =
              let n = here r in
              let q : match strict g (shapes pairs) r.rest b left ≡ ok none left = rw e at (this_match r ns) in
              on r (this_type strict g ty (shapes pairs) b left n.t n.v n.below (sym (type_is r) ∙ is)
              ∙ ap (λ y. or_else (match strict g (shapes pairs) y b left) (match_first strict g ty (shapes pairs) n.below b)) (sym n.is)
              ∙ ap (λ y. or_else y (match_first strict g ty (shapes pairs) n.below b)) q ∙ or_none left (match_first strict g ty (shapes pairs) n.below b))

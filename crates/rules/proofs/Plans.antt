-- Laws of the plan of a rule, over plain variables. Assumes nothing.
use Prim.Native.Nat.{ℕ, ◌≤◌}
use mathlib.Core.Path.{◌≡◌, sym, ap, ◌∙◌, subst}
use mathlib.Core.List.{List}
use mathlib.Core.Bool.{Bool, true, false}
use mathlib.Core.Option.{Option, none, some}
use native.Mathlib.Omega.{arith}
use lib.ListN.{length, get_or}
use borrow.Author.Tests.{le-leb}
use Rattle.std.specs.Prelude.{Result, Ok, Err, IsErr, IfOk, IsOkAnd}
use Rattle.std.specs.Result.{result_unwrap_or}
use Rattle.words.specs.Reader.{Words, value, refused, ◌>>=◌, return, and_then, many}
use Rattle.words.proofs.Laws.{then_value, in_value}
use Rattle.rules.specs.Limits.{most_parameters, most_parts}
use Rattle.rules.specs.Rules.{Piece, Rule, pieces, shapes}
use Rattle.rules.specs.Layout.{Head, bit, only_if, stretch, field, pairs, replacement, head, part, rule}
use Rattle.rules.specs.declared.Plan.{Plan}
use Rattle.rules.specs.declared.Head.{Head as HeadFound}
use Rattle.rules.specs.Views.{strategy_as, pairs_at, part_count, chain_count, Planned}
use Rattle.rules.proofs.Laws.{parts_counted}
use Rattle.rules.proofs.Laid.{pairs_at_lem, pairs_value, head_few, RuleRead, rule_value}

-- THE PARTS

module _ (ws : Words) (m at : ℕ) where
  count_few : {k first : ℕ} → part_count ws m at ≡ value k first → k ≤ most_parts
  unfolding field
  count_few {k} {first} = go (bit 2 m)
    where
      go : (b : Bool) → only_if b 0 (field ws 1 most_parts) at ≡ value k first → k ≤ most_parts
      go true e = (in_value 20 21 ws 1 most_parts at e).3
      go false e = let z : 0 ≡ k = cc in omega (arith, z)

  -- a replacement that is read is that of the pairs there
  replacement_pieces : {o : Option (List Piece)} {next : ℕ} → replacement ws m at ≡ value o next → (ps : List Piece) → o ≡ some ps → ps ≡ pieces (pairs_at ws at)
  unfolding replacement
  replacement_pieces {o} {next} r ps i = go (bit 3 m) r
    where
      go : (b : Bool) → only_if b none (◌>>=◌ (pairs ws) (λ q. return (some (pieces (stretch ws q))))) at ≡ value o next → ps ≡ pieces (pairs_at ws at)
      go true e =
          let a = then_value (pairs ws at) (λ q. return (some (pieces (stretch ws q)))) e in
          let b = pairs_value ws at a.2 in
          let z : pieces (stretch ws a.0) ≡ ps = cc (a.3, i) in
          sym z ∙ rw (b.0, pairs_at_lem ws at a.2)
      go false e = let z : ◌≡◌ {A = ℕ} 0 1 = cc in absurd (omega arith)

-- THE PLAN OF A RULE

module _ (types : ℕ) (ws : Words) (at : ℕ) where
  -- the plan is that of the rule there, if there is one
  abbrev pub Plans : Result Plan (ℕ × ℕ) → Type 0
  Plans p = IfOk p (λ x. x.count ≤ 8) × ((r : Rule) (next : ℕ) → rule types ws at ≡ value r next → IsOkAnd p (λ x. Planned types ws r x))

  -- no rule is there, and no plan
  pub plan_none : (p : Result Plan (ℕ × ℕ)) → IsErr p → {n q : ℕ} → rule types ws at ≡ refused n q → Plans p
  plan_none (Ok p) e f = absurd cc
  plan_none (Err x) e f = (tt, λ r next i. cc)

  pub rule_headless : {n q : ℕ} → head types ws at ≡ refused n q → rule types ws at ≡ refused n q
  unfolding rule
  rule_headless e = rw e

  -- the fields of a head that was read, where the code found them
  module _ {h : Head} (x : HeadFound) (f : head types ws at ≡ value h x.pattern) where
    pub rule_patternless : {n q : ℕ} → pairs ws x.pattern ≡ refused n q → rule types ws at ≡ refused n q
    unfolding rule
    rule_patternless e = rw (f, e)

    module _ (m : h.map ≡ x.map) {end : ℕ} (g : pairs ws x.pattern ≡ value x.pattern end) where
      pub rule_partless : {n q : ℕ} → part_count ws x.map end ≡ refused n q → rule types ws at ≡ refused n q
      unfolding rule
      rule_partless e = rw (f, g, parts_counted types ws h.map end, m, e)

      -- the plan, where the count of parts is read too
      pub plan_there : h.target ≡ x.target → strategy_as h.strategy ≡ x.strategy → {count first : ℕ} → part_count ws x.map end ≡ value count first
          → Plans (Ok (record { target = x.target; strategy = x.strategy; pattern = x.pattern; count = count; first = first }))
      plan_there t s {count} {first} e = (count_few ws x.map end e, λ r next i. go (rule_value types ws at r next i))
        where
          go : {r : Rule} {next : ℕ} → RuleRead types ws at r next → Planned types ws r (record { target = x.target; strategy = x.strategy; pattern = x.pattern; count = count; first = first })
          go {r} u =
              let v : h ≡ u.h = cc (f, u.header) in
              let y : x.pattern ≡ u.n₀ = cc (f, u.header) in
              let z : end ≡ u.n₁ = omega (arith, (pairs_value ws x.pattern g).1.ends, rw (← y) at u.pattern.ends) in
              let k : and_then (part_count ws x.map end) (λ k. many k (part types ws)) ≡ value u.ps u.n₂ = ap (λ j. and_then (part_count ws j end) (λ k. many k (part types ws))) (sym m) ∙ sym (parts_counted types ws h.map end) ∙ rw (v, z) u.parts_read in
              record {
                target = sym t ∙ rw v (ap (λ x. x.target) u.is);
                strategy = sym s ∙ rw v (ap (λ x. strategy_as x.strategy) u.is);
                pattern = ap (λ x. x.pattern) (sym u.is) ∙ ap (λ x. shapes (stretch ws x)) (sym y) ∙ ap shapes (sym (pairs_at_lem ws x.pattern g));
                end = u.n₂;
                parts = rw e at k ∙ ap (λ x. value x.parts u.n₂) u.is;
                replacement = λ ps o. replacement_pieces ws u.h.map u.n₂ u.replacement_read ps (ap (λ x. x.replacement) u.is ∙ o);
                few = subst (λ x. length x.parameters ≤ most_parameters) u.is (head_few types ws at u.h u.n₀ u.header);
              }

  -- the plan that was read, or another with few parts
  pub plan_or : (p : Result Plan (ℕ × ℕ)) (other : Plan) → Plans p → other.count ≤ 8 → {x : Plan} → x ≡ result_unwrap_or p other
      → (x.count ≤ 8) × ((r : Rule) (next : ℕ) → rule types ws at ≡ value r next → Planned types ws r x)
  plan_or (Ok p) other t few e = rw e t
  plan_or (Err q) other t few e = rw e (few, λ r next i. absurd (t.1 r next i))

-- HOW MANY APPLICATIONS A CHAIN HAS

pub count_is : (pairs : Words) (at k : ℕ) → k ≡ get_or pairs at 0 → k ≤ 4 → k ≡ chain_count pairs at
count_is pairs at k e h = rw (le-leb (get_or pairs at 0) 4 (omega arith)) e

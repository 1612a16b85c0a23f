-- What `seek` promises, by the ways that its loops end a turn: each from what the calls before it promise. Assumes nothing.
use Prim.Native.Nat.{ℕ, ◌+◌, ◌-◌, ◌*◌, ◌<◌, ◌≤◌}
use mathlib.Core.Path.{◌≡◌, refl, ap, subst}
use mathlib.Core.Bool.{true}
use native.Mathlib.Omega.{arith}
use lib.ListN.{take, drop}
use Rattle.std.specs.Prelude.{Ok, Err, Some, None}
use Rattle.words.specs.Reader.{Words}
use Rattle.rules.specs.Views.{pairs_at, tried_of}
use Rattle.rules.specs.declared.Plan.{Plan}
use Rattle.meaning.specs.declared.State.{State}
use Rattle.rewrite.specs.Vars.{vars_of}
use Rattle.rewrite.specs.Matching.{MatchAnswers, Answers, match_of, match_in}
use Rattle.rewrite.specs.Candidates.{NextCandidate}
use Rattle.rewrite.specs.declared.candidates.Candidate.{Candidate}
use Rattle.rewrite.specs.declared.arena.Frame.{Frame}
use Rattle.rewrite.specs.declared.Matched.{Matched}
use Rattle.rewrite.specs.declared.Verdict.TheVariants.{Matches, Differs, Stops}
use Rattle.rewrite.proofs.Standing.{stretch_below}
use Rattle.rewrite.proofs.Clashing.{next_in}
use Rattle.rewrite.proofs.Matcher.{answers_kept, kept_more}
use Rattle.calls.specs.Engine.{Seeking, Room, Grown, Given, Steps, Seeks, open_of, taking_in}
use Rattle.calls.specs.declared.Taken.{Taken}
use Rattle.calls.proofs.Frames.{Still, still_after, grown_still}
use Rattle.calls.proofs.Searching.{tried_few, spent, Searching, searching_next, searching_none, searching_spent, searching_differs, searching_stops, Trying, Parting, parting_start, trying_grown, trying_run, trying_done, trying_differs, trying_stops}

module _ (given : Given) (w₀ : Words) (plan : Plan) (base n : ℕ) (places : Words) (f : Frame) (deep : ℕ) (left : State) (start : ℕ) (room : Room w₀ (open_of places f)) (fits : 0 < n → base + 2 * n ≤ f.top) where
  -- the search has come to node i
  abbrev pub Come : Words → State → ℕ → Type 0
  Come = Searching given w₀ plan base n (open_of places f) deep left start

  -- it gives this
  abbrev pub Gives : Words → Seeking → Type 0
  Gives w = Seeks given w₀ w plan base n (open_of places f) deep left start

  -- what is open where no more variables are bound
  unmoved : {now : Words} → Still places now f.bound → Grown (open_of places f) (open_of now f)
  unmoved {now} s = grown_still room (vars_of now f.bound) s.0 s.1

  module _ (w now : Words) (fuel : State) (i : ℕ) (still : Still places now f.bound) (come : Come w fuel i) (last : ℕ) (el : last ≡ tried_of plan.strategy n) where
    -- no node is left
    pub seek_end : last ≤ i → Gives w (record { found = Ok None; frame = open_of now f; left = fuel; next = 0 })
    seek_end past = searching_none given w₀ plan base n (open_of places f) deep left start room w fuel i come (omega arith) (open_of now f) (unmoved still)

    -- the next node that may match
    module _ (pairs : Words) (ep : pairs ≡ pairs_at given.book plan.pattern) (before : i < last) (r : Candidate)
        (x : NextCandidate pairs (take (base + 2 * n - base) (drop base (take f.top w))) plan.target 0 (2 * n) i last f.live fuel r) where
      some : i < n
      some = omega (arith, tried_few plan.strategy n)

      passed : NextCandidate pairs w plan.target base (base + 2 * n) i last f.live fuel r
      passed =
          let below : base + (base + 2 * n - base) ≤ f.top = omega (arith, some, fits (omega (arith, some))) in
          next_in _ w _ plan.target base n f.live (stretch_below w f.top base (base + 2 * n - base) below) i last fuel r (omega (arith, tried_few plan.strategy n)) x

      on : Come w r.left r.node
      on = searching_next given w₀ plan base n (open_of places f) deep left start room fits pairs ep w fuel i come last (base + 2 * n) el refl r passed

      pub seek_past : last ≤ r.node → Gives w (record { found = Ok None; frame = open_of now f; left = r.left; next = 0 })
      seek_past past = searching_none given w₀ plan base n (open_of places f) deep left start room w r.left r.node on (omega arith) (open_of now f) (unmoved still)

      module _ (here : r.node < last) where
        tried : r.node < tried_of plan.strategy n
        tried = subst (λ k. r.node < k) el here

        -- no attempt is left
        pub seek_spent : r.left.attempts ≡ 0 → {number : ℕ} → number ≡ 40 → Gives w (record { found = Err number; frame = open_of now f; left = r.left; next = 0 })
        seek_spent none e = rw e (searching_spent given w₀ plan base n (open_of places f) deep left start room w r.left r.node on tried (passed.typed here) none (open_of now f) (unmoved still))

        -- the pattern is set against the tree there
        module _ (due : r.left.attempts ≡ 0 → ⊥) (m : Matched) (after : Words)
            (told : MatchAnswers given.types pairs (take f.top w) (take (base + 2 * n - (base + 2 * r.node)) (drop (base + 2 * r.node) (take f.top w))) (base + 2 * r.node) (vars_of now f.bound) f.live (match_in after m)) where
          -- what is open after a match
          abbrev matched : Frame
          matched = record { bound = m.bound; live = m.live; top = f.top }

          part : take (base + 2 * n - (base + 2 * r.node)) (drop (base + 2 * r.node) (take f.top w)) ≡ take (2 * (n - r.node)) (drop (base + 2 * r.node) (take f.top w))
          part =
              let z : base + 2 * n - (base + 2 * r.node) ≡ 2 * (n - r.node) = omega (arith, tried_few plan.strategy n) in
              ap (λ k. take k (drop (base + 2 * r.node) (take f.top w))) z

          answers : Answers given.types (take f.top w) (take (base + 2 * n - (base + 2 * r.node)) (drop (base + 2 * r.node) (take f.top w))) (base + 2 * r.node) (vars_of places f.bound) f.live (match_of true pairs) (match_in after m)
          answers = answers_kept (vars_of places f.bound) (vars_of now f.bound) refl still.1 (told true)

          kept : Still places after f.bound
          kept = still_after still (told true).sound (told true).kept

          pub seek_differs : m.verdict ≡ Differs → Still places after f.bound × Come w (spent r.left) (r.node + 1)
          seek_differs v = (
            kept,
            searching_differs given w₀ plan base n (open_of places f) deep left start room w r.left r.node on tried (passed.typed here) due (match_in after m) (take f.top w) _ pairs refl part ep answers v,
          )

          pub seek_stops : {number : ℕ} → m.verdict ≡ Stops number → Gives w (record { found = Err number; frame = open_of after f; left = spent r.left; next = 0 })
          seek_stops v =
              searching_stops given w₀ plan base n (open_of places f) deep left start room w r.left r.node on tried (passed.typed here) due (match_in after m) (take f.top w) _ pairs refl part ep answers v
              (open_of after f) (unmoved kept)

          -- before the first part
          pub seek_parts : Parting given deep w (spent r.left) (open_of after matched) plan.first plan.count w (spent r.left) (open_of after matched) plan.first plan.count
          seek_parts =
              let g = trying_grown given w₀ plan base n (open_of places f) deep left start room w r.left r.node on tried (passed.typed here) due (match_in after m) (take f.top w) _ pairs refl part ep answers in
              parting_start given deep w (spent r.left) (open_of after matched) plan.first plan.count g.sound g.few g.low

          -- k parts are left, the next at `at`
          module _ (matches : m.verdict ≡ Matches) (eight : plan.count ≤ 8) (w₁ places₁ : Words) (fuel₁ : State) (f₁ : Frame) (at k : ℕ)
              (parting : Parting given deep w (spent r.left) (open_of after matched) plan.first plan.count w₁ fuel₁ (open_of places₁ f₁) at k) where
            -- so far every part has matched
            trying : Trying given w₀ plan base n (open_of places f) deep left start room w r.left r.node on tried (passed.typed here) due (match_in after m) (take f.top w) _ pairs refl part ep answers w₁ fuel₁ (open_of places₁ f₁) at k
            trying = trying_run given w₀ plan base n (open_of places f) deep left start room w r.left r.node on tried (passed.typed here) due (match_in after m) (take f.top w) _ pairs refl part ep answers matches eight w₁ fuel₁ (open_of places₁ f₁) at k parting

            pub seek_found : k ≡ 0 → Gives w₁ (record { found = Ok (Some r.node); frame = open_of places₁ f₁; left = fuel₁; next = at })
            seek_found none =
                trying_done given w₀ plan base n (open_of places f) deep left start room w r.left r.node on tried (passed.typed here) due (match_in after m) (take f.top w) _ pairs refl part ep answers
                w₁ fuel₁ (open_of places₁ f₁) at k trying none

            -- its step
            module _ (more : 0 < k) (w₂ places₂ : Words) (t : Taken) (steps : Steps given w₁ w₂ at (open_of places₁ f₁) deep fuel₁ (taking_in places₂ t)) where
              kept₂ : Still places places₂ f.bound
              kept₂ = let g = steps.takes.grown in still_after still g.sound (kept_more (kept_more (told true).kept parting.grown.kept) g.kept)

              pub seek_part_differs : t.verdict ≡ Differs → Still places places₂ f.bound × Come w₂ t.left (r.node + 1)
              seek_part_differs v = (
                kept₂,
                trying_differs given w₀ plan base n (open_of places f) deep left start room w r.left r.node on tried (passed.typed here) due (match_in after m) (take f.top w) _ pairs refl part ep answers
                    w₁ fuel₁ (open_of places₁ f₁) at k trying more w₂ (taking_in places₂ t) steps v,
              )

              pub seek_part_stops : {number : ℕ} → t.verdict ≡ Stops number → Gives w₂ (record { found = Err number; frame = open_of places₂ f; left = t.left; next = 0 })
              seek_part_stops v =
                  trying_stops given w₀ plan base n (open_of places f) deep left start room w r.left r.node on tried (passed.typed here) due (match_in after m) (take f.top w) _ pairs refl part ep answers
                  w₁ fuel₁ (open_of places₁ f₁) at k trying more w₂ (taking_in places₂ t) steps v (open_of places₂ f) (unmoved kept₂)

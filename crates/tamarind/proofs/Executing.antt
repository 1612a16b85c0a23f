-- A run that nothing refuses: what it leaves is what the meaning says. Assumes nothing.
use Prim.Native.Nat.{ℕ, ◌-◌, ◌*◌, ◌/◌, ◌≤◌}
use mathlib.Core.Path.{◌≡◌, refl, sym, ap, ◌∙◌}
use mathlib.Core.List.{[], ◌∷◌, ◌++◌}
use mathlib.Core.Bool.{true, false}
use native.Mathlib.Omega.{arith}
use lib.ListN.{length, get_or, take, drop, replicate}
use lib.Seq.{sets, take_at, length-take-le}
use Rattle.words.specs.Reader.{Words, many, accepted}
use Rattle.grammar.specs.Grammar.{Grammar}
use Rattle.tree.specs.Slip.{counted}
use Rattle.tree.proofs.Slip.{counted_length}
use Rattle.rules.specs.Rules.{Rules}
use Rattle.rules.specs.Layout.{rule}
use Rattle.typing.specs.Views.{positions}
use Rattle.typing.proofs.Check.{layout_starts, read_laid, read_placed}
use Rattle.meaning.specs.Computation.{initial}
use Rattle.meaning.specs.Meaning as M
use Rattle.meaning.specs.Meaning.{Ending, done, stopped, cannot_go_on, total, calls, run_from, run}
use Rattle.meaning.specs.Outcome.{Inputs, ended, ended_as, outcome_of, outcome, result_after, work_after, filled_by}
use Rattle.meaning.specs.Sound.{Sound}
use Rattle.meaning.proofs.Sound.{never_stuck}
use Rattle.meaning.proofs.FromWords.{ReadAll, read_all, read_typed, read_sound}
use Rattle.slips.specs.Slips.{SlipWritten}
use Rattle.rewrite.specs.Vars.{Vars, EnvAt, starts_of}
use Rattle.calls.specs.Engine.{Setting, EndedAs, Left, Calls}
use Rattle.calls.specs.declared.Called.{Called}
use Rattle.std.specs.Prelude.{None, Some}
use Rattle.meaning.specs.declared.Stop.{Stop}
use Rattle.meaning.specs.Stops.{number_of}
use Rattle.tables.specs.declared.types.Types.{Types}
use Rattle.tamarind.specs.declared.Outcome as Code
use Rattle.tamarind.specs.declared.Outcome.TheVariants.{Done, Stopped}
use Rattle.tamarind.specs.Run.{said, memories, RunsOver, Answered, Accepted}

-- THE ANSWER

module _ (c : Called) (budget filled : ℕ) where
  pub answered_done : c.stop ≡ None → Answered c budget filled (Done (record { attempts = budget - c.left.attempts; replacements = c.replacements; filled = filled }))
  answered_done z = record {
    says = λ e result h well.
        let d : EndedAs None e = rw z at h in
        ap (λ i. ended i (budget - c.left.attempts) c.replacements (take filled result)) (sym d);
    filled_is = refl;
  }

  pub answered_stopped : {k : ℕ} {s : Stop} → c.stop ≡ Some k → number_of s ≡ k → Answered c budget filled (Stopped s (record { attempts = budget - c.left.attempts; replacements = c.replacements; filled = filled }))
  answered_stopped {k} z name = record {
    says = λ e result h well.
        let d : EndedAs (Some k) e = rw z at h in
        ap (λ i. ended i (budget - c.left.attempts) c.replacements (take filled result)) (ap stopped name ∙ sym d);
    filled_is = refl;
  }

-- THE RUN

no_variables : (g : Grammar) (w : Words) (vars : Vars) → vars.n ≡ 0 → EnvAt g w (starts_of vars) []
no_variables g w vars e = rw e tt

module _ (x : Inputs) (result w : Words) (types : Types) (a : Accepted x (length result) w types) where
  abbrev g : Grammar
  g = a.with.grammar

  abbrev rules : Rules
  rules = a.with.rules

  all : ReadAll (length result) (length w) x a.with
  all = read_all (length result) (length w) x a.with a.next a.read

  -- the strict run, which is never stuck
  abbrev meant : M.Called
  meant = run true g rules a.with.tree x.budget

  sound : Sound g 0 x.budget meant (run false g rules a.with.tree x.budget)
  sound = read_sound (length result) (length w) x a.with all

  pub tree_small : length x.slip / 3 ≤ 2048
  tree_small = omega (arith, a.stands.nodes, a.stands.tree.nodes)

  pub work_long : 16384 ≤ length w
  work_long = all.space

  pub result_long : 6144 ≤ length result
  result_long = all.room

  module _ {n : ℕ} (en : n ≡ get_or x.rules 0 0) where
    pub starts_fit : (n ≤ 64) × (accepted (many n (rule types.count x.rules) 1) ≡ true)
    starts_fit =
        let l = layout_starts types.count x.rules (read_laid g types.count x.rules rules all.n a.types_of.count_of all.rules) en in
        (l.0, l.1)

    module _ {starts : Words} (es : starts ≡ sets (replicate 64 0) 0 (positions types.count x.rules n 1)) {main : ℕ} (em : main ≡ get_or starts 0 0) where
      setting : Setting (record { types = types; book = x.rules; starts = starts }) g rules
      setting = record { types_of = a.types_of.types_of; few = omega (arith, a.types_of.types_of.heads_of.types, a.types_of.count_of); placed = read_placed g types.count x.rules rules all.n a.types_of.count_of all.rules en es }

      -- THE FIRST CALL is the strict run
      module _ {w' : Words} {vars : Vars} (none : vars.n ≡ 0) (c : Called) (k : Calls (record { types = types; book = x.rules; starts = starts }) w w' main 0 (length x.slip / 3) vars 0 31 (initial x.budget) c) where
        left : Left (record { types = types; book = x.rules; starts = starts }) w w' g 0 c meant
        unfolding run run_from total
        left =
            let typed = read_typed (length result) (length w) x a.with all in
            let p = (setting.placed 0 typed.first typed.there).1 in
            let same : meant ≡ M.call true g rules (calls true g rules 31) typed.first [] a.with.tree 0 (initial x.budget) = rw typed.there in
            let at : rule types.count x.rules main ≡ _ = ap (rule types.count x.rules) em ∙ p.1 in
            let fine : (M.call true g rules (calls true g rules 31) typed.first [] a.with.tree 0 (initial x.budget)).ending ≡ cannot_go_on → ⊥ = never_stuck _ (rw same at sound.ends) in
            rw same (k.meant g rules typed.first p.0 [] a.with.tree 0 setting at (no_variables g (take 0 w) vars none) refl (0, a.stands) fine).1

        pub call_long : length w' ≡ length w
        call_long = k.long

        pub filled_fits : 2 * c.nodes ≤ length w'
        filled_fits = omega (arith, k.few, call_long, work_long)

        pub part_long : 2 * c.nodes ≡ length (take (2 * c.nodes) w')
        part_long = sym (length-take-le (2 * c.nodes) w' filled_fits)

        pub part_fits : 3 * (length (take (2 * c.nodes) w') / 2) ≤ length result
        part_fits = omega (arith, part_long, k.few, result_long)

        -- what stands there is written to the result, with its counts
        module _ {result' work' : Words} (written : SlipWritten (take (2 * c.nodes) w') result result') (cleared : work' ≡ replicate (length w') 0) where
          abbrev filled : Words
          filled = counted g meant.scope

          filled_long : length filled ≡ 3 * c.nodes
          filled_long = let s = left.3.1 in counted_length g meant.scope ∙ ap (λ i. 3 * i) s.nodes

          result_is : result' ≡ filled ++ drop (length filled) result
          result_is = let s = left.3.1 in written.words g (left.3.0 ∷ []) meant.scope a.types_of.types_of.rows_of_lem.types s.tree.typed s.tree.nodes s.words

          filled_is : take (3 * c.nodes) result' ≡ filled
          filled_is = ap (take (3 * c.nodes)) result_is ∙ take_at filled (drop (length filled) result) (3 * c.nodes) filled_long

          pub executed : {r : Code.Outcome} → Answered c x.budget (3 * c.nodes) r → RunsOver x result (length w) r (memories result' work')
          unfolding outcome outcome_of ended_as result_after work_after filled_by
          executed {r} h work same =
              let e : said r result' ≡ ended_as g x.budget meant =
              h.says meant.ending result' left.0 sound.ends ∙ rw (left.1, left.2, filled_is) in
              record {
                ran = record {
                  outcome = e ∙ rw (same, a.read, sound.agree);
                  result = rw e result_is;
                  work = rw e (cleared ∙ ap (λ i. replicate i 0) (call_long ∙ sym same));
                };
                filled = h.filled_is ∙ sym filled_long ∙ rw e;
              }

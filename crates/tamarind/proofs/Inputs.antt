-- Laws of the checks of a run: of the call itself, and of what it brings. Assumes nothing.
use Prim.Native.Nat.{ℕ, ◌*◌, ◌/◌, ◌≤◌}
use mathlib.Core.Path.{◌≡◌, refl, sym, ap, ◌∙◌}
use mathlib.Core.Bool.{true}
use native.Mathlib.Omega.{arith}
use lib.ListN.{length, take, drop}
use lib.Seq.{take_at}
use lib.Dec.{leb}
use borrow.Author.Tests.{leb-true}
use Rattle.words.specs.Reader as R
use Rattle.words.specs.Reader.{Words, between, Read, value, and_then, return, accepted}
use Rattle.std.specs.Prelude.{Result, Ok, Err}
use Rattle.words.specs.Views.{answer}
use Rattle.words.proofs.Laws.{answer_passed, answer_refused, answer_map, then_value, require_value, pick_value}
use Rattle.grammar.specs.Limits.{most_grammar_words}
use Rattle.grammar.specs.Grammar.{Grammar, read_grammar, grammar_fits}
use Rattle.tables.specs.Tables.{read_of}
use Rattle.tables.specs.Types.{TypesOf, AllTypesOf}
use Rattle.tables.specs.declared.types.Types.{Types}
use Rattle.tree.specs.Tree.{size}
use Rattle.tree.specs.Slip.{read_slip}
use Rattle.tree.proofs.Trees.{trees_even}
use Rattle.tree.proofs.Slip.{counted_length, slip_sound}
use Rattle.marks.specs.Marked.{marked}
use Rattle.marks.proofs.Marks.{marked_length}
use Rattle.slips.specs.Slips.{SlipRead}
use Rattle.rewrite.specs.Arena.{Standing}
use Rattle.rules.specs.Limits.{most_rule_words}
use Rattle.rules.specs.Rules.{Rules}
use Rattle.rules.specs.Layout.{rules_fit}
use Rattle.judgement.specs.Typing.{read_rules}
use Rattle.meaning.specs.Limits.{most_budget, least_result, least_work}
use Rattle.meaning.specs.Outcome.{Inputs, Decoded, call_fits, decode, outcome_of, outcome, result_after, work_after, filled_by}
use Rattle.meaning.specs.Runs.{Memories}
use Rattle.tamarind.specs.declared.Outcome.TheVariants as Code
use Rattle.tamarind.specs.Run.{read_inputs, InputsRead, Accepted, memories, Runs}

-- WHAT A RUN BRINGS

no_value : {B : Type 0} {n p : ℕ} {q : Read Decoded} {d : Decoded} {next : ℕ} → q ≡ R.refused n p → q ≡ value d next → B
no_value e f = let both = sym e ∙ f in let z : ◌≡◌ {A = ℕ} 0 1 = cc in absurd (omega arith)

-- the slip's tree stands at the bottom of work memory
slip_stands : (slip : Words) (types : Types) (w w' : Words) {r : Result ℕ (ℕ × ℕ)} → SlipRead (λ g. read_slip g slip) types w w' r → least_work ≤ length w
    → (g : Grammar) (tree : Words) (next : ℕ) → TypesOf g types → read_slip g slip ≡ value tree next → Standing g w' 0 (length slip / 3) 0 tree
slip_stands slip types w w' s room g tree next t q =
    let x = slip_sound g slip tree next q in
    let long : length slip ≡ 3 * size tree = ap length x.1 ∙ counted_length g tree in
    let n : size tree ≡ length slip / 3 = omega arith in
    let j : 2 * (length slip / 3) ≡ length tree = omega (arith, trees_even x.0.typed) in
    record {
      tree = x.0;
      nodes = n;
      words = ap (λ i. take i w') j ∙ ap (take (length tree)) (s.tree g tree next t q (omega arith)) ∙ take_at (marked g tree) (drop (length tree) w) (length tree) (marked_length g tree);
    }

module _ (grammar rules slip : Words) (types : Types) (w : Words) where
  refused_read : {x : ℕ × ℕ} → read_inputs grammar rules slip ≡ R.refused x.0 x.1 → InputsRead grammar rules slip types w w (Err x)
  refused_read e = record { answered = rw e; long = refl; kept = λ h. refl; types_of = λ d next f. no_value e f; stands = λ d next f. no_value e f }

  module _ {c : Result ℕ (ℕ × ℕ)} (is : c ≡ answer (read_grammar grammar)) where
    pub grammar_refused : {x : ℕ × ℕ} → c ≡ Err x → InputsRead grammar rules slip types w w (Err x)
    grammar_refused e = refused_read (rw (answer_refused (read_grammar grammar) c is e))

    module _ {m : ℕ} (e : c ≡ Ok m) where
      pub grammar_read : accepted (read_grammar grammar) ≡ true
      grammar_read = rw (answer_passed (read_grammar grammar) c is e).1

      abbrev g : Grammar
      g = read_of (read_grammar grammar)

      module _ {d : Result ℕ (ℕ × ℕ)} (js : d ≡ answer (read_rules g rules)) where
        read_rest : read_inputs grammar rules slip ≡ and_then (read_rules g rules) (λ rs next. and_then (read_slip g slip) (λ tree. return (record { grammar = g; rules = rs; tree = tree })))
        read_rest = rw (answer_passed (read_grammar grammar) c is e).1

        pub rules_refused : {x : ℕ × ℕ} → d ≡ Err x → InputsRead grammar rules slip types w w (Err x)
        rules_refused f = refused_read (read_rest ∙ rw (answer_refused (read_rules g rules) d js f))

        pub slip_read : {n : ℕ} → d ≡ Ok n → AllTypesOf g types → least_work ≤ length w → {w' : Words} {r : Result ℕ (ℕ × ℕ)} → SlipRead (λ g. read_slip g slip) types w w' r → InputsRead grammar rules slip types w w' r
        slip_read f tables room {w'} {r} l = let rs = answer_passed (read_rules g rules) d js f in read_by rs.0 rs.1
          where
            read_by : (rs : Rules) {n : ℕ} → read_rules g rules ≡ value rs n → InputsRead grammar rules slip types w w' r
            read_by rs e =
                let all : read_inputs grammar rules slip ≡ and_then (read_slip g slip) (λ tree. return (record { grammar = g; rules = rs; tree = tree })) = read_rest ∙ rw e in
                record {
                  answered = l.answered g tables.types_of ∙ answer_map {B = Decoded} (read_slip g slip) (λ tree. record { grammar = g; rules = rs; tree = tree }) ∙ ap answer (sym all);
                  long = l.long;
                  kept = l.kept;
                  types_of = λ y next q.
                      let t = then_value (read_slip g slip) (λ tree. return (record { grammar = g; rules = rs; tree = tree })) (sym all ∙ q) in
                      let same : ◌≡◌ {A = Decoded} (record { grammar = g; rules = rs; tree = t.0 }) y = cc t.3 in
                      rw (← same) tables;
                  stands = λ y next q.
                      let t = then_value (read_slip g slip) (λ tree. return (record { grammar = g; rules = rs; tree = tree })) (sym all ∙ q) in
                      let same : ◌≡◌ {A = Decoded} (record { grammar = g; rules = rs; tree = t.0 }) y = cc t.3 in
                      rw (← same) (slip_stands slip types w w' l room g t.0 t.1 tables.types_of t.2);
                }

-- BOTH

-- A REFUSED RUN changes nothing
pub runs_refused : (x : Inputs) (before : Memories) {y : ℕ × ℕ} → decode (length before.result) (length before.work) x ≡ R.refused y.0 y.1 → Runs x before (Code.Refused y) before
unfolding outcome outcome_of result_after work_after filled_by
runs_refused x before e = record { ran = record { outcome = rw e; result = refl; work = refl }; filled = refl }

module _ (result work : Words) (x : Inputs) {c : Result ℕ (ℕ × ℕ)} (is : c ≡ answer (call_fits (length result) (length work) x 0)) where
  pub call_refused : {y : ℕ × ℕ} → c ≡ Err y → Runs x (memories result work) (Code.Refused y) (memories result work)
  unfolding decode
  call_refused e = runs_refused x (memories result work) (rw (answer_refused (call_fits (length result) (length work) x 0) c is e))

  module _ {m : ℕ} (e : c ≡ Ok m) where
    -- what the call's own row leaves
    pub call_room : (least_work ≤ length work) × (length x.rules ≤ most_rule_words)
    unfolding call_fits grammar_fits rules_fit
    call_room =
        let v = answer_passed (call_fits (length result) (length work) x 0) c is e in
        let a = require_value (leb least_result (length result)) 1 0 0 _ v.1 in
        let b = require_value (leb least_work (length work)) 2 0 0 _ a.1 in
        let d = require_value (between 1 most_budget x.budget) 3 0 0 _ b.1 in
        let f = require_value (leb (length x.grammar) most_grammar_words) 4 0 0 _ d.1 in
        (leb-true least_work (length work) b.0, leb-true (length x.rules) most_rule_words (pick_value (leb (length x.rules) most_rule_words) tt v.0 0 5 0 m f.1).0)

    decode_is : decode (length result) (length work) x ≡ read_inputs x.grammar x.rules x.slip
    unfolding decode
    decode_is = rw (answer_passed (call_fits (length result) (length work) x 0) c is e).1

    module _ {types : Types} {w : Words} {d : Result ℕ (ℕ × ℕ)} (read : InputsRead x.grammar x.rules x.slip types work w d) where
      pub inputs_refused : {y : ℕ × ℕ} → d ≡ Err y → Runs x (memories result work) (Code.Refused y) (memories result w)
      inputs_refused f =
          rw (read.kept f) (runs_refused x (memories result work) (decode_is ∙ answer_refused (read_inputs x.grammar x.rules x.slip) d read.answered f))

      pub inputs_accepted : {n : ℕ} → d ≡ Ok n → Accepted x (length result) w types
      inputs_accepted {n} f =
          let u = answer_passed (read_inputs x.grammar x.rules x.slip) d read.answered f in
          record { with = u.0; next = n; read = rw read.long (decode_is ∙ u.1); types_of = read.types_of u.0 n u.1; stands = read.stands u.0 n u.1 }

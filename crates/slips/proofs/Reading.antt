-- The check of a slip: its tree is read and marked in the buffer, then each count is held against its mark. Assumes nothing.
use Prim.Native.Nat.{ℕ, ◌-◌, ◌*◌, ◌/◌, ◌%◌, ◌<◌, ◌≤◌}
use mathlib.Core.Path.{◌≡◌, refl, sym, ap, ◌∙◌}
use mathlib.Core.List.{[], ◌∷◌, ◌++◌}
use mathlib.Core.Bool.{Bool, true, false}
use Rattle.std.proofs.Math.Logic.{∥∥₁_elim}
use native.Mathlib.Bridge.{le_prop}
use native.Mathlib.Omega.{arith}
use lib.ListN.{length, take, drop}
use lib.Seq.{take_at, drop_at}
use lib.Dec.{leb}
use borrow.Author.Tests.{le-leb, lt-leb, eq-eqb, ne_eqb}
use Rattle.words.specs.Reader.{Words, Read, value, refused, and_then, return, accepted}
use Rattle.std.specs.Prelude.{Result, Ok, Err}
use Rattle.words.specs.Views.{answer}
use Rattle.words.proofs.Laws.{answer_passed, answer_refused, answer_map, then_value, require_value}
use Rattle.grammar.specs.Limits.{most_grammar_words}
use Rattle.grammar.specs.Grammar.{Grammar, read_grammar, grammar_fits, check_grammar}
use Rattle.tables.specs.Tables.{read_of}
use Rattle.tables.specs.Types.{TypesOf, OfTypes}
use Rattle.tables.specs.declared.types.Types.{Types}
use Rattle.tables.specs.declared.grammar_types.GrammarTypes.{GrammarTypes}
use Rattle.tree.specs.Limits.{most_tree_words, most_slip_words}
use Rattle.tree.specs.Tree.{Tree}
use Rattle.tree.specs.Reading.{read_tree}
use Rattle.tree.specs.Slip.{uncounted, place_in, in_slip, right_counts, read_slip, read_edition, check_slip}
use Rattle.tree.proofs.Reading.{some_types}
use Rattle.tree.proofs.Accepted.{accepted_tree, tree_refused_within}
use Rattle.tree.proofs.Trees.{trees_even}
use Rattle.tree.proofs.Slip.{uncounted_length}
use Rattle.marks.specs.Marked.{marked, UnderWay}
use Rattle.marks.specs.Post.{span, TreeMarked}
use Rattle.marks.proofs.Marks.{marked_length}
use Rattle.marks.proofs.Laying.{under_plain}
use Rattle.slips.specs.Slips.{counts_as, ReadBeside, SlipRead}
use Rattle.slips.proofs.Counts.{counts_marks}

-- a refusal: nothing is said of the buffer
refused_read : {reading : Grammar → Read Words} {types : Types} {b b' : Words} {x : ℕ × ℕ} → OfTypes types (λ g. reading g ≡ refused x.0 x.1) → ReadBeside reading types b b' (Err x)
refused_read h = record { answered = λ g t. rw (h g t); tree = λ g ws next t e. let same = sym (h g t) ∙ e in cc }

-- a tree that was copied to the start of the buffer and marked there
laid_marked : (g : Grammar) (ws : Words) (types : Types) (b b₁ b₂ : Words) (n : ℕ) → length ws ≡ n → TypesOf g types → Tree g 0 ws → b₁ ≡ ws ++ drop n b → TreeMarked types b₁ b₂ 0 n → b₂ ≡ marked g ws ++ drop n b
laid_marked g ws types b b₁ b₂ n long t tr e m =
    let z : n - 0 ≡ n = omega arith in
    let there : take n b₁ ≡ ws = ap (take n) e ∙ take_at ws (drop n b) n long in
    let u : UnderWay g (span b₁ 0 n) ws = rw (z, there) (under_plain tr.typed) in
    m.marks g 0 ws t tr.typed tr.nodes u ∙ ap (λ l. marked g ws ++ l) (ap (drop n) e ∙ drop_at ws (drop n b) n long)

module _ (types : GrammarTypes) (slip b : Words) where
  abbrev Answers : Words → Result ℕ (ℕ × ℕ) → Type 0
  Answers b' r = ReadBeside (λ g. read_slip g slip) types.types b b' r

  -- 30

  pub slip_empty : length slip ≡ 0 → Answers b (Err (30, 0))
  unfolding read_slip
  slip_empty h = refused_read (λ g t. rw (lt-leb 1 (length slip) (omega arith)))

  pub slip_long : most_slip_words < length slip → Answers b (Err (30, 0))
  unfolding read_slip
  slip_long h = refused_read (λ g t. rw (le-leb 1 (length slip) (omega arith), lt-leb (length slip) most_slip_words h))

  module _ (some : length slip ≡ 0 → ⊥) (most : length slip ≤ most_slip_words) where
    pub slip_uneven : (length slip % 3 ≡ 0 → ⊥) → Answers b (Err (30, 0))
    unfolding read_slip
    slip_uneven h = refused_read (λ g t. rw (le-leb 1 (length slip) (omega arith), le-leb (length slip) most_slip_words most, ne_eqb (length slip % 3) 0 h))

    module _ (three : length slip % 3 ≡ 0) where
      -- what is read after 30
      slip_fits : (g : Grammar) → read_slip g slip ≡ and_then (in_slip (read_tree g (uncounted slip))) (λ u next. and_then (right_counts g slip 0) (λ u. return (uncounted slip)))
      unfolding read_slip
      slip_fits g = rw (le-leb 1 (length slip) (omega arith), le-leb (length slip) most_slip_words most, eq-eqb (length slip % 3) 0 three)

      abbrev end : ℕ
      end = 2 * (length slip / 3)

      -- the tree is in the buffer, and read there
      module _ (b₁ : Words) (eb : b₁ ≡ uncounted slip ++ drop end b) (a : Result ℕ (ℕ × ℕ)) (read : OfTypes types.types (λ g. a ≡ answer (read_tree g (take end b₁)))) where
        plain_there : take end b₁ ≡ uncounted slip
        plain_there = ap (take end) eb ∙ take_at (uncounted slip) (drop end b) end (uncounted_length slip)

        plain_read : (g : Grammar) → TypesOf g types.types → a ≡ answer (read_tree g (uncounted slip))
        plain_read g t = read g t ∙ ap (λ l. answer (read_tree g l)) plain_there

        pub slip_within : {x : ℕ × ℕ} → a ≡ Err x → x.1 ≤ most_tree_words
        slip_within e = ∥∥₁_elim (some_types types) le_prop (λ t. omega (arith, tree_refused_within t.0 0 (uncounted slip) (answer_refused (read_tree t.0 (uncounted slip)) a (plain_read t.0 t.1) e), uncounted_length slip))

        pub slip_refused : {x : ℕ × ℕ} → a ≡ Err x → (q : ℕ) → q ≡ place_in x.1 → Answers b₁ (Err (x.0, q))
        unfolding in_slip
        slip_refused e q eq = refused_read (λ g t. slip_fits g ∙ rw (answer_refused (read_tree g (uncounted slip)) a (plain_read g t) e, eq))

        -- .. and marked there
        module _ {p : ℕ} (e : a ≡ Ok p) (b₂ : Words) (m : TreeMarked types.types b₁ b₂ 0 end) (r : Result ℕ (ℕ × ℕ)) (er : r ≡ answer (counts_as slip (take end b₂) 0)) where
          module _ (g : Grammar) (t : TypesOf g types.types) where
            plain_tree : Tree g 0 (uncounted slip)
            plain_tree = accepted_tree g 0 (uncounted slip) (rw (answer_passed (read_tree g (uncounted slip)) a (plain_read g t) e).1)

            whole : b₂ ≡ marked g (uncounted slip) ++ drop end b
            whole = laid_marked g (uncounted slip) types.types b b₁ b₂ end (uncounted_length slip) t plain_tree eb m

            marked_there : take end b₂ ≡ marked g (uncounted slip)
            marked_there = ap (take end) whole ∙ take_at (marked g (uncounted slip)) (drop end b) end (marked_length g (uncounted slip) ∙ uncounted_length slip)

            counts_read : r ≡ answer (right_counts g slip 0)
            counts_read = er ∙ ap (λ l. answer (counts_as slip l 0)) marked_there ∙ ap answer (counts_marks g (0 ∷ []) slip 0 t.heads_of.types plain_tree.nodes plain_tree.typed)

            last : read_slip g slip ≡ and_then (right_counts g slip 0) (λ u. return (uncounted slip))
            unfolding in_slip
            last = slip_fits g ∙ rw (answer_passed (read_tree g (uncounted slip)) a (plain_read g t) e).1

          pub slip_passed : Answers b₂ r
          slip_passed = record {
            answered = λ g t. counts_read g t ∙ answer_map (right_counts g slip 0) (λ u. uncounted slip) ∙ ap answer (sym (last g t));
            tree = λ g ws next t h.
                let q = (then_value (right_counts g slip 0) (λ u. return (uncounted slip)) (sym (last g t) ∙ h)).3 in
                let same : uncounted slip ≡ ws = cc in
                let n : end ≡ length ws = sym (uncounted_length slip) ∙ ap length same in
                whole g t ∙ rw (same, n);
          }

-- THE TWO-WORD EDITION

module _ (types : GrammarTypes) (slip w : Words) (a : Result ℕ (ℕ × ℕ)) (read : OfTypes types.types (λ g. a ≡ answer (read_tree g slip))) where
  abbrev Plain : Words → Result ℕ (ℕ × ℕ) → Type 0
  Plain w' r = SlipRead (λ g. read_edition false g slip) types.types w w' r

  pub plain_refused : {x : ℕ × ℕ} → a ≡ Err x → Plain w (Err x)
  unfolding read_edition
  plain_refused {x} e =
      let s : ReadBeside (λ g. read_edition false g slip) types.types w w (Err x) = refused_read (λ g t. rw (answer_refused (read_tree g slip) a (read g t) e)) in
      record { answered = s.answered; long = refl; kept = λ h. refl; short = λ h. refl; tree = λ g ws next t h room. s.tree g ws next t h }

  module _ {p : ℕ} (e : a ≡ Ok p) where
    tree_here : (g : Grammar) → TypesOf g types.types → Tree g 0 slip
    tree_here g t = accepted_tree g 0 slip (rw (answer_passed (read_tree g slip) a (read g t) e).1)

    plain_answered : OfTypes types.types (λ g. Ok p ≡ answer (read_edition false g slip))
    unfolding read_edition
    plain_answered g t = rw (answer_passed (read_tree g slip) a (read g t) e).1

    no_refusal : {w' : Words} {x : ℕ × ℕ} → Ok p ≡ Err x → w' ≡ w
    no_refusal h = cc

    pub plain_fits : length slip ≤ most_tree_words
    plain_fits = ∥∥₁_elim (some_types types) le_prop (λ t. let x = tree_here t.0 t.1 in omega (arith, trees_even x.typed, x.nodes))

    pub plain_short : length w < most_tree_words → Plain w (Ok p)
    plain_short few = record { answered = plain_answered; long = refl; kept = no_refusal; short = λ h. refl; tree = λ g ws next t h room. absurd (omega arith) }

    pub plain_passed : most_tree_words ≤ length w → (w₁ : Words) → w₁ ≡ slip ++ drop (length slip) w → (w₂ : Words) → length w₂ ≡ length w → TreeMarked types.types w₁ w₂ 0 (length slip) → Plain w₂ (Ok p)
    unfolding read_edition
    plain_passed room w₁ ew w₂ long m = record {
      answered = plain_answered;
      long = long;
      kept = no_refusal;
      short = λ few. absurd (omega arith);
      tree = λ g ws next t h enough.
          let q = (then_value (read_tree g slip) (λ u. return slip) h).3 in
          let same : slip ≡ ws = cc in
          laid_marked g slip types.types w w₁ w₂ (length slip) refl t (tree_here g t) ew m ∙ rw same;
    }

-- EITHER EDITION

module _ (counted : Bool) (types : Types) (slip w w' : Words) (r : Result ℕ (ℕ × ℕ)) where
  pub edition_counted : counted ≡ true → SlipRead (λ g. read_slip g slip) types w w' r → SlipRead (λ g. read_edition counted g slip) types w w' r
  unfolding read_edition
  edition_counted e s = rw e s

  pub edition_plain : counted ≡ false → SlipRead (λ g. read_edition false g slip) types w w' r → SlipRead (λ g. read_edition counted g slip) types w w' r
  edition_plain e s = rw e s

-- THE SINGLE CHECK

module _ (gs slip : Words) {c : Result ℕ (ℕ × ℕ)} (is : c ≡ answer (check_grammar gs)) where
  pub check_refused : {x : ℕ × ℕ} → c ≡ Err x → Err x ≡ answer (check_slip gs slip)
  unfolding check_slip
  check_refused e = rw (answer_refused (check_grammar gs) c is e)

  module _ {p : ℕ} (e : c ≡ Ok p) where
    checked : (g : Grammar) × (check_grammar gs ≡ value g p)
    checked = answer_passed (check_grammar gs) c is e

    grammar_read : read_grammar gs ≡ value checked.0 p
    unfolding check_grammar grammar_fits
    grammar_read = (require_value (leb (length gs) most_grammar_words) 4 0 0 (λ u next. read_grammar gs) checked.1).1

    pub check_accepted : accepted (read_grammar gs) ≡ true
    check_accepted = rw grammar_read

    pub check_read : {types : Types} {b b' : Words} {r : Result ℕ (ℕ × ℕ)} → TypesOf (read_of (read_grammar gs)) types → SlipRead (λ g. read_slip g slip) types b b' r → r ≡ answer (check_slip gs slip)
    unfolding check_slip
    check_read t s = s.answered (read_of (read_grammar gs)) t ∙ rw (grammar_read, checked.1)

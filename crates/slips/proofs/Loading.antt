-- The slip's tree is read in a buffer beside the memory that is lent for it, and copied there, marked as it is. Assumes nothing.
use Prim.Native.Nat.{ℕ, ◌*◌, ◌/◌, ◌<◌, ◌≤◌}
use mathlib.Core.Path.{◌≡◌, refl, sym, ap, ap₂, ◌∙◌}
use mathlib.Core.List.{◌++◌}
use Rattle.std.proofs.Math.Logic.{∥∥₁_elim}
use native.Mathlib.Bridge.{le_prop}
use native.Mathlib.Omega.{arith}
use lib.ListN.{length, take, drop}
use lib.Seq.{take_at, length-take-le}
use Rattle.words.specs.Reader.{Words, value}
use Rattle.std.specs.Prelude.{Result, Ok, Err}
use Rattle.words.specs.Views.{answer}
use Rattle.words.proofs.Laws.{answer_passed}
use Rattle.words.proofs.Stretches.{over_length}
use Rattle.grammar.specs.Grammar.{Grammar}
use Rattle.tree.specs.Limits.{most_tree_words}
use Rattle.tree.specs.Tree.{Tree}
use Rattle.tree.specs.Slip.{read_slip}
use Rattle.tables.specs.Types.{OfTypes}
use Rattle.tables.specs.declared.grammar_types.GrammarTypes.{GrammarTypes}
use Rattle.tree.proofs.Reading.{some_types}
use Rattle.tree.proofs.Trees.{trees_even}
use Rattle.tree.proofs.Slip.{counted_length, slip_sound}
use Rattle.marks.specs.Marked.{marked}
use Rattle.marks.proofs.Marks.{marked_length}
use Rattle.slips.specs.Slips.{ReadBeside, SlipRead}

-- THE TREE IN THE MEMORY, or the slip refused

module _ (types : GrammarTypes) (slip b b' w : Words) (c : Result ℕ (ℕ × ℕ)) (s : ReadBeside (λ g. read_slip g slip) types.types b b' c) where
  abbrev Answers : Words → Result ℕ (ℕ × ℕ) → Type 0
  Answers w' r = SlipRead (λ g. read_slip g slip) types.types w w' r

  pub beside_refused : {x : ℕ × ℕ} → c ≡ Err x → Answers w (Err x)
  beside_refused {x} e = record {
    answered = λ g t. sym e ∙ s.answered g t;
    long = refl;
    kept = λ h. refl;
    short = λ h. refl;
    tree = λ g ws next t q room. let h : Err x ≡ Ok next = sym e ∙ s.answered g t ∙ ap answer q in cc;
  }

  abbrev end : ℕ
  end = 2 * (length slip / 3)

  module _ {p : ℕ} (e : c ≡ Ok p) where
    no_refusal : {w' : Words} {x : ℕ × ℕ} → Ok p ≡ Err x → w' ≡ w
    no_refusal h = cc

    pub beside_short : length w < most_tree_words → Answers w (Ok p)
    beside_short few = record { answered = λ g t. sym e ∙ s.answered g t; long = refl; kept = λ h. refl; short = λ h. refl; tree = λ g ws next t q room. absurd (omega arith) }

    -- the slip is a tree with its counts, so that it has as many nodes as the tree
    record Whole (g : Grammar) (ws : Words) : Type 0 where
      tree : Tree g 0 ws
      words : end ≡ length ws

    whole : (g : Grammar) (ws : Words) (next : ℕ) → read_slip g slip ≡ value ws next → Whole g ws
    whole g ws next q =
        let x = slip_sound g slip ws next q in
        record { tree = x.0; words = omega (arith, ap length x.1, counted_length g ws, trees_even x.0.typed) }

    read : OfTypes types.types (λ g. (ws : Words) × (read_slip g slip ≡ value ws p))
    read g t = answer_passed (read_slip g slip) c (s.answered g t) e

    pub slip_fits : end ≤ most_tree_words
    slip_fits = ∥∥₁_elim (some_types types) le_prop (λ t.
        let r = read t.0 t.1 in
        let x = whole t.0 r.0 p r.1 in
        omega (arith, x.words, trees_even x.tree.typed, x.tree.nodes))

    module _ (many : end ≤ length b') (room : most_tree_words ≤ length w) (w' : Words) (is : w' ≡ take end b' ++ drop (length (take end b')) w) where
      part_long : length (take end b') ≡ end
      part_long = length-take-le end b' many

      pub beside_passed : Answers w' (Ok p)
      beside_passed = record {
        answered = λ g t. sym e ∙ s.answered g t;
        long = ap length is ∙ over_length (take end b') w (omega (arith, part_long, slip_fits));
        kept = λ h. no_refusal h;
        short = λ h. absurd (omega arith);
        tree = λ g ws next t q r.
            let n : end ≡ length ws = (whole g ws next q).words in
            let there : take end b' ≡ marked g ws = ap (λ i. take i b') n ∙ ap (take (length ws)) (s.tree g ws next t q) ∙ take_at (marked g ws) (drop (length ws) b) (length ws) (marked_length g ws) in
            is ∙ ap₂ (λ l i. l ++ drop i w) there (part_long ∙ n);
      }

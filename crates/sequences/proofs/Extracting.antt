-- The trees of the element's type in a tree below, appended to a sequence. Assumes nothing.
use Rattle.sequences.proofs.Sealing.{no_ok}
use Rattle.std.specs.Prelude.{Result, Ok, Err}
use Prim.Native.Nat.{ℕ, suc, ◌+◌, ◌-◌, ◌*◌, ◌≤◌, ◌<◌}
use mathlib.Core.Path.{◌≡◌, refl, sym, ◌∙◌, subst}
use mathlib.Core.List.{List, [], ◌∷◌, ◌++◌}
use native.Mathlib.Omega.{arith}
use lib.ListN.{get_or, take, drop}
use Rattle.words.specs.Reader.{Words}
use Rattle.grammar.specs.Grammar.{Grammar}
use Rattle.grammar.specs.Kinds.{children}
use Rattle.tables.specs.Types.{OfRows, TypesOf}
use Rattle.tables.specs.declared.types.Types.{Types}
use Rattle.tree.specs.Limits.{most_nodes}
use Rattle.tree.specs.Tree.{size}
use Rattle.tree.specs.Sequences.{element_of, spine, sequence_of, elements, EachTree, taken}
use Rattle.tree.proofs.Sequences.{each_append, sequence_size, taken_typed, taken_elements}
use Rattle.meaning.specs.Limits.{most_live}
use Rattle.marks.specs.Marked.{type_in, Stands, UnderWay}
use Rattle.rewrite.specs.Arena.{NodesAt}
use Rattle.sequences.specs.Listed.{CollectedAs, Listed, before, Loosened, Made, Finishes, Below, JoinsSequence, Collects, Extracts}
use Rattle.sequences.proofs.Listing.{before_append, listed_nodes, listed_types}
use Rattle.sequences.proofs.Loosening.{last_is, loosened_all}
use Rattle.sequences.proofs.Joining.{made_from, made_many, stopped_many, stands_type, alike}

module _ (types : Types) (w : Words) (base n start under besides m t e : ℕ) (some : 1 ≤ n) (held : besides ≤ most_live) (et : t ≡ type_in (get_or w base 0)) (ee : OfRows types (λ g. e ≡ get_or (children g t 0) 0 0))
    (at : NodesAt w start base m) where
  -- from a sequence of the same type, which is not of itself, all elements
  pub extracts_sequence : (t ≡ e → ⊥) → (b : ℕ) → b ≡ type_in (get_or w start 0) → b ≡ t → (w' : Words) (r : Result ℕ ℕ) → JoinsSequence types w w' base n start m under besides r → Extracts types w w' base n start under besides r
  extracts_sequence other b eb same w' r j = record {
    long = j.long;
    few = j.few;
    fits = j.fits;
    meant = λ g k es u tb x s.
        let is = listed_types types t e et ee tb x in
        let y = alike u at x s (sym (stands_type w base x.types s) ∙ sym eb ∙ same ∙ is.0) in
        let all : taken g (element_of g k) u ≡ elements g u = taken_elements g k x.is (λ q. other (is.0 ∙ q ∙ sym is.1)) u y.tree in
        subst (λ us. Made g w w' base under besides k (sequence_of k (es ++ us)) r) (sym all) (j.meant g k es (elements g u) tb x y.each y.below);
  }

  -- what is made
  each_made : {g : Grammar} {k : ℕ} (es : List Words) (u : Words) → Listed g w base n k es → Stands g (take base w) start u → EachTree g (element_of g k) (es ++ taken g (element_of g k) u)
  each_made {g} {k} es u x s =
      each_append g (element_of g k) es (taken g (element_of g k) u) x.each (taken_typed g (element_of g k) (s.type ∷ []) u s.tree.typed)

  made_size : {g : Grammar} {k : ℕ} (es : List Words) (u : Words) → Listed g w base n k es → Stands g (take base w) start u
      → size (sequence_of k (es ++ taken g (element_of g k) u)) ≡ suc (before (es ++ taken g (element_of g k) u))
  made_size {g} {k} es u x s = sequence_size g (element_of g k) k (es ++ taken g (element_of g k) u) (each_made es u x s)

  pub extracted_many : {number : ℕ} → (most_nodes < under + n) × (number ≡ 42) → Extracts types w w base n start under besides (Err number)
  extracted_many h = stopped_many w besides (λ g k es u tb x s. made_many h.1 refl (omega (arith, h.0, made_size es u x s, listed_nodes x, before_append es (taken g (element_of g k) u))))

  module _ (most : ℕ) (r : Result ℕ ℕ) (em : most ≡ most_nodes - under - 1) (room : under + n ≤ most_nodes) (w₁ w₂ : Words) (l : Loosened w w₁ base (n - 1)) (c : Collects w₁ w₂ e t base (n - 1) start m most r) where
    -- what was collected
    gathered : {g : Grammar} {k : ℕ} (es : List Words) (u : Words) → TypesOf g types → Listed g w base n k es → Stands g (take base w) start u → CollectedAs g w₂ k base most (es ++ taken g (element_of g k) u) r
    gathered {g} {k} es u tb x s =
        let is = listed_types types t e et ee tb x in
        let below : Below g w₁ base start m u = record { nodes = at.stands g u x.types s; stands = subst (λ v. Stands g v start u) (sym l.below) s } in
        let y = c.collected g es u x.types below (last_is l x) (subst (λ j. UnderWay g (take (2 * (n - 1)) (drop base w₁)) (spine j es)) (sym is.0) (loosened_all l x)) in
        subst (λ j. CollectedAs g w₂ k base most (es ++ taken g j u) r) is.1 (subst (λ j. CollectedAs g w₂ j base most (es ++ taken g e u) r) is.0 y)

    pub extracted_over : {number : ℕ} → r ≡ Err number → Extracts types w w₂ base n start under besides (Err number)
    extracted_over {number} over = record {
      long = c.long ∙ l.long;
      few = λ z. absurd (no_ok z);
      fits = λ z. absurd (no_ok z);
      meant = λ g k es u tb x s.
          let y : CollectedAs g w₂ k base most (es ++ taken g (element_of g k) u) (Err number) = rw over at (gathered es u tb x s) in
          made_many y.1 (c.below ∙ l.below) (omega (arith, made_size es u x s, y.0));
    }

    pub extracted_there : {nodes : ℕ} → r ≡ Ok nodes → (w₃ : Words) (r' : Result ℕ ℕ) → Finishes types w₂ w₃ t base nodes besides r' → Extracts types w w₃ base n start under besides r'
    extracted_there {nodes} there w₃ r' f = record {
      long = f.long ∙ c.long ∙ l.long;
      few = f.few;
      fits = f.fits;
      meant = λ g k es u tb x s.
          let is = listed_types types t e et ee tb x in
          let y : CollectedAs g w₂ k base most (es ++ taken g (element_of g k) u) (Ok nodes) = rw there at (gathered es u tb x s) in
          let fs = es ++ taken g (element_of g k) u in
          let f' : Finishes types w₂ w₃ k base nodes besides r' = subst (λ j. Finishes types w₂ w₃ j base nodes besides r') is.0 f in
          made_from (c.below ∙ l.below) (f'.meant g under fs tb x.is (each_made es u x s) y.0 (omega (arith, c.few there)) y.1);
    }

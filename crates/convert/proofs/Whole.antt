-- EACH SLIP OF A THAT NOTHING REFUSES IS CONVERTED node for node and is then a slip of B, and nothing else is converted. Assumes nothing.
use Prim.Native.Nat.{ℕ, ◌≤◌}
use mathlib.Core.Path.{◌≡◌, refl}
use mathlib.Core.List.{List, [], ◌∷◌}
use mathlib.Core.Bool.{Bool, true}
use native.Mathlib.Omega.{arith}
use lib.ListN.{length}
use lib.Dec.{leb}
use borrow.Author.Tests.{le-leb, leb-true}
use Rattle.words.specs.Reader.{Words, Read, value, refused, require}
use Rattle.words.proofs.Laws.{pick_value, require_value}
use Rattle.grammar.specs.Limits.{most_grammar_words}
use Rattle.grammar.specs.Grammar.{Grammar, read_grammar, grammar_fits, check_grammar}
use Rattle.tree.specs.Limits.{most_slip_words}
use Rattle.tree.specs.Tree.{Tree, nesting}
use Rattle.tree.specs.Slip.{counted, read_edition, in_edition, check_slip}
use Rattle.tree.proofs.Slip.{slip_exactly}
use Rattle.convert.specs.declared.refusal.AtFault.{AtFault}
use Rattle.convert.specs.declared.refusal.AtFault.TheVariants.{Neither, Old, New}
use Rattle.convert.specs.Table.{Entry, read_table, Fits, written}
use Rattle.convert.specs.Conversion.{converted, Conversion, converted_to, or_refused, conversion_between, conversion, Convertible, BecomesSlip, ConvertedFrom, ConvertsExactly}
use Rattle.convert.proofs.Exactly.{table_exactly}
use Rattle.convert.proofs.Converting.{converts, converted_size, nesting_converts}

-- WHAT WAS READ on the way

went_on : {A : Type 0} (which : AtFault) (q : Read A) (f : A → Conversion) {ws : Words} → or_refused which q f ≡ converted_to ws → (x : A) × (next : ℕ) × (q ≡ value x next) × (f x ≡ converted_to ws)
unfolding or_refused
went_on which (value x next) f e = (x, next, refl, e)
went_on which (refused n p) f e = let z : ◌≡◌ {A = ℕ} 0 1 = cc in absurd (omega arith)

-- a grammar that is not too long and read passes its check
checked : (gs : Words) (g : Grammar) (next : ℕ) {u : Unit {0}} {p : ℕ} → grammar_fits gs 0 ≡ value u p → read_grammar gs ≡ value g next → check_grammar gs ≡ value g next
unfolding check_grammar
checked gs g next e h = rw (e, h)

-- .. and the other way
unchecked : (gs : Words) (g : Grammar) (next : ℕ) → check_grammar gs ≡ value g next → (grammar_fits gs 0 ≡ value tt 0) × (read_grammar gs ≡ value g next)
unfolding check_grammar grammar_fits
unchecked gs g next e = let u = require_value (leb (length gs) most_grammar_words) 4 0 0 (λ u next. read_grammar gs) e in (rw u.0, u.1)

room : (n : ℕ) {u : Unit {0}} {p : ℕ} → require (leb most_slip_words n) 1 0 0 ≡ value u p → most_slip_words ≤ n
room n {u} {p} e = leb-true most_slip_words n (pick_value (leb most_slip_words n) tt u 0 1 0 p e).0

-- WHAT THE TREE BECOMES

becomes : {news : Words} {a b : Grammar} {es : List Entry} {tree : Words} (next : ℕ) → check_grammar news ≡ value b next → Fits a b es → Tree a 0 tree → BecomesSlip news a b es tree (counted b (converted a es tree))
unfolding nesting check_slip read_edition in_edition
becomes {news} {a} {b} {es} {tree} next g f x =
    let y = converts f x in
    record {
      words = refl;
      one_tree = y;
      nodes = converted_size a es tree;
      nested = nesting_converts f x.typed (1 ∷ []);
      passes = rw g ((slip_exactly true b (counted b (converted a es tree)) (converted a es tree)).complete y refl);
    }

-- THE THEOREM

module _ (edition : Bool) (n : ℕ) (olds news ts ss ws : Words) where
  by_tree : (a b : Grammar) (es : List Entry) (tree : Words) (p q : ℕ) → most_slip_words ≤ n → check_grammar olds ≡ value a p → check_grammar news ≡ value b q → (ts ≡ written es) × Fits a b es → Tree a 0 tree × (ss ≡ in_edition edition a tree)
      → converted_to (counted b (converted a es tree)) ≡ converted_to ws → ConvertedFrom edition n olds news ts ss ws
  by_tree a b es tree p q big old new t x e =
      let same : counted b (converted a es tree) ≡ ws = cc e in
      record {
        room = big;
        a = a;
        b = b;
        es = es;
        tree = tree;
        convertible = record { old = (p, old); new = (q, new); table = t.0; fits = t.1; slip = x.1; one_tree = x.0 };
        becomes = rw same at (becomes q new t.1 x.0);
      }

  by_table : (a b : Grammar) (p q : ℕ) → most_slip_words ≤ n → check_grammar olds ≡ value a p → check_grammar news ≡ value b q → conversion_between edition a b ts ss ≡ converted_to ws → ConvertedFrom edition n olds news ts ss ws
  unfolding conversion_between
  by_table a b p q big old new h =
      let t = went_on Neither (read_table a b ts) _ h in
      let s = went_on Neither (read_edition edition a ss) _ t.3 in
      by_tree a b t.0 s.0 p q big old new ((table_exactly a b ts t.0).sound t.1 t.2) ((slip_exactly edition a ss s.0).sound (s.1, s.2)) s.3

  found : conversion edition n olds news ts ss ≡ converted_to ws → ConvertedFrom edition n olds news ts ss ws
  unfolding conversion
  found h =
      let r = went_on Neither (require (leb most_slip_words n) 1 0 0) _ h in
      let la = went_on Old (grammar_fits olds 0) _ r.3 in
      let lb = went_on New (grammar_fits news 0) _ la.3 in
      let a = went_on Old (read_grammar olds) _ lb.3 in
      let b = went_on New (read_grammar news) _ a.3 in
      by_table a.0 b.0 a.1 b.1 (room n r.2) (checked olds a.0 a.1 la.2 a.2) (checked news b.0 b.1 lb.2 b.2) b.3

  made : (a b : Grammar) (es : List Entry) (tree : Words) → most_slip_words ≤ n → Convertible edition olds news ts ss a b es tree → ws ≡ counted b (converted a es tree) → conversion edition n olds news ts ss ≡ converted_to ws
  unfolding conversion conversion_between or_refused
  made a b es tree big c e =
      let old = unchecked olds a c.old.0 c.old.1 in
      let new = unchecked news b c.new.0 c.new.1 in
      rw (le-leb most_slip_words n big, old.0, new.0, old.1, new.1, (table_exactly a b ts es).complete c.table c.fits, (slip_exactly edition a ss tree).complete c.one_tree c.slip, e)

-- THE CONVERSION GIVES A SLIP exactly if nothing is refused, and it is then that slip of B
pub converts_exactly : (edition : Bool) (n : ℕ) (olds news ts ss ws : Words) → ConvertsExactly edition n olds news ts ss ws
converts_exactly edition n olds news ts ss ws = record { sound = found edition n olds news ts ss ws; complete = made edition n olds news ts ss ws }

-- The table read, the slip read and written, and the outcome. Assumes nothing.
use Prim.Native.Nat.{ℕ, zero, suc, ◌+◌, ◌*◌, ◌<◌, ◌≤◌}
use mathlib.Core.Path.{◌≡◌, refl, sym, ap, ◌∙◌}
use mathlib.Core.List.{List, [], ◌∷◌, ◌++◌}
use mathlib.Core.Bool.{Bool, true, false}
use Rattle.std.proofs.Math.Logic.{∥∥₁_elim}
use native.Mathlib.Bridge.{le_prop}
use native.Mathlib.Omega.{arith}
use lib.ListN.{length, take, drop}
use lib.Seq.{take_at, drop_at, drop-drop}
use borrow.Author.Tests.{eq-eqb, ne_eqb, le-leb, lt-leb}
use Rattle.std.specs.Prelude.{Result, Ok, Err}
use Rattle.words.specs.Reader.{Words, Read, value, refused, accepted}
use Rattle.words.specs.Views.{answer}
use Rattle.words.proofs.Laws.{answer_passed, answer_refused}
use Rattle.grammar.specs.Grammar.{Grammar, read_grammar, grammar_fits}
use Rattle.grammar.specs.Kinds.{kind_of, forms_of}
use Rattle.tables.specs.Tables.{read_of}
use Rattle.tables.specs.Types.{TypesOf}
use Rattle.tables.specs.declared.grammar_types.GrammarTypes.{GrammarTypes}
use Rattle.tree.specs.Tree.{Tree, size}
use Rattle.tree.specs.Slip.{counted, read_edition, in_edition}
use Rattle.tree.proofs.Reading.{some_types}
use Rattle.tree.proofs.Trees.{trees_even}
use Rattle.tree.proofs.Slip.{counted_length, slip_exactly}
use Rattle.marks.specs.Marked.{marked}
use Rattle.marks.proofs.Marks.{marked_length}
use Rattle.slips.specs.Slips.{SlipRead}
use Rattle.convert.specs.Table.{Entry, whole_table, entry_of, type_to, types_fit, read_table, Fits}
use Rattle.convert.specs.Conversion.{converted, Conversion, refused_by, or_refused, conversion_between, conversion, result_after, converted_as, Converts}
use Rattle.convert.specs.Refusals.{blamed, passed}
use Rattle.convert.specs.Views.{Shows, Seen, type_at, Placed, Numbered, ReadAs, ReadTo, WholeRead, TypesTested, TableRead, TableChecked, TreeConverted, nodes_in, SlipConverted}
use Rattle.convert.specs.declared.refusal.AtFault.{AtFault}
use Rattle.convert.specs.declared.refusal.AtFault.TheVariants.{Neither, Old, New}
use Rattle.convert.specs.declared.refusal.ConversionRefusal.{ConversionRefusal}
use Rattle.convert.specs.declared.side.Side.{Side}
use Rattle.convert.specs.declared.view.View.{View}
use Rattle.convert.specs.declared.table.Table.{Table}
use Rattle.convert.proofs.Exactly.{table_exactly, EntriesNamed, none_named, one_named, fits_named, table_read}
use Rattle.convert.proofs.Converting.{converted_size}

-- AS MANY NUMBERS AS FORMS

named_numbered : {b ks : Grammar} {es : List Entry} → EntriesNamed b ks es → (t : ℕ) → length (entry_of es t).numbers ≡ length (forms_of (kind_of ks t))
unfolding entry_of kind_of forms_of
named_numbered none_named t = refl
named_numbered (one_named n more) zero = n.count
named_numbered (one_named n more) (suc t) = named_numbered more t

named_count : {b ks : Grammar} {es : List Entry} → EntriesNamed b ks es → length es ≡ length ks
named_count none_named = refl
named_count (one_named n more) = ap suc (named_count more)

pub fits_numbered : (a b : Grammar) (es : List Entry) → Fits a b es → Numbered a es
fits_numbered a b es f = named_numbered (fits_named f.types)

-- BOTH READINGS

both_refused : (a b : Grammar) (ts : Words) {no' p : ℕ} → whole_table ts b a 0 ≡ refused no' p → read_table a b ts ≡ refused no' p
unfolding read_table
both_refused a b ts e = rw e

both_root : (a b : Grammar) (ts : Words) (es : List Entry) (p : ℕ) → whole_table ts b a 0 ≡ value es p → (type_to es 0 ≡ 0 → ⊥) → read_table a b ts ≡ refused 61 0
unfolding read_table
both_root a b ts es p e h = rw (e, ne_eqb (type_to es 0) 0 h)

both_misfit : (a b : Grammar) (ts : Words) (es : List Entry) (p : ℕ) {n q : ℕ} → whole_table ts b a 0 ≡ value es p → type_to es 0 ≡ 0 → types_fit b es a es 0 ≡ refused n q → read_table a b ts ≡ refused n q
unfolding read_table
both_misfit a b ts es p e h m = rw (e, eq-eqb (type_to es 0) 0 h, m)

both_fit : (a b : Grammar) (ts : Words) (es : List Entry) (p : ℕ) {u : Unit {0}} {q : ℕ} → whole_table ts b a 0 ≡ value es p → type_to es 0 ≡ 0 → types_fit b es a es 0 ≡ value u q → read_table a b ts ≡ value es q
unfolding read_table
both_fit a b ts es p e h m = rw (e, eq-eqb (type_to es 0) 0 h, m)

-- what was read where there is a table
read_there : (ts : Words) (q : Read (List Entry)) (table : Table) → ReadAs ts q (Ok table) → (es : List Entry) × (next : ℕ) × (q ≡ value es next) × Placed table es
read_there ts (value es next) table h = (es, next, refl, h.1)
read_there ts (refused n p) table h = absurd h

-- the table is of the words that were read
read_words : (ts : Words) (q : Read (List Entry)) (table : Table) → ReadAs ts q (Ok table) → table.words.now ≡ ts
read_words ts (value es next) table h = h.0
read_words ts (refused n p) table h = absurd h

-- a reading with its end that is refused
to_refused : (ts : Words) (q : Read (List Entry)) {x : ℕ × ℕ} → q ≡ refused x.0 x.1 → ReadTo ts q (Err x)
to_refused ts q e = rw e

module _ (s s' : View) (ts : Words) {c : Result Table (ℕ × ℕ)} (w : WholeRead s.types.now s'.types.now ts c) where
  pub read_refused : {x : ℕ × ℕ} → c ≡ Err x → TableRead s s' ts (Err x)
  read_refused {x} f = λ a b sa sb. go a b (whole_table ts b a 0) refl (rw f at (w a b sa.types sb.types))
    where
      go : (a b : Grammar) (q : Read (List Entry)) → whole_table ts b a 0 ≡ q → ReadAs ts q (Err x) → ReadTo ts (read_table a b ts) (Err x)
      go a b (value es next) e h = absurd h
      go a b (refused n p) e h = rw (both_refused a b ts e) h

  module _ {table : Table} (f : c ≡ Ok table) {root : ℕ} (found : root ≡ type_at table 0) where
    whole : (a b : Grammar) → Seen s a → Seen s' b → (es : List Entry) × (next : ℕ) × (whole_table ts b a 0 ≡ value es next) × Placed table es
    whole a b sa sb = read_there ts (whole_table ts b a 0) table (rw f at (w a b sa.types sb.types))

    pub read_root : (root ≡ 0 → ⊥) → TableRead s s' ts (Err (61, 0))
    read_root h = λ a b sa sb. let u = whole a b sa sb in to_refused ts (read_table a b ts) (both_root a b ts u.0 u.1 u.2 (λ z. h (found ∙ u.3.type 0 ∙ z)))

    module _ (h : root ≡ 0) {r : Result ℕ (ℕ × ℕ)} (tested : TypesTested s s' table r) where
      fit : (a b : Grammar) (sa : Seen s a) (sb : Seen s' b) → let u = whole a b sa sb in r ≡ answer (types_fit b u.0 a u.0 0)
      fit a b sa sb =
          let u = whole a b sa sb in
          let l = (table_read a b ts u.0 u.1 u.2).named_all in
          tested a b u.0 sa sb (named_count l) u.3 (named_numbered l)

      pub read_misfit : {x : ℕ × ℕ} → r ≡ Err x → TableRead s s' ts (Err x)
      read_misfit g = λ a b sa sb.
          let u = whole a b sa sb in
          to_refused ts (read_table a b ts) (both_misfit a b ts u.0 u.1 u.2 (sym (u.3.type 0) ∙ sym found ∙ h) (answer_refused (types_fit b u.0 a u.0 0) r (fit a b sa sb) g))

      pub read_fits : {p : ℕ} → r ≡ Ok p → TableRead s s' ts (Ok (table, p))
      read_fits g = λ a b sa sb.
          let u = whole a b sa sb in
          rw (both_fit a b ts u.0 u.1 u.2 (sym (u.3.type 0) ∙ sym found ∙ h) (answer_passed (types_fit b u.0 a u.0 0) r (fit a b sa sb) g).1) (read_words ts (whole_table ts b a 0) table (rw f at (w a b sa.types sb.types)), u.3, refl)

-- the table alone, without its end
module _ (ts : Words) (q : Read (List Entry)) {c : Result (Table × ℕ) (ℕ × ℕ)} (is : ReadTo ts q c) where
  pub table_bad : {x : ℕ × ℕ} → c ≡ Err x → ReadAs ts q (Err x)
  table_bad {x} e = go q (rw e at is)
    where
      go : (q : Read (List Entry)) → ReadTo ts q (Err x) → ReadAs ts q (Err x)
      go (value es next) h = absurd h
      go (refused n p) h = h

  pub table_alone : {x : Table × ℕ} → c ≡ Ok x → ReadAs ts q (Ok x.0)
  table_alone {x} e = go q (rw e at is)
    where
      go : (q : Read (List Entry)) → ReadTo ts q (Ok x) → ReadAs ts q (Ok x.0)
      go (value es next) h = (h.0, h.1)
      go (refused n p) h = absurd h

-- THE WHOLE CONVERSION

-- a refusal, which leaves the result as it was
refuses : {o : Conversion} {r : Words} {which : AtFault} {n p : ℕ} → o ≡ refused_by which n p → Converts o r r (Err (blamed which (n, p)))
unfolding converted_as result_after
refuses e = record { answered = rw e; result = rw e }

-- a reading that stops the conversion
stopped : {A : Type 0} (which : AtFault) (q : Read A) {c : Result (Unit {0}) ConversionRefusal} → c ≡ passed which q → {x : ConversionRefusal} → c ≡ Err x → (q ≡ refused x.refusal.0 x.refusal.1) × (x ≡ blamed which x.refusal)
stopped which (value a next) e h = let z = sym h ∙ e in cc
stopped which (refused n p) e {x} h =
    let same : x ≡ blamed which (n, p) = let z = sym h ∙ e in cc in
    rw same (refl, refl)

hands_on : {o : Conversion} {r : Words} {which : AtFault} {x : ConversionRefusal} → o ≡ refused_by which x.refusal.0 x.refusal.1 → x ≡ blamed which x.refusal → Converts o r r (Err x)
unfolding converted_as result_after
hands_on e h = record { answered = rw e (ap Err h); result = rw e }

-- .. or that goes on
went : {A : Type 0} (which : AtFault) (q : Read A) {c : Result (Unit {0}) ConversionRefusal} → c ≡ passed which q → {u : Unit {0}} → c ≡ Ok u → (a : A) × (next : ℕ) × (q ≡ value a next)
went which (value a next) e h = (a, next, refl)
went which (refused n p) e h = let z = sym e ∙ h in cc

pub passes : (which : AtFault) (ws : Words) {c : Result (Unit {0}) ConversionRefusal} → c ≡ passed which (read_grammar ws) → {u : Unit {0}} → c ≡ Ok u → accepted (read_grammar ws) ≡ true
passes which ws e h = ap accepted (went which (read_grammar ws) e h).2

module _ (edition : Bool) (olds news ts ss r : Words) where
  abbrev Whole : Words → Result ℕ ConversionRefusal → Type 0
  Whole r' x = Converts (conversion edition (length r) olds news ts ss) r r' x

  pub whole_small : length r < 6144 → Whole r (Err (blamed Neither (1, 0)))
  unfolding conversion or_refused
  whole_small h = refuses (rw (lt-leb 6144 (length r) h))

  module _ (room : 6144 ≤ length r) {c₁ : Result (Unit {0}) ConversionRefusal} (e₁ : c₁ ≡ passed Old (grammar_fits olds 0)) where
    pub old_long : {x : ConversionRefusal} → c₁ ≡ Err x → Whole r (Err x)
    unfolding conversion or_refused
    old_long f = let z = stopped Old (grammar_fits olds 0) e₁ f in hands_on (rw (le-leb 6144 (length r) room, z.0)) z.1

    module _ {u₁ : Unit {0}} (f₁ : c₁ ≡ Ok u₁) {c₂ : Result (Unit {0}) ConversionRefusal} (e₂ : c₂ ≡ passed New (grammar_fits news 0)) where
      pub new_long : {x : ConversionRefusal} → c₂ ≡ Err x → Whole r (Err x)
      unfolding conversion or_refused
      new_long f = let z = stopped New (grammar_fits news 0) e₂ f in hands_on (rw (le-leb 6144 (length r) room, (went Old (grammar_fits olds 0) e₁ f₁).2, z.0)) z.1

      module _ {u₂ : Unit {0}} (f₂ : c₂ ≡ Ok u₂) {c₃ : Result (Unit {0}) ConversionRefusal} (e₃ : c₃ ≡ passed Old (read_grammar olds)) where
        pub old_refused : {x : ConversionRefusal} → c₃ ≡ Err x → Whole r (Err x)
        unfolding conversion or_refused
        old_refused f = let z = stopped Old (read_grammar olds) e₃ f in hands_on (rw (le-leb 6144 (length r) room, (went Old (grammar_fits olds 0) e₁ f₁).2, (went New (grammar_fits news 0) e₂ f₂).2, z.0)) z.1

        module _ {u₃ : Unit {0}} (f₃ : c₃ ≡ Ok u₃) {c₄ : Result (Unit {0}) ConversionRefusal} (e₄ : c₄ ≡ passed New (read_grammar news)) where
          pub new_refused : {x : ConversionRefusal} → c₄ ≡ Err x → Whole r (Err x)
          unfolding conversion or_refused
          new_refused f = let z = stopped New (read_grammar news) e₄ f in hands_on (rw (le-leb 6144 (length r) room, (went Old (grammar_fits olds 0) e₁ f₁).2, (went New (grammar_fits news 0) e₂ f₂).2, (went Old (read_grammar olds) e₃ f₃).2, z.0)) z.1

          pub whole_between : {u : Unit {0}} → c₄ ≡ Ok u → {r' : Words} {x : Result ℕ ConversionRefusal} → Converts (conversion_between edition (read_of (read_grammar olds)) (read_of (read_grammar news)) ts ss) r r' x → Whole r' x
          unfolding conversion or_refused
          whole_between g o =
              let e = (went Old (read_grammar olds) e₃ f₃).2 in
              let e' = (went New (read_grammar news) e₄ g).2 in
              let z = rw (e, e') at o in
              rw (le-leb 6144 (length r) room, (went Old (grammar_fits olds 0) e₁ f₁).2, (went New (grammar_fits news 0) e₂ f₂).2, e, e') z

-- A SLIP

nodes_of_lem : (edition : Bool) (a : Grammar) (ss ws : Words) → ss ≡ in_edition edition a ws → length ws ≡ 2 * size ws → nodes_in edition (length ss) ≡ size ws
unfolding in_edition nodes_in
nodes_of_lem true a ss ws e l = omega (arith, ap length e, counted_length a ws)
nodes_of_lem false a ss ws e l = omega (arith, ap length e)

module _ (edition : Bool) (ss : Words) (types : GrammarTypes) (table : Table) {r r₁ : Words} {c : Result ℕ (ℕ × ℕ)} (s : SlipRead (λ g. read_edition edition g ss) types.types r r₁ c) (room : 6144 ≤ length r) where
  pub slip_refused : {x : ℕ × ℕ} → c ≡ Err x → SlipConverted types.types table edition ss r r₁ (Err (blamed Neither x))
  unfolding or_refused
  slip_refused f = λ a b es ta p fits. rw (s.kept f) (refuses (rw (answer_refused (read_edition edition a ss) c (s.answered a ta) f)))

  module _ {p : ℕ} (f : c ≡ Ok p) where
    tree_of : (a : Grammar) → TypesOf a types.types → (ws : Words) × (read_edition edition a ss ≡ value ws p) × Tree a 0 ws × (length ws ≡ 2 * size ws) × (nodes_in edition (length ss) ≡ size ws)
    tree_of a ta =
        let u = answer_passed (read_edition edition a ss) c (s.answered a ta) f in
        let x = (slip_exactly edition a ss u.0).sound (p, u.1) in
        let l = trees_even x.0.typed in
        (u.0, u.1, x.0, l, nodes_of_lem edition a ss u.0 x.1 l)

    pub slip_few : nodes_in edition (length ss) ≤ 2048
    slip_few = ∥∥₁_elim (some_types types) le_prop (λ t. let u = tree_of t.0 t.1 in omega (arith, u.2.nodes, u.4))

    pub slip_done : {n : ℕ} → n ≡ nodes_in edition (length ss) → {r' : Words} → TreeConverted types.types table n r₁ r' → SlipConverted types.types table edition ss r r' (Ok (3 * n))
    unfolding or_refused converted_as result_after
    slip_done {n} en {r'} t = λ a b es ta p fits.
        let u = tree_of a ta in
        let ws = u.0 in
        let out = counted b (converted a es ws) in
        let count : n ≡ size ws = en ∙ u.4 in
        let stands : r₁ ≡ marked a ws ++ drop (length ws) r = s.tree a ws _ ta u.1 (omega arith) in
        let words : length ws ≡ 2 * n = omega (arith, u.3, count) in
        let front : take (2 * n) r₁ ≡ marked a ws = ap (take (2 * n)) stands ∙ take_at (marked a ws) (drop (length ws) r) (2 * n) (marked_length a ws ∙ words) in
        let back : drop (2 * n) r₁ ≡ drop (2 * n) r = ap (drop (2 * n)) stands ∙ drop_at (marked a ws) (drop (length ws) r) (2 * n) (marked_length a ws ∙ words) ∙ ap (λ k. drop k r) words in
        let three : 2 * n + n ≡ 3 * n = omega arith in
        let behind : drop (3 * n) r₁ ≡ drop (3 * n) r = ap (λ k. drop k r₁) (sym three) ∙ sym (drop-drop n (2 * n) r₁) ∙ ap (drop n) back ∙ drop-drop n (2 * n) r ∙ ap (λ k. drop k r) three in
        let long : 3 * n ≡ length out = omega (arith, count, counted_length b (converted a es ws), converted_size a es ws) in
        let w = t.words a b es (0 ∷ []) ws ta p fits u.2.typed u.2.nodes count front in
        record { answered = rw u.1 (ap Ok long); result = rw u.1 (w ∙ ap (λ l. out ++ l) behind ∙ ap (λ k. out ++ drop k r) long) }

-- BETWEEN TWO GRAMMARS

module _ (edition : Bool) {s : Side} {a : Grammar} (b : Grammar) (sa : Shows s a) (ts ss : Words) {r : Words} {c : Result Table (ℕ × ℕ)} (read : TableChecked s b ts c) where
  pub between_refused : {x : ℕ × ℕ} → c ≡ Err x → Converts (conversion_between edition a b ts ss) r r (Err (blamed Neither x))
  unfolding conversion_between or_refused
  between_refused {x} f = go (read_table a b ts) refl (rw f at (read a sa))
    where
      go : (q : Read (List Entry)) → read_table a b ts ≡ q → ReadAs ts q (Err x) → Converts (conversion_between edition a b ts ss) r r (Err (blamed Neither x))
      go (value es next) e h = absurd h
      go (refused n p) e h = rw h (refuses (rw e))

  pub between_done : {table : Table} → c ≡ Ok table → {r' : Words} {x : Result ℕ ConversionRefusal} → SlipConverted s.types.types table edition ss r r' x → Converts (conversion_between edition a b ts ss) r r' x
  unfolding conversion_between or_refused
  between_done {table} f slip =
      let u = read_there ts (read_table a b ts) table (rw f at (read a sa)) in
      rw u.2 (slip a b u.0 sa.types.types_of u.3 ((table_exactly a b ts u.0).sound u.1 u.2).1)

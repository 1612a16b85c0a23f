-- The second reading of the table in code: kinds, elements and forms held against B. Assumes nothing.
use Prim.Native.Nat.{ℕ, ◌+◌, ◌*◌, ◌<◌, ◌≤◌}
use mathlib.Core.Path.{◌≡◌, refl, sym, ap, ◌∙◌}
use mathlib.Core.List.{List, [], map}
use mathlib.Core.Bool.{Bool, true, false}
use native.Mathlib.Omega.{arith}
use lib.ListN.{length, get_or, drop, length-map, drop_of_length-le}
use lib.Dec.{ltb, eqb}
use borrow.Author.Tests.{lt-ltb, le-ltb, eq-eqb, ne_eqb, eqb-true}
use Rattle.words.specs.Reader.{pick, Read, value, refused, Reader, and_then}
use Rattle.std.specs.Prelude.{Result, Ok, Err}
use Rattle.words.specs.Views.{answer, equal_words}
use Rattle.words.proofs.Laws.{answer_refused, and_both, and_true}
use Rattle.words.proofs.Stretches.{drop_next, get_d_map, equal_lengths, equal_differs, equal_more, equal_end}
use Rattle.grammar.specs.Grammar.{repeat, list, Kind, forms, Grammar}
use Rattle.grammar.specs.Kinds.{kind_of, children_of, children, forms_of}
use Rattle.tables.specs.Types.{TypesOf, OfHeads, OfRows}
use Rattle.tables.specs.declared.types.Types.{Types}
use Rattle.convert.specs.Table.{Entry, entry_of, type_to, form_to, bit_of, class_of, element_of, alike, fitting, forms_fit, type_fits, types_fit}
use Rattle.convert.specs.declared.view.View.{View}
use Rattle.convert.specs.declared.table.Table.{Table}
use Rattle.convert.specs.Views.{Seen, type_at, form_at, Placed, Numbered, AlikeTested, FormTested, FormsTested, TypeTested, TypesTested}
use Rattle.convert.proofs.Converting.{OneKind, tokens, opts, sequences, with_forms, one_kind}

-- KINDS

-- of two kinds of one bit, forms are alike, tokens by their class, others by their element, the first child
alike_by : (es : List Entry) (t m : ℕ) {k l : Kind} → OneKind k l
    → pick (eqb (bit_of k) 8) true (pick (eqb (bit_of k) 1) (eqb (class_of k) (class_of l)) (eqb (type_to es (get_or (children_of k t 0) 0 0)) (get_or (children_of l m 0) 0 0))) ≡ alike es k l
unfolding alike bit_of class_of element_of children_of equal_words
alike_by es t m (tokens c d) = and_true (eqb c d)
alike_by es t m (opts e f) = and_true (eqb (type_to es e) f)
alike_by es t m (sequences repeat e f) = and_true (eqb (type_to es e) f)
alike_by es t m (sequences list e f) = and_true (eqb (type_to es e) f)
alike_by es t m (with_forms fs gs) = refl

module _ (es : List Entry) (a b : Grammar) (t m x y : ℕ) (ex : x ≡ bit_of (kind_of a t)) (ey : y ≡ bit_of (kind_of b m)) where
  pub alike_not : (x ≡ y → ⊥) → false ≡ alike es (kind_of a t) (kind_of b m)
  unfolding alike
  alike_not h = rw (ne_eqb (bit_of (kind_of a t)) (bit_of (kind_of b m)) (λ e. h (ex ∙ e ∙ sym ey)))

  module _ (same : x ≡ y) where
    by_bit : pick (eqb x 8) true (pick (eqb x 1) (eqb (class_of (kind_of a t)) (class_of (kind_of b m))) (eqb (type_to es (get_or (children a t 0) 0 0)) (get_or (children b m 0) 0 0))) ≡ alike es (kind_of a t) (kind_of b m)
    unfolding children
    by_bit = rw ex (alike_by es t m (one_kind (kind_of a t) (kind_of b m) (sym ex ∙ same ∙ ey)))

    pub alike_formed : x ≡ 8 → true ≡ alike es (kind_of a t) (kind_of b m)
    alike_formed h = rw (← by_bit, eq-eqb x 8 h)

    pub alike_classed : (x ≡ 8 → ⊥) → x ≡ 1 → (c d : ℕ) → c ≡ class_of (kind_of a t) → d ≡ class_of (kind_of b m) → eqb c d ≡ alike es (kind_of a t) (kind_of b m)
    alike_classed h g c d ec ed = rw (← by_bit, ne_eqb x 8 h, eq-eqb x 1 g, ec, ed)

    pub alike_element : (x ≡ 8 → ⊥) → (x ≡ 1 → ⊥) → (e f to : ℕ) → e ≡ get_or (children a t 0) 0 0 → f ≡ get_or (children b m 0) 0 0 → to ≡ type_to es e → eqb to f ≡ alike es (kind_of a t) (kind_of b m)
    alike_element h g e f to ee ef et = rw (← by_bit, ne_eqb x 8 h, ne_eqb x 1 g, et, ee, ef)

-- ONE FORM

-- i types of the form have been held against B's
pub record FormLoop (old new : Types) (table : Table) (t v m n i : ℕ) : Type 0 where
  pub rest : (a b : Grammar) (es : List Entry) → TypesOf a old → TypesOf b new → Placed table es
      → equal_words (map (type_to es) (children a t v)) (children b m n) ≡ equal_words (drop i (map (type_to es) (children a t v))) (drop i (children b m n))

pub form_start : (old new : Types) (table : Table) (t v m n : ℕ) → FormLoop old new table t v m n 0
form_start old new table t v m n = record { rest = λ a b es ha hb p. refl }

module _ (old new : Types) (table : Table) (t v m n k l : ℕ) (ek : OfRows old (λ g. k ≡ length (children g t v))) (el : OfRows new (λ g. l ≡ length (children g m n))) where
  pub form_lengths : (k ≡ l → ⊥) → FormTested old new table t v m n false
  form_lengths h = λ a b es ha hb p.
      sym (equal_lengths (map (type_to es) (children a t v)) (children b m n) (λ e. h (ek a ha.rows_of_lem ∙ sym (length-map (children a t v) (type_to es)) ∙ e ∙ sym (el b hb.rows_of_lem))))

  module _ (same : k ≡ l) (i : ℕ) (loop : FormLoop old new table t v m n i) where
    long : (a b : Grammar) (es : List Entry) → TypesOf a old → TypesOf b new → length (map (type_to es) (children a t v)) ≡ length (children b m n)
    long a b es ha hb = length-map (children a t v) (type_to es) ∙ sym (ek a ha.rows_of_lem) ∙ same ∙ el b hb.rows_of_lem

    pub form_end : k ≤ i → FormTested old new table t v m n true
    form_end h = λ a b es ha hb p. equal_end (map (type_to es) (children a t v)) (children b m n) i (loop.rest a b es ha hb p) (long a b es ha hb) (omega (arith, length-map (children a t v) (type_to es), ek a ha.rows_of_lem))

    module _ (more : i < k) (e f to : ℕ) (ee : OfRows old (λ g. e ≡ get_or (children g t v) i 0)) (ef : OfRows new (λ g. f ≡ get_or (children g m n) i 0)) (et : to ≡ type_at table e) where
      mapped : (a : Grammar) (es : List Entry) → TypesOf a old → Placed table es → to ≡ get_or (map (type_to es) (children a t v)) i 0
      mapped a es ha p = et ∙ p.type e ∙ ap (type_to es) (ee a ha.rows_of_lem) ∙ sym (get_d_map (type_to es) (children a t v) i 0 0 (omega (arith, ek a ha.rows_of_lem)))

      pub form_differs : (to ≡ f → ⊥) → FormTested old new table t v m n false
      form_differs h = λ a b es ha hb p.
          equal_differs (map (type_to es) (children a t v)) (children b m n) i (loop.rest a b es ha hb p) (long a b es ha hb) (omega (arith, length-map (children a t v) (type_to es), ek a ha.rows_of_lem)) (λ q. h (mapped a es ha p ∙ q ∙ sym (ef b hb.rows_of_lem)))

      pub form_more : to ≡ f → FormLoop old new table t v m n (i + 1)
      form_more h = record {
        rest = λ a b es ha hb p.
            equal_more (map (type_to es) (children a t v)) (children b m n) i (loop.rest a b es ha hb p) (long a b es ha hb) (omega (arith, length-map (children a t v) (type_to es), ek a ha.rows_of_lem)) (sym (mapped a es ha p) ∙ h ∙ ef b hb.rows_of_lem);
      }

-- THE FORMS OF A TYPE

-- with forms on one side, there are forms on the other
both_forms : {k l : Kind} → OneKind k l → (t v m n : ℕ) → v < length (forms_of k) → (children_of k t v ≡ get_or (forms_of k) v []) × (children_of l m n ≡ get_or (forms_of l) n [])
unfolding forms_of children_of
both_forms (tokens c d) t v m n h = absurd (omega arith)
both_forms (opts e f) t v m n h = absurd (omega arith)
both_forms (sequences style e f) t v m n h = absurd (omega arith)
both_forms (with_forms fs gs) t v m n h = (refl, refl)

-- what is known of the grammars and the table
pub record Known (old new : Types) (table : Table) (k t m : ℕ) (a b : Grammar) (es : List Entry) : Type 0 where
  pub types_a : TypesOf a old
  pub types_b : TypesOf b new
  pub placed : Placed table es
  pub numbered : Numbered a es
  pub count : k ≡ length (forms_of (kind_of a t))
  pub like : alike es (kind_of a t) (kind_of b m) ≡ true

-- v forms fit
pub record MisfitLoop (old new : Types) (table : Table) (k t m v : ℕ) : Type 0 where
  pub rest : (a b : Grammar) (es : List Entry) → Known old new table k t m a b es → (at : ℕ)
      → answer (forms_fit es (forms_of (kind_of b m)) (forms_of (kind_of a t)) (entry_of es t).numbers at) ≡ answer (forms_fit es (forms_of (kind_of b m)) (drop v (forms_of (kind_of a t))) (drop v (entry_of es t).numbers) (at + v))

pub misfit_start : (old new : Types) (table : Table) (k t m : ℕ) → MisfitLoop old new table k t m 0
misfit_start old new table k t m = record { rest = λ a b es known at. let z : at + 0 ≡ at = omega arith in rw z }

module _ {old new : Types} {table : Table} {k t m v : ℕ} (loop : MisfitLoop old new table k t m v) where
  pub misfit_end : v ≤ k → k ≤ v → FormsTested old new table k t m k
  unfolding forms_fit
  misfit_end low h = λ a b es ha hb p q ek like at.
      let z : v ≡ k = omega arith in
      loop.rest a b es (record { types_a = ha; types_b = hb; placed = p; numbered = q; count = ek; like = like }) at ∙ rw (drop_of_length-le (forms_of (kind_of a t)) {i = v} (omega arith), le-ltb k k (omega arith), z)

  module _ (more : v < k) (n : ℕ) (en : n ≡ form_at table t v) (same : Bool) (told : FormTested old new table t v m n same) where
    misfit_here : (a b : Grammar) (es : List Entry) → Known old new table k t m a b es → (at : ℕ)
        → answer (forms_fit es (forms_of (kind_of b m)) (forms_of (kind_of a t)) (entry_of es t).numbers at)
        ≡ answer (and_then (fitting same (at + v)) (λ u. forms_fit es (forms_of (kind_of b m)) (drop (v + 1) (forms_of (kind_of a t))) (drop (v + 1) (entry_of es t).numbers)))
    unfolding forms_fit fitting children form_to alike
    misfit_here a b es kn at =
        let low : v < length (forms_of (kind_of a t)) = omega (arith, kn.count) in
        let small : v < length (entry_of es t).numbers = omega (arith, kn.numbered t) in
        let number : n ≡ get_or (entry_of es t).numbers v 0 = en ∙ kn.placed.form t v small in
        let bits = eqb-true (bit_of (kind_of a t)) (bit_of (kind_of b m)) (and_both (eqb (bit_of (kind_of a t)) (bit_of (kind_of b m))) _ kn.like).0 in
        let both = both_forms (one_kind (kind_of a t) (kind_of b m) bits) t v m n low in
        let test : same ≡ equal_words (map (type_to es) (get_or (forms_of (kind_of a t)) v [])) (get_or (forms_of (kind_of b m)) (get_or (entry_of es t).numbers v 0) []) =
        told a b es kn.types_a kn.types_b kn.placed ∙ rw (both.0, both.1, number) in
        loop.rest a b es kn at ∙ rw (drop_next (forms_of (kind_of a t)) v [] low, drop_next (entry_of es t).numbers v 0 small, test)

    pub misfit_found : same ≡ false → FormsTested old new table k t m v
    unfolding fitting
    misfit_found h = λ a b es ha hb p q ek like at.
        misfit_here a b es (record { types_a = ha; types_b = hb; placed = p; numbered = q; count = ek; like = like }) at ∙ rw (h, lt-ltb v k more)

    pub misfit_more : same ≡ true → MisfitLoop old new table k t m (v + 1)
    unfolding fitting
    misfit_more h = record { rest = λ a b es kn at. let z : at + v + 1 ≡ at + (v + 1) = omega arith in misfit_here a b es kn at ∙ rw (h, z) }

-- ONE TYPE

then_refused : {A B : Type 0} (q : Read A) (f : A → Reader B) {no' p : ℕ} → q ≡ refused no' p → and_then q f ≡ refused no' p
then_refused q f e = rw e

-- the forms of A's type t held against those of B's type m
forms_read : ℕ → ℕ → Grammar → Grammar → List Entry → Reader (Unit {0})
forms_read t m a b es = forms_fit es (forms_of (kind_of b m)) (forms_of (kind_of a t)) (entry_of es t).numbers

module _ {s s' : View} {table : Table} (t at m : ℕ) (em : m ≡ type_at table t) (fits : Bool) (told : AlikeTested s s' table t m fits) where
  type_here : (a b : Grammar) (es : List Entry) → Seen s a → Seen s' b → Placed table es → type_fits b es (kind_of a t) (entry_of es t) at ≡ and_then (fitting fits at) (λ u. forms_read t m a b es)
  unfolding type_fits type_to forms_read
  type_here a b es sa sb p = let to : m ≡ (entry_of es t).type = em ∙ p.type t in rw (told a b es sa sb p, to)

  pub type_unlike : fits ≡ false → TypeTested s s' table t at (Err (61, at))
  unfolding fitting
  type_unlike h = record { answered = λ a b es sa sb p q. sym (ap answer (type_here a b es sa sb p) ∙ rw h); low = λ next e. cc }

  module _ (fine : fits ≡ true) (k : ℕ) (count : OfHeads s.types.now (λ g. k ≡ length (forms_of (kind_of g t)))) (v : ℕ) (misfit : FormsTested s.types.now s'.types.now table k t m v) where
    type_forms : (a b : Grammar) (es : List Entry) → Seen s a → Seen s' b → Placed table es → Numbered a es → answer (type_fits b es (kind_of a t) (entry_of es t) at) ≡ pick (ltb v k) (Err (61, at + 1 + v)) (Ok (at + 1 + k))
    unfolding fitting forms_read
    type_forms a b es sa sb p q =
        let like = sym (told a b es sa sb p) ∙ fine in
        ap answer (type_here a b es sa sb p) ∙ rw fine (misfit a b es sa.types.types_of sb.types.types_of p q (count a sa.types.types_of.heads_of) like (at + 1))

    pub type_misfit : v < k → TypeTested s s' table t at (Err (61, at + 1 + v))
    type_misfit h = record {
      answered = λ a b es sa sb p q. sym (type_forms a b es sa sb p q ∙ rw (lt-ltb v k h));
      low = λ next e. cc;
    }

    pub type_whole : k ≤ v → k ≤ 4294967295 → at ≤ t * 4294967296 → TypeTested s s' table t at (Ok (at + 1 + k))
    type_whole h small low = record {
      answered = λ a b es sa sb p q. sym (type_forms a b es sa sb p q ∙ rw (le-ltb v k h));
      low = λ next e. let z : at + 1 + k ≡ next = cc e in omega arith;
    }

-- THE TYPES

-- what is known of the grammars and the table
pub record KnownAll (s s' : View) (table : Table) (a b : Grammar) (es : List Entry) : Type 0 where
  pub old : Seen s a
  pub new : Seen s' b
  pub entries : length es ≡ length a
  pub placed : Placed table es
  pub numbered : Numbered a es

-- t types fit
pub record TypesLoop (s s' : View) (table : Table) (t at : ℕ) : Type 0 where
  pub low : at ≤ t * 4294967296
  pub rest : (a b : Grammar) (es : List Entry) → KnownAll s s' table a b es → answer (types_fit b es a es 0) ≡ answer (types_fit b es (drop t a) (drop t es) at)

pub types_start : (s s' : View) (table : Table) → TypesLoop s s' table 0 0
types_start s s' table = record { low = omega arith; rest = λ a b es known. refl }

then_unit : {B : Type 0} (q : Read (Unit {0})) (f : Unit {0} → Reader B) {p : ℕ} → answer q ≡ Ok p → and_then q f ≡ f tt p
then_unit (value u n) f {p} e = let z : n ≡ p = cc e in ap (f u) z
then_unit (refused n q) f e = cc

module _ {s s' : View} {table : Table} {t at : ℕ} (loop : TypesLoop s s' table t at) where
  pub types_end : s.types.now.count ≤ t → TypesTested s s' table (Ok at)
  unfolding types_fit
  types_end h = λ a b es sa sb ee p q. sym (loop.rest a b es (record { old = sa; new = sb; entries = ee; placed = p; numbered = q }) ∙ rw (drop_of_length-le a {i = t} (omega arith)))

  module _ (more : t < s.types.now.count) {c : Result ℕ (ℕ × ℕ)} (told : TypeTested s s' table t at c) where
    -- type t, then those behind it
    types_here : (a b : Grammar) (es : List Entry) → KnownAll s s' table a b es → answer (types_fit b es a es 0) ≡ answer (and_then (type_fits b es (kind_of a t) (entry_of es t) at) (λ u. types_fit b es (drop (t + 1) a) (drop (t + 1) es)))
    unfolding types_fit kind_of entry_of
    types_here a b es kn = loop.rest a b es kn ∙ rw (drop_next a t (forms []) (omega (arith, kn.old.types.count_of)), drop_next es t (record { type = 0; numbers = [] }) (omega (arith, kn.old.types.count_of, kn.entries)))

    one : (a b : Grammar) (es : List Entry) → KnownAll s s' table a b es → c ≡ answer (type_fits b es (kind_of a t) (entry_of es t) at)
    one a b es kn = told.answered a b es kn.old kn.new kn.placed kn.numbered

    pub types_misfit : {x : ℕ × ℕ} → c ≡ Err x → TypesTested s s' table (Err x)
    types_misfit f = λ a b es sa sb ee p q.
        let kn : KnownAll s s' table a b es = record { old = sa; new = sb; entries = ee; placed = p; numbered = q } in
        let e = answer_refused (type_fits b es (kind_of a t) (entry_of es t) at) c (one a b es kn) f in
        sym (types_here a b es kn ∙ ap answer (then_refused (type_fits b es (kind_of a t) (entry_of es t) at) (λ u. types_fit b es (drop (t + 1) a) (drop (t + 1) es)) e))

    pub types_more : {next : ℕ} → c ≡ Ok next → TypesLoop s s' table (t + 1) next
    types_more {next} f = record {
      low = omega (arith, told.low next f);
      rest = λ a b es kn. types_here a b es kn ∙ ap answer (then_unit (type_fits b es (kind_of a t) (entry_of es t) at) (λ u. types_fit b es (drop (t + 1) a) (drop (t + 1) es)) (sym (one a b es kn) ∙ f));
    }

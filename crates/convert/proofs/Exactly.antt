-- The reading of a table passes exactly the tables that fit. Assumes nothing.
use Prim.Native.Nat.{ℕ, zero, suc, ◌+◌, ◌<◌}
use mathlib.Core.Path.{◌≡◌, refl, sym, ap, ◌∙◌}
use mathlib.Core.List.{List, [], ◌∷◌, ◌++◌, map, append_assoc, append-nil}
use mathlib.Core.Bool.{Bool, true, false}
use native.Mathlib.Omega.{arith}
use lib.ListN.{length, get_or, drop, length-append, drop_of_length-le}
use lib.Dec.{eqb, ltb}
use borrow.Author.Tests.{lt-ltb, le-ltb, ltb-true, ltb-false, eq-eqb, eqb-true}
use Rattle.words.specs.Reader.{Words, pick, and, value, refused, word, many, end}
use Rattle.words.specs.Views.{equal_words}
use Rattle.words.proofs.Laws.{then_value, require_value, pick_value, and_both, word_value, many_suc}
use Rattle.words.proofs.Stretches.{drop_next, equal_true, equal_same}
use Rattle.grammar.specs.Grammar.{Kind, Grammar}
use Rattle.grammar.specs.Kinds.{kind_of, forms_of}
use Rattle.convert.specs.Table.{Entry, named, entry, entries, whole_table, type_to, bit_of, class_of, element_of, alike, fitting, forms_fit, type_fits, types_fit, read_table, Alike, FormsFit, no_form, form, TypeFits, TypesFit, no_type, type, Fits, written, TableExactly}

-- WHAT WAS READ

pub named_value : (ws : Words) (n at : ℕ) {w next : ℕ} → named ws n at ≡ value w next → (at < length ws) × (w ≡ get_or ws at 0) × (next ≡ at + 1) × (w < n)
unfolding named
named_value ws n at {w} {next} e =
    let u = then_value (word 60 ws at) (λ x p. pick (ltb x n) (value x p) (refused 60 at)) e in
    let t = word_value 60 ws at u.2 in
    let v = pick_value (ltb u.0 n) u.0 w u.1 60 at next u.3 in
    (t.0, sym v.1 ∙ t.1, sym v.2 ∙ t.2, rw v.1 at (ltb-true u.0 n v.0))

-- all below n
pub data Below (n : ℕ) : List ℕ → Type 0 where
  none_below : Below n []
  below : {w : ℕ} {ws : List ℕ} → w < n → Below n ws → Below n (w ∷ ws)

pub record NumbersRead (ws : Words) (n k at : ℕ) (ns : List ℕ) (next : ℕ) : Type 0 where
  pub count : length ns ≡ k
  pub small : Below n ns
  pub words : drop at ws ≡ ns ++ drop next ws
  pub after : next ≡ at + length ns

pub numbers_read : (ws : Words) (n k at : ℕ) (ns : List ℕ) (next : ℕ) → many k (named ws n) at ≡ value ns next → NumbersRead ws n k at ns next
unfolding many
numbers_read ws n zero at ns next e =
    let a : [] ≡ ns = cc in
    let b : at ≡ next = cc in
    rw (← a, ← b) (record { count = refl; small = none_below; words = refl; after = omega arith })
numbers_read ws n (suc k) at ns next e =
    let u = many_suc (named ws n) k at e in
    let w = named_value ws n at u.3 in
    let r = numbers_read ws n k u.1 u.2 next u.4 in
    let there : drop at ws ≡ u.0 ∷ (u.2 ++ drop next ws) = drop_next ws at 0 w.0 ∙ rw (← w.1, ← w.2, r.words) in
    rw u.5 (record { count = ap suc r.count; small = below w.3 r.small; words = there; after = omega (arith, r.after, w.2) })

-- what is said of a type of the kind names what B has
pub record EntryNamed (b : Grammar) (k : Kind) (e : Entry) : Type 0 where
  pub there : e.type < length b
  pub count : length e.numbers ≡ length (forms_of k)
  pub small : Below (length (forms_of (kind_of b e.type))) e.numbers

pub data EntriesNamed (b : Grammar) : Grammar → List Entry → Type 0 where
  none_named : EntriesNamed b [] []
  one_named : {k : Kind} {ks : Grammar} {e : Entry} {fs : List Entry} → EntryNamed b k e → EntriesNamed b ks fs → EntriesNamed b (k ∷ ks) (e ∷ fs)

-- an entry was read from `at` to `next`
abbrev EntryRead : Words → Grammar → Kind → ℕ → Entry → ℕ → Type 0
EntryRead ws b k at e next = EntryNamed b k e × (drop at ws ≡ e.type ∷ (e.numbers ++ drop next ws)) × (next ≡ at + suc (length e.numbers))

entry_is : (ws : Words) (b : Grammar) (k : Kind) (at : ℕ) (e f : Entry) (next p : ℕ) → e ≡ f → next ≡ p → EntryRead ws b k at e next → EntryRead ws b k at f p
entry_is ws b k at e f next p ee ep r = rw (ee, ep) at r

pub entry_read : (ws : Words) (b : Grammar) (k : Kind) (at : ℕ) (e : Entry) (next : ℕ) → entry ws b k at ≡ value e next → EntryRead ws b k at e next
unfolding entry
entry_read ws b k at e next h =
    let u = then_value (named ws (length b) at) _ h in
    let w = named_value ws (length b) at u.2 in
    let m = then_value (many (length (forms_of k)) (named ws (length (forms_of (kind_of b u.0)))) u.1) _ u.3 in
    let r = numbers_read ws (length (forms_of (kind_of b u.0))) (length (forms_of k)) u.1 m.0 m.1 m.2 in
    let there : drop at ws ≡ u.0 ∷ (m.0 ++ drop m.1 ws) = drop_next ws at 0 w.0 ∙ rw (← w.1, ← w.2, r.words) in
    entry_is ws b k at (record { type = u.0; numbers = m.0 }) e m.1 next (cc m.3) (cc m.3) (record { there = w.3; count = r.count; small = r.small }, there, omega (arith, r.after, w.2))

-- entries were read
abbrev EntriesRead : Words → Grammar → Grammar → ℕ → List Entry → ℕ → Type 0
EntriesRead ws b ks at es next = EntriesNamed b ks es × (drop at ws ≡ written es ++ drop next ws)

entries_are : (ws : Words) (b ks : Grammar) (at : ℕ) (es fs : List Entry) (next p : ℕ) → es ≡ fs → next ≡ p → EntriesRead ws b ks at es next → EntriesRead ws b ks at fs p
entries_are ws b ks at es fs next p ee ep r = rw (ee, ep) at r

pub entries_read : (ws : Words) (b ks : Grammar) (at : ℕ) (es : List Entry) (next : ℕ) → entries ws b ks at ≡ value es next → EntriesRead ws b ks at es next
unfolding entries written
entries_read ws b [] at es next h = entries_are ws b [] at [] es at next (cc h) (cc h) (none_named, refl)
entries_read ws b (k ∷ ks) at es next h =
    let u = then_value (entry ws b k at) _ h in
    let m = then_value (entries ws b ks u.1) _ u.3 in
    let e = entry_read ws b k at u.0 u.1 u.2 in
    let r = entries_read ws b ks u.1 m.0 m.1 m.2 in
    let there : drop at ws ≡ u.0.type ∷ (u.0.numbers ++ written m.0 ++ drop m.1 ws) =
    e.1 ∙ ap (λ l. u.0.type ∷ l) (ap (λ l. u.0.numbers ++ l) r.1 ∙ sym (append_assoc u.0.numbers (written m.0) (drop m.1 ws))) in
    entries_are ws b (k ∷ ks) at (u.0 ∷ m.0) es m.1 next (cc m.3) (cc m.3) (one_named e.0 r.0, there)

-- WHAT FITS

alike_true : (es : List Entry) (k l : Kind) → alike es k l ≡ true → Alike es k l
unfolding alike
alike_true es k l h =
    let u = and_both (eqb (bit_of k) (bit_of l)) (and (eqb (class_of k) (class_of l)) (equal_words (map (type_to es) (element_of k)) (element_of l))) h in
    let w = and_both (eqb (class_of k) (class_of l)) (equal_words (map (type_to es) (element_of k)) (element_of l)) u.1 in
    record { kind = eqb-true (bit_of k) (bit_of l) u.0; class = eqb-true (class_of k) (class_of l) w.0; element = equal_true (map (type_to es) (element_of k)) (element_of l) w.1 }

alike_same : {es : List Entry} {k l : Kind} → Alike es k l → alike es k l ≡ true
unfolding alike
alike_same {es} {k} {l} a = rw (eq-eqb (bit_of k) (bit_of l) a.kind, eq-eqb (class_of k) (class_of l) a.class, a.element, equal_same (element_of l))

fitting_value : (ok : Bool) (at : ℕ) {u : Unit {0}} {next : ℕ} → fitting ok at ≡ value u next → (ok ≡ true) × (next ≡ at + 1)
unfolding fitting
fitting_value ok at {u} {next} e = let v = pick_value ok tt u (at + 1) 61 at next e in (v.0, sym v.2)

forms_sound : (es : List Entry) (gs fs : List (List ℕ)) (ns : List ℕ) (at : ℕ) {u : Unit {0}} {next : ℕ} → length ns ≡ length fs → Below (length gs) ns → forms_fit es gs fs ns at ≡ value u next → FormsFit es gs fs ns
unfolding forms_fit
forms_sound es gs [] [] at n b h = no_form
forms_sound es gs [] (n₁ ∷ ns) at n b h = absurd (omega arith)
forms_sound es gs (f ∷ fs) [] at n b h = absurd (omega arith)
forms_sound es gs (f ∷ fs) (m ∷ ns) at n (below low b) h =
    let u = then_value (fitting (equal_words (map (type_to es) f) (get_or gs m [])) at) _ h in
    let w = fitting_value (equal_words (map (type_to es) f) (get_or gs m [])) at u.2 in
    form low (equal_true (map (type_to es) f) (get_or gs m []) w.0) (forms_sound es gs fs ns u.1 (omega arith) b u.3)

type_sound : (b : Grammar) (es : List Entry) (k : Kind) (e : Entry) (at : ℕ) {u : Unit {0}} {next : ℕ} → EntryNamed b k e → type_fits b es k e at ≡ value u next → TypeFits b es k e
unfolding type_fits
type_sound b es k e at n h =
    let u = then_value (fitting (alike es k (kind_of b e.type)) at) _ h in
    let w = fitting_value (alike es k (kind_of b e.type)) at u.2 in
    record {
      there = n.there;
      kinds = alike_true es k (kind_of b e.type) w.0;
      forms_fit_lem = forms_sound es (forms_of (kind_of b e.type)) (forms_of k) e.numbers u.1 n.count n.small u.3;
    }

types_sound : (b : Grammar) (es : List Entry) {ks : Grammar} {fs : List Entry} (at : ℕ) {u : Unit {0}} {next : ℕ} → EntriesNamed b ks fs → types_fit b es ks fs at ≡ value u next → TypesFit b es ks fs
unfolding types_fit
types_sound b es at none_named h = no_type
types_sound b es at (one_named {k} {ks} {e} {fs} n more) h =
    let u = then_value (type_fits b es k e at) _ h in
    type (type_sound b es k e at n u.2) (types_sound b es u.1 more u.3)

-- ALL OF IT

-- what a reading of the table went through
pub record Listed (a b : Grammar) (ws : Words) (es : List Entry) : Type 0 where
  pub named_all : EntriesNamed b a es
  pub words : ws ≡ written es

pub table_read : (a b : Grammar) (ws : Words) (es : List Entry) (next : ℕ) → whole_table ws b a 0 ≡ value es next → Listed a b ws es
unfolding whole_table end
table_read a b ws es next h =
    let u = then_value (entries ws b a 0) _ h in
    let m = then_value (end 60 ws u.1) _ u.3 in
    let r = entries_read ws b a 0 u.0 u.1 u.2 in
    go u.0 u.1 (cc m.3) r (ltb u.1 (length ws)) refl m.2
  where
    go : (fs : List Entry) (p : ℕ) → fs ≡ es → EntriesRead ws b a 0 fs p → (l : Bool) → ltb p (length ws) ≡ l → {x : Unit {0}} {q : ℕ} → pick l (refused 60 p) (value tt p) ≡ value x q → Listed a b ws es
    go fs p e r true l h = let z : ◌≡◌ {A = ℕ} 0 1 = cc in absurd (omega arith)
    go fs p e r false l h =
        let t : Listed a b ws fs = record { named_all = r.0; words = r.1 ∙ ap (λ k. written fs ++ k) (drop_of_length-le ws {i = p} (ltb-false p (length ws) l)) ∙ append-nil (written fs) } in
        rw e at t

-- soundness
fits_sound : (a b : Grammar) (ws : Words) (es : List Entry) (next : ℕ) → read_table a b ws ≡ value es next → (ws ≡ written es) × Fits a b es
unfolding read_table
fits_sound a b ws es next h =
    let u = then_value (whole_table ws b a 0) _ h in
    let q = require_value (eqb (type_to u.0 0) 0) 61 0 0 _ u.3 in
    let m = then_value (types_fit b u.0 a u.0 0) _ q.1 in
    let r = table_read a b ws u.0 u.1 u.2 in
    let root = eqb-true (type_to u.0 0) 0 q.0 in
    go u.0 (cc m.3) (r.words, record { root = root; types = types_sound b u.0 0 r.named_all m.2 })
  where
    go : (fs : List Entry) → fs ≡ es → (ws ≡ written fs) × Fits a b fs → (ws ≡ written es) × Fits a b es
    go fs e r = rw e at r

-- WHAT FITS IS READ

pub here : (ws : Words) (at w : ℕ) (rest : Words) → drop at ws ≡ w ∷ rest → (at < length ws) × (get_or ws at 0 ≡ w) × (drop (at + 1) ws ≡ rest)
here [] zero w rest e = let z : 0 ≡ suc (length rest) = ap length e in absurd (omega arith)
here [] (suc at) w rest e = let z : 0 ≡ suc (length rest) = ap length e in absurd (omega arith)
here (x ∷ ws) zero w rest e = (omega arith, cc, cc)
here (x ∷ ws) (suc at) w rest e =
    let r = here ws at w rest e in
    let z : suc at + 1 ≡ suc (at + 1) = omega arith in
    (omega (arith, r.0), r.1, rw z r.2)

none_on : (at : ℕ) → at + 0 ≡ at
none_on at = omega arith

pub past : (ws : Words) (at : ℕ) (xs rest : Words) → drop at ws ≡ xs ++ rest → drop (at + length xs) ws ≡ rest
past ws at [] rest e = rw (none_on at) e
past ws at (x ∷ xs) rest e =
    let r = here ws at x (xs ++ rest) e in
    let z : at + 1 + length xs ≡ at + suc (length xs) = omega arith in
    rw z at (past ws (at + 1) xs rest r.2)

named_there : (ws : Words) (n at w : ℕ) (rest : Words) → drop at ws ≡ w ∷ rest → w < n → named ws n at ≡ value w (at + 1)
unfolding named word
named_there ws n at w rest e h = let r = here ws at w rest e in rw (lt-ltb at (length ws) r.0, r.1, lt-ltb w n h)

numbers_there : (ws : Words) (n at : ℕ) (ns : List ℕ) (rest : Words) → Below n ns → drop at ws ≡ ns ++ rest → many (length ns) (named ws n) at ≡ value ns (at + length ns)
unfolding many
numbers_there ws n at [] rest none_below e = rw (none_on at)
numbers_there ws n at (m ∷ ns) rest (below h b) e =
    let r = here ws at m (ns ++ rest) e in
    let z : at + 1 + length ns ≡ at + suc (length ns) = omega arith in
    rw (named_there ws n at m (ns ++ rest) e h, numbers_there ws n (at + 1) ns rest b r.2, z)

entry_there : (ws : Words) (b : Grammar) (k : Kind) (e : Entry) (at : ℕ) (rest : Words) → EntryNamed b k e → drop at ws ≡ e.type ∷ (e.numbers ++ rest) → entry ws b k at ≡ value e (at + suc (length e.numbers))
unfolding entry
entry_there ws b k e at rest n h =
    let r = here ws at e.type (e.numbers ++ rest) h in
    let z : at + 1 + length e.numbers ≡ at + suc (length e.numbers) = omega arith in
    rw (named_there ws (length b) at e.type (e.numbers ++ rest) h n.there, ← n.count, numbers_there ws (length (forms_of (kind_of b e.type))) (at + 1) e.numbers rest n.small r.2, z)

entries_there : (ws : Words) {b ks : Grammar} {fs : List Entry} (at : ℕ) (rest : Words) → EntriesNamed b ks fs → drop at ws ≡ written fs ++ rest → entries ws b ks at ≡ value fs (at + length (written fs))
unfolding entries written
entries_there ws at rest none_named h = rw (none_on at)
entries_there ws {b} at rest (one_named {k} {ks} {e} {fs} n more) h =
    let there : drop at ws ≡ e.type ∷ (e.numbers ++ (written fs ++ rest)) = h ∙ ap (λ l. e.type ∷ l) (append_assoc e.numbers (written fs) rest) in
    let next = past ws at (e.type ∷ e.numbers) (written fs ++ rest) there in
    let z : at + suc (length e.numbers) + length (written fs) ≡ at + suc (length (e.numbers ++ written fs)) = omega (arith, length-append e.numbers (written fs)) in
    rw (entry_there ws b k e at (written fs ++ rest) n there, entries_there ws (at + suc (length e.numbers)) rest more next, z)

-- what fits names what B has
forms_named : {es : List Entry} {gs fs : List (List ℕ)} {ns : List ℕ} → FormsFit es gs fs ns → Below (length gs) ns × (length ns ≡ length fs)
forms_named no_form = (none_below, refl)
forms_named (form h e more) = let r = forms_named more in (below h r.0, ap suc r.1)

pub fits_named : {b : Grammar} {es : List Entry} {ks : Grammar} {fs : List Entry} → TypesFit b es ks fs → EntriesNamed b ks fs
fits_named no_type = none_named
fits_named (type f more) = let n = forms_named f.forms_fit_lem in one_named (record { there = f.there; count = n.1; small = n.0 }) (fits_named more)

forms_complete : {es : List Entry} {gs fs : List (List ℕ)} {ns : List ℕ} → FormsFit es gs fs ns → (at : ℕ) → forms_fit es gs fs ns at ≡ value tt (at + length ns)
unfolding forms_fit fitting
forms_complete no_form at = rw (none_on at)
forms_complete {es} {gs} (form {f} {fs} {n} {ns} h e more) at =
    let z : at + 1 + length ns ≡ at + suc (length ns) = omega arith in
    rw (e, equal_same (get_or gs n []), forms_complete more (at + 1), z)

types_complete : {b : Grammar} {es : List Entry} {ks : Grammar} {fs : List Entry} → TypesFit b es ks fs → (at : ℕ) → types_fit b es ks fs at ≡ value tt (at + length (written fs))
unfolding types_fit type_fits fitting written
types_complete no_type at = rw (none_on at)
types_complete {b} {es} (type {k} {ks} {f} {fs} fit more) at =
    let z : at + 1 + length f.numbers + length (written fs) ≡ at + suc (length (f.numbers ++ written fs)) = omega (arith, length-append f.numbers (written fs)) in
    rw (alike_same fit.kinds, forms_complete fit.forms_fit_lem (at + 1), types_complete more (at + 1 + length f.numbers), z)

fits_complete : (a b : Grammar) (ws : Words) (es : List Entry) → ws ≡ written es → Fits a b es → read_table a b ws ≡ value es (length ws)
unfolding read_table whole_table end
fits_complete a b ws es w f =
    let n : 0 + length (written es) ≡ length ws = omega (arith, ap length w) in
    let there : drop 0 ws ≡ written es ++ [] = w ∙ sym (append-nil (written es)) in
    rw (entries_there ws 0 [] (fits_named f.types) there, n, le-ltb (length ws) (length ws) (omega arith), f.root, types_complete f.types 0, n)

-- A TABLE PASSES EXACTLY IF IT FITS
pub table_exactly : (a b : Grammar) (ws : Words) (es : List Entry) → TableExactly a b ws es
table_exactly a b ws es = record { sound = fits_sound a b ws es; complete = fits_complete a b ws es }

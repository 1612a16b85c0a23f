-- The reading of the table in code: its entries, and the places of its types. Assumes nothing.
use Prim.Native.Nat.{ℕ, zero, suc, ◌+◌, ◌<◌, ◌≤◌, min}
use mathlib.Core.Path.{◌≡◌, refl, sym, ap, ◌∙◌}
use mathlib.Core.List.{List, [], ◌∷◌, ◌++◌, append_assoc, append-nil}
use mathlib.Core.Bool.{Bool, true, false}
use native.Mathlib.Omega.{arith}
use native.Mathlib.Numerals.{add-one}
use lib.ListN.{length, get_or, take, drop, set, replicate, length-set, drop_of_length-le, get_or-eq_default}
use lib.Seq.{take-suc-set, length-take-le, get_or-take, get_or-set_other}
use lib.Dec.{ltb, leb}
use borrow.Author.Tests.{lt-ltb, le-ltb, ltb-true, ltb-false, leb-true, leb-false}
use Rattle.std.specs.Prelude.{Result, Ok, Err}
use Rattle.words.specs.Reader.{Words, Read, value, refused, and_then, return, many, end}
use Rattle.words.specs.Views.{answer, got}
use Rattle.words.proofs.Laws.{read_word, read_bad, answer_map, answer_passed, answer_refused, then_value}
use Rattle.words.proofs.Stretches.{drop_next}
use Rattle.grammar.specs.Grammar.{Kind, token, opt, sequence, forms, Grammar}
use Rattle.grammar.specs.Kinds.{kind_of, forms_of}
use Rattle.grammar.specs.Values.{values_of}
use Rattle.tables.specs.Tables.{map_of}
use Rattle.tables.specs.Types.{AllTypesOf, OfHeads}
use Rattle.tables.specs.declared.types.Types.{Types}
use Rattle.tables.proofs.Filling.{style_map}
use Rattle.convert.specs.Table.{Entry, named, entry, entries, whole_table, entry_of, type_to, form_to, bit_of, written}
use Rattle.convert.specs.Views.{places_of, Placed, ReadAs, EntryRead, WholeRead}
use Rattle.convert.specs.declared.table.Table.{Table}
use Rattle.convert.proofs.Exactly.{here, past, entry_read, table_read}

-- KINDS AS THE TABLES OF TYPES SHOW THEM

forms_values : (k : Kind) → map_of k ≡ 8 → values_of k ≡ length (forms_of k)
unfolding map_of values_of forms_of
forms_values (token c) e = absurd (omega arith)
forms_values (opt f) e = absurd (omega arith)
forms_values (sequence style f) e = absurd ((style_map style).1 e)
forms_values (forms []) e = refl
forms_values (forms (f ∷ fs)) e = refl

forms_none : (k : Kind) → (map_of k ≡ 8 → ⊥) → 0 ≡ length (forms_of k)
unfolding map_of forms_of
forms_none (token c) e = refl
forms_none (opt f) e = refl
forms_none (sequence style f) e = refl
forms_none (forms []) e = refl
forms_none (forms (f ∷ fs)) e = absurd (e refl)

pub count_forms : (k : Kind) (m n : ℕ) → m ≡ map_of k → m ≡ 8 → n ≡ values_of k → n ≡ length (forms_of k)
count_forms k m n em e en = en ∙ forms_values k (sym em ∙ e)

pub count_none : (k : Kind) (m : ℕ) → m ≡ map_of k → (m ≡ 8 → ⊥) → 0 ≡ length (forms_of k)
count_none k m em e = forms_none k (λ x. e (em ∙ x))

map_bit : (k : Kind) → (map_of k ≡ 0 → ⊥) → map_of k ≡ bit_of k
unfolding map_of bit_of
map_bit (token c) e = refl
map_bit (opt f) e = refl
map_bit (sequence style f) e = refl
map_bit (forms []) e = absurd (e refl)
map_bit (forms (f ∷ fs)) e = refl

map_none : (k : Kind) → map_of k ≡ 0 → 8 ≡ bit_of k
unfolding map_of bit_of
map_none (token c) e = absurd (omega arith)
map_none (opt f) e = absurd (omega arith)
map_none (sequence style f) e = absurd (omega (arith, (style_map style).0))
map_none (forms []) e = refl
map_none (forms (f ∷ fs)) e = absurd (omega arith)

pub bit_none : (k : Kind) (m : ℕ) → m ≡ map_of k → m ≡ 0 → 8 ≡ bit_of k
bit_none k m em e = map_none k (sym em ∙ e)

pub bit_there : (k : Kind) (m : ℕ) → m ≡ map_of k → (m ≡ 0 → ⊥) → m ≡ bit_of k
bit_there k m em e = em ∙ map_bit k (λ x. e (em ∙ x))

-- AN ENTRY

module _ (types : Types) (ts : Words) (k at : ℕ) {g : Result (ℕ × ℕ) (ℕ × ℕ)} (e : g ≡ got (named ts types.count at)) where
  pub entry_bad : {x : ℕ × ℕ} → g ≡ Err x → EntryRead types ts k at (Err x)
  unfolding entry
  entry_bad {x} f = λ b kd tb ek. let h : named ts (length b) at ≡ refused x.0 x.1 = rw tb.count_of (read_bad (named ts types.count at) g e f) in rw h

  pub entry_there : {x : ℕ × ℕ} → g ≡ Ok x → {c : ℕ} → OfHeads types (λ g. c ≡ length (forms_of (kind_of g x.0))) → {r : Result ℕ (ℕ × ℕ)} → r ≡ answer (many k (named ts c) x.1) → EntryRead types ts k at r
  unfolding entry
  entry_there {x} f ec er = λ b kd tb ek.
      let h : named ts (length b) at ≡ value x.0 x.1 = rw tb.count_of (read_word (named ts types.count at) g e f) in
      er ∙ rw (h, ek, ec b tb.types_of.heads_of) (answer_map (many (length (forms_of kd)) (named ts (length (forms_of (kind_of b x.0)))) x.1) (λ ns. record { type = x.0; numbers = ns }))

-- THE TABLE

-- t types have been read
pub record TableLoop (old new : Types) (ts : Words) (places : List ℕ) (t at : ℕ) : Type 0 where
  pub long : length places ≡ 64
  pub clear : (i : ℕ) → t ≤ i → get_or places i (length ts) ≡ length ts
  pub rest : (a b : Grammar) → AllTypesOf a old → AllTypesOf b new → answer (entries ts b a 0) ≡ answer (entries ts b (drop t a) at)
  pub stored : (a b : Grammar) (es : List Entry) (next : ℕ) → AllTypesOf a old → AllTypesOf b new → entries ts b a 0 ≡ value es next
      → (fs : List Entry) × (entries ts b (drop t a) at ≡ value fs next) × (take t places ++ places_of at fs ≡ places_of 0 es)

all_clear : (n i d : ℕ) → get_or (replicate n d) i d ≡ d
all_clear zero i d = refl
all_clear (suc n) zero d = refl
all_clear (suc n) (suc i) d = all_clear n i d

pub table_start : {old new : Types} {ts : Words} → TableLoop old new ts (replicate 64 (length ts)) 0 0
table_start {old} {new} {ts} = record { long = refl; clear = λ i h. all_clear 64 i (length ts); rest = λ a b ta tb. refl; stored = λ a b es next ta tb e. (es, e, refl) }

placed_one : (places : List ℕ) (t at : ℕ) (e : Entry) (fs : List Entry) {next : ℕ} → t < length places → next ≡ at + suc (length e.numbers)
    → take (t + 1) (set places t at) ++ places_of next fs ≡ take t places ++ places_of at (e ∷ fs)
unfolding places_of
placed_one places t at e fs h en = rw (add-one t, take-suc-set places t at h, en) (append_assoc (take t places) (at ∷ []) (places_of (at + suc (length e.numbers)) fs))

-- no answer of a whole table where its entries are refused
table_refused : (ts : Words) (a b : Grammar) {no' p : ℕ} → entries ts b a 0 ≡ refused no' p → whole_table ts b a 0 ≡ refused no' p
unfolding whole_table
table_refused ts a b e = rw e

table_over : (ts : Words) (a b : Grammar) (es : List Entry) (p : ℕ) → entries ts b a 0 ≡ value es p → p < length ts → whole_table ts b a 0 ≡ refused 60 p
unfolding whole_table end
table_over ts a b es p e h = rw (e, lt-ltb p (length ts) h)

table_whole : (ts : Words) (a b : Grammar) (es : List Entry) (p : ℕ) → entries ts b a 0 ≡ value es p → length ts ≤ p → whole_table ts b a 0 ≡ value es p
unfolding whole_table end
table_whole ts a b es p e h = rw (e, le-ltb p (length ts) h)

table_entries : (ts : Words) (a b : Grammar) (es : List Entry) (next : ℕ) → whole_table ts b a 0 ≡ value es next → (p : ℕ) × (entries ts b a 0 ≡ value es p)
unfolding whole_table
table_entries ts a b es next h =
    let u = then_value (entries ts b a 0) _ h in
    let m = then_value (end 60 ts u.1) _ u.3 in
    (u.1, cc (u.2, m.3))

none_left : (ts : Words) (b ks : Grammar) (at : ℕ) (fs : List Entry) (next : ℕ) → ks ≡ [] → entries ts b ks at ≡ value fs next → [] ≡ fs
unfolding entries
none_left ts b ks at fs next e h = let z : value [] at ≡ value fs next = rw e at h in cc z

no_value : {A B : Type 0} {no' p : ℕ} (q : Read A) (a : A) (next : ℕ) → q ≡ refused no' p → q ≡ value a next → B
no_value q a next e f = let z : ◌≡◌ {A = ℕ} 0 1 = cc in absurd (omega arith)

-- THE PLACES

word_in : (ts : Words) (p : ℕ) (xs rest : Words) → drop p ts ≡ xs ++ rest → (j : ℕ) → j < length xs → get_or ts (p + j) 0 ≡ get_or xs j 0
word_in ts p [] rest e j h = absurd (omega arith)
word_in ts p (x ∷ xs) rest e zero h = let r = here ts p x (xs ++ rest) e in let z : p + 0 ≡ p = omega arith in rw z r.1
word_in ts p (x ∷ xs) rest e (suc j) h =
    let r = here ts p x (xs ++ rest) e in
    let z : p + suc j ≡ p + 1 + j = omega arith in
    rw z (word_in ts (p + 1) xs rest r.2 j (omega arith))

placed_word : (ts : Words) (es : List Entry) (at : ℕ) (rest : Words) → drop at ts ≡ written es ++ rest → (t : ℕ) → t < length es
    → (j : ℕ) → j < suc (length (entry_of es t).numbers) → get_or ts (get_or (places_of at es) t 0 + j) 0 ≡ get_or ((entry_of es t).type ∷ (entry_of es t).numbers) j 0
unfolding written places_of entry_of
placed_word ts [] at rest e t h j i = absurd (omega arith)
placed_word ts (x ∷ es) at rest e zero h j i =
    let q : drop at ts ≡ (x.type ∷ x.numbers) ++ (written es ++ rest) = e ∙ ap (λ l. x.type ∷ l) (append_assoc x.numbers (written es) rest) in
    word_in ts at (x.type ∷ x.numbers) (written es ++ rest) q j i
placed_word ts (x ∷ es) at rest e (suc t) h j i =
    let q : drop at ts ≡ (x.type ∷ x.numbers) ++ (written es ++ rest) = e ∙ ap (λ l. x.type ∷ l) (append_assoc x.numbers (written es) rest) in
    placed_word ts es (at + suc (length x.numbers)) rest (past ts at (x.type ∷ x.numbers) (written es ++ rest) q) t (omega arith) j i

places_length : (at : ℕ) (es : List Entry) → length (places_of at es) ≡ length es
unfolding places_of
places_length at [] = refl
places_length at (e ∷ es) = ap suc (places_length (at + suc (length e.numbers)) es)

-- a place past the end is as good as the end
past_end : (ts : Words) (p j : ℕ) → get_or ts (min p (length ts) + j) 0 ≡ get_or ts (p + j) 0
past_end ts p j = go (leb p (length ts)) refl
  where
    go : (b : Bool) → leb p (length ts) ≡ b → get_or ts (min p (length ts) + j) 0 ≡ get_or ts (p + j) 0
    go true e = let h = leb-true p (length ts) e in let z : min p (length ts) ≡ p = omega arith in rw z
    go false e = let h = leb-false p (length ts) e in get_or-eq_default ts 0 (omega arith) ∙ sym (get_or-eq_default ts 0 (omega arith))

any_default : (l : List ℕ) (i d e : ℕ) → i < length l → get_or l i d ≡ get_or l i e
any_default [] i d e h = absurd (omega arith)
any_default (x ∷ l) zero d e h = refl
any_default (x ∷ l) (suc i) d e h = any_default l i d e (omega arith)

pub places_placed : (table : Table) (es : List Entry) → table.words.now ≡ written es → (t : ℕ) → take t table.places ≡ places_of 0 es → t ≤ length table.places
    → ((i : ℕ) → t ≤ i → get_or table.places i (length table.words.now) ≡ length table.words.now) → Placed table es
unfolding type_to form_to entry_of
places_placed table es w n p low clear = record { type = λ t. types t (ltb t (length es)) refl; form = λ t v. numbers t v (ltb t (length es)) refl }
  where
    there : drop 0 table.words.now ≡ written es ++ []
    there = w ∙ sym (append-nil (written es))

    long : n ≡ length es
    long = sym (length-take-le n table.places low) ∙ ap length p ∙ places_length 0 es

    place : (t : ℕ) → t < length es → get_or table.places t (length table.words.now) ≡ get_or (places_of 0 es) t 0
    place t h = sym (get_or-take n table.places t (length table.words.now) (omega (arith, long))) ∙ ap (λ l. get_or l t (length table.words.now)) p ∙ any_default (places_of 0 es) t (length table.words.now) 0 (omega (arith, places_length 0 es))

    types : (t : ℕ) (b : Bool) → ltb t (length es) ≡ b → get_or table.words.now (min (get_or table.places t (length table.words.now)) (length table.words.now)) 0 ≡ (get_or es t (record { type = 0; numbers = [] })).type
    types t true e =
        let h = ltb-true t (length es) e in
        let q = placed_word table.words.now es 0 [] there t h 0 (omega arith) in
        let z : min (get_or table.places t (length table.words.now)) (length table.words.now) + 0 ≡ min (get_or table.places t (length table.words.now)) (length table.words.now) = omega arith in
        ap (λ i. get_or table.words.now i 0) (sym z) ∙ past_end table.words.now (get_or table.places t (length table.words.now)) 0 ∙ ap (λ i. get_or table.words.now (i + 0) 0) (place t h) ∙ q
    types t false e =
        let h = ltb-false t (length es) e in
        let c = clear t (omega (arith, long)) in
        get_or-eq_default table.words.now 0 (omega arith) ∙ sym (ap (λ (x : Entry). x.type) (get_or-eq_default es (record { type = 0; numbers = [] }) h))

    numbers : (t v : ℕ) (b : Bool) → ltb t (length es) ≡ b → v < length (get_or es t (record { type = 0; numbers = [] })).numbers
        → get_or table.words.now (min (get_or table.places t (length table.words.now)) (length table.words.now) + 1 + v) 0 ≡ get_or (get_or es t (record { type = 0; numbers = [] })).numbers v 0
    numbers t v true e h =
        let i = ltb-true t (length es) e in
        let q = placed_word table.words.now es 0 [] there t i (suc v) (omega arith) in
        let z : min (get_or table.places t (length table.words.now)) (length table.words.now) + 1 + v ≡ min (get_or table.places t (length table.words.now)) (length table.words.now) + suc v = omega arith in
        ap (λ i. get_or table.words.now i 0) z ∙ past_end table.words.now (get_or table.places t (length table.words.now)) (suc v) ∙ ap (λ i. get_or table.words.now (i + suc v) 0) (place t i) ∙ q
    numbers t v false e h = absurd (omega (arith, ap (λ (x : Entry). length x.numbers) (get_or-eq_default es (record { type = 0; numbers = [] }) (ltb-false t (length es) e))))

-- a reading that is refused
pub as_refused : (ts : Words) (q : Read (List Entry)) {x : ℕ × ℕ} → q ≡ refused x.0 x.1 → ReadAs ts q (Err x)
as_refused ts q e = rw e

module _ {old new : Types} {ts : Words} {places : List ℕ} {t at : ℕ} (l : TableLoop old new ts places t at) where
  ended : (a b : Grammar) → AllTypesOf a old → AllTypesOf b new → t ≤ old.count → old.count ≤ t → (es : List Entry) × (entries ts b a 0 ≡ value es at) × (take t places ≡ places_of 0 es)
  unfolding entries places_of
  ended a b ta tb low h =
      let done : drop t a ≡ [] = drop_of_length-le a {i = t} (omega (arith, ta.count_of)) in
      let r : answer (entries ts b a 0) ≡ Ok at = l.rest a b ta tb ∙ rw done in
      let u = answer_passed (entries ts b a 0) (Ok at) (sym r) refl in
      let s = l.stored a b u.0 at ta tb u.1 in
      let none = none_left ts b (drop t a) at s.0 at done s.1 in
      (u.0, u.1, sym (append-nil (take t places)) ∙ last u.0 s.0 none s.2)
    where
      last : (es fs : List Entry) → [] ≡ fs → take t places ++ places_of at fs ≡ places_of 0 es → take t places ++ [] ≡ places_of 0 es
      last es fs e h = rw (← e) at h

  pub table_left : t ≤ old.count → old.count ≤ t → at < length ts → WholeRead old new ts (Err (60, at))
  table_left low h o = λ a b ta tb. let u = ended a b ta tb low h in as_refused ts (whole_table ts b a 0) (table_over ts a b u.0 at u.1 o)

  pub table_end : t ≤ old.count → old.count ≤ t → length ts ≤ at → t ≤ 64 → (table : Table) → table.words.now ≡ ts → table.places ≡ places → WholeRead old new ts (Ok table)
  table_end low h o few table ew ep = λ a b ta tb.
      let u = ended a b ta tb low h in
      let whole = table_whole ts a b u.0 at u.1 o in
      let read = table_read a b ts u.0 at whole in
      rw whole (ew, places_placed table u.0 (ew ∙ read.words) t (rw ep u.2) (rw ep (omega (arith, l.long))) (rw (ew, ep) l.clear))

  module _ (more : t < old.count) (k : ℕ) (count : OfHeads old (λ g. k ≡ length (forms_of (kind_of g t)))) (c : Result ℕ (ℕ × ℕ)) (told : EntryRead new ts k at c) where
    head_type : (a : Grammar) → AllTypesOf a old → drop t a ≡ kind_of a t ∷ drop (t + 1) a
    unfolding kind_of
    head_type a ta = drop_next a t (forms []) (omega (arith, ta.count_of))

    fault_first : (a b : Grammar) {x : ℕ × ℕ} → AllTypesOf a old → entry ts b (kind_of a t) at ≡ refused x.0 x.1 → answer (entries ts b (drop t a) at) ≡ Err x
    unfolding entries
    fault_first a b ta e = rw (head_type a ta, e)

    pub table_fault : {x : ℕ × ℕ} → c ≡ Err x → WholeRead old new ts (Err x)
    table_fault {x} f = λ a b ta tb.
        let e = answer_refused (entry ts b (kind_of a t) at) c (told b (kind_of a t) tb (count a ta.types_of.heads_of)) f in
        as_refused ts (whole_table ts b a 0) (table_refused ts a b (answer_refused (entries ts b a 0) (answer (entries ts b a 0)) refl (l.rest a b ta tb ∙ fault_first a b ta e)))

    more_first : (a b : Grammar) (e : Entry) {next : ℕ} → AllTypesOf a old → entry ts b (kind_of a t) at ≡ value e next → entries ts b (drop t a) at ≡ and_then (entries ts b (drop (t + 1) a) next) (λ es. return (e ∷ es))
    unfolding entries
    more_first a b e ta h = rw (head_type a ta, h)

    pub table_more : {next : ℕ} → c ≡ Ok next → t < 64 → TableLoop old new ts (set places t at) (t + 1) next
    table_more {next} f low = record {
      long = length-set places t at ∙ l.long;
      clear = λ i h. get_or-set_other places t i at (length ts) (λ e. omega arith) ∙ l.clear i (omega arith);
      rest = λ a b ta tb.
          let u = answer_passed (entry ts b (kind_of a t) at) c (told b (kind_of a t) tb (count a ta.types_of.heads_of)) f in
          l.rest a b ta tb ∙ ap answer (more_first a b u.0 ta u.1) ∙ sym (answer_map (entries ts b (drop (t + 1) a) next) (λ es. u.0 ∷ es));
      stored = λ a b es last ta tb e.
          let u = answer_passed (entry ts b (kind_of a t) at) c (told b (kind_of a t) tb (count a ta.types_of.heads_of)) f in
          let s = l.stored a b es last ta tb e in
          let v = then_value (entries ts b (drop (t + 1) a) next) (λ more. return (u.0 ∷ more)) (sym (more_first a b u.0 ta u.1) ∙ s.1) in
          (v.0, cc (v.2, v.3), one_more u.0 v.0 s.0 es (entry_read ts b (kind_of a t) at u.0 next u.1).2 (cc v.3) s.2);
    }
      where
        one_more : (e : Entry) (fs gs es : List Entry) → next ≡ at + suc (length e.numbers) → e ∷ fs ≡ gs → take t places ++ places_of at gs ≡ places_of 0 es → take (t + 1) (set places t at) ++ places_of next fs ≡ places_of 0 es
        one_more e fs gs es en eg h = placed_one places t at e fs (omega (arith, l.long)) en ∙ (rw (← eg) at h)

-- What the functions of the conversion promise, and how they see the grammars and the table. Assumes nothing: these are definitions.
use Rattle.std.specs.Prelude.{ℕ, suc, ◌+◌, ◌*◌, ◌/◌, ◌≤◌, ◌<◌, ◌≡◌, List, [], ◌∷◌, ◌++◌, map, Bool, true, false, length, get_or, take, drop, ltb, min, Result, Ok, Err}
use Rattle.words.specs.Reader.{Words, pick, Read, value, refused}
use Rattle.words.specs.Views.{answer, equal_words}
use Rattle.grammar.specs.Grammar.{Kind, Grammar}
use Rattle.grammar.specs.Kinds.{kind_of, allowed, children, forms_of}
use Rattle.tables.specs.Types.{TypesOf, AllTypesOf}
use Rattle.tables.specs.declared.types.Types.{Types}
use Rattle.tree.specs.Limits.{most_nodes}
use Rattle.tree.specs.Tree.{Trees, size}
use Rattle.tree.specs.Slip.{counted, read_edition}
use Rattle.marks.specs.Marked.{marked}
use Rattle.convert.specs.Table.{Entry, entry, whole_table, entry_of, type_to, form_to, class_of, alike, forms_fit, type_fits, types_fit, read_table, Fits}
use Rattle.convert.specs.Conversion.{value_to, converted, converted_to, or_refused, Converts}
use Rattle.convert.specs.declared.refusal.AtFault.TheVariants.{Neither}
use Rattle.convert.specs.declared.refusal.ConversionRefusal.{ConversionRefusal}
use Rattle.convert.specs.declared.side.Side.{Side}
use Rattle.convert.specs.declared.view.View.{View}
use Rattle.convert.specs.declared.table.Table.{Table}

-- A GRAMMAR AS THE CODE SEES IT

-- the classes of a grammar's types
pub record Classes (g : Grammar) (cs : Words) : Type 0 where
  pub class : (t : ℕ) → get_or cs t 0 ≡ class_of (kind_of g t)

-- they are this grammar's
pub record Shows (s : Side) (g : Grammar) : Type 0 where
  pub types : AllTypesOf g s.types.types
  pub classes : Classes g s.classes

-- .. as the check of the table sees it
pub record Seen (v : View) (g : Grammar) : Type 0 where
  pub types : AllTypesOf g v.types.now
  pub classes : Classes g v.classes.now

-- THE TABLE AS THE CODE SEES IT

-- where the word of a type stands: the table's end, where there is no such type
abbrev pub place_at : Table → ℕ → ℕ
place_at table t = min (get_or table.places t (length table.words.now)) (length table.words.now)

-- the word of a type
abbrev pub type_at : Table → ℕ → ℕ
type_at table t = get_or table.words.now (place_at table t) 0

-- the word of a form
abbrev pub form_at : Table → ℕ → ℕ → ℕ
form_at table t v = get_or table.words.now (place_at table t + 1 + v) 0

-- the places of the types, where the table begins at a position
unfoldable pub places_of : ℕ → List Entry → List ℕ
places_of at [] = []
places_of at (e ∷ es) = at ∷ places_of (at + suc (length e.numbers)) es

-- the table says what the entries say
pub record Placed (table : Table) (es : List Entry) : Type 0 where
  pub type : (t : ℕ) → type_at table t ≡ type_to es t
  pub form : (t v : ℕ) → v < length (entry_of es t).numbers → form_at table t v ≡ form_to es t v

-- as many numbers as forms
abbrev pub Numbered : Grammar → List Entry → Type 0
Numbered a es = (t : ℕ) → length (entry_of es t).numbers ≡ length (forms_of (kind_of a t))

-- the table that was read, of these words, or the refusal
abbrev pub ReadAs : Words → Read (List Entry) → Result Table (ℕ × ℕ) → Type 0
ReadAs ts (value es next) (Ok table) = (table.words.now ≡ ts) × Placed table es
ReadAs ts (value es next) (Err x) = ⊥
ReadAs ts (refused n p) (Ok table) = ⊥
ReadAs ts (refused n p) (Err x) = x ≡ (n, p)

-- .. with the position at which the reading ended
abbrev pub ReadTo : Words → Read (List Entry) → Result (Table × ℕ) (ℕ × ℕ) → Type 0
ReadTo ts (value es next) (Ok x) = (x.0.words.now ≡ ts) × Placed x.0 es × (x.1 ≡ next)
ReadTo ts (value es next) (Err x) = ⊥
ReadTo ts (refused n p) (Ok x) = ⊥
ReadTo ts (refused n p) (Err x) = x ≡ (n, p)

-- WHAT THE FUNCTIONS PROMISE

-- the answer for an entry of a type with k forms
abbrev pub EntryRead : Types → Words → ℕ → ℕ → Result ℕ (ℕ × ℕ) → Type 0
EntryRead types ts k at r = (b : Grammar) (kd : Kind) → AllTypesOf b types → k ≡ length (forms_of kd) → r ≡ answer (entry ts b kd at)

-- 60: the whole table, or its refusal
abbrev pub WholeRead : Types → Types → Words → Result Table (ℕ × ℕ) → Type 0
WholeRead old new ts r = (a b : Grammar) → AllTypesOf a old → AllTypesOf b new → ReadAs ts (whole_table ts b a 0) r

-- r says whether the kinds are alike
abbrev pub AlikeTested : View → View → Table → ℕ → ℕ → Bool → Type 0
AlikeTested old new table t m r = (a b : Grammar) (es : List Entry) → Seen old a → Seen new b → Placed table es → r ≡ alike es (kind_of a t) (kind_of b m)

-- r says whether form n of B's type m has the mapped types of form v of A's type t
abbrev pub FormTested : Types → Types → Table → ℕ → ℕ → ℕ → ℕ → Bool → Type 0
FormTested old new table t v m n r = (a b : Grammar) (es : List Entry) → TypesOf a old → TypesOf b new → Placed table es → r ≡ equal_words (map (type_to es) (children a t v)) (children b m n)

-- r is the first form that does not fit, or the number of forms
abbrev pub FormsTested : Types → Types → Table → ℕ → ℕ → ℕ → ℕ → Type 0
FormsTested old new table k t m r = (a b : Grammar) (es : List Entry) → TypesOf a old → TypesOf b new → Placed table es → Numbered a es → k ≡ length (forms_of (kind_of a t)) → alike es (kind_of a t) (kind_of b m) ≡ true
    → (at : ℕ) → answer (forms_fit es (forms_of (kind_of b m)) (forms_of (kind_of a t)) (entry_of es t).numbers at) ≡ pick (ltb r k) (Err (61, at + r)) (Ok (at + k))

-- 61: the answer for type t, whose word stands at a position below t times 2^32, as is the next one then
pub record TypeTested (old new : View) (table : Table) (t at : ℕ) (r : Result ℕ (ℕ × ℕ)) : Type 0 where
  pub answered : (a b : Grammar) (es : List Entry) → Seen old a → Seen new b → Placed table es → Numbered a es → r ≡ answer (type_fits b es (kind_of a t) (entry_of es t) at)
  pub low : (next : ℕ) → r ≡ Ok next → next ≤ suc t * 4294967296

-- .. for all types
abbrev pub TypesTested : View → View → Table → Result ℕ (ℕ × ℕ) → Type 0
TypesTested old new table r = (a b : Grammar) (es : List Entry) → Seen old a → Seen new b → length es ≡ length a → Placed table es → Numbered a es → r ≡ answer (types_fit b es a es 0)

-- 60, then 61: the table, or its refusal
abbrev pub TableRead : View → View → Words → Result (Table × ℕ) (ℕ × ℕ) → Type 0
TableRead old new ts r = (a b : Grammar) → Seen old a → Seen new b → ReadTo ts (read_table a b ts) r

-- .. for this new grammar
abbrev pub TableChecked : Side → Grammar → Words → Result Table (ℕ × ℕ) → Type 0
TableChecked old b ts r = (a : Grammar) → Shows old a → ReadAs ts (read_table a b ts) r

-- a node's value in B
abbrev pub ValueMade : Types → Table → ℕ → ℕ → ℕ → Type 0
ValueMade types table t v r = (a : Grammar) (es : List Entry) → TypesOf a types → Placed table es → Numbered a es → allowed a t v ≡ true → r ≡ value_to (kind_of a t) es t v

-- the marked tree of n nodes that the result begins with becomes a slip of B in its place; what is behind it is unchanged
pub record TreeConverted (types : Types) (table : Table) (n : ℕ) (r r' : Words) : Type 0 where
  pub long : length r' ≡ length r
  pub words : (a b : Grammar) (es : List Entry) (us : List ℕ) (ws : Words) → TypesOf a types → Placed table es → Fits a b es → Trees a us ws → size ws ≤ most_nodes → n ≡ size ws → take (2 * n) r ≡ marked a ws
      → r' ≡ counted b (converted a es ws) ++ drop (3 * n) r

-- how many nodes a slip of n words has
unfoldable pub nodes_in : Bool → ℕ → ℕ
nodes_in true n = n / 3
nodes_in false n = n / 2

-- a slip is read and converted by a table that fits
abbrev pub SlipConverted : Types → Table → Bool → Words → Words → Words → Result ℕ ConversionRefusal → Type 0
SlipConverted types table edition ss r r' x = (a b : Grammar) (es : List Entry) → TypesOf a types → Placed table es → Fits a b es
    → Converts (or_refused Neither (read_edition edition a ss) (λ ws. converted_to (counted b (converted a es ws)))) r r' x

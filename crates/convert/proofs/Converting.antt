-- What a table that fits makes of a slip of A: a slip of B, node for node, with the same counts and nesting. Assumes nothing.
use Prim.Native.Nat.{ℕ, zero, suc, ◌+◌, ◌<◌, max}
use mathlib.Core.Path.{◌≡◌, refl, sym, ap, subst, ◌∙◌}
use mathlib.Core.List.{List, [], ◌∷◌, ◌++◌, map, map-append}
use mathlib.Core.Bool.{Bool, true, false}
use native.Mathlib.Omega.{arith}
use lib.ListN.{length, get_or, length-map}
use lib.Dec.{eqb}
use borrow.Author.Tests.{lt-ltb, ltb-true}
use Rattle.words.specs.Reader.{Words, pick}
use Rattle.grammar.specs.Grammar.{Style, repeat, list, map_in, Kind, token, opt, sequence, forms, Grammar}
use Rattle.grammar.specs.Kinds.{kind_of, allows, allowed, children_of, children, forms_of}
use Rattle.tree.specs.Tree.{Trees, none, node, Tree, size, levels_of, levels, nesting_from, nesting, first}
use Rattle.marks.proofs.Marking.{type_there}
use Rattle.convert.specs.Table.{Entry, entry_of, type_to, form_to, bit_of, class_of, element_of, Alike, FormsFit, no_form, form, TypeFits, TypesFit, no_type, type, Fits}
use Rattle.convert.specs.Conversion.{value_to, converted}

-- ONE NODE

-- what is said of a form
pub form_fits : {es : List Entry} {gs fs : List (List ℕ)} {ns : List ℕ} → FormsFit es gs fs ns → (v : ℕ) → v < length fs → (get_or ns v 0 < length gs) × (map (type_to es) (get_or fs v []) ≡ get_or gs (get_or ns v 0) [])
form_fits no_form v h = absurd (omega arith)
form_fits (form low same more) zero h = (low, same)
form_fits (form low same more) (suc v) h = form_fits more v (omega arith)

-- what is said of a type
pub type_fits_lem : {b : Grammar} {es : List Entry} {ks : Grammar} {fs : List Entry} → TypesFit b es ks fs → (t : ℕ) → t < length ks → TypeFits b es (kind_of ks t) (entry_of fs t)
unfolding kind_of entry_of
type_fits_lem no_type t h = absurd (omega arith)
type_fits_lem (type fits more) zero h = fits
type_fits_lem (type fits more) (suc t) h = type_fits_lem more t (omega arith)

map_pick : (f : ℕ → ℕ) (b : Bool) (xs : List ℕ) → pick b (map f xs) [] ≡ map f (pick b xs [])
map_pick f true xs = refl
map_pick f false xs = refl

map_levels : (f : ℕ → ℕ) (k : ℕ) (xs : List ℕ) → map (λ e. suc k) (map f xs) ≡ map (λ e. suc k) xs
map_levels f k [] = refl
map_levels f k (x ∷ xs) = ap (◌∷◌ (suc k)) (map_levels f k xs)

-- a node of the kind k, which is the type t's, and what it becomes, of the kind l: an allowed value, the mapped children, at the same nestings
pub record NodeFits (es : List Entry) (k l : Kind) (t v : ℕ) : Type 0 where
  pub fine : allows l (value_to k es t v) ≡ true
  pub below : children_of l (type_to es t) (value_to k es t v) ≡ map (type_to es) (children_of k t v)
  pub nested : (n : ℕ) → levels_of l (value_to k es t v) n ≡ levels_of k v n

-- a kind, from its bit, its class, its element and its forms
rebuilt : ℕ → ℕ → List ℕ → List (List ℕ) → Kind
rebuilt bit c es fs = pick (eqb bit 1) (token c) (pick (eqb bit 2) (opt (get_or es 0 0)) (pick (eqb bit 4) (sequence repeat (get_or es 0 0)) (pick (eqb bit 16) (sequence list (get_or es 0 0)) (forms fs))))

kind_rebuilt : (k : Kind) → rebuilt (bit_of k) (class_of k) (element_of k) (forms_of k) ≡ k
unfolding rebuilt bit_of class_of element_of forms_of
kind_rebuilt (token c) = refl
kind_rebuilt (opt e) = refl
kind_rebuilt (sequence repeat e) = refl
kind_rebuilt (sequence list e) = refl
kind_rebuilt (forms fs) = refl

-- two kinds of one bit
pub data OneKind : Kind → Kind → Type 0 where
  tokens : (c d : ℕ) → OneKind (token c) (token d)
  opts : (e f : ℕ) → OneKind (opt e) (opt f)
  sequences : (style : Style) (e f : ℕ) → OneKind (sequence style e) (sequence style f)
  with_forms : (fs gs : List (List ℕ)) → OneKind (forms fs) (forms gs)

from_one : (k : Kind) (c : ℕ) (es : List ℕ) (fs : List (List ℕ)) → OneKind k (rebuilt (bit_of k) c es fs)
unfolding rebuilt bit_of
from_one (token d) c es fs = tokens d c
from_one (opt e) c es fs = opts e (get_or es 0 0)
from_one (sequence repeat e) c es fs = sequences repeat e (get_or es 0 0)
from_one (sequence list e) c es fs = sequences list e (get_or es 0 0)
from_one (forms gs) c es fs = with_forms gs fs

pub one_kind : (k l : Kind) → bit_of k ≡ bit_of l → OneKind k l
one_kind k l e = subst (OneKind k) (ap (λ n. rebuilt n (class_of l) (element_of l) (forms_of l)) e ∙ kind_rebuilt l) (from_one k (class_of l) (element_of l) (forms_of l))

-- the value of a sequence is kept
sequence_kept : (style : Style) (v w : ℕ) → pick (eqb (map_in style) 8) w v ≡ v
sequence_kept repeat v w = refl
sequence_kept list v w = refl

node_fits : (es : List Entry) (t v : ℕ) {k l : Kind} → OneKind k l → Alike es k l → FormsFit es (forms_of l) (forms_of k) (entry_of es t).numbers → allows k v ≡ true → NodeFits es k l t v
unfolding value_to form_to allows children_of levels_of forms_of bit_of class_of element_of
node_fits es t v (tokens c d) a ff h = record { fine = rw a.class at h; below = refl; nested = λ n. refl }
node_fits es t v (opts e f) a ff h = let x : type_to es e ≡ f = cc a.element in record { fine = h; below = rw (← x) (map_pick (type_to es) (eqb v 0) (e ∷ [])); nested = λ n. refl }
node_fits es t v (sequences style e f) a ff h =
    let x : type_to es e ≡ f = cc a.element in
    let s = sequence_kept style v (get_or (entry_of es t).numbers v 0) in
    record { fine = rw s h; below = rw (s, ← x) (map_pick (type_to es) (eqb v 0) (e ∷ t ∷ [])); nested = λ n. rw s }
node_fits es t v (with_forms fs gs) a ff h =
    let u = form_fits ff v (ltb-true v (length fs) h) in
    record {
      fine = lt-ltb (get_or (entry_of es t).numbers v 0) (length gs) u.0;
      below = sym u.1;
      nested = λ n. ap (map (λ e. suc n)) (sym u.1) ∙ map_levels (type_to es) n (get_or fs v []);
    }

module _ {a b : Grammar} {es : List Entry} (fits : Fits a b es) where
  -- what a node of A becomes is one of B
  pub node_converts : (t v : ℕ) → allowed a t v ≡ true → NodeFits es (kind_of a t) (kind_of b (type_to es t)) t v
  unfolding allowed type_to
  node_converts t v h =
      let f = type_fits_lem fits.types t (type_there a t v h) in
      node_fits es t v (one_kind (kind_of a t) (kind_of b (type_to es t)) f.kinds.kind) f.kinds f.forms_fit_lem h

  -- THE TREES

  allowed_there : (t v : ℕ) → allowed a t v ≡ true → allowed b (type_to es t) (value_to (kind_of a t) es t v) ≡ true
  unfolding allowed
  allowed_there t v h = (node_converts t v h).fine

  below_there : (t v : ℕ) (ts : List ℕ) → allowed a t v ≡ true → children b (type_to es t) (value_to (kind_of a t) es t v) ++ map (type_to es) ts ≡ map (type_to es) (children a t v ++ ts)
  unfolding children
  below_there t v ts h = ap (λ l. l ++ map (type_to es) ts) (node_converts t v h).below ∙ sym (map-append (type_to es) (children_of (kind_of a t) t v) ts)

  -- "Each slip of A that nothing refuses is converted node for node, types and forms as the table says, all other values kept, and is then a slip of B"
  pub trees_convert : {ts : List ℕ} {ws : Words} → Trees a ts ws → Trees b (map (type_to es) ts) (converted a es ws)
  unfolding converted
  trees_convert none = none
  trees_convert (node {t} {v} {ts} {ws} h r) =
      let below : Trees b (children b (type_to es t) (value_to (kind_of a t) es t v) ++ map (type_to es) ts) (converted a es ws) = rw (below_there t v ts h) (trees_convert r) in
      node (allowed_there t v h) below

  -- as many children
  children_count : (t v : ℕ) → allowed a t v ≡ true → length (children b (type_to es t) (value_to (kind_of a t) es t v)) ≡ length (children a t v)
  unfolding children
  children_count t v h = ap length (node_converts t v h).below ∙ length-map (children_of (kind_of a t) t v) (type_to es)

  levels_same : (t v k : ℕ) → allowed a t v ≡ true → levels b (type_to es t) (value_to (kind_of a t) es t v) k ≡ levels a t v k
  unfolding levels
  levels_same t v k h = (node_converts t v h).nested k

  -- the same nesting
  pub nesting_converts : {ts : List ℕ} {ws : Words} → Trees a ts ws → (ks : List ℕ) → nesting_from b (converted a es ws) ks ≡ nesting_from a ws ks
  unfolding nesting_from converted
  nesting_converts none ks = refl
  nesting_converts (node {t} {v} {ts} {ws} h r) [] = refl
  nesting_converts (node {t} {v} {ts} {ws} h r) (k ∷ ks) = ap (max k) (rw (levels_same t v k h) (nesting_converts r (levels a t v k ++ ks)))

  -- the same tree of each node
  pub first_converts : {ts : List ℕ} {ws : Words} → Trees a ts ws → (n : ℕ) → first b (converted a es ws) n ≡ converted a es (first a ws n)
  unfolding first converted
  first_converts none n = refl
  first_converts (node {t} {v} {ts} {ws} h r) zero = refl
  first_converts (node {t} {v} {ts} {ws} h r) (suc n) = ap (λ l. type_to es t ∷ value_to (kind_of a t) es t v ∷ l) (rw (children_count t v h) (first_converts r (length (children a t v) + n)))

-- the same size
pub converted_size : (a : Grammar) (es : List Entry) (ws : Words) → size (converted a es ws) ≡ size ws
unfolding size converted
converted_size a es [] = refl
converted_size a es (t ∷ []) = refl
converted_size a es (t ∷ v ∷ ws) = ap suc (converted_size a es ws)

-- A SLIP OF A BECOMES A SLIP OF B
pub converts : {a b : Grammar} {es : List Entry} → Fits a b es → {ws : Words} → Tree a 0 ws → Tree b 0 (converted a es ws)
unfolding nesting
converts {a} {b} {es} fits {ws} tr =
    let n = nesting_converts fits tr.typed (1 ∷ []) in
    record {
      typed = rw fits.root at (trees_convert fits tr.typed);
      nodes = omega (arith, converted_size a es ws, tr.nodes);
      nested = omega (arith, n, tr.nested);
    }

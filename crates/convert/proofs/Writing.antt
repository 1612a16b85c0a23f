-- The loop that writes a slip of B from the marked tree of A. Assumes nothing.
use Prim.Native.Nat.{ℕ, zero, suc, ◌+◌, ◌-◌, ◌*◌, ◌/◌, ◌<◌, ◌≤◌}
use mathlib.Core.Path.{◌≡◌, refl, sym, ap, ◌∙◌}
use mathlib.Core.List.{List, [], ◌∷◌, ◌++◌}
use mathlib.Core.Bool.{Bool, true, false}
use native.Mathlib.Omega.{arith}
use lib.ListN.{length, get_or, take, drop, set, length-set, drop_of_length-le}
use lib.Seq.{get_or-take, take-take, take-set-le}
use borrow.Author.Tests.{eq-eqb, ne_eqb, ltb-true}
use Rattle.words.specs.Reader.{Words}
use Rattle.grammar.specs.Grammar.{Kind, token, opt, sequence, forms, Grammar}
use Rattle.grammar.specs.Kinds.{kind_of, allows, allowed, forms_of}
use Rattle.tables.specs.Types.{TypesOf, OfHeads}
use Rattle.tables.specs.declared.types.Types.{Types}
use Rattle.tables.proofs.Filling.{style_map}
use Rattle.tree.specs.Tree.{Trees, none, node, size, first_tree}
use Rattle.tree.specs.Slip.{counted}
use Rattle.tree.proofs.Slip.{counted_length}
use Rattle.marks.specs.Marked.{type_in, size_in, marked}
use Rattle.slips.proofs.Counts.{mark_says, drop_three}
use Rattle.convert.specs.Table.{Entry, type_to, bit_of, Fits}
use Rattle.convert.specs.Conversion.{value_to, converted}
use Rattle.convert.specs.declared.table.Table.{Table}
use Rattle.convert.specs.Views.{form_at, type_at, Placed, Numbered, ValueMade, TreeConverted, nodes_in}
use Rattle.convert.proofs.Converting.{first_converts, converted_size}

-- A VALUE

-- an allowed value of a type with forms is the number of one
formed : (k : Kind) (v : ℕ) → bit_of k ≡ 8 → allows k v ≡ true → v < length (forms_of k)
unfolding bit_of allows forms_of
formed (token c) v e h = absurd (omega arith)
formed (opt f) v e h = absurd (omega arith)
formed (sequence style f) v e h = absurd ((style_map style).1 e)
formed (forms fs) v e h = ltb-true v (length fs) h

module _ {types : Types} (table : Table) (t v : ℕ) {k : ℕ} (ek : OfHeads types (λ g. k ≡ bit_of (kind_of g t))) where
  pub value_form : k ≡ 8 → {r : ℕ} → r ≡ form_at table t v → ValueMade types table t v r
  unfolding allowed value_to
  value_form h er = λ a es ha p q fine.
      let bit : bit_of (kind_of a t) ≡ 8 = sym (ek a ha.heads_of) ∙ h in
      er ∙ p.form t v (omega (arith, q t, formed (kind_of a t) v bit fine)) ∙ rw (eq-eqb (bit_of (kind_of a t)) 8 bit)

  pub value_kept : (k ≡ 8 → ⊥) → ValueMade types table t v v
  unfolding value_to
  value_kept h = λ a es ha p q fine. rw (ne_eqb (bit_of (kind_of a t)) 8 (λ e. h (ek a ha.heads_of ∙ e)))

-- A NODE

-- node i of the marked tree, and of the slip that it becomes
record NodeThere (a b : Grammar) (es : List Entry) (part out : Words) (i : ℕ) : Type 0 where
  type : type_to es (type_in (get_or part (2 * i) 0)) ≡ get_or out (3 * i) 0
  fine : allowed a (type_in (get_or part (2 * i) 0)) (get_or part (2 * i + 1) 0) ≡ true
  value : value_to (kind_of a (type_in (get_or part (2 * i) 0))) es (type_in (get_or part (2 * i) 0)) (get_or part (2 * i + 1) 0) ≡ get_or out (3 * i + 1) 0
  count : size_in (get_or part (2 * i) 0) ≡ get_or out (3 * i + 2) 0

node_there : {a b : Grammar} {es : List Entry} {us : List ℕ} {ws : Words} → Fits a b es → length a ≤ 64 → size ws ≤ 2048 → Trees a us ws → (i : ℕ) → i < size ws → NodeThere a b es (marked a ws) (counted b (converted a es ws)) i
unfolding size marked counted converted
node_there fits few s none i h = absurd (omega arith)
node_there {a} {b} {es} fits few s (node {t} {v} {ts} {ws} ok r) zero h =
    let says = mark_says a (t ∷ ts) t v ws few s (node ok r) in
    let same = ap size (first_converts fits (node {t = t} {v = v} {ts = ts} {ws = ws} ok r) 1) ∙ converted_size a es (first_tree a (t ∷ v ∷ ws)) in
    record {
      type = ap (type_to es) says.type;
      fine = ap (λ x. allowed a x v) says.type ∙ ok;
      value = ap (λ x. value_to (kind_of a x) es x v) says.type;
      count = says.count ∙ sym same;
    }
node_there {a} {b} {es} fits few s (node {t} {v} {ts} {ws} ok r) (suc i) h =
    let n = node_there fits few (omega arith) r i (omega arith) in
    let p : 2 * suc i ≡ suc (suc (2 * i)) = omega arith in
    let p₁ : 2 * suc i + 1 ≡ suc (suc (2 * i + 1)) = omega arith in
    let q : 3 * suc i ≡ suc (suc (suc (3 * i))) = omega arith in
    let q₁ : 3 * suc i + 1 ≡ suc (suc (suc (3 * i + 1))) = omega arith in
    let q₂ : 3 * suc i + 2 ≡ suc (suc (suc (3 * i + 2))) = omega arith in
    record { type = rw (p, q) n.type; fine = rw (p₁, p) n.fine; value = rw (p₁, p, q₁) n.value; count = rw (p, q₂) n.count }

-- THE LOOP, from the last node to the first

three_set : (r : Words) (k x y z : ℕ) → k + 3 ≤ length r → drop k (set (set (set r k x) (k + 1) y) (k + 2) z) ≡ x ∷ y ∷ z ∷ drop (k + 3) r
three_set [] k x y z h = absurd (omega arith)
three_set (a ∷ []) k x y z h = absurd (omega arith)
three_set (a ∷ b ∷ []) k x y z h = absurd (omega arith)
three_set (a ∷ b ∷ c ∷ r) zero x y z h = refl
three_set (a ∷ b ∷ c ∷ r) (suc k) x y z h =
    let e₁ : suc k + 1 ≡ suc (k + 1) = omega arith in
    let e₂ : suc k + 2 ≡ suc (k + 2) = omega arith in
    let e₃ : suc k + 3 ≡ suc (k + 3) = omega arith in
    rw (e₁, e₂, e₃) (three_set (b ∷ c ∷ r) k x y z (omega arith))

-- what is written, of what
pub record Writes (types : Types) (table : Table) (n : ℕ) (r : Words) (a b : Grammar) (es : List Entry) (us : List ℕ) (ws : Words) : Type 0 where
  pub types_a : TypesOf a types
  pub placed : Placed table es
  pub fits : Fits a b es
  pub numbered : Numbered a es
  pub trees : Trees a us ws
  pub few : size ws ≤ 2048
  pub count : n ≡ size ws
  pub stands : take (2 * n) r ≡ marked a ws

-- the first i nodes are still marked, those behind them are written
pub record WriteLoop (types : Types) (table : Table) (n : ℕ) (r₀ r : Words) (i : ℕ) : Type 0 where
  pub inside : i ≤ n
  pub long : length r ≡ length r₀
  pub kept : take (2 * i) r ≡ take (2 * i) r₀
  pub words : (a b : Grammar) (es : List Entry) (us : List ℕ) (ws : Words) → Writes types table n r₀ a b es us ws → drop (3 * i) r ≡ drop (3 * i) (counted b (converted a es ws)) ++ drop (3 * n) r₀

out_length : (a b : Grammar) (es : List Entry) (ws : Words) → length (counted b (converted a es ws)) ≡ 3 * size ws
out_length a b es ws = counted_length b (converted a es ws) ∙ ap (λ n. 3 * n) (converted_size a es ws)

pub write_start : (types : Types) (table : Table) (n : ℕ) (r₀ : Words) → WriteLoop types table n r₀ r₀ n
write_start types table n r₀ = record {
  inside = omega arith;
  long = refl;
  kept = refl;
  words = λ a b es us ws w. sym (ap (λ l. l ++ drop (3 * n) r₀) (drop_of_length-le (counted b (converted a es ws)) {i = 3 * n} (omega (arith, out_length a b es ws, w.count))));
}

module _ {types : Types} {table : Table} {n : ℕ} {r₀ r : Words} {i : ℕ} (l : WriteLoop types table n r₀ r i) (room : 3 * n ≤ length r₀) where
  pub write_end : i ≤ 0 → ((a b : Grammar) (es : List Entry) → Fits a b es → Numbered a es) → TreeConverted types table n r₀ r
  write_end h numbered = record {
    long = l.long;
    words = λ a b es us ws ha p f q s e there.
        let z : 3 * i ≡ 0 = omega arith in
        rw z at (l.words a b es us ws (record { types_a = ha; placed = p; fits = f; numbered = numbered a b es f; trees = q; few = s; count = e; stands = there }));
  }

  module _ (more : 0 < i) (j : ℕ) (ej : j ≡ i - 1) where
    -- what is read stands there as at first
    same_word : (k : ℕ) → k < 2 * i → get_or r k 0 ≡ get_or r₀ k 0
    same_word k h = sym (get_or-take (2 * i) r k 0 h) ∙ ap (λ m. get_or m k 0) l.kept ∙ get_or-take (2 * i) r₀ k 0 h

    module _ (a b : Grammar) (es : List Entry) (us : List ℕ) (ws : Words) (w : Writes types table n r₀ a b es us ws) where
      marked_word : (k : ℕ) → k < 2 * i → get_or r k 0 ≡ get_or (marked a ws) k 0
      marked_word k h = same_word k h ∙ sym (get_or-take (2 * n) r₀ k 0 (omega (arith, l.inside))) ∙ ap (λ m. get_or m k 0) w.stands

      node_here : NodeThere a b es (marked a ws) (counted b (converted a es ws)) j
      node_here = node_there w.fits w.types_a.heads_of.types w.few w.trees j (omega (arith, l.inside, w.count))

    pub write_more : (t m v c : ℕ) → t ≡ type_in (get_or r (2 * j) 0) → m ≡ type_at table t → ValueMade types table t (get_or r (2 * j + 1) 0) v → c ≡ size_in (get_or r (2 * j) 0)
        → WriteLoop types table n r₀ (set (set (set r (3 * j) m) (3 * j + 1) v) (3 * j + 2) c) j
    write_more t m v c et em ev ec = record {
      inside = omega (arith, l.inside);
      long = length-set (set (set r (3 * j) m) (3 * j + 1) v) (3 * j + 2) c ∙ length-set (set r (3 * j) m) (3 * j + 1) v ∙ length-set r (3 * j) m ∙ l.long;
      kept =
          take-set-le (2 * j) (set (set r (3 * j) m) (3 * j + 1) v) (3 * j + 2) c (omega arith) ∙ take-set-le (2 * j) (set r (3 * j) m) (3 * j + 1) v (omega arith) ∙ take-set-le (2 * j) r (3 * j) m (omega arith)
          ∙ sym (take-take (2 * j) (2 * i) r (omega arith)) ∙ ap (take (2 * j)) l.kept ∙ take-take (2 * j) (2 * i) r₀ (omega arith);
      words = λ a b es us ws w.
          let out = counted b (converted a es ws) in
          let there = node_here a b es us ws w in
          let mark = marked_word a b es us ws w (2 * j) (omega arith) in
          let value = marked_word a b es us ws w (2 * j + 1) (omega arith) in
          let et' : t ≡ type_in (get_or (marked a ws) (2 * j) 0) = et ∙ ap type_in mark in
          let fine : allowed a t (get_or r (2 * j + 1) 0) ≡ true = rw (et', value) there.fine in
          let em' : m ≡ get_or out (3 * j) 0 = em ∙ w.placed.type t ∙ ap (type_to es) et' ∙ there.type in
          let ev' : v ≡ get_or out (3 * j + 1) 0 = ev a es w.types_a w.placed w.numbered fine ∙ rw (et', value) there.value in
          let ec' : c ≡ get_or out (3 * j + 2) 0 = ec ∙ ap size_in mark ∙ there.count in
          let at : 3 * j + 3 ≡ 3 * i = omega arith in
          let next : 3 * (j + 1) ≡ 3 * i = omega arith in
          let behind = three_set r (3 * j) m v c (omega (arith, l.long, l.inside)) ∙ ap (λ k. m ∷ v ∷ c ∷ drop k r) at ∙ ap (λ x. m ∷ v ∷ c ∷ x) (l.words a b es us ws w) in
          let three = drop_three out j (omega (arith, out_length a b es ws, l.inside, w.count)) ∙ ap (λ k. get_or out (3 * j) 0 ∷ get_or out (3 * j + 1) 0 ∷ get_or out (3 * j + 2) 0 ∷ drop k out) next in
          behind ∙ rw (three, em', ev', ec');
    }

-- THE SLIP'S NODES

pub nodes_counted : (c : Bool) (n : ℕ) → c ≡ true → n / 3 ≡ nodes_in c n
unfolding nodes_in
nodes_counted c n e = rw e

pub nodes_plain : (c : Bool) (n : ℕ) → c ≡ false → n / 2 ≡ nodes_in c n
unfolding nodes_in
nodes_plain c n e = rw e

-- Laws of the readers of a tree: the first pair, a node and its children, and a walk over the words with a reader at each place. Assumes nothing.
use Prim.Native.Nat.{ℕ, suc, ◌+◌, ◌-◌, ◌%◌, ◌<◌, ◌≤◌}
use mathlib.Core.Path.{◌≡◌, refl, sym, ap, ◌∙◌}
use mathlib.Core.List.{List, [], ◌∷◌, ◌++◌, map, append-nil}
use mathlib.Core.Bool.{Bool, true, false}
use Rattle.std.proofs.Math.Logic.{∥∥₁_elim, ∥∥₁_map}
use mathlib.Core.HLevel.{×_prop, ×₃_prop}
use native.Mathlib.Bridge.{le_prop}
use native.Mathlib.Omega.{arith}
use native.Mathlib.Nat.{ℕ_set, add-zero, zero-add}
use native.Mathlib.Numerals.{add-one}
use lib.ListN.{length, get_or, take, drop, length-drop, drop_of_length-le}
use lib.Seq.{drop-drop, drop-cons}
use lib.Dec.{ltb, leb, eqb}
use borrow.Author.Tests.{eq-eqb, ne_eqb, lt-ltb, le-ltb, le-leb, lt-leb, leb-true}
use Rattle.std.specs.Prelude.{Result, Ok, Err}
use Rattle.words.specs.Reader.{Words, pick, Read, value, refused, Reader, and_then, ◌>>◌}
use Rattle.words.specs.Views.{answer, got}
use Rattle.words.proofs.Stretches.{part_rest}
use Rattle.words.proofs.Laws.{read_word, read_bad, answer_passed, answer_refused, require_value}
use Rattle.grammar.specs.Grammar.{Kind, token, opt, sequence, forms, Grammar}
use Rattle.grammar.specs.Kinds.{kind_of, allowed, children_of, children, is_sequence_kind, is_sequence}
use Rattle.tables.specs.Types.{TypesOf, OfHeads, OfRows, OfTypes}
use Rattle.tables.specs.declared.grammar_types.GrammarTypes.{GrammarTypes}
use Rattle.tree.specs.Limits.{most_tree_words, most_nesting}
use Rattle.tree.specs.Tree.{levels_of, levels}
use Rattle.tree.specs.Dues.{first_word, second_word, leaves, pairs, whole}
use Rattle.tree.specs.Reading.{Due, tree, dues_of, meets_node, read_trees, read_tree_of}
use Rattle.tree.specs.Views.{nesting_at, level, read_head}
use Rattle.tree.proofs.Dues.{none_due, pairs_forward, pairs_split}
use Rattle.tree.proofs.Accepted.{node_steady}

-- THE FIRST PAIR

module _ (g : Grammar) (k d : ℕ) (s : Words) (at : ℕ) where
  pub head_short : length s < 2 → Err (31, at + length s) ≡ got (read_head g k d s at)
  unfolding read_head
  head_short h = rw (lt-leb 2 (length s) h)

  module _ (h : 2 ≤ length s) where
    pub head_type : (get_or s 0 0 ≡ d → ⊥) → Err (32, at) ≡ got (read_head g k d s at)
    unfolding read_head
    head_type t = rw (le-leb 2 (length s) h, ne_eqb (get_or s 0 0) d t, add-zero at)

    module _ (t : get_or s 0 0 ≡ d) where
      pub head_deep : most_nesting < k → Err (33, at) ≡ got (read_head g k d s at)
      unfolding read_head
      head_deep l = rw (le-leb 2 (length s) h, eq-eqb (get_or s 0 0) d t, lt-leb k most_nesting l, add-zero at)

      module _ (l : k ≤ most_nesting) (v : ℕ) (ev : v ≡ get_or s 1 0) (b : Bool) (eb : b ≡ allowed g d v) where
        pub head_value : b ≡ true → Ok (v, at + 2) ≡ got (read_head g k d s at)
        unfolding read_head
        head_value q = rw (le-leb 2 (length s) h, eq-eqb (get_or s 0 0) d t, le-leb k most_nesting l, ← ev, ← eb, q)

        pub head_misfit : b ≡ false → Err (32, at + 1) ≡ got (read_head g k d s at)
        unfolding read_head
        head_misfit q = rw (le-leb 2 (length s) h, eq-eqb (get_or s 0 0) d t, le-leb k most_nesting l, ← ev, ← eb, q)

-- what a right first pair tells
record HeadOk (k : ℕ) (s : Words) (at next : ℕ) : Type 0 where
  room : 2 ≤ length s
  spare : k ≤ most_nesting
  after : next ≡ at + 2

head_ok : (g : Grammar) (k d : ℕ) (s : Words) (at : ℕ) {v next : ℕ} → read_head g k d s at ≡ value v next → HeadOk k s at next
unfolding read_head
head_ok g k d s at {v} {next} e =
    let f₃ : Unit {0} → Reader ℕ = λ u at. value (get_or s 1 0) (at + 2) in
    let f₂ : Unit {0} → Reader ℕ = λ u. ◌>>◌ (second_word (allowed g d (get_or s 1 0)) 32) (f₃ tt) in
    let f₁ : Unit {0} → Reader ℕ = λ u. ◌>>◌ (first_word (leb k most_nesting) 33) (f₂ tt) in
    let f₀ : Unit {0} → Reader ℕ = λ u. ◌>>◌ (first_word (eqb (get_or s 0 0) d) 32) (f₁ tt) in
    let r₀ = require_value (leb 2 (length s)) 31 (length s) at f₀ e in
    let r₁ = require_value (eqb (get_or s 0 0) d) 32 0 at f₁ r₀.1 in
    let r₂ = require_value (leb k most_nesting) 33 0 at f₂ r₁.1 in
    let r₃ = require_value (allowed g d (get_or s 1 0)) 32 1 at f₃ r₂.1 in
    let z : at + 2 ≡ next = cc r₃.1 in
    record { room = leb-true 2 (length s) r₀.0; spare = leb-true k most_nesting r₂.0; after = sym z }

-- A TREE IS ITS FIRST PAIR, THEN ITS CHILDREN

tree_step : (g : Grammar) (k d : ℕ) (ds : List Due) (at : ℕ) (s : Words)
    → read_trees g s (tree k d ∷ ds) at ≡ and_then (read_head g k d s at) (λ v next. read_trees g (drop 2 s) (dues_of (levels g d v k) (children g d v) ++ ds) next)
unfolding pairs meets_node read_head
tree_step g k d ds at [] = let z : at + 0 ≡ at = omega arith in rw z
tree_step g k d ds at (t ∷ []) = refl
tree_step g k d ds at (t ∷ u ∷ w) = rw (le-leb 2 (suc (suc (length w))) (omega arith)) (go (eqb t d) (leb k most_nesting) (allowed g d u))
  where
    go : (a b c : Bool)
        → and_then (and_then (first_word a 32 at) (λ x. ◌>>◌ (first_word b 33) (◌>>◌ (second_word c 32) (leaves {C = Unit {0}} tt (dues_of (levels g d u k) (children g d u)))))) (λ s. pairs (meets_node g) 31 w (s.dues ++ ds) s.known)
        ≡ and_then (and_then (first_word a 32 at) (λ x. ◌>>◌ (first_word b 33) (◌>>◌ (second_word c 32) (λ at. value u (at + 2))))) (λ v next. read_trees g w (dues_of (levels g d v k) (children g d v) ++ ds) next)
    go true true true = refl
    go true true false = refl
    go true false c = refl
    go false b c = refl

-- the dues of a node's children: all one deeper
dues_level : (k : ℕ) (ts : List ℕ) → dues_of (map (λ e. k) ts) ts ≡ level k ts
unfolding dues_of
dues_level k [] = refl
dues_level k (t ∷ ts) = ap (λ l. tree k t ∷ l) (dues_level k ts)

kind_dues : (kd : Kind) (d v k : ℕ) → is_sequence_kind kd ≡ false → dues_of (levels_of kd v k) (children_of kd d v) ≡ level (suc k) (children_of kd d v)
unfolding is_sequence_kind levels_of children_of dues_of
kind_dues (token c) d v k h = refl
kind_dues (opt e) d v k h = go (eqb v 0)
  where
    go : (b : Bool) → dues_of (pick b (suc k ∷ []) []) (pick b (e ∷ []) []) ≡ level (suc k) (pick b (e ∷ []) [])
    go true = refl
    go false = refl
kind_dues (sequence style e) d v k h = let z : ◌≡◌ {A = ℕ} 0 1 = cc in absurd (omega arith)
kind_dues (forms fs) d v k h = dues_level (suc k) (get_or fs v [])

pub children_dues : (g : Grammar) (d v k : ℕ) → is_sequence g d ≡ false → dues_of (levels g d v k) (children g d v) ≡ level (suc k) (children g d v)
unfolding is_sequence levels children
children_dues g d v k h = kind_dues (kind_of g d) d v k h

-- .. but the rest of a sequence, which has its parent's nesting
kind_some : (kd : Kind) (d k : ℕ) → is_sequence_kind kd ≡ true → dues_of (levels_of kd 0 k) (children_of kd d 0) ≡ tree (suc k) (get_or (children_of kd d 0) 0 0) ∷ tree k d ∷ []
unfolding is_sequence_kind levels_of children_of dues_of
kind_some (token c) d k h = let z : ◌≡◌ {A = ℕ} 0 1 = cc in absurd (omega arith)
kind_some (opt e) d k h = let z : ◌≡◌ {A = ℕ} 0 1 = cc in absurd (omega arith)
kind_some (sequence style e) d k h = refl
kind_some (forms fs) d k h = let z : ◌≡◌ {A = ℕ} 0 1 = cc in absurd (omega arith)

pub sequence_some : (g : Grammar) (d k : ℕ) → is_sequence g d ≡ true → dues_of (levels g d 0 k) (children g d 0) ≡ tree (suc k) (get_or (children g d 0) 0 0) ∷ tree k d ∷ []
unfolding is_sequence levels children
sequence_some g d k h = kind_some (kind_of g d) d k h

kind_none : (kd : Kind) (d v k : ℕ) → is_sequence_kind kd ≡ true → (v ≡ 0 → ⊥) → dues_of (levels_of kd v k) (children_of kd d v) ≡ []
unfolding is_sequence_kind levels_of children_of dues_of
kind_none (token c) d v k h z = let z : ◌≡◌ {A = ℕ} 0 1 = cc in absurd (omega arith)
kind_none (opt e) d v k h z = let z : ◌≡◌ {A = ℕ} 0 1 = cc in absurd (omega arith)
kind_none (sequence style e) d v k h z = rw (ne_eqb v 0 z)
kind_none (forms fs) d v k h z = let z : ◌≡◌ {A = ℕ} 0 1 = cc in absurd (omega arith)

pub sequence_none : (g : Grammar) (d v k : ℕ) → is_sequence g d ≡ true → (v ≡ 0 → ⊥) → dues_of (levels g d v k) (children g d v) ≡ []
unfolding is_sequence levels children
sequence_none g d v k h z = kind_none (kind_of g d) d v k h z

-- A WALK over the words s, which begin at `start`: the whole reading is that of what is due from a position on. So for every grammar with these types
pub record Walk (types : GrammarTypes) (s : Words) (start : ℕ) (all : Grammar → Read (Unit {0})) (due : Grammar → List Due) (at : ℕ) : Type 0 where
  pub from : start ≤ at
  pub low : at ≤ start + length s
  pub rest : OfTypes types.types (λ g. all g ≡ read_trees g (drop (at - start) s) (due g) at)

pub walk_start : {types : GrammarTypes} {s : Words} {start : ℕ} (due : Grammar → List Due)
    → Walk types s start (λ g. read_trees g s (due g) start) due start
walk_start {types} {s} {start} due =
    let z : start - start ≡ 0 = omega arith in
    record { from = omega arith; low = omega arith; rest = λ g x. rw z }

-- the same dues, said otherwise
pub walk_due : {types : GrammarTypes} {s : Words} {start : ℕ} {all : Grammar → Read (Unit {0})} {due : Grammar → List Due} {at : ℕ}
    → Walk types s start all due at → (due' : Grammar → List Due) → OfTypes types.types (λ g. due g ≡ due' g) → Walk types s start all due' at
walk_due {types} {s} {start} {all} {due} {at} w due' e =
    record { from = w.from; low = w.low; rest = λ g x. w.rest g x ∙ ap (λ l. read_trees g (drop (at - start) s) l at) (e g x) }

-- nothing is due any more
pub walk_end : {types : GrammarTypes} {s : Words} {start : ℕ} {all : Grammar → Read (Unit {0})} {at : ℕ} → Walk types s start all (λ g. []) at
    → OfTypes types.types (λ g. Ok at ≡ answer (all g))
walk_end {types} {s} {start} {all} {at} w g x = sym (ap answer (w.rest g x ∙ none_due (meets_node g) 31 (drop (at - start) s) tt at))

-- what is known of some grammar with these types
pub some_types : (types : GrammarTypes) → ∥ ((g : Grammar) × TypesOf g types.types) ∥₁
some_types types = ∥∥₁_map types.of_grammar (λ t. (t.0, record { heads_of = t.1.heads_of; rows_of_lem = t.1.rows_of_lem }))

-- the first pair of a tree is read
module _ {types : GrammarTypes} {s : Words} {start : ℕ} {all : Grammar → Read (Unit {0})} {k d : ℕ} {ds : Grammar → List Due} {at : ℕ}
    (w : Walk types s start all (λ g. tree k d ∷ ds g) at)
    {part : Words} (ep : part ≡ drop (at - start) s) {h : Result (ℕ × ℕ) (ℕ × ℕ)} (is : OfHeads types.types (λ g. h ≡ got (read_head g k d part at))) where
  step : OfTypes types.types (λ g. all g ≡ and_then (read_head g k d part at)
      (λ v next. read_trees g (drop 2 part) (dues_of (levels g d v k) (children g d v) ++ ds g) next))
  step g x = w.rest g x ∙ rw (← ep) (tree_step g k d (ds g) at part)

  pub walk_bad : {r : ℕ × ℕ} → h ≡ Err r → OfTypes types.types (λ g. Err r ≡ answer (all g))
  walk_bad {r} e g x =
      let z : all g ≡ refused r.0 r.1 = step g x ∙ rw (read_bad (read_head g k d part at) h (is g x.heads_of) e) in
      sym (ap answer z)

  module _ {r : ℕ × ℕ} (e : h ≡ Ok r) where
    pub walk_room : (k ≤ most_nesting) × (at + 2 ≤ start + length s) × (r.1 ≡ at + 2)
    walk_room = ∥∥₁_elim (some_types types) (×₃_prop le_prop le_prop (ℕ_set _ _)) (λ t.
        let o = head_ok t.0 k d part at (read_word (read_head t.0 k d part at) h (is t.0 t.1.heads_of) e) in
        let l : length part ≡ length s - (at - start) = ap length ep ∙ length-drop (at - start) s in
        (o.spare, omega (arith, o.room, w.from, w.low), o.after))

    pub walk_head : Walk types s start all (λ g. dues_of (levels g d r.0 k) (children g d r.0) ++ ds g) r.1
    walk_head =
        let i : at - start + 2 ≡ r.1 - start = omega (arith, walk_room.2, w.from) in
        record {
          from = omega (arith, walk_room.2, w.from);
          low = omega (arith, walk_room.1, walk_room.2);
          rest = λ g x. step g x ∙ rw (read_word (read_head g k d part at) h (is g x.heads_of) e, ep, drop-drop 2 (at - start) s, i);
        }

-- a tree is read
module _ {types : GrammarTypes} {s : Words} {start : ℕ} {all : Grammar → Read (Unit {0})} {k d : ℕ} {ds : Grammar → List Due} {at : ℕ}
    (w : Walk types s start all (λ g. tree k d ∷ ds g) at)
    {part : Words} (ep : part ≡ drop (at - start) s) {a : Result ℕ (ℕ × ℕ)}
    (is : OfTypes types.types (λ g. a ≡ answer (read_trees g part (tree k d ∷ []) at))) where
  split : OfTypes types.types (λ g. all g ≡ and_then (read_trees g part (tree k d ∷ []) at)
      (λ u next. read_trees g (drop (next - at) part) (ds g) next))
  split g x = w.rest g x ∙ rw (← ep) (pairs_split (meets_node g) 31 (node_steady g) part (tree k d ∷ []) (ds g) tt at)

  pub walk_refused : {r : ℕ × ℕ} → a ≡ Err r → OfTypes types.types (λ g. Err r ≡ answer (all g))
  walk_refused {r} e g x =
      let z : all g ≡ refused r.0 r.1 = split g x ∙ rw (answer_refused (read_trees g part (tree k d ∷ []) at) a (is g x) e) in
      sym (ap answer z)

  module _ {next : ℕ} (e : a ≡ Ok next) where
    pub walk_next : (at ≤ next) × (next ≤ start + length s)
    walk_next = ∥∥₁_elim (some_types types) (×_prop le_prop le_prop) (λ t.
        let u = answer_passed (read_trees t.0 part (tree k d ∷ []) at) a (is t.0 t.1) e in
        let f = pairs_forward (meets_node t.0) 31 (node_steady t.0) part (tree k d ∷ []) tt at u.0 next u.1 in
        let l : length part ≡ length s - (at - start) = ap length ep ∙ length-drop (at - start) s in
        (f.0, omega (arith, f.1, w.from, w.low)))

    pub walk_more : Walk types s start all ds next
    walk_more =
        let n = walk_next in
        let i : at - start + (next - at) ≡ next - start = omega (arith, n.0, w.from) in
        record {
          from = omega (arith, n.0, w.from);
          low = n.1;
          rest = λ g x.
              let u = answer_passed (read_trees g part (tree k d ∷ []) at) a (is g x) e in
              split g x ∙ rw (u.1, ep, drop-drop (next - at) (at - start) s, i);
        }

-- a child is one level deeper
deeper : (left : ℕ) → left ≤ most_nesting → nesting_at left ≤ most_nesting → suc (nesting_at left) ≡ nesting_at (left - 1)
deeper left few h = omega arith

-- THE NODE, after its first pair

module _ (types : GrammarTypes) (s : Words) (at d left : ℕ) (few : left ≤ most_nesting) {h : Result (ℕ × ℕ) (ℕ × ℕ)}
    (is : OfHeads types.types (λ g. h ≡ got (read_head g (nesting_at left) d s at))) where
  abbrev begun : Walk types s at (λ g. read_trees g s (tree (nesting_at left) d ∷ []) at) (λ g. tree (nesting_at left) d ∷ []) at
  begun = walk_start (λ g. tree (nesting_at left) d ∷ [])

  -- nothing lies before the node
  all_of : s ≡ drop (at - at) s
  all_of = let z : at - at ≡ 0 = omega arith in rw z

  pub node_bad : {r : ℕ × ℕ} → h ≡ Err r → OfTypes types.types (λ g. Err r ≡ answer (read_trees g s (tree (nesting_at left) d ∷ []) at))
  node_bad e = walk_bad begun all_of is e

  module _ {r : ℕ × ℕ} (e : h ≡ Ok r) where
    pub node_room : (0 < left) × (2 ≤ length s) × (r.1 ≡ at + 2)
    node_room = let z = walk_room begun all_of is e in (omega (arith, z.0), omega (arith, z.1), z.2)

    pub node_children : {b : Bool} → OfHeads types.types (λ g. b ≡ is_sequence g d) → b ≡ false → {part : Words} → part ≡ drop 2 s
        → {a : Result ℕ (ℕ × ℕ)} → OfTypes types.types (λ g. a ≡ answer (read_trees g part (level (nesting_at (left - 1)) (children g d r.0)) r.1))
        → OfTypes types.types (λ g. a ≡ answer (read_trees g s (tree (nesting_at left) d ∷ []) at))
    node_children eb no' {part} ep {a} ea g x =
        let i : r.1 - at ≡ 2 = omega (arith, node_room.2) in
        let due = children_dues g d r.0 (nesting_at left) (sym (eb g x.heads_of) ∙ no') in
        let z : read_trees g s (tree (nesting_at left) d ∷ []) at ≡ read_trees g part (level (nesting_at (left - 1)) (children g d r.0)) r.1 =
        (walk_head begun all_of is e).rest g x ∙ rw (i, due, deeper left few (walk_room begun all_of is e).0, append-nil, ← ep) in
        ea g x ∙ sym (ap answer z)

-- THE LOOP OVER A SEQUENCE

module _ {types : GrammarTypes} {s : Words} {start d : ℕ} (left : ℕ) (few : left ≤ most_nesting) {all : Grammar → Read (Unit {0})} {at : ℕ}
    (w : Walk types s start all (λ g. tree (nesting_at left) d ∷ []) at)
    {part : Words} (ep : part ≡ drop (at - start) s) {h : Result (ℕ × ℕ) (ℕ × ℕ)}
    (is : OfHeads types.types (λ g. h ≡ got (read_head g (nesting_at left) d part at)))
    (seq : OfHeads types.types (λ g. is_sequence g d ≡ true)) {r : ℕ × ℕ} (e : h ≡ Ok r) where
  pub sequence_room : (0 < left) × (at + 2 ≤ start + length s) × (r.1 ≡ at + 2)
  sequence_room = let z = walk_room w ep is e in (omega (arith, z.0), z.1, z.2)

  pub sequence_end : (r.0 ≡ 0 → ⊥) → OfTypes types.types (λ g. Ok r.1 ≡ answer (all g))
  sequence_end z = walk_end (walk_due (walk_head w ep is e) (λ g. []) (λ g x. rw (sequence_none g d r.0 (nesting_at left) (seq g x.heads_of) z)))

  pub sequence_turn : r.0 ≡ 0 → (x : ℕ) → OfRows types.types (λ g. x ≡ get_or (children g d 0) 0 0)
      → Walk types s start all (λ g. tree (nesting_at (left - 1)) x ∷ tree (nesting_at left) d ∷ []) r.1
  sequence_turn z x ex = walk_due (walk_head w ep is e) (λ g. tree (nesting_at (left - 1)) x ∷ tree (nesting_at left) d ∷ [])
      (λ g t. rw (z, sequence_some g d (nesting_at left) (seq g t.heads_of), deeper left few (walk_room w ep is e).0, ← ex g t.rows_of_lem))

-- THE LOOP OVER THE CHILDREN

module _ {types : GrammarTypes} {s : Words} {start : ℕ} {all : Grammar → Read (Unit {0})} {at : ℕ} (k t v i : ℕ)
    (w : Walk types s start all (λ g. level k (drop i (children g t v))) at)
    {count : ℕ} (counted : OfRows types.types (λ g. count ≡ length (children g t v))) where
  pub children_end : count ≤ i → OfTypes types.types (λ g. Ok at ≡ answer (all g))
  children_end h = walk_end (walk_due w (λ g. []) (λ g x. rw (drop_of_length-le (children g t v) {i = i} (omega (arith, counted g x.rows_of_lem)))))

  pub children_turn : i < count → (x : ℕ) → OfRows types.types (λ g. x ≡ get_or (children g t v) i 0)
      → Walk types s start all (λ g. tree k x ∷ level k (drop (i + 1) (children g t v))) at
  children_turn h x ex = walk_due w (λ g. tree k x ∷ level k (drop (i + 1) (children g t v)))
      (λ g y. rw (drop-cons (children g t v) i 0 (omega (arith, counted g y.rows_of_lem)), ← ex g y.rows_of_lem, add-one i))

-- a part to the end lies within what the whole fits in
pub part_fits : (s : Words) (at j most : ℕ) → at + length s ≤ most → j ≤ length s → {p : ℕ} → p ≡ at + j → p + length (take (length s - j) (drop j s)) ≤ most
part_fits s at j most h low e = rw (part_rest j s) (omega (arith, length-drop j s))

-- THE WHOLE CHECK

module _ (g : Grammar) (t : ℕ) (ws : Words) where
  pub tree_empty : length ws ≡ 0 → Err (30, 0) ≡ answer (read_tree_of g t ws)
  unfolding read_tree_of
  tree_empty h = rw (lt-leb 1 (length ws) (omega arith))

  pub tree_long : most_tree_words < length ws → Err (30, 0) ≡ answer (read_tree_of g t ws)
  unfolding read_tree_of
  tree_long h = rw (le-leb 1 (length ws) (omega arith), lt-leb (length ws) most_tree_words h)

  module _ (some : length ws ≡ 0 → ⊥) (most : length ws ≤ most_tree_words) where
    pub tree_odd : (length ws % 2 ≡ 0 → ⊥) → Err (30, 0) ≡ answer (read_tree_of g t ws)
    unfolding read_tree_of
    tree_odd h = rw (le-leb 1 (length ws) (omega arith), le-leb (length ws) most_tree_words most, ne_eqb (length ws % 2) 0 h)

    module _ (even : length ws % 2 ≡ 0) {a : Result ℕ (ℕ × ℕ)} (is : a ≡ answer (read_trees g ws (tree 1 t ∷ []) 0)) where
      whole_tree : read_tree_of g t ws ≡ and_then (read_trees g ws (tree 1 t ∷ []) 0) (λ u next. pick (ltb next (length ws)) (refused 31 next) (value u next))
      unfolding read_tree_of whole
      whole_tree = rw (le-leb 1 (length ws) (omega arith), le-leb (length ws) most_tree_words most, eq-eqb (length ws % 2) 0 even, zero-add (length ws))

      pub tree_refused : {r : ℕ × ℕ} → a ≡ Err r → Err r ≡ answer (read_tree_of g t ws)
      tree_refused e = rw (whole_tree, answer_refused (read_trees g ws (tree 1 t ∷ []) 0) a is e)

      pub tree_over : {p : ℕ} → a ≡ Ok p → p < length ws → Err (31, p) ≡ answer (read_tree_of g t ws)
      tree_over {p} e h = rw (whole_tree, (answer_passed (read_trees g ws (tree 1 t ∷ []) 0) a is e).1, lt-ltb p (length ws) h)

      pub tree_whole : {p : ℕ} → a ≡ Ok p → length ws ≤ p → Ok p ≡ answer (read_tree_of g t ws)
      tree_whole {p} e h = rw (whole_tree, (answer_passed (read_trees g ws (tree 1 t ∷ []) 0) a is e).1, le-ltb p (length ws) h)

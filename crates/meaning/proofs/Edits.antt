-- What an operation on sequences makes of a scope and arguments that fit: a tree of the scope's type, and within the limits where the step has passed them.
-- So the step is never stuck on its way. Assumes nothing.
use Prim.Native.Nat.{ℕ, suc, ◌+◌, ◌-◌, ◌*◌, ◌≤◌, min, max}
use mathlib.Core.Path.{◌≡◌, refl, sym, ap, ◌∙◌, subst}
use mathlib.Core.List.{List, [], ◌∷◌, ◌++◌}
use mathlib.Core.Bool.{Bool, true, false}
use mathlib.Core.Option.{some}
use native.Mathlib.Omega.{arith}
use lib.ListN.{length, drop}
use lib.Dec.{eqb, leb}
use borrow.Author.Tests.{eq-eqb, eqb-true, leb-true}
use Rattle.words.specs.Reader.{Words, pick, or}
use Rattle.words.proofs.Laws.{and_both, or_true}
use Rattle.grammar.specs.Grammar.{Grammar}
use Rattle.grammar.specs.Kinds.{is_sequence, is_number}
use Rattle.grammar.specs.Limits.{greatest_number}
use Rattle.tree.specs.Limits.{most_nodes, most_nesting}
use Rattle.tree.specs.Tree.{Trees, Tree, size, nesting, are_trees, is_tree, type_of}
use Rattle.tree.specs.Sequences.{element_of, sequence_of, elements, EachTree, sizes, taken}
use Rattle.tree.proofs.Trees.{and_intro, tree_type, tree_passes, trees_pass, passes_tree}
use Rattle.tree.proofs.Sequences.{each_append, each_take, each_drop, sequence_size, sequence_trees, elements_typed, elements_made, taken_typed, taken_whole, taken_elements}
use Rattle.rules.specs.Rules.{Edit, join, select, head, tail, count, extract}
use Rattle.judgement.specs.Wanted.{wants, scope_fits, wanted_in}
use Rattle.meaning.specs.Limits.{most_live}
use Rattle.meaning.specs.declared.State.{State}
use Rattle.meaning.specs.Operations.{with_value, is_number_token}
use Rattle.meaning.specs.Computation.{nodes_within, nesting_within, live_within}
use Rattle.meaning.specs.Edits.{selected, joined, position, with_one, with_two, edited, takes, is_sequence_tree, each, edit_fits, edit}
use Rattle.meaning.proofs.Safe.{Safe, returns, and_then, stop_unless_safe, check_safe, present_safe}
use Rattle.meaning.proofs.Matching.{OfWanted, wanted_none, wanted_more, is_number_token_true}
use Rattle.meaning.proofs.Numbers.{number_tree}

-- ARGUMENTS

-- the one argument
pub one_given : (us : List Words) (f : Words → Words) (w : Words) → with_one us f ≡ some w → (u : Words) × (us ≡ u ∷ []) × (f u ≡ w)
unfolding with_one
one_given [] f w e = let z : ◌≡◌ {A = ℕ} 0 1 = cc in absurd (omega arith)
one_given (u ∷ []) f w e = (u, refl, cc)
one_given (u ∷ v ∷ us) f w e = let z : ◌≡◌ {A = ℕ} 0 1 = cc in absurd (omega arith)

-- the two
pub two_given : (us : List Words) (f : Words → Words → Words) (w : Words) → with_two us f ≡ some w → (a : Words) × (b : Words) × (us ≡ a ∷ b ∷ []) × (f a b ≡ w)
unfolding with_two
two_given [] f w e = let z : ◌≡◌ {A = ℕ} 0 1 = cc in absurd (omega arith)
two_given (u ∷ []) f w e = let z : ◌≡◌ {A = ℕ} 0 1 = cc in absurd (omega arith)
two_given (u ∷ v ∷ []) f w e = (u, v, refl, cc)
two_given (u ∷ v ∷ x ∷ us) f w e = let z : ◌≡◌ {A = ℕ} 0 1 = cc in absurd (omega arith)

pub each_one : (p : Words → Bool) (us : List Words) (u : Words) → us ≡ u ∷ [] → each p us ≡ true → p u ≡ true
unfolding each
each_one p us u e h = (and_both (p u) true (subst (λ x. each p x ≡ true) e h)).0

-- a sequence that fits
pub record SequenceTree (g : Grammar) (ws : Words) : Type 0 where
  pub is : is_sequence g (type_of ws) ≡ true
  pub tree : Tree g (type_of ws) ws

pub sequence_tree : (g : Grammar) (ws : Words) → is_sequence_tree g ws ≡ true → SequenceTree g ws
unfolding is_sequence_tree
sequence_tree g ws h = let p = and_both (is_sequence g (type_of ws)) (is_tree g (type_of ws) ws) h in record { is = p.0; tree = passes_tree ws p.1 }

-- WHAT IS JOINED

-- the argument of a join: of the sequence's type, or one element
pub joined_typed : (g : Grammar) (t : ℕ) (u : Words) → is_sequence g t ≡ true → or (is_tree g t u) (is_tree g (element_of g t) u) ≡ true → EachTree g (element_of g t) (joined g t u)
unfolding joined
joined_typed g t u is h = go (is_tree g t u) (is_tree g (element_of g t) u) (eqb (type_of u) t) refl refl refl h
  where
    go : (a b c : Bool) → is_tree g t u ≡ a → is_tree g (element_of g t) u ≡ b → eqb (type_of u) t ≡ c → or a b ≡ true → EachTree g (element_of g t) (pick c (elements g u) (u ∷ []))
    go true b true p q r h = elements_typed g t is u (passes_tree u p).typed
    go true b false p q r h = let z : ◌≡◌ {A = ℕ} 0 1 = ap (λ x. pick x 0 1) (sym (eq-eqb (type_of u) t (tree_type u (passes_tree u p).typed)) ∙ r) in absurd (omega arith)
    go false true true p q r h =
        let same : element_of g t ≡ t = sym (tree_type u (passes_tree u q).typed) ∙ eqb-true (type_of u) t r in
        elements_typed g t is u (subst (λ x. Trees g (x ∷ []) u) same (passes_tree u q).typed)
    go false true false p q r h = ((passes_tree u q).typed, tt)
    go false false c p q r h = let z : ◌≡◌ {A = ℕ} 0 1 = cc in absurd (omega arith)

-- join appends what extract does, unless the sequence is of itself
pub joined_taken : (g : Grammar) (t : ℕ) (u : Words) → is_sequence g t ≡ true → (t ≡ element_of g t → ⊥) → Trees g (type_of u ∷ []) u → EachTree g (element_of g t) (joined g t u) → joined g t u ≡ taken g (element_of g t) u
unfolding joined
joined_taken g t u is other r each = go (eqb (type_of u) t) refl
  where
    go : (b : Bool) → eqb (type_of u) t ≡ b → joined g t u ≡ taken g (element_of g t) u
    go true q =
        let tree : Trees g (t ∷ []) u = subst (λ k. Trees g (k ∷ []) u) (eqb-true (type_of u) t q) r in
        rw q (sym (taken_elements g t is other u tree))
    go false q =
        let one : EachTree g (element_of g t) (u ∷ []) = rw q at each in
        rw q (sym (taken_whole g (element_of g t) one.0))

selected_typed : (g : Grammar) (e a b : ℕ) (es : List Words) → EachTree g e es → EachTree g e (selected a b es)
unfolding selected
selected_typed g e a b es h = each_take g e (suc (min b (length es)) - max a 1) (drop (max a 1 - 1) es) (each_drop g e (max a 1 - 1) es h)

-- at most 1,023 elements, so "length" passes no limit of a number
count_small : (g : Grammar) (u : Words) → SequenceTree g u → 100 * length (elements g u) ≤ greatest_number
count_small g u s =
    let x = elements_typed g (type_of u) s.is u s.tree.typed in
    let n : size u ≡ suc (sizes (elements g u) + length (elements g u)) = sym (ap size (elements_made g (type_of u) s.is u s.tree.typed)) ∙ sequence_size g (element_of g (type_of u)) (type_of u) (elements g u) x in
    omega (arith, s.tree.nodes)

-- WHAT IS MADE

module _ (g : Grammar) (scope : Words) where
  -- elements of the scope's type
  made : is_sequence g (type_of scope) ≡ true → (es : List Words) → EachTree g (element_of g (type_of scope)) es → (w : Words) → sequence_of (type_of scope) es ≡ w → Trees g (type_of scope ∷ []) w
  made is es x w e = subst (Trees g (type_of scope ∷ [])) e (sequence_trees g (type_of scope) is es x)

  cut : (a b : ℕ) → is_sequence_tree g scope ≡ true → (w : Words) → sequence_of (type_of scope) (selected a b (elements g scope)) ≡ w → Trees g (type_of scope ∷ []) w
  cut a b h w e =
      let s = sequence_tree g scope h in
      made s.is (selected a b (elements g scope)) (selected_typed g (element_of g (type_of scope)) a b (elements g scope) (elements_typed g (type_of scope) s.is scope s.tree.typed)) w e

  number_typed : (t : ℕ) → is_number_token g scope ≡ true → (m : ℕ) → m ≤ greatest_number → Trees g (type_of scope ∷ []) (with_value scope m)
  unfolding is_number_token with_value
  number_typed t h m small = (number_tree g (type_of scope) m (and_both (is_number g (type_of scope)) (is_tree g (type_of scope) scope) h).0 small).typed

  -- what the operation makes is a tree of the scope's type
  pub edited_typed : (o : Edit) (us : List Words) (w : Words) → edit_fits g o scope us ≡ true → edited g o scope us ≡ some w → Trees g (type_of scope ∷ []) w
  unfolding edit_fits edited
  edited_typed join us w h e =
      let f = and_both (is_sequence_tree g scope) (each (λ u. or (is_tree g (type_of scope) u) (is_tree g (element_of g (type_of scope)) u)) us) h in
      let s = sequence_tree g scope f.0 in
      let x = one_given us (λ u. sequence_of (type_of scope) (elements g scope ++ joined g (type_of scope) u)) w e in
      let j = joined_typed g (type_of scope) x.0 s.is (each_one (λ u. or (is_tree g (type_of scope) u) (is_tree g (element_of g (type_of scope)) u)) us x.0 x.1 f.1) in
      made s.is (elements g scope ++ joined g (type_of scope) x.0)
      (each_append g (element_of g (type_of scope)) (elements g scope) (joined g (type_of scope) x.0) (elements_typed g (type_of scope) s.is scope s.tree.typed) j) w x.2
  edited_typed select us w h e =
      let x = two_given us (λ a b. sequence_of (type_of scope) (selected (position a) (position b) (elements g scope))) w e in
      cut (position x.0) (position x.1) (and_both (is_sequence_tree g scope) (each (is_number_token g) us) h).0 w x.3
  edited_typed head us w h e =
      let x = one_given us (λ b. sequence_of (type_of scope) (selected 1 (position b) (elements g scope))) w e in
      cut 1 (position x.0) (and_both (is_sequence_tree g scope) (each (is_number_token g) us) h).0 w x.2
  edited_typed tail us w h e =
      let x = one_given us (λ a. sequence_of (type_of scope) (selected (position a) (length (elements g scope)) (elements g scope))) w e in
      cut (position x.0) (length (elements g scope)) (and_both (is_sequence_tree g scope) (each (is_number_token g) us) h).0 w x.2
  edited_typed count us w h e =
      let f = and_both (is_number_token g scope) (each (is_sequence_tree g) us) h in
      let x = one_given us (λ u. with_value scope (100 * length (elements g u))) w e in
      let s = sequence_tree g x.0 (each_one (is_sequence_tree g) us x.0 x.1 f.1) in
      subst (Trees g (type_of scope ∷ [])) x.2 (number_typed (type_of scope) f.0 (100 * length (elements g x.0)) (count_small g x.0 s))
  edited_typed extract us w h e =
      let f = and_both (is_sequence_tree g scope) (each (λ u. is_tree g (type_of u) u) us) h in
      let s = sequence_tree g scope f.0 in
      let x = one_given us (λ u. sequence_of (type_of scope) (elements g scope ++ taken g (element_of g (type_of scope)) u)) w e in
      let y = passes_tree x.0 (each_one (λ u. is_tree g (type_of u) u) us x.0 x.1 f.1) in
      let k = taken_typed g (element_of g (type_of scope)) (type_of x.0 ∷ []) x.0 y.typed in
      made s.is (elements g scope ++ taken g (element_of g (type_of scope)) x.0)
      (each_append g (element_of g (type_of scope)) (elements g scope) (taken g (element_of g (type_of scope)) x.0) (elements_typed g (type_of scope) s.is scope s.tree.typed) k) w x.2

-- WHAT THE TYPING SAYS of an operation's scope and arguments is what its step asks of them

sequence_true : {g : Grammar} {t : ℕ} (ws : Words) → is_sequence g t ≡ true → Tree g t ws → is_sequence_tree g ws ≡ true
unfolding is_sequence_tree
sequence_true ws is x = rw (tree_type ws x.typed) (and_intro is (tree_passes x))

own_true : {g : Grammar} {t : ℕ} (ws : Words) → Tree g t ws → is_tree g (type_of ws) ws ≡ true
own_true ws x = rw (tree_type ws x.typed) (tree_passes x)

joins_true : (g : Grammar) (t u : ℕ) (ws : Words) → or (eqb u t) (eqb u (element_of g t)) ≡ true → Tree g u ws → or (is_tree g t ws) (is_tree g (element_of g t) ws) ≡ true
joins_true g t u ws e x = go (eqb u t) (eqb u (element_of g t)) refl refl e
  where
    go : (a b : Bool) → eqb u t ≡ a → eqb u (element_of g t) ≡ b → or a b ≡ true → or (is_tree g t ws) (is_tree g (element_of g t) ws) ≡ true
    go true b p q h = rw (subst (λ y. is_tree g y ws ≡ true) (eqb-true u t p) (tree_passes x))
    go false true p q h = rw (subst (λ y. is_tree g y ws ≡ true) (eqb-true u (element_of g t) q) (tree_passes x)) (or_true (is_tree g t ws))
    go false false p q h = let z : ◌≡◌ {A = ℕ} 0 1 = cc in absurd (omega arith)

pub edit_fits_lem : {g : Grammar} {t : ℕ} {args : List Words} (o : Edit) (scope : Words) → scope_fits g o t ≡ true → OfWanted g (wanted_in o t) args → Tree g t scope
    → (edit_fits g o scope args ≡ true) × (length args ≡ takes o)
unfolding scope_fits wanted_in edit_fits takes each wants
edit_fits_lem {g} {t} join scope is (wanted_more {t = s} {ws = u} e x wanted_none) y =
    let j : or (is_tree g (type_of scope) u) (is_tree g (element_of g (type_of scope)) u) ≡ true = rw (tree_type scope y.typed) (joins_true g t s u e x) in
    (and_intro (sequence_true scope is y) (and_intro j refl), refl)
edit_fits_lem select scope is (wanted_more {ws = a} e x (wanted_more {ws = b} f z wanted_none)) y =
    (and_intro (sequence_true scope is y) (and_intro (is_number_token_true a e x) (and_intro (is_number_token_true b f z) refl)), refl)
edit_fits_lem head scope is (wanted_more {ws = b} e x wanted_none) y = (and_intro (sequence_true scope is y) (and_intro (is_number_token_true b e x) refl), refl)
edit_fits_lem tail scope is (wanted_more {ws = a} e x wanted_none) y = (and_intro (sequence_true scope is y) (and_intro (is_number_token_true a e x) refl), refl)
edit_fits_lem count scope is (wanted_more {ws = u} e x wanted_none) y = (and_intro (is_number_token_true scope is y) (and_intro (sequence_true u e x) refl), refl)
edit_fits_lem extract scope is (wanted_more {ws = u} e x wanted_none) y = (and_intro (sequence_true scope is y) (and_intro (own_true u x) refl), refl)

-- THE STEP IS NEVER STUCK

-- no operation has more than two arguments
pub edited_few : (g : Grammar) (o : Edit) (scope : Words) (us : List Words) (w : Words) → edited g o scope us ≡ some w → length us ≤ 2
unfolding edited
edited_few g join scope us w e = omega (arith, ap length (one_given us _ w e).1)
edited_few g select scope us w e = omega (arith, ap length (two_given us _ w e).2)
edited_few g head scope us w e = omega (arith, ap length (one_given us _ w e).1)
edited_few g tail scope us w e = omega (arith, ap length (one_given us _ w e).1)
edited_few g count scope us w e = omega (arith, ap length (one_given us _ w e).1)
edited_few g extract scope us w e = omega (arith, ap length (one_given us _ w e).1)

-- with as many arguments as it has, an operation makes something
one_there : (us : List Words) (f : Words → Words) → length us ≡ 1 → (w : Words) × (with_one us f ≡ some w)
unfolding with_one
one_there [] f h = absurd (omega arith)
one_there (u ∷ []) f h = (f u, refl)
one_there (u ∷ v ∷ us) f h = absurd (omega arith)

two_there : (us : List Words) (f : Words → Words → Words) → length us ≡ 2 → (w : Words) × (with_two us f ≡ some w)
unfolding with_two
two_there [] f h = absurd (omega arith)
two_there (u ∷ []) f h = absurd (omega arith)
two_there (u ∷ v ∷ []) f h = (f u v, refl)
two_there (u ∷ v ∷ x ∷ us) f h = absurd (omega arith)

pub edited_there : (g : Grammar) (o : Edit) (scope : Words) (us : List Words) → length us ≡ takes o → (w : Words) × (edited g o scope us ≡ some w)
unfolding edited takes
edited_there g join scope us h = one_there us (λ u. sequence_of (type_of scope) (elements g scope ++ joined g (type_of scope) u)) h
edited_there g select scope us h = two_there us (λ a b. sequence_of (type_of scope) (selected (position a) (position b) (elements g scope))) h
edited_there g head scope us h = one_there us (λ b. sequence_of (type_of scope) (selected 1 (position b) (elements g scope))) h
edited_there g tail scope us h = one_there us (λ a. sequence_of (type_of scope) (selected (position a) (length (elements g scope)) (elements g scope))) h
edited_there g count scope us h = one_there us (λ u. with_value scope (100 * length (elements g u))) h
edited_there g extract scope us h = one_there us (λ u. sequence_of (type_of scope) (elements g scope ++ taken g (element_of g (type_of scope)) u)) h

-- .. and it and the plain one end the same: with a tree of the scope's type, or by 42 to 44
pub edit_safe : (g : Grammar) (o : Edit) (us : List Words) (scope : Words) (besides under : ℕ) (n : State) → edit_fits g o scope us ≡ true → length us ≡ takes o
    → Safe (λ w l. Tree g (type_of scope) w) n (edit true g o us scope besides under n) (edit false g o us scope besides under n)
unfolding edit nodes_within nesting_within live_within
edit_safe g o us scope besides under n fit many =
    let made = edited_there g o scope us many in
    and_then (check_safe (edit_fits g o scope us) n fit) (λ x l _ _. and_then (present_safe l made.1) (λ w l _ e.
    let typed : Trees g (type_of scope ∷ []) w = subst (Trees g (type_of scope ∷ [])) (sym e) (edited_typed g scope o us made.0 fit made.1) in
    and_then (stop_unless_safe 42 (leb (under + size w) most_nodes) l (omega arith) (omega arith)) (λ x l _ few.
    and_then (check_safe (are_trees g w (type_of scope ∷ [])) l (trees_pass typed)) (λ x l _ _.
    and_then (stop_unless_safe 43 (leb (nesting g w) most_nesting) l (omega arith) (omega arith)) (λ x l _ flat.
    and_then (stop_unless_safe 44 (leb (besides + size w) most_live) l (omega arith) (omega arith)) (λ x l _ _.
    returns (record { typed = typed; nodes = omega (arith, leb-true (under + size w) most_nodes few); nested = leb-true (nesting g w) most_nesting flat })))))))

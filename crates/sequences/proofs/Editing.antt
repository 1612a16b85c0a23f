-- The operations as the meaning has them: what the step comes to by its limits, and each operation's number. Assumes nothing.
use Rattle.sequences.proofs.Sealing.{no_ok}
use Rattle.std.specs.Prelude.{Result, Ok, Err}
use Prim.Native.Nat.{ℕ, suc, ◌+◌, ◌-◌, ◌*◌, ◌/◌, ◌≤◌, min, max}
use mathlib.Core.Path.{◌≡◌, refl, sym, ap, ap₂, ◌∙◌, subst}
use mathlib.Core.Bool.{Bool, true, false}
use mathlib.Core.List.{List, [], ◌∷◌, ◌++◌}
use mathlib.Core.Option.{Option, none, some}
use native.Mathlib.Omega.{arith}
use lib.ListN.{length, get_or, take, drop}
use lib.Dec.{leb}
use Rattle.words.specs.Reader.{Words, or}
use Rattle.words.proofs.Laws.{and_both}
use Rattle.grammar.specs.Grammar.{Grammar}
use Rattle.grammar.specs.Kinds.{is_sequence, is_number}
use Rattle.tables.specs.Types.{TypesOf}
use Rattle.tables.specs.declared.types.Types.{Types}
use Rattle.tree.specs.Limits.{most_nodes, most_nesting}
use Rattle.tree.specs.Tree.{size, nesting, are_trees, is_tree, type_of}
use Rattle.tree.specs.Sequences.{element_of, sequence_of, elements, taken}
use Rattle.tree.proofs.Trees.{tree_some, tree_type, trees_pass}
use Rattle.tree.proofs.Sequences.{elements_made}
use Rattle.rules.specs.Rules.{Edit, join, select, head, tail, count, extract, editing, applied}
use Rattle.rules.proofs.Numbers.{edit_number, edit_number_lem, edit_applied}
use Rattle.meaning.specs.Limits.{most_live}
use Rattle.meaning.specs.declared.State.{State}
use Rattle.meaning.specs.Operations.{with_value, is_number_token}
use Rattle.meaning.specs.Computation as Computation
use Rattle.meaning.specs.Computation.{ok, stop, stuck, then_of, stop_unless, surely, check, present, nodes_within, nesting_within, live_within}
use Rattle.meaning.specs.Edits.{position, selected, joined, edited, is_sequence_tree, each, edit_fits, edit}
use Rattle.meaning.proofs.Edits.{one_given, two_given, each_one, edited_few, sequence_tree, joined_typed, edited_typed}
use Rattle.marks.specs.Marked.{Stands}
use Rattle.rewrite.specs.Arena.{Standing, Says}
use Rattle.rewrite.specs.Vars.{EnvAt}
use Rattle.rewrite.proofs.Standing.{stands_whole}
use Rattle.rewrite.proofs.Numbers.{value_there}
use Rattle.sequences.specs.Listed.{limits, Made, Makes, Joins, Selects, Counts, Extracts, Edits}
use Rattle.sequences.proofs.Listing.{standing_listed, listed_nodes}

-- WHAT THE STEP COMES TO

-- within the limits it is made; otherwise by the stop
abbrev outcome : Result (Unit {0}) ℕ → Words → State → Computation.Result Words
outcome (Ok v) u left = ok u left
outcome (Err k) u left = stop k left

module _ (g : Grammar) (o : Edit) (args : List Words) (scope : Words) (besides under : ℕ) (left : State) where
  abbrev step : Computation.Result Words
  step = edit true g o args scope besides under left

  sure_fits : (step ≡ stuck → ⊥) → edit_fits g o scope args ≡ true
  unfolding edit check surely then_of
  sure_fits sure = go (edit_fits g o scope args) refl
    where
      go : (b : Bool) → edit_fits g o scope args ≡ b → edit_fits g o scope args ≡ true
      go true e = e
      go false e = absurd (sure (rw e))

  sure_made : (step ≡ stuck → ⊥) → (u : Words) × (edited g o scope args ≡ some u)
  unfolding edit check surely then_of present
  sure_made sure = go (edited g o scope args) refl
    where
      fits : edit_fits g o scope args ≡ true
      fits = sure_fits sure

      go : (m : Option Words) → edited g o scope args ≡ m → (u : Words) × (edited g o scope args ≡ some u)
      go none e = absurd (sure (rw (fits, e)))
      go (some u) e = (u, e)

  -- so it has at most two arguments
  pub edit_few : (step ≡ stuck → ⊥) → length args ≤ 2
  edit_few sure = let made = sure_made sure in edited_few g o scope args made.0 made.1

  step_is : (u : Words) → edit_fits g o scope args ≡ true → edited g o scope args ≡ some u → are_trees g u (type_of scope ∷ []) ≡ true → step ≡ outcome (limits g under besides u) u left
  unfolding edit check surely then_of present nodes_within nesting_within live_within stop_unless limits
  step_is u f e t = go (leb (under + size u) most_nodes) (leb (nesting g u) most_nesting) (leb (besides + size u) most_live) refl refl refl
    where
      go : (a b c : Bool) → leb (under + size u) most_nodes ≡ a → leb (nesting g u) most_nesting ≡ b → leb (besides + size u) most_live ≡ c → step ≡ outcome (limits g under besides u) u left
      go true true true p q r = rw (f, e, p, t, q, r)
      go true true false p q r = rw (f, e, p, t, q, r)
      go true false c p q r = rw (f, e, p, t, q)
      go false b c p q r = rw (f, e, p)

  -- what was made stands, or the step stops so
  says_made : (w w' : Words) (base t : ℕ) (u : Words) (r : Result ℕ ℕ) → step ≡ outcome (limits g under besides u) u left → Made g w w' base under besides t u r
      → (take base w' ≡ take base w) × Says (λ nodes. Standing g w' base nodes t) r left step
  says_made w w' base t u (Ok nodes) e m = (m.below, (u, m.made.1, e ∙ ap (λ k. outcome k u left) m.made.0))
  says_made w w' base t u (Err k) e m = (m.below, e ∙ ap (λ k. outcome k u left) m.made)

-- SCOPE AND ARGUMENTS

first_stands : (g : Grammar) (arena : Words) (first second : ℕ) (us : List Words) (u : Words) → us ≡ u ∷ [] → EnvAt g arena (take (length us) (first ∷ second ∷ [])) us → Stands g arena first u
first_stands g arena first second us u e x = let y : EnvAt g arena (take 1 (first ∷ second ∷ [])) (u ∷ []) = subst (λ l. EnvAt g arena (take (length l) (first ∷ second ∷ [])) l) e x in y.0

both_stand : (g : Grammar) (arena : Words) (first second : ℕ) (us : List Words) (u v : Words) → us ≡ u ∷ v ∷ [] → EnvAt g arena (take (length us) (first ∷ second ∷ [])) us → Stands g arena first u × Stands g arena second v
both_stand g arena first second us u v e x =
    let y : EnvAt g arena (take 2 (first ∷ second ∷ [])) (u ∷ v ∷ []) = subst (λ l. EnvAt g arena (take (length l) (first ∷ second ∷ [])) l) e x in
    (y.0, y.1.0)

-- a position, where its number stands
position_there : {g : Grammar} {start : ℕ} {u : Words} (w : Words) (base v : ℕ) → Stands g (take base w) start u → v ≡ get_or w (start + 1) 0 → v / 100 ≡ position u
unfolding position
position_there {start = start} {u} w base v s e = ap (λ k. k / 100) (e ∙ value_there w start u (stands_whole w base s))

-- THE OPERATIONS BY THEIR NUMBERS

-- one number stands for one operation
number_same : {o p : Edit} (op : ℕ) → applied op ≡ editing o → op ≡ edit_number p → p ≡ o
number_same {o} {p} op a e = let b : applied op ≡ editing p = ap applied e ∙ edit_applied p in cc

-- no other number is left for select
number_select : (op : ℕ) (o : Edit) → (op ≡ 1010 → ⊥) → (op ≡ 1012 → ⊥) → (op ≡ 1013 → ⊥) → (op ≡ 1014 → ⊥) → (op ≡ 1015 → ⊥) → applied op ≡ editing o → select ≡ o
unfolding edit_number
number_select op join a b c d f e = absurd (a (edit_number_lem op join e))
number_select op select a b c d f e = refl
number_select op head a b c d f e = absurd (b (edit_number_lem op head e))
number_select op tail a b c d f e = absurd (c (edit_number_lem op tail e))
number_select op count a b c d f e = absurd (d (edit_number_lem op count e))
number_select op extract a b c d f e = absurd (f (edit_number_lem op extract e))

-- to the last is to the end
selected_end : (a n : ℕ) (es : List Words) → length es ≤ n → selected a n es ≡ selected a (length es) es
unfolding selected
selected_end a n es h =
    let e : min n (length es) ≡ min (length es) (length es) = omega arith in
    ap (λ k. take (suc k - max a 1) (drop (max a 1 - 1) es)) e

-- EACH OPERATION

module _ (types : Types) (w w' : Words) (op base n first second under besides : ℕ) (r : Result ℕ ℕ) where
  -- what an operation makes of a scope and arguments that fit
  abbrev ResultMade : Edit → Type 0
  ResultMade o = (g : Grammar) (args : List Words) (scope : Words) (t : ℕ) (u : Words) → TypesOf g types → Standing g w base n t scope → EnvAt g (take base w) (take (length args) (first ∷ second ∷ [])) args
      → edit_fits g o scope args ≡ true → edited g o scope args ≡ some u → Made g w w' base under besides t u r

  edits_by : {Meant : Type 0} → Makes w w' besides r Meant → ((o : Edit) → applied op ≡ editing o → ResultMade o) → Edits types w w' op base n first second under besides r
  edits_by m f = record {
    long = m.long;
    few = m.few;
    fits = m.fits;
    meant = λ g o args scope t left tb eo st env sure.
        let fit = sure_fits g o args scope besides under left sure in
        let made = sure_made g o args scope besides under left sure in
        let u = made.0 in
        let typed = edited_typed g scope o args u fit made.1 in
        says_made g o args scope besides under left w w' base t u r (step_is g o args scope besides under left u fit made.1 (trees_pass typed)) (f o eo g args scope t u tb st env fit made.1);
  }

  -- .. of the one that the number stands for
  edits_one : {Meant : Type 0} (p : Edit) → op ≡ edit_number p → Makes w w' besides r Meant → ResultMade p → Edits types w w' op base n first second under besides r
  edits_one p ep m f = edits_by m (λ o eo. subst ResultMade (number_same op eo ep) f)

  -- a scope of a sequence type
  scope_is : {g : Grammar} {t : ℕ} (scope : Words) → is_sequence_tree g scope ≡ true → Standing g w base n t scope → (type_of scope ≡ t) × (is_sequence g t ≡ true)
  scope_is {g} scope h st = let root = tree_type scope st.tree.typed in (root, subst (λ k. is_sequence g k ≡ true) root (sequence_tree g scope h).is)

  join_made : Joins types w w' base n first under besides r → ResultMade join
  unfolding edit_fits edited
  join_made j g args scope t u tb st env fit made =
      let fits : ℕ → Words → Bool = λ k v. or (is_tree g k v) (is_tree g (element_of g k) v) in
      let f = and_both (is_sequence_tree g scope) (each (fits (type_of scope)) args) fit in
      let is = scope_is scope f.0 st in
      let x = one_given args (λ v. sequence_of (type_of scope) (elements g scope ++ joined g (type_of scope) v)) u made in
      let passes : fits t x.0 ≡ true = subst (λ k. fits k x.0 ≡ true) is.0 (each_one (fits (type_of scope)) args x.0 x.1 f.1) in
      let m = j.meant g t (elements g scope) x.0 tb (standing_listed scope tb.heads_of.types is.1 st) (first_stands g (take base w) first second args x.0 x.1 env) (joined_typed g t x.0 is.1 passes) in
      subst (λ v. Made g w w' base under besides t v r) (ap (λ k. sequence_of k (elements g scope ++ joined g k x.0)) (sym is.0) ∙ x.2) m

  extract_made : Extracts types w w' base n first under besides r → ResultMade extract
  unfolding edit_fits edited
  extract_made j g args scope t u tb st env fit made =
      let f = and_both (is_sequence_tree g scope) (each (λ v. is_tree g (type_of v) v) args) fit in
      let is = scope_is scope f.0 st in
      let x = one_given args (λ v. sequence_of (type_of scope) (elements g scope ++ taken g (element_of g (type_of scope)) v)) u made in
      let m = j.meant g t (elements g scope) x.0 tb (standing_listed scope tb.heads_of.types is.1 st) (first_stands g (take base w) first second args x.0 x.1 env) in
      subst (λ v. Made g w w' base under besides t v r) (ap (λ k. sequence_of k (elements g scope ++ taken g (element_of g k) x.0)) (sym is.0) ∙ x.2) m

  count_made : Counts w w' base first under besides r → ResultMade count
  unfolding edit_fits edited is_number_token
  count_made j g args scope t u tb st env fit made =
      let f = and_both (is_number_token g scope) (each (is_sequence_tree g) args) fit in
      let number : is_number g t ≡ true = subst (λ k. is_number g k ≡ true) (tree_type scope st.tree.typed) (and_both (is_number g (type_of scope)) (is_tree g (type_of scope) scope) f.0).0 in
      let x = one_given args (λ v. with_value scope (100 * length (elements g v))) u made in
      let s = sequence_tree g x.0 (each_one (is_sequence_tree g) args x.0 x.1 f.1) in
      let m = j.meant g n t scope x.0 tb.heads_of.types st number (first_stands g (take base w) first second args x.0 x.1 env) s.is in
      subst (λ v. Made g w w' base under besides t v r) x.2 m

  -- a selection
  cut_made : (g : Grammar) (scope : Words) (t a b : ℕ) (u : Words) → TypesOf g types → Standing g w base n t scope → is_sequence_tree g scope ≡ true → Selects types w w' base n a b under besides r
      → sequence_of (type_of scope) (selected a b (elements g scope)) ≡ u → Made g w w' base under besides t u r
  cut_made g scope t a b u tb st h j e =
      let is = scope_is scope h st in
      let deep : nesting g (sequence_of t (elements g scope)) ≤ most_nesting = rw (elements_made g t is.1 scope st.tree.typed) st.tree.nested in
      let m = j.meant g t (elements g scope) tb deep (standing_listed scope tb.heads_of.types is.1 st) in
      subst (λ v. Made g w w' base under besides t v r) (ap (λ k. sequence_of k (selected a b (elements g scope))) (sym is.0) ∙ e) m

  module _ (a : ℕ) (ea : a ≡ get_or w (first + 1) 0 / 100) where
    head_made : Selects types w w' base n 1 a under besides r → ResultMade head
    unfolding edit_fits edited
    head_made j g args scope t u tb st env fit made =
        let h = (and_both (is_sequence_tree g scope) (each (is_number_token g) args) fit).0 in
        let x = one_given args (λ b. sequence_of (type_of scope) (selected 1 (position b) (elements g scope))) u made in
        let at : a ≡ position x.0 = ea ∙ position_there w base _ (first_stands g (take base w) first second args x.0 x.1 env) refl in
        cut_made g scope t 1 a u tb st h j (ap (λ k. sequence_of (type_of scope) (selected 1 k (elements g scope))) at ∙ x.2)

    tail_made : Selects types w w' base n a n under besides r → ResultMade tail
    unfolding edit_fits edited
    tail_made j g args scope t u tb st env fit made =
        let h = (and_both (is_sequence_tree g scope) (each (is_number_token g) args) fit).0 in
        let es = elements g scope in
        let x = one_given args (λ b. sequence_of (type_of scope) (selected (position b) (length es) es)) u made in
        let at : a ≡ position x.0 = ea ∙ position_there w base _ (first_stands g (take base w) first second args x.0 x.1 env) refl in
        let l = standing_listed scope tb.heads_of.types (scope_is scope h st).1 st in
        let end = selected_end a n es (omega (arith, listed_nodes l)) in
        cut_made g scope t a n u tb st h j (ap (sequence_of (type_of scope)) end ∙ ap (λ k. sequence_of (type_of scope) (selected k (length es) es)) at ∙ x.2)

    select_made : (b : ℕ) → b ≡ get_or w (second + 1) 0 / 100 → Selects types w w' base n a b under besides r → ResultMade select
    unfolding edit_fits edited
    select_made b eb j g args scope t u tb st env fit made =
        let h = (and_both (is_sequence_tree g scope) (each (is_number_token g) args) fit).0 in
        let es = elements g scope in
        let x = two_given args (λ b c. sequence_of (type_of scope) (selected (position b) (position c) es)) u made in
        let both = both_stand g (take base w) first second args x.0 x.1 x.2 env in
        let at : a ≡ position x.0 = ea ∙ position_there w base _ both.0 refl in
        let to : b ≡ position x.1 = eb ∙ position_there w base _ both.1 refl in
        cut_made g scope t a b u tb st h j (ap₂ (λ k l. sequence_of (type_of scope) (selected k l es)) at to ∙ x.3)

    pub edits_head : op ≡ 1012 → Selects types w w' base n 1 a under besides r → Edits types w w' op base n first second under besides r
    unfolding edit_number
    edits_head e j = edits_one head e j (head_made j)

    pub edits_tail : op ≡ 1013 → Selects types w w' base n a n under besides r → Edits types w w' op base n first second under besides r
    unfolding edit_number
    edits_tail e j = edits_one tail e j (tail_made j)

    pub edits_select : (b : ℕ) → b ≡ get_or w (second + 1) 0 / 100 → (op ≡ 1010 → ⊥) → (op ≡ 1012 → ⊥) → (op ≡ 1013 → ⊥) → (op ≡ 1014 → ⊥) → (op ≡ 1015 → ⊥)
        → Selects types w w' base n a b under besides r → Edits types w w' op base n first second under besides r
    edits_select b eb n0 n2 n3 n4 n5 j =
        edits_by j (λ o eo. subst ResultMade (number_select op o n0 n2 n3 n4 n5 eo) (select_made b eb j))

  pub edits_join : op ≡ 1010 → Joins types w w' base n first under besides r → Edits types w w' op base n first second under besides r
  unfolding edit_number
  edits_join e j = edits_one join e j (join_made j)

  pub edits_count : op ≡ 1014 → Counts w w' base first under besides r → Edits types w w' op base n first second under besides r
  unfolding edit_number
  edits_count e j = edits_one count e j (count_made j)

  pub edits_extract : op ≡ 1015 → Extracts types w w' base n first under besides r → Edits types w w' op base n first second under besides r
  unfolding edit_number
  edits_extract e j = edits_one extract e j (extract_made j)

-- no tree has no nodes
pub edits_none : (types : Types) (w : Words) (op base n first second under besides : ℕ) {k : ℕ} → n ≡ 0 → Edits types w w op base n first second under besides (Err k)
edits_none types w op base n first second under besides z = record {
  long = refl;
  few = λ e. absurd (no_ok e);
  fits = λ e. absurd (no_ok e);
  meant = λ g o args scope t left tb eo st env sure. absurd (omega (arith, tree_some scope st.tree.typed, st.nodes));
}

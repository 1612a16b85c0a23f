-- Laws of the tokens of a sequence: after each the same sequence is due again. Assumes nothing.
use Prim.Native.Nat.{ℕ, suc, ◌+◌, ◌-◌, ◌*◌, ◌<◌, ◌≤◌}
use mathlib.Core.Path.{◌≡◌, refl, sym, ap, subst, ◌∙◌}
use mathlib.Core.List.{List, [], ◌∷◌, ◌++◌, map}
use mathlib.Core.Bool.{Bool, true, false, true≢false}
use native.Mathlib.Omega.{arith}
use lib.ListN.{length, get_or, take, drop, length-append, length-drop}
use lib.Seq.{drop-drop, drop-append_seam}
use denote.Ref.{Bor}
use denote.Param.Members.{Mut}
use Rattle.std.specs.Prelude.{Option, None, Some}
use Rattle.std.specs.Bool.{MatchBool}
use Rattle.std.specs.Option.{MatchOption, is_some}
use Rattle.std.specs.Fn.{CalledAt}
use Rattle.std.specs.Iterator.{Yields, Drains}
use Rattle.std.specs.Iterator.Adapters.{take_while_steps}
use Rattle.std.specs.Slice.Iter.{chunks_exact_rest, chunks_exact_size, chunks_exact_steps}
use Rattle.std.specs.declared.iter.TakeWhile.{TakeWhile}
use Rattle.std.specs.declared.slice.ChunksExact.{ChunksExact}
use Rattle.std.proofs.lemmas.Option.{same_Some}
use lib.Dec.{ltb}
use borrow.Author.Tests.{eq-eqb, lt-ltb, le-leb, eqb-true, ltb-true}
use Rattle.words.specs.Reader.{Words, and, value, Reader}
use Rattle.words.proofs.Laws.{and_both}
use Rattle.words.proofs.Stretches.{part_rest}
use Rattle.grammar.specs.Grammar.{repeat, list, Kind, token, opt, sequence, forms, Grammar}
use Rattle.grammar.specs.Kinds.{kind_of, allows, allowed, children_of, children, is_sequence_kind, is_sequence}
use Rattle.tables.specs.Tables.{map_of, is_token}
use Rattle.grammar.specs.Values.{values_of}
use Rattle.tables.proofs.Lookups.{allowed_by}
use Rattle.tree.specs.Tree.{levels_of, levels}
use Rattle.tree.specs.Dues.{Next, pairs}
use Rattle.tree.specs.Reading.{tree, dues_of}
use Rattle.tables.specs.Types.{OfHeads, OfRows, OfTypes}
use Rattle.tables.specs.declared.types.Types.{Types}
use Rattle.rules.specs.Rules.{Rules}
use Rattle.judgement.specs.Typing.{Place, in_pattern, in_replacement, in_condition, Due, a_tree, Context, may_stand, node, meets}
use Rattle.dues.specs.Views.{node_due, tokens_due, TokensPassed}
use Rattle.dues.proofs.Row.{some_due}

-- what it tells where it holds
record Elements (g : Grammar) (here : Place) (n d e : ℕ) : Type 0 where
  low : n < 64
  sequence : is_sequence g d ≡ true
  token : is_token g e ≡ true
  stand : may_stand here d d ≡ true

elements : (g : Grammar) (here : Place) (n d : ℕ) → tokens_due g here n d ≡ true → Elements g here n d (get_or (children g d 0) 0 0)
unfolding tokens_due
elements g here n d h =
    let sequence = is_sequence g d in
    let token = is_token g (get_or (children g d 0) 0 0) in
    let stand = may_stand here d d in
    let a = and_both (ltb n 64) (and sequence (and token stand)) h in
    let b = and_both sequence (and token stand) a.1 in
    let c = and_both token stand b.1 in
    record { low = ltb-true n 64 a.0; sequence = b.0; token = c.0; stand = c.1 }

-- THE PAIR OF A SEQUENCE, AND A TOKEN'S

kind_starts : (k : Kind) → is_sequence_kind k ≡ true → allows k 0 ≡ true
unfolding is_sequence_kind allows
kind_starts (token c) h = let z : ◌≡◌ {A = ℕ} 0 1 = cc in absurd (omega arith)
kind_starts (opt e) h = refl
kind_starts (sequence style e) h = refl
kind_starts (forms fs) h = let z : ◌≡◌ {A = ℕ} 0 1 = cc in absurd (omega arith)

sequence_starts : (g : Grammar) (d : ℕ) → is_sequence g d ≡ true → allowed g d 0 ≡ true
unfolding is_sequence allowed
sequence_starts g d h = kind_starts (kind_of g d) h

kind_ends : (k : Kind) (e v n : ℕ) → map_of k ≡ 1 → map a_tree (dues_of (levels_of k v n) (children_of k e v)) ≡ []
unfolding map_of levels_of children_of dues_of
kind_ends (token c) e v n h = refl
kind_ends (opt x) e v n h = absurd (omega arith)
kind_ends (sequence repeat x) e v n h = absurd (omega arith)
kind_ends (sequence list x) e v n h = absurd (omega arith)
kind_ends (forms []) e v n h = absurd (omega arith)
kind_ends (forms (f ∷ fs)) e v n h = absurd (omega arith)

token_ends : (g : Grammar) (e v n : ℕ) → is_token g e ≡ true → node_due g e v n ≡ []
unfolding levels children is_token
token_ends g e v n h = kind_ends (kind_of g e) e v n (eqb-true (map_of (kind_of g e)) 1 h)

-- a node may stand in a pattern and in a replacement, whatever its type
stand_any : (here : Place) (d e : ℕ) → may_stand here d d ≡ true → may_stand here e e ≡ true
unfolding may_stand
stand_any in_pattern d e h = rw (eq-eqb e e refl)
stand_any in_replacement d e h = rw (eq-eqb e e refl)
stand_any in_condition d e h = let z : ◌≡◌ {A = ℕ} 0 1 = cc in absurd (omega arith)

-- a node where its tree is due
node_leaves : (g : Grammar) (rules : Rules) (here : Place) (n d v : ℕ) (Γ : Context) (at : ℕ) (ds : List Due) → may_stand here d d ≡ true → n ≤ 64 → allowed g d v ≡ true → node_due g d v n ≡ ds
    → meets g rules here (a_tree (tree n d)) Γ d v at ≡ value (record { known = Γ; dues = ds }) (at + 2)
unfolding meets node
node_leaves g rules here n d v Γ at ds s low a e = rw (s, le-leb n 64 low, eq-eqb d d refl, a, e)

-- THE STEP

-- a pair that is in order
pairs_next : (M : Due → Context → ℕ → ℕ → Reader (Next Due Context)) (t v : ℕ) (l : Words) (d : Due) (ds ns : List Due) (Γ : Context) (at : ℕ)
    → M d Γ t v at ≡ value (record { known = Γ; dues = ns }) (at + 2) → pairs M 23 (t ∷ v ∷ l) (d ∷ ds) Γ at ≡ pairs M 23 l (ns ++ ds) Γ (at + 2)
unfolding pairs
pairs_next M t v l d ds ns Γ at e = rw e

-- where d is due on top, the pairs from j on leave what those from i on leave
abbrev Same : Grammar → Place → ℕ → ℕ → Words → ℕ → ℕ → Type 0
Same g here n d ps i j = (rules : Rules) (ds : List Due) (Γ : Context) (start : ℕ)
    → pairs (meets g rules here) 23 (drop i ps) (a_tree (tree n d) ∷ ds) Γ (start + i) ≡ pairs (meets g rules here) 23 (drop j ps) (a_tree (tree n d) ∷ ds) Γ (start + j)

module _ (g : Grammar) (here : Place) (n d e : ℕ) (E : Elements g here n d e) (ee : e ≡ get_or (children g d 0) 0 0) (ps : Words) (i : ℕ) where
  -- one element: its sequence's pair, and its own
  element_passed : (v : ℕ) → drop i ps ≡ d ∷ 0 ∷ e ∷ v ∷ drop (i + 4) ps → allowed g e v ≡ true → Same g here n d ps i (i + 4)
  element_passed v cut ok rules ds Γ start =
      let M = meets g rules here in
      let one = node_leaves g rules here n d 0 Γ (start + i) (a_tree (tree (n + 1) e) ∷ a_tree (tree n d) ∷ []) E.stand (omega (arith, E.low)) (sequence_starts g d E.sequence) (sym (some_due g d 0 n refl E.sequence refl ee)) in
      let two = node_leaves g rules here (n + 1) e v Γ (start + i + 2) [] (stand_any here d e E.stand) (omega (arith, E.low)) ok (token_ends g e v (n + 1) E.token) in
      let z : start + i + 2 + 2 ≡ start + (i + 4) = omega arith in
      rw cut
      (pairs_next M d 0 (e ∷ v ∷ drop (i + 4) ps) (a_tree (tree n d)) ds (a_tree (tree (n + 1) e) ∷ a_tree (tree n d) ∷ []) Γ (start + i) one
      ∙ pairs_next M e v (drop (i + 4) ps) (a_tree (tree (n + 1) e)) (a_tree (tree n d) ∷ ds) [] Γ (start + i + 2) two
      ∙ rw z)

-- THE ELEMENTS PASSED OVER

-- the elements from `from` up to i are passed over, wherever tokens may stand
record Passing (types : Types) (n d : ℕ) (ps : Words) (from i : ℕ) : Type 0 where
  later : from ≤ i
  within : i ≤ length ps
  same : OfTypes types (λ g. (here : Place) → tokens_due g here n d ≡ true → Same g here n d ps from i)

module _ {types : Types} {n d : ℕ} {ps : Words} {from : ℕ} where
  pub pass_none : (here : Place) → from ≤ length ps → TokensPassed types here (a_tree (tree n d)) ps from from
  pass_none here h = record { later = omega arith; within = h; same = λ g t rules ds Γ start. refl }

  pass_start : from ≤ length ps → Passing types n d ps from from
  pass_start h = record { later = omega arith; within = h; same = λ g t here k rules ds Γ start. refl }

  module _ {i : ℕ} (p : Passing types n d ps from i) where
    pass_end : (here : Place) {b : Bool} → OfTypes types (λ g. b ≡ tokens_due g here n d) → b ≡ true → TokensPassed types here (a_tree (tree n d)) ps from i
    pass_end here eb h = record { later = p.later; within = p.within; same = λ g t. p.same g t here (sym (eb g t) ∙ h) }

-- what the chain asks of the four words of an element
abbrev pub Element : ℕ → ℕ → ℕ → Words → Type 0
Element d e k x = (get_or x 0 0 ≡ d) × (get_or x 1 0 ≡ 0) × (get_or x 2 0 ≡ e) × (get_or x 3 0 < k)

-- four words are two pairs
two_pairs : (x rest : Words) → length x ≡ 4 → x ++ rest ≡ get_or x 0 0 ∷ get_or x 1 0 ∷ get_or x 2 0 ∷ get_or x 3 0 ∷ rest
two_pairs (a ∷ b ∷ c ∷ v ∷ []) rest h = refl
two_pairs [] rest h = absurd (omega arith)
two_pairs (a ∷ []) rest h = absurd (omega arith)
two_pairs (a ∷ b ∷ []) rest h = absurd (omega arith)
two_pairs (a ∷ b ∷ c ∷ []) rest h = absurd (omega arith)
two_pairs (a ∷ b ∷ c ∷ v ∷ w ∷ x) rest h = absurd (omega arith)

-- what is left after them
left : (ps : Words) (i : ℕ) (x rest : Words) → drop i ps ≡ x ++ rest → length x ≡ 4 → drop (i + 4) ps ≡ rest
left ps i x rest cut long = sym (drop-drop 4 i ps) ∙ ap (drop 4) cut ∙ subst (λ m. drop m (x ++ rest) ≡ rest) long (drop-append_seam x rest)

module _ {F : Type 0} (g : Mut F (Bor (Bor Words) × Unit {0}) Bool) where
  abbrev Chain : Type 0
  Chain = TakeWhile (ChunksExact ℕ) F

  -- what a call says of an item that came, where the test has not failed yet
  abbrev Tested : Chain → Bor Words → Option (Bor Words) → Chain → Type 0
  Tested s x o t = MatchOption o ((Some x ≡ None) × (t.done ≡ false)) (λ y. (b : Bool) × CalledAt g s.p y b t.p × MatchBool b ((Some x ≡ Some y) × (t.done ≡ false)) ((Some x ≡ None) × (t.done ≡ true)))

  abbrev Came : Chain → Bor Words → Chain → Type 0
  Came s x t = chunks_exact_steps s.iter (Some x) t.iter × CalledAt g s.p x true t.p × (t.done ≡ false)

  -- the words gave it, and it passed
  came : (s t : Chain) (x : Bor Words) (o : Option (Bor Words)) → chunks_exact_steps s.iter o t.iter → Tested s x o t → Came s x t
  came s t x None p c = absurd (true≢false (ap is_some c.0))
  came s t x (Some y) p (false, c, w) = absurd (true≢false (ap is_some w.0))
  came s t x (Some y) p (true, c, w) = rw (same_Some x y w.0) (p, c, w.1)

  turned : (s t : Chain) (x : Bor Words) → s.done ≡ false → take_while_steps chunks_exact_steps g s (Some x) t → Came s x t
  turned s t x fresh step =
      let q = subst (λ b. MatchBool b ((Some x ≡ None) × (t ≡ s)) ((o : Option (Bor Words)) × chunks_exact_steps s.iter o t.iter × Tested s x o t)) fresh step in
      came s t x q.0 q.1 q.2

module _ {types : Types} {n d e k : ℕ} {ps : Words} {from : ℕ} (ee : OfRows types (λ g. e ≡ get_or (children g d 0) 0 0)) (ek : OfHeads types (λ g. k ≡ values_of (kind_of g e))) where
  pass_more : (i : ℕ) (x rest : Words) → drop i ps ≡ x ++ rest → length x ≡ 4 → Element d e k x → Passing types n d ps from i → Passing types n d ps from (i + 4)
  pass_more i x rest cut long el p =
      let pairs_here : drop i ps ≡ d ∷ 0 ∷ e ∷ get_or x 3 0 ∷ drop (i + 4) ps = cut ∙ two_pairs x rest long ∙ rw (el.0, el.1, el.2, left ps i x rest cut long) in
      let whole = sym (length-drop i ps) ∙ ap length cut ∙ length-append x rest in
      record {
        later = omega (arith, p.later);
        within = omega (arith, p.within, whole);
        same = λ g t here h rules ds Γ start.
            let E : Elements g here n d e = rw (ee g t.rows_of_lem) (elements g here n d h) in
            p.same g t here h rules ds Γ start ∙ element_passed g here n d e E (ee g t.rows_of_lem) ps i (get_or x 3 0) pairs_here (sym (allowed_by g e (get_or x 3 0) k (ek g t.heads_of)) ∙ lt-ltb (get_or x 3 0) k el.3) rules ds Γ start;
      }

  module _ {F : Type 0} (g : Mut F (Bor (Bor Words) × Unit {0}) Bool) (f : F) (asks : (x : Bor Words) (q : F) → CalledAt g f x true q → (q ≡ f) × Element d e k x.now) where
    walk : (xs : List (Bor Words)) (s t : Chain g) (i : ℕ) → Yields (take_while_steps chunks_exact_steps g) s xs t → s.done ≡ false → s.p ≡ f → chunks_exact_size s.iter ≡ 4 → chunks_exact_rest s.iter ≡ drop i ps
        → Passing types n d ps from i → Passing types n d ps from (i + 4 * length xs)
    walk [] s t i y fresh same four rest p = let z : i + 0 ≡ i = omega arith in rw z p
    walk (x ∷ xs) s t i (j, step, y) fresh same four rest p =
        let c = turned g s j x fresh step in
        let a = asks x j.p (subst (λ q. CalledAt g q x true j.p) same c.1) in
        let cut = sym rest ∙ c.0.1.0 in
        let long = c.0.1.1 ∙ four in
        let z : i + 4 * suc (length xs) ≡ i + 4 + 4 * length xs = omega arith in
        rw z (walk xs j t (i + 4) y c.2 a.0 (c.0.0 ∙ four) (sym (left ps i x.now (chunks_exact_rest j.iter) cut long)) (pass_more i x.now (chunks_exact_rest j.iter) cut long a.1 p))

    pub tokens_passed : (here : Place) {b : Bool} → OfTypes types (λ g. b ≡ tokens_due g here n d) → b ≡ true → from ≤ length ps
        → (s : Chain g) → s.done ≡ false → s.p ≡ f → chunks_exact_size s.iter ≡ 4 → chunks_exact_rest s.iter ≡ take (length ps - from) (drop from ps)
        → {r : ℕ} → (xs : List (Bor Words)) × Drains (take_while_steps chunks_exact_steps g) s xs × (r ≡ length xs) → TokensPassed types here (a_tree (tree n d)) ps from (from + 4 * r)
    tokens_passed here eb h inside s fresh same four rest (xs, (u, (t, y, z)), er) = rw er (pass_end (walk xs s t from y fresh same four (rest ∙ part_rest from ps) (pass_start inside)) here eb h)

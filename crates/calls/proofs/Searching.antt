-- The search of a rule, node by node, and at each node part by part. Assumes nothing.
use Prim.Native.Nat.{ℕ, zero, suc, ◌+◌, ◌-◌, ◌*◌, ◌<◌, ◌≤◌}
use mathlib.Core.Path.{◌≡◌, refl, sym, ap, ap₂, ◌∙◌}
use mathlib.Core.List.{List, [], ◌∷◌, ◌++◌}
use mathlib.Core.Bool.{Bool, true, false}
use mathlib.Core.Option.{Option, none, some}
use mathlib.Core.Logic.{◌⊎◌, inl, inr, ⊎_elim}
use native.Mathlib.Omega.{arith}
use lib.ListN.{length, get_or, take, drop, length-take, length-drop}
use lib.Seq.{drop-drop, get_or-take, get_or-drop, take-take}
use lib.Dec.{eqb}
use borrow.Author.Tests.{eq-eqb, ne_eqb}
use Rattle.words.specs.Reader.{Words, or, value, many}
use Rattle.words.proofs.Laws.{many_suc, many_none, or_true}
use Rattle.grammar.specs.Grammar.{Grammar}
use Rattle.grammar.specs.Limits.{most_types}
use Rattle.grammar.specs.Kinds.{children}
use Rattle.tree.specs.Rest.{Rest}
use Rattle.tree.proofs.Rest.{tree_rest, rest_node, rest_at}
use Rattle.rules.specs.Rules as Rules
use Rattle.rules.specs.Rules.{Rule, root_only, first_match, exhaustive, one_pass, searches, shapes, pieces}
use Rattle.rules.specs.Layout as Layout
use Rattle.rules.specs.Layout.{part_at, part_of}
use Rattle.rules.specs.Views.{pairs_at, Planned, strategy_as, tried_of}
use Rattle.rules.proofs.Laid.{part_value}
use Rattle.rules.specs.declared.Strategy.{Strategy}
use Rattle.rules.specs.declared.Strategy.TheVariants.{RootOnly, FirstMatch, Exhaustive, OnePass}
use Rattle.rules.specs.declared.Plan.{Plan}
use Rattle.meaning.specs.Limits.{most_live}
use Rattle.meaning.specs.declared.State.{State}
use Rattle.std.specs.Prelude.{Ok, Err, Some, None}
use Rattle.meaning.specs.Computation as Computation
use Rattle.meaning.specs.Computation.{ok, stop, stuck, Comp, then_of, spend_of, spend, choose, whether, return}
use Rattle.meaning.specs.Meaning as M
use Rattle.meaning.specs.Meaning.{Env, Bindings, Found, calls, match}
use Rattle.marks.specs.Marked.{marked, type_in}
use Rattle.marks.specs.Post.{span}
use Rattle.marks.proofs.Marks.{marked_length, marked_suffix}
use Rattle.marks.proofs.Spans.{drop_take}
use Rattle.rewrite.specs.Vars.{Vars, Sound, Kept}
use Rattle.rewrite.specs.Matching.{Match, Stage, Means, Answers, bindings}
use Rattle.rewrite.specs.Candidates.{Clashes, ClashesAt, unspent, Passed, NextCandidate}
use Rattle.rewrite.specs.declared.candidates.Candidate.{Candidate}
use Rattle.rewrite.proofs.Matcher.{kept_same, kept_more, Node, node_of, two_marked}
use Rattle.rewrite.specs.declared.Verdict.TheVariants.{Matches, Differs, Stops}
use Rattle.calls.specs.Engine.{Open, Taking, Seeking, Room, Grown, Held, Given, Setting, Sure, TakenAs, part_on, part_read, SoughtAs, Begins, seek_from, FoundFits, Tree, Steps, Seeks}
use Rattle.calls.specs.Places.{Place}
use Rattle.rewrite.proofs.Standing.{take_less, some_nodes, standing_end}
use Rattle.calls.proofs.Frames.{grown_matched, grown_more, held_still}
use Rattle.calls.proofs.Going.{then_ok, then_stop, sure_first, sure_as}

-- HOW MANY NODES ARE TRIED

pub tried_few : (s : Strategy) (n : ℕ) → tried_of s n ≤ n
tried_few RootOnly zero = omega arith
tried_few RootOnly (suc n) = omega arith
tried_few FirstMatch n = omega arith
tried_few Exhaustive n = omega arith
tried_few OnePass n = omega arith

pub tried_inside : (s : Strategy) (n i last : ℕ) → last ≡ tried_of s n → i < last → i < n
tried_inside s n i last e h = omega (arith, h, e, tried_few s n)

-- a node is tried if it is the first, or if the rule searches
tried_here : (s : Rules.Strategy) (n i : ℕ) → i < tried_of (strategy_as s) n → or (eqb (2 * i) 0) (searches s) ≡ true
tried_here root_only zero i h = absurd (omega arith)
tried_here root_only (suc n) zero h = refl
tried_here root_only (suc n) (suc i) h = absurd (omega arith)
tried_here first_match n zero h = refl
tried_here first_match n (suc i) h = rw (ne_eqb (2 * suc i) 0 (λ e. omega arith))
tried_here exhaustive n zero h = refl
tried_here exhaustive n (suc i) h = rw (ne_eqb (2 * suc i) 0 (λ e. omega arith))
tried_here one_pass n zero h = refl
tried_here one_pass n (suc i) h = rw (ne_eqb (2 * suc i) 0 (λ e. omega arith))

-- .. and so is the node that a search begins at
begins_here : {rule : Rule} {n start : ℕ} → Begins rule n start → or (eqb (2 * start) 0) (searches rule.strategy) ≡ true
begins_here {rule} {n} {start} x = go (searches rule.strategy) x.root
  where
    go : (s : Bool) → (s ≡ false → start ≡ 0) → or (eqb (2 * start) 0) s ≡ true
    go true h = or_true (eqb (2 * start) 0)
    go false h = rw (h refl)

-- past the last there is none, or none that is tried
tried_past : (s : Rules.Strategy) (n i : ℕ) → 0 < n → i ≤ n → tried_of (strategy_as s) n ≤ i → (or (eqb (2 * i) 0) (searches s) ≡ false) ⊎ (i ≡ n)
tried_past root_only zero i p h l = absurd (omega arith)
tried_past root_only (suc n) zero p h l = absurd (omega arith)
tried_past root_only (suc n) (suc i) p h l = inl (rw (ne_eqb (2 * suc i) 0 (λ e. omega arith)))
tried_past first_match n i p h l = inr (omega arith)
tried_past exhaustive n i p h l = inr (omega arith)
tried_past one_pass n i p h l = inr (omega arith)

-- ONE NODE OF THE MEANING'S SEARCH

-- the state after an attempt has begun
abbrev pub spent : State → State
spent left = record { attempts = left.attempts - 1 }

module _ (g : Grammar) (rules : Rules.Rules) (deep : ℕ) (rule : Rule) (b : Bindings) where
  -- the search from a node on
  abbrev pub from : Words → ℕ → Comp (Option Found)
  from ws place = choose (or (eqb place 0) (searches rule.strategy)) (M.seek true g rules (calls true g rules deep) rule ws place b) (return none)

  -- what follows an attempt at a node
  abbrev pub after : Words → ℕ → Option Bindings → Comp (Option Found)
  after ws place m = whether m (λ c. return (some (record { place = place; bound = c }))) (choose (searches rule.strategy) (M.seek true g rules (calls true g rules deep) rule ws (place + 2) b) (return none))

  seek_here : (ws : Words) (place : ℕ) (left : State) → or (eqb place 0) (searches rule.strategy) ≡ true → from ws place left ≡ M.seek true g rules (calls true g rules deep) rule ws place b left
  unfolding choose
  seek_here ws place left e = rw e

  seek_past : (ws : Words) (place : ℕ) (left : State) → or (eqb place 0) (searches rule.strategy) ≡ false → from ws place left ≡ ok none left
  unfolding choose
  seek_past ws place left e = rw e

  seek_end : (place : ℕ) (left : State) → from [] place left ≡ ok none left
  unfolding choose M.seek
  seek_end place left = go (or (eqb place 0) (searches rule.strategy))
    where
      go : (x : Bool) → choose x (M.seek true g rules (calls true g rules deep) rule [] place b) (return none) left ≡ ok none left
      go true = refl
      go false = refl

  -- what follows, where there is no match: the search from the next node on
  after_none : (ws : Words) (place : ℕ) (left : State) → after ws place none left ≡ from ws (place + 2) left
  unfolding whether
  after_none ws place left = rw (ne_eqb (place + 2) 0 (λ e. omega arith))

  after_some : (ws : Words) (place : ℕ) (left : State) (c : Bindings) → after ws place (some c) left ≡ ok (some (record { place = place; bound = c })) left
  unfolding whether
  after_some ws place left c = refl

  module _ (t v : ℕ) (ws : Words) (place : ℕ) (left : State) where
    -- a node of another type
    seek_other : (t ≡ rule.target → ⊥) → M.seek true g rules (calls true g rules deep) rule (t ∷ v ∷ ws) place b left ≡ from ws (place + 2) left
    unfolding M.seek choose then_of
    seek_other h = let z = ne_eqb t rule.target h in rw z (after_none ws place left)

    -- an attempt at a node of the type
    seek_this : t ≡ rule.target → M.seek true g rules (calls true g rules deep) rule (t ∷ v ∷ ws) place b left ≡ then_of (M.attempt true g rules (calls true g rules deep) rule (t ∷ v ∷ ws) b left) (after ws place)
    unfolding M.seek choose
    seek_this h = rw (eq-eqb t rule.target h)

-- an attempt costs one
attempt_spent : (g : Grammar) (rules : Rules.Rules) (deep : ℕ) (rule : Rule) (ws : Words) (b : Bindings) (fuel : State) → fuel.attempts ≡ 0 → M.attempt true g rules (calls true g rules deep) rule ws b fuel ≡ stop 40 fuel
unfolding M.attempt spend spend_of then_of
attempt_spent g rules deep rule ws b fuel e = rw e

attempt_first : (g : Grammar) (rules : Rules.Rules) (deep : ℕ) (rule : Rule) (ws : Words) (b : Bindings) (fuel now : State) → fuel.attempts ≡ suc now.attempts
    → M.attempt true g rules (calls true g rules deep) rule ws b fuel ≡ then_of (match true g rule.pattern ws b now) (λ m. whether m (M.parts true g rules (calls true g rules deep) rule.parts) (return none))
unfolding M.attempt spend spend_of then_of
attempt_first g rules deep rule ws b fuel now e = rw e

-- THE PARTS

parts_end : (g : Grammar) (rules : Rules.Rules) (deep : ℕ) (b : Bindings) (l : State) → M.parts true g rules (calls true g rules deep) [] b l ≡ ok (some b) l
unfolding M.parts
parts_end g rules deep b l = refl

module _ (g : Grammar) (rules : Rules.Rules) (deep : ℕ) (p : Rules.Part) (ps : List Rules.Part) (b : Bindings) (l : State) where
  parts_more : M.parts true g rules (calls true g rules deep) (p ∷ ps) b l ≡ then_of (part_on deep p g rules b l) (λ m. whether m (M.parts true g rules (calls true g rules deep) ps) (return none))
  unfolding M.parts
  parts_more = refl

-- THE LOOP OVER PARTS

-- the part that stands there, and the others
record There (types : ℕ) (book : Words) (at count end : ℕ) (ps : List Rules.Part) : Type 0 where
  p : Rules.Part
  more : List Rules.Part
  q : Layout.PartAt
  next : ℕ
  read : part_at types book at ≡ value q next
  is : part_of book q ≡ p
  others : many (count - 1) (Layout.part types book) next ≡ value more end
  all : ps ≡ p ∷ more

there : (types : ℕ) (book : Words) (at count end : ℕ) (ps : List Rules.Part) → 0 < count → many count (Layout.part types book) at ≡ value ps end → There types book at count end ps
there types book at count end ps pos e =
    let z : count ≡ suc (count - 1) = omega arith in
    let u = many_suc (Layout.part types book) (count - 1) at (rw z at e) in
    let x = part_value types book at u.3 in
    record { p = u.0; more = u.2; q = x.0; next = u.1; read = x.1; is = x.2; others = u.4; all = u.5 }

-- the run of the parts is that part's step, and what follows it
step_first : (types : ℕ) (book : Words) (at count end : ℕ) (ps : List Rules.Part) (x : There types book at count end ps) (g : Grammar) (rules : Rules.Rules) (deep : ℕ) (b : Bindings) (l : State)
    → M.parts true g rules (calls true g rules deep) ps b l ≡ then_of (part_read deep book (part_at types book at) g rules b l) (λ m. whether m (M.parts true g rules (calls true g rules deep) x.more) (return none))
step_first types book at count end ps x g rules deep b l =
    ap (λ y. M.parts true g rules (calls true g rules deep) y b l) x.all ∙ parts_more g rules deep x.p x.more b l
    ∙ ap (λ y. then_of y (λ m. whether m (M.parts true g rules (calls true g rules deep) x.more) (return none)))
    (sym (ap (λ y. part_read deep book y g rules b l) x.read ∙ ap (λ y. part_on deep y g rules b l) x.is))

some_first : {A B : Type 0} (a : A) (l : State) (f : A → Comp (Option B)) → then_of (ok (some a) l) (λ m. whether m f (return none)) ≡ f a l
unfolding then_of whether
some_first a l f = refl

module _ (given : Given) (deep : ℕ) (w₀ : Words) (fuel₀ : State) (frame₀ : Open) (at₀ count₀ : ℕ) where
  -- parts have matched up to here: what is open now, and the parts that are left
  record Gone (g : Grammar) (rules : Rules.Rules) (env₀ : Env) (besides : ℕ) (ps₀ : List Rules.Part) (end : ℕ) (w : Words) (fuel : State) (frame : Open) (at count : ℕ) : Type 0 where
    kept : take frame₀.top w ≡ take frame₀.top w₀
    env : Env
    held : Held g w frame (bindings env besides)
    ps : List Rules.Part
    read : many count (Layout.part given.types.count given.book) at ≡ value ps end
    is : M.parts true g rules (calls true g rules deep) ps₀ (bindings env₀ besides) fuel₀ ≡ M.parts true g rules (calls true g rules deep) ps (bindings env besides) fuel

  pub record Parting (w : Words) (fuel : State) (frame : Open) (at count : ℕ) : Type 0 where
    pub grown : Grown frame₀ frame
    pub less : fuel.attempts ≤ fuel₀.attempts
    pub long : length w ≡ length w₀
    gone : (g : Grammar) (rules : Rules.Rules) (env₀ : Env) (besides : ℕ) (ps₀ : List Rules.Part) (end : ℕ) → Setting given g rules → Held g w₀ frame₀ (bindings env₀ besides)
        → many count₀ (Layout.part given.types.count given.book) at₀ ≡ value ps₀ end → Sure (M.parts true g rules (calls true g rules deep) ps₀ (bindings env₀ besides) fuel₀) → Gone g rules env₀ besides ps₀ end w fuel frame at count

  pub parting_start : Sound frame₀.vars → frame₀.live ≤ most_live → frame₀.top ≤ 2 * frame₀.live → Parting w₀ fuel₀ frame₀ at₀ count₀
  parting_start s f l = record {
    grown = record { sound = s; kept = kept_same frame₀.vars; few = f; low = l; more = omega arith; higher = omega arith };
    less = omega arith;
    long = refl;
    gone = λ g rules env₀ besides ps₀ end setting held read sure. record { kept = refl; env = env₀; held = held; ps = ps₀; read = read; is = refl };
  }

  pub parting_on : (w : Words) (fuel : State) (frame : Open) (at count : ℕ) → Parting w fuel frame at count → 0 < count → (w' : Words) (r : Taking) → Steps given w w' at frame deep fuel r → r.verdict ≡ Matches
      → Parting w' r.left r.frame r.next (count - 1)
  parting_on w fuel frame at count pr pos w' r steps v = record {
    grown = grown_more pr.grown steps.takes.grown;
    less = omega (arith, pr.less, steps.takes.less);
    long = steps.takes.long ∙ pr.long;
    gone = λ g rules env₀ besides ps₀ end setting held read sure.
        let a = pr.gone g rules env₀ besides ps₀ end setting held read sure in
        let x = there given.types.count given.book at count end a.ps pos a.read in
        let first = step_first given.types.count given.book at count end a.ps x g rules deep (bindings a.env besides) fuel in
        let s = steps.takes.meant g rules (bindings a.env besides) setting a.held (sure_first _ _ (sure_as (a.is ∙ first) sure)) in
        let y = rw v at s.1 in
        record {
          kept = take_less frame₀.top frame.top w w' pr.grown.higher s.0 ∙ a.kept;
          env = y.0;
          held = y.1;
          ps = x.more;
          read = ap (many (count - 1) (Layout.part given.types.count given.book)) (steps.next_is x.q x.next x.read) ∙ x.others;
          is = a.is ∙ first ∙ ap (λ z. then_of z (λ m. whether m (M.parts true g rules (calls true g rules deep) x.more) (return none))) y.2
              ∙ some_first (bindings y.0 besides) r.left (M.parts true g rules (calls true g rules deep) x.more);
        };
  }

stuck_twice : {A B C : Type 0} (f : A → Comp B) (h : B → Comp C) → then_of (then_of stuck f) h ≡ stuck
unfolding then_of
stuck_twice f h = refl

stop_twice : {A B C : Type 0} (n : ℕ) (l : State) (f : A → Comp B) (h : B → Comp C) → then_of (then_of (stop n l) f) h ≡ stop n l
unfolding then_of
stop_twice n l f h = refl

none_twice : {A B C : Type 0} (l : State) (f : A → Comp (Option B)) (h : Option B → Comp C) → then_of (then_of (ok none l) (λ m. whether m f (return none))) h ≡ h none l
unfolding then_of whether
none_twice l f h = refl

some_twice : {A B C : Type 0} (a : A) (l : State) (f : A → Comp (Option B)) (h : Option B → Comp C) → then_of (then_of (ok (some a) l) (λ m. whether m f (return none))) h ≡ then_of (f a l) h
unfolding then_of whether
some_twice a l f h = refl

-- THE LOOP OVER NODES

rest_as : {g : Grammar} {rest : Words} {types : List ℕ} (t v : ℕ) (below : Words) (more : List ℕ) → rest ≡ t ∷ v ∷ below → types ≡ t ∷ more → Rest g types rest → Rest g (t ∷ more) (t ∷ v ∷ below)
rest_as t v below more e q r = rw (e, q) at r

-- the word at a place below the top
below_word : (w w₀ : Words) (top p : ℕ) → p < top → take top w ≡ take top w₀ → get_or w p 0 ≡ get_or (take top w₀) p 0
below_word w w₀ top p h e = sym (get_or-take top w p 0 h) ∙ ap (λ x. get_or x p 0) e

module _ (given : Given) (w₀ : Words) (plan : Plan) (base n : ℕ) (frame : Open) (deep : ℕ) (left : State) (start : ℕ) where
  -- what the meaning is given
  pub record Case : Type 0 where
    pub g : Grammar
    pub rules : Rules.Rules
    pub rule : Rule
    pub b : Bindings
    pub scope : Words
    pub setting : Setting given g rules
    pub planned : Planned given.types.count given.book rule plan
    pub held : Held g w₀ frame b
    pub tree : Tree g (take frame.top w₀) base n scope
    pub begins : Begins rule n start
    pub sure : Sure (seek_from deep g rules rule scope start b left)

  abbrev whole : Case → Computation.Result (Option Found)
  whole k = seek_from deep k.g k.rules k.rule k.scope start k.b left

  abbrev onward : Case → Words → ℕ → Comp (Option Found)
  onward k ws place = from k.g k.rules deep k.rule k.b ws place

  abbrev next : Case → Words → ℕ → Option Bindings → Comp (Option Found)
  next k ws place m = after k.g k.rules deep k.rule k.b ws place m

  -- the stretch of the scope from node i on
  abbrev here : ℕ → Words
  here i = take (2 * (n - i)) (drop (base + 2 * i) (take frame.top w₀))

  -- what is left of the scope
  record Left (k : Case) (i : ℕ) (rest : Words) : Type 0 where
    due : List ℕ
    trees : Rest k.g due rest
    marks : here i ≡ marked k.g rest

  record AtNode (k : Case) (w : Words) (fuel : State) (i : ℕ) : Type 0 where
    within : i ≤ n
    kept : take frame.top w ≡ take frame.top w₀
    rest : Words
    scope : Left k i rest
    is : whole k ≡ onward k rest (2 * i) fuel

  pub record Searching (w : Words) (fuel : State) (i : ℕ) : Type 0 where
    pub less : fuel.attempts ≤ left.attempts
    pub long : length w ≡ length w₀
    run : (k : Case) → AtNode k w fuel i

  module _ (room : Room w₀ frame) where
    few : (k : Case) → length k.g ≤ most_types
    few k = k.setting.types_of.heads_of.types

    ends : (k : Case) → base + 2 * n ≤ frame.top
    ends k = standing_end w₀ frame.top k.tree.1

    -- the marks from a node on are those of what is left there
    marks_from : (k : Case) (i : ℕ) → i ≤ n → here i ≡ marked k.g (drop (2 * i) k.scope)
    marks_from k i h =
        let a : 2 * (n - i) ≡ 2 * n - 2 * i = omega arith in
        ap₂ take a (sym (drop-drop (2 * i) base (take frame.top w₀)))
        ∙ sym (drop_take (2 * n) (2 * i) (drop base (take frame.top w₀))) ∙ ap (drop (2 * i)) k.tree.1.words ∙ marked_suffix k.g k.scope i (2 * i) refl

    pub searching_start : Searching w₀ left start
    searching_start = record {
      less = omega arith;
      long = refl;
      run = λ k.
          let at = rest_at start (k.tree.0 ∷ []) k.scope (tree_rest k.tree.1.tree) (omega (arith, k.begins.inside, k.tree.1.nodes)) in
          record {
            within = k.begins.inside;
            kept = refl;
            rest = drop (2 * start) k.scope;
            scope = record { due = at.0; trees = at.1; marks = marks_from k start k.begins.inside };
            is = sym (seek_here k.g k.rules deep k.rule k.b (drop (2 * start) k.scope) (2 * start) left (begins_here k.begins));
          };
    }

    -- the stretch has two words a node
    here_length : (k : Case) (i : ℕ) → i ≤ n → length (here i) ≡ 2 * (n - i)
    here_length k i h =
        omega (arith, ends k, room.low, room.few, room.long, length-take (2 * (n - i)) (drop (base + 2 * i) (take frame.top w₀)), length-drop (base + 2 * i) (take frame.top w₀), length-take frame.top w₀)

    node_here : (k : Case) (i : ℕ) → i < n → (rest : Words) (s : Left k i rest) → Node k.g (here i) rest s.due
    node_here k i h rest s = node_of k.g (here i) rest s.due (few k) s.trees s.marks (omega (arith, here_length k i (omega arith)))

    -- the first word of the node in memory
    word_here : (k : Case) (w : Words) (i : ℕ) → i < n → take frame.top w ≡ take frame.top w₀ → get_or w (base + 2 * i) 0 ≡ get_or (here i) 0 0
    word_here k w i h e =
        let a : base + 2 * i + 0 ≡ base + 2 * i = omega arith in
        below_word w w₀ frame.top (base + 2 * i) (omega (arith, ends k)) e
        ∙ sym (get_or-take (2 * (n - i)) (drop (base + 2 * i) (take frame.top w₀)) 0 0 (omega arith) ∙ get_or-drop (base + 2 * i) (take frame.top w₀) 0 0 ∙ ap (λ x. get_or (take frame.top w₀) x 0) a)

    -- what is left after the node
    left_next : (k : Case) (i : ℕ) (h : i < n) (rest : Words) (s : Left k i rest) → Left k (i + 1) (node_here k i h rest s).below
    left_next k i h rest s =
        let m = node_here k i h rest s in
        let a : 2 * (n - i) - 2 ≡ 2 * (n - (i + 1)) = omega arith in
        let c : base + 2 * i + 2 ≡ base + 2 * (i + 1) = omega arith in
        record {
          due = children k.g m.t m.v ++ m.more;
          trees = rest_node (rest_as m.t m.v m.below m.more m.is m.due s.trees);
          marks = sym (drop_take (2 * (n - i)) 2 (drop (base + 2 * i) (take frame.top w₀)) ∙ ap₂ take a (drop-drop 2 (base + 2 * i) (take frame.top w₀) ∙ ap (λ x. drop x (take frame.top w₀)) c))
              ∙ ap (drop 2) s.marks ∙ two_marked k.g rest m.t m.v m.below m.is;
        }

    -- the run at a node that is tried
    run_here : (k : Case) (w : Words) (fuel : State) (i : ℕ) → i < tried_of plan.strategy n → (h : i < n) (a : AtNode k w fuel i)
        → whole k ≡ M.seek true k.g k.rules (calls true k.g k.rules deep) k.rule ((node_here k i h a.rest a.scope).t ∷ (node_here k i h a.rest a.scope).v ∷ (node_here k i h a.rest a.scope).below) (2 * i) k.b fuel
    run_here k w fuel i t h a =
        a.is
        ∙ seek_here k.g k.rules deep k.rule k.b a.rest (2 * i) fuel (tried_here k.rule.strategy n i (rw k.planned.strategy at t))
        ∙ ap (λ x. M.seek true k.g k.rules (calls true k.g k.rules deep) k.rule x (2 * i) k.b fuel) (node_here k i h a.rest a.scope).is

    -- the next node
    at_next : (k : Case) (w w' : Words) (fuel now : State) (i : ℕ) (h : i < n) (a : AtNode k w fuel i) → take frame.top w' ≡ take frame.top w₀
        → whole k ≡ onward k (node_here k i h a.rest a.scope).below (2 * i + 2) now → AtNode k w' now (i + 1)
    at_next k w w' fuel now i h a e q =
        let c : 2 * i + 2 ≡ 2 * (i + 1) = omega arith in
        record { within = omega arith; kept = e; rest = (node_here k i h a.rest a.scope).below; scope = left_next k i h a.rest a.scope; is = q ∙ ap (λ x. onward k (node_here k i h a.rest a.scope).below x now) c }

    module _ (w : Words) (fuel : State) (i : ℕ) (go : Searching w fuel i) where
      -- an answer at a node
      sought : (f : Place) (fr : Open) (now : State) (at : ℕ) (w' : Words) → length w' ≡ length w₀ → Grown frame fr → FoundFits n left f now
          → ((k : Case) → (take frame.top w' ≡ take frame.top w₀) × SoughtAs k.g w' k.b.besides given.book k.rule f fr now at (whole k))
          → Seeks given w₀ w' plan base n frame deep left start (record { found = f; frame = fr; left = now; next = at })
      sought f fr now at w' l grown fits run = record {
        grown = grown;
        fits = fits;
        long = l;
        meant = λ g rules rule b scope setting planned held tree begins sure.
            run (record { g = g; rules = rules; rule = rule; b = b; scope = scope; setting = setting; planned = planned; held = held; tree = tree; begins = begins; sure = sure });
      }

      pub searching_none : tried_of plan.strategy n ≤ i → (fr : Open) → Grown frame fr → Seeks given w₀ w plan base n frame deep left start (record { found = Ok None; frame = fr; left = fuel; next = 0 })
      searching_none past fr grown = sought (Ok None) fr fuel 0 w go.long grown go.less (λ k. ((go.run k).kept, ended k))
        where
          empty : (x : Words) → length x ≡ 0 → x ≡ []
          empty [] e = refl
          empty (y ∷ x) e = absurd (omega arith)

          ended : (k : Case) → whole k ≡ ok none fuel
          ended k =
              let a = go.run k in
              let p = some_nodes k.scope k.tree.1.tree in
              ⊎_elim
              (λ e. a.is ∙ seek_past k.g k.rules deep k.rule k.b a.rest (2 * i) fuel e)
              (λ e.
              let l : length a.rest ≡ 0 = omega (arith, here_length k i a.within, ap length a.scope.marks, marked_length k.g a.rest) in
              a.is ∙ ap (λ x. onward k x (2 * i) fuel) (empty a.rest l) ∙ seek_end k.g k.rules deep k.rule k.b (2 * i) fuel)
              (tried_past k.rule.strategy n i (omega (arith, k.tree.1.nodes)) a.within (rw k.planned.strategy at past))

      module _ (t : i < tried_of plan.strategy n) where
        abbrev inside : i < n
        inside = omega (arith, tried_few plan.strategy n)

        abbrev node : (k : Case) → Node k.g (here i) (go.run k).rest (go.run k).scope.due
        node k = node_here k i inside (go.run k).rest (go.run k).scope

        type_here : (k : Case) → type_in (get_or w (base + 2 * i) 0) ≡ (node k).t
        type_here k = ap type_in (word_here k w i inside (go.run k).kept) ∙ (node k).type_in_lem

        searching_other : (type_in (get_or w (base + 2 * i) 0) ≡ plan.target → ⊥) → Searching w fuel (i + 1)
        searching_other other = record {
          less = go.less;
          long = go.long;
          run = λ k.
              at_next k w w fuel fuel i inside (go.run k) (go.run k).kept
              (run_here k w fuel i t inside (go.run k) ∙ seek_other k.g k.rules deep k.rule k.b (node k).t (node k).v (node k).below (2 * i) fuel (λ e. other (type_here k ∙ e ∙ sym k.planned.target)));
        }

        module _ (this : type_in (get_or w (base + 2 * i) 0) ≡ plan.target) where
          -- the run is an attempt, and what follows it
          tries : (k : Case) → whole k ≡ then_of (M.attempt true k.g k.rules (calls true k.g k.rules deep) k.rule ((node k).t ∷ (node k).v ∷ (node k).below) k.b fuel) (next k (node k).below (2 * i))
          tries k =
              run_here k w fuel i t inside (go.run k)
              ∙ seek_this k.g k.rules deep k.rule k.b (node k).t (node k).v (node k).below (2 * i) fuel (sym (type_here k) ∙ this ∙ k.planned.target)

          pub searching_spent : fuel.attempts ≡ 0 → (fr : Open) → Grown frame fr → Seeks given w₀ w plan base n frame deep left start (record { found = Err 40; frame = fr; left = fuel; next = 0 })
          searching_spent z fr grown = sought (Err 40) fr fuel 0 w go.long grown go.less (λ k. ((go.run k).kept, stops k))
            where
              stops : (k : Case) → whole k ≡ stop 40 fuel
              stops k =
                  tries k
                  ∙ then_stop _ (next k (node k).below (2 * i)) 40 fuel
                  (attempt_spent k.g k.rules deep k.rule ((node k).t ∷ (node k).v ∷ (node k).below) k.b fuel z)

          module _ (costs : fuel.attempts ≡ 0 → ⊥) (m : Match) (arena part pairs : Words) (ea : arena ≡ take frame.top w) (ep : part ≡ take (2 * (n - i)) (drop (base + 2 * i) arena)) (es : pairs ≡ pairs_at given.book plan.pattern)
              (answers : Answers given.types arena part (base + 2 * i) frame.vars frame.live (λ g ws b. match true g (shapes pairs) ws b) m) where
            spends : fuel.attempts ≡ suc (fuel.attempts - 1)
            spends = pred fuel.attempts costs
              where
                pred : (f : ℕ) → (f ≡ 0 → ⊥) → f ≡ suc (f - 1)
                pred zero h = absurd (h refl)
                pred (suc f) h = omega arith

            -- the pattern set against the node, and what follows
            matching : (k : Case) → whole k ≡ then_of (then_of (match true k.g k.rule.pattern ((node k).t ∷ (node k).v ∷ (node k).below) k.b (spent fuel)) (λ m. whether m (M.parts true k.g k.rules (calls true k.g k.rules deep) k.rule.parts) (return none)))
                (next k (node k).below (2 * i))
            matching k = tries k ∙ ap (λ x. then_of x (next k (node k).below (2 * i))) (attempt_first k.g k.rules deep k.rule ((node k).t ∷ (node k).v ∷ (node k).below) k.b fuel (spent fuel) spends)

            stage : (k : Case) → Stage given.types k.g arena part (base + 2 * i) frame.vars frame.live (go.run k).rest (go.run k).scope.due k.b
            stage k =
                let a = go.run k in
                let e : part ≡ here i = ep ∙ ap (λ x. take (2 * (n - i)) (drop (base + 2 * i) x)) (ea ∙ a.kept) in
                let l : length part ≡ 2 * (n - i) = ap length e ∙ here_length k i a.within in
                record {
                  tables = k.setting.types_of.heads_of;
                  place = ep ∙ ap (λ x. take x (drop (base + 2 * i) arena)) (sym l);
                  inside = omega (arith, l, inside, ends k, ap length ea, length-take frame.top w, go.long, room.low, room.few, room.long);
                  marks = e ∙ a.scope.marks;
                  rest = a.scope.trees;
                  stands = rw (ea, a.kept) k.held.stands;
                  counted = k.held.counted;
                }

            -- the pattern is the rule's
            matched : (k : Case) → Means k.g arena k.b.besides m.verdict m.vars m.live (spent fuel) (match true k.g k.rule.pattern ((node k).t ∷ (node k).v ∷ (node k).below) k.b (spent fuel))
            matched k =
                let p : k.rule.pattern ≡ shapes pairs = k.planned.pattern ∙ ap shapes (sym es) in
                let q : match true k.g (shapes pairs) (go.run k).rest k.b (spent fuel) ≡ match true k.g k.rule.pattern ((node k).t ∷ (node k).v ∷ (node k).below) k.b (spent fuel) =
                ap₂ (λ x y. match true k.g x y k.b (spent fuel)) (sym p) (node k).is in
                rw q at (answers.meant k.g (go.run k).rest (go.run k).scope.due k.b (spent fuel) (stage k)
                (λ e. k.sure (matching k ∙ ap (λ x. then_of (then_of x (λ m. whether m (M.parts true k.g k.rules (calls true k.g k.rules deep) k.rule.parts) (return none))) (next k (node k).below (2 * i))) (sym q ∙ e) ∙ stuck_twice _ _)))

            pub searching_differs : m.verdict ≡ Differs → Searching w (spent fuel) (i + 1)
            searching_differs v = record {
              less = omega (arith, go.less);
              long = go.long;
              run = λ k.
                  let q : match true k.g k.rule.pattern ((node k).t ∷ (node k).v ∷ (node k).below) k.b (spent fuel) ≡ ok none (spent fuel) = rw v at (matched k) in
                  at_next k w w fuel (spent fuel) i inside (go.run k) (go.run k).kept
                  (matching k ∙ ap (λ x. then_of (then_of x (λ m. whether m (M.parts true k.g k.rules (calls true k.g k.rules deep) k.rule.parts) (return none))) (next k (node k).below (2 * i))) q
                  ∙ none_twice (spent fuel) _ (next k (node k).below (2 * i)) ∙ after_none k.g k.rules deep k.rule k.b (node k).below (2 * i) (spent fuel));
            }

            pub searching_stops : {no : ℕ} → m.verdict ≡ Stops no → (fr : Open) → Grown frame fr → Seeks given w₀ w plan base n frame deep left start (record { found = Err no; frame = fr; left = spent fuel; next = 0 })
            searching_stops {no} v fr grown = sought (Err no) fr (spent fuel) 0 w go.long grown (omega (arith, go.less)) (λ k. ((go.run k).kept, stops k))
              where
                stops : (k : Case) → whole k ≡ stop no (spent fuel)
                stops k =
                    let q : match true k.g k.rule.pattern ((node k).t ∷ (node k).v ∷ (node k).below) k.b (spent fuel) ≡ stop no (spent fuel) = rw v at (matched k) in
                    matching k ∙ ap (λ x. then_of (then_of x (λ m. whether m (M.parts true k.g k.rules (calls true k.g k.rules deep) k.rule.parts) (return none))) (next k (node k).below (2 * i))) q
                    ∙ stop_twice no (spent fuel) _ _

            -- the parts that are left, at a node that the pattern matches
            record AtPart (k : Case) (w' : Words) (now : State) (fr : Open) (at count : ℕ) : Type 0 where
              kept : take frame.top w' ≡ take frame.top w₀
              env : Env
              held : Held k.g w' fr (bindings env k.b.besides)
              ps : List Rules.Part
              read : many count (Layout.part given.types.count given.book) at ≡ value ps k.planned.end
              is : whole k ≡ then_of (M.parts true k.g k.rules (calls true k.g k.rules deep) ps (bindings env k.b.besides) now) (next k (node k).below (2 * i))

            pub record Trying (w' : Words) (now : State) (fr : Open) (at count : ℕ) : Type 0 where
              pub grown : Grown frame fr
              pub less : now.attempts < left.attempts
              pub long : length w' ≡ length w₀
              try : (k : Case) → AtPart k w' now fr at count

            pub trying_grown : Grown frame (record { vars = m.vars; live = m.live; top = frame.top })
            trying_grown = grown_matched w₀ frame room m.vars m.live answers.sound answers.kept answers.fits answers.grows

            pub trying_start : m.verdict ≡ Matches → plan.count ≤ 8 → Trying w (spent fuel) (record { vars = m.vars; live = m.live; top = frame.top }) plan.first plan.count
            trying_start v eight = record {
              grown = trying_grown;
              less = omega (arith, go.less, spends);
              long = go.long;
              try = λ k.
                  let q : Means k.g (take frame.top w) k.b.besides Matches m.vars m.live (spent fuel) (match true k.g k.rule.pattern ((node k).t ∷ (node k).v ∷ (node k).below) k.b (spent fuel)) = rw (v, ea) at (matched k) in
                  record {
                    kept = (go.run k).kept;
                    env = q.0;
                    held = record { stands = q.1; counted = q.2 };
                    ps = k.rule.parts;
                    read = k.planned.parts;
                    is = matching k ∙ ap (λ x. then_of (then_of x (λ m. whether m (M.parts true k.g k.rules (calls true k.g k.rules deep) k.rule.parts) (return none))) (next k (node k).below (2 * i))) q.3
                        ∙ some_twice (bindings q.0 k.b.besides) (spent fuel) _ (next k (node k).below (2 * i));
                  };
            }

            pub trying_run : (v : m.verdict ≡ Matches) (eight : plan.count ≤ 8) (w₁ : Words) (now : State) (fr : Open) (at count : ℕ)
                → Parting given deep w (spent fuel) (record { vars = m.vars; live = m.live; top = frame.top }) plan.first plan.count w₁ now fr at count → Trying w₁ now fr at count
            trying_run v eight w₁ now fr at count pr =
                let st = trying_start v eight in
                record {
                  grown = grown_more st.grown pr.grown;
                  less = omega (arith, st.less, pr.less);
                  long = pr.long ∙ go.long;
                  try = λ k.
                      let a = st.try k in
                      let x = pr.gone k.g k.rules a.env k.b.besides a.ps k.planned.end k.setting a.held a.read (sure_first _ _ (sure_as a.is k.sure)) in
                      record { kept = x.kept ∙ a.kept; env = x.env; held = x.held; ps = x.ps; read = x.read; is = a.is ∙ ap (λ y. then_of y (next k (node k).below (2 * i))) x.is };
                }

            module _ (w₁ : Words) (now : State) (fr : Open) (at count : ℕ) (tr : Trying w₁ now fr at count) where
              pub trying_done : count ≡ 0 → Seeks given w₀ w₁ plan base n frame deep left start (record { found = Ok (Some i); frame = fr; left = now; next = at })
              trying_done z = sought (Ok (Some i)) fr now at w₁ tr.long tr.grown (inside, tr.less) (λ k. ((tr.try k).kept, done k))
                where
                  done : (k : Case) → SoughtAs k.g w₁ k.b.besides given.book k.rule (Ok (Some i)) fr now at (whole k)
                  done k =
                      let a = tr.try k in
                      let e : value [] at ≡ value a.ps k.planned.end = sym (many_none (Layout.part given.types.count given.book) count at (omega arith)) ∙ a.read in
                      let all : a.ps ≡ [] = cc in
                      let ends_here : k.planned.end ≡ at = cc in (
                        a.env,
                        a.held,
                        a.is ∙ ap (λ x. then_of (M.parts true k.g k.rules (calls true k.g k.rules deep) x (bindings a.env k.b.besides) now) (next k (node k).below (2 * i))) all
                            ∙ then_ok _ (next k (node k).below (2 * i)) (some (bindings a.env k.b.besides)) now (parts_end k.g k.rules deep (bindings a.env k.b.besides) now)
                            ∙ after_some k.g k.rules deep k.rule k.b (node k).below (2 * i) now (bindings a.env k.b.besides),
                        λ ps replaces. k.planned.replacement ps replaces ∙ ap (λ x. pieces (pairs_at given.book x)) ends_here,
                      )

              module _ (more : 0 < count) (w₂ : Words) (r : Taking) (steps : Steps given w₁ w₂ at fr deep now r) where
                part_there : (k : Case) → There given.types.count given.book at count k.planned.end (tr.try k).ps
                part_there k = there given.types.count given.book at count k.planned.end (tr.try k).ps more (tr.try k).read

                -- the run is that part's step, and what follows it
                stepping : (k : Case) → whole k ≡ then_of (then_of (part_read deep given.book (part_at given.types.count given.book at) k.g k.rules (bindings (tr.try k).env k.b.besides) now)
                    (λ m. whether m (M.parts true k.g k.rules (calls true k.g k.rules deep) (part_there k).more) (return none))) (next k (node k).below (2 * i))
                stepping k =
                    let a = tr.try k in
                    a.is ∙ ap (λ y. then_of y (next k (node k).below (2 * i))) (step_first given.types.count given.book at count k.planned.end a.ps (part_there k) k.g k.rules deep (bindings a.env k.b.besides) now)

                stepped : (k : Case) → (take fr.top w₂ ≡ take fr.top w₁) × TakenAs k.g w₂ k.b.besides r.verdict r.frame r.left (part_read deep given.book (part_at given.types.count given.book at) k.g k.rules (bindings (tr.try k).env k.b.besides) now)
                stepped k = steps.takes.meant k.g k.rules (bindings (tr.try k).env k.b.besides) k.setting (tr.try k).held
                    (λ e. k.sure (stepping k ∙ ap (λ y. then_of (then_of y (λ m. whether m (M.parts true k.g k.rules (calls true k.g k.rules deep) (part_there k).more) (return none))) (next k (node k).below (2 * i))) e ∙ stuck_twice _ _))

                still : (k : Case) → take frame.top w₂ ≡ take frame.top w₀
                still k = take_less frame.top fr.top w₁ w₂ tr.grown.higher (stepped k).0 ∙ (tr.try k).kept

                same_long : length w₂ ≡ length w₀
                same_long = steps.takes.long ∙ tr.long

                pub trying_differs : r.verdict ≡ Differs → Searching w₂ r.left (i + 1)
                trying_differs v = record {
                  less = omega (arith, tr.less, steps.takes.less);
                  long = same_long;
                  run = λ k.
                      let y : part_read deep given.book (part_at given.types.count given.book at) k.g k.rules (bindings (tr.try k).env k.b.besides) now ≡ ok none r.left = rw v at (stepped k).1 in
                      at_next k w w₂ fuel r.left i inside (go.run k) (still k)
                      (stepping k ∙ ap (λ y. then_of (then_of y (λ m. whether m (M.parts true k.g k.rules (calls true k.g k.rules deep) (part_there k).more) (return none))) (next k (node k).below (2 * i))) y
                      ∙ none_twice r.left _ (next k (node k).below (2 * i)) ∙ after_none k.g k.rules deep k.rule k.b (node k).below (2 * i) r.left);
                }

                pub trying_stops : {no : ℕ} → r.verdict ≡ Stops no → (fr : Open) → Grown frame fr → Seeks given w₀ w₂ plan base n frame deep left start (record { found = Err no; frame = fr; left = r.left; next = 0 })
                trying_stops {no} v fr grown = sought (Err no) fr r.left 0 w₂ same_long grown (omega (arith, tr.less, steps.takes.less)) (λ k. (still k, stops k))
                  where
                    stops : (k : Case) → whole k ≡ stop no r.left
                    stops k =
                        let y : part_read deep given.book (part_at given.types.count given.book at) k.g k.rules (bindings (tr.try k).env k.b.besides) now ≡ stop no r.left = rw v at (stepped k).1 in
                        stepping k ∙ ap (λ y. then_of (then_of y (λ m. whether m (M.parts true k.g k.rules (calls true k.g k.rules deep) (part_there k).more) (return none))) (next k (node k).below (2 * i))) y
                        ∙ stop_twice no r.left _ _

    -- THE NODES PASSED OVER

    module _ (fits : 0 < n → base + 2 * n ≤ frame.top) (pairs : Words) (es : pairs ≡ pairs_at given.book plan.pattern) (w : Words) (fuel : State) (i : ℕ) (go : Searching w fuel i) where
      -- the stretch from a node on, as a part of what is open
      stretch : (j : ℕ) → j < n → span w (base + 2 * j) (base + 2 * n) ≡ take (2 * (n - j)) (drop (base + 2 * j) (take frame.top w))
      stretch j h =
          let f : base + 2 * n ≤ frame.top = fits (omega arith) in
          let a : base + 2 * n - (base + 2 * j) ≡ 2 * (n - j) = omega arith in
          ap (λ x. take x (drop (base + 2 * j) w)) a ∙ sym (ap (take (2 * (n - j))) (drop_take frame.top (base + 2 * j) w) ∙ take-take (2 * (n - j)) (frame.top - (base + 2 * j)) (drop (base + 2 * j) w) (omega arith))

      passed_other : (k : ℕ) (now : State) → Searching w now (i + k) → i + k < tried_of plan.strategy n → (type_in (get_or w (base + 2 * (i + k)) 0) ≡ plan.target → ⊥) → Searching w now (i + suc k)
      passed_other k now at_k l other = let z : i + suc k ≡ i + k + 1 = omega arith in rw z (searching_other w now (i + k) at_k l other)

      passed_clash : (k : ℕ) (now : State) → Searching w (unspent now) (i + k) → i + k < tried_of plan.strategy n → type_in (get_or w (base + 2 * (i + k)) 0) ≡ plan.target
          → Clashes pairs (span w (base + 2 * (i + k)) (base + 2 * n)) frame.live → Searching w now (i + suc k)
      passed_clash k now at_k l this clashes =
          let z : i + suc k ≡ i + k + 1 = omega arith in
          let y : suc now.attempts - 1 ≡ now.attempts = omega arith in
          let c = clashes.clash given.types (take frame.top w) (base + 2 * (i + k)) frame.vars room.sound in
          let s : Searching w (spent (unspent now)) (i + k + 1) =
          searching_differs w (unspent now) (i + k) at_k l this (λ e. omega arith) c.0 (take frame.top w) (span w (base + 2 * (i + k)) (base + 2 * n)) pairs refl (stretch (i + k) (omega (arith, tried_few plan.strategy n))) es (c.2 true) c.1 in
          rw (z, ← y) s

      searching_passed : (k : ℕ) (now : State) → (0 < k → i + k ≤ tried_of plan.strategy n) → Passed (ClashesAt pairs w (base + 2 * n) frame.live) w plan.target base i fuel k now → Searching w now (i + k)
      searching_passed zero now h e = let z : i + 0 ≡ i = omega arith in rw (z, e) go
      searching_passed (suc k) now h (inl x) = passed_other k now (searching_passed k now (λ _. omega (arith, h (omega arith))) x.1) (omega (arith, h (omega arith))) x.0
      searching_passed (suc k) now h (inr x) = passed_clash k now (searching_passed k (unspent now) (λ _. omega (arith, h (omega arith))) x.2) (omega (arith, h (omega arith))) x.0 x.1

      pub searching_next : (last end : ℕ) → last ≡ tried_of plan.strategy n → end ≡ base + 2 * n → (r : Candidate) → NextCandidate pairs w plan.target base end i last frame.live fuel r → Searching w r.left r.node
      searching_next last end el ee r x = rw x.node_is (searching_passed x.passed r.left (λ h. omega (arith, el, x.inside h)) (passed_as x.passed r.left ee x.nodes))
        where
          passed_as : {a b : ℕ} (k : ℕ) (now : State) → a ≡ b → Passed (ClashesAt pairs w a frame.live) w plan.target base i fuel k now → Passed (ClashesAt pairs w b frame.live) w plan.target base i fuel k now
          passed_as k now q y = rw q at y

-- THE VARIABLES

-- a search does not depend on what lies past the variables that are bound
pub seeks_still : {given : Given} {w w' : Words} {plan : Plan} {base n live top deep : ℕ} {left : State} {start : ℕ} {r : Seeking} (u v : Vars) → v.n ≡ u.n → Kept u v
    → Seeks given w w' plan base n (record { vars = v; live = live; top = top }) deep left start r → Seeks given w w' plan base n (record { vars = u; live = live; top = top }) deep left start r
seeks_still u v e k x = record {
  grown = record { sound = x.grown.sound; kept = kept_more k x.grown.kept; few = x.grown.few; low = x.grown.low; more = x.grown.more; higher = x.grown.higher };
  fits = x.fits;
  long = x.long;
  meant = λ g rules rule b scope setting planned held tree begins sure. x.meant g rules rule b scope setting planned (held_still u v e k held) tree begins sure;
}

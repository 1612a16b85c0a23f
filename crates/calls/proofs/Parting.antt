-- What a part's step does: a variable is taken apart or searched here; the other kinds are the cycle's own. Assumes nothing.
use Rattle.calls.specs.Places.{Searched}
use Prim.Native.Nat.{ℕ, zero, suc, ◌+◌, ◌*◌, ◌≤◌}
use mathlib.Core.Path.{◌≡◌, refl, sym, ap, ◌∙◌}
use mathlib.Core.List.{[], ◌∷◌}
use mathlib.Core.Bool.{true}
use mathlib.Core.Option.{Option, none, some}
use native.Mathlib.Omega.{arith}
use lib.ListN.{length, get_or, take, drop, get_elem?, length-take, length-drop}
use Rattle.words.specs.Reader.{Words, Read, value, refused}
use Rattle.grammar.specs.Grammar.{Grammar}
use Rattle.tables.specs.Tables.{Heads}
use Rattle.tree.proofs.Rest.{tree_rest}
use Rattle.rules.specs.Rules as Rules
use Rattle.rules.specs.Rules.{shapes, pieces, condition_of}
use Rattle.rules.specs.Layout.{PartAt, deconstruct_at, construct_at, condition_at, part_at, part_of, stretch}
use Rattle.rules.specs.Views.{pairs_at, part_as}
use Rattle.rules.specs.declared.Deconstruct.{Deconstruct}
use Rattle.rules.specs.declared.Construct.{Construct}
use Rattle.rules.specs.declared.Condition.{Condition}
use Rattle.rules.specs.declared.Part.{Part}
use Rattle.rules.specs.declared.FoundPart.{FoundPart}
use Rattle.rules.proofs.Laid.{Told, part_tells}
use Rattle.meaning.specs.declared.State.{State}
use Rattle.std.specs.Prelude.{Some, None}
use Rattle.meaning.specs.Computation as Computation
use Rattle.meaning.specs.Computation.{Comp}
use Rattle.meaning.specs.Meaning as M
use Rattle.meaning.specs.Meaning.{Bindings, variable, match, match_first}
use Rattle.marks.specs.Marked.{marked, Stands}
use Rattle.marks.proofs.Marks.{marked_length}
use Rattle.rewrite.specs.Arena.{NodesAt}
use Rattle.rewrite.specs.Vars.{Vars, start_at}
use Rattle.rewrite.specs.Matching.{Match, Stage, Means, Answers}
use Rattle.rewrite.specs.declared.Verdict.{Verdict}
use Rattle.rewrite.specs.declared.Verdict.TheVariants.{Matches, Differs, Stops}
use Rattle.calls.specs.Engine.{Open, Taking, Room, Held, Given, Setting, Sure, TakenAs, Takes, part_on, part_read, deconstruct_in, Deconstructs, Constructs, Conditions, Steps}
use Rattle.rewrite.proofs.Standing.{tree_length, some_nodes}
use Rattle.calls.proofs.Frames.{grown_same, grown_matched}
use Rattle.rewrite.proofs.Leaves.{variable_stands}
use Rattle.calls.proofs.Going.{sure_as, variable_sure}

-- a verdict of the matcher, on what stands below the top
pub means_taken : (g : Grammar) (w : Words) (top besides : ℕ) (v : Verdict) (vars : Vars) (live : ℕ) (left : State) (m : Computation.Result (Option Bindings)) → Means g (take top w) besides v vars live left m
    → TakenAs g w besides v (record { vars = vars; live = live; top = top }) left m
means_taken g w top besides Matches vars live left m x = (x.0, record { stands = x.1; counted = x.2 }, x.3)
means_taken g w top besides Differs vars live left m x = x
means_taken g w top besides (Stops n) vars live left m x = x

-- A VARIABLE IS TAKEN APART

-- a tree that stands there ends by the top
pub ends_by : {w : Words} {start top n : ℕ} → NodesAt w start top n → (n ≡ 0 → ⊥) → start + 2 * n ≤ top
ends_by {n = zero} x h = absurd (h refl)
ends_by {n = suc n} x h = x.inside (omega arith)

-- a part of what is below the top
pub part_within : (w : Words) (top start k : ℕ) → start ≤ top → start + length (take k (drop start (take top w))) ≤ top
part_within w top start k h = omega (arith, length-take k (drop start (take top w)), length-drop start (take top w), length-take top w)

-- the pattern set against the tree, or against each node of it
abbrev pub against : Searched → Words → Grammar → Words → Bindings → Comp (Option Bindings)
against (Some s) ps g ws b = match_first true g s (shapes ps) ws b
against None ps g ws b = match true g (shapes ps) ws b

-- the variable is bound, and its tree is what the pattern is set against
apart : (deep : ℕ) (book : Words) (searched : Searched) (x p : ℕ) (g : Grammar) (rules : Rules.Rules) (b : Bindings) (left : State) → Sure (part_on deep (deconstruct_in book searched x p) g rules b left)
    → (t : Words) × (get_elem? b.env (get_or book x 0) ≡ some t) × (part_on deep (deconstruct_in book searched x p) g rules b left ≡ against searched (pairs_at book p) g t b left)
unfolding M.part
apart deep book (Some s) x p g rules b left sure = variable_sure b.env (get_or book x 0) left (λ t. match_first true g s (shapes (pairs_at book p)) t b) sure
apart deep book None x p g rules b left sure = variable_sure b.env (get_or book x 0) left (λ t. match true g (shapes (pairs_at book p)) t b) sure

module _ (given : Given) (w : Words) (d : Deconstruct) (next : ℕ) (frame : Open) (left : State) (room : Room w frame) (start n : ℕ) (es : start ≡ start_at frame.vars (get_or given.book d.variable 0))
    (nodes : NodesAt w start frame.top n) where
  -- the variable's tree, where it stands
  there : (g : Grammar) (b : Bindings) → Held g w frame b → (t : Words) → get_elem? b.env (get_or given.book d.variable 0) ≡ some t → Stands g (take frame.top w) start t
  there g b held t e = rw es (variable_stands g (take frame.top w) frame.vars b.env (get_or given.book d.variable 0) t room.sound held.stands e)

  pub deconstruct_none : n ≡ 0 → Deconstructs given w d next frame left (record { verdict = Differs; frame = frame; left = left; next = next })
  deconstruct_none zero_nodes = record {
    next_is = refl;
    takes = λ deep. record {
      grown = grown_same room;
      less = omega arith;
      long = refl;
      meant = λ g rules b heads_of held sure.
          let a = apart deep given.book d.searched d.variable d.pattern g rules b left sure in
          let s = there g b held a.0 a.1 in
          let k = nodes.stands g a.0 heads_of.types s in
          let j = some_nodes a.0 s.tree in
          absurd (omega arith);
    };
  }

  module _ (arena part : Words) (ea : arena ≡ take frame.top w) (ep : part ≡ take (2 * n) (drop start arena)) where
    stage : (g : Grammar) (b : Bindings) → Heads g given.types.heads → Held g w frame b → (t : Words) (s : Stands g (take frame.top w) start t) → Stage given.types g arena part start frame.vars frame.live t (s.type ∷ []) b
    stage g b heads_of held t s =
        let k = nodes.stands g t heads_of.types s in
        let l : length t ≡ 2 * n = omega (arith, tree_length s.tree) in
        let m : part ≡ marked g t = ep ∙ ap (λ x. take (2 * n) (drop start x)) ea ∙ ap (λ k. take k (drop start (take frame.top w))) (sym l) ∙ s.words in
        let q : length part ≡ length t = ap length m ∙ marked_length g t in
        record {
          tables = heads_of;
          place = ep ∙ ap (λ k. take k (drop start arena)) (sym l ∙ sym q);
          inside = omega (arith, q, s.inside, ap length ea);
          marks = m;
          rest = tree_rest s.tree;
          stands = rw ea held.stands;
          counted = held.counted;
        }

    pub deconstruct_matched : (ps : Words) → ps ≡ pairs_at given.book d.pattern → (m : Match) → Answers given.types arena part start frame.vars frame.live (against d.searched ps) m
        → Deconstructs given w d next frame left (record { verdict = m.verdict; frame = record { vars = m.vars; live = m.live; top = frame.top }; left = left; next = next })
    deconstruct_matched ps eps m told = let answers = rw eps at told in record {
      next_is = refl;
      takes = λ deep. record {
        grown = grown_matched w frame room m.vars m.live answers.sound answers.kept answers.fits answers.grows;
        less = omega arith;
        long = refl;
        meant = λ g rules b heads_of held sure.
            let a = apart deep given.book d.searched d.variable d.pattern g rules b left sure in
            let s = there g b held a.0 a.1 in
            let x = answers.meant g a.0 (s.type ∷ []) b left (stage g b heads_of held a.0 s) (sure_as a.2 sure) in
            (refl, rw a.2 (means_taken g w frame.top b.besides m.verdict m.vars m.live left (against d.searched (pairs_at given.book d.pattern) g a.0 b left) (rw ea at x)));
      };
    }

-- THE PART THAT STANDS THERE

-- where a part's pairs stand
abbrev pairs_of : PartAt → ℕ
pairs_of (deconstruct_at s x p) = p
pairs_of (construct_at s p) = p
pairs_of (condition_at negated p) = p

told_here : (ws : Words) (q : PartAt) (next : ℕ) → Told ws q next → pairs_at ws (pairs_of q) ≡ stretch ws (pairs_of q)
told_here ws (deconstruct_at none x p) next t = t.here
told_here ws (deconstruct_at (some s) x p) next t = t.1.here
told_here ws (construct_at s p) next t = t.1.here
told_here ws (condition_at negated p) next t = t.here

-- the part by the code's fields
deconstruct_is : (book : Words) (q : PartAt) (d : Deconstruct) → pairs_at book (pairs_of q) ≡ stretch book (pairs_of q) → part_as q ≡ Part.Deconstruct d
    → part_of book q ≡ deconstruct_in book d.searched d.variable d.pattern
unfolding part_of
deconstruct_is book (deconstruct_at none x p) d h e = let z : record { searched = None; variable = x; pattern = p } ≡ d = cc in rw (← z, h)
deconstruct_is book (deconstruct_at (some s) x p) d h e = let z : record { searched = Some s; variable = x; pattern = p } ≡ d = cc in rw (← z, h)
deconstruct_is book (construct_at s p) d h e = let k : ◌≡◌ {A = ℕ} 0 1 = cc in absurd (omega arith)
deconstruct_is book (condition_at negated p) d h e = let k : ◌≡◌ {A = ℕ} 0 1 = cc in absurd (omega arith)

construct_is : (book : Words) (q : PartAt) (c : Construct) → pairs_at book (pairs_of q) ≡ stretch book (pairs_of q) → part_as q ≡ Part.Construct c
    → part_of book q ≡ Rules.construct c.built (pieces (pairs_at book c.replacement))
unfolding part_of
construct_is book (deconstruct_at none x p) c h e = let k : ◌≡◌ {A = ℕ} 0 1 = cc in absurd (omega arith)
construct_is book (deconstruct_at (some s) x p) c h e = let k : ◌≡◌ {A = ℕ} 0 1 = cc in absurd (omega arith)
construct_is book (construct_at s p) c h e = let z : record { built = s; replacement = p } ≡ c = cc in rw (← z, h)
construct_is book (condition_at negated p) c h e = let k : ◌≡◌ {A = ℕ} 0 1 = cc in absurd (omega arith)

condition_is : (book : Words) (q : PartAt) (c : Condition) → pairs_at book (pairs_of q) ≡ stretch book (pairs_of q) → part_as q ≡ Part.Condition c
    → part_of book q ≡ Rules.condition c.negated (get_or (pairs_at book c.chain) 1 0) (condition_of (pairs_at book c.chain))
unfolding part_of
condition_is book (deconstruct_at none x p) c h e = let k : ◌≡◌ {A = ℕ} 0 1 = cc in absurd (omega arith)
condition_is book (deconstruct_at (some s) x p) c h e = let k : ◌≡◌ {A = ℕ} 0 1 = cc in absurd (omega arith)
condition_is book (construct_at s p) c h e = let k : ◌≡◌ {A = ℕ} 0 1 = cc in absurd (omega arith)
condition_is book (condition_at negated p) c h e = let z : record { negated = negated; chain = p } ≡ c = cc in rw (← z, h)

-- THE STEP

-- the same answer is that of an equal computation
takes_as : (w w' : Words) (frame : Open) (left : State) (r : Taking) (A B : Grammar → Rules.Rules → Type 0) (f h : Grammar → Rules.Rules → Bindings → Comp (Option Bindings))
    → ((g : Grammar) (rules : Rules.Rules) → B g rules → A g rules × ((b : Bindings) → h g rules b left ≡ f g rules b left)) → Takes w w' frame left r A f → Takes w w' frame left r B h
takes_as w w' frame left r A B f h same t = record {
  grown = t.grown;
  less = t.less;
  long = t.long;
  meant = λ g rules b with held sure.
      let s = same g rules with in
      let x = t.meant g rules b s.0 held (sure_as (s.1 b) sure) in
      (x.0, rw (s.1 b) x.1);
}

module _ (given : Given) (w : Words) (at : ℕ) (frame : Open) (deep : ℕ) (left : State) where
  -- f is what is read there, if a part is
  module _ (w' : Words) (r : Taking) (f : FoundPart) (is : (types : ℕ) (q : PartAt) (next : ℕ) → part_at types given.book at ≡ value q next → f ≡ record { part = part_as q; next = next }) where
    -- the step of a part p, if that is what stands there
    step_by_lem : (A : Grammar → Rules.Rules → Type 0) (p : Rules.Part) → r.next ≡ f.next → ((g : Grammar) (rules : Rules.Rules) → Setting given g rules → A g rules)
        → ((q : PartAt) → pairs_at given.book (pairs_of q) ≡ stretch given.book (pairs_of q) → part_as q ≡ f.part → part_of given.book q ≡ p) → Takes w w' frame left r A (part_on deep p)
        → Steps given w w' at frame deep left r
    step_by_lem A p n give same t = record { next_is = λ q next z. n ∙ ap (λ x. x.next) (is given.types.count q next z); takes = go (part_at given.types.count given.book at) refl }
      where
        go : (x : Read PartAt) → part_at given.types.count given.book at ≡ x → Takes w w' frame left r (λ g rules. Setting given g rules) (part_read deep given.book (part_at given.types.count given.book at))
        go (value q next) y =
            takes_as w w' frame left r A (λ g rules. Setting given g rules) (part_on deep p) (part_read deep given.book (part_at given.types.count given.book at))
            (λ g rules with.
            let here = told_here given.book q next (part_tells given.types.count given.book with.few at q next y) in
            (give g rules with, λ b. ap (λ x. part_read deep given.book x g rules b left) y ∙ ap (λ x. part_on deep x g rules b left) (same q here (sym (ap (λ x. x.part) (is given.types.count q next y)))))) t
        go (refused m o) y = record { grown = t.grown; less = t.less; long = t.long; meant = λ g rules b with held sure. absurd (sure (ap (λ x. part_read deep given.book x g rules b left) y)) }

    pub step_deconstruct : (d : Deconstruct) → f.part ≡ Part.Deconstruct d → Deconstructs given w d f.next frame left r → w' ≡ w → Steps given w w' at frame deep left r
    step_deconstruct d k x ew =
        step_by_lem (λ g rules. Heads g given.types.heads) (deconstruct_in given.book d.searched d.variable d.pattern) x.next_is
        (λ g rules with. with.types_of.heads_of) (λ q h e. deconstruct_is given.book q d h (e ∙ k)) (rw ew (x.takes deep))

    pub step_construct : (c : Construct) → f.part ≡ Part.Construct c → Constructs given w w' c.replacement f.next frame deep left r
        → Steps given w w' at frame deep left r
    step_construct c k x =
        step_by_lem (λ g rules. Setting given g rules) (Rules.construct c.built (pieces (pairs_at given.book c.replacement))) x.next_is (λ g rules with. with)
        (λ q h e. construct_is given.book q c h (e ∙ k)) (x.takes c.built)

    pub step_condition : (c : Condition) → f.part ≡ Part.Condition c → Conditions given w w' c.negated c.chain f.next frame deep left r
        → Steps given w w' at frame deep left r
    step_condition c k x =
        step_by_lem (λ g rules. Setting given g rules) (Rules.condition c.negated (get_or (pairs_at given.book c.chain) 1 0) (condition_of (pairs_at given.book c.chain))) x.next_is
        (λ g rules with. with) (λ q h e. condition_is given.book q c h (e ∙ k)) x.takes

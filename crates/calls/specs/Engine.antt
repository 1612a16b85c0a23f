-- What each function of the engine promises: its answer is the meaning's, strict, unless that is stuck; what is below what it was given is unchanged; the
-- attempts left never rise. Assumes nothing: these are definitions.
use Rattle.std.specs.Prelude.{ℕ, ◌+◌, ◌*◌, ◌<◌, ◌≤◌, ◌^◌, ◌≡◌, List, Bool, true, false, length, get_or, take, drop, Some, None, Result, Ok, Err}
use Rattle.std.proofs.Math.Option.{Option, none, some}
use Rattle.std.proofs.Math.ListN.{get_elem?}
use Rattle.words.specs.Reader.{Words, Read, value, refused}
use Rattle.grammar.specs.Grammar.{Grammar}
use Rattle.grammar.specs.Limits.{most_types}
use Rattle.tables.specs.Tables.{Heads}
use Rattle.tables.specs.Types.{TypesOf}
use Rattle.tables.specs.declared.types.Types.{Types}
use Rattle.tree.specs.Limits.{most_nodes}
use Rattle.tree.specs.Tree.{size}
use Rattle.rules.specs.Limits.{most_rules}
use Rattle.rules.specs.Rules as Rules
use Rattle.rules.specs.Rules.{Piece, searches, Rule, Application, applied, arguments, applications, condition_of, shapes, pieces, pairs_in}
use Rattle.rules.specs.Layout as Layout
use Rattle.rules.specs.Layout.{PartAt, part_at, part_of}
use Rattle.rules.specs.declared.Deconstruct.{Deconstruct}
use Rattle.meaning.specs.Limits.{most_live}
use Rattle.meaning.specs.declared.State.{State}
use Rattle.meaning.specs.Computation as Computation
use Rattle.meaning.specs.Computation.{ok, stop, stuck, Comp, ◌>>=◌, ◌>>◌, return, never, live_within, nodes_within}
use Rattle.meaning.specs.Meaning as M
use Rattle.meaning.specs.Meaning.{Env, Bindings, live, total, variable, variables, Ending, done, stopped, cannot_go_on, Found, calls}
use Rattle.marks.specs.Marked.{UnderWay}
use Rattle.rewrite.specs.Arena.{Standing, Says}
use Rattle.rewrite.specs.Vars.{Vars, vars_of, EnvAt, starts_of, start_at, bound, Sound, Kept}
use Rattle.rewrite.specs.Matching.{bindings}
use Rattle.rewrite.specs.declared.Verdict.{Verdict}
use Rattle.rewrite.specs.declared.Verdict.TheVariants.{Matches, Differs, Stops}
use Rattle.rules.specs.Views.{pairs_at, Planned, chain_count}
use Rattle.rewrite.specs.declared.arena.Frame.{Frame}
use Rattle.sequences.specs.Listed.{Edits}
use Rattle.rules.specs.declared.Plan.{Plan}
use Rattle.rules.specs.declared.program.Program.{Program}
use Rattle.calls.specs.declared.Taken.{Taken}
use Rattle.calls.specs.Places.{Place, Searched, Halted}
use Rattle.calls.specs.declared.Sought.{Sought}
use Rattle.calls.specs.declared.Tested.{Tested}
use Rattle.calls.specs.declared.Built.{Built}
use Rattle.calls.specs.declared.Chained.{Chained}
use Rattle.calls.specs.declared.Called.{Called}

-- A CONDITION

-- the other verdict, if the condition is negated; a stop stays
abbrev pub turned_by : Bool → Verdict → Verdict
turned_by negated (Stops n) = Stops n
turned_by true Matches = Differs
turned_by false Matches = Matches
turned_by true Differs = Matches
turned_by false Differs = Differs

-- what a search comes to, as a condition's verdict
abbrev pub found_verdict : Place → Verdict
found_verdict (Ok (Some i)) = Matches
found_verdict (Ok None) = Differs
found_verdict (Err n) = Stops n

-- WHAT IS OPEN

-- the variables, how many nodes are live, and where free work memory begins
pub record Open : Type 0 where
  pub vars : Vars
  pub live : ℕ
  pub top : ℕ

-- .. with the places as an array holds them
abbrev pub open_of : Words → Frame → Open
open_of places f = record { vars = vars_of places f.bound; live = f.live; top = f.top }

-- what a part's step found, what is open then, the state that is left, and where the next part stands
pub record Taking : Type 0 where
  pub verdict : Verdict
  pub frame : Open
  pub left : State
  pub next : ℕ

-- .. with the places as the step leaves them
abbrev pub taking_in : Words → Taken → Taking
taking_in places t = record { verdict = t.verdict; frame = open_of places t.frame; left = t.left; next = t.next }

-- where a search ended, what is open then, the state that is left, and where the rule's replacement stands
pub record Seeking : Type 0 where
  pub found : Place
  pub frame : Open
  pub left : State
  pub next : ℕ

-- .. with the places as the search leaves them
abbrev pub seeking_in : Words → Sought → Seeking
seeking_in places s = record { found = s.found; frame = open_of places s.frame; left = s.left; next = s.next }

-- the variables and one more, whose tree stands at `start`, if there is room for it
pub record Named (before : Vars) (start : ℕ) (after : Vars) : Type 0 where
  pub sound : Sound after
  pub kept : Kept before after
  pub is : before.n < 16 → after ≡ bound before start

-- there is room for what may still be live, and for the scratch above it
pub record Room (w : Words) (frame : Open) : Type 0 where
  pub sound : Sound frame.vars
  pub few : frame.live ≤ most_live
  pub low : frame.top ≤ 2 * frame.live
  pub long : 16384 ≤ length w

-- what is open only grows
pub record Grown (before after : Open) : Type 0 where
  pub sound : Sound after.vars
  pub kept : Kept before.vars after.vars
  pub few : after.live ≤ most_live
  pub low : after.top ≤ 2 * after.live
  pub more : before.live ≤ after.live
  pub higher : before.top ≤ after.top

-- the variables' trees stand below the free memory, and so many nodes are live
pub record Held (g : Grammar) (w : Words) (frame : Open) (b : Bindings) : Type 0 where
  pub stands : EnvAt g (take frame.top w) (starts_of frame.vars) b.env
  pub counted : frame.live ≡ b.besides + total b.env

-- what never changes in a run: the grammar's types, the book, and the places of its rules
pub record Given : Type 0 where
  pub types : Types
  pub book : Words
  pub starts : Words

-- the same, as the code has it
abbrev pub given_of : Program → Given
given_of program = record { types = program.types.now; book = program.book.now; starts = program.starts.now }

-- these are the types of the grammar, and the places of the rules
pub record Setting (given : Given) (g : Grammar) (rules : Rules.Rules) : Type 0 where
  pub types_of : TypesOf g given.types
  pub few : given.types.count ≤ most_types
  pub placed : (n : ℕ) (r : Rule) → get_elem? rules n ≡ some r → (n < most_rules) × ((next : ℕ) × (Layout.rule given.types.count given.book (get_or given.starts n 0) ≡ value r next))

-- ANSWERS

-- it goes on or stops by name
abbrev pub Sure : {A : Type 0} → Computation.Result A → Type 0
Sure m = m ≡ stuck → ⊥

-- what a verdict says of a computation that gives a match or none
abbrev pub TakenAs : Grammar → Words → ℕ → Verdict → Open → State → Computation.Result (Option Bindings) → Type 0
TakenAs g w besides Matches frame left m = (env : Env) × Held g w frame (bindings env besides) × (m ≡ ok (some (bindings env besides)) left)
TakenAs g w besides Differs frame left m = m ≡ ok none left
TakenAs g w besides (Stops n) frame left m = m ≡ stop n left

-- .. and of one that tests
abbrev pub TestedAs : Verdict → State → Computation.Result Bool → Type 0
TestedAs Matches left m = m ≡ ok true left
TestedAs Differs left m = m ≡ ok false left
TestedAs (Stops n) left m = m ≡ stop n left

-- .. and where a search ended of one that searches; a rule's replacement stands at `next`
abbrev pub SoughtAs : Grammar → Words → ℕ → Words → Rule → Place → Open → State → ℕ → Computation.Result (Option Found) → Type 0
SoughtAs g w besides book r (Ok (Some i)) frame left next m =
    (env : Env) × Held g w frame (bindings env besides) × (m ≡ ok (some (record { place = 2 * i; bound = bindings env besides })) left)
    × ((ps : List Piece) → r.replacement ≡ some ps → ps ≡ pieces (pairs_at book next))
SoughtAs g w besides book r (Ok None) frame left next m = m ≡ ok none left
SoughtAs g w besides book r (Err n) frame left next m = m ≡ stop n left

-- a search may begin at the node `from` of n: at the root alone, if the rule does not search
pub record Begins (r : Rule) (n from : ℕ) : Type 0 where
  pub inside : from ≤ n
  pub root : searches r.strategy ≡ false → from ≡ 0

-- the search from there on
abbrev pub seek_from : ℕ → Grammar → Rules.Rules → Rule → Words → ℕ → Bindings → Comp (Option Found)
seek_from deep g rules rule scope from b = M.seek true g rules (calls true g rules deep) rule (drop (2 * from) scope) (2 * from) b

-- so many nodes, unless there is a stop
abbrev pub scope_by : Halted → ℕ → Result ℕ ℕ
scope_by None nodes = Ok nodes
scope_by (Some k) nodes = Err k

-- how a call ended, by its stop
abbrev pub EndedAs : Halted → Ending → Type 0
EndedAs None e = e ≡ done
EndedAs (Some k) e = e ≡ stopped k

-- the nodes of its scope, unless it was stopped
abbrev pub scope_of : Called → Result ℕ ℕ
scope_of c = scope_by c.stop c.nodes

-- a match is one of the scope's nodes, and cost an attempt
abbrev pub FoundFits : ℕ → State → Place → State → Type 0
FoundFits n left (Ok (Some i)) now = (i < n) × (now.attempts < left.attempts)
FoundFits n left (Ok None) now = now.attempts ≤ left.attempts
FoundFits n left (Err k) now = now.attempts ≤ left.attempts

-- a marked tree of some type
abbrev pub Tree : Grammar → Words → ℕ → ℕ → Words → Type 0
Tree g w base n ws = (t : ℕ) × Standing g w base n t ws

-- PARTS

module _ (w w' : Words) (frame : Open) (left : State) (r : Taking) where
  -- the answer is the computation's
  pub record Takes (With : Grammar → Rules.Rules → Type 0) (f : Grammar → Rules.Rules → Bindings → Comp (Option Bindings)) : Type 0 where
    pub grown : Grown frame r.frame
    pub less : r.left.attempts ≤ left.attempts
    pub long : length w' ≡ length w
    pub meant : (g : Grammar) (rules : Rules.Rules) (b : Bindings) → With g rules → Held g w frame b → Sure (f g rules b left)
        → (take frame.top w' ≡ take frame.top w) × TakenAs g w' b.besides r.verdict r.frame r.left (f g rules b left)

-- a part at the level of calls `deep`
abbrev pub part_on : ℕ → Rules.Part → Grammar → Rules.Rules → Bindings → Comp (Option Bindings)
part_on deep p g rules b = M.part true g rules (calls true g rules deep) p b

-- .. whatever stands there; stuck, if none does
abbrev pub part_read : ℕ → Words → Read PartAt → Grammar → Rules.Rules → Bindings → Comp (Option Bindings)
part_read deep book (value q next) g rules b = part_on deep (part_of book q) g rules b
part_read deep book (refused n p) g rules b = never

-- the part that takes a variable apart, or searches it
abbrev pub deconstruct_in : Words → Searched → ℕ → ℕ → Rules.Part
deconstruct_in book (Some s) x p = Rules.search s (get_or book x 0) (shapes (pairs_at book p))
deconstruct_in book None x p = Rules.deconstruct (get_or book x 0) (shapes (pairs_at book p))

-- what a part that takes a variable apart comes to
pub record Deconstructs (given : Given) (w : Words) (d : Deconstruct) (next : ℕ) (frame : Open) (left : State) (r : Taking) : Type 0 where
  pub next_is : r.next ≡ next
  pub takes : (deep : ℕ) → Takes w w frame left r (λ g rules. Heads g given.types.heads) (part_on deep (deconstruct_in given.book d.searched d.variable d.pattern))

module _ (given : Given) (w w' : Words) where
  abbrev pub With : Grammar → Rules.Rules → Type 0
  With g rules = Setting given g rules

  pub record Constructs (at next : ℕ) (frame : Open) (deep : ℕ) (left : State) (r : Taking) : Type 0 where
    pub next_is : r.next ≡ next
    pub takes : (u : ℕ) → Takes w w' frame left r With (part_on deep (Rules.construct u (pieces (pairs_at given.book at))))

  pub record Conditions (negated : Bool) (at next : ℕ) (frame : Open) (deep : ℕ) (left : State) (r : Taking) : Type 0 where
    pub next_is : r.next ≡ next
    pub takes : Takes w w' frame left r With (part_on deep (Rules.condition negated (get_or (pairs_at given.book at) 1 0) (condition_of (pairs_at given.book at))))

  pub record Steps (at : ℕ) (frame : Open) (deep : ℕ) (left : State) (r : Taking) : Type 0 where
    pub next_is : (q : PartAt) (next : ℕ) → part_at given.types.count given.book at ≡ value q next → r.next ≡ next
    pub takes : Takes w w' frame left r With (part_read deep given.book (part_at given.types.count given.book at))

  -- SEARCH, from the node `from` on

  pub record Seeks (plan : Plan) (base n : ℕ) (frame : Open) (deep : ℕ) (left : State) (from : ℕ) (r : Seeking) : Type 0 where
    pub grown : Grown frame r.frame
    pub fits : FoundFits n left r.found r.left
    pub long : length w' ≡ length w
    pub meant : (g : Grammar) (rules : Rules.Rules) (rule : Rule) (b : Bindings) (scope : Words) → With g rules → Planned given.types.count given.book rule plan → Held g w frame b → Tree g (take frame.top w) base n scope
        → Begins rule n from → Sure (seek_from deep g rules rule scope from b left)
        → (take frame.top w' ≡ take frame.top w)
        × SoughtAs g w' b.besides given.book rule r.found r.frame r.left r.next (seek_from deep g rules rule scope from b left)

  -- CONDITIONS

  -- a test of the tree of n nodes at `start`, with the variables b
  pub record Tests (start n : ℕ) (frame : Open) (left : State) (r : Tested) (f : Grammar → Rules.Rules → Words → Bindings → Comp Bool) : Type 0 where
    pub less : r.left.attempts ≤ left.attempts
    pub long : length w' ≡ length w
    pub meant : (g : Grammar) (rules : Rules.Rules) (scope : Words) (b : Bindings) → With g rules → Held g w frame b → Tree g (take frame.top w) start n scope → Sure (f g rules scope b left)
        → (take frame.top w' ≡ take frame.top w) × TestedAs r.verdict r.left (f g rules scope b left)

  -- a call in a condition, its arguments the variables
  abbrev pub CallMatches : ℕ → ℕ → ℕ → Open → ℕ → State → Tested → Type 0
  CallMatches at start n frame deep left r =
      (r.left.attempts ≤ left.attempts)
      × ((rule : Rule) (next : ℕ) → Layout.rule given.types.count given.book at ≡ value rule next → Tests start n frame left r (λ g rules scope b. M.call_matches true g rules (calls true g rules deep) rule b.env scope b.besides))

-- one application of a condition
abbrev pub succeeds_at : ℕ → Words → ℕ → Grammar → Rules.Rules → Words → Bindings → Comp Bool
succeeds_at deep pairs at g rules scope b = do
  args ← variables b.env (arguments (get_or pairs (at + 1) 0) (drop (at + 2) pairs))
  M.succeeds true g rules (calls true g rules deep) (applied (get_or pairs at 0)) args scope (live b)

-- an operation on sequences, its arguments the trees of the variables that the pairs name
abbrev pub EditsAt : Types → Words → Words → Words → ℕ → ℕ → ℕ → Vars → ℕ → ℕ → Result ℕ ℕ → Type 0
EditsAt types w w' pairs at base n vars under besides r = Edits types w w' (get_or pairs at 0) base n (start_at vars (get_or pairs (at + 3) 0)) (start_at vars (get_or pairs (at + 5) 0)) under besides r

-- one application of a chain
abbrev pub apply_at : ℕ → Words → ℕ → Grammar → Rules.Rules → Env → Words → ℕ → ℕ → Comp Words
apply_at deep pairs at g rules env scope besides under = do
  args ← variables env (arguments (get_or pairs (at + 1) 0) (drop (at + 2) pairs))
  M.apply true g rules (calls true g rules deep) (applied (get_or pairs at 0)) args scope besides under

-- the applications of a chain, its count at `from`
abbrev pub chain_at : Words → ℕ → List Application
chain_at pairs from = applications (chain_count pairs from) (drop (from + 2) pairs)

-- a chain in a tree under way of n nodes
abbrev pub chain_piece : ℕ → ℕ → List Application → Grammar → Rules.Rules → Env → ℕ → ℕ → Comp Words
chain_piece deep x apps g rules env besides n = do
  t ← variable env x
  live_within (besides + n + size t)
  u ← M.apply_chain true g rules (calls true g rules deep) apps env t (besides + n) n
  nodes_within (n + size u)
  return u

module _ (given : Given) (w w' : Words) where
  abbrev pub Succeeds : Words → ℕ → ℕ → ℕ → Open → ℕ → State → Tested → Type 0
  Succeeds pairs at start n frame deep left r = Tests given w w' start n frame left r (succeeds_at deep pairs at)

  abbrev pub AnySucceeds : Words → ℕ → ℕ → Open → ℕ → State → Tested → Type 0
  AnySucceeds pairs start n frame deep left r =
      Tests given w w' start n frame left r (λ g rules scope b. M.any_succeeds true g rules (calls true g rules deep) (chain_at pairs 2) b.env scope (live b))

  -- REPLACEMENTS

  -- what was built of the tree of n nodes at base
  pub record Builds (base n : ℕ) (vars : Vars) (besides : ℕ) (left : State) (r : Built) (f : Grammar → Rules.Rules → Env → Words → Comp Words) : Type 0 where
    pub few : {nodes : ℕ} → r.nodes ≡ Ok nodes → nodes ≤ most_nodes
    pub fits : {nodes : ℕ} → r.nodes ≡ Ok nodes → besides + nodes ≤ most_live
    pub less : r.left.attempts ≤ left.attempts
    pub long : length w' ≡ length w
    pub meant : (g : Grammar) (rules : Rules.Rules) (env : Env) (scope : Words) → Setting given g rules → EnvAt g (take base w) (starts_of vars) env → Tree g w base n scope
        → Sure (f g rules env scope left)
        → (take base w' ≡ take base w) × Says (Tree g w' base) r.nodes r.left (f g rules env scope left)

  abbrev pub Applies : Words → ℕ → ℕ → ℕ → Vars → ℕ → ℕ → ℕ → State → Built → Type 0
  Applies pairs at base n vars besides under deep left r = Builds base n vars besides left r (λ g rules env scope. apply_at deep pairs at g rules env scope besides under)

  pub record Chains (pairs : Words) (from base n : ℕ) (vars : Vars) (besides under deep : ℕ) (left : State) (r : Chained) : Type 0 where
    pub builds : Builds base n vars besides left r.built (λ g rules env scope. M.apply_chain true g rules (calls true g rules deep) (chain_at pairs from) env scope besides under)
    pub later : from + 2 ≤ r.next
    pub near : r.next < 2 ^ 40
    pub next_is : {nodes : ℕ} → r.built.nodes ≡ Ok nodes → r.next ≡ from + 2 + 2 * pairs_in (chain_at pairs from)

  -- what a piece adds to the tree under way of n nodes on top
  pub record FillsChain (pairs : Words) (i n : ℕ) (frame : Open) (deep : ℕ) (left : State) (r : Chained) : Type 0 where
    pub few : {nodes : ℕ} → r.built.nodes ≡ Ok nodes → nodes ≤ most_nodes
    pub fits : {nodes : ℕ} → r.built.nodes ≡ Ok nodes → frame.live + nodes ≤ most_live
    pub less : r.built.left.attempts ≤ left.attempts
    pub long : length w' ≡ length w
    pub near : r.next < 2 ^ 40
    pub next_is : {nodes : ℕ} → r.built.nodes ≡ Ok nodes → r.next ≡ i + 4 + 2 * pairs_in (chain_at pairs (i + 2))
    pub meant : (g : Grammar) (rules : Rules.Rules) (b : Bindings) → Setting given g rules → Held g w frame b
        → Sure (chain_piece deep (get_or pairs (i + 1) 0) (chain_at pairs (i + 2)) g rules b.env (live b) n left)
        → (take (frame.top + 2 * n) w' ≡ take (frame.top + 2 * n) w)
        × Says (λ nodes u. (nodes ≡ n + size u) × Tree g w' (frame.top + 2 * n) (size u) u) r.built.nodes r.built.left (chain_piece deep (get_or pairs (i + 1) 0) (chain_at pairs (i + 2)) g rules b.env (live b) n left)

  -- what was built on top, with P
  pub record Fresh (frame : Open) (left : State) (r : Built) (P : Grammar → ℕ → Words → Type 0) (f : Grammar → Rules.Rules → Bindings → Comp Words) : Type 0 where
    pub few : {nodes : ℕ} → r.nodes ≡ Ok nodes → nodes ≤ most_nodes
    pub fits : {nodes : ℕ} → r.nodes ≡ Ok nodes → frame.live + nodes ≤ most_live
    pub less : r.left.attempts ≤ left.attempts
    pub long : length w' ≡ length w
    pub meant : (g : Grammar) (rules : Rules.Rules) (b : Bindings) → Setting given g rules → Held g w frame b → Sure (f g rules b left)
        → (take frame.top w' ≡ take frame.top w) × Says (P g) r.nodes r.left (f g rules b left)

  -- .. under way: its nodes are not all marked yet
  abbrev pub Fills : ℕ → Open → ℕ → State → Built → Type 0
  Fills at frame deep left r =
      Fresh frame left r (λ g nodes ws. (length ws ≡ 2 * nodes) × UnderWay g (take (2 * nodes) (drop frame.top w')) ws)
      (λ g rules b. M.fill true g rules (calls true g rules deep) (pieces (pairs_at given.book at)) b.env (live b) 0)

  -- .. a tree of whatever type is asked
  abbrev pub Finishes : ℕ → Open → ℕ → State → Built → Type 0
  Finishes at frame deep left r =
      (u : ℕ) → Fresh frame left r (λ g nodes ws. Standing g w' frame.top nodes u ws) (λ g rules b. M.finish true g rules (calls true g rules deep) u (pieces (pairs_at given.book at)) b)

  -- the scope of n nodes at base after a replacement, in which i is still a node, or as it was
  pub record Replaces (at base n i : ℕ) (frame : Open) (deep : ℕ) (left : State) (r : Built) : Type 0 where
    pub few : {nodes : ℕ} → r.nodes ≡ Ok nodes → nodes ≤ most_nodes
    pub fits : {nodes : ℕ} → r.nodes ≡ Ok nodes → frame.live + nodes ≤ most_live + n
    pub less : r.left.attempts ≤ left.attempts
    pub long : length w' ≡ length w
    pub meant : (g : Grammar) (rules : Rules.Rules) (b : Bindings) (t target : ℕ) (scope : Words) → Setting given g rules → Held g w frame b → Standing g w base n t scope
        → Sure (M.replace true g rules (calls true g rules deep) target (pieces (pairs_at given.book at)) scope (record { place = 2 * i; bound = b }) left)
        → (take base w' ≡ take base w) × ((k : ℕ) → r.nodes ≡ Err k → take (base + 2 * n) w' ≡ take (base + 2 * n) w)
        × Says (λ nodes ws. Standing g w' base nodes t ws × (i < nodes)) r.nodes r.left (M.replace true g rules (calls true g rules deep) target (pieces (pairs_at given.book at)) scope (record { place = 2 * i; bound = b }) left)

  -- what a call leaves of its scope: so many nodes, which stand at base
  abbrev pub Left : Grammar → ℕ → Called → M.Called → Type 0
  Left g base r c = EndedAs r.stop c.ending × (r.left ≡ c.left) × (r.replacements ≡ c.replacements) × Tree g w' base r.nodes c.scope

  -- A CALL, of the rule whose map stands at `at`
  pub record Calls (at base n : ℕ) (vars : Vars) (besides deep : ℕ) (left : State) (r : Called) : Type 0 where
    pub few : r.nodes ≤ most_nodes
    pub fits : (k : ℕ) → k ≤ besides → k + n ≤ most_live → k + r.nodes ≤ most_live
    pub less : r.left.attempts ≤ left.attempts
    pub long : length w' ≡ length w
    pub meant : (g : Grammar) (rules : Rules.Rules) (rule : Rule) (next : ℕ) (args : Env) (scope : Words) (others : ℕ) → Setting given g rules
        → Layout.rule given.types.count given.book at ≡ value rule next → EnvAt g (take base w) (starts_of vars) args → besides ≡ others + total args → Tree g w base n scope
        → ((M.call true g rules (calls true g rules deep) rule args scope others left).ending ≡ cannot_go_on → ⊥)
        → (take base w' ≡ take base w) × Left g base r (M.call true g rules (calls true g rules deep) rule args scope others left)

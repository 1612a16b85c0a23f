-- "The meaning of a run", on decoded rules and trees. A strict run is stuck at the first step that would break typing; a plain one looks only where it could
-- not go on. proofs/ shows that on what nothing refuses neither is ever stuck, and that they are the same. Assumes nothing: these are definitions.
use Rattle.std.specs.Prelude.{ℕ, zero, suc, ◌+◌, ◌-◌, List, [], ◌∷◌, ◌++◌, Bool, true, false, not, length, drop, eqb, ltb}
use Rattle.std.proofs.Math.Option.{Option, none, some}
use Rattle.std.proofs.Math.ListN.{get_elem?}
use Rattle.words.specs.Reader.{Words, pick, and, or}
use Rattle.words.specs.Views.{equal_words}
use Rattle.grammar.specs.Grammar.{Grammar}
use Rattle.tree.specs.Tree.{size, are_trees, is_tree, after, first_tree, type_of, put}
use Rattle.tree.specs.Blanks.{holds_blank}
use Rattle.rules.specs.Limits.{most_variables}
use Rattle.rules.specs.Rules.{Applied, rule, operation, editing, nothing, Shape, node, new, same, Application, Piece, write, copy, chain, Part, deconstruct, search, construct, condition, Strategy, root_only, first_match, exhaustive, one_pass, searches, Rule, Rules}
use Rattle.meaning.specs.Limits.{most_calls}
use Rattle.meaning.specs.declared.State.{State}
use Rattle.meaning.specs.Computation.{initial, Result, ok, stop, stuck, Comp, ◌>>=◌, ◌>>◌, return, never, spend, surely, check, present, choose, whether, provided, nodes_within, nesting_within, live_within}
use Rattle.meaning.specs.Operations.{compute, compare, value_of, values_of, with_value, is_number_token, are_number_tokens}
use Rattle.meaning.specs.Edits.{edit}

-- VARIABLES

-- the trees that a call's variables are bound to, by number: its parameters first
abbrev pub Env : Type 0
Env = List Words

-- the nodes of the trees: "a copied, bound or moved tree adds its whole size"
unfoldable pub total : List Words → ℕ
total [] = 0
total (t ∷ ts) = size t + total ts

-- the variables of an open call. `besides` are the nodes live besides: its scope's, and all of the calls above it
pub record Bindings : Type 0 where
  pub env : Env
  pub besides : ℕ

-- "Held nodes are, over all open calls, the scopes, parameters, variables from the moment they are bound, and trees under way": here but for trees under way
abbrev pub live : Bindings → ℕ
live b = b.besides + total b.env

-- "every variable read is bound"
unfoldable pub variable : Env → ℕ → Comp Words
variable env x = present (get_elem? env x)

-- several variables
unfoldable pub variables : Env → List ℕ → Comp (List Words)
variables env [] = return []
variables env (x ∷ xs) = do
  t ← variable env x
  ts ← variables env xs
  return (t ∷ ts)

-- "matching only the same tree"; T-05: "a tree holding a name or string of value 0 matches nothing, itself included"
unfoldable pub same_tree : Grammar → Words → Words → Bool
same_tree g t u = and (equal_words t u) (not (holds_blank g u))

module _ (strict : Bool) (g : Grammar) where
  -- the next variable, of the type t, becomes the tree; "at most 16 a rule"
  unfoldable pub bind : ℕ → Words → Bindings → Comp Bindings
  bind t ws b = do
    surely (ltb (length b.env) most_variables)
    check strict (is_tree g t ws)
    return (record { env = b.env ++ ws ∷ []; besides = b.besides })

  -- "sets the pattern against one node", the first of the words; "Pairs are worked left to right"
  unfoldable pub match : List Shape → Words → Bindings → Comp (Option Bindings)
  match [] ws b = return (some b)
  match (p ∷ ps) [] b = return none
  match (p ∷ ps) (t ∷ []) b = return none
  -- "a node as in a slip"
  match (node u w ∷ ps) (t ∷ v ∷ ws) b = provided (and (eqb t u) (eqb v w)) (match ps ws b)
  -- "(64, type) in a pattern, a new variable matching any tree of that type"
  match (new u ∷ ps) (t ∷ v ∷ ws) b = provided (eqb t u) (do
    live_within (live b + size (first_tree g (t ∷ v ∷ ws)))
    c ← bind u (first_tree g (t ∷ v ∷ ws)) b
    match ps (after g (t ∷ v ∷ ws) 1) c)
  -- "or (65, variable), in a pattern matching only the same tree"
  match (same x ∷ ps) (t ∷ v ∷ ws) b = do
    tree ← variable b.env x
    provided (same_tree g tree (first_tree g (t ∷ v ∷ ws))) (match ps (after g (t ∷ v ∷ ws) 1) b)

  -- "the first node of that type, parent first and left to right, that matches is taken"; bindings go "in a searching part when a node fails"
  unfoldable pub match_first : ℕ → List Shape → Words → Bindings → Comp (Option Bindings)
  match_first u ps [] b = return none
  match_first u ps (t ∷ []) b = return none
  match_first u ps (t ∷ v ∷ ws) b = do
    m ← provided (eqb t u) (match ps (t ∷ v ∷ ws) b)
    whether m (λ c. return (some c)) (match_first u ps ws b)

-- CALLS

-- "Arguments fit parameters in number and type"
unfoldable pub are_trees_of : Grammar → List ℕ → List Words → Bool
are_trees_of g [] [] = true
are_trees_of g [] (w ∷ ws) = false
are_trees_of g (t ∷ ts) [] = false
are_trees_of g (t ∷ ts) (w ∷ ws) = and (is_tree g t w) (are_trees_of g ts ws)

-- .. "A rule without reach applies only to its target type"
unfoldable pub fits : Grammar → Rule → Env → Words → Bool
fits g r args scope = and (are_trees_of g r.parameters args) (and (is_tree g (type_of scope) scope) (or (searches r.strategy) (eqb (type_of scope) r.target)))

-- what a call binds at first: its arguments; "a copy that becomes a call's scope" counts once
abbrev pub start : Env → Words → ℕ → Bindings
start args scope besides = record { env = args; besides = besides + size scope }

-- "a call takes all its arguments in one step"
unfoldable pub begin : Bool → Grammar → Rule → Env → Words → ℕ → Comp (Unit {0})
begin strict g r args scope besides = do
  surely (eqb (length args) (length r.parameters))
  check strict (fits g r args scope)
  live_within (live (start args scope besides))

-- a match: where its node stands in the scope, and what it bound
pub record Found : Type 0 where
  pub place : ℕ
  pub bound : Bindings

-- how a call ends
pub data Ending : Type 0 where
  done : Ending
  -- by its number
  stopped : ℕ → Ending
  -- a step that is never reached
  cannot_go_on : Ending

-- what a call leaves: its scope "as left by the last replacement", its replacements put in place, the state that is left, and how it ended
pub record Called : Type 0 where
  pub scope : Words
  pub replacements : ℕ
  pub left : State
  pub ending : Ending

-- what a call leaves, by its parts
abbrev pub called : Words → ℕ → Ending → State → Called
called scope k e left = record { scope = scope; replacements = k; left = left; ending = e }

-- the same for the call above, which goes on with the scope
unfoldable pub result_as : Ending → Called → Result Words
result_as done c = ok c.scope c.left
result_as (stopped n) c = stop n c.left
result_as cannot_go_on c = stuck

-- what a call gives the call above
unfoldable pub result_of : Called → Result Words
result_of c = result_as c.ending c

-- after a call is opened: the rest, unless that stopped
unfoldable pub opened : Words → (State → Called) → Result (Unit {0}) → Called
opened scope rest (ok u left) = rest left
opened scope rest (stop n left) = called scope 0 (stopped n) left
opened scope rest stuck = called scope 0 cannot_go_on (initial 0)

-- what a replacement leaves: the scope then, and the place of what follows the tree put in place
pub record Turned : Type 0 where
  pub scope : Words
  pub behind : ℕ

-- after a round on the scope, k replacements before it: "A match is replaced; with reach 2 the search then begins again at the scope's root"; the rest is what
-- follows on a scope, from a place of it on
unfoldable pub after_round : Words → ℕ → Strategy → (Words → ℕ → State → Called) → Result (Option Turned) → Called
after_round scope k s rest (ok none left) = called scope k done left
after_round scope k exhaustive rest (ok (some t) left) = rest t.scope 0 left
-- T-06: "a matched tree is replaced and not entered"
after_round scope k one_pass rest (ok (some t) left) = rest t.scope t.behind left
after_round scope k first_match rest (ok (some t) left) = called t.scope (suc k) done left
after_round scope k root_only rest (ok (some t) left) = called t.scope (suc k) done left
after_round scope k s rest (stop n left) = called scope k (stopped n) left
after_round scope k s rest stuck = called scope k cannot_go_on (initial 0)

-- the calls one level deeper, on a rule, its arguments, its scope and the nodes live besides these two: to rewrite the scope, and to say if there is a match
pub record Calls : Type 0 where
  pub rewrites : Rule → Env → Words → ℕ → Comp Words
  pub matches : Rule → Env → Words → ℕ → Comp Bool

-- ONE LEVEL OF CALLS

module _ (strict : Bool) (g : Grammar) (rules : Rules) (deeper : Calls) where
  -- "every rule or operation applied is there and fits"; "an operation is no call". `besides` are the nodes live besides the scope, `under` those of the tree
  -- under way so far
  unfoldable pub apply : Applied → List Words → Words → ℕ → ℕ → Comp Words
  apply (rule n) args scope besides under = do
    r ← present (get_elem? rules n)
    deeper.rewrites r args scope besides
  apply (operation o) args scope besides under = do
    check strict (and (is_number_token g scope) (are_number_tokens g args))
    n ← compute o (value_of scope) (values_of args)
    return (with_value scope n)
  apply (editing o) args scope besides under = edit strict g o args scope besides under
  apply nothing args scope besides under = never

  -- "its applications act on that copy one after the other"
  unfoldable pub apply_chain : List Application → Env → Words → ℕ → ℕ → Comp Words
  apply_chain [] env scope besides under = return scope
  apply_chain (a ∷ more) env scope besides under = do
    args ← variables env a.arguments
    next ← apply a.applied args scope besides under
    apply_chain more env next besides under

  -- the words of the pieces, "worked left to right", in a tree under way that has n nodes so far
  unfoldable pub fill : List Piece → Env → ℕ → ℕ → Comp Words
  fill [] env besides n = return []
  -- "A written node adds 1"
  fill (write t v ∷ ps) env besides n = do
    nodes_within (n + 1)
    live_within (besides + n + 1)
    ws ← fill ps env besides (n + 1)
    return (t ∷ v ∷ ws)
  -- "a copied .. tree adds its whole size, each in one step"
  fill (copy x ∷ ps) env besides n = do
    t ← variable env x
    nodes_within (n + size t)
    live_within (besides + n + size t)
    ws ← fill ps env besides (n + size t)
    return (t ++ ws)
  -- "A group .. copies its variable's tree first"; "a scope moved to the tree above it" counts once
  fill (chain x apps ∷ ps) env besides n = do
    t ← variable env x
    live_within (besides + n + size t)
    u ← apply_chain apps env t (besides + n) n
    nodes_within (n + size u)
    ws ← fill ps env besides (n + size u)
    return (u ++ ws)

  -- "Nesting is checked when a replacement is finished": a tree of the type u
  unfoldable pub finish : ℕ → List Piece → Bindings → Comp Words
  finish u ps b = do
    ws ← fill ps b.env (live b) 0
    check strict (are_trees g ws (u ∷ []))
    nesting_within g ws
    return ws

  -- does the application succeed? "a rule with a replacement acts as [a condition] in a test"
  unfoldable pub succeeds : Applied → List Words → Words → ℕ → Comp Bool
  succeeds (rule n) args scope besides = do
    r ← present (get_elem? rules n)
    deeper.matches r args scope besides
  succeeds (operation o) args scope besides = do
    check strict (and (is_number_token g scope) (are_number_tokens g args))
    compare o (value_of scope) (values_of args)
  -- "Only replacements apply these operations, not tests"
  succeeds (editing o) args scope besides = never
  succeeds nothing args scope besides = never

  -- "the applications are tried in order on the same tree up to the first success"
  unfoldable pub any_succeeds : List Application → Env → Words → ℕ → Comp Bool
  any_succeeds [] env scope besides = return false
  any_succeeds (a ∷ more) env scope besides = do
    args ← variables env a.arguments
    found ← succeeds a.applied args scope besides
    choose found (return true) (any_succeeds more env scope besides)

  unfoldable pub part : Part → Bindings → Comp (Option Bindings)
  -- "take apart a variable"
  part (deconstruct x ps) b = do
    t ← variable b.env x
    match strict g ps t b
  part (search u x ps) b = do
    t ← variable b.env x
    match_first strict g u ps t b
  -- "build .., giving a new variable"; "a built tree that becomes its variable" counts once
  part (construct u ps) b = do
    t ← finish u ps b
    c ← bind strict g u t b
    return (some c)
  -- "A group, in a test too, copies its variable's tree first"; the test "holds if one succeeds, or with bit 4 also, if none does"
  part (condition negated x apps) b = do
    t ← variable b.env x
    live_within (live b + size t)
    found ← any_succeeds apps b.env t (live b)
    provided (pick negated (not found) found) (return (some b))

  -- "takes the parts in order; the first that fails makes it no match"
  unfoldable pub parts : List Part → Bindings → Comp (Option Bindings)
  parts [] b = return (some b)
  parts (p ∷ ps) b = do
    m ← part p b
    whether m (parts ps) (return none)

  -- "A trial sets the pattern against one node of the target type, then takes the parts in order"; "Bindings go when a trial ends"
  unfoldable pub attempt : Rule → Words → Bindings → Comp (Option Bindings)
  attempt r ws b = do
    spend
    m ← match strict g r.pattern ws b
    whether m (parts r.parts) (return none)

  -- "With reach, nodes are tried parent first, left to right, the scope's root included"; "Without it only the scope's root is tried". The words are what
  -- stands in the scope from `place` on
  unfoldable pub seek : Rule → Words → ℕ → Bindings → Comp (Option Found)
  seek r [] place b = return none
  seek r (t ∷ []) place b = return none
  seek r (t ∷ v ∷ ws) place b = do
    m ← provided (eqb t r.target) (attempt r (t ∷ v ∷ ws) b)
    whether m (λ c. return (some (record { place = place; bound = c }))) (provided (searches r.strategy) (seek r ws (place + 2) b))

  -- the replacement is finished and put in place: nesting is checked "again when it is put in place, where 42 applies too"
  unfoldable pub replace : ℕ → List Piece → Words → Found → Comp Words
  replace target ps scope f = do
    ws ← finish target ps f.bound
    check strict (and (is_tree g target (first_tree g (drop f.place scope))) (is_tree g target ws))
    nodes_within (size (put g scope f.place ws))
    nesting_within g (put g scope f.place ws)
    check strict (is_tree g (type_of scope) (put g scope f.place ws))
    return (put g scope f.place ws)

  -- one round, from the place on: the first match, if there is one, is replaced
  unfoldable pub turn : Rule → List Piece → Env → Words → ℕ → ℕ → Comp (Option Turned)
  turn r ps args scope place besides = do
    m ← seek r (drop place scope) place (start args scope besides)
    whether m (λ f. do
      ws ← replace r.target ps scope f
      return (some (record { scope = ws; behind = f.place + length (first_tree g (drop f.place ws)) }))) (return none)

  -- the rounds. Each but the last spends an attempt, so there are never more than the attempts left and one
  unfoldable pub rounds : ℕ → Rule → List Piece → Env → Words → ℕ → ℕ → ℕ → State → Called
  rounds zero r ps args scope place besides k left = called scope k cannot_go_on left
  rounds (suc most) r ps args scope place besides k left =
      after_round scope k r.strategy (λ next from now. rounds most r ps args next from besides (suc k) now) (turn r ps args scope place besides left)

  -- a call that rewrites its scope: "Replacements apply rules with bit 3"
  unfoldable pub call_with : Option (List Piece) → Rule → Env → Words → ℕ → State → Called
  call_with none r args scope besides left = called scope 0 cannot_go_on left
  call_with (some ps) r args scope besides left =
      opened scope (λ now. rounds (suc now.attempts) r ps args scope 0 besides 0 now) (begin strict g r args scope besides left)

  unfoldable pub call : Rule → Env → Words → ℕ → State → Called
  call r args scope besides left = call_with r.replacement r args scope besides left

  -- a call in a condition: "The first match ends the search of a condition"
  unfoldable pub call_matches : Rule → Env → Words → ℕ → Comp Bool
  call_matches r args scope besides = do
    begin strict g r args scope besides
    m ← seek r scope 0 (start args scope besides)
    whether m (λ f. return true) (return false)

-- THE RUN

-- the calls that may still nest `depth` deep; 41 where none may, in one step with taking the arguments, so before 44
unfoldable pub calls : Bool → Grammar → Rules → ℕ → Calls
calls strict g rules zero = record { rewrites = λ r args scope besides left. stop 41 left; matches = λ r args scope besides left. stop 41 left }
calls strict g rules (suc depth) = record {
  rewrites = λ r args scope besides left. result_of (call strict g rules (calls strict g rules depth) r args scope besides left);
  matches = call_matches strict g rules (calls strict g rules depth);
}

-- the first call, on the whole tree, if there is a rule
unfoldable pub run_from : Bool → Grammar → Rules → Option Rule → Words → State → Called
run_from strict g rules none tree left = called tree 0 cannot_go_on left
run_from strict g rules (some r) tree left = call strict g rules (calls strict g rules (most_calls - 1)) r [] tree 0 left

-- THE FIRST CALL: "Rule 0 is the main rule: it has .. not bit 1 [parameters], and its scope is the slip"
unfoldable pub run : Bool → Grammar → Rules → Words → ℕ → Called
run strict g rules tree budget = run_from strict g rules (get_elem? rules 0) tree (initial budget)

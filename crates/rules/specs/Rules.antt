-- The rules that a book stands for, and how pairs are decoded. Decoding asks nothing: what is written wrongly decodes to what typing refuses.
-- Assumes nothing: these are definitions.
use Rattle.std.specs.Prelude.{ℕ, zero, suc, ◌+◌, ◌-◌, ◌*◌, List, [], ◌∷◌, Bool, true, false, length, get_or, drop, ltb, leb, eqb}
use Rattle.std.proofs.Math.Option.{Option}
use Rattle.words.specs.Reader.{Words, pick, and, between}
use Rattle.rules.specs.Limits.{most_applications, mark_new, mark_variable, mark_chain}

-- a pair of a pattern: a node written out, a new variable of a type, or a variable that is there
pub data Shape : Type 0 where
  node : ℕ → ℕ → Shape
  new : ℕ → Shape
  same : ℕ → Shape

-- "Operations have number tokens as scope and argument"
pub data Operation : Type 0 where
  add subtract quotient remainder round truncate equal greater : Operation

-- the operations on sequences: "1,010 join", "1,011 select from N1 to N2", "1,012 head", "1,013 tail", "1,014 length" (here count), "1,015 extract"
pub data Edit : Type 0 where
  join select head tail count extract : Edit

-- what is applied: a rule by its number, an operation on numbers or on sequences, or none of these
pub data Applied : Type 0 where
  rule : ℕ → Applied
  operation : Operation → Applied
  editing : Edit → Applied
  nothing : Applied

-- what is applied to a scope, with the variables that are its arguments
pub record Application : Type 0 where
  pub applied : Applied
  pub arguments : List ℕ

-- a piece of a replacement: a node written out, a copy of a variable, or a copy to which a chain of applications is applied (the paper's group)
pub data Piece : Type 0 where
  write : ℕ → ℕ → Piece
  copy : ℕ → Piece
  chain : ℕ → List Application → Piece

-- "A part is one of three kinds"; the first stands here in two cases
pub data Part : Type 0 where
  -- "take apart a variable (its number, a pattern)"
  deconstruct : ℕ → List Shape → Part
  -- the same with a type before the number: "the first node of that type .. that matches is taken"
  search : ℕ → ℕ → List Shape → Part
  -- "build (a type, a replacement), giving a new variable"
  construct : ℕ → List Piece → Part
  -- "test (a replacement that is one group)"; true: "with bit 4 also", it holds if none succeeds
  condition : Bool → ℕ → List Application → Part

-- which nodes a rule tries, the paper's reach: "Without it only the scope's root is tried", "1 first match anywhere, 2 until none is left"; T-06: "reach 3, the one-pass
-- rule"
pub data Strategy : Type 0 where
  root_only first_match exhaustive one_pass : Strategy

-- has the rule a reach?
abbrev pub searches : Strategy → Bool
searches root_only = false
searches first_match = true
searches exhaustive = true
searches one_pass = true

-- "A rule without one [a replacement] is a condition"
pub record Rule : Type 0 where
  pub target : ℕ
  pub strategy : Strategy
  pub parameters : List ℕ
  pub pattern : List Shape
  pub parts : List Part
  pub replacement : Option (List Piece)

-- the paper's book; "Rule 0 is the main rule"
abbrev pub Rules : Type 0
Rules = List Rule

-- WHAT IS APPLIED

-- "1,000 add, 1,001 subtract, 1,002 quotient .., 1,003 remainder .., 1,004 round .., 1,005 truncate .., 1,008 equal, 1,009 scope greater"; then those
-- on sequences
unfoldable pub operations : List Applied
operations =
    operation add ∷ operation subtract ∷ operation quotient ∷ operation remainder ∷ operation round ∷ operation truncate ∷ nothing ∷ nothing
    ∷ operation equal ∷ operation greater ∷ editing join ∷ editing select ∷ editing head ∷ editing tail ∷ editing count ∷ editing extract ∷ []

-- an application's first word; the numbers below 1,000 are rule numbers, whether the rule is there or not
unfoldable pub applied : ℕ → Applied
applied n = elim (ltb n 1000) [ true ↦ rule n | false ↦ get_or operations (n - 1000) nothing ]

-- THE PAIRS OF A PATTERN

-- "a node as in a slip, or (64, type) in a pattern, a new variable ..; or (65, variable)"
unfoldable pub shapes : Words → List Shape
shapes [] = []
shapes (t ∷ []) = []
shapes (t ∷ v ∷ ws) = pick (eqb t mark_new) (new v) (pick (eqb t mark_variable) (same v) (node t v)) ∷ shapes ws

-- A CHAIN OF APPLICATIONS

-- "a pair (65, variable) for each argument"
unfoldable pub arguments : ℕ → Words → List ℕ
arguments zero ws = []
arguments (suc k) ws = get_or ws 1 0 ∷ arguments k (drop 2 ws)

-- "K applications, each (rule number, argument count)" and its arguments
unfoldable pub applications : ℕ → Words → List Application
applications zero ws = []
applications (suc k) ws =
    record { applied = applied (get_or ws 0 0); arguments = arguments (get_or ws 1 0) (drop 2 ws) } ∷ applications k (drop (2 + 2 * get_or ws 1 0) ws)

-- how many pairs the applications take
unfoldable pub pairs_in : List Application → ℕ
pairs_in [] = 0
pairs_in (a ∷ more) = 1 + length a.arguments + pairs_in more

-- are there k pairs (65, variable)?
unfoldable pub arguments_written : ℕ → Words → Bool
arguments_written zero ws = true
arguments_written (suc k) [] = false
arguments_written (suc k) (t ∷ []) = false
arguments_written (suc k) (t ∷ v ∷ ws) = and (eqb t mark_variable) (arguments_written k ws)

-- are there k applications, each with as many arguments as it counts?
unfoldable pub applications_written : ℕ → Words → Bool
applications_written zero ws = true
applications_written (suc k) [] = false
applications_written (suc k) (a ∷ []) = false
applications_written (suc k) (a ∷ n ∷ ws) = and (arguments_written n ws) (applications_written k (drop (2 * n) ws))

-- "(K, 0) with K 1 to 4, then K applications"
unfoldable pub chain_written : Words → Bool
chain_written [] = false
chain_written (k ∷ []) = false
chain_written (k ∷ z ∷ ws) = and (between 1 most_applications k) (and (eqb z 0) (applications_written k ws))

-- what stands for a chain that is not written as one: it applies neither a rule nor an operation, so the decoded rule is ill-typed just where its words are
unfoldable pub unreadable : List Application
unreadable = record { applied = nothing; arguments = [] } ∷ []

-- "a group: (66, variable), (K, 0) .., then K applications": the words after its first pair
unfoldable pub chain_of : Words → List Application
chain_of ws = elim (chain_written ws) [ true ↦ applications (get_or ws 0 0) (drop 2 ws) | false ↦ unreadable ]

-- "a replacement that is one group": a chain's pairs, and no others
unfoldable pub condition_of : Words → List Application
condition_of [] = unreadable
condition_of (t ∷ []) = unreadable
condition_of (t ∷ v ∷ ws) = elim (and (eqb t mark_chain) (leb (length ws) (2 + 2 * pairs_in (chain_of ws)))) [ true ↦ chain_of ws | false ↦ unreadable ]

-- THE PAIRS OF A REPLACEMENT

-- the pieces, after `skip` pairs that belong to the chain before
unfoldable pub pieces_after : ℕ → Words → List Piece
pieces_after skip [] = []
pieces_after skip (t ∷ []) = []
pieces_after (suc skip) (t ∷ v ∷ ws) = pieces_after skip ws
pieces_after zero (t ∷ v ∷ ws) =
    elim (eqb t mark_chain) [
      | true ↦ chain v (chain_of ws) ∷ pieces_after (1 + pairs_in (chain_of ws)) ws
      | false ↦ pick (eqb t mark_variable) (copy v) (write t v) ∷ pieces_after 0 ws
    ]

-- "a node as in a slip ..; or (65, variable) .. a copy; or in a replacement a group"
unfoldable pub pieces : Words → List Piece
pieces ws = pieces_after 0 ws

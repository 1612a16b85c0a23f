-- Sequences that stand marked in work memory, by their elements, and what the functions on them promise. Assumes nothing: these are definitions.
use Rattle.std.specs.Prelude.{ℕ, suc, ◌+◌, ◌*◌, ◌≤◌, ◌<◌, min, ◌≡◌, true, List, [], ◌∷◌, ◌++◌, length, take, drop, leb, Result, Ok, Err}
use Rattle.words.specs.Reader.{Words, pick}
use Rattle.grammar.specs.Grammar.{Grammar}
use Rattle.grammar.specs.Limits.{most_types}
use Rattle.grammar.specs.Kinds.{is_sequence, is_number}
use Rattle.tables.specs.Types.{TypesOf}
use Rattle.tables.specs.declared.types.Types.{Types}
use Rattle.tree.specs.Limits.{most_nodes, most_nesting}
use Rattle.tree.specs.Tree.{Trees, size, nesting, type_of}
use Rattle.tree.specs.Sequences.{element_of, spine, sequence_of, EachTree, sizes, taken, elements}
use Rattle.rules.specs.Rules.{Edit, editing, applied}
use Rattle.meaning.specs.Limits.{most_live}
use Rattle.meaning.specs.declared.State.{State}
use Rattle.meaning.specs.Computation.{stuck}
use Rattle.meaning.specs.Operations.{with_value}
use Rattle.meaning.specs.Edits.{selected, joined, edit}
use Rattle.marks.specs.Marked.{marked, Stands, UnderWay}
use Rattle.rewrite.specs.Arena.{Standing, Says}
use Rattle.rewrite.specs.Vars.{EnvAt}
use Rattle.sequences.specs.declared.Walked.{Walked}

-- the sequence of type t with these elements stands marked at base, of n nodes
pub record Listed (g : Grammar) (w : Words) (base n t : ℕ) (es : List Words) : Type 0 where
  pub types : length g ≤ most_types
  pub is : is_sequence g t ≡ true
  pub each : EachTree g (element_of g t) es
  pub nodes : size (sequence_of t es) ≡ n
  pub few : n ≤ most_nodes
  pub words : take (2 * n) (drop base w) ≡ marked g (sequence_of t es)

-- the nodes of a sequence before its last: one for each element, and the elements'
abbrev pub before : List Words → ℕ
before es = sizes es + length es

-- r says which node the rest after `most` elements begins with, and how many elements are passed
pub record Walks (w : Words) (base n most : ℕ) (r : Walked) : Type 0 where
  pub high : r.node ≤ n
  pub few : r.passed ≤ r.node
  pub walked : (g : Grammar) (t : ℕ) (es : List Words) → Listed g w base n t es → (r.node ≡ before (take most es)) × (r.passed ≡ min most (length es))

-- the first k nodes of the sequence at base are under way: its own have lost their marks, and nothing below is changed
pub record Loosened (w w' : Words) (base k : ℕ) : Type 0 where
  pub long : length w' ≡ length w
  pub below : take base w' ≡ take base w
  pub loosened : (g : Grammar) (n t : ℕ) (es fs : List Words) → Listed g w base n t (es ++ fs) → k ≡ before es → UnderWay g (take (2 * k) (drop base w')) (spine t es)

-- WHAT IS MADE

-- the stop of a result that does not fit in its scope's place: 42 over what is under way too, 43, 44
unfoldable pub limits : Grammar → ℕ → ℕ → Words → Result (Unit {0}) ℕ
limits g under besides u = pick (leb (under + size u) most_nodes) (pick (leb (nesting g u) most_nesting) (pick (leb (besides + size u) most_live) (Ok tt) (Err 44)) (Err 43)) (Err 42)

-- the result u of type t fits, and stands at base in its scope's place, of so many nodes; or it is stopped
abbrev pub MadeAs : Grammar → Words → ℕ → ℕ → ℕ → ℕ → Words → Result ℕ ℕ → Type 0
MadeAs g w' base under besides t u (Ok nodes) = (limits g under besides u ≡ Ok tt) × Standing g w' base nodes t u
MadeAs g w' base under besides t u (Err k) = limits g under besides u ≡ Err k

-- .. and what is below is unchanged
pub record Made (g : Grammar) (w w' : Words) (base under besides t : ℕ) (u : Words) (r : Result ℕ ℕ) : Type 0 where
  pub below : take base w' ≡ take base w
  pub made : MadeAs g w' base under besides t u r

-- .. of what is said for every grammar
pub record Makes (w w' : Words) (besides : ℕ) (r : Result ℕ ℕ) (Meant : Type 0) : Type 0 where
  pub long : length w' ≡ length w
  pub few : {nodes : ℕ} → r ≡ Ok nodes → nodes ≤ most_nodes
  pub fits : {nodes : ℕ} → r ≡ Ok nodes → besides + nodes ≤ most_live
  pub meant : Meant

-- the tree of n nodes under way at base is finished
abbrev pub Seals : Types → Words → Words → ℕ → ℕ → ℕ → Result ℕ ℕ → Type 0
Seals types w w' base n besides r = Makes w w' besides r ((g : Grammar) (t under : ℕ) (u : Words) → TypesOf g types → Trees g (t ∷ []) u → size u ≡ n
    → under + n ≤ most_nodes → UnderWay g (take (2 * n) (drop base w)) u → Made g w w' base under besides t u r)

-- .. of a sequence whose first k nodes, all but its last, are under way
abbrev pub Finishes : Types → Words → Words → ℕ → ℕ → ℕ → ℕ → Result ℕ ℕ → Type 0
Finishes types w w' t base k besides r = Makes w w' besides r ((g : Grammar) (under : ℕ) (es : List Words) → TypesOf g types → is_sequence g t ≡ true → EachTree g (element_of g t) es
    → k ≡ before es → under + suc k ≤ most_nodes → UnderWay g (take (2 * k) (drop base w)) (spine t es) → Made g w w' base under besides t (sequence_of t es) r)

-- the tree of m nodes stands below
pub record Below (g : Grammar) (w : Words) (base start m : ℕ) (u : Words) : Type 0 where
  pub nodes : m ≡ size u
  pub stands : Stands g (take base w) start u

-- so many nodes are under way at base, no more than `most`: the sequence's before its last, with the elements fs; or it is stopped by 42, since they are more
abbrev pub CollectedAs : Grammar → Words → ℕ → ℕ → ℕ → List Words → Result ℕ ℕ → Type 0
CollectedAs g w' t base most fs (Ok nodes) = (nodes ≡ before fs) × UnderWay g (take (2 * nodes) (drop base w')) (spine t fs)
CollectedAs g w' t base most fs (Err number) = (most < before fs) × (number ≡ 42)

-- .. behind the elements es, whose k nodes were under way, the trees of type e in the tree of m nodes at `start`
pub record Collects (w w' : Words) (e t base k start m most : ℕ) (r : Result ℕ ℕ) : Type 0 where
  pub long : length w' ≡ length w
  pub below : take base w' ≡ take base w
  pub few : {nodes : ℕ} → r ≡ Ok nodes → nodes ≤ most
  pub collected : (g : Grammar) (es : List Words) (u : Words) → length g ≤ most_types → Below g w base start m u → k ≡ before es → UnderWay g (take (2 * k) (drop base w)) (spine t es)
      → CollectedAs g w' t base most (es ++ taken g e u) r

-- the sequence of m nodes at `start` is joined
abbrev pub JoinsSequence : Types → Words → Words → ℕ → ℕ → ℕ → ℕ → ℕ → ℕ → Result ℕ ℕ → Type 0
JoinsSequence types w w' base n start m under besides r = Makes w w' besides r ((g : Grammar) (t : ℕ) (es fs : List Words) → TypesOf g types → Listed g w base n t es
    → EachTree g (element_of g t) fs → Below g w base start m (sequence_of t fs) → Made g w w' base under besides t (sequence_of t (es ++ fs)) r)

-- extract from the tree at `start`
abbrev pub Extracts : Types → Words → Words → ℕ → ℕ → ℕ → ℕ → ℕ → Result ℕ ℕ → Type 0
Extracts types w w' base n start under besides r = Makes w w' besides r ((g : Grammar) (t : ℕ) (es : List Words) (u : Words) → TypesOf g types → Listed g w base n t es
    → Stands g (take base w) start u → Made g w w' base under besides t (sequence_of t (es ++ taken g (element_of g t) u)) r)

-- join with the tree at `start`
abbrev pub Joins : Types → Words → Words → ℕ → ℕ → ℕ → ℕ → ℕ → Result ℕ ℕ → Type 0
Joins types w w' base n start under besides r = Makes w w' besides r ((g : Grammar) (t : ℕ) (es : List Words) (u : Words) → TypesOf g types → Listed g w base n t es
    → Stands g (take base w) start u → EachTree g (element_of g t) (joined g t u) → Made g w w' base under besides t (sequence_of t (es ++ joined g t u)) r)

-- the first k elements are cut off, and r nodes are left
pub record FrontCut (w w' : Words) (base n k r : ℕ) : Type 0 where
  pub long : length w' ≡ length w
  pub fewer : r ≤ n
  pub below : take base w' ≡ take base w
  pub front_cut : (g : Grammar) (t : ℕ) (es : List Words) → Listed g w base n t es → Listed g w' base r t (drop k es)

-- select from a to b, of what is within the nesting
abbrev pub Selects : Types → Words → Words → ℕ → ℕ → ℕ → ℕ → ℕ → ℕ → Result ℕ ℕ → Type 0
Selects types w w' base n a b under besides r = Makes w w' besides r ((g : Grammar) (t : ℕ) (es : List Words) → TypesOf g types → nesting g (sequence_of t es) ≤ most_nesting → Listed g w base n t es
    → Made g w w' base under besides t (sequence_of t (selected a b es)) r)

-- the length of the sequence at `start`, as the value of the number at base
abbrev pub Counts : Words → Words → ℕ → ℕ → ℕ → ℕ → Result ℕ ℕ → Type 0
Counts w w' base start under besides r = Makes w w' besides r ((g : Grammar) (n t : ℕ) (scope u : Words) → length g ≤ most_types → Standing g w base n t scope → is_number g t ≡ true
    → Stands g (take base w) start u → is_sequence g (type_of u) ≡ true → Made g w w' base under besides t (with_value scope (100 * length (elements g u))) r)

-- THE STEP

-- THE OPERATION IS WHAT THE MEANING SAYS, wherever that is not stuck; what is below the scope is unchanged
abbrev pub Edits : Types → Words → Words → ℕ → ℕ → ℕ → ℕ → ℕ → ℕ → ℕ → Result ℕ ℕ → Type 0
Edits types w w' op base n first second under besides r = Makes w w' besides r ((g : Grammar) (o : Edit) (args : List Words) (scope : Words) (t : ℕ) (left : State) → TypesOf g types → applied op ≡ editing o
    → Standing g w base n t scope → EnvAt g (take base w) (take (length args) (first ∷ second ∷ [])) args → (edit true g o args scope besides under left ≡ stuck → ⊥)
    → (take base w' ≡ take base w) × Says (λ nodes. Standing g w' base nodes t) r left (edit true g o args scope besides under left))

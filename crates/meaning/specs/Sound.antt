-- THE SOUNDNESS OF A RUN, stated: proofs/Sound.antt proves it; that round never stops: proofs/RoundNeverStops.antt proves that; what operations on sequences
-- make: proofs/EditsTyped.antt; and what a variable in a pattern matches: proofs/SameExactly.antt. Assumes nothing: these are definitions.
use Rattle.std.specs.Prelude.{ℕ, ◌≤◌, ◌≡◌, List, [], ◌∷◌, Bool, true, false}
use Rattle.std.proofs.Math.Option.{none, some}
use Rattle.std.proofs.Math.ListN.{get_elem?}
use Rattle.words.specs.Reader.{Words}
use Rattle.grammar.specs.Grammar.{Grammar}
use Rattle.grammar.specs.Kinds.{is_number}
use Rattle.tree.specs.Tree.{Tree, after, first_tree, type_of}
use Rattle.tree.specs.Blanks.{Blank}
use Rattle.rules.specs.Limits.{mark_variable}
use Rattle.rules.specs.Rules.{Edit, round, operation, editing, shapes, Rules}
use Rattle.judgement.specs.WellTyped.{WellTyped}
use Rattle.meaning.specs.declared.State.{State}
use Rattle.meaning.specs.Computation.{ok}
use Rattle.meaning.specs.Operations.{rounded, value_of, with_value}
use Rattle.meaning.specs.Edits.{edit_fits}
use Rattle.meaning.specs.Meaning.{Bindings, match, Ending, done, stopped, cannot_go_on, Called, Calls, apply, run}

-- "the end or a stop 40 to 45", never stuck
abbrev pub WellEnded : Ending → Type 0
WellEnded done = Unit {0}
WellEnded (stopped n) = (40 ≤ n) × (n ≤ 45)
WellEnded cannot_go_on = ⊥

-- A call on a scope of type t with n attempts left, strict and plain: both leave the same. The strict one is never stuck, so each of its tests passed:
--   "every variable read is bound": `variable`
--   a variable becomes a tree of its own type, within the limits, and none is the 17th: `bind`
--   "every rule .. applied is there": `apply`, `succeeds`; in a replacement it has one: `call_with`
--   .. "and fits as under Typing": arguments fit parameters in number and type, the scope is a tree, for a root-only rule one of the target type: `begin`
--   a call that is stopped by 41 is not applied, so nothing is tested of it but that its rule and its arguments are there: `calls`
--   "every .. operation applied is there and fits": `apply`, `succeeds`, `compute`, `compare`; its scope and arguments are number tokens: `is_number_token`;
--   of one on sequences they are as it wants them, and what it makes is a tree of the scope's type: `edit`
--   a tree of the target type is put where one of that type stood, and the scope stays a tree of its type, within the limits: `replace`
--   "and a next step, the end or a stop 40 to 45 follows": `WellEnded`; the bound on the rounds never runs out: `rounds`
pub record Sound (g : Grammar) (t n : ℕ) (strict plain : Called) : Type 0 where
  pub agree : strict ≡ plain
  pub ends : WellEnded strict.ending
  -- what is left is a tree of the type, within the limits
  pub scope : Tree g t strict.scope
  -- attempts are only spent
  pub attempts : strict.left.attempts ≤ n

-- for well-typed rules and a tree of type 0, on any budget
abbrev pub Soundness : Type 0
Soundness = (g : Grammar) (rules : Rules) → WellTyped g rules → (tree : Words) → Tree g 0 tree → (budget : ℕ) → Sound g 0 budget (run true g rules tree budget) (run false g rules tree budget)

-- T-02: "Round can no longer cause 45". Applied to any number token, strict or plain, it gives that token with the rounded value and leaves the state as it was
abbrev pub RoundNeverStops : Type 0
RoundNeverStops = (strict : Bool) (g : Grammar) (rules : Rules) (deeper : Calls) (t : ℕ) → is_number g t ≡ true → (scope : Words) → Tree g t scope → (besides under : ℕ) (left : State)
    → apply strict g rules deeper (operation round) [] scope besides under left ≡ ok (with_value scope (rounded (value_of scope))) left

-- T-04: "Every tree so made is within the typing that slips are held to". What an operation on sequences makes of a scope and arguments that fit, strict or plain, is a tree of the
-- scope's type, within the limits
abbrev pub EditsTyped : Type 0
EditsTyped = (strict : Bool) (g : Grammar) (rules : Rules) (deeper : Calls) (o : Edit) (args : List Words) (scope : Words) → edit_fits g o scope args ≡ true → (besides under : ℕ) (left next : State) (made : Words)
    → apply strict g rules deeper (editing o) args scope besides under left ≡ ok made next → Tree g (type_of scope) made

-- the trees are the same, and none of their nodes is a name or string of value 0
pub record KnownEqual (g : Grammar) (u w : Words) : Type 0 where
  pub same : u ≡ w
  pub filled : Blank g w → ⊥

-- the pair (65, x) of a pattern, the pairs ps after it, set against words of which the first tree is w, where the variable x is bound to u: it matches exactly if
-- the two are equal and hold no blank
pub record MatchesExactly (strict : Bool) (g : Grammar) (x : ℕ) (ps ws u w : Words) (b : Bindings) (left : State) : Type 0 where
  -- where the pattern matches they are
  pub sound : (c : Bindings) (next : State) → match strict g (shapes (mark_variable ∷ x ∷ ps)) ws b left ≡ ok (some c) next → KnownEqual g u w
  -- where they are the pair matches: the pairs after it are set against what follows the tree
  pub complete : KnownEqual g u w → match strict g (shapes (mark_variable ∷ x ∷ ps)) ws b left ≡ match strict g (shapes ps) (after g ws 1) b left
  -- where they are not the pattern does not match, whatever its other pairs are, and nothing is spent
  pub fails : (KnownEqual g u w → ⊥) → match strict g (shapes (mark_variable ∷ x ∷ ps)) ws b left ≡ ok none left

-- T-05: "a tree holding a name or string of value 0 matches nothing, itself included". For every pattern that begins with such a pair, set against any node, strict or plain
abbrev pub SameExactly : Type 0
SameExactly = (strict : Bool) (g : Grammar) (x : ℕ) (ps u : Words) (t v : ℕ) (below : Words) (b : Bindings) (left : State) → get_elem? b.env x ≡ some u
    → MatchesExactly strict g x ps (t ∷ v ∷ below) u (first_tree g (t ∷ v ∷ below)) b left

-- What the code that meets a pair keeps and hands back: what a pair leaves, and what it passes over. Assumes nothing: these are definitions.
use Rattle.std.specs.Prelude.{ℕ, zero, suc, ◌+◌, ◌≤◌, ◌<◌, ◌≡◌, List, [], ◌∷◌, ◌++◌, map, Bool, true, false, length, get_or, drop, ltb, eqb, Option, None, Some, Result, Ok, Err}
use Rattle.words.specs.Reader.{Words, pick, and, Read, value, refused, Reader, ◌>>◌}
use Rattle.grammar.specs.Grammar.{Grammar}
use Rattle.grammar.specs.Kinds.{children, is_sequence}
use Rattle.tables.specs.Tables.{is_token}
use Rattle.tables.specs.Types.{OfTypes}
use Rattle.tables.specs.declared.types.Types.{Types}
use Rattle.tree.specs.Limits.{most_nesting}
use Rattle.tree.specs.Tree.{levels}
use Rattle.tree.specs.Dues.{Next, second_word, leaves, pairs}
use Rattle.tree.specs.Reading.{dues_of}
use Rattle.tree.specs.Views.{level}
use Rattle.rules.specs.Rules.{Rules}
use Rattle.rules.specs.Layout.{bit}
use Rattle.rules.specs.declared.Strategy.{Strategy}
use Rattle.rules.specs.declared.Strategy.TheVariants.{RootOnly, FirstMatch, Exhaustive, OnePass}
use Rattle.judgement.specs.Wanted.{Wanted, exactly}
use Rattle.judgement.specs.Typing as Typing
use Rattle.judgement.specs.Typing.{Due, a_tree, argument, Context, in_pattern, in_replacement, in_condition, may_stand, meets}
use Rattle.dues.specs.declared.Place.{Place}
use Rattle.dues.specs.declared.Place.TheVariants.{Pattern, Replacement, Condition}

-- the place, as the typing has it
abbrev pub place_as : Place → Typing.Place
place_as Pattern = in_pattern
place_as Replacement = in_replacement
place_as Condition = in_condition

-- WHAT IS MADE DUE

-- children of these types, all at one nesting
abbrev pub children_due : ℕ → List ℕ → List Due
children_due nesting ts = map a_tree (level nesting ts)

-- what a node makes due
abbrev pub node_due : Grammar → ℕ → ℕ → ℕ → List Due
node_due g d v nesting = map a_tree (dues_of (levels g d v nesting) (children g d v))

-- k words from the position on; past the end they are 0
unfoldable pub words_at : Words → ℕ → ℕ → Words
words_at ws at zero = []
words_at ws at (suc k) = get_or ws at 0 ∷ words_at ws (at + 1) k

-- arguments of the k types that stand from the position on
abbrev pub parameters_due : Words → ℕ → ℕ → List Due
parameters_due ws at k = map argument (map exactly (words_at ws at k))

-- the type of variable v, or 22 at the second word of the pair that names it
abbrev pub variable_at : Context → ℕ → ℕ → Result ℕ (ℕ × ℕ)
variable_at Γ v at = pick (ltb v (length Γ)) (Ok (get_or Γ v 0)) (Err (22, at + 1))

-- WHAT A PAIR LEAVES

-- the reading passes: these variables are there then, and what it makes due stands on the stack
pub record Left (Γ : Context) (ds ds' : List Due) (q : Read (Next Due Context)) : Type 0 where
  pub dues : List Due
  pub next : ℕ
  pub read : q ≡ value (record { known = Γ; dues = dues }) next
  pub pushed : ds' ≡ dues ++ ds
  pub few : length dues ≤ 8

-- what a pair comes to, where the variables Γ are there and the dues ds on the stack, says what its reading is: a refusal, a new variable, or dues
abbrev pub Says : Result (Option ℕ) (ℕ × ℕ) → Context → List Due → List Due → Read (Next Due Context) → Type 0
Says (Err x) Γ ds ds' q = q ≡ refused x.0 x.1
Says (Ok None) Γ ds ds' q = Left Γ ds ds' q
Says (Ok (Some d)) Γ ds ds' q = (length Γ < 16) × Left (Γ ++ d ∷ []) ds ds' q

-- .. as a record, so that a law can infer what it is of
pub record Meets (m : Result (Option ℕ) (ℕ × ℕ)) (Γ : Context) (ds ds' : List Due) (q : Read (Next Due Context)) : Type 0 where
  pub says : Says m Γ ds ds' q

-- THE TOKENS OF A SEQUENCE

-- is d a sequence of tokens, which may stand here where d is due at the nesting n?
unfoldable pub tokens_due : Grammar → Typing.Place → ℕ → ℕ → Bool
tokens_due g here n d = and (ltb n most_nesting) (and (is_sequence g d) (and (is_token g (get_or (children g d 0) 0 0)) (may_stand here d d)))

-- where this is due on top, the pairs from r on leave what those from `from` on leave
pub record TokensPassed (types : Types) (here : Typing.Place) (due : Due) (ps : Words) (from r : ℕ) : Type 0 where
  pub later : from ≤ r
  pub within : r ≤ length ps
  pub same : OfTypes types (λ g. (rules : Rules) (ds : List Due) (Γ : Context) (start : ℕ)
      → pairs (meets g rules here) 23 (drop from ps) (due ∷ ds) Γ (start + from) ≡ pairs (meets g rules here) 23 (drop r ps) (due ∷ ds) Γ (start + r))

-- WHAT IS APPLIED

-- does the strategy search?
abbrev pub searches_as : Strategy → Bool
searches_as RootOnly = false
searches_as FirstMatch = true
searches_as Exhaustive = true
searches_as OnePass = true

-- is a rule with this map applied here?
abbrev pub applies_map : Typing.Place → ℕ → Bool
applies_map in_pattern m = false
applies_map in_replacement m = bit 3 m
applies_map in_condition m = true

-- an application's second word, where these arguments are wanted
unfoldable pub arguments_counted : List Wanted → Context → ℕ → Reader (Next Due Context)
arguments_counted us Γ v = do
  second_word (eqb v (length us)) 22
  leaves Γ (map argument us)

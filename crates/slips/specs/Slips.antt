-- What the functions on slips promise. Assumes nothing: these are definitions.
use Rattle.std.specs.Prelude.{ℕ, ◌+◌, ◌<◌, ◌≤◌, ◌≡◌, List, [], ◌∷◌, ◌++◌, length, drop, eqb, Result, Err}
use Rattle.words.specs.Reader.{Words, pick, Read, value, refused, Reader, return}
use Rattle.words.specs.Views.{answer}
use Rattle.grammar.specs.Limits.{most_types}
use Rattle.grammar.specs.Grammar.{Grammar}
use Rattle.tables.specs.Types.{TypesOf, OfTypes}
use Rattle.tables.specs.declared.types.Types.{Types}
use Rattle.tree.specs.Limits.{most_tree_words, most_nodes}
use Rattle.tree.specs.Tree.{Trees, size}
use Rattle.tree.specs.Slip.{counted}
use Rattle.marks.specs.Marked.{size_in, marked}

-- each count of the slip is the size that the marked tree says; 34 at the first that is not
unfoldable pub counts_as : Words → Words → Reader (Unit {0})
counts_as [] part = return tt
counts_as (t ∷ []) part = return tt
counts_as (t ∷ v ∷ []) part = return tt
counts_as (t ∷ v ∷ c ∷ ws) [] = return tt
counts_as (t ∷ v ∷ c ∷ ws) (w ∷ []) = return tt
counts_as (t ∷ v ∷ c ∷ ws) (w ∷ u ∷ part) = λ at. pick (eqb c (size_in w)) (counts_as ws part (at + 3)) (refused 34 (at + 2))

-- the answer of a reading of a slip; where it passes, its tree stands at the start of the buffer, marked, and what is behind it is unchanged
pub record ReadBeside (reading : Grammar → Read Words) (types : Types) (b b' : Words) (r : Result ℕ (ℕ × ℕ)) : Type 0 where
  pub answered : OfTypes types (λ g. r ≡ answer (reading g))
  pub tree : (g : Grammar) (ws : Words) (next : ℕ) → TypesOf g types → reading g ≡ value ws next → b' ≡ marked g ws ++ drop (length ws) b

-- the answer of a reading of a slip, and the memory afterwards: a refusal changes nothing, nor does a slip where there is no room for every tree; otherwise the
-- slip's tree stands at its start, marked, and what is behind it is unchanged
pub record SlipRead (reading : Grammar → Read Words) (types : Types) (w w' : Words) (r : Result ℕ (ℕ × ℕ)) : Type 0 where
  pub answered : OfTypes types (λ g. r ≡ answer (reading g))
  pub long : length w' ≡ length w
  pub kept : {x : ℕ × ℕ} → r ≡ Err x → w' ≡ w
  pub short : length w < most_tree_words → w' ≡ w
  pub tree : (g : Grammar) (ws : Words) (next : ℕ) → TypesOf g types → reading g ≡ value ws next → most_tree_words ≤ length w → w' ≡ marked g ws ++ drop (length ws) w

-- the tree of the part is written to the result with its counts; what is behind them is unchanged
pub record SlipWritten (part r r' : Words) : Type 0 where
  pub long : length r' ≡ length r
  pub words : (g : Grammar) (ts : List ℕ) (ws : Words) → length g ≤ most_types → Trees g ts ws → size ws ≤ most_nodes → part ≡ marked g ws → r' ≡ counted g ws ++ drop (length (counted g ws)) r

-- The slip as it comes and goes: "three words: type, value, and the number of nodes in its tree, itself included". It is a tree with its counts; how it is read
-- (30 to 34), what passes, and the single check. Assumes nothing: these are definitions.
use Rattle.std.specs.Prelude.{ℕ, ◌+◌, ◌*◌, ◌/◌, ◌%◌, ◌≡◌, [], ◌∷◌, Bool, true, false, length, eqb}
use Rattle.words.specs.Reader.{Words, pick, and, between, Read, value, refused, Reader, and_then, return, require}
use Rattle.grammar.specs.Grammar.{Grammar, check_grammar}
use Rattle.tree.specs.Limits.{most_slip_words}
use Rattle.tree.specs.Tree.{Tree, size, first_tree}
use Rattle.tree.specs.Reading.{read_tree}

-- the tree without its counts
unfoldable pub uncounted : Words → Words
uncounted [] = []
uncounted (t ∷ []) = []
uncounted (t ∷ v ∷ []) = []
uncounted (t ∷ v ∷ c ∷ ws) = t ∷ v ∷ uncounted ws

-- the tree with its counts: behind each node "the number of nodes in its tree, itself included"
unfoldable pub counted : Grammar → Words → Words
counted g [] = []
counted g (t ∷ []) = []
counted g (t ∷ v ∷ ws) = t ∷ v ∷ size (first_tree g (t ∷ v ∷ ws)) ∷ counted g ws

-- where a word of the tree stands in the slip
unfoldable pub place_in : ℕ → ℕ
place_in p = p / 2 * 3 + p % 2

-- what was read of the tree, at the slip's positions
unfoldable pub in_slip : {A : Type 0} → Read A → Read A
in_slip (value a next) = value a (place_in next)
in_slip (refused n p) = refused n (place_in p)

-- 34: "a count is wrong", at "the first wrong count"
unfoldable pub right_counts : Grammar → Words → Reader (Unit {0})
right_counts g [] = return tt
right_counts g (t ∷ []) = return tt
right_counts g (t ∷ v ∷ []) = return tt
right_counts g (t ∷ v ∷ c ∷ ws) = λ at. pick (eqb c (size (first_tree g (t ∷ v ∷ uncounted ws)))) (right_counts g ws (at + 3)) (refused 34 (at + 2))

-- the tree of a slip. 30: "6,144 words and a multiple of three", at 0; then 31 to 33 as the tree is read; 34 "checked after 33 over the whole slip"
unfoldable pub read_slip : Grammar → Words → Read Words
read_slip g ws =
    and_then (require (and (between 1 most_slip_words (length ws)) (eqb (length ws % 3) 0)) 30 0 0) (λ u next.
    and_then (in_slip (read_tree g (uncounted ws))) (λ u next.
    and_then (right_counts g ws 0) (λ u. return (uncounted ws))))

-- the tree of a slip in "the three-word" edition, or else in "the two-word edition (with 30 as in document 01, and no 34)"
unfoldable pub read_edition : Bool → Grammar → Words → Read Words
read_edition true g ws = read_slip g ws
read_edition false g ws = and_then (read_tree g ws) (λ u. return ws)

-- the words of a tree in the edition
unfoldable pub in_edition : Bool → Grammar → Words → Words
in_edition true g ws = counted g ws
in_edition false g ws = ws

-- the slip passes, and this is its tree
abbrev pub SlipPasses : Bool → Grammar → Words → Words → Type 0
SlipPasses edition g ws tree = (next : ℕ) × (read_edition edition g ws ≡ value tree next)

-- WHAT PASSES IS EXACTLY A TREE of type 0 within the limits, written in its edition. proofs/Slip.antt has the theorem `slip_exactly`
pub record SlipExactly (edition : Bool) (g : Grammar) (ws tree : Words) : Type 0 where
  pub sound : SlipPasses edition g ws tree → Tree g 0 tree × (ws ≡ in_edition edition g tree)
  pub complete : Tree g 0 tree → ws ≡ in_edition edition g tree → read_edition edition g ws ≡ value tree (length ws)

-- THE SINGLE CHECK OF A SLIP: 4, 10 to 12, then 30 to 34
unfoldable pub check_slip : Words → Words → Read Words
check_slip gs ss = and_then (check_grammar gs) (λ g next. read_slip g ss)

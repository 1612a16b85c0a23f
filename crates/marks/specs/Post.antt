-- What the functions on work memory promise. Assumes nothing: these are definitions.
use Rattle.std.specs.Prelude.{ℕ, ◌+◌, ◌-◌, ◌*◌, ◌≤◌, ◌≡◌, Bool, true, List, [], ◌∷◌, ◌++◌, length, get_or, take, drop, set}
use Rattle.words.specs.Reader.{Words}
use Rattle.grammar.specs.Grammar.{Grammar}
use Rattle.grammar.specs.Kinds.{allowed, children}
use Rattle.tables.specs.Tables.{Heads}
use Rattle.tables.specs.Types.{TypesOf}
use Rattle.tables.specs.declared.types.Types.{Types}
use Rattle.tree.specs.Limits.{most_nodes}
use Rattle.tree.specs.Tree.{Trees, size, nesting, node_nesting, first_tree, put}
use Rattle.tree.specs.Blanks.{holds_blank}
use Rattle.words.specs.Views.{equal_words}
use Rattle.grammar.specs.Limits.{most_types}
use Rattle.marks.specs.Marked.{type_in, mark_of, marked, unmarked, Stands, UnderWay}

-- r is the mark of a node (t, v), whose children's marked trees the words below begin with
abbrev pub MarkMade : Types → ℕ → ℕ → Words → ℕ → Type 0
MarkMade types t v below r = (g : Grammar) (ws : Words) (ts : List ℕ) → TypesOf g types → below ≡ marked g ws → Trees g (children g t v ++ ts) ws
    → allowed g t v ≡ true → size (first_tree g (t ∷ v ∷ ws)) ≤ most_nodes → r ≡ mark_of g t v ws

-- the words from base to top
abbrev pub span : Words → ℕ → ℕ → Words
span w base top = take (top - base) (drop base w)

-- the node at p is marked, whose children's marked trees the words from there to top begin with; no other word is changed
pub record NodeMarked (types : Types) (w w' : Words) (p top : ℕ) : Type 0 where
  pub word : ℕ
  pub made : MarkMade types (type_in (get_or w p 0)) (get_or w (p + 1) 0) (span w (p + 2) top) word
  pub stored : w' ≡ set w p word

-- the tree under way from base to top is marked, and nothing else is changed
pub record TreeMarked (types : Types) (w w' : Words) (base top : ℕ) : Type 0 where
  pub long : length w' ≡ length w
  pub marks : (g : Grammar) (t : ℕ) (ws : Words) → TypesOf g types → Trees g (t ∷ []) ws → size ws ≤ most_nodes → UnderWay g (span w base top) ws → w' ≡ take base w ++ (marked g ws ++ drop top w)

-- a tree stands from base to top: its words before the place are marked wrongly or not at all, those from there on rightly
pub record Unfinished (g : Grammar) (w : Words) (base place top : ℕ) (ws : Words) : Type 0 where
  pub long : length ws ≡ top - base
  pub half : ℕ
  pub even : place - base ≡ 2 * half
  pub front : unmarked (span w base place) ≡ take (place - base) ws
  pub back : span w place top ≡ marked g (drop (place - base) ws)

-- the words before the place stand as in another marked tree, the old one, which begins with the same words
pub record Kept (g : Grammar) (w : Words) (base place : ℕ) (ws : Words) : Type 0 where
  pub old : Words
  pub type : ℕ
  pub tree : Trees g (type ∷ []) old
  pub few : size old ≤ most_nodes
  pub long : place - base ≤ length old
  pub same : take (place - base) old ≡ take (place - base) ws
  pub stands : span w base place ≡ take (place - base) (marked g old)

-- .. then marking the nodes above the place is enough
pub record AboveMarked (types : Types) (w w' : Words) (base place top : ℕ) : Type 0 where
  pub long : length w' ≡ length w
  pub marks : (g : Grammar) (t : ℕ) (ws : Words) → TypesOf g types → Trees g (t ∷ []) ws → size ws ≤ most_nodes → Unfinished g w base place top ws → Kept g w base place ws
      → w' ≡ take base w ++ (marked g ws ++ drop top w)

-- marked, the words a stand from base to the place: a tree begins with them and goes on with the tree u, of `was` nodes, and the words x. The tree u', of
-- `will` nodes, nests as deep as u
pub record Resizable (g : Grammar) (w : Words) (base place was will : ℕ) (a u u' x : Words) : Type 0 where
  pub types : length g ≤ most_types
  pub long : length a ≡ place - base
  pub half : ℕ
  pub even : place - base ≡ 2 * half
  pub root : ℕ
  pub tree : Trees g (root ∷ []) (a ++ (u ++ x))
  pub few : size (a ++ (u ++ x)) ≤ most_nodes
  pub small : size (a ++ (u' ++ x)) ≤ most_nodes
  pub type : ℕ
  pub old : Trees g (type ∷ []) u
  pub old_size : size u ≡ was
  pub type' : ℕ
  pub new : Trees g (type' ∷ []) u'
  pub new_size : size u' ≡ will
  pub flat : nesting g u ≡ nesting g u'
  pub stands : span w base place ≡ take (place - base) (marked g (a ++ (u ++ x)))

-- .. they are marked as they are before u'; nothing else is changed
pub record Resized (w w' : Words) (base place was will : ℕ) : Type 0 where
  pub long : length w' ≡ length w
  pub below : take base w' ≡ take base w
  pub above : drop place w' ≡ drop place w
  pub marks : (g : Grammar) (a u u' x : Words) → Resizable g w base place was will a u u' x → span w' base place ≡ take (place - base) (marked g (a ++ (u' ++ x)))

-- r says whether the tree at `start` and the first tree of the part are the same
abbrev pub SameTree : Words → ℕ → Words → Bool → Type 0
SameTree arena start part r = (g : Grammar) (u ws : Words) (t : ℕ) (ts : List ℕ) → length g ≤ most_types → Stands g arena start u → part ≡ marked g ws → Trees g (t ∷ ts) ws → size ws ≤ most_nodes
    → r ≡ equal_words u (first_tree g ws)

-- r says whether the first tree of the part holds a blank
abbrev pub HoldsBlank : Types → Words → Bool → Type 0
HoldsBlank types part r = (g : Grammar) (ws : Words) (t : ℕ) (ts : List ℕ) → Heads g types.heads → part ≡ marked g ws → Trees g (t ∷ ts) ws → size ws ≤ most_nodes → r ≡ holds_blank g (first_tree g ws)

-- a scope stands from base to end, with a node at the place; above it, from `from` on, stands a tree of n words that gives a tree when put in the node's place
pub record Ready (g : Grammar) (w : Words) (base place end from n t : ℕ) (scope ws : Words) : Type 0 where
  pub tree : Trees g (t ∷ []) scope
  pub few : size scope ≤ most_nodes
  pub long : length scope ≡ end - base
  pub stands : span w base end ≡ marked g scope
  pub half : ℕ
  pub even : place - base ≡ 2 * half
  pub type : ℕ
  pub new : Trees g (type ∷ []) ws
  pub new_long : length ws ≡ n
  pub new_stands : span w from (from + n) ≡ marked g ws
  pub fits : Trees g (t ∷ []) (put g scope (place - base) ws)
  pub small : size (put g scope (place - base) ws) ≤ most_nodes

-- it is put there: the scope stands at base as it is then, and what is below is unchanged
pub record InPlace (types : Types) (w w' : Words) (base place end from n : ℕ) : Type 0 where
  pub long : length w' ≡ length w
  pub in_place : (g : Grammar) (t : ℕ) (scope ws : Words) → TypesOf g types → Ready g w base place end from n t scope ws
      → (take base w' ≡ take base w) × (span w' base (base + length (put g scope (place - base) ws)) ≡ marked g (put g scope (place - base) ws))

-- r is the nesting of the node at q in the marked tree that the part is
abbrev pub NestingOf : Types → Words → ℕ → ℕ → Type 0
NestingOf types part q r = (g : Grammar) (t : ℕ) (ws : Words) (half : ℕ) → Heads g types.heads → Trees g (t ∷ []) ws → size ws ≤ most_nodes → part ≡ marked g ws → q ≡ 2 * half → r ≡ node_nesting g ws (1 ∷ []) q

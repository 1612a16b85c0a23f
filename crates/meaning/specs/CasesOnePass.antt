-- Words with how many of their nodes are of a type, replacements that apply a rule or do not, and the rule of a book that passes alone. Assumes nothing.
use Rattle.std.specs.Prelude.{ℕ, ◌≡◌, refl, List, [], ◌∷◌, Bool, true, false}
use Rattle.std.proofs.Math.Option.{some}
use Rattle.words.specs.Reader.{Words}
use Rattle.rules.specs.Rules.{add, join, rule, operation, editing, nothing, new, Applied, Application, Piece, write, copy, chain, one_pass, Rule}
use Rattle.meaning.specs.OnePass.{PassesAlone}
use Rattle.meaning.specs.OnePass as OnePass

-- the nodes of types 0 to 3 in a tree of three fields, in one of its nodes and in none; a last word alone is no node
counted : List ℕ
counted =
    OnePass.nodes_of 0 tree ∷ OnePass.nodes_of 1 tree ∷ OnePass.nodes_of 2 tree ∷ OnePass.nodes_of 3 tree ∷ OnePass.nodes_of 4 tree ∷ OnePass.nodes_of 2 (2 ∷ 1 ∷ []) ∷ OnePass.nodes_of 2 [] ∷ OnePass.nodes_of 2 (1 ∷ 2 ∷ 2 ∷ []) ∷ []
  where
    tree : Words
    tree = 0 ∷ 0 ∷ 1 ∷ 0 ∷ 2 ∷ 0 ∷ 3 ∷ 2 ∷ 1 ∷ 0 ∷ 2 ∷ 1 ∷ 3 ∷ 2 ∷ 2 ∷ 0 ∷ 3 ∷ 5 ∷ 1 ∷ 1 ∷ []

-- a group of these applications
group : List Applied → Piece
group ps = chain 0 (applications ps)
  where
    applications : List Applied → List Application
    applications [] = []
    applications (p ∷ ps) = record { applied = p; arguments = [] } ∷ applications ps

-- written and copied trees, operations of every kind, and a rule in the first or in a later place
calling : List Bool
calling =
    OnePass.applies_rules [] ∷ OnePass.applies_rules (write 0 0 ∷ copy 1 ∷ []) ∷ OnePass.applies_rules (group [] ∷ group (operation add ∷ editing join ∷ nothing ∷ []) ∷ [])
    ∷ OnePass.applies_rules (group (rule 0 ∷ []) ∷ []) ∷ OnePass.applies_rules (write 0 0 ∷ group (operation add ∷ []) ∷ copy 0 ∷ group (editing join ∷ rule 3 ∷ []) ∷ []) ∷ []

-- "rules that add a prefix": such a one has no parts and applies no rules
prefixing : Rule
prefixing = record { target = 2; strategy = one_pass; parameters = []; pattern = new 2 ∷ []; parts = []; replacement = some (write 2 1 ∷ write 3 9 ∷ copy 0 ∷ []) }

right : (counted ≡ 1 ∷ 3 ∷ 3 ∷ 3 ∷ 0 ∷ 1 ∷ 0 ∷ 0 ∷ []) × (calling ≡ false ∷ false ∷ false ∷ true ∷ true ∷ []) × PassesAlone prefixing
unfolding OnePass.nodes_of OnePass.is_rule OnePass.calls_rule OnePass.applies_rules counted group calling prefixing
right = (refl, refl, record { strategy = refl; parts = refl; alone = λ ps e. let same : write 2 1 ∷ write 3 9 ∷ copy 0 ∷ [] ≡ ps = cc in rw (← same) })

-- WHAT A ONE-PASS RULE COSTS, stated: proofs/OnePass.antt proves it. Assumes nothing: these are definitions.
use Rattle.std.specs.Prelude.{ℕ, ◌+◌, ◌≤◌, ◌≡◌, List, [], ◌∷◌, Bool, true, false, eqb}
use Rattle.std.proofs.Math.Option.{some}
use Rattle.std.proofs.Math.ListN.{get_elem?}
use Rattle.words.specs.Reader.{Words, pick, or, value}
use Rattle.rules.specs.Rules.{Applied, rule, operation, editing, nothing, Application, Piece, write, copy, chain, one_pass, Rule}
use Rattle.meaning.specs.Meaning.{Ending, stopped}
use Rattle.meaning.specs.Outcome.{Inputs, Decoded, decode, ended, outcome}

-- "the nodes of the target type in the slip": how many nodes of the words are of type t
unfoldable pub nodes_of : ℕ → Words → ℕ
nodes_of t [] = 0
nodes_of t (u ∷ []) = 0
nodes_of t (u ∷ v ∷ ws) = pick (eqb u t) 1 0 + nodes_of t ws

-- is it a rule that is applied, and no operation?
unfoldable pub is_rule : Applied → Bool
is_rule (rule n) = true
is_rule (operation o) = false
is_rule (editing o) = false
is_rule nothing = false

-- does one of the applications apply a rule?
unfoldable pub calls_rule : List Application → Bool
calls_rule [] = false
calls_rule (a ∷ more) = or (is_rule a.applied) (calls_rule more)

-- does a replacement?
unfoldable pub applies_rules : List Piece → Bool
applies_rules [] = false
applies_rules (write t v ∷ ps) = applies_rules ps
applies_rules (copy x ∷ ps) = applies_rules ps
applies_rules (chain x apps ∷ ps) = or (calls_rule apps) (applies_rules ps)

-- "a main rule of reach 3 that has no parts and applies no rules"
pub record PassesAlone (r : Rule) : Type 0 where
  pub strategy : r.strategy ≡ one_pass
  pub parts : r.parts ≡ []
  pub alone : (ps : List Piece) → r.replacement ≡ some ps → applies_rules ps ≡ false

-- .. "its trials are at most the nodes of the target type in the slip, so that a budget of that many, or of 1 where there are none, never leads to 40". Budgets
-- from 1 on are allowed: one that is not refused is at least 1
abbrev pub OnePassBound : Type 0
OnePassBound = (result work : ℕ) (x : Inputs) (d : Decoded) (next : ℕ) (r : Rule) → decode result work x ≡ value d next → get_elem? d.rules 0 ≡ some r → PassesAlone r
    → (e : Ending) (attempts replacements : ℕ) (ws : Words) → outcome result work x ≡ ended e attempts replacements ws
    → (attempts ≤ nodes_of r.target d.tree) × (nodes_of r.target d.tree ≤ x.budget → e ≡ stopped 40 → ⊥)

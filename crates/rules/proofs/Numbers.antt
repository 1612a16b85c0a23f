-- The numbers by which rules and operations are applied. Assumes nothing.
use Prim.Native.Nat.{ℕ, zero, suc, ◌+◌, ◌-◌, ◌≤◌, ◌<◌}
use mathlib.Core.Path.{◌≡◌, refl, subst}
use mathlib.Core.Bool.{Bool, true, false}
use mathlib.Core.List.{List, [], ◌∷◌}
use native.Mathlib.Omega.{arith}
use lib.ListN.{get_or}
use lib.Dec.{ltb}
use borrow.Author.Tests.{lt-ltb, ltb-true, ltb-false}
use Rattle.rules.specs.Rules.{Operation, add, subtract, quotient, remainder, round, truncate, equal, greater, Edit, join, select, head, tail, count, extract, Applied, rule, operation, editing, nothing, operations, applied}

-- the number of an operation on numbers
unfoldable pub number_of : Operation → ℕ
number_of add = 1000
number_of subtract = 1001
number_of quotient = 1002
number_of remainder = 1003
number_of round = 1004
number_of truncate = 1005
number_of equal = 1008
number_of greater = 1009

-- .. on sequences
unfoldable pub edit_number : Edit → ℕ
edit_number join = 1010
edit_number select = 1011
edit_number head = 1012
edit_number tail = 1013
edit_number count = 1014
edit_number extract = 1015

-- the number a stands for this
abbrev Numbered : Applied → ℕ → Type 0
Numbered (rule n) a = a < 1000
Numbered (operation o) a = a ≡ number_of o
Numbered (editing o) a = a ≡ edit_number o
Numbered nothing a = 1000 ≤ a

-- each of these is numbered, the first by k
abbrev AllNumbered : List Applied → ℕ → Type 0
AllNumbered [] k = Unit {0}
AllNumbered (p ∷ more) k = Numbered p k × AllNumbered more (k + 1)

operations_numbered : AllNumbered operations 1000
unfolding operations number_of edit_number
operations_numbered = (refl, (refl, (refl, (refl, (refl, (refl, (omega arith, (omega arith, (refl, (refl, (refl, (refl, (refl, (refl, (refl, (refl, tt))))))))))))))))

listed : (l : List Applied) (k i : ℕ) → 1000 ≤ k → AllNumbered l k → Numbered (get_or l i nothing) (k + i)
listed [] k i h q = omega arith
listed (p ∷ more) k zero h q = let z : k + 0 ≡ k = omega arith in rw z q.0
listed (p ∷ more) k (suc i) h q = let z : k + suc i ≡ k + 1 + i = omega arith in rw z (listed more (k + 1) i (omega arith) q.1)

numbered : (a : ℕ) → Numbered (applied a) a
unfolding applied
numbered a = go (ltb a 1000) refl
  where
    go : (b : Bool) → ltb a 1000 ≡ b → Numbered (elim b [ true ↦ rule a | false ↦ get_or operations (a - 1000) nothing ]) a
    go true e = ltb-true a 1000 e
    go false e =
        let z : 1000 + (a - 1000) ≡ a = omega (arith, ltb-false a 1000 e) in
        subst (λ k. Numbered (get_or operations (a - 1000) nothing) k) z (listed operations 1000 (a - 1000) (omega arith) operations_numbered)

pub rule_number : (a : ℕ) → a < 1000 → applied a ≡ rule a
unfolding applied
rule_number a h = rw (lt-ltb a 1000 h, applied)

pub operation_number : (a : ℕ) (o : Operation) → applied a ≡ operation o → a ≡ number_of o
operation_number a o e = subst (λ p. Numbered p a) e (numbered a)

pub edit_number_lem : (a : ℕ) (o : Edit) → applied a ≡ editing o → a ≡ edit_number o
edit_number_lem a o e = subst (λ p. Numbered p a) e (numbered a)

pub edit_applied : (o : Edit) → applied (edit_number o) ≡ editing o
unfolding applied operations edit_number
edit_applied join = refl
edit_applied select = refl
edit_applied head = refl
edit_applied tail = refl
edit_applied count = refl
edit_applied extract = refl

number_low : (o : Operation) → number_of o < 1010
unfolding number_of
number_low add = omega arith
number_low subtract = omega arith
number_low quotient = omega arith
number_low remainder = omega arith
number_low round = omega arith
number_low truncate = omega arith
number_low equal = omega arith
number_low greater = omega arith

edit_high : (o : Edit) → 1010 ≤ edit_number o
unfolding edit_number
edit_high join = omega arith
edit_high select = omega arith
edit_high head = omega arith
edit_high tail = omega arith
edit_high count = omega arith
edit_high extract = omega arith

-- the operations on sequences are numbered from 1,010 on
pub edit_from : (a : ℕ) (o : Edit) → applied a ≡ editing o → 1010 ≤ a
edit_from a o e = omega (arith, edit_number_lem a o e, edit_high o)

-- a number from 1,000 on that stands for something else stands for an operation on numbers
pub an_operation_lem : (a : ℕ) → 1000 ≤ a → (applied a ≡ nothing → ⊥) → ((o : Edit) → applied a ≡ editing o → ⊥) → (o : Operation) × (applied a ≡ operation o)
an_operation_lem a low some other = go (applied a) refl (numbered a)
  where
    go : (p : Applied) → applied a ≡ p → Numbered p a → (o : Operation) × (applied a ≡ operation o)
    go (rule n) e q = absurd (omega arith)
    go (operation o) e q = (o, e)
    go (editing o) e q = absurd (other o e)
    go nothing e q = absurd (some e)

-- one from 1,010 on that stands for something, for one on sequences
pub an_edit_lem : (a : ℕ) → 1010 ≤ a → (applied a ≡ nothing → ⊥) → (o : Edit) × (applied a ≡ editing o)
an_edit_lem a low some = go (applied a) refl (numbered a)
  where
    go : (p : Applied) → applied a ≡ p → Numbered p a → (o : Edit) × (applied a ≡ editing o)
    go (rule n) e q = absurd (omega arith)
    go (operation o) e q = absurd (omega (arith, number_low o))
    go (editing o) e q = (o, e)
    go nothing e q = absurd (some e)

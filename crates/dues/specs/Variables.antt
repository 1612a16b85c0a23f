-- The types of the variables as the code holds them: the first of sixteen words, the others 0. Assumes nothing.
use Rattle.std.specs.Prelude.{ℕ, ◌-◌, ◌≤◌, ◌≡◌, List, ◌++◌, length, take, drop, replicate}
use Rattle.std.proofs.Common.{ap₂}
use Rattle.std.proofs.lemmas.List.{take-append-drop, length-take-le}
use Rattle.dues.specs.declared.variables.Variables.TheInside.{Inside}

-- the types that are there
abbrev pub known : Inside → List ℕ
known v = take v.count v.types

-- no more than there is room for, and nothing behind them
pub record Fits (v : Inside) : Type 0 where
  pub few : v.count ≤ 16
  pub long : length v.types ≡ 16
  pub clear : drop v.count v.types ≡ replicate (16 - v.count) 0

-- what holds these types
abbrev pub fields : List ℕ → Inside
fields ts = record { types = ts ++ replicate (16 - length ts) 0; count = length ts }

pub fields_known : (v : Inside) → Fits v → fields (known v) ≡ v
fields_known v f =
    let n : length (take v.count v.types) ≡ v.count = length-take-le v.count v.types (rw f.long f.few) in
    let whole : take v.count v.types ++ replicate (16 - length (take v.count v.types)) 0 ≡ v.types = rw (n, ← f.clear) (take-append-drop v.count v.types) in
    ap₂ {C = Inside} (λ ts n. record { types = ts; count = n }) whole n

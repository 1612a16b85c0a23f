-- The values that a node may have are those below how many there are. Assumes nothing.
use Prim.Native.Nat.{ℕ, ◌+◌}
use mathlib.Core.Path.{◌≡◌, refl}
use mathlib.Core.Bool.{Bool, true, false}
use lib.Dec.{ltb, leb, eqb}
use Rattle.words.specs.Reader.{pick}
use Rattle.grammar.specs.Limits.{greatest_name, greatest_number}
use Rattle.grammar.specs.Grammar.{Kind, token, opt, sequence, forms}
use Rattle.grammar.specs.Kinds.{allows}
use Rattle.grammar.specs.Values.{values_of}

pub values_allow : (k : Kind) (v : ℕ) → ltb v (values_of k) ≡ allows k v
unfolding values_of allows
values_allow (token c) v = go (eqb c 2)
  where
    go : (b : Bool) → ltb v (pick b (greatest_number + 1) (greatest_name + 1)) ≡ leb v (pick b greatest_number greatest_name)
    go true = lib.Dec.leb-suc-suc v greatest_number
    go false = lib.Dec.leb-suc-suc v greatest_name
values_allow (opt e) v = lib.Dec.leb-suc-suc v 1
values_allow (sequence style e) v = lib.Dec.leb-suc-suc v 1
values_allow (forms fs) v = refl

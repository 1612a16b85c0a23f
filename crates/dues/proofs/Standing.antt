-- Laws of the stack of dues, over plain variables. Assumes nothing.
use Prim.Native.Nat.{ℕ, zero, suc, ◌+◌, ◌<◌, ◌≤◌}
use mathlib.Core.Path.{◌≡◌, refl, ap}
use mathlib.Core.List.{List, [], ◌∷◌}
use native.Mathlib.Omega.{arith}
use native.Mathlib.Numerals.{add-one}
use lib.ListN.{length, get_or, set}
use lib.Seq.{get_or-set_same, get_or-set_other}
use Rattle.dues.specs.declared.due.Due.{Due}
use Rattle.dues.specs.declared.due.Due.TheVariants.{Tree}
use Rattle.dues.specs.Due.{due_as}
use Rattle.std.specs.Prelude.{Some, None}
use Rattle.judgement.specs.Typing as Typing
use Rattle.dues.specs.Stack.{standing, Popped}

pub standing_none : (dues : List Due) → standing dues 0 ≡ []
unfolding standing
standing_none dues = refl

pub standing_length : (dues : List Due) (k : ℕ) → length (standing dues k) ≡ k
unfolding standing
standing_length dues zero = refl
standing_length dues (suc k) = ap suc (standing_length dues k)

standing_set : (dues : List Due) (k i : ℕ) (x : Due) → k ≤ i → standing (set dues i x) k ≡ standing dues k
unfolding standing
standing_set dues zero i x h = refl
standing_set dues (suc k) i x h = rw (get_or-set_other dues i k x (Tree 0 0) (omega arith), standing_set dues k i x (omega arith))

pub standing_push : (dues : List Due) (k : ℕ) (x : Due) → k < length dues → standing (set dues k x) (k + 1) ≡ due_as x ∷ standing dues k
unfolding standing
standing_push dues k x h = rw (add-one k, get_or-set_same dues k x (Tree 0 0) h, standing_set dues k k x (omega arith))

pub standing_pop : (dues : List Due) (k j : ℕ) → j + 1 ≡ k → standing dues k ≡ due_as (get_or dues j (Tree 0 0)) ∷ standing dues j
unfolding standing
standing_pop dues k j e = rw (← e, add-one j)

pub popped_none : (s : List Typing.Due) → s ≡ [] → Popped s None s
popped_none s e = rw e (refl, refl)

pub popped : (s rest : List Typing.Due) (due : Due) → s ≡ due_as due ∷ rest → Popped s (Some due) rest
popped s rest due e = rw e (due, refl, refl, refl)

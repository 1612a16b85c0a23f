-- The stack of dues. Assumes nothing: these are definitions.
use Rattle.std.specs.Prelude.{ℕ, zero, suc, ◌≡◌, List, [], ◌∷◌, get_or, Option, None, Some}
use Rattle.judgement.specs.Typing as Typing
use Rattle.dues.specs.declared.due.Due.{Due}
use Rattle.dues.specs.declared.due.Due.TheVariants.{Tree}
use Rattle.dues.specs.Due.{due_as}

-- the first k dues of an array, the last on top
unfoldable pub standing : List Due → ℕ → List Typing.Due
standing dues zero = []
standing dues (suc k) = due_as (get_or dues k (Tree 0 0)) ∷ standing dues k

-- the due on top was taken off, if there is one
abbrev pub Popped : List Typing.Due → Option Due → List Typing.Due → Type 0
Popped [] r after = (r ≡ None) × (after ≡ [])
Popped (d ∷ ds) r after = (due : Due) × (r ≡ Some due) × (due_as due ≡ d) × (after ≡ ds)

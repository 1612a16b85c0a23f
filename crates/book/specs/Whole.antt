-- How a reader of the book moves. Assumes nothing: these are definitions.
use Rattle.std.specs.Prelude.{ℕ, ◌≡◌, Result, Ok, Err}
use Rattle.words.specs.Reader.{Read, value, refused}

-- what is made of the word or rule that was read is handed back, and the reader stands behind it; or the refusal, and it stays where it was
abbrev pub Steps : {A B : Type 0} → (A → B) → Read A → Result B (ℕ × ℕ) → ℕ → ℕ → Type 0
Steps f (value a next) r old new = (r ≡ Ok (f a)) × (new ≡ next)
Steps f (refused n p) r old new = (r ≡ Err (n, p)) × (new ≡ old)

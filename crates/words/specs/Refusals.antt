-- A refusal as it is told: its number, and its position.
use Rattle.std.specs.Prelude.{ℕ, ◌≡◌, refl}
use Rattle.words.specs.declared.refusal.Refusal.TheInside.{Inside}

abbrev pub told : Inside → ℕ × ℕ
told r = (r.number, r.position)

abbrev pub untold : ℕ × ℕ → Inside
untold p = record { number = p.0; position = p.1 }

pub untold_told : (a : Inside) → Unit {0} → untold (told a) ≡ a
untold_told a h = refl

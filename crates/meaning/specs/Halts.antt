-- A stop as it is told: its number.
use Rattle.std.specs.Prelude.{ℕ, ◌≡◌}
use Rattle.std.proofs.Common.{ap}
use Rattle.meaning.specs.Stops.{number_of, stop_of, stop_of-number_of}
use Rattle.meaning.specs.declared.Stop.{Stop}
use Rattle.meaning.specs.declared.Halt.TheInside.{Inside}

abbrev pub told : Inside → ℕ
told h = number_of h.stop

abbrev pub untold : ℕ → Inside
untold n = record { stop = stop_of n }

pub untold_told : (a : Inside) → Unit {0} → untold (told a) ≡ a
untold_told a h = ap (λ (s : Stop). record { stop = s }) (stop_of-number_of a.stop)

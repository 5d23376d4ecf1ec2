-- What a distance comes to on either side of a band.
use Rattle.std.proofs.Common.{◌≡◌, true, ℤ, pos, ◌-ℤ◌, Some, None, Option, arith}
use lib.Signed.{lt_z}
use Rattle.std.proofs.lemmas.Int.{ints}
use Rattle.bands.specs.Ends.{Ordered, distance_of}

pub below_by : (high : Option ℤ) (low x : ℤ) → Ordered (Some low) high → lt_z x low ≡ true → low -ℤ x ≡ pos (distance_of (Some low) high x)
below_by None low x o h = grind (arith, ints)
below_by (Some high) low x o h = grind (arith, ints)

-- The activation request of a minute, from its two-second samples.
use Rattle.std.specs.Prelude.{ℕ, zero, suc, Bool, ◌&&◌, List, length, ℤ, pos, negsuc, ◌+ℤ◌, neg_ℤ, Option, ◌==◌}
use Rattle.quantity.specs.declared.power.Power.{Power}
use Rattle.quantity.specs.Refusals.{unless}
use Rattle.quantity.specs.Rounding.{rounded}
use Rattle.std.specs.List.{list_all}
use Rattle.quantity.specs.Series.{power_limit, within, total}
use Rattle.activation.specs.declared.direction.Direction.{Direction}
use Rattle.activation.specs.declared.direction.Direction.TheVariants.{Upward, Downward, Neither}

-- the samples of a minute in one direction: thirty, each from low to high
abbrev pub sampled : ℤ → ℤ → List ℤ → Bool
sampled low high xs = length xs == 30 && list_all (within low high) xs

-- upward samples run from 0 to the limit and downward ones from minus the limit to 0; anything else is refused with 11
abbrev pub request_refusal : List ℤ → List ℤ → Option ℕ
request_refusal up down = unless (sampled (pos 0) power_limit up && sampled (neg_ℤ power_limit) (pos 0) down) 11

-- the mean power of the minute: each of sixty samples lasts two of its sixty seconds
abbrev pub request_of : List ℤ → List ℤ → Power
request_of up down = record { units = rounded (total up +ℤ total down) 30 }

-- the direction of a minute is that of its rounded request
abbrev pub direction_of : ℤ → Direction
direction_of (pos zero) = Neither
direction_of (pos (suc n)) = Upward
direction_of (negsuc n) = Downward

-- Powers and energies, in units of 10^-10 MW and 10^-10 MWh, and the one way from each to the other: a duration.
use Rattle.std.specs.Prelude.{ℕ, ◌^◌, cond, ℤ, pos, ◌*ℤ◌, neg_ℤ, ◌≤ℤ◌, ◌<ℤ◌, ◌==◌, int_le, unsigned_abs}
use Rattle.quantity.specs.declared.power.Power.{Power}
use Rattle.quantity.specs.declared.energy.Energy.{Energy}
use Rattle.quantity.specs.declared.share.Share.{Share}
use Rattle.quantity.specs.Rounding.{rounded}

-- the energy of a power that lasts so many minutes, of which an hour has sixty
abbrev pub energy_of : Power → ℕ → Energy
energy_of p minutes = record { units = rounded (p.units *ℤ pos minutes) 60 }

-- the power that gives an energy within so many minutes
abbrev pub power_of : Energy → ℕ → Power
power_of e minutes = record { units = rounded (e.units *ℤ pos 60) minutes }

-- one of so many equal parts of a power
abbrev pub part_of : Power → ℕ → Power
part_of p parts = record { units = rounded p.units parts }

-- a number that 64 bits with a sign hold
abbrev pub Held : ℤ → Type 0
Held z = (neg_ℤ (pos (2 ^ 63)) ≤ℤ z) × (z <ℤ pos (2 ^ 63))

-- the share of a deviation in an activated energy: nothing of nothing, never above 100 % (10^12 units), else their quotient
abbrev pub share_of : Energy → Energy → Share
share_of deviation activated =
    record {
      units = cond (unsigned_abs activated.units == 0) (pos 0)
          (cond (int_le activated.units deviation.units) (pos (10 ^ 12))
          (rounded (deviation.units *ℤ pos (10 ^ 12)) (unsigned_abs activated.units)));
    }

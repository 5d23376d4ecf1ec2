-- What the groups of a pool offer and realise in one minute. A group without a report counts nothing.
use Rattle.std.specs.Prelude.{cond, List, [], ◌∷◌, map, ℤ, pos, ◌+ℤ◌, ◌-ℤ◌, ◌*ℤ◌, Some, None, Option}
use Rattle.std.specs.Int.{int_min}
use Rattle.quantity.specs.Series.{total}
use Rattle.group_report.specs.declared.report.GroupReport.{GroupReport}
use Rattle.group_report.specs.Participations.{is_whole}

-- the offer of a group that takes part in FCR, as far as its prequalified reserve goes
abbrev pub offered_of : Option GroupReport → ℤ → ℤ
offered_of None reserve = pos 0
offered_of (Some g) reserve = cond (is_whole g.fcr) (int_min g.offered.quantity.units reserve) (pos 0)

-- the power of the FCR energy of a group that takes part in FCR: in a minute, sixty times the energy
abbrev pub fcr_power_of : GroupReport → ℤ
fcr_power_of g = cond (is_whole g.fcr) (g.energy.quantity.units *ℤ pos 60) (pos 0)

-- the measured power of a group less its FCR power and its baseline
abbrev pub net_power_of : GroupReport → ℤ
net_power_of g = (g.measured.quantity.units -ℤ fcr_power_of g) -ℤ g.baseline.quantity.units

-- the net power of a group that takes part in aFRR
abbrev pub realised_of : Option GroupReport → ℤ
realised_of None = pos 0
realised_of (Some g) = cond (is_whole g.afrr) (net_power_of g) (pos 0)

-- what the groups offer together, each against the prequalified reserve of its own place
abbrev pub offered_reserve_of : List (Option GroupReport) → List ℤ → ℤ
offered_reserve_of [] reserves = pos 0
offered_reserve_of (g ∷ gs) [] = pos 0
offered_reserve_of (g ∷ gs) (k ∷ ks) = offered_of g k +ℤ offered_reserve_of gs ks

-- what the groups realise together
abbrev pub realised_power_of : List (Option GroupReport) → ℤ
realised_power_of gs = total (map realised_of gs)

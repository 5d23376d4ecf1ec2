-- What one group reports of a minute, and when its report is refused.
use Rattle.std.specs.Prelude.{ℕ, ◌^◌, Bool, ◌&&◌, List, pos, neg_ℤ, Option}
use Rattle.quantity.specs.declared.energy.Energy.{Energy}
use Rattle.quantity.specs.declared.power.Power.{Power}
use Rattle.quantity.specs.Refusals.{unless, first_of}
use Rattle.quantity.specs.Series.{power_limit, within}
use Rattle.group_report.specs.Participations.{samples_refusal}

-- an offer runs from 0 to the limit
abbrev pub offer_within : Power → Bool
offer_within p = within (pos 0) power_limit p.units

-- a measured power or a baseline, in either direction
abbrev pub power_within : Power → Bool
power_within p = within (neg_ℤ power_limit) power_limit p.units

-- the FCR energy of a minute: at most 100 MWh in either direction
abbrev pub energy_within : Energy → Bool
energy_within e = within (neg_ℤ (pos (10 ^ 12))) (pos (10 ^ 12)) e.units

-- the figures of a report, each within its limits
abbrev pub figures_within : Power → Power → Energy → Power → Bool
figures_within offered measured energy baseline = offer_within offered && power_within measured && energy_within energy && power_within baseline

-- samples that are not those of a minute are refused with 10, then a figure outside its limits with 11, whatever the samples say
abbrev pub report_refusal : List ℕ → List ℕ → Power → Power → Energy → Power → Option ℕ
report_refusal fcr afrr offered measured energy baseline =
    first_of (samples_refusal fcr) (first_of (samples_refusal afrr) (unless (figures_within offered measured energy baseline) 11))

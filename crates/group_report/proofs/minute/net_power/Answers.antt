use Rattle.std.proofs.Common.{◌≡◌, ◌-ℤ◌, rules}
use Rattle.group_report.proofs.minute.net_power.Goals as goal

pub returns-clause-value : goal.returns-clause-value
returns-clause-value c =
    let is : c.from_units.result.units ≡ (c.measured.result.units -ℤ c.fcr_power.result.units) -ℤ c.baseline.result.units = search rules in
    search rules

pub returns-clause-limit : goal.returns-clause-limit
returns-clause-limit c =
    let is : c.from_units.result.units ≡ (c.measured.result.units -ℤ c.fcr_power.result.units) -ℤ c.baseline.result.units = search rules in
    search rules

use Rattle.std.proofs.Common.{◌≡◌, ◌*◌, ◌^◌, ◌≤◌, take, nat_abs}
use Rattle.group_report.specs.Minutes.{realised_power_of}
use Rattle.group_report.proofs.minute.realised_power.Given as goal

abbrev pub invariant-loop-report : goal.invariant-loop-report
invariant-loop-report l = (l.units ≡ realised_power_of (take l.report-index l.reports)) × (nat_abs l.units ≤ 26 * 10 ^ 13 * l.report-index)

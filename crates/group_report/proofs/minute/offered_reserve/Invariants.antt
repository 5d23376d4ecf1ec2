use Rattle.std.proofs.Common.{◌≡◌, ◌*◌, ◌^◌, map, take, pos, ◌≤ℤ◌}
use Rattle.group_report.specs.Minutes.{offered_reserve_of}
use Rattle.group_report.proofs.minute.offered_reserve.Given as goal

abbrev pub invariant-loop-group : goal.invariant-loop-group
invariant-loop-group l = (l.units ≡ offered_reserve_of (take l.group l.reports) (map (λ reserve. reserve.quantity.units) l.reserves)) × (pos 0 ≤ℤ l.units) × (l.units ≤ℤ pos (10 ^ 14 * l.group))

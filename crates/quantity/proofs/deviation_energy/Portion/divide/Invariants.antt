use Rattle.std.proofs.Common.{◌≡◌, ◌+◌, ◌*◌, ◌^◌, ◌<◌}
use Rattle.quantity.proofs.deviation_energy.Portion.divide.Given as goal

abbrev pub invariant-loop-place : goal.invariant-loop-place
invariant-loop-place l = (l.rest < l.whole) × (l.digits < 10 ^ l._place) × (l.part * 10 ^ l._place ≡ l.digits * l.whole + l.rest)

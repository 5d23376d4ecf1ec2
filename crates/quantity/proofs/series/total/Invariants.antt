use Rattle.std.proofs.Common.{◌≡◌, ◌*◌, ◌^◌, ◌≤◌, take, nat_abs}
use Rattle.quantity.specs.Series.{total}
use Rattle.quantity.proofs.series.total.Given as goal

abbrev pub invariant-loop-figure : goal.invariant-loop-figure
invariant-loop-figure l = (l.sum ≡ total (take l.figure-index l.figures)) × (nat_abs l.sum ≤ 2 ^ 63 * l.figure-index)

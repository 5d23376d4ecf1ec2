use Rattle.std.proofs.Common.{◌+◌, not}
use Rattle.std.specs.List.{IsFirstBest}
use Rattle.bands.proofs.search.first_foremost.Given as goal

abbrev pub invariant-loop-i : goal.invariant-loop-i
invariant-loop-i g l = IsFirstBest (λ x y. not (g.O.Order.ahead y x)) l.run (l.i + 1) l.best

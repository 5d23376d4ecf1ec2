use Rattle.bands.proofs.Extremes.{highest_found, lowest_found}
use Rattle.bands.proofs.tolerance.ToleranceBand.over.Goals as goal

pub returns-clause-low : goal.returns-clause-low
returns-clause-low c = rw (lowest_found c.args.window.now _ c.foremost_of.ensures) at c.lower_end-low.ensures

pub returns-clause-high : goal.returns-clause-high
returns-clause-high c = rw (highest_found c.args.window.now _ c.foremost_of-2.ensures) at c.upper_end-high.ensures

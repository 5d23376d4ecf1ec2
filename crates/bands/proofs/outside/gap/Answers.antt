use Rattle.std.proofs.Common.{rules}
use Rattle.bands.proofs.outside.gap.Goals as goal
use Rattle.bands.proofs.outside.gap.Goals.{in-Some+else-lt, in_default}

pub returns-then-lt-2-clause-value : goal.returns-then-lt-2-clause-value
returns-then-lt-2-clause-value g c = elim c.match-low.branch [ in-Some+else-lt w ↦ search rules | in_default w ↦ search rules ]

use Rattle.std.proofs.Common.{rules}
use Rattle.statement.proofs.fault.TextFaultDisplay.fmt.Goals as goal

pub returns-clause-writes : goal.returns-clause-writes
returns-clause-writes g c = rw (← c.number-number.ensures.value) (search rules)

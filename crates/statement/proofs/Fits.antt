-- Figures that their columns can hold, and what a day's length comes to.
use Rattle.std.proofs.Common.{◌≤◌, arith}
use Rattle.figure_text.specs.Rows.{Writable}
use Rattle.statement_lines.specs.declared.day_length.DayLength.{DayLength}
use Rattle.statement_lines.specs.declared.day_length.DayLength.TheVariants.{Short, Ordinary, Long}
use Rattle.statement_lines.specs.declared.record.SettlementRecord.{SettlementRecord}
use Rattle.statement_lines.specs.Openings.{quarter_hours_of}
use Rattle.statement_lines.specs.Records.{figures_of}

-- a record whose figures fit
abbrev pub Fits : SettlementRecord → Type 0
Fits r = Writable (figures_of r)

-- no day has more than a hundred quarter hours
pub hundred : (l : DayLength) → quarter_hours_of l ≤ 100
hundred Short = omega arith
hundred Ordinary = omega arith
hundred Long = omega arith

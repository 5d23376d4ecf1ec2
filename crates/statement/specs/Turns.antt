-- What comes next in a statement: one opening, records numbered from 1, a tail with their count.
use Rattle.std.specs.Prelude.{ℕ, ◌+◌, Bool, false, cond, ◌&&◌, List, Some, None, Option, ◌==◌, nat_lt}
use Rattle.count_text.specs.Forms.{number_in}
use Rattle.line_text.specs.Faults.{Fault, unless_at, first_of}
use Rattle.line_text.specs.Letters.{is_letter}
use Rattle.line_text.specs.NumberedRows.{field_at}
use Rattle.statement_lines.specs.declared.statement_line.StatementLine.{StatementLine}
use Rattle.statement_lines.specs.declared.statement_line.StatementLine.TheVariants.{Opening, Record, Tail}
use Rattle.statement_lines.specs.Kinds.{line_fault}
use Rattle.statement_lines.specs.Openings.{quarter_hours_of}
use Rattle.statement.specs.declared.stage.Stage.{Stage}
use Rattle.statement.specs.declared.stage.Stage.TheVariants.{BeforeOpening, InRecords, AfterTail}

-- the next of a day's records, by its number: the one after those that were read, and not past the day's quarter hours
abbrev pub record_comes : ℕ → ℕ → ℕ → Bool
record_comes hours closed number = nat_lt closed hours && number == closed + 1

-- the stage after a line, or none where the line does not come here
abbrev pub stage_after : Stage → StatementLine → Option Stage
stage_after BeforeOpening (Opening o) = Some (InRecords (quarter_hours_of o.length) 0)
stage_after BeforeOpening (Record r) = None
stage_after BeforeOpening (Tail t) = None
stage_after (InRecords hours closed) (Opening o) = None
stage_after (InRecords hours closed) (Record r) = cond (record_comes hours closed r.quarter_hour) (Some (InRecords hours (closed + 1))) None
stage_after (InRecords hours closed) (Tail t) = cond (t.closed == closed) (Some AfterTail) None
stage_after AfterTail (Opening o) = None
stage_after AfterTail (Record r) = None
stage_after AfterTail (Tail t) = None

-- the number or count behind the letter of a record or a tail
abbrev pub number_on : List ℕ → ℕ
number_on line = number_in (field_at 1 3 line)

-- whether a line without a fault comes here: D (68) first, then I (73) and T (84)
abbrev pub comes_here : Stage → List ℕ → Bool
comes_here BeforeOpening line = is_letter 68 line
comes_here (InRecords hours closed) line = cond (is_letter 73 line) (record_comes hours closed (number_on line)) (is_letter 84 line && (number_on line) == closed)
comes_here AfterTail line = false

-- the stage after a line that comes here
abbrev pub next_stage : Stage → List ℕ → Stage
next_stage BeforeOpening line = InRecords (number_in (field_at 7 3 line)) 0
next_stage (InRecords hours closed) line = cond (is_letter 73 line) (InRecords hours (closed + 1)) AfterTail
next_stage AfterTail line = AfterTail

-- what is wrong with the next line: any line after the tail; else a fault of its own, and then that it does not come here
abbrev pub fault_at : Stage → List ℕ → Option Fault
fault_at BeforeOpening line = first_of (line_fault line) (unless_at (comes_here BeforeOpening line) 19 0)
fault_at (InRecords hours closed) line = first_of (line_fault line) (unless_at (comes_here (InRecords hours closed) line) 19 0)
fault_at AfterTail line = Some (record { number = 19; column = 0 })

-- The lines of a statement: which text each of them has, and the first fault of a line.
use Rattle.std.specs.Prelude.{◌≡◌, ℕ, cond, List, Some, Option}
use Rattle.line_text.specs.Faults.{Fault}
use Rattle.line_text.specs.Letters.{is_letter}
use Rattle.line_text.specs.NumberedRows.{numbered_fault}
use Rattle.statement_lines.specs.declared.statement_line.StatementLine.{StatementLine}
use Rattle.statement_lines.specs.declared.statement_line.StatementLine.TheVariants.{Opening, Record, Tail}
use Rattle.statement_lines.specs.Openings.{opening_text, opening_fault}
use Rattle.statement_lines.specs.Records.{RecordIn, TailIn}

-- a line and what it writes
abbrev pub LineIn : StatementLine → List ℕ → Type 0
LineIn (Opening o) line = line ≡ opening_text o
LineIn (Record r) line = RecordIn r.quarter_hour r.«record» line
LineIn (Tail t) line = TailIn t.closed t.requests line

-- what is wrong with a line, in the order of checks: its letter (D 68, I 73, T 84), then what stands behind it
abbrev pub line_fault : List ℕ → Option Fault
line_fault line =
    cond (is_letter 68 line) (opening_fault line)
    (cond (is_letter 73 line) (numbered_fault 3 8 line)
    (cond (is_letter 84 line) (numbered_fault 3 6 line)
    (Some (record { number = 18; column = 1 }))))

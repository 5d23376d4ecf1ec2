-- The line of a request is a numbered row: Q, the minute in two columns, sixty figures and LF.
use Rattle.std.specs.Prelude.{◌≡◌, ℕ, zero, suc, ◌+◌, ◌*◌, ◌<◌, List, length, take, drop, ℤ, Option, slice_index}
use Rattle.count_text.specs.Columns.{CountIn}
use Rattle.figure_text.specs.Figures.{FigureIn}
use Rattle.figure_text.specs.Rows.{figure_field}
use Rattle.line_text.specs.Faults.{Fault, unless_at, first_of}
use Rattle.line_text.specs.Letters.{is_letter}
use Rattle.line_text.specs.NumberedRows.{NumberedIn, numbered_fault}
use Rattle.call_lines.specs.declared.request_line.RequestLine.{RequestLine}

-- the line of a request whose figures their columns can hold
abbrev pub RequestIn : RequestLine → List ℕ → Type 0
RequestIn q line = (length q.samples ≡ 60) × NumberedIn 81 2 q.minute q.samples line

-- what is wrong with a line, in the order of checks: its letter, its length, the minute, each figure from the left
abbrev pub request_fault : List ℕ → Option Fault
request_fault line = first_of (unless_at (is_letter 81 line) 18 1) (numbered_fault 2 60 line)

-- what is checked of a line, in this order: its letter, its length, the minute, each figure from the left
abbrev pub Passes : ℕ → List ℕ → Type 0
Passes zero line = slice_index line 0 ≡ 81
Passes (suc zero) line = (length line ≡ 1204) × (slice_index line 1203 ≡ 10)
Passes (suc (suc zero)) line = (n : ℕ) × CountIn 2 n (take 2 (drop 1 line))
Passes (suc (suc (suc k))) line = (x : ℤ) × FigureIn x (figure_field k (drop 3 line))

-- the number of a failed check: 18 where letter or length fit no line, 17 where a field is not in its form
abbrev pub check_number : ℕ → ℕ
check_number zero = 18
check_number (suc zero) = 18
check_number (suc (suc j)) = 17

-- the column of a failed check: 1 for letter and length, else the first of the field
abbrev pub check_column : ℕ → ℕ
check_column zero = 1
check_column (suc zero) = 1
check_column (suc (suc zero)) = 2
check_column (suc (suc (suc k))) = 4 + 20 * k

-- the first check that a line fails has this number and this column
abbrev pub FirstFault : List ℕ → ℕ → ℕ → Type 0
FirstFault line number column = (j : ℕ) × (j < 63) × ((i : ℕ) → i < j → Passes i line) × (Passes j line → ⊥) × (number ≡ check_number j) × (column ≡ check_column j)

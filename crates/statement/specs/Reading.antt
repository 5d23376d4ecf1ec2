-- The first fault of a statement's text, and what its reader does.
use Rattle.std.specs.Prelude.{◌≡◌, ℕ, ◌+◌, List, [], ◌∷◌, ◌++◌, Some, None, Ok, Err, Option, Result, MatchResult, OnErr}
use Rattle.quantity.specs.Refusals.{number_of}
use Rattle.text_parts.specs.declared.line.Line.{Line}
use Rattle.text_parts.specs.Lines.{lines_of, rest_of}
use Rattle.line_text.specs.Faults.{Fault}
use Rattle.statement_lines.specs.declared.statement_line.StatementLine.{StatementLine}
use Rattle.statement_lines.specs.Kinds.{LineIn}
use Rattle.statement.specs.declared.fault.TextFault.{TextFault}
use Rattle.statement.specs.declared.reader.StatementReader.{StatementReader}
use Rattle.statement.specs.declared.stage.Stage.{Stage}
use Rattle.statement.specs.declared.stage.Stage.TheVariants.{BeforeOpening, InRecords, AfterTail}
use Rattle.statement.specs.Turns.{stage_after, fault_at, next_stage}

-- a refusal's number, and the line and column where
pub record Place : Type 0 where
  pub number : ℕ
  pub line : ℕ
  pub column : ℕ

-- a line's fault, or else what comes later
abbrev pub in_line : ℕ → Option Fault → Option Place → Option Place
in_line line (Some fault) later = Some (record { number = fault.number; line = line; column = fault.column })
in_line line None later = later

-- a text that stops has to stop after the tail; else it is the following line that is missed
abbrev pub at_end : Stage → ℕ → Option Place
at_end BeforeOpening line = Some (record { number = 19; line = line; column = 0 })
at_end (InRecords hours closed) line = Some (record { number = 19; line = line; column = 0 })
at_end AfterTail line = None

-- the first fault of the lines that are left, the first of which has this number
unfoldable pub fault_from : Stage → ℕ → List (List ℕ) → Option Place
fault_from stage number [] = at_end stage number
fault_from stage number (line ∷ lines) = in_line number (fault_at stage line) (fault_from (next_stage stage line) (number + 1) lines)

-- the first fault of a whole text
abbrev pub text_fault : List ℕ → Option Place
text_fault text = fault_from BeforeOpening 1 (lines_of text)

-- the fault of what a reader has left
abbrev pub fault_left : StatementReader → Option Place
fault_left reader = fault_from reader.stage (reader.lines.taken + 1) (lines_of (rest_of reader.lines))

-- this is the fault
abbrev pub IsAt : TextFault → Place → Type 0
IsAt found place = (number_of found.refusal ≡ place.number) × (found.line ≡ place.line) × (found.column ≡ place.column)

-- what a reader of a text answers: the fault, or that the text is taken where there is none
abbrev pub Found : {A : Type 0} → Option Place → Result A TextFault → Type 0
Found (Some place) r = MatchResult r (λ _. ⊥) (λ found. IsAt found place)
Found None r = OnErr r (⊥)

-- a line is taken: it is the first of those that were left, it comes here, and the reader stands behind it
pub record Took (before after : StatementReader) (content : StatementLine) : Type 0 where
  pub part : Line
  pub told : after.line ≡ Some part
  pub number : part.number ≡ before.lines.taken + 1
  pub rest : rest_of before.lines ≡ part.bytes.now ++ rest_of after.lines
  pub first : lines_of (rest_of before.lines) ≡ part.bytes.now ∷ lines_of (rest_of after.lines)
  pub writes : LineIn content part.bytes.now
  pub comes : fault_at before.stage part.bytes.now ≡ None
  pub stage : after.stage ≡ next_stage before.stage part.bytes.now
  pub turn : stage_after before.stage content ≡ Some after.stage
  pub taken : after.lines.taken ≡ before.lines.taken + 1

-- what a call for the next line does: it ends behind the tail, or takes a line, or answers the first fault of what is left
abbrev pub NextRead : StatementReader → StatementReader → Result (Option StatementLine) TextFault → Type 0
NextRead before after (Ok None) = (after ≡ before) × (rest_of before.lines ≡ []) × (before.stage ≡ AfterTail)
NextRead before after (Ok (Some content)) = Took before after content
NextRead before after (Err found) = (after ≡ before) × Found {A = ℕ} (fault_left before) (Err found)

use Rattle.std.proofs.Common.{◌≡◌, ℕ, List, ◌++◌, length}
use Rattle.text_parts.specs.Lines.{lines_of, rest_of}
use Rattle.statement.specs.Drafts.{Draws}
use Rattle.statement.specs.Reading.{fault_left, text_fault}
use Rattle.statement.proofs.read.read_statement.Given as goal

abbrev pub invariant-loop-content : goal.invariant-loop-content
invariant-loop-content l = (front : List ℕ) × Draws l.reader.stage l.draft front × (l.text ≡ front ++ rest_of l.reader.lines) × (fault_left l.reader ≡ text_fault l.text)

abbrev pub decreases-loop-content : goal.decreases-loop-content
decreases-loop-content l = length (lines_of (rest_of l.reader.lines))

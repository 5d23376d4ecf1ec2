-- The first fault of what is left, line by line.
use Rattle.std.proofs.Common.{◌≡◌, ℕ, ◌+◌, List, [], ◌∷◌, Some, None, Ok, Err, Option, sym, refl, ap, ◌∙◌, Result}
use Rattle.text_parts.specs.declared.line.Line.{Line}
use Rattle.text_parts.specs.declared.lines.Lines.{Lines}
use Rattle.text_parts.specs.Lines.{lines_of, rest_of, Advanced}
use Rattle.line_text.specs.Faults.{Fault, Judged}
use Rattle.line_text.specs.declared.fault.LineFault.{LineFault}
use Rattle.statement_lines.specs.declared.statement_line.StatementLine.{StatementLine}
use Rattle.statement.specs.declared.fault.TextFault.{TextFault}
use Rattle.statement.specs.declared.reader.StatementReader.{StatementReader}
use Rattle.statement.specs.declared.stage.Stage.{Stage}
use Rattle.statement.specs.declared.stage.Stage.TheVariants.{BeforeOpening, InRecords, AfterTail}
use Rattle.statement.specs.declared.stage.Turn.{Turn}
use Rattle.statement.specs.Turns.{fault_at, next_stage}
use Rattle.statement.specs.Reading.{Place, in_line, at_end, fault_from, fault_left, Found, Took, NextRead}

-- a text that stops before its tail
end_missed : (stage : Stage) (number : ℕ) → (stage ≡ AfterTail → ⊥) → at_end stage number ≡ Some (record { number = 19; line = number; column = 0 })
end_missed BeforeOpening number other = refl
end_missed (InRecords hours closed) number other = refl
end_missed AfterTail number other = absurd (other refl)

pub stopped : (reader : StatementReader) → rest_of reader.lines ≡ [] → (reader.stage ≡ AfterTail → ⊥) → fault_left reader ≡ Some (record { number = 19; line = reader.lines.taken + 1; column = 0 })
unfolding fault_from
stopped reader e other = rw e (end_missed reader.stage (reader.lines.taken + 1) other)

-- one line more
pub line_next : (stage : Stage) (number : ℕ) (line : List ℕ) (lines : List (List ℕ)) → fault_from stage number (line ∷ lines) ≡ in_line number (fault_at stage line) (fault_from (next_stage stage line) (number + 1) lines)
unfolding fault_from
line_next stage number line lines = refl

-- the fault of a line is the fault of the text
placed : (number : ℕ) (fault : Option Fault) (later : Option Place) (found : LineFault) → Judged {A = Turn} fault (Err found) → Found {A = ℕ} (in_line number fault later) (Err (record { refusal = found.refusal; line = number; column = found.column }))
placed number (Some fault) later found h = (h.0, refl, h.1)
placed number None later found h = absurd h

pub refused_here :
    (reader : StatementReader) (after : Lines) (line : Line) (found : LineFault) → Advanced reader.lines after line → Judged {A = Turn} (fault_at reader.stage line.bytes.now) (Err found) →
    Found {A = ℕ} (fault_left reader) (Err (record { refusal = found.refusal; line = line.number; column = found.column }))
refused_here reader after line found moved judged =
    rw (moved.first, line_next reader.stage (reader.lines.taken + 1) line.bytes.now (lines_of (rest_of after)), moved.number)
    (placed (reader.lines.taken + 1) (fault_at reader.stage line.bytes.now) _ found judged)

-- a line that is taken has no fault
pub no_fault_here : (fault : Option Fault) (turn : Turn) → Judged fault (Ok turn) → fault ≡ None
no_fault_here (Some fault) turn h = absurd h
no_fault_here None turn h = refl

-- ---- a call for the next line
pub next_took : (before after : StatementReader) (row : Option StatementLine) (content : StatementLine) → row ≡ Some content → NextRead before after (Ok row) → Took before after content
next_took before after row content e h = rw e at h

pub next_ended : (before after : StatementReader) (row : Option StatementLine) → row ≡ None → NextRead before after (Ok row) → (after ≡ before) × (rest_of before.lines ≡ []) × (before.stage ≡ AfterTail)
next_ended before after row e h = rw e at h

-- the fault that is left stays the same
pub fault_stays : (before after : StatementReader) (content : StatementLine) → Took before after content → fault_left after ≡ fault_left before
fault_stays before after content took =
    let number = before.lines.taken + 1 in
    let line = took.part.bytes.now in
    let lines = lines_of (rest_of after.lines) in
    let next : fault_from before.stage number (line ∷ lines) ≡ fault_from (next_stage before.stage line) (number + 1) lines = line_next before.stage number line lines ∙ ap (λ (f : Option Fault). in_line number f (fault_from (next_stage before.stage line) (number + 1) lines)) took.comes in
    ap (λ (s : Stage). fault_from s (after.lines.taken + 1) lines) took.stage ∙ ap (λ (n : ℕ). fault_from (next_stage before.stage line) (n + 1) lines) took.taken ∙ sym next ∙ ap (λ (ls : List (List ℕ)). fault_from before.stage number ls) (sym took.first)

-- a text that stops behind its tail
pub finished : (reader : StatementReader) → rest_of reader.lines ≡ [] → reader.stage ≡ AfterTail → fault_left reader ≡ None
unfolding fault_from
finished reader e s = ap (λ (t : List ℕ). fault_from reader.stage (reader.lines.taken + 1) (lines_of t)) e ∙ ap (λ (stage : Stage). at_end stage (reader.lines.taken + 1)) s

-- a verdict does not hang on what is read
pub found_err : (A B : Type 0) (place : Option Place) (found : TextFault) → Found {A = A} place (Err found) → Found {A = B} place (Err found)
found_err A B (Some place) found h = h
found_err A B None found h = h

-- of one refusal there is one
pub same_err : {A E : Type 0} {d e : E} → ◌≡◌ {A = Result A E} (Err d) (Err e) → d ≡ e
same_err is = cc

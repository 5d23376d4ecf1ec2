use Rattle.std.proofs.Common.{◌≡◌, ℕ, ◌∷◌, Some, Ok, Err, ap, ◌∙◌, rules}
use Rattle.std.proofs.lemmas.Result.{err_from_is_err_and}
use Rattle.line_text.proofs.Readers.{fault_of, taken_of}
use Rattle.line_text.specs.Faults.{Judged}
use Rattle.line_text.specs.Letters.{letter_of}
use Rattle.line_text.specs.NumberedRows.{numbered_fault}
use Rattle.statement_lines.specs.declared.opening.Opening.{Opening as OpeningOf}
use Rattle.statement_lines.specs.declared.record_line.RecordLine.{RecordLine}
use Rattle.statement_lines.specs.declared.tail_line.TailLine.{TailLine}
use Rattle.statement_lines.specs.declared.statement_line.StatementLine.{StatementLine}
use Rattle.statement_lines.specs.declared.statement_line.StatementLine.TheVariants.{Opening, Record, Tail}
use Rattle.statement_lines.specs.Kinds.{LineIn, line_fault}
use Rattle.statement_lines.specs.Openings.{behind_letter, opening_fault}
use Rattle.statement_lines.proofs.Readings.{opening_letter, record_letter, tail_letter, reads_back}
use Rattle.statement_lines.proofs.statement_line.read_line.Goals as goal

pub returns-in_err-read_opening-in-Some-D : goal.returns-in_err-read_opening-in-Some-D
returns-in_err-read_opening-in-Some-D c =
    let line = c.args.line.now in
    let p = err_from_is_err_and c.from_residual.result c.from_residual.ensures.1 in
    let found = c.in_err-read_opening-in-Some-D.field-0.0 in
    let first : Some 68 ≡ letter_of line = search rules in
    let judged : Judged {A = StatementLine} (line_fault line) (Err found) = rw (opening_letter line first).0 (fault_of OpeningOf StatementLine (opening_fault line) found c.in_err-read_opening-in-Some-D.ensures.first_fault) in
    rw (p.1, p.2) (record { written_is_read = reads_back line (Err found) judged tt; read_is_written = tt; first_fault = judged })

pub returns-in_err-read_record-in-Some-I : goal.returns-in_err-read_record-in-Some-I
returns-in_err-read_record-in-Some-I c =
    let line = c.args.line.now in
    let p = err_from_is_err_and c.from_residual-in_err-read_record-in-Some-I.result c.from_residual-in_err-read_record-in-Some-I.ensures.1 in
    let found = c.in_err-read_record-in-Some-I.field-0.0 in
    let first : Some 73 ≡ letter_of line = search rules in
    let judged : Judged {A = StatementLine} (line_fault line) (Err found) = rw (record_letter line first).0 (fault_of RecordLine StatementLine (numbered_fault 3 8 line) found c.in_err-read_record-in-Some-I.ensures.first_fault) in
    rw (p.1, p.2) (record { written_is_read = reads_back line (Err found) judged tt; read_is_written = tt; first_fault = judged })

pub returns-in_err-read_tail-in-Some-T : goal.returns-in_err-read_tail-in-Some-T
returns-in_err-read_tail-in-Some-T c =
    let line = c.args.line.now in
    let p = err_from_is_err_and c.from_residual-in_err-read_tail-in-Some-T.result c.from_residual-in_err-read_tail-in-Some-T.ensures.1 in
    let found = c.in_err-read_tail-in-Some-T.field-0.0 in
    let first : Some 84 ≡ letter_of line = search rules in
    let judged : Judged {A = StatementLine} (line_fault line) (Err found) = rw (tail_letter line first).0 (fault_of TailLine StatementLine (numbered_fault 3 6 line) found c.in_err-read_tail-in-Some-T.ensures.first_fault) in
    rw (p.1, p.2) (record { written_is_read = reads_back line (Err found) judged tt; read_is_written = tt; first_fault = judged })

pub returns-in_ok-read_opening-in-Some-D : goal.returns-in_ok-read_opening-in-Some-D
returns-in_ok-read_opening-in-Some-D c =
    let line = c.args.line.now in
    let first : Some 68 ≡ letter_of line = search rules in
    let letter = opening_letter line first in
    let got = c.in_ok-read_opening-in-Some-D.field-0 in
    let is : LineIn (Opening got) line = c.in_ok-read_opening-in-Some-D.ensures.read_is_written ∙ ap (λ (b : ℕ). b ∷ behind_letter got) letter.1 in
    let judged : Judged (line_fault line) (Ok (Opening got)) = rw letter.0 (taken_of (opening_fault line) got (Opening got) c.in_ok-read_opening-in-Some-D.ensures.first_fault) in
    record { written_is_read = reads_back line (Ok (Opening got)) judged is; read_is_written = is; first_fault = judged }

pub returns-in_ok-read_record-in-Some-I : goal.returns-in_ok-read_record-in-Some-I
returns-in_ok-read_record-in-Some-I c =
    let line = c.args.line.now in
    let first : Some 73 ≡ letter_of line = search rules in
    let letter = record_letter line first in
    let got = c.in_ok-read_record-in-Some-I.field-0 in
    let is : LineIn (Record got) line = rw letter.1 at c.in_ok-read_record-in-Some-I.ensures.read_is_written in
    let judged : Judged (line_fault line) (Ok (Record got)) = rw letter.0 (taken_of (numbered_fault 3 8 line) got (Record got) c.in_ok-read_record-in-Some-I.ensures.first_fault) in
    record { written_is_read = reads_back line (Ok (Record got)) judged is; read_is_written = is; first_fault = judged }

pub returns-in_ok-read_tail-in-Some-T : goal.returns-in_ok-read_tail-in-Some-T
returns-in_ok-read_tail-in-Some-T c =
    let line = c.args.line.now in
    let first : Some 84 ≡ letter_of line = search rules in
    let letter = tail_letter line first in
    let got = c.in_ok-read_tail-in-Some-T.field-0 in
    let is : LineIn (Tail got) line = rw letter.1 at c.in_ok-read_tail-in-Some-T.ensures.read_is_written in
    let judged : Judged (line_fault line) (Ok (Tail got)) = rw letter.0 (taken_of (numbered_fault 3 6 line) got (Tail got) c.in_ok-read_tail-in-Some-T.ensures.first_fault) in
    record { written_is_read = reads_back line (Ok (Tail got)) judged is; read_is_written = is; first_fault = judged }

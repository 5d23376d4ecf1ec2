use Rattle.std.proofs.Common.{◌≡◌, true, length, Ok, rules}
use Rattle.std.proofs.lemmas.Result.{err_from_is_err_and}
use Rattle.line_text.specs.Letters.{is_letter}
use Rattle.line_text.proofs.Readers.{letter_is}
use Rattle.call_lines.specs.declared.request_line.RequestLine.{RequestLine}
use Rattle.call_lines.specs.RequestLines.{RequestIn}
use Rattle.call_lines.proofs.Requests.{request_read, request_refused, request_taken, first_fault}
use Rattle.call_lines.proofs.request_line.read_request_line.Goals as goal

pub returns-in_err-minute : goal.returns-in_err-minute
returns-in_err-minute c =
    let line = c.args.line.now in
    let letter : is_letter 81 line ≡ true = search rules in
    let judged = request_refused line letter _ (rw c.in_err-minute.was at c.read_numbered_row.ensures.first_fault) in
    let p = err_from_is_err_and c.from_residual.result c.from_residual.ensures.1 in
    rw (p.1, p.2) (record { written_is_read = request_read line _ tt judged; read_is_written = tt; judged = judged; first_fault = first_fault line _ judged })

pub returns : goal.returns
returns c =
    let line = c.args.line.now in
    let letter : is_letter 81 line ≡ true = search rules in
    let q : RequestLine = record { minute = c.in_ok-minute.minute; samples = c.read_numbered_row.new.figures } in
    let said = rw c.in_ok-minute.was at c.read_numbered_row.ensures in
    let sixty : length q.samples ≡ 60 = c.read_numbered_row.auto.figures in
    let has : RequestIn q line = (sixty, rw (letter_is 81 line letter) at said.read_is_written) in
    let judged = request_taken line letter q.minute q said.first_fault in
    record { written_is_read = request_read line (Ok q) has judged; read_is_written = has; judged = judged; first_fault = tt }

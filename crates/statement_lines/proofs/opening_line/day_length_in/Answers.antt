use Rattle.std.proofs.Common.{sym, ◌∙◌}
use Rattle.std.proofs.lemmas.Bool.{and_left}
use Rattle.count_text.specs.Forms.{is_count}
use Rattle.statement_lines.proofs.Openings.{count_none, ok_some, day_length_read}
use Rattle.statement_lines.proofs.opening_line.day_length_in.Goals as goal

pub returns-in_err-ok-clause-test : goal.returns-in_err-ok-clause-test
returns-in_err-ok-clause-test c =
    let text = c.args.text.now in
    let none = count_none 3 text _ c.read_count.ensures.written_is_read (sym c.ok.ensures.value ∙ c.in_err-ok.was) in
    rw c.from_residual.ensures (sym (and_left (is_count 3 text) _ none))

pub returns : goal.returns
returns c =
    let h = c.read_count.ensures.read_is_written _ (ok_some _ _ (sym c.ok.ensures.value ∙ c.in_ok-ok.was)) in
    let p = day_length_read _ c.args.text.now c.new.result h c.new.ensures in
    record { test = p.0; read_is_written = p.1 }

use Rattle.std.proofs.Common.{sym, ◌∙◌}
use Rattle.std.proofs.lemmas.Bool.{and_left}
use Rattle.count_text.specs.Forms.{is_count}
use Rattle.statement_lines.proofs.Openings.{count_none, ok_some, up_to_read}
use Rattle.statement_lines.proofs.opening_line.up_to_in.Goals as goal

pub returns-in_err-ok-clause-test : goal.returns-in_err-ok-clause-test
returns-in_err-ok-clause-test g c =
    let w = c.args.width.columns in
    let text = c.args.text.now in
    let none = count_none w text _ c.read_count.ensures.written_is_read (sym c.ok.ensures.value ∙ c.in_err-ok.was) in
    rw c.from_residual.ensures (sym (and_left (is_count w text) _ none))

pub returns : goal.returns
returns g c =
    let h = c.read_count.ensures.read_is_written _ (ok_some _ _ (sym c.ok.ensures.value ∙ c.in_ok-ok.was)) in
    let p = up_to_read g.row.MOST c.args.width.columns _ c.args.text.now c.new.result c.args.width.few h c.new.ensures in
    record { test = p.0; read_is_written = p.1 }

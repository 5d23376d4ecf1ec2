use Rattle.std.proofs.Common.{Ok, length, sym, refl, ap, ◌∙◌, arith}
use Rattle.std.specs.Result.{result_ok}
use Rattle.std.proofs.lemmas.Result.{err_from_is_err_and}
use Rattle.statement.proofs.Reading.{same_err}
use Rattle.statement.proofs.Writing.{statement_wide, statement_bytes}
use Rattle.statement.proofs.write.write_statement.Goals as goal

pub returns-clause-bytes : goal.returns-clause-bytes
returns-clause-bytes c =
    let h = rw (c.ok_or.ensures.ok_part ∙ ap result_ok c.in_ok-content.was) at c.new.ensures in
    let content = c.in_ok-content.content in
    statement_bytes content.opening.now c.args.opening.now content.records.now c.args.records.now content.requests.now c.args.requests.now c.args.out.now c.put.new.out (Ok c.put.result) h.0 h.1 h.2 content.whole (omega (arith, c.length.ensures)) (c.put.ensures.length, c.put.ensures.bytes)

pub returns-in_err-content : goal.returns-in_err-content
returns-in_err-content c =
    let p = err_from_is_err_and c.from_residual.result c.from_residual.ensures.1 in
    let gone = c.ok_or.ensures.ok_part ∙ ap result_ok c.in_err-content.was in
    let told = rw gone at c.ok_or.ensures.value in
    let why = same_err (sym c.in_err-content.was ∙ told) in
    let e = statement_wide c.args.opening.now c.args.records.now c.args.requests.now (length c.args.out.now) (rw gone at c.new.ensures) in
    rw (p.1, p.2, why) (record { refused_first = rw e refl; bytes = rw e refl })

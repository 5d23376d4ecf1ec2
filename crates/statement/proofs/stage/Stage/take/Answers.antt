use Rattle.std.proofs.Common.{◌≡◌, sym, refl, ap, ◌∙◌}
use Rattle.std.specs.Result.{result_ok}
use Rattle.std.proofs.lemmas.Result.{err_from_is_err_and}
use Rattle.std.proofs.lemmas.Bool.Decides.{not_from_Decides}
use Rattle.statement.specs.declared.stage.Turn.{Turn}
use Rattle.statement.proofs.Reading.{same_err}
use Rattle.statement.proofs.Turns.{turn-taken, turn_refused, turn_broken}
use Rattle.statement.proofs.stage.Stage.take.Goals as goal

pub returns-in_err-content : goal.returns-in_err-content
returns-in_err-content c =
    let p = err_from_is_err_and c.from_residual.result c.from_residual.ensures.1 in
    let other = not_from_Decides _ c.is_ended.ensures c.if-is_ended.false in
    let judged = turn_broken Turn c.args.self c.args.line.now c.in_err-content.field-0.0 other c.in_err-content.ensures.first_fault in
    rw (p.1, p.2) (record { first_fault = judged; turn = tt })

pub returns : goal.returns
returns c =
    let is = c.in_ok-content.ensures.read_is_written in
    let after = sym (c.ok_or.ensures.ok_part ∙ ap result_ok c.in_ok-stage.was) ∙ c.after.ensures in
    let p = turn-taken c.args.self c.in_ok-content.content c.args.line.now is c.in_ok-stage.stage after in
    record { first_fault = rw p.0 tt; turn = (is, p.1, sym after) }

pub returns-in_err-stage : goal.returns-in_err-stage
returns-in_err-stage c =
    let p = err_from_is_err_and c.from_residual-in_err-stage.result c.from_residual-in_err-stage.ensures.1 in
    let gone = c.ok_or.ensures.ok_part ∙ ap result_ok c.in_err-stage.was in
    let told = rw gone at c.ok_or.ensures.value in
    let fault : c.in_err-stage.field-0.0 ≡ c.not_in_turn-2.result = same_err (sym c.in_err-stage.was ∙ told) in
    let is = c.in_ok-content.ensures.read_is_written in
    let f = turn_refused c.args.self c.in_ok-content.content c.args.line.now is (sym gone ∙ c.after.ensures) in
    rw (p.1, p.2, fault, f, c.not_in_turn-2.ensures) (record { first_fault = (refl, refl); turn = tt })

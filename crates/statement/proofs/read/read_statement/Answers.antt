use Rattle.std.proofs.Common.{◌≡◌, ℕ, List, ◌++◌, take, Some, None, Err, sym, ap, ◌∙◌}
use Rattle.std.proofs.lemmas.List.{append_assoc, append-nil}
use Rattle.std.proofs.lemmas.Result.{err_from_is_err_and}
use Rattle.text_parts.specs.Lines.{rest_of}
use Rattle.statement_lines.specs.declared.opening.Opening.{Opening}
use Rattle.statement_lines.specs.declared.tail_line.TailLine.{TailLine}
use Rattle.statement.specs.declared.records.Records.{Records}
use Rattle.statement.specs.declared.statement.Statement.{Statement}
use Rattle.statement.specs.Drafts.{Done, drafted}
use Rattle.statement.specs.Reading.{Found, fault_left, text_fault}
use Rattle.statement.specs.Statements.{StatementIn, records_of}
use Rattle.statement.proofs.Drafts.{draws_more, statement_same}
use Rattle.statement.proofs.Reading.{next_took, next_ended, fault_stays, finished, found_err}
use Rattle.statement.proofs.Statements.{text_clear, same_statement}
use Rattle.statement.proofs.read.read_statement.Goals as goal

some_opening : (a b : Opening) → Some a ≡ Some b → a ≡ b
some_opening a b e = cc

some_tail : (a b : TailLine) → Some a ≡ Some b → a ≡ b
some_tail a b e = cc

pub returns-in_err-content : goal.returns-in_err-content
returns-in_err-content c =
    let text = c.args.text.now in
    let p = err_from_is_err_and c.from_residual.result c.from_residual.ensures.1 in
    let found = c.in_err-content.field-0.0 in
    let at : Found {A = Statement} (text_fault text) (Err found) = rw c.loop-content.invariant.3 at (found_err ℕ Statement (fault_left c.loop-content.reader) found c.in_err-content.ensures.1) in
    rw (p.1, p.2) (record { written_is_read = λ o rs xs h. rw (text_clear o rs xs text h) at at; read_is_written = tt; first_fault = at })

pub loop-content-preserved : goal.loop-content-preserved
loop-content-preserved c =
    let inv = c.loop-content.invariant in
    let before = c.loop-content.reader in
    let after = c.next.new.self in
    let took = next_took before after c.in_ok-content.field-0 c.in-Some.content c.in-Some.is c.in_ok-content.ensures in
    let line = took.part.bytes.now in (
      inv.0 ++ line,
      draws_more before.stage after.stage c.in-Some.content c.loop-content.draft c.add.new.self inv.0 line inv.1 c.add.ensures took.writes took.turn,
      inv.2 ∙ ap (λ (t : List ℕ). inv.0 ++ t) took.rest ∙ sym (append_assoc inv.0 line (rest_of after.lines)),
      fault_stays before after c.in-Some.content took ∙ inv.3,
    )

pub returns : goal.returns
returns c =
    let text = c.args.text.now in
    let inv = c.loop-content.invariant in
    let reader = c.loop-content.reader in
    let draft = c.loop-content.draft in
    let end = next_ended reader c.next.new.self c.in_ok-content.field-0 c.in_default.is c.in_ok-content.ensures in
    let none : text_fault text ≡ None = sym inv.3 ∙ finished reader end.1 end.2 in
    let done : Done draft inv.0 = rw end.2 at inv.1 in
    let front : text ≡ inv.0 = inv.2 ∙ ap (λ (t : List ℕ). inv.0 ++ t) end.1 ∙ append-nil inv.0 in
    let s = c.finish.result in
    let opening : done.opened ≡ s.opening = some_opening _ _ (sym done.opening ∙ c.finish.ensures.opening) in
    let tail : done.tailed ≡ s.tail = some_tail _ _ (sym done.tail ∙ c.finish.ensures.tail) in
    let records : drafted draft ≡ records_of s = ap (λ (r : Records). take r.count r.list) (sym c.finish.ensures.records) in
    let is : StatementIn s.opening (records_of s) s.tail.requests text = statement_same _ _ _ _ _ _ _ _ opening records (ap (λ (t : TailLine). t.requests) tail) front done.whole in
    record { written_is_read = λ o rs xs h. same_statement s.opening o (records_of s) rs s.tail.requests xs text is h; read_is_written = is; first_fault = rw none tt }

use Rattle.std.proofs.Common.{◌≡◌, ◌-◌, ◌≤◌, length, take, drop, refl, arith, rules}
use Rattle.line_text.proofs.Puts.{part_length}
use Rattle.statement_lines.specs.Openings.{opening_text}
use Rattle.statement_lines.proofs.Openings.{opening_length}
use Rattle.pending_text.proofs.Parts.{line_appended, refused_in_place}
use Rattle.pending_text.proofs.pending.PendingText.append_opening.Goals as goal

pub returns-clause-text : goal.returns-clause-text
returns-clause-text c =
    let n = c.args.self.now.length in
    let old = c.args.self.now.bytes in
    let long : length old ≡ 676 = search rules in
    let within : n ≤ 676 = c.args.self.now.within in
    let room : length (take (676 - n) (drop n old)) ≡ 676 - n = part_length n 676 old within (omega arith) in
    let said = c.in_ok-write_opening_line.ensures in
    line_appended _ n 12 old _ (opening_text c.args.opening.now) _ _ refl refl long within (λ _. opening_length c.args.opening.now) (rw room at said.refused_first) (rw room at said.bytes) refl refl

pub returns-in_err-write_opening_line-clause-text : goal.returns-in_err-write_opening_line-clause-text
returns-in_err-write_opening_line-clause-text c =
    let n = c.args.self.now.length in
    let old = c.args.self.now.bytes in
    let long : length old ≡ 676 = search rules in
    let room : length (take (676 - n) (drop n old)) ≡ 676 - n = part_length n 676 old c.args.self.now.within (omega arith) in
    let said = c.in_err-write_opening_line.ensures in
    refused_in_place _ _ n old _ (opening_text c.args.opening.now) _ _ refl refl (rw room at said.refused_first) (rw room at said.bytes) refl refl

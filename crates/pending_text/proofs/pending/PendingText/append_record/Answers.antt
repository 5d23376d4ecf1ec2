use Rattle.std.proofs.Common.{◌≡◌, ◌-◌, ◌≤◌, length, take, drop, refl, arith, rules}
use Rattle.line_text.proofs.Puts.{part_length}
use Rattle.statement_lines.specs.Records.{figures_of, record_text}
use Rattle.pending_text.proofs.Parts.{line_appended, numbered_sized, refused_in_place}
use Rattle.pending_text.proofs.pending.PendingText.append_record.Goals as goal

pub returns-clause-text : goal.returns-clause-text
returns-clause-text c =
    let n = c.args.self.now.length in
    let old = c.args.self.now.bytes in
    let long : length old ≡ 676 = search rules in
    let within : n ≤ 676 = c.args.self.now.within in
    let room : length (take (676 - n) (drop n old)) ≡ 676 - n = part_length n 676 old within (omega arith) in
    let said = c.in_ok-write_record_line.ensures in
    line_appended _ n 165 old _ (record_text c.args.quarter_hour c.args.record.now) _ _ refl refl long within (numbered_sized 73 3 c.args.quarter_hour (figures_of c.args.record.now) _ (omega arith) (omega arith)) (rw room at said.refused_first) (rw room at said.bytes) refl refl

pub returns-in_err-write_record_line-clause-text : goal.returns-in_err-write_record_line-clause-text
returns-in_err-write_record_line-clause-text c =
    let n = c.args.self.now.length in
    let old = c.args.self.now.bytes in
    let long : length old ≡ 676 = search rules in
    let room : length (take (676 - n) (drop n old)) ≡ 676 - n = part_length n 676 old c.args.self.now.within (omega arith) in
    let said = c.in_err-write_record_line.ensures in
    refused_in_place _ _ n old _ (record_text c.args.quarter_hour c.args.record.now) _ _ refl refl (rw room at said.refused_first) (rw room at said.bytes) refl refl

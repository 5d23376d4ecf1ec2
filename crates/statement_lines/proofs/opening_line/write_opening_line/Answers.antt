use Rattle.std.proofs.Common.{◌≡◌, ℕ, true, leb, ◌++◌, length, drop, sym, ap, ◌∙◌}
use Rattle.std.proofs.lemmas.Bool.{le-leb}
use Rattle.statement_lines.specs.Openings.{opening_text}
use Rattle.statement_lines.proofs.Openings.{opening_length, opening_put}
use Rattle.statement_lines.proofs.opening_line.write_opening_line.Goals as goal

pub returns-clause-bytes : goal.returns-clause-bytes
returns-clause-bytes c =
    let o = c.args.opening.now in
    let old = c.args.out.now in
    let t : leb 12 (length old) ≡ true = le-leb 12 (length old) c.if-out-lt-OPENING_LENGTH.false in
    let put = opening_put o old c.write_count.new.out c.write_count-2.new.out c.write_count-3.new.out c.if-out-lt-OPENING_LENGTH.false (rw c.number.ensures.value at c.write_count.ensures.bytes)
    (rw c.quarter_hours.ensures at c.write_count-2.ensures.bytes) (rw c.number-2.ensures.value at c.write_count-3.ensures.bytes) in
    rw t (put ∙ ap (λ (n : ℕ). opening_text o ++ drop n old) (sym (opening_length o)))

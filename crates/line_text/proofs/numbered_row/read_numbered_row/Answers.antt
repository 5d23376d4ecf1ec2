use Rattle.std.proofs.Common.{◌≡◌, ℕ, ◌+◌, ◌*◌, true, length, get_or, take, drop, ◌-◌, pos, Ok, Err, sym, refl, arith, rules}
use Rattle.quantity.specs.declared.refusal.Refusal.TheVariants.{NotInForm}
use Rattle.count_text.specs.Columns.{CountIn}
use Rattle.line_text.specs.NumberedRows.{is_whole}
use Rattle.line_text.proofs.NumberedRows.{count_part, row_part, count_fault, figure_fault, clear, row_of_fields}
use Rattle.line_text.proofs.numbered_row.read_numbered_row.Goals as goal

pub returns-in_err-number-clause-first_fault : goal.returns-in_err-number-clause-first_fault
returns-in_err-number-clause-first_fault c =
    let w = c.args.width.columns in
    let line = c.args.line.now in
    let whole : is_whole (2 + w + 20 * length c.args.figures.now) line ≡ true = sym c.if-not-is_row.ensures in
    let part = count_part w c.columns-start.result line c.columns-start.ensures in
    let never : (n : ℕ) → c.read_count.result ≡ Ok n → ⊥ = λ n e. search rules in
    let read : (n : ℕ) → CountIn w n (take w (drop 1 line)) → CountIn w n (take (1 + c.columns-start.result - 1) (drop 1 line)) = λ n h. rw part h in
    let f = count_fault w (length c.args.figures.now) line whole (λ n h. never n (c.read_count.ensures.written_is_read n (read n h))) in
    let e : c.from_residual.result ≡ Err (record { refusal = NotInForm; column = 2 }) = search rules in
    rw (f, e) (refl, refl)

pub returns-in-Ok : goal.returns-in-Ok
returns-in-Ok c =
    let w = c.args.width.columns in
    let line = c.args.line.now in
    let same : length c.read_row.new.places ≡ length c.args.figures.now = c.read_row.auto.places in
    let whole : is_whole (2 + w + 20 * length c.args.figures.now) line ≡ true = sym c.if-not-is_row.ensures in
    let said : c.read_count.result ≡ Ok c.in_ok-number.number = search rules in
    let count = rw (count_part w c.columns-start.result line c.columns-start.ensures) at (c.read_count.ensures.read_is_written c.in_ok-number.number said) in
    let row = rw (row_part w c.columns-start.result line c.columns-start.ensures) at c.in-Ok.ensures in
    let f = clear w (length c.args.figures.now) line whole c.in_ok-number.number c.args.width.few count (λ i lt. (get_or c.read_row.new.places i (pos 0), (row.0 i lt).0)) in
    record {
      first_fault = rw f tt;
      read_is_written = row_of_fields w c.in_ok-number.number c.read_row.new.places line (rw same whole) count (λ k lt. (row.0 k (omega arith)).0);
      places = tt;
    }

pub returns-in-Err-clause-first_fault : goal.returns-in-Err-clause-first_fault
returns-in-Err-clause-first_fault c =
    let w = c.args.width.columns in
    let line = c.args.line.now in
    let whole : is_whole (2 + w + 20 * length c.args.figures.now) line ≡ true = sym c.if-not-is_row.ensures in
    let said : c.read_count.result ≡ Ok c.in_ok-number.number = search rules in
    let count = rw (count_part w c.columns-start.result line c.columns-start.ensures) at (c.read_count.ensures.read_is_written c.in_ok-number.number said) in
    let row = rw (row_part w c.columns-start.result line c.columns-start.ensures) at c.in-Err.ensures in
    let f = figure_fault w (length c.args.figures.now) line whole c.in_ok-number.number c.args.width.few count c.in-Err.k row.0 (λ i lt. (get_or c.read_row.new.places i (pos 0), (row.1.0 i lt).0)) row.2 in
    rw (f, c.not_in_form.ensures, c.columns-start.ensures) (refl, refl)

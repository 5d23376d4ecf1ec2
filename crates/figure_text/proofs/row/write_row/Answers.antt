use Rattle.std.proofs.Common.{length, refl, ◌∙◌, arith}
use Rattle.figure_text.proofs.Rows.{row_short, row_fits, row_bytes}
use Rattle.figure_text.proofs.row.write_row.Goals as goal

pub returns-then-figures-out-clause-refused_first : goal.returns-then-figures-out-clause-refused_first
returns-then-figures-out-clause-refused_first c =
    rw (row_short c.args.figures.now (length c.args.out.now) (c.if-not-are_writable.ensures.0 refl) (omega arith)) refl

pub returns : goal.returns
returns c =
    let all = c.if-not-are_writable.ensures.0 refl in
    let e = row_fits c.args.figures.now (length c.args.out.now) all (omega arith) in
    record { refused_first = rw e tt; bytes = rw e (c.put_row.ensures ∙ row_bytes c.args.figures.now c.args.out.now all) }

use Rattle.std.proofs.Common.{◌^◌, ◌<◌, length, nat_abs, ap, ◌∙◌, arith}
use Rattle.std.proofs.lemmas.List.{take_rest}
use Rattle.count_text.proofs.Columns.{reads_at_right}
use Rattle.count_text.proofs.Readers.{ok_where_written}
use Rattle.figure_text.specs.Figures.{signed_text, FigureIn}
use Rattle.figure_text.proofs.Signs.{signed_begins_with_no_blank}
use Rattle.figure_text.proofs.Wholes.{length_figure}
use Rattle.figure_text.proofs.read.read_figure.Goals as goal

pub returns-then-text-ne-COLUMNS-clause-written_is_read : goal.returns-then-text-ne-COLUMNS-clause-written_is_read
returns-then-text-ne-COLUMNS-clause-written_is_read c = λ x h. absurd (c.if-text-ne-COLUMNS.true (ap length h.1 ∙ length_figure x h.0))

pub returns-clause-written_is_read : goal.returns-clause-written_is_read
returns-clause-written_is_read c =
    let b = c.blanks.ensures in
    ok_where_written FigureIn _ _ _ c.ok_or.ensures.value
    (reads_at_right c.args.text.now c.blanks.result b.within b.front b.next (λ x. nat_abs x < 10 ^ 18) signed_text signed_begins_with_no_blank 20 _ _ (omega arith)
    (take_rest c.args.text.now c.blanks.result) c.signed_in.ensures)

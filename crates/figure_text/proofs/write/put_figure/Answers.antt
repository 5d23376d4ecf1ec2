use Rattle.std.proofs.Common.{ap, nat_abs, ◌∙◌, w64}
use Rattle.std.proofs.lemmas.Int.{to_z-of_z}
use Rattle.figure_text.proofs.Wholes.{figure_written}
use Rattle.figure_text.proofs.write.put_figure.Goals as goal

pub returns : goal.returns
returns c =
    let x = c.args.units in
    let same = to_z-of_z w64 x c.ranges.units in
    let whole = rw same at c.put_whole.ensures in
    figure_written x c.requires.writable c.args.columns.now _ _ c.requires.room whole _ (c.unsigned_abs.ensures.value ∙ ap nat_abs same) c.write_fixed.ensures

use Rattle.std.proofs.Common.{ap, ◌∙◌}
use Rattle.std.proofs.lemmas.Bool.Decides.{same_from_decides}
use Rattle.figure_text.proofs.Rows.{writable_decides}
use Rattle.figure_text.specs.Rows.{writable}
use Rattle.statement.proofs.write.is_record_writable.Goals as goal

pub returns : goal.returns
returns c = same_from_decides _ (writable c.figures.result) c.are_writable.ensures (writable_decides c.figures.result) ∙ ap writable c.figures.ensures

use Rattle.std.proofs.Common.{rules, tests}
use Rattle.std.proofs.lemmas.Iterator.{YieldsList-from_slice}
use Rattle.std.proofs.lemmas.Iterator.Search.{all_from_yields_List}
use Rattle.figure_text.specs.Rows.{writable}
use Rattle.statement_lines.specs.Records.{figures_of}
use Rattle.statement.proofs.Writing.{every_fits_decides}
use Rattle.statement.proofs.write.are_records_writable.Goals as goal

pub returns : goal.returns
returns c =
    let all = all_from_yields_List (λ r. writable (figures_of r)) _ _ c.all.result c.all.ensures.ran (YieldsList-from_slice c.args.records.now cc) (λ x b q k. search (rules, tests)) in
    rw all (every_fits_decides c.args.records.now)

use Rattle.std.proofs.Common.{arith}
use Rattle.std.proofs.lemmas.Int.{ints}
use Rattle.group_report.proofs.Sums.{realised_more}
use Rattle.group_report.proofs.minute.realised_power.Goals as goal

pub loop-report-preserved : goal.loop-report-preserved
loop-report-preserved c =
    let more = realised_more _ c.args.reports.now c.loop-report.report-index _ (omega arith) c.realised_by.ensures.value in
    (rw more (omega (arith, ints)), omega (arith, ints))

use Rattle.std.proofs.Common.{arith}
use Rattle.std.proofs.lemmas.Int.{ints}
use Rattle.group_report.proofs.Sums.{offered_more}
use Rattle.group_report.proofs.minute.offered_reserve.Goals as goal

pub loop-group-preserved : goal.loop-group-preserved
loop-group-preserved c =
    let more = offered_more c.args.reports.now c.args.reserves.now (λ reserve. reserve.quantity.units) _ _ c.loop-group.group _ (omega arith) (omega arith) c.offered_by.ensures.value in
    (rw more (omega (arith, ints)), omega (arith, ints), omega (arith, ints))

use Rattle.std.proofs.Common.{get_or, pos, arith, w64, SFits, rules}
use Rattle.std.proofs.lemmas.Int.{ints}
use Rattle.quantity.proofs.Lists.{total_more}
use Rattle.quantity.proofs.series.total.Goals as goal

pub loop-figure-preserved : goal.loop-figure-preserved
loop-figure-preserved c =
    let f : SFits w64 (get_or c.args.figures.now c.loop-figure.figure-index (pos 0)) = search rules in
    let more = total_more c.args.figures.now c.loop-figure.figure-index c.loop-figure-test.true in
    (rw more (omega (arith, ints)), omega (arith, ints))

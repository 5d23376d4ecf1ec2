use Rattle.std.proofs.Common.{arith}
use Rattle.count_text.proofs.LastDigits.{one_less_left, all_written}
use Rattle.count_text.proofs.digits.write_fixed.Goals as goal

pub loop-at-preserved : goal.loop-at-preserved
loop-at-preserved c = one_less_left _ c.loop-at.rest c.loop-at.at c.loop-at.out c.loop-at.invariant (omega arith) (omega arith)

pub returns : goal.returns
returns c = all_written _ c.loop-at.rest c.loop-at.at c.loop-at.out c.loop-at.invariant (omega arith)

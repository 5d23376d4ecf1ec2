use Rattle.std.proofs.Common.{◌≡◌, ◌+◌, length, decimal, arith}
use Rattle.std.proofs.lemmas.Fmt.{length-decimal-le}
use Rattle.count_text.proofs.Decimals.{length_by_log, lt_by_length}
use Rattle.count_text.proofs.LastDigits.{decimal_ends}
use Rattle.count_text.proofs.digits.digit_count.Goals as goal

pub returns : goal.returns
returns c =
    let n = c.args.n in
    let log = c.checked_ilog10.ensures in
    let is : c.unwrap_or.result + 1 ≡ length (decimal n) =
    rw c.unwrap_or.ensures (length_by_log c.checked_ilog10.result n (omega arith) log.none log.power_le log.next_power_gt) in
    record {
      count = is;
      behind_zeros = λ w le. rw is (decimal_ends w n (omega arith) (omega arith));
      least = λ w some. (
        λ le. lt_by_length w n (omega arith) (omega arith),
        λ lt. omega (arith, length-decimal-le w n some lt (omega arith)),
      );
    }

use Rattle.std.proofs.Common.{arith, rules}
use Rattle.count_text.specs.Columns.{PlainIn}
use Rattle.count_text.proofs.Readers.{reads_none, plain_zero_alone, reads_plain}
use Rattle.count_text.proofs.digits.read_plain.Goals as goal

pub returns-in-48 : goal.returns-in-48
returns-in-48 c = reads_none PlainIn _ (λ n h. let alone = plain_zero_alone c.args.digits.now n h (search rules) in omega arith)

pub returns-in_default : goal.returns-in_default
returns-in_default c = reads_plain c.args.digits.now c.read_fixed.result (search rules) c.read_fixed.ensures

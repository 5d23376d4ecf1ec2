use Rattle.std.proofs.Common.{◌≡◌, ◌++◌, length, drop}
use Rattle.count_text.specs.Columns.{last_digits}
use Rattle.count_text.proofs.digits.write_fixed.Given as goal

abbrev pub invariant-loop-at : goal.invariant-loop-at
invariant-loop-at l = last_digits (length l.initial.out) l.n ≡ last_digits l.at l.rest ++ drop l.at l.out

use Rattle.std.proofs.Common.{◌≡◌, ◌*◌, ◌++◌, take, drop}
use Rattle.figure_text.specs.Rows.{row_text}
use Rattle.figure_text.proofs.row.put_row.Given as goal

abbrev pub invariant-loop-k : goal.invariant-loop-k
invariant-loop-k l = l.out ≡ row_text (take l.k l.figures) ++ drop (20 * l.k) l.initial.out

use Rattle.std.proofs.Common.{◌≡◌, ◌*◌, drop}
use Rattle.figure_text.specs.Rows.{Filled}
use Rattle.figure_text.proofs.row.read_row.Given as goal

abbrev pub invariant-loop-k : goal.invariant-loop-k
invariant-loop-k l = (l.rest ≡ drop (20 * l.k-counter) l.text) × Filled l.k-counter l.text l.initial.places l.places

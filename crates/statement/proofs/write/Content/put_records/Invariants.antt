use Rattle.std.proofs.Common.{◌≡◌, ◌*◌, ◌++◌, take, drop}
use Rattle.statement.specs.Statements.{records_text}
use Rattle.statement.proofs.write.Content.put_records.Given as goal

abbrev pub invariant-loop-k : goal.invariant-loop-k
invariant-loop-k l = l.out ≡ records_text 1 (take l.k l.self.records.now) ++ drop (165 * l.k) l.initial.out

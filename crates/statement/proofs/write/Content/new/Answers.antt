use Rattle.std.proofs.Common.{rules}
use Rattle.statement.proofs.Writing.{is_statement_lem}
use Rattle.statement.proofs.write.Content.new.Goals as goal

pub invariant_of-result : goal.invariant_of-result
invariant_of-result c =
    record { whole = is_statement_lem c.args.opening.now c.args.records.now c.args.requests.now (record { within = search rules; records_fit = c.are_records_writable.ensures.0 c.if-are_records_writable.true; six = search rules; requests_fit = (c.are_writable.ensures.0 c.if-are_writable.true) }) }

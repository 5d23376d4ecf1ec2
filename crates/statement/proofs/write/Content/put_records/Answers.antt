use Rattle.statement.proofs.Writing.{always_written, not_refused_here, records_step, few_records, whole_from}
use Rattle.statement.proofs.write.Content.put_records.Goals as goal

pub loop-k-preserved : goal.loop-k-preserved
loop-k-preserved c =
    let self = c.args.self.now in
    let whole = whole_from self.opening.now self.records.now self.requests.now self.whole in
    records_step self.records.now c.args.out.now whole.records_fit (few_records _ _ _ whole) c.requires c.loop-k.k c.loop-k.out _ c.loop-k-test.true c.loop-k.invariant c.write_record_line.new.out
    c.write_record_line.ensures.bytes

pub unwrap-requires : goal.unwrap-requires
unwrap-requires c =
    let self = c.args.self.now in
    let whole = whole_from self.opening.now self.records.now self.requests.now self.whole in
    always_written _ _ (not_refused_here self.records.now c.args.out.now whole.records_fit (few_records _ _ _ whole) c.requires c.loop-k.k c.loop-k.out _ c.loop-k-test.true c.loop-k.invariant) c.write_record_line.ensures.refused_first

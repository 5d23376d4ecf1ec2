use Rattle.std.proofs.Common.{refl}
use Rattle.statement.proofs.Writing.{statement_put, whole_from}
use Rattle.statement.proofs.write.Content.put.Goals as goal

pub returns : goal.returns
returns c =
    let self = c.args.self.now in
    let o = self.opening.now in
    let rs = self.records.now in
    let xs = self.requests.now in
    let put = statement_put o rs xs c.args.out.now c.write_opening_line.new.out c.put_records.new.out c.write_tail_line.new.out (whole_from o rs xs self.whole) c.requires in
    record { length = refl; bytes = put c.write_opening_line.ensures.bytes c.put_records.ensures c.write_tail_line.ensures.bytes }

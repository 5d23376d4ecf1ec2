use Rattle.std.proofs.Common.{refl}
use Rattle.statement.specs.Turns.{fault_at}
use Rattle.statement.proofs.Reading.{refused_here, no_fault_here}
use Rattle.statement.proofs.reader.StatementReader.next.Goals as goal

pub returns : goal.returns
returns c =
    let reader = c.args.self.now in
    let line = c.in-Some.line in
    let moved = c.in-Some.ensures.steps in
    let turn = rw c.bytes.ensures at c.in-Ok.ensures.turn in
    let judged = rw c.bytes.ensures at c.in-Ok.ensures.first_fault in
    record {
      part = line;
      told = refl;
      number = moved.number;
      rest = moved.rest;
      first = moved.first;
      writes = turn.0;
      comes = no_fault_here (fault_at reader.stage line.bytes.now) c.in-Ok.turn judged;
      stage = turn.1;
      turn = turn.2;
      taken = moved.taken;
    }

pub returns-in-Err : goal.returns-in-Err
returns-in-Err c =
    let judged = rw c.bytes.ensures at c.in-Err.ensures.first_fault in
    let found = refused_here c.args.self.now c.next.new.self c.in-Some.line c.in-Err.fault c.in-Some.ensures.steps judged in
    (refl, rw (c.in_line.ensures, c.number.ensures) found)

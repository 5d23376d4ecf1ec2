use Rattle.std.proofs.Common.{refl}
use Rattle.std.proofs.lemmas.Bool.Decides.{not_from_Decides}
use Rattle.statement.proofs.Reading.{stopped}
use Rattle.statement.proofs.reader.StatementReader.ended.Goals as goal

pub returns : goal.returns
returns c =
    let other = not_from_Decides _ c.is_ended.ensures c.if-is_ended.false in
    let f = stopped c.args.self.now c.requires other in
    (refl, rw (f, c.taken.ensures) (refl, refl, refl))

use Rattle.std.proofs.Common.{arith, length-drop}
use Rattle.std.proofs.lemmas.Grind.{common_steps}
use Rattle.std.proofs.lemmas.List.{set_at}
use Rattle.quarter_hour.proofs.judge.moved_on.Goals as goal

pub returns : goal.returns
returns c = rw c.rotate_left.ensures.after (grind (arith, common_steps, set_at, length-drop))

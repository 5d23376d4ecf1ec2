use Rattle.std.proofs.Common.{◌≡◌, take}
use Rattle.group_report.specs.Participations.{participation_of}
use Rattle.group_report.proofs.participation.after.Given as goal

abbrev pub invariant-loop-sample : goal.invariant-loop-sample
invariant-loop-sample l = l.participation ≡ participation_of (take l.sample-index l.samples)

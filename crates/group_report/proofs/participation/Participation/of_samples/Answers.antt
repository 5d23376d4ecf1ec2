use Rattle.std.proofs.Common.{sym, refl, ◌∙◌}
use Rattle.quantity.specs.declared.refusal.Refusal.TheVariants.{StatusNotReadable}
use Rattle.group_report.proofs.Samples.{taken_whole, refused_broken}
use Rattle.group_report.proofs.participation.Participation.of_samples.Goals as goal

pub returns-then-not-is_sampled : goal.returns-then-not-is_sampled
returns-then-not-is_sampled c =
    let s = sym c.is_sampled.ensures ∙ c.if-not-is_sampled.true in
    record { value = rw s refl; whole_minute = refused_broken c.args.samples.now StatusNotReadable s }

pub returns : goal.returns
returns c =
    let s = sym c.is_sampled.ensures ∙ c.if-not-is_sampled.false in
    record { value = rw s c.after.ensures; whole_minute = taken_whole c.args.samples.now c.after.result s c.after.ensures }

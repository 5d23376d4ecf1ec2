-- Two reports that hold the same are the same: their limits hold in one way only.
use Rattle.std.proofs.Common.{◌≡◌}
use Rattle.quantity.proofs.Same.{same_limited}
use Rattle.group_report.specs.declared.report.GroupReport.{GroupReport}

pub same_report :
    (a b : GroupReport) → a.fcr ≡ b.fcr → a.afrr ≡ b.afrr → a.offered.quantity ≡ b.offered.quantity → a.measured.quantity ≡ b.measured.quantity → a.energy.quantity ≡ b.energy.quantity → a.baseline.quantity ≡ b.baseline.quantity → a ≡ b
same_report a b fcr afrr offered measured energy baseline i =
    record {
      fcr = fcr i;
      afrr = afrr i;
      offered = same_limited a.offered b.offered offered i;
      measured = same_limited a.measured b.measured measured i;
      energy = same_limited a.energy b.energy energy i;
      baseline = same_limited a.baseline b.baseline baseline i;
    }

-- Two quantities within limits that are the same quantity are the same: their limits hold in one way only.
use mathlib.Core.HLevel.{is_prop→PathP}
use Rattle.std.proofs.Common.{◌≡◌, ◌≤ℤ◌}
use Rattle.std.proofs.Props.{props}
use Rattle.quantity.specs.declared.limited.Limited.{Limited}

pub same_limited : {Q L : Type 0} {q : _} {l : _} (a b : Limited Q L q l) → a.quantity ≡ b.quantity → a ≡ b
same_limited {Q} {L} {q} {l} a b e i =
    record {
      quantity = e i;
      limits = a.limits;
      low = is_prop→PathP (λ j. l.LOW ≤ℤ q.units_of (e j)) (λ j. hlevel props) a.low b.low i;
      high = is_prop→PathP (λ j. q.units_of (e j) ≤ℤ l.HIGH) (λ j. hlevel props) a.high b.high i;
    }

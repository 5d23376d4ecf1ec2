use Rattle.std.proofs.Common.{◌≡◌, ap, ◌∙◌, arith}
use Rattle.std.proofs.lemmas.Int.{ints}
use Rattle.quantity.specs.declared.power.Power.{Power}
use Rattle.quantity.specs.Series.{total}
use Rattle.interval_terms.proofs.Sums.{bids_small}
use Rattle.interval_terms.proofs.bids.sum.Goals as goal

pub overflow_cast-total : goal.overflow_cast-total
overflow_cast-total c = let small = bids_small c.args.bids.now c.requires in omega (arith, ints, c.total.ensures)

pub returns : goal.returns
returns c =
    let small = bids_small c.args.bids.now c.requires in
    let is : c.from_units.result.units ≡ total c.args.bids.now = ap (λ (p : Power). p.units) c.from_units.ensures ∙ omega (arith, ints, c.total.ensures) in
    record { value = is; some = rw is small.0 }

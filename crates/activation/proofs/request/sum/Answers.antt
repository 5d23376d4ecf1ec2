use Rattle.std.proofs.Common.{◌≡◌, ◌+ℤ◌, ap, ◌∙◌, arith}
use Rattle.std.proofs.lemmas.Int.{ints}
use Rattle.quantity.specs.declared.power.Power.{Power}
use Rattle.quantity.specs.Series.{total}
use Rattle.activation.proofs.Sums.{sums_small}
use Rattle.activation.proofs.request.sum.Goals as goal

pub net-requires : goal.net-requires
net-requires c =
    let small = sums_small c.args.upward.now c.args.downward.now c.requires.up c.requires.down in
    record { raised = omega (arith, ints, c.total.ensures); lowered = omega (arith, ints, c.total-2.ensures) }

pub overflow_cast-net : goal.overflow_cast-net
overflow_cast-net c =
    let small = sums_small c.args.upward.now c.args.downward.now c.requires.up c.requires.down in
    omega (arith, ints, c.total.ensures, c.total-2.ensures, c.net.ensures)

pub returns : goal.returns
returns c =
    let small = sums_small c.args.upward.now c.args.downward.now c.requires.up c.requires.down in
    let is : c.from_units.result.units ≡ total c.args.upward.now +ℤ total c.args.downward.now = ap (λ (p : Power). p.units) c.from_units.ensures ∙ omega (arith, ints, c.total.ensures, c.total-2.ensures, c.net.ensures) in
    record { value = is; bound = rw is small.both }

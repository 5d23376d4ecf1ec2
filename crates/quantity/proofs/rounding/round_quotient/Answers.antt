use Rattle.std.proofs.Common.{◌≡◌, refl, arith, w64, SFits}
use mir.Syntax.{w128}
use Rattle.std.proofs.lemmas.Int.{ints, to_z-of_z}
use Rattle.quantity.specs.Rounding.{rounded}
use Rattle.quantity.proofs.Quotients.{rounded-nearest, nearest_alone, rounded_fits}
use Rattle.quantity.proofs.rounding.round_quotient.Goals as goal

pub returns : goal.returns
returns c =
    let n = c.args.n in
    let d = c.args.d.number in
    let some = c.args.d.some in
    let wide : SFits w128 n = omega (arith, ints) in
    let is : c.round_wide.result ≡ rounded n d = rw (c.from.ensures, to_z-of_z w64 n c.ranges.n, to_z-of_z w128 n wide, c.number.ensures.value) at c.round_wide.ensures.value in
    let slim : SFits w64 (rounded n d) = rounded_fits n d some c.ranges.n in
    let held : SFits w128 (rounded n d) = omega (arith, ints) in
    rw (is, to_z-of_z w128 (rounded n d) held, to_z-of_z w64 (rounded n d) slim)
    (record { value = refl; nearest = rounded-nearest n d some; no_other = λ q near. nearest_alone n d q some near })

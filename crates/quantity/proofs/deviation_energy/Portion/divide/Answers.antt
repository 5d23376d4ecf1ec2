use Rattle.std.proofs.Common.{mod-lt, arith}
use Rattle.quantity.proofs.Places.{more_digits, more_is, places_fit, place_fits}
use Rattle.quantity.proofs.deviation_energy.Portion.divide.Goals as goal

pub overflow_mul-digits : goal.overflow_mul-digits
overflow_mul-digits c =
    let h = c.loop-place.invariant in
    omega (arith, places_fit _ _ _ _ _ h.0 h.1 h.2 (omega arith))

pub overflow_add-digits : goal.overflow_add-digits
overflow_add-digits c =
    let h = c.loop-place.invariant in
    omega (arith, place_fits _ _ _ _ _ h.0 h.1 h.2 (omega arith))

pub loop-place-preserved : goal.loop-place-preserved
loop-place-preserved c =
    let h = c.loop-place.invariant in
    (mod-lt _ (omega arith), more_digits _ _ _ _ _ h.0 h.1 h.2, more_is _ _ _ _ _ h.0 h.1 h.2)

-- A band has a low end and a high end, and either may be missing.
use Rattle.std.specs.Prelude.{ℕ, ◌+◌, ◌*◌, ◌^◌, ◌≤◌, cond, ℤ, pos, ◌-ℤ◌, neg_ℤ, ◌≤ℤ◌, Some, None, Option, int_lt, unsigned_abs}
use Rattle.quantity.specs.Refusals.{unless}
use Rattle.quantity.specs.Series.{within}

-- x is not below the low end
abbrev pub AtLeast : Option ℤ → ℤ → Type 0
AtLeast None x = Unit {0}
AtLeast (Some low) x = low ≤ℤ x

-- x is not above the high end
abbrev pub AtMost : Option ℤ → ℤ → Type 0
AtMost None x = Unit {0}
AtMost (Some high) x = x ≤ℤ high

-- the low end is not above the high end, where both exist
abbrev pub Ordered : Option ℤ → Option ℤ → Type 0
Ordered None high = Unit {0}
Ordered (Some low) high = AtMost high low

-- an end, where there is one, lies within 2 * 10^15 units of zero
abbrev pub EndLimited : Option ℤ → Type 0
EndLimited None = Unit {0}
EndLimited (Some e) = unsigned_abs e ≤ 2 * 10 ^ 15

-- how far x lies below the low end
abbrev pub below : Option ℤ → ℤ → ℕ
below None x = 0
below (Some low) x = cond (int_lt x low) (unsigned_abs (low -ℤ x)) 0

-- how far x lies above the high end
abbrev pub above : Option ℤ → ℤ → ℕ
above None x = 0
above (Some high) x = cond (int_lt high x) (unsigned_abs (x -ℤ high)) 0

-- the distance of x: how far it lies outside, or zero
abbrev pub distance_of : Option ℤ → Option ℤ → ℤ → ℕ
distance_of low high x = below low x + above high x

-- the largest figure that is measured against a band, in either direction: 1.1 * 10^16 units
abbrev pub figure_limit : ℤ
figure_limit = pos (11 * 10 ^ 15)

-- a larger one is refused with 11
abbrev pub distance_refusal : ℤ → Option ℕ
distance_refusal x = unless (within (neg_ℤ figure_limit) figure_limit x) 11

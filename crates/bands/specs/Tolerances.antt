-- The tolerance band of a minute: from the least request of the window less the allowance to the greatest and the allowance.
use Rattle.std.specs.Prelude.{List, [], ◌∷◌, map, ℤ, pos, ◌+ℤ◌, ◌-ℤ◌, fold}
use Rattle.std.specs.Int.{int_max, int_min}
use Rattle.activation.specs.declared.request.ActivationRequest.{ActivationRequest}
use Rattle.quantity.specs.declared.power.Power.{Power}
use Rattle.quantity.specs.Rounding.{rounded}

-- a tenth of the larger of the two sums of bids
abbrev pub allowance_of : Power → Power → Power
allowance_of upward downward = record { units = rounded (int_max upward.units downward.units) 10 }

-- the least of some figures
abbrev pub least : List ℤ → ℤ
least [] = pos 0
least (x ∷ xs) = fold int_min x xs

-- the greatest of some figures
abbrev pub greatest : List ℤ → ℤ
greatest [] = pos 0
greatest (x ∷ xs) = fold int_max x xs

-- the units of requests
abbrev pub request_units : List ActivationRequest → List ℤ
request_units requests = map (λ (q : ActivationRequest). q.power.units) requests

-- the low end of the band over a window of requests
abbrev pub low_end : List ActivationRequest → Power → ℤ
low_end window allowance = least (request_units window) -ℤ allowance.units

-- the high end of the band over a window of requests
abbrev pub high_end : List ActivationRequest → Power → ℤ
high_end window allowance = greatest (request_units window) +ℤ allowance.units

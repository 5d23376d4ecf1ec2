-- The terms of a quarter hour, and when they are refused.
use Rattle.std.specs.Prelude.{ℕ, Bool, ◌&&◌, List, length, ℤ, pos, neg_ℤ, Option, int_le, nat_le}
use Rattle.quantity.specs.declared.energy.Energy.{Energy}
use Rattle.quantity.specs.declared.power.Power.{Power}
use Rattle.quantity.specs.Refusals.{unless}
use Rattle.std.specs.List.{list_all}
use Rattle.quantity.specs.Series.{power_limit, within, total}

-- procured FCR runs from 0 to the limit
abbrev pub procured_within : Power → Bool
procured_within p = within (pos 0) power_limit p.units

-- at most 32 bids, each from one unit to the limit
abbrev pub each_bid : List ℤ → Bool
each_bid bids = nat_le (length bids) 32 && list_all (within (pos 1) power_limit) bids

-- and together they come to no more than the limit
abbrev pub bids_within : List ℤ → Bool
bids_within bids = each_bid bids && int_le (total bids) power_limit

-- the most that a quarter hour can activate: the power limit throughout
abbrev pub activation_limit : ℤ
activation_limit = pos 25000000000000

-- energy that is activated upward is not below zero
abbrev pub raised_within : Energy → Bool
raised_within e = within (pos 0) activation_limit e.units

-- energy that is activated downward is not above zero
abbrev pub lowered_within : Energy → Bool
lowered_within e = within (neg_ℤ activation_limit) (pos 0) e.units

-- all terms are within their limits
abbrev pub terms_within : Power → List ℤ → List ℤ → Energy → Energy → Bool
terms_within procured up down raised lowered =
    procured_within procured && (bids_within up && (bids_within down && (raised_within raised && lowered_within lowered)))

-- others are refused with 7
abbrev pub terms_refusal : Power → List ℤ → List ℤ → Energy → Energy → Option ℕ
terms_refusal procured up down raised lowered = unless (terms_within procured up down raised lowered) 7

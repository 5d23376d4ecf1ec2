-- What the terms of a quarter hour hold: each figure as it was given, the bids by their sums, the energies by their sizes.
use Rattle.std.specs.Prelude.{◌≡◌, List, ℤ, neg_ℤ}
use Rattle.quantity.specs.declared.energy.Energy.{Energy}
use Rattle.quantity.specs.declared.power.Power.{Power}
use Rattle.quantity.specs.Series.{total}
use Rattle.interval_terms.specs.declared.terms.IntervalTerms.{IntervalTerms}

pub record Holds (procured : Power) (up down : List ℤ) (raised lowered : Energy) (t : IntervalTerms) : Type 0 where
  pub reserve : t.procured.quantity ≡ procured
  pub upward_sum : t.upward.quantity.units ≡ total up
  pub downward_sum : t.downward.quantity.units ≡ total down
  pub upward_size : t.raised.quantity.units ≡ raised.units
  pub downward_size : t.lowered.quantity.units ≡ neg_ℤ lowered.units

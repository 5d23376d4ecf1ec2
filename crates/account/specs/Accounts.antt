-- Deviation accounts: which figures they take, and what their total then is.
use Rattle.std.specs.Prelude.{◌≡◌, ℕ, ◌+◌, List, [], ◌∷◌, length, ℤ, pos, Some, None, Option, nat_lt}
use Rattle.std.specs.List.{AllByRecursion}
use Rattle.quantity.specs.Refusals.{unless, first_of}
use Rattle.bands.specs.Ends.{Ordered, distance_of, distance_refusal}
use Rattle.account.specs.Changes.{Judged}

-- a figure judged by a band
abbrev pub judged : Option ℤ → Option ℤ → ℤ → Judged
judged low high x = record { low = low; high = high; figure = x }

-- why an account that has taken so many figures refuses one more: 11 beyond the limit of figures, then 12 after fifteen
abbrev pub add_refusal_of : ℤ → ℕ → Option ℕ
add_refusal_of x taken = first_of (distance_refusal x) (unless (nat_lt taken 15) 12)

-- the sum of the distances
abbrev pub distances : List Judged → ℕ
distances [] = 0
distances (j ∷ js) = distance_of j.low j.high j.figure + distances js

-- an account with this total and this count has taken just these figures, the newest first
pub record Holds (js : List Judged) (total : ℤ) (count : ℕ) : Type 0 where
  pub ordered : AllByRecursion (λ (j : Judged). Ordered j.low j.high) js
  pub many : count ≡ length js
  pub sum : total ≡ pos (distances js)

-- what an account holds after an addition that the rules refuse or let pass
abbrev pub HoldsAfter : Option ℕ → Judged → List Judged → ℤ → ℕ → Type 0
HoldsAfter (Some number) j js total count = Holds js total count
HoldsAfter None j js total count = Holds (j ∷ js) total count

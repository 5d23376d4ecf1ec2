-- A run on its way.
use Rattle.std.proofs.Common.{◌≡◌, ℕ, List, length, ℤ, Option}
use Rattle.account.specs.Histories.{Turn, Tied}

-- a run that is under way: so many turns were had, and the client was told a history that is tied to the account
pub record Underway {R C : Type 0} (low high : R → Option ℤ) (told : List (Turn R) → C → Type 0) (first : R) (turns : ℕ) (client : C) (rule : R) (total : ℤ) (count : ℕ) : Type 0 where
  pub history : List (Turn R)
  pub heard : told history client
  pub tied : Tied low high first history rule total count
  pub many : length history ≡ turns

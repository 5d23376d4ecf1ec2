-- What a client that adds one figure again and again was told, and what it chose.
use Rattle.std.specs.Prelude.{◌≡◌, ◌+◌, List, length, ℤ, Some, None, Option}
use Rattle.std.specs.List.{AllByRecursion}
use Rattle.account.specs.declared.client.Call.{Call}
use Rattle.account.specs.declared.client.Call.TheVariants.{Add}
use Rattle.account.specs.Histories.{Turn}
use Rattle.ceiling.specs.declared.client.Repeater.{Repeater}
use Rattle.ceiling.specs.declared.rule.Ceiling.{Ceiling}

-- a ceiling has no low end
abbrev pub low_of : Ceiling → Option ℤ
low_of ceiling = None

-- and its high end
abbrev pub high_of : Ceiling → Option ℤ
high_of ceiling = Some ceiling.high.quantity.units

-- each call so far added the figure, and they and those still to come are as many as planned
abbrev pub Heard : List (Turn Ceiling) → Repeater → Type 0
Heard history client = AllByRecursion (λ (t : Turn Ceiling). t.call ≡ Add client.figure) history × (length history + client.left ≡ client.planned)

-- it chose to add the figure once more, or to stop after all that was planned
abbrev pub Chose : Option (Call Ceiling) → List (Turn Ceiling) → Repeater → Type 0
Chose (Some call) history client =
    (call ≡ Add client.figure) × AllByRecursion (λ (t : Turn Ceiling). t.call ≡ Add client.figure) history × (length history + 1 + client.left ≡ client.planned)
Chose None history client = AllByRecursion (λ (t : Turn Ceiling). t.call ≡ Add client.figure) history × (length history ≡ client.planned)

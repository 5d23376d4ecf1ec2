-- What a client that judges given minutes was told, and what it chose.
use Rattle.std.specs.Prelude.{◌≡◌, ℕ, suc, ◌+◌, ◌*◌, ◌/◌, ◌%◌, ◌≤◌, cond, List, [], ◌∷◌, ◌++◌, length, Some, None, Option, ◌≢◌, nat_lt, slice_get, MatchOption}
use Rattle.account.specs.declared.client.Call.{Call}
use Rattle.account.specs.declared.client.Call.TheVariants.{Replace, Add, Total}
use Rattle.account.specs.Histories.{Turn}
use Rattle.quantity.specs.declared.power.Power.{Power}
use Rattle.quarter_hour.specs.declared.replay.Minute.{Minute}
use Rattle.quarter_hour.specs.declared.replay.Next.{Next}
use Rattle.quarter_hour.specs.declared.replay.Next.TheVariants.{Rule, Figure}
use Rattle.quarter_hour.specs.declared.replay.Replay.{Replay}

-- one minute more, where there is room
abbrev pub minutes_after : {R : Type 0} → Replay R → R → Power → Replay R
minutes_after old rule figure =
    cond (nat_lt (length old.minutes.items) 15)
    (record { minutes = record { items = old.minutes.items ++ record { rule = rule; figure = figure } ∷ [] }; next = old.next })
    old

-- how many calls come before this one: two for each minute
abbrev pub calls_before : Next → ℕ
calls_before (Rule at) = 2 * at
calls_before (Figure at) = 2 * at + 1

-- the call k, counted from 0: of each minute in turn the rule, then the figure
abbrev pub Plans : {R : Type 0} → List (Minute R) → ℕ → Call R → Type 0
Plans minutes k (Replace rule) = (k % 2 ≡ 0) × MatchOption (slice_get minutes (k / 2)) ⊥ (λ minute. minute.rule ≡ rule)
Plans minutes k (Add figure) = (k % 2 ≢ 0) × MatchOption (slice_get minutes (k / 2)) ⊥ (λ minute. minute.figure ≡ figure)
Plans minutes k Total = ⊥

-- each call of a history is the one planned
abbrev pub Planned : {R : Type 0} → List (Minute R) → List (Turn R) → Type 0
Planned minutes [] = Unit {0}
Planned minutes (t ∷ ts) = Plans minutes (length ts) t.call × Planned minutes ts

-- it made the calls that were planned, and had a turn for each
abbrev pub Heard : {R : Type 0} → List (Turn R) → Replay R → Type 0
Heard history client = Planned client.minutes.items history × (length history ≡ calls_before client.next)

-- it chose the next call that was planned, or to stop, once each minute was told
abbrev pub Chose : {R : Type 0} → Option (Call R) → List (Turn R) → Replay R → Type 0
Chose (Some call) history client =
    Plans client.minutes.items (length history) call × Planned client.minutes.items history × (suc (length history) ≡ calls_before client.next)
Chose None history client = Heard history client × (2 * length client.minutes.items ≤ length history)

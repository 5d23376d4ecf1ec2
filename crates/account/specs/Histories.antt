-- The history of an account: what was asked of it and what it answered, the newest turn first.
use Rattle.std.specs.Prelude.{◌≡◌, ℕ, ◌⊎◌, List, [], ◌∷◌, length, ℤ, Some, None, Option}
use Rattle.quantity.specs.declared.power.Power.{Power}
use Rattle.quantity.specs.Refusals.{number_of}
use Rattle.account.specs.Changes.{Judged, LeastChange}
use Rattle.account.specs.Accounts.{judged, add_refusal_of, Holds}
use Rattle.account.specs.declared.client.Call.{Call}
use Rattle.account.specs.declared.client.Call.TheVariants.{Replace, Add, Total}
use Rattle.account.specs.declared.client.Answer.{Answer}
use Rattle.account.specs.declared.client.Answer.TheVariants.{Done, Refused, Told}

-- a call and its answer
pub record Turn (R : Type 0) : Type 0 where
  pub call : Call R
  pub answer : Answer

-- a turn of this call and this answer
abbrev pub turn : {R : Type 0} → Call R → Answer → Turn R
turn call answer = record { call = call; answer = answer }

-- the rule after a call
abbrev pub rule_after : {R : Type 0} → Call R → R → R
rule_after (Replace rule) old = rule
rule_after (Add figure) old = old
rule_after Total old = old

-- the rule that holds after a history: the last one handed in
abbrev pub rule_now : {R : Type 0} → R → List (Turn R) → R
rule_now first [] = first
rule_now first (t ∷ ts) = rule_after t.call (rule_now first ts)

-- what an answer to an addition says: the figure is taken, or it is not
abbrev pub taken_by : Answer → Judged → List Judged → List Judged
taken_by Done j js = j ∷ js
taken_by (Refused why) j js = js
taken_by (Told total) j js = js

-- what a call and its answer add to the figures taken
abbrev pub taken_in : {R : Type 0} → Call R → Answer → (ℤ → Judged) → List Judged → List Judged
taken_in (Replace rule) answer judge js = js
taken_in (Add figure) answer judge js = taken_by answer (judge figure.units) js
taken_in Total answer judge js = js

-- the figures that were taken, each judged by the rule that it met
abbrev pub taken : {R : Type 0} → (R → Option ℤ) → (R → Option ℤ) → R → List (Turn R) → List Judged
taken low high first [] = []
taken low high first (t ∷ ts) = taken_in t.call t.answer (judged (low (rule_now first ts)) (high (rule_now first ts))) (taken low high first ts)

-- the answer to an addition is that it is done, or the refusal with the number that the rules give
abbrev pub AddAnswer : Option ℕ → Answer → Type 0
AddAnswer None Done = Unit {0}
AddAnswer None (Refused why) = ⊥
AddAnswer None (Told total) = ⊥
AddAnswer (Some number) Done = ⊥
AddAnswer (Some number) (Refused why) = number_of why ≡ number
AddAnswer (Some number) (Told total) = ⊥

-- the answer to a call, js being the figures taken before it
abbrev pub Says : {R : Type 0} → Call R → Answer → List Judged → Type 0
Says (Replace rule) answer js = answer ≡ Done
Says (Add figure) answer js = AddAnswer (add_refusal_of figure.units (length js)) answer
Says Total answer js = (total : Power) × (answer ≡ Told total) × LeastChange js total.units

-- each answer of a history is the one that the rules give
abbrev pub Lawful : {R : Type 0} → (R → Option ℤ) → (R → Option ℤ) → R → List (Turn R) → Type 0
Lawful low high first [] = Unit {0}
Lawful low high first (t ∷ ts) = Says t.call t.answer (taken low high first ts) × Lawful low high first ts

-- a run on a new account: the client was told a lawful history, which is whole, and the total at its end is the least change
pub record Followed {R C : Type 0} (low high : R → Option ℤ) (told : List (Turn R) → C → Type 0) (chose : Option (Call R) → List (Turn R) → C → Type 0) (first : R) (turns : ℕ) (client : C) (total : ℤ) : Type 0 where
  pub history : List (Turn R)
  pub lawful : Lawful low high first history
  -- all turns were had, or the client chose to stop
  pub whole : ((length history ≡ turns) × told history client) ⊎ chose None history client
  pub least : LeastChange (taken low high first history) total

-- what ties a history to an account: its rule is the last one handed in, and it holds the figures that were taken
pub record Tied {R : Type 0} (low high : R → Option ℤ) (first : R) (history : List (Turn R)) (rule : R) (total : ℤ) (count : ℕ) : Type 0 where
  pub lawful : Lawful low high first history
  pub rule_is : rule ≡ rule_now first history
  pub holds : Holds (taken low high first history) total count

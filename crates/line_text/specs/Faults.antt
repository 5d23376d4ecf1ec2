-- The first fault of a line, and what a reader of the line answers.
use Rattle.std.specs.Prelude.{◌≡◌, ℕ, Bool, cond, Some, None, Option, Result, MatchResult, OnErr}
use Rattle.quantity.specs.Refusals.{number_of}
use Rattle.line_text.specs.declared.fault.LineFault.{LineFault}

-- a refusal's number and the column where
pub record Fault : Type 0 where
  pub number : ℕ
  pub column : ℕ

-- a fault unless a test is passed
abbrev pub unless_at : Bool → ℕ → ℕ → Option Fault
unless_at test number column = cond test None (Some (record { number = number; column = column }))

-- the first of two checks that finds a fault
abbrev pub first_of : Option Fault → Option Fault → Option Fault
first_of (Some fault) later = Some fault
first_of None later = later

-- this is the fault
abbrev pub IsFault : LineFault → Fault → Type 0
IsFault found fault = (number_of found.refusal ≡ fault.number) × (found.column ≡ fault.column)

-- what a reader answers: the fault, or that the line is taken where there is none
abbrev pub Judged : {A : Type 0} → Option Fault → Result A LineFault → Type 0
Judged (Some fault) r = MatchResult r (λ _. ⊥) (λ found. IsFault found fault)
Judged None r = OnErr r (⊥)

-- The number of each refusal, and what a call answers that the rules refuse or let pass.
use Rattle.std.specs.Prelude.{◌≡◌, ℕ, Bool, cond, Some, None, Option, Result, MatchResult}
use Rattle.quantity.specs.declared.refusal.Refusal.{Refusal}
use Rattle.quantity.specs.declared.refusal.Refusal.TheVariants.{TermsOutOfRange, StatusNotReadable, OutOfRange, PlaceTaken, BlockNotFull, BufferTooShort, NotInForm, NotALine, NotInTurn}

-- the number by which the rules know a refusal
abbrev pub number_of : Refusal → ℕ
number_of TermsOutOfRange = 7
number_of StatusNotReadable = 10
number_of OutOfRange = 11
number_of PlaceTaken = 12
number_of BlockNotFull = 15
number_of BufferTooShort = 16
number_of NotInForm = 17
number_of NotALine = 18
number_of NotInTurn = 19

-- refused with this number
abbrev pub Refused : {A : Type 0} → ℕ → Result A Refusal → Type 0
Refused number r = MatchResult r (λ _. ⊥) (λ e. number_of e ≡ number)

-- refused with the number that the rules give, or, where they give none, an answer of which P holds
abbrev pub Answers : {A : Type 0} → Option ℕ → (A → Type 0) → Result A Refusal → Type 0
Answers (Some number) P r = Refused number r
Answers None P r = MatchResult r P (λ _. ⊥)

-- refused with this number unless a test is passed
abbrev pub unless : Bool → ℕ → Option ℕ
unless test number = cond test None (Some number)

-- the first of two checks that refuses
abbrev pub first_of : Option ℕ → Option ℕ → Option ℕ
first_of (Some number) later = Some number
first_of None later = later

-- no two refusals have one number
abbrev pub NumbersDiffer : Type 0
NumbersDiffer = (d e : Refusal) → number_of d ≡ number_of e → d ≡ e

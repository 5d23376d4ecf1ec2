-- Numbers in columns: the texts that are in the form, what writing one does to a buffer, and what reading one answers.
use Rattle.std.specs.Prelude.{◌≡◌, ℕ, zero, suc, ◌+◌, ◌-◌, ◌/◌, ◌%◌, ◌^◌, ◌<◌, ◌≤◌, Bool, cond, List, [], ◌∷◌, ◌++◌, length, drop, replicate, IfErr, Some, None, decimal, Option, Result, nat_le, nat_lt}
use Rattle.quantity.specs.Refusals.{number_of, Answers}
use Rattle.quantity.specs.declared.refusal.Refusal.{Refusal}

-- a text at the right of w columns, blanks (32) before it
abbrev pub at_right : ℕ → List ℕ → List ℕ
at_right w text = replicate (w - length text) 32 ++ text

-- a count in w columns
abbrev pub count_text_of : ℕ → ℕ → List ℕ
count_text_of w n = at_right w (decimal n)

-- the text of a count that w columns can hold
abbrev pub CountIn : ℕ → ℕ → List ℕ → Type 0
CountIn w n text = (n < 10 ^ w) × (text ≡ count_text_of w n)

-- the digits of a number alone, at most 18
abbrev pub PlainIn : ℕ → List ℕ → Type 0
PlainIn n text = (n < 10 ^ 18) × (text ≡ decimal n)

-- the last w digits of a number, zeros (48) before it where it has fewer
unfoldable pub last_digits : ℕ → ℕ → List ℕ
last_digits zero n = []
last_digits (suc w) n = last_digits w (n / 10) ++ (48 + n % 10) ∷ []

-- the digits of a number with any zeros before them, 1 to 18 in all
abbrev pub FixedIn : ℕ → List ℕ → Type 0
FixedIn n text = (0 < length text) × (length text ≤ 18) × (n < 10 ^ length text) × (text ≡ last_digits (length text) n)

-- why a number is not written, the first that applies: 11 where its columns cannot hold it, 16 where the buffer has fewer
abbrev pub write_refusal : Bool → ℕ → ℕ → Option ℕ
write_refusal fits columns room = cond fits (cond (nat_le columns room) None (Some 16)) (Some 11)

-- why a count is not written
abbrev pub count_refusal : ℕ → ℕ → ℕ → Option ℕ
count_refusal w n room = write_refusal (nat_lt n (10 ^ w)) w room

-- what a writer answers: the refusal, or that it is done where there is none
abbrev pub Writes : Option ℕ → Result Unit Refusal → Type 0
Writes refusal r = Answers refusal (λ _. Unit {0}) r

-- what a buffer holds after writing: what it held at a refusal, else the text and then what stood behind its columns
abbrev pub bytes_after : Option ℕ → List ℕ → List ℕ → List ℕ
bytes_after (Some number) text old = old
bytes_after None text old = text ++ drop (length text) old

-- what a reader answers: each x that has the text is read from it, and what is read has the text
pub record Reads {X : Type 0} (Has : X → List ℕ → Type 0) (text : List ℕ) (r : Option X) : Type 0 where
  pub written_is_read : (x : X) → Has x text → r ≡ Some x
  pub read_is_written : (x : X) → r ≡ Some x → Has x text

-- a refusal has this number
abbrev pub RefusesBy : {X : Type 0} → ℕ → Result X Refusal → Type 0
RefusesBy number r = IfErr r (λ why. number_of why ≡ number)

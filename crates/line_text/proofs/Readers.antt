-- What the readers of lines share.
use Rattle.std.proofs.Common.{◌≡◌, ℕ, true, List, [], ◌∷◌, get_or, IfOk, Some, None, Ok, Err, Option, Result, ap}
use Rattle.std.proofs.lemmas.Bool.{eqb-true, false≢true}
use Rattle.line_text.specs.Faults.{Fault, Judged}
use Rattle.line_text.specs.Letters.{is_letter}
use Rattle.line_text.specs.declared.fault.LineFault.{LineFault}

-- the first byte of a line with a letter
pub letter_is : (letter : ℕ) (line : List ℕ) → is_letter letter line ≡ true → get_or line 0 0 ≡ letter
letter_is letter [] h = absurd (false≢true h)
letter_is letter (b ∷ bs) h = eqb-true b letter h

-- what was written is read, where a line writes one thing at most and then has no fault
pub read_back :
    {A : Type 0} (Has : A → Type 0) (fault : Option Fault) → ((a b : A) → Has a → Has b → a ≡ b) → ((a : A) → Has a → fault ≡ None) →
    (r : Result A LineFault) → IfOk r Has → Judged fault r → (a : A) → Has a → r ≡ Ok a
read_back Has fault one clear (Ok b) has judged a h = ap Ok (one b a has h)
read_back Has fault one clear (Err e) has judged a h = absurd (rw (clear a h) at judged)

-- a fault, and that there is none, are the same whatever is read
pub fault_of : (A B : Type 0) (fault : Option Fault) (e : LineFault) → Judged {A = A} fault (Err e) → Judged {A = B} fault (Err e)
fault_of A B (Some f) e h = h
fault_of A B None e h = absurd h

pub taken_of : {A B : Type 0} (fault : Option Fault) (a : A) (b : B) → Judged fault (Ok a) → Judged fault (Ok b)
taken_of (Some f) a b h = absurd h
taken_of None a b h = tt

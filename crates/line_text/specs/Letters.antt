-- The letter of a line tells what kind of line it is.
use Rattle.std.specs.Prelude.{ℕ, Bool, false, List, [], ◌∷◌, Some, None, Option, ◌==◌}

-- the first character of a line, if it has any
abbrev pub letter_of : List ℕ → Option ℕ
letter_of [] = None
letter_of (b ∷ bs) = Some b

-- a line that begins with this letter
abbrev pub is_letter : ℕ → List ℕ → Bool
is_letter letter [] = false
is_letter letter (b ∷ bs) = b == letter

-- A figure is a number of units of 10^-10; its text fills 20 columns, right-justified, with ten decimals and no needless zero.
use Rattle.std.specs.Prelude.{◌≡◌, ℕ, ◌/◌, ◌^◌, ◌<◌, List, [], ◌∷◌, ◌++◌, ℤ, pos, negsuc, decimal, Option, nat_lt, unsigned_abs}
use Rattle.count_text.specs.Columns.{at_right, last_digits, write_refusal}

-- a figure that its columns can hold: at most eight digits before the point
abbrev pub IsWritable : ℤ → Type 0
IsWritable x = unsigned_abs x < 10 ^ 18

-- the minus (45) of a negative figure
abbrev pub mark : ℤ → List ℕ
mark (pos n) = []
mark (negsuc n) = 45 ∷ []

-- a size of so many units: its wholes, the point (46) and ten decimals
abbrev pub size_text : ℕ → List ℕ
size_text n = decimal (n / 10 ^ 10) ++ 46 ∷ last_digits 10 n

-- a figure's sign and size
abbrev pub signed_text : ℤ → List ℕ
signed_text x = mark x ++ size_text (unsigned_abs x)

-- a figure at the right of its 20 columns
abbrev pub figure_text_of : ℤ → List ℕ
figure_text_of x = at_right 20 (signed_text x)

-- the text of a figure that its columns can hold
abbrev pub FigureIn : ℤ → List ℕ → Type 0
FigureIn x text = IsWritable x × (text ≡ figure_text_of x)

-- the same with no blanks before it
abbrev pub SignedIn : ℤ → List ℕ → Type 0
SignedIn x text = IsWritable x × (text ≡ signed_text x)

-- what stands before the point, at the right of its nine columns
abbrev pub whole_text : ℤ → List ℕ
whole_text x = at_right 9 (mark x ++ decimal (unsigned_abs x / 10 ^ 10))

-- the text of a size
abbrev pub SizeIn : ℕ → List ℕ → Type 0
SizeIn n text = (n < 10 ^ 18) × (text ≡ size_text n)

-- why a figure is not written
abbrev pub figure_refusal : ℤ → ℕ → Option ℕ
figure_refusal x room = write_refusal (nat_lt (unsigned_abs x) (10 ^ 18)) 20 room

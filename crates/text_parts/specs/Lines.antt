-- The lines of a text, and what it is to hand out the next one.
use Rattle.std.specs.Prelude.{◌≡◌, ℕ, ◌+◌, cond, List, [], ◌∷◌, ◌++◌, ◌==◌}
use Rattle.std.specs.Io.BufRead.{take_through}
use Rattle.text_parts.specs.declared.line.Line.{Line}
use Rattle.text_parts.specs.declared.lines.Lines.{Lines}

-- a byte more before the first line
abbrev pub begun : ℕ → List (List ℕ) → List (List ℕ)
begun b [] = (b ∷ []) ∷ []
begun b (line ∷ lines) = (b ∷ line) ∷ lines

-- the lines of a text
abbrev pub lines_of : List ℕ → List (List ℕ)
lines_of [] = []
lines_of (b ∷ bs) = cond (b == 10) ((b ∷ []) ∷ lines_of bs) (begun b (lines_of bs))

-- what was not handed out yet
abbrev pub rest_of : Lines → List ℕ
rest_of lines = lines.rest.now

-- nothing is left, and nothing changes
abbrev pub Ended : Lines → Lines → Type 0
Ended before after = (rest_of before ≡ []) × (after ≡ before)

-- the first line of what was left is handed out with its number, and the lines after it are left
pub record Advanced (before after : Lines) (line : Line) : Type 0 where
  pub is : line.bytes.now ≡ take_through 10 (rest_of before)
  pub rest : rest_of before ≡ line.bytes.now ++ rest_of after
  pub first : lines_of (rest_of before) ≡ line.bytes.now ∷ lines_of (rest_of after)
  pub number : line.number ≡ before.taken + 1
  pub taken : after.taken ≡ before.taken + 1

-- The fields of a line: which columns it has, and what a field of it holds.
use Rattle.std.specs.Prelude.{◌≡◌, ℕ, ◌+◌, ◌-◌, ◌<◌, ◌≤◌, length, take, drop}
use Rattle.text_parts.specs.declared.line.Line.{Line}
use Rattle.text_parts.specs.declared.field.Field.{Field}

-- a line has so many columns from this one on, which is counted from 1
abbrev pub Stands : ℕ → ℕ → Line → Type 0
Stands first columns line = (0 < first) × ((first - 1) + columns ≤ length line.bytes.now)

-- a field is so many columns of a line from the first on, and says where they stand
pub record Cut (first columns : ℕ) (whole : Line) (field : Field) : Type 0 where
  pub stands : Stands first columns whole
  pub bytes : field.bytes.now ≡ take columns (drop (first - 1) whole.bytes.now)
  pub line : field.line ≡ whole.number
  pub column : field.column ≡ first

-- The opening line of a statement.
use Rattle.std.specs.Prelude.{ℕ, Bool, true, ◌&&◌, ◌||◌, List, [], ◌∷◌, ◌++◌, Option, ◌==◌, ◌≢◌, nat_le}
use Rattle.count_text.specs.Columns.{count_text_of, write_refusal}
use Rattle.count_text.specs.Forms.{number_in, is_count}
use Rattle.line_text.specs.Faults.{Fault, unless_at, first_of}
use Rattle.line_text.specs.NumberedRows.{is_whole, field_at}
use Rattle.statement_lines.specs.declared.day_length.DayLength.{DayLength}
use Rattle.statement_lines.specs.declared.day_length.DayLength.TheVariants.{Short, Ordinary, Long}
use Rattle.statement_lines.specs.declared.opening.Opening.{Opening}

-- the quarter hours of a day: one of 23 hours, of 24 or of 25
abbrev pub quarter_hours_of : DayLength → ℕ
quarter_hours_of Short = 92
quarter_hours_of Ordinary = 96
quarter_hours_of Long = 100

-- no day has so many quarter hours
abbrev pub OtherLength : ℕ → Type 0
OtherLength n = (length : DayLength) → quarter_hours_of length ≢ n

-- an opening behind its letter: the day in six columns, its quarter hours in three, the groups in one
abbrev pub behind_letter : Opening → List ℕ
behind_letter o = count_text_of 6 o.day.number ++ (count_text_of 3 (quarter_hours_of o.length) ++ (count_text_of 1 o.groups.number ++ (10 ∷ [])))

-- the opening line: D (68)
abbrev pub opening_text : Opening → List ℕ
opening_text o = 68 ∷ behind_letter o

-- a number from 1 to a limit in so many columns
abbrev pub is_up_to : ℕ → ℕ → List ℕ → Bool
is_up_to most w text = is_count w text && (nat_le 1 (number_in text) && nat_le (number_in text) most)

-- a day from 1 to 999,999 in six columns
abbrev pub is_day : List ℕ → Bool
is_day text = is_up_to 999999 6 text

-- quarter hours that a day may have, in three columns
abbrev pub is_day_length : List ℕ → Bool
is_day_length text = is_count 3 text && (number_in text == 92 || (number_in text == 96 || number_in text == 100))

-- one to eight groups in one column
abbrev pub is_group_count : List ℕ → Bool
is_group_count text = is_up_to 8 1 text

-- what is wrong behind the letter, in the order of checks: the length, then each field from the left
abbrev pub opening_fault : List ℕ → Option Fault
opening_fault line =
    first_of (unless_at (is_whole 12 line) 18 1)
    (first_of (unless_at (is_day (field_at 1 6 line)) 17 2)
    (first_of (unless_at (is_day_length (field_at 7 3 line)) 17 8)
    (unless_at (is_group_count (field_at 10 1 line)) 17 11)))

-- why an opening is not written: its columns always hold it, so only where the buffer is shorter
abbrev pub opening_refusal : ℕ → Option ℕ
opening_refusal room = write_refusal true 12 room

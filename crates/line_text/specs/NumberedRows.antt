-- A numbered row is a line of a letter, a count, figures one after another and LF.
use Rattle.std.specs.Prelude.{◌≡◌, ℕ, zero, suc, ◌+◌, ◌-◌, ◌*◌, ◌/◌, ◌^◌, ◌<◌, Bool, ◌&&◌, List, [], ◌∷◌, ◌++◌, length, take, drop, ℤ, None, Option, ◌==◌, nat_lt, slice_index}
use Rattle.count_text.specs.Columns.{count_text_of, write_refusal}
use Rattle.count_text.specs.Forms.{is_count}
use Rattle.figure_text.specs.Forms.{is_figure}
use Rattle.figure_text.specs.Rows.{Writable, row_text, writable}
use Rattle.line_text.specs.Faults.{Fault, unless_at, first_of}

-- a line of so many bytes, the last of them LF (10)
abbrev pub is_whole : ℕ → List ℕ → Bool
is_whole size line = (length line) == size && (slice_index line (size - 1)) == 10

-- some columns of a line, behind so many others
abbrev pub field_at : ℕ → ℕ → List ℕ → List ℕ
field_at before columns line = take columns (drop before line)

-- the text of a numbered row with a count in w columns
abbrev pub numbered_text : ℕ → ℕ → ℕ → List ℤ → List ℕ
numbered_text letter w n xs = letter ∷ (count_text_of w n ++ (row_text xs ++ (10 ∷ [])))

-- a line that is one, of a count and figures that their columns can hold
abbrev pub NumberedIn : ℕ → ℕ → ℕ → List ℤ → List ℕ → Type 0
NumberedIn letter w n xs line = (n < 10 ^ w) × Writable xs × (line ≡ numbered_text letter w n xs)

-- the first of k figures that is not in its form, the first beginning at a column
unfoldable pub row_fault : ℕ → ℕ → List ℕ → Option Fault
row_fault zero column text = None
row_fault (suc k) column text = first_of (unless_at (is_figure (take 20 text)) 17 column) (row_fault k (column + 20) (drop 20 text))

-- what is wrong behind the letter, in the order of checks: the length, the count, each of k figures from the left
abbrev pub numbered_fault : ℕ → ℕ → List ℕ → Option Fault
numbered_fault w k line =
    first_of (unless_at (is_whole (2 + w + 20 * k) line) 18 1)
    (first_of (unless_at (is_count w (field_at 1 w line)) 17 2)
    (row_fault k (2 + w) (drop (1 + w) line)))

-- how many figures stand before a column
abbrev pub figures_before : ℕ → ℕ → ℕ
figures_before w column = (column - (2 + w)) / 20

-- why a numbered row is not written: 11 where a count or a figure is too wide, 16 where the buffer is shorter
abbrev pub numbered_refusal : ℕ → ℕ → List ℤ → ℕ → Option ℕ
numbered_refusal w n xs room = write_refusal (nat_lt n (10 ^ w) && writable xs) (2 + w + 20 * length xs) room

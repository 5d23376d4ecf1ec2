-- Figures one after another, twenty columns each.
use Rattle.std.specs.Prelude.{◌≡◌, ℕ, ◌*◌, ◌^◌, ◌<◌, Bool, List, length, take, drop, ℤ, pos, Ok, Err, Option, Result, nat_lt, slice_index_or, unsigned_abs}
use Rattle.std.specs.List.{All, flat_map, list_all}
use Rattle.count_text.specs.Columns.{write_refusal}
use Rattle.figure_text.specs.Figures.{IsWritable, figure_text_of, FigureIn}

-- the text of figures in a row
abbrev pub row_text : List ℤ → List ℕ
row_text xs = flat_map figure_text_of xs

-- each of them can be written
abbrev pub Writable : List ℤ → Type 0
Writable xs = All IsWritable xs

-- whether each of them can be written
abbrev pub writable : List ℤ → Bool
writable xs = list_all (λ x. nat_lt (unsigned_abs x) (10 ^ 18)) xs

-- why a row is not written
abbrev pub row_refusal : List ℤ → ℕ → Option ℕ
row_refusal xs room = write_refusal (writable xs) (20 * length xs) room

-- the columns of the figure k, counted from 0
abbrev pub figure_field : ℕ → List ℕ → List ℕ
figure_field k text = take 20 (drop (20 * k) text)

-- x is the figure of a text, and no other is
abbrev pub OneFigure : ℤ → List ℕ → Type 0
OneFigure x text = FigureIn x text × ((y : ℤ) → FigureIn y text → y ≡ x)

-- the first k places hold the figures of the text, and the others what they held before
abbrev pub Filled : ℕ → List ℕ → List ℤ → List ℤ → Type 0
Filled k text old new = ((i : ℕ) → i < k → OneFigure (slice_index_or new i (pos 0)) (figure_field i text)) × (drop k new ≡ drop k old)

-- what a reader of a row answers: every place is filled, or the places before the first figure that is not in its form
abbrev pub RowRead : List ℕ → Result Unit ℕ → List ℤ → List ℤ → Type 0
RowRead text (Ok _) old new = Filled (length old) text old new
RowRead text (Err k) old new = (k < length old) × Filled k text old new × ((x : ℤ) → FigureIn x (figure_field k text) → ⊥)

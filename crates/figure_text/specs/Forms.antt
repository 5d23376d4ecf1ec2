-- The figure that a text gives, and whether a text is that of a figure.
use Rattle.std.specs.Prelude.{ℕ, ◌^◌, Bool, cond, ◌&&◌, List, ℤ, pos, neg_ℤ, ◌==◌, nat_lt, unsigned_abs}
use Rattle.std.specs.List.{list_any}
use Rattle.std.specs.Str.{bytes_eq}
use Rattle.count_text.specs.Forms.{number_in}
use Rattle.figure_text.specs.Figures.{figure_text_of}

-- whether a text has a minus (45)
unfoldable pub has_minus : List ℕ → Bool
has_minus text = list_any (λ b. b == 45) text

-- the figure that the digits of a text give, below zero where it has a minus
unfoldable pub figure_in : List ℕ → ℤ
figure_in text = cond (has_minus text) (neg_ℤ (pos (number_in text))) (pos (number_in text))

-- whether a text is that of a figure: writing the figure that it gives gives the text again
unfoldable pub is_figure : List ℕ → Bool
is_figure text = nat_lt (unsigned_abs (figure_in text)) (10 ^ 18) && bytes_eq text (figure_text_of (figure_in text))

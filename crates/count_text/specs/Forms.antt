-- The number that a text gives, and whether a text is that of a count.
use Rattle.std.specs.Prelude.{ℕ, ◌+◌, ◌-◌, ◌*◌, ◌^◌, Bool, cond, ◌&&◌, List, [], ◌∷◌, nat_lt}
use Rattle.std.specs.Char.{is_ascii_digit}
use Rattle.std.specs.Str.{bytes_eq}
use Rattle.count_text.specs.Columns.{count_text_of}

-- the number that the digits of a text give from the left, after those before it; other bytes are passed over
unfoldable pub number_from : ℕ → List ℕ → ℕ
number_from sofar [] = sofar
number_from sofar (b ∷ bs) = number_from (cond (is_ascii_digit b) (10 * sofar + (b - 48)) sofar) bs

-- the number that the digits of a whole text give
unfoldable pub number_in : List ℕ → ℕ
number_in text = number_from 0 text

-- whether a text is that of a count in w columns: writing the number that its digits give gives the text again
unfoldable pub is_count : ℕ → List ℕ → Bool
is_count w text = nat_lt (number_in text) (10 ^ w) && bytes_eq text (count_text_of w (number_in text))

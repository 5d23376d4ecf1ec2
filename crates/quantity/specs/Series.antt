-- Series of figures: what lies within limits, and what they come to.
use Rattle.std.specs.Prelude.{◌^◌, Bool, ◌&&◌, List, [], ◌∷◌, ℤ, pos, ◌+ℤ◌, int_le}

-- the largest power that any call takes: 10,000 MW
abbrev pub power_limit : ℤ
power_limit = pos (10 ^ 14)

-- a figure from low to high, both included
abbrev pub within : ℤ → ℤ → ℤ → Bool
within low high x = int_le low x && int_le x high

-- what they come to
abbrev pub total : List ℤ → ℤ
total [] = pos 0
total (x ∷ xs) = x +ℤ total xs

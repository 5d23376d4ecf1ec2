-- To round n / d is to take the nearest whole number, a half going away from zero.
use Rattle.std.specs.Prelude.{◌≡◌, ℕ, suc, ◌+◌, ◌*◌, ◌/◌, ◌<◌, ◌≤◌, ℤ, pos, negsuc, ◌-ℤ◌, ◌*ℤ◌, neg_ℤ, unsigned_abs}

-- the size of a quotient: n / d and a half, rounded down
abbrev pub nearest : ℕ → ℕ → ℕ
nearest n d = (2 * n + d) / (2 * d)

-- a quotient is rounded by its size and keeps its sign
abbrev pub rounded : ℤ → ℕ → ℤ
rounded (pos n) d = pos (nearest n d)
rounded (negsuc n) d = neg_ℤ (pos (nearest (suc n) d))

-- q is as near to n / d as a whole number can be: within half a divisor, and of two that are equally near the farther from zero
pub record Nearest (n : ℤ) (d : ℕ) (q : ℤ) : Type 0 where
  pub close : 2 * unsigned_abs (n -ℤ q *ℤ pos d) ≤ d
  pub away : 2 * unsigned_abs (n -ℤ q *ℤ pos d) ≡ d → unsigned_abs n < unsigned_abs (q *ℤ pos d)

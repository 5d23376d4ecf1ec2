-- The digits that a number has.
use Rattle.std.proofs.Common.{◌≡◌, ℕ, zero, suc, ◌+◌, ◌*◌, ◌/◌, ◌^◌, ◌<◌, ◌≤◌, length, get_or, decimal, Option, Some, None, IfSome, IfNone, unwrap_or, sym, ap, ◌∙◌, pow-suc, add-one, arith}
use native.Mathlib.Nat.{pow-le-pow_right}
use Rattle.std.proofs.lemmas.Fmt.{decimal_nonempty, decimal_is_IsNumeral, decimal_step, decimal_digit, first_decimal, length-decimal-le}
use Rattle.std.proofs.lemmas.Int.Digits.{digits_value-lt}
use Rattle.std.proofs.lemmas.List.{length_push}
use Rattle.std.proofs.lemmas.Str.Parse.{digit_at}

pub length_step : (n : ℕ) → 10 ≤ n → n < 2 ^ 64 → length (decimal n) ≡ length (decimal (n / 10)) + 1
length_step n ten small = ap length (decimal_step n ten small) ∙ length_push _ _

pub length_digit : (n : ℕ) → n < 10 → length (decimal n) ≡ 1
length_digit n h = ap length (decimal_digit n h)

pub first_is_digit : (n : ℕ) → n < 2 ^ 64 → 48 ≤ get_or (decimal n) 0 0
first_is_digit n h = omega (arith, digit_at (decimal n) 0 (decimal_is_IsNumeral n h).0.1 (decimal_nonempty n h))

pub no_needless_zero : (n : ℕ) → n < 2 ^ 64 → get_or (decimal n) 0 0 ≡ 48 → length (decimal n) ≡ 1
no_needless_zero zero h e = length_digit 0 (omega arith)
no_needless_zero (suc n) h e = let f = first_decimal (suc n) (omega arith) h in absurd (let q : ⊥ = omega arith in q)

pub pow_ten_le : (a b : ℕ) → a ≤ b → 10 ^ a ≤ 10 ^ b
pow_ten_le a b h = let one : 0 < 10 = omega arith in pow-le-pow_right one h

pub lt_by_length : (w n : ℕ) → n < 2 ^ 64 → length (decimal n) ≤ w → n < 10 ^ w
lt_by_length w n small h =
    let d = decimal_is_IsNumeral n small in
    let v : n < 10 ^ length (decimal n) = rw d.1 at (digits_value-lt 10 (decimal n) d.0.1) in
    omega (arith, pow_ten_le (length (decimal n)) w h)

-- ten to the power of k, or more, and less than ten times that has k + 1 digits
length_by_power : (k n : ℕ) → n < 2 ^ 64 → 10 ^ k ≤ n → n < 10 * 10 ^ k → k + 1 ≡ length (decimal n)
length_by_power k n small least next =
    let most = length-decimal-le (k + 1) n (omega arith) (rw add-one (omega (arith, pow-suc 10 k))) small in
    let more : length (decimal n) ≤ k → ⊥ = λ few. omega (arith, lt_by_length k n small few) in
    omega arith

-- the digits are one more than the logarithm, which 0 has none of
pub length_by_log :
    (log : Option ℕ) (n : ℕ) → n < 2 ^ 64 → IfNone log (n ≡ 0) → IfSome log (λ k. 10 ^ k ≤ n) →
    IfSome log (λ k. n < 10 * 10 ^ k) → unwrap_or log 0 + 1 ≡ length (decimal n)
length_by_log None n small none least next = rw none (sym (length_digit 0 (omega arith)))
length_by_log (Some k) n small none least next = length_by_power k n small least next

-- One more place of a long division.
use Rattle.std.proofs.Common.{◌≡◌, ℕ, ◌+◌, ◌*◌, ◌/◌, ◌%◌, ◌^◌, ◌<◌, ◌≤◌, sym, ap, ◌∙◌, mul_assoc, mul_comm, div-lt_iff_lt-mul, add-mul, pow-suc, div-add-mod', add-one, arith}
use native.Mathlib.Nat.{pow-le-pow_right}

pub ten_more : (i : ℕ) → 10 ^ (i + 1) ≡ 10 ^ i * 10
ten_more i = rw add-one (pow-suc 10 i)

module _ (part whole digits rest i : ℕ) (small : rest < whole) (few : digits < 10 ^ i) (is : part * 10 ^ i ≡ digits * whole + rest) where
  digit_small : rest * 10 / whole < 10
  digit_small = let p : 0 < whole = omega arith in (div-lt_iff_lt-mul p).1 (omega arith)

  pub more_digits : digits * 10 + rest * 10 / whole < 10 ^ (i + 1)
  more_digits = omega (arith, ten_more i, digit_small)

  pub more_is : part * 10 ^ (i + 1) ≡ (digits * 10 + rest * 10 / whole) * whole + rest * 10 % whole
  more_is =
      let p : part * 10 ^ (i + 1) ≡ part * 10 ^ i * 10 = ap (λ t. part * t) (ten_more i) ∙ sym (mul_assoc part (10 ^ i) 10) in
      let d : rest * 10 / whole * whole + rest * 10 % whole ≡ rest * 10 = div-add-mod' (rest * 10) whole in
      let a : (digits * 10 + rest * 10 / whole) * whole ≡ digits * 10 * whole + rest * 10 / whole * whole = add-mul (digits * 10) (rest * 10 / whole) whole in
      let m : digits * 10 * whole ≡ digits * whole * 10 = mul_assoc digits 10 whole ∙ ap (λ t. digits * t) (mul_comm 10 whole) ∙ sym (mul_assoc digits whole 10) in
      omega arith

  pub places_fit : i ≤ 12 → digits < 10 ^ 12
  places_fit h = let one : 0 < 10 = omega arith in omega (arith, pow-le-pow_right one h)

  pub place_fits : i < 12 → digits * 10 + rest * 10 / whole < 10 ^ 12
  place_fits h = let one : 0 < 10 = omega arith in let le : i + 1 ≤ 12 = omega arith in omega (arith, more_digits, pow-le-pow_right one le)

-- Rounded quotients: what they come to, that they are nearest, and that nothing else is.
use Rattle.std.proofs.Common.{◌≡◌, ℕ, zero, suc, ◌+◌, ◌*◌, ◌^◌, ◌<◌, ◌≤◌, ℤ, pos, negsuc, ◌-ℤ◌, ◌*ℤ◌, neg_ℤ, nat_abs, sym, refl, ap, suc-mul, add-mul, lt_of_mul-lt-mul_right, mul-le-mul_left, div-mul-le_self, mul_left_comm, arith, w64, SFits}
use native.Mathlib.Nat.{div-eq_of_lt-le, lt-div-mul-add}
use lib.IntN.{neg_ℤ-neg_ℤ}
use mir.Syntax.{w128}
use Rattle.std.proofs.lemmas.Int.{ints}
use Rattle.quantity.specs.Rounding.{nearest, rounded, Nearest}

-- ---- from a quotient and a remainder
module _ (n d q r : ℕ) (is : n ≡ q * d + r) (small : r < d) where
  pub nearest_up : d ≤ 2 * r → nearest n d ≡ q + 1
  nearest_up h =
      let p : q * (2 * d) ≡ 2 * (q * d) = mul_left_comm q 2 d in
      let a : (q + 1) * (2 * d) ≡ q * (2 * d) + 1 * (2 * d) = add-mul q 1 (2 * d) in
      let b : (q + 1 + 1) * (2 * d) ≡ (q + 1) * (2 * d) + 1 * (2 * d) = add-mul (q + 1) 1 (2 * d) in
      div-eq_of_lt-le (2 * d) (omega arith) (omega arith)

  pub nearest_down : 2 * r < d → nearest n d ≡ q
  nearest_down h =
      let p : q * (2 * d) ≡ 2 * (q * d) = mul_left_comm q 2 d in
      let a : (q + 1) * (2 * d) ≡ q * (2 * d) + 1 * (2 * d) = add-mul q 1 (2 * d) in
      div-eq_of_lt-le (2 * d) (omega arith) (omega arith)

-- ---- nearest it is
spans : (n d : ℕ) → 0 < d → (2 * (nearest n d * d) ≤ 2 * n + d) × (2 * n + d < 2 * (nearest n d * d) + 2 * d)
spans n d h =
    let two : 0 < 2 * d = omega arith in
    let p : nearest n d * (2 * d) ≡ 2 * (nearest n d * d) = mul_left_comm (nearest n d) 2 d in
    let a : nearest n d * (2 * d) ≤ 2 * n + d = div-mul-le_self (2 * n + d) (2 * d) in
    let b : 2 * n + d < nearest n d * (2 * d) + 2 * d = lt-div-mul-add two in
    (omega arith, omega arith)

gap_close : (n p d : ℕ) → 2 * p ≤ 2 * n + d → 2 * n + d < 2 * p + 2 * d → 2 * nat_abs (pos n -ℤ pos p) ≤ d
gap_close n p d a b = grind (arith, ints)

gap_away : (n p d : ℕ) → 2 * p ≤ 2 * n + d → 2 * n + d < 2 * p + 2 * d → 2 * nat_abs (pos n -ℤ pos p) ≡ d → n < p
gap_away n p d a b e = grind (arith, ints)

nat_abs-neg : (z : ℤ) → nat_abs (neg_ℤ z) ≡ nat_abs z
nat_abs-neg (pos zero) = refl
nat_abs-neg (pos (suc n)) = refl
nat_abs-neg (negsuc n) = refl

neg_scaled : (q d : ℕ) → neg_ℤ (pos q) *ℤ pos d ≡ neg_ℤ (pos (q * d))
neg_scaled zero d = let e : 0 * d ≡ 0 = omega arith in rw e
neg_scaled (suc q) d = refl

-- below zero the gap is the one above zero, turned round
turned : (n p : ℕ) → nat_abs (negsuc n -ℤ neg_ℤ (pos p)) ≡ nat_abs (pos (suc n) -ℤ pos p)
turned n p = rw neg_ℤ-neg_ℤ (grind (arith, ints))

pub rounded-nearest : (n : ℤ) (d : ℕ) → 0 < d → Nearest n d (rounded n d)
rounded-nearest (pos n) d h =
    let s = spans n d h in
    record { close = gap_close n (nearest n d * d) d s.0 s.1; away = gap_away n (nearest n d * d) d s.0 s.1 }
rounded-nearest (negsuc n) d h =
    let s = spans (suc n) d h in
    let q = nearest (suc n) d in
    record {
      close = rw (neg_scaled q d, turned n (q * d)) (gap_close (suc n) (q * d) d s.0 s.1);
      away = rw (neg_scaled q d, turned n (q * d), nat_abs-neg (pos (q * d))) (gap_away (suc n) (q * d) d s.0 s.1);
    }

-- ---- and nothing else is
gap_lo : (n p d : ℕ) → 2 * nat_abs (pos n -ℤ pos p) ≤ d → 2 * p ≤ 2 * n + d
gap_lo n p d a = grind (arith, ints)

gap_hi : (n p d : ℕ) → 0 < d → 2 * nat_abs (pos n -ℤ pos p) ≤ d → (2 * nat_abs (pos n -ℤ pos p) ≡ d → n < p) → 2 * n + d < 2 * p + 2 * d
gap_hi n p d h a b = grind (arith, ints)

size_alone : (n m d : ℕ) → 0 < d → 2 * nat_abs (pos n -ℤ pos (m * d)) ≤ d → (2 * nat_abs (pos n -ℤ pos (m * d)) ≡ d → n < m * d) → m ≡ nearest n d
size_alone n m d h a b =
    let p : m * (2 * d) ≡ 2 * (m * d) = mul_left_comm m 2 d in
    let s : (m + 1) * (2 * d) ≡ m * (2 * d) + 1 * (2 * d) = add-mul m 1 (2 * d) in
    let lo = gap_lo n (m * d) d a in
    let hi = gap_hi n (m * d) d h a b in
    sym (div-eq_of_lt-le (2 * d) (omega arith) (omega arith))

-- the signs cannot differ
same_sign : (n k d : ℕ) → 0 < d → 2 * nat_abs (pos n -ℤ neg_ℤ (pos (suc k * d))) ≤ d → ⊥
same_sign n k d h a =
    let p : suc k * d ≡ k * d + d = suc-mul k d in
    let b : 2 * nat_abs (pos n -ℤ neg_ℤ (pos (k * d + d))) ≤ d = rw p at a in
    grind (arith, ints)

pub nearest_alone : (n : ℤ) (d : ℕ) (q : ℤ) → 0 < d → Nearest n d q → q ≡ rounded n d
nearest_alone (pos n) d (pos m) h near = ap pos (size_alone n m d h near.close near.away)
nearest_alone (pos n) d (negsuc k) h near = absurd (same_sign n k d h near.close)
nearest_alone (negsuc n) d (pos zero) h near =
    let z : 0 * d ≡ 0 = omega arith in
    let a : 2 * nat_abs (negsuc n -ℤ pos 0) ≤ d = rw z at near.close in
    let b : 2 * nat_abs (negsuc n -ℤ pos 0) ≡ d → suc n < 0 = rw z at near.away in
    let none : nearest (suc n) d ≡ 0 = nearest_down (suc n) d 0 (suc n) (omega arith) (grind (arith, ints)) (grind (arith, ints)) in
    sym (ap (λ z. neg_ℤ (pos z)) none)
nearest_alone (negsuc n) d (pos (suc m)) h near =
    let p : suc m * d ≡ m * d + d = suc-mul m d in
    let a : 2 * nat_abs (negsuc n -ℤ pos (m * d + d)) ≤ d = rw p at near.close in
    let none : ⊥ = grind (arith, ints) in
    absurd none
nearest_alone (negsuc n) d (negsuc k) h near =
    let a = rw (turned n (suc k * d)) at near.close in
    let b = rw (turned n (suc k * d), nat_abs-neg (pos (suc k * d))) at near.away in
    ap (λ z. neg_ℤ (pos z)) (size_alone (suc n) (suc k) d h a b)

-- ---- the size of a product
pub nat_abs_scaled : (z : ℤ) (m : ℕ) → nat_abs (z *ℤ pos m) ≡ nat_abs z * m
nat_abs_scaled (pos n) m = refl
nat_abs_scaled (negsuc n) m = nat_abs-neg (pos (suc n * m))

pub scaled_small : (z : ℤ) (m : ℕ) → SFits w64 z → m < 2 ^ 8 → nat_abs (z *ℤ pos m) < 2 ^ 72
scaled_small z m fits h =
    let size : nat_abs z ≤ 2 ^ 63 = omega (arith, ints) in
    let a : nat_abs z * m ≤ nat_abs z * 255 = mul-le-mul_left (nat_abs z) (omega arith) in
    rw nat_abs_scaled (omega arith)

pub wide_fits : (z : ℤ) → nat_abs z < 2 ^ 72 → SFits w128 z
wide_fits z h = omega (arith, ints)

-- ---- a quotient by sixty of at most sixty times a figure fits where the figure did
nearest-within : (n b d : ℕ) → 0 < d → n ≤ b * d → nearest n d ≤ b
nearest-within n b d h le =
    let s = spans n d h in
    let e : (b + 1) * d ≡ b * d + 1 * d = add-mul b 1 d in
    let lt : nearest n d * d < (b + 1) * d = omega arith in
    let r : nearest n d < b + 1 = lt_of_mul-lt-mul_right d lt in
    omega arith

pub nearest_less : (n d : ℕ) → 0 < d → nearest n d ≤ n
nearest_less n d h = let le : n * 1 ≤ n * d = mul-le-mul_left n h in nearest-within n n d h (omega arith)

rounded-neg : (k d : ℕ) → 0 < d → rounded (neg_ℤ (pos k)) d ≡ neg_ℤ (pos (nearest k d))
rounded-neg zero d h =
    let none : nearest 0 d ≡ 0 = nearest_down 0 d 0 0 (omega arith) h (omega arith) in
    rw none
rounded-neg (suc k) d h = refl

pub rounded-within : (z : ℤ) (b d : ℕ) → 0 < d → nat_abs z ≤ b * d → nat_abs (rounded z d) ≤ b
rounded-within (pos n) b d h le = nearest-within n b d h le
rounded-within (negsuc n) b d h le = rw (nat_abs-neg (pos (nearest (suc n) d))) (nearest-within (suc n) b d h le)

neg_fits : (k n : ℕ) → k ≤ suc n → n < 2 ^ 63 → SFits w64 (neg_ℤ (pos k))
neg_fits k n le h = omega (arith, ints)

pub lasting_fits : (z : ℤ) (m : ℕ) → SFits w64 z → m ≤ 60 → SFits w64 (rounded (z *ℤ pos m) 60)
lasting_fits (pos n) m fits h =
    let le : n * m ≤ n * 60 = mul-le-mul_left n h in
    let w = nearest-within (n * m) n 60 (omega arith) le in
    omega (arith, ints)
lasting_fits (negsuc n) m fits h =
    let le : suc n * m ≤ suc n * 60 = mul-le-mul_left (suc n) h in
    let w = nearest-within (suc n * m) (suc n) 60 (omega arith) le in
    rw (rounded-neg (suc n * m) 60 (omega arith)) (neg_fits (nearest (suc n * m) 60) n w (omega (arith, ints)))

pub rounded_fits : (z : ℤ) (d : ℕ) → 0 < d → SFits w64 z → SFits w64 (rounded z d)
rounded_fits (pos n) d h fits =
    let w = nearest_less n d h in
    omega (arith, ints)
rounded_fits (negsuc n) d h fits =
    neg_fits (nearest (suc n) d) n (nearest_less (suc n) d h) (omega (arith, ints))

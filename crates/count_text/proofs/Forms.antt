-- The text of a count gives its number, and is known by it.
use Rattle.std.proofs.Common.{◌≡◌, ℕ, zero, suc, ◌+◌, ◌-◌, ◌*◌, ◌/◌, ◌%◌, ◌^◌, ◌<◌, ◌≤◌, true, false, ltb, List, [], ◌∷◌, ◌++◌, length, replicate, decimal, sym, refl, ap, ◌∙◌, inl, inr, mul_comm, pow-suc, arith}
use native.Mathlib.Nat.{div-div-eq-div-mul}
use Rattle.std.specs.Str.Parse.{AllDigits}
use Rattle.std.specs.List.{AllByRecursion}
use Rattle.std.specs.Str.{bytes_eq}
use Rattle.std.proofs.lemmas.Fmt.{decimal_by_steps, decimal_is_IsNumeral}
use Rattle.std.proofs.ByRecursion.{All-append}
use Rattle.std.proofs.lemmas.Slice.Eq.{bytes_eq-Decides}
use Rattle.std.proofs.lemmas.Str.Parse.{digit_from_value}
use Rattle.std.proofs.lemmas.Bool.{and_from, and_parts, cases_Bool, lt-ltb, ltb-true}
use Rattle.std.proofs.lemmas.Bool.Decides.{nat_tests}
use Rattle.count_text.specs.Columns.{count_text_of, CountIn, last_digits}
use Rattle.count_text.specs.Forms.{number_from, number_in, is_count}
use Rattle.count_text.proofs.Decimals.{pow_ten_le}

-- ---- the number that a text gives
pub number_append : (xs ys : List ℕ) (a : ℕ) → number_from a (xs ++ ys) ≡ number_from (number_from a xs) ys
unfolding number_from
number_append [] ys a = refl
number_append (x ∷ xs) ys a = number_append xs ys _

pub number_digit : (a d : ℕ) → d < 10 → number_from a ((48 + d) ∷ []) ≡ 10 * a + d
unfolding number_from
number_digit a d h = grind (arith, nat_tests)

pub number_push : (a d : ℕ) (xs : List ℕ) → d < 10 → number_from a (xs ++ (48 + d) ∷ []) ≡ 10 * number_from a xs + d
number_push a d xs h = number_append xs ((48 + d) ∷ []) a ∙ number_digit (number_from a xs) d h

pub number_blanks : (a k : ℕ) (xs : List ℕ) → number_from a (replicate k 32 ++ xs) ≡ number_from a xs
unfolding number_from
number_blanks a zero xs = refl
number_blanks a (suc k) xs = number_blanks a k xs

pub number_decimal : (n : ℕ) → n < 2 ^ 64 → number_from 0 (decimal n) ≡ n
number_decimal =
    decimal_by_steps (λ n ds. number_from 0 ds ≡ n) (λ n h. number_digit 0 n h ∙ (let e : 10 * 0 + n ≡ n = omega arith in e))
    (λ n ds ten is. number_push 0 (n % 10) ds (omega arith) ∙ (let e : 10 * number_from 0 ds + n % 10 ≡ n = omega arith in e))

-- after the digits before them, the last digits give the whole number
pub number_last : (w n : ℕ) → number_from (n / 10 ^ w) (last_digits w n) ≡ n
unfolding number_from last_digits
number_last zero n = omega arith
number_last (suc w) n =
    let d : n / 10 ^ suc w ≡ n / 10 / 10 ^ w = ap (λ (m : ℕ). n / m) (pow-suc 10 w ∙ mul_comm (10 ^ w) 10) ∙ sym (div-div-eq-div-mul n 10 (10 ^ w)) in
    let p = number_push (n / 10 ^ suc w) (n % 10) (last_digits w (n / 10)) (omega arith) in
    let i : number_from (n / 10 ^ suc w) (last_digits w (n / 10)) ≡ n / 10 = rw d (number_last w (n / 10)) in
    omega arith

-- ---- counts
pub count_number : (w n : ℕ) (text : List ℕ) → w ≤ 18 → CountIn w n text → number_in text ≡ n
unfolding number_in
count_number w n text few h =
    let small : n < 10 ^ 18 = omega (arith, pow_ten_le w 18 few, h.0) in
    ap (number_from 0) h.1 ∙ number_blanks 0 (w - length (decimal n)) (decimal n) ∙ number_decimal n (omega arith)

pub is_count_lem : (w n : ℕ) (text : List ℕ) → w ≤ 18 → CountIn w n text → is_count w text ≡ true
unfolding is_count
is_count_lem w n text few h =
    let e = count_number w n text few h in
    rw e (and_from _ _ (lt-ltb n (10 ^ w) h.0) ((bytes_eq-Decides text (count_text_of w n)).1 h.1))

pub count_in : (w : ℕ) (text : List ℕ) → is_count w text ≡ true → CountIn w (number_in text) text
unfolding is_count
count_in w text h =
    let p = and_parts (ltb (number_in text) (10 ^ w)) (bytes_eq text (count_text_of w (number_in text))) h in
    (ltb-true (number_in text) (10 ^ w) p.0, (bytes_eq-Decides text (count_text_of w (number_in text))).0 p.1)

pub is_not_count : (w : ℕ) (text : List ℕ) → ((n : ℕ) → CountIn w n text → ⊥) → is_count w text ≡ false
is_not_count w text never = elim (cases_Bool (is_count w text)) [ inl e ↦ absurd (never (number_in text) (count_in w text e)) | inr e ↦ e ]

-- ---- a byte that is no digit
pub digits_without : (c : ℕ) (ds : List ℕ) → c < 48 → AllDigits 10 ds → AllByRecursion (λ b. b ≡ c → ⊥) ds
digits_without c [] low all = tt
digits_without c (d ∷ ds) low all = (λ e. omega (arith, digit_from_value d all.0), digits_without c ds low all.1)

pub decimal_without : (c n : ℕ) → c < 48 → n < 2 ^ 64 → AllByRecursion (λ b. b ≡ c → ⊥) (decimal n)
decimal_without c n low small = digits_without c (decimal n) low (decimal_is_IsNumeral n small).0.1

pub blanks_without : (c k : ℕ) → (32 ≡ c → ⊥) → AllByRecursion (λ b. b ≡ c → ⊥) (replicate k 32)
blanks_without c zero other = tt
blanks_without c (suc k) other = (other, blanks_without c k other)

pub count_one_line : (w n : ℕ) (text : List ℕ) → w ≤ 18 → CountIn w n text → AllByRecursion (λ b. b ≡ 10 → ⊥) text
count_one_line w n text few h =
    let small : n < 10 ^ 18 = omega (arith, pow_ten_le w 18 few, h.0) in
    rw h.1 (All-append (λ b. b ≡ 10 → ⊥) _ (decimal n) (blanks_without 10 (w - length (decimal n)) (λ e. omega arith)) (decimal_without 10 n (omega arith) (omega arith)))

-- The last digits of a number.
use Rattle.std.proofs.Common.{◌≡◌, ℕ, zero, suc, ◌+◌, ◌-◌, ◌/◌, ◌%◌, ◌^◌, ◌<◌, ◌≤◌, List, [], ◌∷◌, ◌++◌, length, get_or, take, drop, set, decimal, sym, refl, ap, ◌∙◌, add-suc, pow-suc, add-one, arith, take-suc}
use Rattle.std.specs.Str.Parse.{AllDigits, digits_value}
use Rattle.std.specs.Char.{digit_value}
use Rattle.std.proofs.lemmas.Fmt.{decimal_is_IsNumeral}
use Rattle.std.proofs.lemmas.Int.Digits.{digits_push, digits_value_push}
use Rattle.std.proofs.lemmas.List.{append_assoc, append-nil, drop_all, drop-append-le, drop-set, length_push, take_all}
use Rattle.std.proofs.lemmas.Str.Parse.{digit_at}
use Rattle.std.proofs.lemmas.Bool.Decides.{nat_tests}
use Rattle.count_text.specs.Columns.{last_digits}

last_none : (n : ℕ) → last_digits 0 n ≡ []
unfolding last_digits
last_none n = refl

last_more : (w n : ℕ) → last_digits (w + 1) n ≡ last_digits w (n / 10) ++ (48 + n % 10) ∷ []
unfolding last_digits
last_more w n = rw add-one

-- ---- written from the right: the digits that are left to write stand before those from `at` on
pub all_left : (n : ℕ) (out : List ℕ) → last_digits (length out) n ≡ last_digits (length out) n ++ drop (length out) out
all_left n out = let d = drop_all (length out) out (omega arith) in let a = append-nil (last_digits (length out) n) in cc

pub one_less_left :
    (all : List ℕ) (rest at : ℕ) (out : List ℕ) → all ≡ last_digits at rest ++ drop at out → 0 < at → at ≤ length out →
    all ≡ last_digits (at - 1) (rest / 10) ++ drop (at - 1) (set out (at - 1) (48 + rest % 10))
one_less_left all rest at out is some le =
    let e : at - 1 + 1 ≡ at = omega arith in
    let m = last_more (at - 1) rest in
    let d = drop-set out (at - 1) (48 + rest % 10) (omega arith) in
    let a = append_assoc (last_digits (at - 1) (rest / 10)) ((48 + rest % 10) ∷ []) (drop at out) in
    cc

pub all_written : (all : List ℕ) (rest at : ℕ) (out : List ℕ) → all ≡ last_digits at rest ++ drop at out → at ≤ 0 → out ≡ all
all_written all rest at out is le = let z : at ≡ 0 = omega arith in let e = rw (z, last_none) at is in sym e

-- ---- their number, their value and their form
pub length_last : (w n : ℕ) → length (last_digits w n) ≡ w
unfolding last_digits
length_last zero n = refl
length_last (suc w) n = length_push _ _ ∙ ap (λ (k : ℕ). k + 1) (length_last w (n / 10)) ∙ add-one w

pub digit_value_is : (b : ℕ) → 48 ≤ b → b ≤ 57 → digit_value b ≡ b - 48
digit_value_is b low high = grind (arith, nat_tests)

pub last_are_digits : (w n : ℕ) → AllDigits 10 (last_digits w n)
unfolding last_digits
last_are_digits zero n = tt
last_are_digits (suc w) n = digits_push 10 _ (48 + n % 10) (last_are_digits w (n / 10)) (omega (arith, digit_value_is (48 + n % 10) (omega arith) (omega arith)))

tenth_lt : (w n : ℕ) → n < 10 ^ suc w → n / 10 < 10 ^ w
tenth_lt w n h = omega (arith, pow-suc 10 w)

pub value_last : (w n : ℕ) → n < 10 ^ w → digits_value 10 (last_digits w n) ≡ n
unfolding last_digits
value_last zero n h = omega arith
value_last (suc w) n h =
    let d = digit_value_is (48 + n % 10) (omega arith) (omega arith) in
    omega (arith, digits_value_push 10 (last_digits w (n / 10)) (48 + n % 10), value_last w (n / 10) (tenth_lt w n h))

-- ---- digits are the last ones of their value
front_is_last : (ds : List ℕ) → AllDigits 10 ds → (i : ℕ) → i ≤ length ds → take i ds ≡ last_digits i (digits_value 10 (take i ds))
unfolding last_digits
front_is_last ds all zero h = refl
front_is_last ds all (suc i) h =
    let b = digit_at ds i all h in
    let d = digit_value_is (get_or ds i 0) b.0 b.1 in
    let t : take (suc i) ds ≡ take i ds ++ get_or ds i 0 ∷ [] = take-suc ds i 0 h in
    let v = ap (digits_value 10) t ∙ digits_value_push 10 (take i ds) (get_or ds i 0) in
    let q : digits_value 10 (take (suc i) ds) / 10 ≡ digits_value 10 (take i ds) = omega arith in
    let r : 48 + digits_value 10 (take (suc i) ds) % 10 ≡ get_or ds i 0 = omega arith in
    rw (q, r) (t ∙ ap (λ (xs : List ℕ). xs ++ get_or ds i 0 ∷ []) (front_is_last ds all i (omega arith)))

pub digits_are_last : (ds : List ℕ) → AllDigits 10 ds → ds ≡ last_digits (length ds) (digits_value 10 ds)
digits_are_last ds all = rw (take_all (length ds) ds (omega arith)) at (front_is_last ds all (length ds) (omega arith))

pub decimal_is_last : (n : ℕ) → n < 2 ^ 64 → decimal n ≡ last_digits (length (decimal n)) n
decimal_is_last n h = let d = decimal_is_IsNumeral n h in rw d.1 at (digits_are_last (decimal n) d.0.1)

-- ---- with zeros before it, a number ends in its digits
drop_last : (k d n : ℕ) → drop k (last_digits (k + d) n) ≡ last_digits d n
unfolding last_digits
drop_last k zero n = drop_all k (last_digits (k + 0) n) (omega (arith, length_last (k + 0) n))
drop_last k (suc d) n =
    let a = drop-append-le k (last_digits (k + d) (n / 10)) ((48 + n % 10) ∷ []) (omega (arith, length_last (k + d) (n / 10))) in
    rw add-suc (a ∙ ap (λ (xs : List ℕ). xs ++ (48 + n % 10) ∷ []) (drop_last k d (n / 10)))

pub decimal_ends : (w n : ℕ) → n < 2 ^ 64 → length (decimal n) ≤ w → drop (w - length (decimal n)) (last_digits w n) ≡ decimal n
decimal_ends w n small le =
    let e : w - length (decimal n) + length (decimal n) ≡ w = omega arith in
    (rw e at (drop_last (w - length (decimal n)) (length (decimal n)) n)) ∙ sym (decimal_is_last n small)

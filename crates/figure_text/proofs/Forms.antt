-- The text of a figure gives the figure, and is known by it.
use Rattle.std.proofs.Common.{◌≡◌, ℕ, zero, suc, ◌-◌, ◌/◌, ◌^◌, ◌<◌, true, false, ltb, List, [], ◌∷◌, ◌++◌, length, replicate, ℤ, pos, negsuc, neg_ℤ, nat_abs, decimal, refl, ap, ◌∙◌, arith}
use Rattle.std.specs.List.{AllByRecursion}
use Rattle.std.proofs.ByRecursion.{All-append}
use Rattle.std.proofs.lemmas.List.Elements.{All-tail}
use Rattle.std.proofs.lemmas.Bool.{and_from, and_parts, cond-false, cond-true, false_from_ne_true, lt-ltb, ltb-true, ne_eqb, or_from}
use Rattle.count_text.specs.Columns.{last_digits}
use Rattle.std.specs.Str.{bytes_eq}
use Rattle.std.proofs.lemmas.Slice.Eq.{bytes_eq-Decides}
use Rattle.count_text.specs.Forms.{number_from, number_in}
use Rattle.count_text.proofs.Forms.{number_append, number_blanks, number_decimal, number_last, digits_without, decimal_without, blanks_without}
use Rattle.count_text.proofs.LastDigits.{last_are_digits}
use Rattle.figure_text.specs.Figures.{size_text, signed_text, figure_text_of, FigureIn}
use Rattle.figure_text.specs.Forms.{has_minus, figure_in, is_figure}
use Rattle.figure_text.specs.Rows.{Writable, row_text}

-- ---- the number that a text gives
number_size : (n : ℕ) → n < 10 ^ 18 → number_from 0 (size_text n) ≡ n
unfolding number_from
number_size n small =
    number_append (decimal (n / 10 ^ 10)) (46 ∷ last_digits 10 n) 0 ∙ ap (λ (a : ℕ). number_from a (last_digits 10 n)) (number_decimal (n / 10 ^ 10) (omega arith)) ∙ number_last 10 n

number_signed : (x : ℤ) → nat_abs x < 10 ^ 18 → number_from 0 (signed_text x) ≡ nat_abs x
unfolding number_from
number_signed (pos n) small = number_size n small
number_signed (negsuc n) small = number_size (suc n) small

number_figure : (x : ℤ) → nat_abs x < 10 ^ 18 → number_in (figure_text_of x) ≡ nat_abs x
unfolding number_in
number_figure x small = number_blanks 0 (20 - length (signed_text x)) (signed_text x) ∙ number_signed x small

-- ---- bytes that stand in no figure
size_without : (c n : ℕ) → c < 46 → n < 10 ^ 18 → AllByRecursion (λ b. b ≡ c → ⊥) (size_text n)
size_without c n low small =
    All-append (λ b. b ≡ c → ⊥) (decimal (n / 10 ^ 10)) (46 ∷ last_digits 10 n) (decimal_without c (n / 10 ^ 10) (omega arith) (omega arith))
    (λ e. omega arith, digits_without c (last_digits 10 n) (omega arith) (last_are_digits 10 n))

signed_one_line : (x : ℤ) → nat_abs x < 10 ^ 18 → AllByRecursion (λ b. b ≡ 10 → ⊥) (signed_text x)
signed_one_line (pos n) small = size_without 10 n (omega arith) small
signed_one_line (negsuc n) small = (λ e. omega arith, size_without 10 (suc n) (omega arith) small)

figure_text_one_line : (x : ℤ) → nat_abs x < 10 ^ 18 → AllByRecursion (λ b. b ≡ 10 → ⊥) (figure_text_of x)
figure_text_one_line x small = All-append (λ b. b ≡ 10 → ⊥) _ (signed_text x) (blanks_without 10 (20 - length (signed_text x)) (λ e. omega arith)) (signed_one_line x small)

pub figure_one_line : (x : ℤ) (text : List ℕ) → FigureIn x text → AllByRecursion (λ b. b ≡ 10 → ⊥) text
figure_one_line x text h = rw h.1 (figure_text_one_line x h.0)

pub row_one_line : (xs : List ℤ) → Writable xs → AllByRecursion (λ b. b ≡ 10 → ⊥) (row_text xs)
row_one_line [] all = tt
row_one_line (x ∷ xs) all =
    All-append (λ b. b ≡ 10 → ⊥) (figure_text_of x) (row_text xs) (figure_text_one_line x (all 0 (pos 0) (omega arith))) (row_one_line xs (All-tail (λ y. nat_abs y < 10 ^ 18) x xs all))

-- ---- the minus
no_minus : (text : List ℕ) → AllByRecursion (λ b. b ≡ 45 → ⊥) text → has_minus text ≡ false
unfolding has_minus
no_minus [] all = refl
no_minus (b ∷ bs) all = or_from _ _ (ne_eqb b 45 all.0) (no_minus bs all.1)

minus_behind_blanks : (k : ℕ) (rest : List ℕ) → has_minus (replicate k 32 ++ 45 ∷ rest) ≡ true
unfolding has_minus
minus_behind_blanks zero rest = refl
minus_behind_blanks (suc k) rest = minus_behind_blanks k rest

-- ---- figures
figure_text_number : (x : ℤ) → nat_abs x < 10 ^ 18 → figure_in (figure_text_of x) ≡ x
unfolding figure_in
figure_text_number (pos n) small =
    let k = 20 - length (size_text n) in
    let none = no_minus (figure_text_of (pos n)) (All-append (λ b. b ≡ 45 → ⊥) _ (size_text n) (blanks_without 45 k (λ e. omega arith)) (size_without 45 n (omega arith) small)) in
    cond-false _ _ _ none ∙ ap pos (number_figure (pos n) small)
figure_text_number (negsuc n) small =
    let has = minus_behind_blanks (20 - length (signed_text (negsuc n))) (size_text (suc n)) in
    cond-true _ _ _ has ∙ ap (λ (m : ℕ). neg_ℤ (pos m)) (number_figure (negsuc n) small)

pub figure_number : (x : ℤ) (text : List ℕ) → FigureIn x text → figure_in text ≡ x
figure_number x text h = ap figure_in h.1 ∙ figure_text_number x h.0

pub is_figure_lem : (x : ℤ) (text : List ℕ) → FigureIn x text → is_figure text ≡ true
unfolding is_figure
is_figure_lem x text h =
    let e = figure_number x text h in
    rw e (and_from _ _ (lt-ltb (nat_abs x) (10 ^ 18) h.0) ((bytes_eq-Decides text (figure_text_of x)).1 h.1))

pub figure_in_lem : (text : List ℕ) → is_figure text ≡ true → FigureIn (figure_in text) text
unfolding is_figure
figure_in_lem text h =
    let p = and_parts (ltb (nat_abs (figure_in text)) (10 ^ 18)) (bytes_eq text (figure_text_of (figure_in text))) h in
    (ltb-true (nat_abs (figure_in text)) (10 ^ 18) p.0, (bytes_eq-Decides text (figure_text_of (figure_in text))).0 p.1)

pub is_not_figure : (text : List ℕ) → ((x : ℤ) → FigureIn x text → ⊥) → is_figure text ≡ false
is_not_figure text never = false_from_ne_true (is_figure text) (λ e. never (figure_in text) (figure_in_lem text e))

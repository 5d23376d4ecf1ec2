-- What stands before the point.
use Rattle.std.proofs.Common.{◌≡◌, ℕ, suc, ◌+◌, ◌-◌, ◌/◌, ◌^◌, ◌<◌, ◌≤◌, true, false, List, [], ◌∷◌, ◌++◌, length, get_or, take, drop, set, replicate, ℤ, pos, negsuc, nat_abs, decimal, sym, refl, ap, ◌∙◌, arith}
use borrow.Rule.Slice.PartMut.{put_mid}
use lib.Signed.{lt_z}
use Rattle.std.proofs.lemmas.Fmt.{decimal_nonempty, length-decimal-le}
use Rattle.std.proofs.lemmas.List.{append_assoc, append-nil, drop_all, get_or_append_left, length-append, length-drop, length-replicate, length-take-le, replicate_more, set_at}
use Rattle.std.proofs.lemmas.Bool.{false≢true, ltb-true}
use Rattle.count_text.specs.Columns.{at_right, count_text_of, last_digits, count_refusal, bytes_after}
use Rattle.count_text.proofs.Decimals.{first_is_digit}
use Rattle.count_text.proofs.LastDigits.{length_last}
use Rattle.count_text.proofs.Columns.{not_refused, length-at_right, same_blanks}
use Rattle.figure_text.proofs.Parts.{put_to, set_next}
use Rattle.figure_text.specs.Figures.{mark, size_text, whole_text, figure_text_of}

mark_none : (x : ℤ) → lt_z x (pos 0) ≡ false → mark x ≡ []
mark_none (pos n) e = refl
mark_none (negsuc n) e = absurd (false≢true (sym e))

mark_minus : (x : ℤ) → lt_z x (pos 0) ≡ true → mark x ≡ 45 ∷ []
mark_minus (pos n) e = absurd (let q : ⊥ = omega (arith, ltb-true n 0 e) in q)
mark_minus (negsuc n) e = refl

-- a minus over the last blank
minus_over_blank : (w : ℕ) (ds rest : List ℕ) → length ds < w → set (at_right w ds ++ rest) (w - length ds - 1) 45 ≡ at_right w (45 ∷ ds) ++ rest
minus_over_blank w ds rest h =
    let b = replicate {A = ℕ} (w - length ds - 1) 32 in
    let k : w - length ds ≡ w - length ds - 1 + 1 = omega arith in
    let j : w - suc (length ds) ≡ w - length ds - 1 = omega arith in
    let r : replicate {A = ℕ} (w - length ds) 32 ≡ b ++ 32 ∷ [] = ap (λ (n : ℕ). replicate {A = ℕ} n 32) k ∙ sym (replicate_more (w - length ds - 1) 32) in
    let s = set_at b 32 (ds ++ rest) 45 (w - length ds - 1) (length-replicate (w - length ds - 1) 32) in
    rw (r, j) (simp append_assoc s)

-- a whole of n is written in nine columns
module _
    (n : ℕ) (small : n < 10 ^ 8) (old new : List ℕ) (room : 9 ≤ length old) (written : new ≡ bytes_after (count_refusal 9 n (length old)) (count_text_of 9 n) old)
  where
    digits_le : length (decimal n) ≤ 8
    digits_le = length-decimal-le 8 n (omega arith) small (omega arith)

    count_written_first : new ≡ count_text_of 9 n ++ drop 9 old
    count_written_first =
        let e = not_refused n (10 ^ 9) 9 (length old) (omega arith) room in
        let l = length-at_right 9 (decimal n) (omega (arith, digits_le)) in
        rw (e, l) at written

    -- a column is left for the minus of a negative figure
    pub first_is_blank : get_or new 0 0 ≡ 32
    first_is_blank = let k : 9 - length (decimal n) ≡ suc (8 - length (decimal n)) = omega (arith, digits_le) in rw (count_written_first, k)

    -- the blanks before it
    module _ (b : ℕ) (le : b ≤ length new) (front : take b new ≡ replicate b 32) (next : get_or new b 0 ≡ 32 → ⊥) where
      blanks_are : b ≡ 9 - length (decimal n)
      blanks_are =
          let d = get_or_append_left (decimal n) (drop 9 old) 0 0 (decimal_nonempty n (omega arith)) in
          same_blanks new b le front next (9 - length (decimal n)) (decimal n ++ drop 9 old) (λ e. omega (arith, first_is_digit n (omega arith)))
          (count_written_first ∙ append_assoc _ (decimal n) (drop 9 old))

      -- so there is one
      pub some_blank : 0 < b
      some_blank = omega (arith, blanks_are, digits_le)

      pub negative_whole_written : (x : ℤ) → lt_z x (pos 0) ≡ true → n ≡ nat_abs x / 10 ^ 10 → set new (b - 1) 45 ≡ whole_text x ++ drop 9 old
      negative_whole_written x e is = rw (count_written_first, blanks_are, mark_minus x e, ← is) (minus_over_blank 9 (decimal n) (drop 9 old) (omega (arith, digits_le)))

    pub positive_whole_written : (x : ℤ) → lt_z x (pos 0) ≡ false → n ≡ nat_abs x / 10 ^ 10 → new ≡ whole_text x ++ drop 9 old
    positive_whole_written x e is = rw (mark_none x e, ← is) count_written_first

length-mark-le : (x : ℤ) → length (mark x) ≤ 1
length-mark-le (pos n) = omega arith
length-mark-le (negsuc n) = omega arith

-- the wholes, the point and the decimals
module _ (x : ℤ) (small : nat_abs x < 10 ^ 18) where
  length_signed_whole_le : length (mark x ++ decimal (nat_abs x / 10 ^ 10)) ≤ 9
  length_signed_whole_le =
      let d = length-decimal-le 8 (nat_abs x / 10 ^ 10) (omega arith) (omega arith) (omega arith) in
      omega (arith, length-mark-le x, length-append (mark x) (decimal (nat_abs x / 10 ^ 10)))

  length_whole : length (whole_text x) ≡ 9
  length_whole = length-at_right 9 (mark x ++ decimal (nat_abs x / 10 ^ 10)) length_signed_whole_le

  -- nine columns before the point and ten behind it are the 20 columns
  figure_is_parts : figure_text_of x ≡ whole_text x ++ 46 ∷ last_digits 10 (nat_abs x)
  figure_is_parts =
      let m = mark x in
      let d = decimal (nat_abs x / 10 ^ 10) in
      let l = last_digits 10 (nat_abs x) in
      let a = length-append m (size_text (nat_abs x)) in
      let b = length-append m d in
      let c = length-append d (46 ∷ l) in
      let e : 20 - length (m ++ (d ++ 46 ∷ l)) ≡ 9 - length (m ++ d) = omega (arith, length_last 10 (nat_abs x)) in
      rw e (simp append_assoc)

  pub length_figure : length (figure_text_of x) ≡ 20
  length_figure = ap length figure_is_parts ∙ length-append (whole_text x) (46 ∷ last_digits 10 (nat_abs x)) ∙ (let l = length_last 10 (nat_abs x) in omega (arith, length_whole))

  -- over the whole of the columns
  module _ (old new digits : List ℕ) (long : length old ≡ 20) (whole : new ≡ whole_text x ++ drop 9 old) where
    point_written : set new 9 46 ≡ (whole_text x ++ 46 ∷ []) ++ drop 10 old
    point_written = set_next (whole_text x) old new 9 length_whole whole 46 (omega arith)

    length_pointed : length (whole_text x ++ 46 ∷ []) ≡ 10
    length_pointed = length-append (whole_text x) (46 ∷ []) ∙ ap (λ (k : ℕ). k + 1) length_whole

    columns_left : length (set new 9 46) - 10 ≡ 10
    columns_left =
        let e = ap length point_written ∙ length-append (whole_text x ++ 46 ∷ []) (drop 10 old) in
        omega (arith, length_pointed, length-drop 10 old)

    pub figure_written :
        (s : ℕ) → s ≡ nat_abs x → digits ≡ last_digits (length (take (length (set new 9 46) - 10) (drop 10 (set new 9 46)))) s →
        put_mid 10 (length (set new 9 46) - 10) (set new 9 46) digits ≡ figure_text_of x
    figure_written s is written =
        let k = length-take-le (length (set new 9 46) - 10) (drop 10 (set new 9 46)) (omega (arith, length-drop 10 (set new 9 46))) in
        let w : digits ≡ last_digits 10 (nat_abs x) = rw (k, columns_left, is) at written in
        let l = length_last 10 (nat_abs x) in
        let l : length (last_digits 10 (nat_abs x)) ≡ length (set new 9 46) - 10 = omega (arith, length_last 10 (nat_abs x), columns_left) in
        rw (w, put_to (whole_text x ++ 46 ∷ []) old (set new 9 46) 10 length_pointed point_written (length (set new 9 46)) (last_digits 10 (nat_abs x)) (omega (arith, columns_left)) l, figure_is_parts, drop_all (length (set new 9 46)) old (omega (arith, columns_left)), append-nil) (simp append_assoc)
